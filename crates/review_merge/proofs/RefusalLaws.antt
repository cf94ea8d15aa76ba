-- Why nothing is said of a merge, by what was read and told.
use Rattle.std.proofs.Common.{◌≡◌, ◌∙◌, ℕ, max, List, [], ◌++◌, append_assoc, refl, ap, subst}
use Rattle.yaml_text.specs.declared.counted.Counted.{Counted}
use Rattle.yaml_text.specs.declared.fault.Fault.{Fault}
use Rattle.yaml_text.specs.declared.fault.Fault.TheVariants.{WriteFault}
use Rattle.yaml_text.specs.Writers.{Broken}
use Rattle.yaml_command.specs.Printing.{PrintFails}
use Rattle.std.specs.Prelude.{Option}
use Rattle.std.specs.Option.{unwrap_or}
use Rattle.review_text.specs.declared.options.Form.TheVariants.{Line}
use Rattle.review_files.specs.Told.{TellsFaults}
use Rattle.review_merge.specs.Refusals.{TellsEach, result_name}
use Rattle.review_merge.specs.declared.merge.Names.{Names}
use Rattle.review_merge.specs.declared.merge.Bytes.{Bytes}
use Rattle.review_merge.specs.declared.merge.NoMerge.TheVariants as no

-- ---- what is told of each file

added : (start before after text more : List ℕ) → before ≡ start ++ text → after ≡ before ++ more → after ≡ start ++ (text ++ more)
added start before after text more b a = a ∙ ap (λ (z : List ℕ). z ++ more) b ∙ append_assoc start text more

module _ (names : Names) (bytes : Bytes) (o0 o1 o2 o3 o4 t1 t2 t3 t4 : List ℕ) (s1 s2 s3 s4 s12 s34 s : ℕ) (result : List ℕ) where
  pub told_of_each : o1 ≡ o0 ++ t1 → o2 ≡ o1 ++ t2 → o3 ≡ o2 ++ t3 → o4 ≡ o3 ++ t4
      → TellsFaults Line names.base.now bytes.base.items t1 s1 → TellsFaults Line names.ours.now bytes.ours.items t2 s2 → TellsFaults Line names.theirs.now bytes.theirs.items t3 s3
      → TellsFaults Line result bytes.result.items t4 s4 → result ≡ unwrap_or (result_name names) [] → s12 ≡ max s1 s2 → s34 ≡ max s3 s4 → s ≡ max s12 s34
      → (x : List ℕ) × (o4 ≡ o0 ++ x) × TellsEach names bytes x s
  told_of_each e1 e2 e3 e4 b o t r n m1 m2 m = (
    ((t1 ++ t2) ++ t3) ++ t4,
    added o0 o3 o4 ((t1 ++ t2) ++ t3) t4 (added o0 o2 o3 (t1 ++ t2) t3 (added o0 o1 o2 t1 t2 e1 e2) e3) e4,
    record {
      base = t1;
      ours = t2;
      theirs = t3;
      result = t4;
      one = s1;
      two = s2;
      three = s3;
      four = s4;
      of_base = b;
      of_ours = o;
      of_theirs = t;
      of_result = subst (λ (z : List ℕ). TellsFaults Line z bytes.result.items t4 s4) n r;
      is = refl;
      status_is = m ∙ (λ i. max (m1 i) (m2 i));
    },
  )

-- ---- the output

pub cut_short : {W : Type 0} (contents : W → Option (List ℕ)) (old new : Counted W) (text : List ℕ) (fault : Fault) → PrintFails contents old new text fault
    → (no.Fault fault ≡ no.Fault WriteFault) × ((t : List ℕ) × Broken contents old new t)
cut_short contents old new text WriteFault b = (refl, (text, b))
cut_short contents old new text _ b = absurd b
