-- A text that a writer has whole and does not flush.
use Rattle.std.proofs.Common.{◌≡◌, ℕ, ◌+◌, ◌-◌, ◌^◌, ◌<◌, List, Option, length, sym, ◌∙◌, subst, arith}
use Rattle.std.proofs.Math.Seq.{take-length}
use Rattle.std.specs.Io.KnownBytes.{Appends, Keeps}
use Rattle.yaml_text.specs.Count.{one_more}
use Rattle.yaml_text.specs.CountedModel.{inner_of, faults_of}
use Rattle.yaml_text.specs.Writers.{Broken}
use Rattle.yaml_text.specs.declared.counted.Counted.{Counted}
use Rattle.yaml_spell.specs.Writers.{Sent}
use Rattle.yaml_spell.proofs.Streams.{appends_kept}

one_higher : (n m : ℕ) → n < 2 ^ 64 - 1 → m ≡ n → one_more m ≡ n + 1
one_higher n m h e = omega (arith, h, e)

pub unflushed : {W : Type 0} (contents : W → Option (List ℕ)) (o u v : Counted W) (text : List ℕ) → faults_of o < 2 ^ 64 - 1 → Sent contents o u text → Keeps (contents (inner_of u)) (contents (inner_of v)) → faults_of v ≡ one_more (faults_of u) → Broken contents o v text
unflushed contents o u v text few s k e = record {
  count = length text;
  took = subst (Appends (contents (inner_of o)) (contents (inner_of v))) (sym (take-length text)) (appends_kept _ _ _ text s.took k);
  counted = e ∙ one_higher (faults_of o) (faults_of u) few s.counted;
}
