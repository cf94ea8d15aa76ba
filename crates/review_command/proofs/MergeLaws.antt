-- How `merge3` ends.
use Rattle.std.proofs.Common.{◌≡◌, ℕ, ◌≤◌, ◌⊎◌, inl, inr, List, sym, subst}
use Rattle.std.specs.Prelude.{Option, Result, Ok, Err, IfOk, IfErr}
use Rattle.yaml_text.specs.declared.counted.Counted.{Counted}
use Rattle.review_files.specs.Lines.{TakesLine}
use Rattle.review_command.specs.Rejections.{no_merge_line}
use Rattle.review_command.specs.Runs.{MergeNone}
use Rattle.review_merge.specs.Merges.{MergeTells, no_merge_status}
use Rattle.review_merge.specs.Refusals.{MergeRefuses}
use Rattle.review_merge.specs.declared.merge.Names.{Names}
use Rattle.review_merge.specs.declared.merge.NoMerge.{NoMerge}
use Rattle.review_merge.specs.declared.print.Print.{Print}

pub merge_ends : {R W E : Type 0} (holds : List ℕ → Option (List ℕ)) (remaining : R → Option (List ℕ)) (contents : W → Option (List ℕ)) (told : E → Option (List ℕ)) (names : Names) (print : Print) (input end : R) (old new : Counted W) (err after : E) (answer : Result ℕ NoMerge) (status : ℕ)
    → IfOk answer (MergeTells holds remaining contents names print input end old new) → IfErr answer (λ none. 2 ≤ no_merge_status none) → IfErr answer (MergeRefuses holds remaining contents names input end old new)
    → IfOk answer (λ s. status ≡ s) → IfErr answer (λ none. status ≡ no_merge_status none) → IfErr answer (λ none. TakesLine told err after (no_merge_line none))
    → MergeTells holds remaining contents names print input end old new status ⊎ MergeNone holds remaining contents told names input end old new err status
merge_ends holds remaining contents told names print input end old new err after (Ok s) status t r w e f l = inl (subst (MergeTells holds remaining contents names print input end old new) (sym e) t)
merge_ends holds remaining contents told names print input end old new err after (Err none) status t r w e f l = inr (none, w, (f, (after, l)), subst (λ z. 2 ≤ z) (sym f) r)
