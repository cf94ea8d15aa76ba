-- Warnings of a file that is shown.
use Rattle.std.proofs.Common.{◌≡◌, inl, inr, ℕ, Bool, ◌==◌, not, List, [], length, ◌∙◌, ap}
use Rattle.yaml_text.specs.declared.fault.Fault.{Fault}
use Rattle.yaml_text.specs.declared.fault.Fault.TheVariants.{OutOfMemory}
use Rattle.review_text.specs.declared.options.Form.TheVariants.{Line}
use Rattle.review_args.specs.declared.words.Format.{Format}
use Rattle.review_args.specs.declared.words.Format.TheVariants.{Yaml, AsRead, Sharing, Json}
use Rattle.review_faults.proofs.WarnLaws.{none_told}
use Rattle.review_faults.specs.Again.{CannotRead}
use Rattle.review_faults.specs.Warned.{ListsWarnings, warnings_text}
use Rattle.review_faults.specs.declared.warn.Warnings.{Warnings}
use Rattle.review_git.specs.ShownFiles.{IsText, Warns}

pub warns : (name bytes text : List ℕ) (warnings : Warnings) (has_one : Bool) → ListsWarnings bytes [] 1000 warnings → text ≡ warnings_text Line name warnings.list.items warnings.whole → has_one ≡ not (length warnings.list.items == 0) → Warns name bytes text has_one
warns name bytes text warnings has_one h t o = record {
  all = h.all;
  list = warnings.list.items;
  first = h.first;
  printed = t ∙ ap (warnings_text Line name warnings.list.items) h.whole;
  one = o ∙ ap not (none_told bytes [] h.all 999 warnings.list.items h.first);
}

-- bytes that are shown have a reading
pub text_memory : (f : Format) (bytes text : List ℕ) (error : Fault) → IsText f bytes text → CannotRead bytes error → error ≡ OutOfMemory
text_memory f bytes text error t (inl e) = e
text_memory Yaml bytes text error t (inr h) = absurd (h t.means.means.events t.means.means.reads)
text_memory AsRead bytes text error t (inr h) = absurd (h t.means.means.events t.means.means.reads)
text_memory Sharing bytes text error t (inr h) = absurd (h t.means.means.events t.means.means.reads)
text_memory Json bytes text error t (inr h) = absurd (h t.alike.bytes_mean.means.events t.alike.bytes_mean.means.reads)
