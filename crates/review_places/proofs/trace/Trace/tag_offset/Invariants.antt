use Rattle.std.proofs.Common.{◌≡◌, ◌<◌, ℕ, Some, slice_get}
use Rattle.review_places.specs.Trace.{IsTagNote}
use Rattle.review_places.specs.declared.trace.Noted.{Noted}
use Rattle.review_places.proofs.trace.Trace.tag_offset.Given as goal

abbrev pub invariant-notes : goal.invariant-notes
invariant-notes l = (k : ℕ) (noted : Noted) (at : ℕ) → k < l.noted-index → slice_get l.noted-items k ≡ Some noted → IsTagNote noted l.text l.event at → ⊥
