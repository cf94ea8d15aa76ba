-- Lines that standard error takes, piece by piece.
use Rattle.std.proofs.Common.{ℕ, List, ◌++◌, Option, take, drop, sym, ◌∙◌, ap}
use Rattle.std.specs.Io.KnownBytes.{Appends, Keeps}
use Rattle.std.proofs.lemmas.List.{append_assoc, take-append-drop}
use Rattle.yaml_spell.proofs.Streams.{appends_kept, appends_more}
use Rattle.review_files.specs.Lines.{TakesLine}

module _ {E : Type 0} (told : E → Option (List ℕ)) where
  -- the writer stops behind so many bytes
  pub takes_some : (old new : E) (text : List ℕ) (count : ℕ) → Appends (told old) (told new) (take count text) → TakesLine told old new text
  takes_some old new text count h = (take count text, drop count text, sym (take-append-drop count text), h)

  -- and takes no more
  pub takes_kept : (old mid new : E) (text : List ℕ) (count : ℕ) → Appends (told old) (told mid) (take count text) → Keeps (told mid) (told new) → TakesLine told old new text
  takes_kept old mid new text count h k = takes_some old new text count (appends_kept _ _ _ (take count text) h k)

  -- it takes the first of two pieces, or some of it
  pub takes_front : (old new : E) (p q : List ℕ) → TakesLine told old new p → TakesLine told old new (p ++ q)
  takes_front old new p q (part, rest, e, h) = (part, rest ++ q, ap (λ z. z ++ q) e ∙ append_assoc part rest q, h)

  -- the first one whole, and the second one or some of it
  pub takes_more : (old mid new : E) (p q : List ℕ) → Appends (told old) (told mid) p → TakesLine told mid new q → TakesLine told old new (p ++ q)
  takes_more old mid new p q h (part, rest, e, k) = (p ++ part, rest, ap (λ z. p ++ z) e ∙ sym (append_assoc p part rest), appends_more _ _ _ p part h k)
