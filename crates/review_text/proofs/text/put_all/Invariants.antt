use Rattle.std.proofs.Common.{◌≡◌, ◌++◌, drop, flat_map}
use Rattle.std.specs.String.{string_bytes}
use Rattle.review_text.proofs.text.put_all.Given as goal

abbrev pub invariant-loop-text : goal.invariant-loop-text
invariant-loop-text l = string_bytes l.out ++ flat_map (λ text. text.now) (drop l.text-index l.texts) ≡ string_bytes l.fn.out ++ flat_map (λ text. text.now) l.texts
