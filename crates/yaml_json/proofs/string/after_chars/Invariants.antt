use Rattle.std.proofs.Common.{ℕ, List, ◌∷◌, length}
use Rattle.yaml_json.specs.Json.{Chars}
use Rattle.yaml_json.proofs.string.after_chars.Given as goal

abbrev pub invariant-chars : goal.invariant-chars
invariant-chars l =
    record {
      reads : (r : List ℕ) → Chars l.rest r → Chars l.fn.bytes r;
      only : (r : List ℕ) → Chars l.fn.bytes (34 ∷ r) → Chars l.rest (34 ∷ r);
    }

abbrev pub decreases-chars : goal.decreases-chars
decreases-chars l = length l.rest
