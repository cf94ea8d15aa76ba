-- Steps of functions that put a text together.
use Rattle.std.proofs.Common.{◌≡◌, ℕ, List, Result, Ok, Err, ◌∙◌}
use Rattle.std.specs.Prelude.{IfOk}

-- the text that is there where all went well is this one too
pub if_ok_to : {A E : Type 0} (r : Result A E) (x y z : List ℕ) → IfOk r (λ _. x ≡ y) → y ≡ z → IfOk r (λ _. x ≡ z)
if_ok_to (Ok a) x y z h e = h ∙ e
if_ok_to (Err f) x y z h e = tt
