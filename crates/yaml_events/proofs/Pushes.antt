-- What stands in a text after something was put at its end, or was not.
use Rattle.std.proofs.Common.{◌≡◌, ℕ, List, Result, Err, ◌∙◌}
use Rattle.std.specs.Prelude.{Ok, is_ok, OnOk, OnErr, if◌then◌else◌}

pub pushed : {T E : Type 0} (r : Result T E) (new all old x : List ℕ) → new ≡ (if is_ok r then all else old) → all ≡ x → OnOk r (new ≡ x)
pushed (Ok u) new all old x e f = e ∙ f
pushed (Err u) new all old x e f = tt

-- a fact that holds at any error
pub at_error : {T E P : Type 0} (r : Result T E) → P → OnErr r P
at_error (Ok u) p = tt
at_error (Err u) p = p
