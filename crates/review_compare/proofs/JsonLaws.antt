-- What the lines of JSON say of sides that mean admitted forests.
use Rattle.std.proofs.Common.{◌≡◌, ℕ, Bool, true, List, sym, subst}
use Rattle.std.specs.Prelude.{◌↔◌}
use Rattle.yaml_definitions.specs.model.Tree.{Tree}
use Rattle.yaml_definitions.specs.model.Same.{Alike}
use Rattle.yaml_definitions.specs.model.Means.{Means}
use Rattle.yaml_canon.specs.Comparing.{Compares}

-- the answer is whether these are alike
pub alike_tells : (left right : List ℕ) (answer : Bool) → Compares left right answer → (f g : List Tree) → Means left f → Means right g → (answer ≡ true) ↔ Alike f g
alike_tells left right answer c f g m n =
    let p = c.first_accepted.only f m in
    let q = c.second_accepted.only g n in
    subst (λ z. (answer ≡ true) ↔ Alike z g) (sym p) (subst (λ z. (answer ≡ true) ↔ Alike c.first z) (sym q) c.tells)
