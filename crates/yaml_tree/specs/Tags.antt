-- Tags in order.
use Rattle.std.specs.Borrow.{Bor}
use Rattle.std.specs.Prelude.{◌≡◌, ℕ, ◌<◌, List, Some}
use Rattle.std.specs.List.{slice_get}
use Rattle.std.specs.declared.cmp.Ordering.TheVariants.{Less}
use Rattle.yaml_definitions.specs.model.Order.{bytes_cmp}

-- texts that the code borrows
abbrev pub Texts : Type 0
Texts = List (Bor (List ℕ))

-- the order of borrowed texts
abbrev pub text_cmp : Bor (List ℕ) → Bor (List ℕ) → Rattle.std.specs.declared.cmp.Ordering.Ordering
text_cmp x y = bytes_cmp x.now y.now

-- this tag stands at this place
abbrev pub IsTagAt : Texts → ℕ → List ℕ → Type 0
IsTagAt tags place tag = (t : Bor (List ℕ)) × (slice_get tags place ≡ Some t) × (t.now ≡ tag)

-- this tag stands somewhere
abbrev pub IsListed : Texts → List ℕ → Type 0
IsListed tags tag = (place : ℕ) × IsTagAt tags place tag

-- each tag is below those after it
abbrev pub TagsRise : Texts → Type 0
TagsRise tags = (j k : ℕ) (x y : Bor (List ℕ)) → j < k → slice_get tags j ≡ Some x → slice_get tags k ≡ Some y → text_cmp x y ≡ Less
