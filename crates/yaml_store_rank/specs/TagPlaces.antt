-- Places of tags.
use Rattle.std.specs.Borrow.{Bor}
use Rattle.std.specs.Prelude.{◌≡◌, ℕ, ◌<◌, ◌≤◌, true, List, length, slice_index}
use Rattle.std.specs.BTreeSet.{BTreeSet, contains}
use Rattle.std.specs.List.{All, AllZip}
use Rattle.std.specs.Ordering.{nat_cmp}
use Rattle.yaml_definitions.specs.model.Order.{bytes_cmp}
use Rattle.yaml_tree.specs.Tags.{Texts, text_cmp, IsTagAt}
use Rattle.yaml_store.specs.StoreModel.{tag_at}

-- this tag was found
abbrev pub IsFound : BTreeSet (Bor (List ℕ)) → List ℕ → Type 0
IsFound found tag = (t : Bor (List ℕ)) → t.now ≡ tag → contains text_cmp found t ≡ true

-- each tag stands at its place among these texts
abbrev pub PlacesAmong : Texts → List (List ℕ) → List ℕ → Type 0
PlacesAmong ordered tags places = AllZip (λ tag place. IsTagAt ordered place tag) tags places

-- The place of each tag in the order of tags.
pub record PlacesAre (tags : List (List ℕ)) (places : List ℕ) : Type 0 where
  pub long : length tags ≤ length places
  pub small : All (λ p. p < 1073741824) places
  pub agree : (p q : ℕ) → p < length tags → q < length tags → nat_cmp (slice_index places p) (slice_index places q) ≡ bytes_cmp (tag_at tags p) (tag_at tags q)
