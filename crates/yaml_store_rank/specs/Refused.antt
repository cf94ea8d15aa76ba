-- Which keys of a store are equal.
use Rattle.std.specs.Prelude.{◌≡◌, ◌⊎◌, ℕ, ◌<◌, ◌≤◌}
use Rattle.yaml_text.specs.declared.fault.Fault.{Fault}
use Rattle.yaml_text.specs.declared.fault.Fault.TheVariants.{EqualKeys, OutOfMemory}
use Rattle.yaml_tree.specs.View.{View, Repeats, IsFirst}
use Rattle.yaml_store.specs.declared.store.Store.{Store}
use Rattle.yaml_store.specs.StoreGrows.{Good}
use Rattle.yaml_store.specs.StoreView.{view_of}

-- The first two equal keys of a mapping: the least second entry, then the least first one.
pub record FirstRepeats (v : View) (node first second : ℕ) : Type 0 where
  pub is : Repeats v node first second
  pub before : (f s : ℕ) → Repeats v node f s → (second < s) ⊎ ((second ≡ s) × (first ≤ f))

-- The mapping of least height, then of least number, with two equal keys, and its first two. Memory may be refused at any time.
abbrev pub RefusesView : View → Fault → Type 0
RefusesView v (EqualKeys node first second) = FirstRepeats v node first second × IsFirst v node
RefusesView v OutOfMemory = Unit {0}
RefusesView v _ = ⊥

-- the same, of the nodes of a store
abbrev pub RefusesStore : (s : Store) → Good s → Fault → Type 0
RefusesStore s good = RefusesView (view_of s good)
