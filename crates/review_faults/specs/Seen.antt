-- What is known of the keys that came, and of the nodes with anchors.
use Rattle.std.specs.Prelude.{◌≡◌, ℕ, List, Option, Some, option_map, take}
use Rattle.std.specs.Borrow.{Bor}
use Rattle.std.specs.BTreeMap.{BTreeMap, get}
use Rattle.std.specs.Cmp.Lexicographic.{slice_cmp}
use Rattle.std.specs.Ordering.{nat_cmp}
use Rattle.std.specs.declared.cmp.Ordering.{Ordering}
use Rattle.yaml_definitions.specs.model.Event.{Event}
use Rattle.review_faults.specs.Keys.{event_form, named, node_of, IsFirst, IsEqualKey}
use Rattle.review_faults.specs.declared.keys.Equals.{Equals}
use Rattle.review_faults.specs.declared.keys.Forms.{Forms}
use Rattle.review_faults.specs.declared.keys.Key.{Key}
use Rattle.review_faults.specs.declared.keys.Keys.{Keys}
use Rattle.review_faults.specs.declared.keys.Reader.{Reader}
use Rattle.review_faults.specs.declared.keys.Reader.TheVariants as readers
use Rattle.review_faults.specs.declared.keys.Seen.{Seen}

abbrev pub forms_of : Option Event → Forms
forms_of node = record { python = event_form readers.Python node; script = event_form readers.JavaScript node }

-- these are what the node of an event is, behind these events
abbrev pub AreForms : List Event → Event → Forms → Type 0
AreForms before e forms = forms ≡ forms_of (node_of before (Some e))

-- Each name has what the node of the last event of these is that bears it.
abbrev pub HoldsNames : List Event → BTreeMap (Bor (List ℕ)) Forms → Type 0
HoldsNames before names = (q : Bor (List ℕ)) → get (λ x y. slice_cmp nat_cmp x.now y.now) names q ≡ option_map (λ e. forms_of (Some e)) (named before q.now)

module _ (cmp : Key → Key → Ordering) where
  -- Each key has the first event before the one of this number at which it begins.
  abbrev pub HoldsKeys : Reader → List Event → ℕ → Seen → Type 0
  HoldsKeys reader events n seen = (key : Key) → IsFirst reader events key n (get cmp seen.firsts key)

  pub record Holds (events : List Event) (n : ℕ) (keys : Keys) : Type 0 where
    pub names : HoldsNames (take n events) keys.named
    pub python : HoldsKeys readers.Python events n keys.python
    pub script : HoldsKeys readers.JavaScript events n keys.script

-- the first keys that are equal to the one at the event of this number
pub record AreEqualKeys (events : List Event) (n : ℕ) (equals : Equals) : Type 0 where
  pub python : IsEqualKey readers.Python events n equals.python
  pub script : IsEqualKey readers.JavaScript events n equals.script
