-- Equal keys of a store's node, told of the node of the stream that it stands for.
use Rattle.std.proofs.Common.{◌≡◌, ℕ, ◌+◌, ◌≤◌, List, ◌++◌, length, refl, subst, arith, length-append}
use Rattle.std.specs.Prelude.{Some}
use Rattle.std.specs.List.{slice_get}
use Rattle.std.proofs.lemmas.List.{get_or_append_left, get_or-append-add}
use Rattle.yaml_definitions.specs.model.Limits.{height_limit}
use Rattle.yaml_definitions.specs.model.Tree.{Tree, height}
use Rattle.yaml_definitions.specs.model.Serial.{Document}
use Rattle.yaml_text.specs.declared.fault.Fault.{Fault}
use Rattle.yaml_text.specs.declared.fault.Fault.TheVariants as faults
use Rattle.yaml_tree.specs.TreeLists.{AreLow}
use Rattle.yaml_tree.specs.Closing.{stream_trees}
use Rattle.yaml_tree.specs.Numbers.{Numbers}
use Rattle.yaml_tree.specs.FirstRepeat.{IsFirstRepeat}
use Rattle.yaml_tree.proofs.FirstRepeats.{first-repeat}
use Rattle.yaml_store.specs.TextModel.{text_of}
use Rattle.yaml_store.specs.StoreGrows.{Good, tags_of, trees_of}
use Rattle.yaml_store.specs.StoreView.{view_of}
use Rattle.yaml_store_rank.specs.Refused.{RefusesStore}
use Rattle.yaml_store.proofs.Growing.{trees-count}
use Rattle.yaml_tree_builder.specs.BuilderModel.{IsForest, AreForests}
use Rattle.yaml_tree_builder.specs.declared.builder.Forest.{Forest}
use Rattle.yaml_canon.specs.RefusedRanks.{IsInStream, RefusesRanks, RefusesBothRanks}

-- ---- the nodes that a store stands for

closed-keys : (f : Forest) (good : Good f.store) (closed : List Tree) → Numbers (trees_of f.store) f.firsts.items closed → (stored one two node i j : ℕ) → slice_get f.firsts.items stored ≡ Some node → i ≡ one → j ≡ two
    → RefusesStore f.store good (faults.EqualKeys stored one two) → IsFirstRepeat closed node i j
closed-keys f good closed numbered stored one two node i j at first second h =
    let s = f.store in
    let count = trees-count s.nodes.items (text_of s.text) s.items.items s.entries.items (tags_of s) in
    let repeats = first-repeat (view_of s good) (trees_of s) f.firsts.items closed count (λ i l. refl) numbered stored node at h.0.is.within one two h.0.is h.0.before h.1 in
    rw (first, second) repeats

-- ---- a stream

-- what is told of the store is told of the stream
pub in-stream : (ds : List Document) (f : Forest) (is : IsForest ds f) (before after : Fault) → IsInStream f.firsts.items before after → RefusesStore f.store is.good before → RefusesRanks ds after
in-stream ds f is (faults.EqualKeys stored one two) (faults.EqualKeys node i j) w h = record {
  trees = is.trees_are;
  unfolded = is.unfolded;
  low = is.low;
  repeats = closed-keys f is.good (stream_trees ds is.trees_are) is.numbered stored one two node i j w.0 w.1 w.2 h;
}
in-stream ds f is _ (faults.EqualKeys node i j) w h = absurd w
in-stream ds f is before faults.OutOfMemory w h = tt
in-stream ds f is before _ w h = absurd w

-- ---- two streams

low-parts : (ts us : List Tree) → AreLow (ts ++ us) → AreLow ts × AreLow us
low-parts ts us h = (
  λ k d l. subst (λ t. height t ≤ height_limit) (get_or_append_left ts us d k l) (h k d (omega (arith, l, length-append ts us))),
  λ k d l. subst (λ t. height t ≤ height_limit) (get_or-append-add ts us k d) (h (length ts + k) d (omega (arith, l, length-append ts us))),
)

pub in-both : (ds es : List Document) (f : Forest) (is : AreForests ds es f) (before after : Fault) → IsInStream f.firsts.items before after → RefusesStore f.store is.good before → RefusesBothRanks ds es after
in-both ds es f is (faults.EqualKeys stored one two) (faults.EqualKeys node i j) w h =
    let both = is.unfolded in
    let low = low-parts both.lefts both.rights (subst AreLow both.is is.low) in
    record {
      lefts = both.lefts;
      rights = both.rights;
      first_unfolded = both.first;
      second_unfolded = both.second;
      first_low = low.0;
      second_low = low.1;
      repeats = subst (λ closed. IsFirstRepeat closed node i j) both.nodes (closed-keys f is.good is.nodes_are is.numbered stored one two node i j w.0 w.1 w.2 h);
    }
in-both ds es f is _ (faults.EqualKeys node i j) w h = absurd w
in-both ds es f is before faults.OutOfMemory w h = tt
in-both ds es f is before _ w h = absurd w
