-- What the builder holds, as plain values.
use Rattle.std.specs.Prelude.{◌≡◌, ◌<◌, ℕ, Bool, List, [], ◌∷◌, ◌++◌, length, reverse, Option, Some, None, Result, Ok, IfOk}
use Rattle.std.specs.List.{slice_get}
use Rattle.yaml_definitions.specs.model.Tree.{Tree}
use Rattle.yaml_definitions.specs.model.Event.{Anchor, Event, WrittenTag, sequence_start, sequence_end, mapping_start, mapping_end}
use Rattle.yaml_definitions.specs.model.Serial.{Document}
use Rattle.yaml_definitions.specs.model.Tag.{default_tag}
use Rattle.yaml_definitions.specs.model.Core.{collection_tag}
use Rattle.yaml_definitions.specs.model.Unfold.{Table, trees_of as trees_unfolded}
use Rattle.yaml_tree.specs.ComposerSteps as machine
use Rattle.yaml_tree.specs.Anchors.{names_of, Placed}
use Rattle.yaml_tree.specs.TreeLists.{AreLow}
use Rattle.yaml_tree.specs.Closing.{stream_trees}
use Rattle.yaml_tree.specs.Numbers.{Numbers}
use Rattle.yaml_store.specs.StoreGrows.{tags_of, Good, IsLow, trees_of}
use Rattle.yaml_store.specs.declared.store.Store.{Store}
use Rattle.yaml_store.specs.declared.nodes.Collection.{Collection}
use Rattle.yaml_store.specs.declared.nodes.Collection.TheVariants.{Sequence, Mapping}
use Rattle.yaml_tree_builder.specs.Reached.{UnfoldBoth, UnfoldAll}
use Rattle.yaml_tree_builder.specs.AnchorsModel.{Names}
use Rattle.yaml_tree_builder.specs.FirstsModel.{Counted}
use Rattle.yaml_tree_builder.specs.TagModel.{collection_number, AreCore}
use Rattle.yaml_tree_builder.specs.declared.core_tags.CoreTags.{CoreTags}
use Rattle.yaml_tree_builder.specs.declared.builder.Open.{Open}
use Rattle.yaml_tree_builder.specs.declared.builder.TreeBuilder.{TreeBuilder}
use Rattle.yaml_tree_builder.specs.declared.builder.Forest.{Forest}

-- the nodes of these numbers stand for the trees
abbrev pub AllAt : List Tree → List ℕ → List Tree → Type 0
AllAt ts [] [] = Unit {0}
AllAt ts (i ∷ stack) (u ∷ us) = (slice_get ts i ≡ Some u) × AllAt ts stack us
AllAt ts _ _ = ⊥

-- the same of nodes with anchors, each with its tree once it is whole
abbrev pub SlotAt : List Tree → Option ℕ → Option Tree → Type 0
SlotAt ts None None = Unit {0}
SlotAt ts (Some i) (Some u) = slice_get ts i ≡ Some u
SlotAt ts _ _ = ⊥

abbrev pub TableAt : List Tree → List (Option ℕ) → Table → Type 0
TableAt ts [] [] = Unit {0}
TableAt ts (a ∷ anchored) (o ∷ table) = SlotAt ts a o.1 × TableAt ts anchored table
TableAt ts _ _ = ⊥

-- the whole nodes below the innermost collection's own, the outermost first
abbrev pub below : List machine.Open → List Tree
below [] = []
below (p ∷ ps) = below ps ++ p.before

pub record OpenHolds (tags : List (List ℕ)) (names : List (List ℕ)) (o : Open) (p : machine.Open) (under : List Tree) : Type 0 where
  pub place : Placed names o.place p.anchor p.slot
  pub mark : o.mark ≡ length under
  pub tag : slice_get tags o.tag ≡ Some p.tag

abbrev pub OpensHold : List (List ℕ) → List (List ℕ) → List Open → List machine.Open → Type 0
OpensHold tags names [] [] = Unit {0}
OpensHold tags names (o ∷ os) (p ∷ ps) = OpenHolds tags names o p (below (p ∷ ps)) × OpensHold tags names os ps
OpensHold tags names _ _ = ⊥

-- One stack has the whole nodes of all open collections.
pub record Keeping (tags : List (List ℕ)) (ts : List Tree) (anchored : List (Option ℕ)) (stack : List ℕ) (opens : List Open) (inner : List Tree) (outer : List machine.Open) (table : Table) : Type 0 where
  pub stacked : AllAt ts stack (below outer ++ inner)
  pub opened : OpensHold tags (names_of table) (reverse opens) outer
  pub anchors : TableAt ts anchored table

-- The store is good, and the tags of the core schema have these numbers in it.
pub record Ready (s : Store) (c : CoreTags) : Type 0 where
  pub store : Good s
  pub core : AreCore (tags_of s) c

-- The store is ready, the numbers stand for the state's trees, which may be kept once where they are equal, and the places of the closed ones are known.
pub record Holds (c : TreeBuilder) (s : machine.State) : Type 0 where
  pub good : Ready c.store c.core
  pub names : Names c.anchors (names_of s.table)
  pub keeping : Keeping (tags_of c.store) (trees_of c.store) c.anchored.items c.stack.items c.opens.items s.inner s.outer s.table
  pub counted : Counted (trees_of c.store) c.firsts s.done

-- the builder with another store
abbrev pub with_store : TreeBuilder → Store → TreeBuilder
with_store c store = record c { store = store }

-- the event comes to a state that the builder holds
pub record Stepped (e : Event) (s : machine.State) (c : TreeBuilder) : Type 0 where
  pub state : machine.State
  pub is : machine.step 0 e s ≡ Some (Ok state)
  pub holds : Holds c state

-- A collection of the kind may have this tag as it is written, and then has this one.
abbrev pub HasTag : Collection → WrittenTag → List ℕ → Type 0
HasTag k g tag = collection_tag (collection_number k) g ≡ Ok tag

-- A collection of the kind may have this tag, and this is the tag's number.
pub record IsNumber (k : Collection) (g : WrittenTag) (c : TreeBuilder) (n : ℕ) : Type 0 where
  pub tag : List ℕ
  pub is : collection_tag (collection_number k) g ≡ Ok tag
  pub at : slice_get (tags_of c.store) n ≡ Some tag

abbrev pub start_of : Collection → (flow : Bool) → Anchor → WrittenTag → Event
start_of Sequence flow a g = sequence_start flow a g
start_of Mapping flow a g = mapping_start flow a g

abbrev pub end_of : Collection → Event
end_of Sequence = sequence_end
end_of Mapping = mapping_end

-- From each state in which a node with this anchor was begun, and has this place among the anchored ones, so it is.
abbrev pub FromBegun : TreeBuilder → Option ℕ → (Anchor → machine.State → Type 0) → Type 0
FromBegun old place P = (a : Anchor) (s : machine.State) → Placed (names_of (machine.node_begun a s).table) place a (length s.table) → Holds old (machine.node_begun a s) → P a s

-- a tag as it is written, which stands for the one of this kind of collection
abbrev pub StandsForDefault : Collection → WrittenTag → Type 0
StandsForDefault collection g = collection_tag (collection_number collection) g ≡ Ok (default_tag (collection_number collection))

-- A collection whose node was begun begins, with a tag that stands for the one of its kind.
abbrev pub OpensBare : {X E : Type 0} → Collection → (old : TreeBuilder) → Option ℕ → (new : TreeBuilder) → Result X E → Type 0
OpensBare collection old place new result =
    FromBegun old place (λ a s. (g : WrittenTag) → StandsForDefault collection g → (flow : Bool) → IfOk result (λ _. Stepped (start_of collection flow a g) s new))

-- the documents unfold, no tree is higher than the limit, nor is one that a node of the store stands for, the roots stand for the trees, and the nodes have these places among those of the stream
pub record IsForest (ds : List Document) (f : Forest) : Type 0 where
  pub trees_are : List Tree
  pub unfolded : trees_unfolded ds ≡ Ok trees_are
  pub low : AreLow trees_are
  pub good : Good f.store
  pub level : IsLow f.store
  pub roots : AllAt (trees_of f.store) f.roots.items trees_are
  pub numbered : Numbers (trees_of f.store) f.firsts.items (stream_trees ds trees_are)
  pub few : length (stream_trees ds trees_are) < 4294967296

-- the same of the documents of two streams, the roots and nodes of the first before those of the second
pub record AreForests (ds es : List Document) (f : Forest) : Type 0 where
  pub trees_are : List Tree
  pub nodes_are : List Tree
  pub unfolded : UnfoldBoth ds es trees_are nodes_are
  pub low : AreLow trees_are
  pub good : Good f.store
  pub level : IsLow f.store
  pub roots : AllAt (trees_of f.store) f.roots.items trees_are
  pub numbered : Numbers (trees_of f.store) f.firsts.items nodes_are
  pub few : length nodes_are < 4294967296

-- the same of the documents of any streams, the roots and nodes of each before those of the next
pub record AreStreams (dss : List (List Document)) (f : Forest) : Type 0 where
  pub trees_are : List Tree
  pub nodes_are : List Tree
  pub unfolded : UnfoldAll dss trees_are nodes_are
  pub low : AreLow trees_are
  pub good : Good f.store
  pub level : IsLow f.store
  pub roots : AllAt (trees_of f.store) f.roots.items trees_are
  pub numbered : Numbers (trees_of f.store) f.firsts.items nodes_are
  pub few : length nodes_are < 4294967296
