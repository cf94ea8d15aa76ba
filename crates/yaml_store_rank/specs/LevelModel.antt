-- What is known of the nodes of one height.
use Rattle.std.specs.Prelude.{◌≡◌, ℕ, ◌<◌, ◌≤◌, List, Some, length, slice_index}
use Rattle.std.specs.List.{slice_get}
use Rattle.yaml_definitions.specs.model.Tree.{Tree}
use Rattle.yaml_tree.specs.Numbered.{AgreeBy, Among, NumberedUpto}
use Rattle.yaml_store.specs.declared.nodes.Node.{Node}
use Rattle.yaml_store.specs.StoreModel.{place_of, inside_of}
use Rattle.yaml_store_rank.specs.KeyModel.{Key, key_cmp, Keys, Rises, KeyIs, RanksFit}

-- this number has the rank `r`, and is that of one of the first keys
abbrev pub Told : Keys → ℕ → List ℕ → ℕ → ℕ → Type 0
Told keys end ranks r i = (k : ℕ) × (x : Key × ℕ) × (k < end) × (slice_get keys k ≡ Some x) × (x.1 ≡ i) × (slice_index ranks i ≡ r)

-- The ranks of nodes with keys in order, where the keys compare as these trees do.
pub record InOrder (a : ℕ → Tree) (keys : Keys) (ranks before after : List ℕ) : Type 0 where
  pub numbered : NumberedUpto a (length before) (length keys) keys ranks
  pub below : (k : ℕ) (x : Key × ℕ) → slice_get keys k ≡ Some x → slice_index ranks x.1 < length after
  pub told : (r i : ℕ) → length before ≤ r → slice_get after r ≡ Some i → Told keys (length keys) ranks r i

-- The nodes of the keys are ranked, and no others, and the first node of each new rank is noted.
pub record NumberedOn (keys : Keys) (old new before after : List ℕ) : Type 0 where
  pub long : length new ≡ length old
  pub others : (i : ℕ) → (Among i keys → ⊥) → slice_index new i ≡ slice_index old i
  pub grown : length before ≤ length after
  pub small : length after < 4294967296
  pub kept : (r i : ℕ) → slice_get before r ≡ Some i → slice_get after r ≡ Some i
  pub in_order : (a : ℕ → Tree) → AgreeBy key_cmp a keys → Rises keys → InOrder a keys new before after

-- the ranks of the parts of these nodes leave room for one more in 32 bits
abbrev pub LevelFits : List Node → List ℕ → List ℕ → List (ℕ × ℕ) → List ℕ → Type 0
LevelFits nodes text is es level = (k i : ℕ) (s : Node) → slice_get level k ≡ Some i → slice_get nodes i ≡ Some s → RanksFit (inside_of text is es (place_of s))

-- each key is that of its node
abbrev pub KeysAre : List Node → List ℕ → List ℕ → List (ℕ × ℕ) → List ℕ → Keys → Type 0
KeysAre nodes text is es places keys = (k : ℕ) (x : Key × ℕ) (s : Node) → slice_get keys k ≡ Some x → slice_get nodes x.1 ≡ Some s → KeyIs (slice_index places s.tag) (inside_of text is es (place_of s)) x.0

-- The key of each node of the level.
pub record KeysMade (nodes : List Node) (text is : List ℕ) (es : List (ℕ × ℕ)) (places level : List ℕ) (keys : Keys) : Type 0 where
  pub count : length keys ≡ length level
  pub numbers : (k : ℕ) (x : Key × ℕ) (i : ℕ) → slice_get keys k ≡ Some x → slice_get level k ≡ Some i → x.1 ≡ i
  pub are : KeysAre nodes text is es places keys

-- The keys of the nodes of the level, in order.
pub record KeysSorted (nodes : List Node) (text is : List ℕ) (es : List (ℕ × ℕ)) (places level : List ℕ) (keys : Keys) : Type 0 where
  pub count : length keys ≡ length level
  pub rises : Rises keys
  pub are : KeysAre nodes text is es places keys
  pub sound : (k : ℕ) (x : Key × ℕ) → slice_get keys k ≡ Some x → (j : ℕ) × (slice_get level j ≡ Some x.1)
  pub whole : (j i : ℕ) → slice_get level j ≡ Some i → (k : ℕ) × (x : Key × ℕ) × (slice_get keys k ≡ Some x) × (x.1 ≡ i)

-- The nodes of the level are ranked in the order of their keys, and no others.
pub record LevelNumbered (nodes : List Node) (text is : List ℕ) (es : List (ℕ × ℕ)) (places level old new before after : List ℕ) : Type 0 where
  pub keys : Keys
  pub sorted : KeysSorted nodes text is es places level keys
  pub numbered : NumberedOn keys old new before after
