-- The order of keys, and the key of a node.
use Rattle.std.specs.Prelude.{◌≡◌, ℕ, ◌+◌, ◌*◌, ◌<◌, List}
use Rattle.std.specs.List.{All}
use Rattle.std.specs.declared.cmp.Ordering.{Ordering}
use Rattle.std.specs.declared.cmp.Ordering.TheVariants.{Less, Greater}
use Rattle.std.specs.Ordering.{ordering_then, nat_cmp}
use Rattle.std.specs.Cmp.Lexicographic.{slice_cmp}
use Rattle.yaml_definitions.specs.model.Order.{bytes_cmp}
use Rattle.yaml_tree.specs.PrefixModel.{IsPrefix, IsRest}
use Rattle.yaml_tree.specs.Numbered.{pair_cmp, RisesBy}
use Rattle.yaml_store_rank.specs.NumberKeys.{joined, four_of, flat}
use Rattle.yaml_tree.specs.View.{Inside, content, items, entries}

-- contents stand before items, and these before entries
abbrev pub inside_cmp : Inside → Inside → Ordering
inside_cmp (content x) (content y) = bytes_cmp x y
inside_cmp (content x) (items y) = Less
inside_cmp (content x) (entries y) = Less
inside_cmp (items x) (content y) = Greater
inside_cmp (items x) (items y) = slice_cmp nat_cmp x y
inside_cmp (items x) (entries y) = Less
inside_cmp (entries x) (content y) = Greater
inside_cmp (entries x) (items y) = Greater
inside_cmp (entries x) (entries y) = slice_cmp pair_cmp x y

-- What nodes of one height are compared by: two numbers, the second in halves of 64 bits, and what is
-- compared where these are equal.
pub record Key : Type 0 where
  pub head : ℕ
  pub high : ℕ
  pub low : ℕ
  pub rest : Inside

-- the numbers, then what they leave
abbrev pub key_cmp : Key → Key → Ordering
key_cmp k l = ordering_then (nat_cmp k.head l.head) (ordering_then (nat_cmp k.high l.high) (ordering_then (nat_cmp k.low l.low) (inside_cmp k.rest l.rest)))

-- The keys of nodes, each with its node's number.
abbrev pub Keys : Type 0
Keys = List (Key × ℕ)

-- no key is below the one before it
abbrev pub Rises : Keys → Type 0
Rises keys = RisesBy key_cmp keys

-- scalars stand before sequences, and these before mappings
abbrev pub kind_number : Inside → ℕ
kind_number (content x) = 0
kind_number (items is) = 1
kind_number (entries es) = 2

-- the ranks of the parts leave room for one more in 32 bits
abbrev pub RanksFit : Inside → Type 0
RanksFit (content x) = Unit {0}
RanksFit (items rs) = All (λ r. r < 4294967295) rs
RanksFit (entries rs) = All (λ p. (p.0 < 4294967295) × (p.1 < 4294967295)) rs

-- the second number tells of what is inside
abbrev pub IsFrontOf : Inside → ℕ → Type 0
IsFrontOf (content x) front = IsPrefix x front
IsFrontOf (items rs) front = front ≡ four_of rs
IsFrontOf (entries rs) front = front ≡ four_of (flat rs)

-- what is compared where the numbers are equal
abbrev pub IsRestOf : Inside → Inside → Type 0
IsRestOf (content x) rest = (r : List ℕ) × (rest ≡ content r) × IsRest x r
IsRestOf (items rs) rest = rest ≡ items rs
IsRestOf (entries rs) rest = rest ≡ entries rs

-- The key of a node whose tag stands at this place and of which this is inside, with ranks for parts.
pub record KeyIs (place : ℕ) (inside : Inside) (key : Key) : Type 0 where
  pub small : place < 1073741824
  pub head : key.head ≡ kind_number inside * 1073741824 + place
  pub low : key.low < 18446744073709551616
  pub front : IsFrontOf inside (joined key.high key.low)
  pub rest : IsRestOf inside key.rest
