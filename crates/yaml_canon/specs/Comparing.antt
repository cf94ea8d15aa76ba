-- What `same` promises.
use Rattle.std.specs.Prelude.{◌≡◌, ◌↔◌, ◌-◌, ℕ, Bool, true, cond, nat_le, List, ◌++◌, length, Ok}
use Rattle.yaml_definitions.specs.model.Same.{Alike}
use Rattle.yaml_definitions.specs.model.Tree.{Tree}
use Rattle.yaml_definitions.specs.model.Serial.{Document}
use Rattle.yaml_definitions.specs.model.Unfold.{trees_of}
use Rattle.yaml_text.specs.declared.fault.Fault.{Fault}
use Rattle.yaml_text.specs.declared.fault.Fault.TheVariants.{EqualKeys, TextTooLong}
use Rattle.yaml_tree.specs.Refused.{RefusesStream}
use Rattle.yaml_tree.specs.TreeLists.{AreLow}
use Rattle.yaml_tree.specs.Closing.{stream_trees}
use Rattle.yaml_tree.specs.FirstRepeat.{IsFirstRepeat}
use Rattle.yaml_text.specs.declared.side.Side.{Side}
use Rattle.yaml_text.specs.declared.side.Side.TheVariants.{Left, Right}
use Rattle.yaml_canon.specs.Claims.{MeansAlone, IsRead, CanonicalRefuses}

-- The two streams are accepted, and the answer is whether they have equally many documents, pairwise the same.
pub record Compares (left right : List ℕ) (answer : Bool) : Type 0 where
  pub first : List Tree
  pub second : List Tree
  pub first_accepted : MeansAlone left first
  pub second_accepted : MeansAlone right second
  pub tells : (answer ≡ true) ↔ Alike first second

-- the side and the fault, where so many nodes are the left side's
abbrev pub side_of_fault : ℕ → Fault → Side × Fault
side_of_fault nodes (EqualKeys node i j) = cond (nat_le nodes node) (Right, EqualKeys (node - nodes) i j) (Left, EqualKeys node i j)
side_of_fault nodes fault = (Left, fault)

-- The documents of both sides unfold, with no tree too high. Of the trees of all their nodes, those of the left side before those of the right one, this is the first mapping with two equal keys, at these two entries first.
pub record AreEqualInBoth (first second : List Document) (node i j : ℕ) : Type 0 where
  pub lefts : List Tree
  pub rights : List Tree
  pub first_unfolded : trees_of first ≡ Ok lefts
  pub second_unfolded : trees_of second ≡ Ok rights
  pub first_low : AreLow lefts
  pub second_low : AreLow rights
  pub repeats : IsFirstRepeat (stream_trees first lefts ++ stream_trees second rights) node i j

-- Such a mapping of both sides is told, with its number on its side.
pub record HasEqualKeys (first second : List Document) (side : Side) (fault : Fault) : Type 0 where
  pub node : ℕ
  pub i : ℕ
  pub j : ℕ
  pub equal : AreEqualInBoth first second node i j
  pub told : (side, fault) ≡ side_of_fault (length (stream_trees first equal.lefts)) (EqualKeys node i j)

-- the documents unfold, and no tree is too high
abbrev pub IsComposable : List Document → Type 0
IsComposable ds = (ts : List Tree) × (trees_of ds ≡ Ok ts) × AreLow ts

-- why the documents of two sides are not compared
abbrev pub RefusesDocuments : List Document → List Document → Side → Fault → Type 0
RefusesDocuments first second side (EqualKeys node i j) = HasEqualKeys first second side (EqualKeys node i j)
RefusesDocuments first second Left fault = RefusesStream first fault
RefusesDocuments first second Right fault = RefusesStream second fault

-- both sides are read as documents with equal keys
abbrev pub ReadWithEqualKeys : List ℕ → List ℕ → Side → Fault → Type 0
ReadWithEqualKeys left right side fault = (ds : List Document) × (es : List Document) × IsRead left ds × IsRead right es × HasEqualKeys ds es side fault

-- the bytes are read as documents that the composer does not refuse
abbrev pub IsComposed : List ℕ → Type 0
IsComposed bytes = (ds : List Document) × IsRead bytes ds × IsComposable ds

-- What a refusal by `same` says. The left side is judged first: where the right one is refused, the left one was composed.
abbrev pub ComparerRefuses : List ℕ → List ℕ → Side → Fault → Type 0
ComparerRefuses left right side (EqualKeys node i j) = ReadWithEqualKeys left right side (EqualKeys node i j)
ComparerRefuses left right side TextTooLong = ⊥
ComparerRefuses left right Left fault = CanonicalRefuses left fault
ComparerRefuses left right Right fault = CanonicalRefuses right fault × IsComposed left
