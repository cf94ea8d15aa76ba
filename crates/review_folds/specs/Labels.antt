-- What is told of which items moved.
use Rattle.std.specs.Prelude.{◌≡◌, ◌↔◌, ◌<◌, ◌-◌, ℕ, zero, suc, Bool, true, false, nat_lt, cond, map, List, [], ◌∷◌, ◌++◌, Option, Some, None, option_map, codes}
use Rattle.std.specs.Fmt.{decimal}
use Rattle.yaml_definitions.specs.model.Tree.{Tree, scalar, sequence, mapping}
use Rattle.yaml_definitions.specs.model.Same.{same}
use Rattle.yaml_definitions.specs.model.Tag.{str_tag}
use Rattle.yaml_tree.specs.TreeLists.{trees}
use Rattle.yaml_store_rank.specs.Forests as forests
use Rattle.yaml_store_rank.specs.Forests.{Forests, tree, rank, documents_of}
use Rattle.yaml_path.specs.Path.{part_of, at_key}
use Rattle.yaml_path.specs.Ways.{left_place, placed, count}
use Rattle.yaml_diff.specs.declared.difference.Step.{Step}
use Rattle.yaml_diff.specs.declared.difference.Step.TheVariants.{Item, Value}
use Rattle.review_folds.specs.declared.moves.Group.{Group}
use Rattle.review_text.specs.Shown.{shown}
use Rattle.review_text.specs.NodeText.{text_of}
use Rattle.review_folds.specs.declared.keys.Key.{Key}
use Rattle.review_folds.specs.declared.keys.Keys.{Keys}

-- ---- what an item is called

abbrev pub string : List ℕ → Tree
string text = scalar str_tag text

-- the value of a string as a key
abbrev pub value_of : Option Tree → List ℕ → Option Tree
value_of t key = part_of t (at_key (string key))

abbrev pub is_scalar : Tree → Bool
is_scalar (scalar a x) = true
is_scalar (sequence a ts) = false
is_scalar (mapping a ps) = false

abbrev pub if_scalar : Option Tree → Option Tree
if_scalar None = None
if_scalar (Some t) = cond (is_scalar t) (Some t) None

-- words, and a scalar
abbrev pub Name : Type 0
Name = List ℕ × Tree

abbrev pub named : List ℕ → Option Tree → Option Name
named words t = option_map (λ v. (words, v)) (if_scalar t)

abbrev pub or_name : Option Name → Option Name → Option Name
or_name (Some n) other = Some n
or_name None other = other

-- the first of these keys whose value is a scalar, and that scalar
abbrev pub first_name : Option Tree → List (List ℕ) → Option Name
first_name t [] = None
first_name t (key ∷ keys) = or_name (named key (value_of t key)) (first_name t keys)

abbrev pub table : List (List ℕ)
table = codes "name" ∷ codes "id" ∷ codes "key" ∷ codes "alert" ∷ codes "uid" ∷ codes "containerPort" ∷ codes "path" ∷ []

abbrev pub metadata_name : Option Tree → Option Name
metadata_name t = named (codes "metadata.name") (value_of (value_of t (codes "metadata")) (codes "name"))

abbrev pub name_of : Option Tree → Option Name
name_of t = or_name (first_name t table) (metadata_name t)

-- its name or, where it has none, its own text
abbrev pub called : ℕ → Tree → Option Name → List ℕ
called room t None = shown room (text_of t)
called room t (Some n) = n.0 ++ (codes " " ++ shown room (text_of n.1))

-- ---- which items

-- one step down on the left; a key that is no node leads nowhere
abbrev pub left_below : Forests → Option Tree → Step → Option Tree
left_below f t (Item places) = placed t (left_place places)
left_below f t (Value key) = cond (nat_lt key.0 (forests.count f)) (part_of t (at_key (tree f key.0))) None

-- the sequence of the left documents
abbrev pub left_documents : Forests → Tree
left_documents f = sequence [] (trees (map (tree f) (documents_of f 0)))

-- the left tree to which steps lead, the last one first, from the sequence of the left documents on
abbrev pub left_tree : Forests → List Step → Option Tree
left_tree f [] = Some (left_documents f)
left_tree f (s ∷ list) = left_below f (left_tree f list) s

-- ---- labels

-- of a list of which only the order changed how many items it has
abbrev pub words_of : List Step → List ℕ
words_of [] = codes " documents"
words_of (s ∷ list) = codes " items"

abbrev pub order_label : Forests → List Step → List ℕ
order_label f list = decimal (count (left_tree f list)) ++ (words_of list ++ codes " in another order, none changed")

-- how many others there are, if there are some
abbrev pub others_text : ℕ → List ℕ
others_text zero = []
others_text (suc n) = codes " and " ++ (decimal (suc n) ++ codes " more")

-- of neighbours that moved together what the first one is called, and how many others there are
abbrev pub item_label : ℕ → ℕ → Option Tree → Option (List ℕ)
item_label room others None = None
item_label room others (Some t) = Some (called room t (name_of (Some t)) ++ others_text others)

-- of moves, where these steps lead to the first items, the last step first
abbrev pub label : Forests → ℕ → Group → List Step → Option (List ℕ)
label f room group [] = None
label f room group (s ∷ list) = cond group.whole (Some (order_label f list)) (item_label room ((group.end - group.first) - 1) (left_tree f (s ∷ list)))

-- ---- keys by their ranks

-- this is the rank of the nodes that are the same as the tree, if there are any
abbrev pub IsRankOf : Forests → Tree → Option ℕ → Type 0
IsRankOf f x r = (i : ℕ) → i < forests.count f → (same x (tree f i) ≡ true) ↔ (r ≡ Some (rank f i))

pub record IsKey (f : Forests) (text : List ℕ) (key : Key) : Type 0 where
  pub text_is : key.text.now ≡ text
  pub ranked : IsRankOf f (string text) key.rank

-- a key for each text, in order
abbrev pub AreEach : Forests → List (List ℕ) → List Key → Type 0
AreEach f [] [] = Unit {0}
AreEach f (t ∷ ts) (k ∷ ks) = IsKey f t k × AreEach f ts ks
AreEach f _ _ = ⊥

pub record AreKeys (f : Forests) (keys : Keys) : Type 0 where
  pub each : AreEach f table keys.table.items
  pub metadata_is : IsKey f (codes "metadata") keys.metadata
  pub name_is : IsKey f (codes "name") keys.name
