-- The order of trees, and trees that are the same: worked examples, computed.
use Rattle.std.proofs.Common.{◌≡◌, true, false, [], ◌∷◌, refl}
use Rattle.std.specs.Prelude.{codes}
use Rattle.std.specs.declared.cmp.Ordering.{Ordering}
use Rattle.std.specs.declared.cmp.Ordering.TheVariants.{Less, Greater}
use Rattle.yaml_definitions.specs.model.Tag.{core_tag}
use Rattle.yaml_definitions.specs.model.Tree.{Tree, scalar, sequence, end, height}
use Rattle.yaml_definitions.specs.model.Order.{tree_cmp, arranged}
use Rattle.yaml_definitions.specs.model.Same.{same, keyed}
use Rattle.yaml_definitions.proofs.examples.Build.{str, int, float, bool, null, seq, map_of}

-- how two trees compare, once their pairs stand in order
compared : Tree → Tree → Ordering
unfolding tree_cmp arranged core_tag
compared t u = tree_cmp (arranged t) (arranged u)

-- ---- height

-- A scalar and an empty collection have height 0, another collection one more than the greatest inside, keys among them.
scalar_height : height (str "x") ≡ 0
scalar_height = refl

empty_height : height (seq []) ≡ 0
empty_height = refl

nested_height : height (seq (str "a" ∷ seq (str "b" ∷ []) ∷ seq [] ∷ [])) ≡ 2
nested_height = refl

key_height : height (map_of ((seq (str "a" ∷ []), str "b") ∷ [])) ≡ 2
key_height = refl

-- ---- what comes first

-- The lower comes first: `b` before `[a]`.
height_first : compared (str "b") (seq (str "a" ∷ [])) ≡ Less
unfolding compared
height_first = refl

-- Of one height, a scalar before an empty sequence, and that before an empty mapping.
kind_next : compared (scalar (codes "z") (codes "z")) (sequence (codes "a") end) ≡ Less
unfolding compared
kind_next = refl

sequence_before_mapping : compared (sequence (codes "z") end) (map_of []) ≡ Less
unfolding compared
sequence_before_mapping = refl

-- Of one kind, by the tag's bytes: bool, float, int, null, str.
tag_next : compared (bool "true") (float "0") ≡ Less
unfolding compared
tag_next = refl

float_before_int : compared (float "9") (int "1") ≡ Less
unfolding compared
float_before_int = refl

int_before_null : compared (int "9") null ≡ Less
unfolding compared
int_before_null = refl

null_before_text : compared null (str "") ≡ Less
unfolding compared
null_before_text = refl

-- Of one tag, by the content's bytes: `10` before `2`.
content_last : compared (int "10") (int "2") ≡ Less
unfolding compared
content_last = refl

-- Items are compared in turn, and a list that begins another comes first; but a higher tree comes after in any case.
items_in_turn : compared (seq (str "a" ∷ str "c" ∷ [])) (seq (str "b" ∷ [])) ≡ Less
unfolding compared
items_in_turn = refl

beginning_first : compared (seq (str "a" ∷ [])) (seq (str "a" ∷ str "a" ∷ [])) ≡ Less
unfolding compared
beginning_first = refl

higher_last : compared (seq (str "a" ∷ seq (str "a" ∷ []) ∷ [])) (seq (str "b" ∷ [])) ≡ Greater
unfolding compared
higher_last = refl

-- Pairs are compared in the order of their keys, each by its key and then by its value.
pairs_in_turn : compared (map_of ((str "b", str "1") ∷ (str "a", str "2") ∷ [])) (map_of ((str "a", str "1") ∷ (str "b", str "9") ∷ [])) ≡ Greater
unfolding compared
pairs_in_turn = refl

key_before_value : compared (map_of ((str "a", str "9") ∷ [])) (map_of ((str "b", str "1") ∷ [])) ≡ Less
unfolding compared
key_before_value = refl

-- ---- pairs in order

-- Keys stand by height, then by kind, tag and content.
keys_in_order : arranged (map_of ((str "b", int "1") ∷ (int "2", str "x") ∷ (null, str "y") ∷ (seq (str "a" ∷ []), str "w") ∷ (bool "true", str "z") ∷ []))
    ≡ map_of ((bool "true", str "z") ∷ (int "2", str "x") ∷ (null, str "y") ∷ (str "b", int "1") ∷ (seq (str "a" ∷ []), str "w") ∷ [])
unfolding tree_cmp arranged core_tag
keys_in_order = refl

-- Mappings inside are put in order first, so that keys are compared in order.
inner_order : arranged (map_of ((map_of ((str "b", null) ∷ (str "a", null) ∷ []), str "x") ∷ (map_of ((str "a", null) ∷ (str "a", null) ∷ []), str "y") ∷ []))
    ≡ map_of ((map_of ((str "a", null) ∷ (str "a", null) ∷ []), str "y") ∷ (map_of ((str "a", null) ∷ (str "b", null) ∷ []), str "x") ∷ [])
unfolding tree_cmp arranged core_tag
inner_order = refl

-- Entries whose keys compare equal keep their order.
equal_keys_stay : arranged (map_of ((str "k", str "2") ∷ (str "j", str "") ∷ (str "k", str "1") ∷ [])) ≡ map_of ((str "j", str "") ∷ (str "k", str "2") ∷ (str "k", str "1") ∷ [])
unfolding tree_cmp arranged core_tag
equal_keys_stay = refl

-- ---- the same

-- Mappings are sets of pairs, and sequences are lists (YAML 1.2.2, 3.2.1).
order_of_keys_is_nothing : same (map_of ((str "b", int "1") ∷ (str "a", int "2") ∷ [])) (map_of ((str "a", int "2") ∷ (str "b", int "1") ∷ [])) ≡ true
unfolding same core_tag
order_of_keys_is_nothing = refl

order_of_items_counts : same (seq (str "a" ∷ str "b" ∷ [])) (seq (str "b" ∷ str "a" ∷ [])) ≡ false
unfolding same core_tag
order_of_items_counts = refl

missing_pair_counts : same (map_of ((str "a", int "1") ∷ [])) (map_of ((str "a", int "1") ∷ (str "b", int "1") ∷ [])) ≡ false
unfolding same core_tag
missing_pair_counts = refl

further_pair_counts : same (map_of ((str "a", int "1") ∷ (str "b", int "1") ∷ [])) (map_of ((str "a", int "1") ∷ [])) ≡ false
unfolding same core_tag
further_pair_counts = refl

-- The tag counts: the int 1, the float 1 and the text 1 are three values, and an empty sequence is no empty mapping.
int_is_no_float : same (int "1") (float "1") ≡ false
unfolding same core_tag
int_is_no_float = refl

int_is_no_text : same (int "1") (str "1") ≡ false
unfolding same core_tag
int_is_no_text = refl

kinds_differ : same (sequence (codes "!x") end) (scalar (codes "!x") []) ≡ false
unfolding same
kinds_differ = refl

-- `.nan` is the same as itself.
nan_is_nan : same (float ".nan") (float ".nan") ≡ true
unfolding same core_tag
nan_is_nan = refl

-- No mapping has two equal keys, at whatever depth; equal keys in two mappings, and equal values, are none.
equal_keys : keyed (seq (map_of ((seq (int "1" ∷ []), str "a") ∷ (str "x", str "b") ∷ (seq (int "1" ∷ []), str "c") ∷ []) ∷ [])) ≡ false
unfolding same core_tag
equal_keys = refl

apart_keys : keyed (map_of ((str "a", map_of ((str "a", str "b") ∷ [])) ∷ (str "b", str "b") ∷ (int "1", null) ∷ (float "1", null) ∷ [])) ≡ true
unfolding same core_tag
apart_keys = refl
