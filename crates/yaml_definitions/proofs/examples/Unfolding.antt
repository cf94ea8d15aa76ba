-- Aliases put in place (YAML 1.2.2, 3.2.2.2 and 7.1): worked examples, computed.
use Rattle.std.proofs.Common.{◌≡◌, true, List, [], ◌∷◌, refl, Ok, Err}
use Rattle.std.specs.Prelude.{codes}
use Rattle.std.specs.declared.option.Option.TheVariants.{None}
use Rattle.yaml_definitions.specs.model.Tag.{core_tag, int_tag}
use Rattle.yaml_definitions.specs.model.Tree.{Tree}
use Rattle.yaml_definitions.specs.model.Event.{plain, double, full}
use Rattle.yaml_definitions.specs.model.Serial.{SerialNode, scalar_at, sequence_at, flat}
use Rattle.yaml_definitions.specs.model.Core.{undefined_alias, cyclic_alias, wrong_kind, resolve, collection_tag, by_table, by_tag, null_of, is_null, bool_of, int_of, float_of, decimal_of, split_at, content_of, natural_text, int_text}
use Rattle.yaml_definitions.specs.model.Unfold.{Outcome, last_named, unfold_node, trees_from, trees_of}
use Rattle.yaml_definitions.proofs.examples.Build.{str, int, seq, map_of, named, leaf, again, marks, flow_seq, flow_map, bare}

-- the trees of a stream of one document, or the first refusal with its event's number; the node's first event is number 2
unfolded : SerialNode → Outcome (List Tree)
unfolding flat trees_from unfold_node last_named collection_tag resolve by_table by_tag null_of is_null bool_of int_of float_of decimal_of split_at content_of natural_text int_text core_tag
unfolded m = trees_of (bare m ∷ [])

-- `[&x a, *x]`: an alias is the node that carries its name.
alias_is_the_node : unfolded (flow_seq None (leaf (named "x") "a" ∷ again "x" ∷ [])) ≡ Ok (seq (str "a" ∷ str "a" ∷ []) ∷ [])
unfolding unfolded
alias_is_the_node = refl

-- `[&x a, &x b, *x]`: an anchor may be given again, and the last one counts.
last_anchor_counts : unfolded (flow_seq None (leaf (named "x") "a" ∷ leaf (named "x") "b" ∷ again "x" ∷ [])) ≡ Ok (seq (str "a" ∷ str "b" ∷ str "b" ∷ []) ∷ [])
unfolding unfolded
last_anchor_counts = refl

-- `&a [&a x, *a]`: the node that began last before the alias, though the outer one is still open.
inner_anchor_counts : unfolded (flow_seq (named "a") (leaf (named "a") "x" ∷ again "a" ∷ [])) ≡ Ok (seq (str "x" ∷ str "x" ∷ []) ∷ [])
unfolding unfolded
inner_anchor_counts = refl

-- `[&a [&a x], *a]`: it counts also once the outer one is closed.
inner_anchor_stays : unfolded (flow_seq None (flow_seq (named "a") (leaf (named "a") "x" ∷ []) ∷ again "a" ∷ [])) ≡ Ok (seq (seq (str "x" ∷ []) ∷ str "x" ∷ []) ∷ [])
unfolding unfolded
inner_anchor_stays = refl

-- `{&k a : b, c : *k}`: keys carry anchors too, and come before their values.
key_anchor : unfolded (flow_map None ((leaf (named "k") "a", leaf None "b") ∷ (leaf None "c", again "k") ∷ [])) ≡ Ok (map_of ((str "a", str "b") ∷ (str "c", str "a") ∷ []) ∷ [])
unfolding unfolded
key_anchor = refl

-- `{&k a : *k}`
key_as_value : unfolded (flow_map None ((leaf (named "k") "a", again "k") ∷ [])) ≡ Ok (map_of ((str "a", str "a") ∷ []) ∷ [])
unfolding unfolded
key_as_value = refl

-- `[*x]`: no node before it carries the name.
undefined : unfolded (flow_seq None (again "x" ∷ [])) ≡ Err (undefined_alias, 3)
unfolding unfolded
undefined = refl

-- `[*x, &x a]`: one after it does not count.
later_anchor : unfolded (flow_seq None (again "x" ∷ leaf (named "x") "a" ∷ [])) ≡ Err (undefined_alias, 3)
unfolding unfolded
later_anchor = refl

-- `[&x a]` and, in the next document, `*x`: names end with their document (9.1).
names_end_with_the_document : trees_of (bare (flow_seq None (leaf (named "x") "a" ∷ [])) ∷ bare (again "x") ∷ []) ≡ Err (undefined_alias, 7)
unfolding unfolded
names_end_with_the_document = refl

-- `&a [*a]`: the node is still open.
cyclic : unfolded (flow_seq (named "a") (again "a" ∷ [])) ≡ Err (cyclic_alias, 3)
unfolding unfolded
cyclic = refl

-- `[&a x, &a [y, *a]]`: the last node of that name is the open one.
open_node_hides : unfolded (flow_seq None (leaf (named "a") "x" ∷ flow_seq (named "a") (leaf None "y" ∷ again "a" ∷ []) ∷ [])) ≡ Err (cyclic_alias, 6)
unfolding unfolded
open_node_hides = refl

-- Scalars are taken by their tags, and of several refusals the first event's is answered: `[!!int 0x1, *x, !!int x]`.
first_refusal : unfolded (flow_seq None (scalar_at None (full int_tag) plain (codes "0x1") ∷ again "x" ∷ scalar_at None (full int_tag) plain (codes "x") ∷ [])) ≡ Err (undefined_alias, 4)
unfolding unfolded
first_refusal = refl

-- `!!int [*x]`: a collection's tag is judged at its start.
tag_before_items : unfolded (sequence_at None (full int_tag) true (marks (again "x" ∷ []))) ≡ Err (wrong_kind, 2)
unfolding unfolded
tag_before_items = refl

-- `[!!int "0x10", 16]`
taken_by_tag : unfolded (flow_seq None (scalar_at None (full int_tag) double (codes "0x10") ∷ leaf None "16" ∷ [])) ≡ Ok (seq (int "16" ∷ int "16" ∷ []) ∷ [])
unfolding unfolded
taken_by_tag = refl

-- A stream without documents has no trees.
no_documents : trees_of [] ≡ Ok []
unfolding unfolded
no_documents = refl
