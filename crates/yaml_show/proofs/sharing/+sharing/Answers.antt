use Rattle.std.proofs.Common.{◌≡◌, true, false, ◌+◌, ◌*◌, ◌<◌, sym, ◌∙◌, ap, rules, arith}
use Rattle.yaml_definitions.specs.model.Tree.{height, heights, heights_of_pairs}
use Rattle.yaml_spell.specs.NamesView.{given_of}
use Rattle.yaml_spell.specs.RankedNodes.{tree_of, pair_of, trees_of, pairs_of}
use Rattle.yaml_spell.specs.Walked.{given_inside}
use Rattle.yaml_spell.proofs.NamesLaws.{still}
use Rattle.yaml_spell.proofs.ShownLaws.{scalar-shown, sequence-shown, mapping-shown, items-within, entries-within, sequence-high, mapping-high, item-lower, value-lower, item-in}
use Rattle.yaml_spell.proofs.WalkLaws.{drop_item}
use Rattle.yaml_spell.proofs.WriteLaws.{given_alias, given_anchored, given_plain, items_given, items_known, pairs_given, pairs_known}
use Rattle.yaml_spell.specs.declared.names.Opening.TheVariants.{Plain}
use Rattle.yaml_show.specs.Sharing.{inside_lines, made}
use Rattle.yaml_show.proofs.FlowLaws.{seq_own, map_own}
use Rattle.yaml_show.proofs.LayoutLaws.{none_items, some_items, none_entries, some_entries, deep, shallow}
use Rattle.yaml_show.proofs.DraftLaws.{adds_as, adds_then, adds_forgone, left_as, left_next, left_end}
use Rattle.yaml_show.proofs.SharingLaws.{lines_by_alias, lines_by_anchor, lines_by_plain, scalar_inside, no_items_inside, deep_items_inside, items_inside, no_entries_inside, deep_entries_inside, wide_entries_inside, entries_inside, none_items_given, none_entries_given, scalar_given, sequence_given, mapping_given, items_split, items_over, entries_split, entries_over}
use Rattle.yaml_show.proofs.sharing.+sharing.Goals as goal

pub put_node-returns-in-Alias-clause-known : goal.put_node-returns-in-Alias-clause-known
put_node-returns-in-Alias-clause-known g w c =
    let N = g.V.RankedNodes.number in
    let v = c.args.view.now in
    let R = g.V.RankedNodes.rank v in
    let T = g.V.RankedNodes.tree v in
    let t = T (N c.args.id) in
    let p = given_of c.args.names.now in
    let o = c.open_node-opening.ensures.opening in
    let q = c.open_node-opening.ensures.given in
    q ∙ given_alias R t p _ c.in-Alias.number o c.in-Alias.is

pub put_node-returns-in-Alias-clause-adds : goal.put_node-returns-in-Alias-clause-adds
put_node-returns-in-Alias-clause-adds g w c =
    let N = g.V.RankedNodes.number in
    let v = c.args.view.now in
    let R = g.V.RankedNodes.rank v in
    let T = g.V.RankedNodes.tree v in
    let t = T (N c.args.id) in
    let p = given_of c.args.names.now in
    let o = c.open_node-opening.ensures.opening in
    let q = c.open_node-opening.ensures.given in
    adds_as _ _ _ _ (lines_by_alias R c.args.place c.args.level t p _ _ o q c.in-Alias.number c.in-Alias.is) c.put_alias_line.ensures

pub put_node-returns-in-Anchored-clause-known : goal.put_node-returns-in-Anchored-clause-known
put_node-returns-in-Anchored-clause-known g w c =
    let N = g.V.RankedNodes.number in
    let v = c.args.view.now in
    let R = g.V.RankedNodes.rank v in
    let T = g.V.RankedNodes.tree v in
    let t = T (N c.args.id) in
    let p = given_of c.args.names.now in
    let o = c.open_node-opening.ensures.opening in
    let q = c.open_node-opening.ensures.given in
    c.put_inside.ensures.known ∙ ap (given_inside R t) q ∙ given_anchored R t p _ c.in-Anchored.number o c.in-Anchored.is

pub put_node-returns-in-Anchored-clause-adds : goal.put_node-returns-in-Anchored-clause-adds
put_node-returns-in-Anchored-clause-adds g w c =
    let N = g.V.RankedNodes.number in
    let v = c.args.view.now in
    let R = g.V.RankedNodes.rank v in
    let T = g.V.RankedNodes.tree v in
    let t = T (N c.args.id) in
    let p = given_of c.args.names.now in
    let o = c.open_node-opening.ensures.opening in
    let q = c.open_node-opening.ensures.given in
    adds_as _ _ _ _ (lines_by_anchor R c.args.place c.args.level t p _ _ o q c.in-Anchored.number c.in-Anchored.is) (adds_then _ _ _ _ _ c.put_anchor_behind.ensures (adds_as _ _ _ _ (ap (λ z. inside_lines z c.args.level t (made R t Plain (given_of c.open_node-opening.new.names))) c.behind_anchor.ensures) c.put_inside.ensures.adds))

pub put_node-returns-in-Plain-clause-known : goal.put_node-returns-in-Plain-clause-known
put_node-returns-in-Plain-clause-known g w c =
    let N = g.V.RankedNodes.number in
    let v = c.args.view.now in
    let R = g.V.RankedNodes.rank v in
    let T = g.V.RankedNodes.tree v in
    let t = T (N c.args.id) in
    let p = given_of c.args.names.now in
    let o = c.open_node-opening.ensures.opening in
    let q = c.open_node-opening.ensures.given in
    c.put_inside-in-Plain.ensures.known ∙ ap (given_inside R t) q ∙ given_plain R t p _ o c.in-Plain.is

pub put_node-returns-in-Plain-clause-adds : goal.put_node-returns-in-Plain-clause-adds
put_node-returns-in-Plain-clause-adds g w c =
    let N = g.V.RankedNodes.number in
    let v = c.args.view.now in
    let R = g.V.RankedNodes.rank v in
    let T = g.V.RankedNodes.tree v in
    let t = T (N c.args.id) in
    let p = given_of c.args.names.now in
    let o = c.open_node-opening.ensures.opening in
    let q = c.open_node-opening.ensures.given in
    adds_as _ _ _ _ (lines_by_plain R c.args.place c.args.level t p _ _ o q c.in-Plain.is) c.put_inside-in-Plain.ensures.adds

pub put_node-put_inside-requires : goal.put_node-put_inside-requires
put_node-put_inside-requires g w c =
    let N = g.V.RankedNodes.number in
    let v = c.args.view.now in
    let R = g.V.RankedNodes.rank v in
    let T = g.V.RankedNodes.tree v in
    let ready = still c.open_node-opening.new.names c.requires.ready c.open_node-opening.ensures.long in
    let lower : 3 * height (T (N c.args.id)) + 1 < 3 * height (T (N c.args.id)) + 2 = omega arith in
    search rules

pub put_node-put_inside-requires-in-Plain : goal.put_node-put_inside-requires-in-Plain
put_node-put_inside-requires-in-Plain g w c =
    let N = g.V.RankedNodes.number in
    let v = c.args.view.now in
    let R = g.V.RankedNodes.rank v in
    let T = g.V.RankedNodes.tree v in
    let ready = still c.open_node-opening.new.names c.requires.ready c.open_node-opening.ensures.long in
    let lower : 3 * height (T (N c.args.id)) + 1 < 3 * height (T (N c.args.id)) + 2 = omega arith in
    search rules

pub put_inside-returns-in-Scalar-clause-known : goal.put_inside-returns-in-Scalar-clause-known
put_inside-returns-in-Scalar-clause-known g w c =
    let N = g.V.RankedNodes.number in
    let v = c.args.view.now in
    let R = g.V.RankedNodes.rank v in
    let T = g.V.RankedNodes.tree v in
    let t = T (N c.args.id) in
    let p = given_of c.args.names.now in
    let e = scalar-shown N T t _ _ _ c.node-node.ensures.tree c.in-Scalar.is in
    scalar_given R t _ _ p e

pub put_inside-returns-in-Scalar-clause-adds : goal.put_inside-returns-in-Scalar-clause-adds
put_inside-returns-in-Scalar-clause-adds g w c =
    let N = g.V.RankedNodes.number in
    let v = c.args.view.now in
    let R = g.V.RankedNodes.rank v in
    let T = g.V.RankedNodes.tree v in
    let t = T (N c.args.id) in
    let p = given_of c.args.names.now in
    let e = scalar-shown N T t _ _ _ c.node-node.ensures.tree c.in-Scalar.is in
    adds_as _ _ _ _ (scalar_inside R c.args.place c.args.level t _ p _ e) c.put_scalar_node.ensures

pub put_inside-returns-then-is_empty-clause-known : goal.put_inside-returns-then-is_empty-clause-known
put_inside-returns-then-is_empty-clause-known g w c =
    let N = g.V.RankedNodes.number in
    let v = c.args.view.now in
    let R = g.V.RankedNodes.rank v in
    let T = g.V.RankedNodes.tree v in
    let t = T (N c.args.id) in
    let p = given_of c.args.names.now in
    let f = tree_of g.V.RankedNodes.tree N v in
    let xs = c.in-Sequence.items.now in
    let e = sequence-shown N T t _ _ _ c.node-node.ensures.tree c.in-Sequence.is in
    none_items_given R _ p (none_items f xs (sym c.if-is_empty.ensures)) ∙ sequence_given R t _ _ p e

pub put_inside-returns-then-is_empty-clause-adds : goal.put_inside-returns-then-is_empty-clause-adds
put_inside-returns-then-is_empty-clause-adds g w c =
    let N = g.V.RankedNodes.number in
    let v = c.args.view.now in
    let R = g.V.RankedNodes.rank v in
    let T = g.V.RankedNodes.tree v in
    let t = T (N c.args.id) in
    let p = given_of c.args.names.now in
    let f = tree_of g.V.RankedNodes.tree N v in
    let xs = c.in-Sequence.items.now in
    let e = sequence-shown N T t _ _ _ c.node-node.ensures.tree c.in-Sequence.is in
    adds_as _ _ _ _ (no_items_inside R c.args.place c.args.level t _ p _ e _ seq_own (none_items f xs (sym c.if-is_empty.ensures))) c.put_empty.ensures

pub put_inside-returns-then-level-ge-DEEPEST-clause-known : goal.put_inside-returns-then-level-ge-DEEPEST-clause-known
put_inside-returns-then-level-ge-DEEPEST-clause-known g w c =
    let N = g.V.RankedNodes.number in
    let v = c.args.view.now in
    let R = g.V.RankedNodes.rank v in
    let T = g.V.RankedNodes.tree v in
    let t = T (N c.args.id) in
    let p = given_of c.args.names.now in
    let f = tree_of g.V.RankedNodes.tree N v in
    let xs = c.in-Sequence.items.now in
    let e = sequence-shown N T t _ _ _ c.node-node.ensures.tree c.in-Sequence.is in
    c.put_line.ensures.known

pub put_inside-returns-then-level-ge-DEEPEST-clause-adds : goal.put_inside-returns-then-level-ge-DEEPEST-clause-adds
put_inside-returns-then-level-ge-DEEPEST-clause-adds g w c =
    let N = g.V.RankedNodes.number in
    let v = c.args.view.now in
    let R = g.V.RankedNodes.rank v in
    let T = g.V.RankedNodes.tree v in
    let t = T (N c.args.id) in
    let p = given_of c.args.names.now in
    let f = tree_of g.V.RankedNodes.tree N v in
    let xs = c.in-Sequence.items.now in
    let e = sequence-shown N T t _ _ _ c.node-node.ensures.tree c.in-Sequence.is in
    adds_as _ _ _ _ (deep_items_inside R c.args.place c.args.level t _ p _ e (some_items f xs (sym c.if-is_empty.ensures)) (deep c.args.level (omega arith))) c.put_line.ensures.adds

pub put_inside-returns-else-level-ge-DEEPEST-clause-known : goal.put_inside-returns-else-level-ge-DEEPEST-clause-known
put_inside-returns-else-level-ge-DEEPEST-clause-known g w c =
    let N = g.V.RankedNodes.number in
    let v = c.args.view.now in
    let R = g.V.RankedNodes.rank v in
    let T = g.V.RankedNodes.tree v in
    let t = T (N c.args.id) in
    let p = given_of c.args.names.now in
    let f = tree_of g.V.RankedNodes.tree N v in
    let xs = c.in-Sequence.items.now in
    let e = sequence-shown N T t _ _ _ c.node-node.ensures.tree c.in-Sequence.is in
    c.put_items.ensures.known ∙ sequence_given R t _ _ p e

pub put_inside-returns-else-level-ge-DEEPEST-clause-adds : goal.put_inside-returns-else-level-ge-DEEPEST-clause-adds
put_inside-returns-else-level-ge-DEEPEST-clause-adds g w c =
    let N = g.V.RankedNodes.number in
    let v = c.args.view.now in
    let R = g.V.RankedNodes.rank v in
    let T = g.V.RankedNodes.tree v in
    let t = T (N c.args.id) in
    let p = given_of c.args.names.now in
    let f = tree_of g.V.RankedNodes.tree N v in
    let xs = c.in-Sequence.items.now in
    let e = sequence-shown N T t _ _ _ c.node-node.ensures.tree c.in-Sequence.is in
    adds_as _ _ _ _ (items_inside R c.args.place c.args.level t _ p _ e _ _ seq_own (some_items f xs (sym c.if-is_empty.ensures)) (shallow c.args.level (omega arith)) c.goes_on-begun.ensures) (adds_then _ _ _ _ _ c.put_head.ensures c.put_items.ensures.adds)

pub put_inside-returns-then-is_empty-2-clause-known : goal.put_inside-returns-then-is_empty-2-clause-known
put_inside-returns-then-is_empty-2-clause-known g w c =
    let N = g.V.RankedNodes.number in
    let v = c.args.view.now in
    let R = g.V.RankedNodes.rank v in
    let T = g.V.RankedNodes.tree v in
    let t = T (N c.args.id) in
    let p = given_of c.args.names.now in
    let f = pair_of g.V.RankedNodes.tree N v in
    let xs = c.in-Mapping.entries.now in
    let e = mapping-shown N T t _ _ _ c.node-node.ensures.tree c.in-Mapping.is in
    none_entries_given R _ p (none_entries f xs (sym c.if-is_empty-2.ensures)) ∙ mapping_given R t _ _ p e

pub put_inside-returns-then-is_empty-2-clause-adds : goal.put_inside-returns-then-is_empty-2-clause-adds
put_inside-returns-then-is_empty-2-clause-adds g w c =
    let N = g.V.RankedNodes.number in
    let v = c.args.view.now in
    let R = g.V.RankedNodes.rank v in
    let T = g.V.RankedNodes.tree v in
    let t = T (N c.args.id) in
    let p = given_of c.args.names.now in
    let f = pair_of g.V.RankedNodes.tree N v in
    let xs = c.in-Mapping.entries.now in
    let e = mapping-shown N T t _ _ _ c.node-node.ensures.tree c.in-Mapping.is in
    adds_as _ _ _ _ (no_entries_inside R c.args.place c.args.level t _ p _ e _ map_own (none_entries f xs (sym c.if-is_empty-2.ensures))) c.put_empty-then-is_empty-2.ensures

pub put_inside-returns-then-level-ge-DEEPEST-2-clause-adds : goal.put_inside-returns-then-level-ge-DEEPEST-2-clause-adds
put_inside-returns-then-level-ge-DEEPEST-2-clause-adds g w c =
    let N = g.V.RankedNodes.number in
    let v = c.args.view.now in
    let R = g.V.RankedNodes.rank v in
    let T = g.V.RankedNodes.tree v in
    let t = T (N c.args.id) in
    let p = given_of c.args.names.now in
    let f = pair_of g.V.RankedNodes.tree N v in
    let xs = c.in-Mapping.entries.now in
    let e = mapping-shown N T t _ _ _ c.node-node.ensures.tree c.in-Mapping.is in
    adds_as _ _ _ _ (deep_entries_inside R c.args.place c.args.level t _ p _ e (some_entries f xs (sym c.if-is_empty-2.ensures)) (deep c.args.level (omega arith))) c.put_line-then-level-ge-DEEPEST-2.ensures.adds

pub put_inside-returns-in-Ok-true-clause-known : goal.put_inside-returns-in-Ok-true-clause-known
put_inside-returns-in-Ok-true-clause-known g w c =
    let N = g.V.RankedNodes.number in
    let v = c.args.view.now in
    let R = g.V.RankedNodes.rank v in
    let T = g.V.RankedNodes.tree v in
    let t = T (N c.args.id) in
    let p = given_of c.args.names.now in
    let f = pair_of g.V.RankedNodes.tree N v in
    let xs = c.in-Mapping.entries.now in
    let e = mapping-shown N T t _ _ _ c.node-node.ensures.tree c.in-Mapping.is in
    c.put_entries.ensures.known ∙ mapping_given R t _ _ p e

pub put_inside-returns-in-Ok-true-clause-adds : goal.put_inside-returns-in-Ok-true-clause-adds
put_inside-returns-in-Ok-true-clause-adds g w c =
    let N = g.V.RankedNodes.number in
    let v = c.args.view.now in
    let R = g.V.RankedNodes.rank v in
    let T = g.V.RankedNodes.tree v in
    let t = T (N c.args.id) in
    let p = given_of c.args.names.now in
    let f = pair_of g.V.RankedNodes.tree N v in
    let xs = c.in-Mapping.entries.now in
    let e = mapping-shown N T t _ _ _ c.node-node.ensures.tree c.in-Mapping.is in
    let h = λ (known : c.in-Ok-true.field-0 ≡ true). adds_as _ _ _ _ (entries_inside R c.args.place c.args.level t _ p _ e _ _ map_own (some_entries f xs (sym c.if-is_empty-2.ensures)) (shallow c.args.level (omega arith)) (sym c.in-Ok-true.ensures.ok ∙ known) c.goes_on-begun-in-Ok-true.ensures) (adds_then _ _ _ _ _ c.put_head-in-Ok-true.ensures c.put_entries.ensures.adds) in
    search (rules, h)

pub put_inside-returns-in-Ok-false-clause-adds : goal.put_inside-returns-in-Ok-false-clause-adds
put_inside-returns-in-Ok-false-clause-adds g w c =
    let N = g.V.RankedNodes.number in
    let v = c.args.view.now in
    let R = g.V.RankedNodes.rank v in
    let T = g.V.RankedNodes.tree v in
    let t = T (N c.args.id) in
    let p = given_of c.args.names.now in
    let f = pair_of g.V.RankedNodes.tree N v in
    let xs = c.in-Mapping.entries.now in
    let e = mapping-shown N T t _ _ _ c.node-node.ensures.tree c.in-Mapping.is in
    let h = λ (known : c.in-Ok-false.field-0 ≡ false). adds_as _ _ _ _ (wide_entries_inside R c.args.place c.args.level t _ p _ e (some_entries f xs (sym c.if-is_empty-2.ensures)) (shallow c.args.level (omega arith)) (sym c.in-Ok-false.ensures.ok ∙ known)) c.put_line-in-Ok-false.ensures.adds in
    search (rules, h)

pub put_inside-returns-in-Err-clause-adds : goal.put_inside-returns-in-Err-clause-adds
put_inside-returns-in-Err-clause-adds g w c =
    let N = g.V.RankedNodes.number in
    let v = c.args.view.now in
    let R = g.V.RankedNodes.rank v in
    let T = g.V.RankedNodes.tree v in
    let t = T (N c.args.id) in
    let p = given_of c.args.names.now in
    let f = pair_of g.V.RankedNodes.tree N v in
    let xs = c.in-Mapping.entries.now in
    let e = mapping-shown N T t _ _ _ c.node-node.ensures.tree c.in-Mapping.is in
    adds_forgone _ _ _ c.forgo.ensures

pub put_inside-all_have_room-requires-clause-within : goal.put_inside-all_have_room-requires-clause-within
put_inside-all_have_room-requires-clause-within g w c =
    entries-within g.V.RankedNodes.number (g.V.RankedNodes.tree c.args.view.now) _ _ _ c.node-node.ensures.within c.in-Mapping.is

pub put_inside-put_items-requires : goal.put_inside-put_items-requires
put_inside-put_items-requires g w c =
    let N = g.V.RankedNodes.number in
    let v = c.args.view.now in
    let R = g.V.RankedNodes.rank v in
    let T = g.V.RankedNodes.tree v in
    let within = items-within N T _ _ _ c.node-node.ensures.within c.in-Sequence.is in
    let high : height (T (N c.args.id)) ≡ heights (trees_of g.V.RankedNodes.tree N v c.in-Sequence.items.now) = sequence-high N T _ _ _ _ c.node-node.ensures.tree c.in-Sequence.is in
    let lower : 3 * heights (trees_of g.V.RankedNodes.tree N v c.in-Sequence.items.now) < 3 * height (T (N c.args.id)) + 1 = omega (arith, high) in
    search rules

pub put_inside-put_entries-requires : goal.put_inside-put_entries-requires
put_inside-put_entries-requires g w c =
    let N = g.V.RankedNodes.number in
    let v = c.args.view.now in
    let R = g.V.RankedNodes.rank v in
    let T = g.V.RankedNodes.tree v in
    let within = entries-within N T _ _ _ c.node-node.ensures.within c.in-Mapping.is in
    let high : height (T (N c.args.id)) ≡ heights_of_pairs (pairs_of g.V.RankedNodes.tree N v c.in-Mapping.entries.now) = mapping-high N T _ _ _ _ c.node-node.ensures.tree c.in-Mapping.is in
    let lower : 3 * heights_of_pairs (pairs_of g.V.RankedNodes.tree N v c.in-Mapping.entries.now) < 3 * height (T (N c.args.id)) + 1 = omega (arith, high) in
    search rules

pub put_items-loop-item-preserved : goal.put_items-loop-item-preserved
put_items-loop-item-preserved g w c =
    let N = g.V.RankedNodes.number in
    let v = c.args.view.now in
    let R = g.V.RankedNodes.rank v in
    let T = g.V.RankedNodes.tree v in
    let f = tree_of g.V.RankedNodes.tree N v in
    let xs = c.args.items.now in
    let i = c.loop-item.item-index in
    let x = c.item-item.result in
    let l = drop_item xs i x (omega arith) c.item-item.is in
    let a = left_as _ _ _ _ _ (items_split R f xs i c.args.level x c.loop-item.is_begun _ _ l c.put_node.ensures.known) c.loop-item.invariant.left in
    let b = left_next _ _ _ _ _ _ a c.put_before.ensures in
    let d = left_next _ _ _ _ _ _ b c.put.ensures in
    record {
      known = items_given R f xs i x _ _ _ l c.put_node.ensures.known c.loop-item.invariant.known;
      long = c.put_node.ensures.long ∙ c.loop-item.invariant.long;
      left = left_next _ _ _ _ _ _ d c.put_node.ensures.adds;
    }

pub put_items-returns-clause-known : goal.put_items-returns-clause-known
put_items-returns-clause-known g w c =
    let N = g.V.RankedNodes.number in
    let v = c.args.view.now in
    let R = g.V.RankedNodes.rank v in
    let T = g.V.RankedNodes.tree v in
    let f = tree_of g.V.RankedNodes.tree N v in
    let xs = c.args.items.now in
    items_known R f xs c.loop-item.item-index _ _ (omega arith) c.loop-item.invariant.known

pub put_items-returns-clause-adds : goal.put_items-returns-clause-adds
put_items-returns-clause-adds g w c =
    let N = g.V.RankedNodes.number in
    let v = c.args.view.now in
    let R = g.V.RankedNodes.rank v in
    let T = g.V.RankedNodes.tree v in
    let f = tree_of g.V.RankedNodes.tree N v in
    let xs = c.args.items.now in
    left_end _ _ _ (left_as _ _ _ _ _ (items_over R f xs c.loop-item.item-index c.args.level c.loop-item.is_begun _ (omega arith)) c.loop-item.invariant.left)

pub put_entries-loop-entry-preserved : goal.put_entries-loop-entry-preserved
put_entries-loop-entry-preserved g w c =
    let N = g.V.RankedNodes.number in
    let v = c.args.view.now in
    let R = g.V.RankedNodes.rank v in
    let T = g.V.RankedNodes.tree v in
    let f = pair_of g.V.RankedNodes.tree N v in
    let xs = c.args.entries.now in
    let i = c.loop-entry.entry-index in
    let x = c.entry-item.result in
    let l = drop_item xs i x (omega arith) c.entry-item.is in
    let k = c.put_shared_key.ensures.known in
    let m = c.put_node.ensures.known in
    let a = left_as _ _ _ _ _ (entries_split R f xs i c.args.level x c.loop-entry.is_begun _ _ _ l k m) c.loop-entry.invariant.left in
    let b = left_next _ _ _ _ _ _ a c.put_before.ensures in
    let d = left_next _ _ _ _ _ _ b c.put_shared_key.ensures.adds in
    let e = left_next _ _ _ _ _ _ d c.put.ensures in
    record {
      known = pairs_given R f xs i x _ _ _ _ l k m c.loop-entry.invariant.known;
      long = c.put_node.ensures.long ∙ (c.put_shared_key.ensures.long ∙ c.loop-entry.invariant.long);
      left = left_next _ _ _ _ _ _ e c.put_node.ensures.adds;
    }

pub put_entries-returns-clause-known : goal.put_entries-returns-clause-known
put_entries-returns-clause-known g w c =
    let N = g.V.RankedNodes.number in
    let v = c.args.view.now in
    let R = g.V.RankedNodes.rank v in
    let T = g.V.RankedNodes.tree v in
    let f = pair_of g.V.RankedNodes.tree N v in
    let xs = c.args.entries.now in
    pairs_known R f xs c.loop-entry.entry-index _ _ (omega arith) c.loop-entry.invariant.known

pub put_entries-returns-clause-adds : goal.put_entries-returns-clause-adds
put_entries-returns-clause-adds g w c =
    let N = g.V.RankedNodes.number in
    let v = c.args.view.now in
    let R = g.V.RankedNodes.rank v in
    let T = g.V.RankedNodes.tree v in
    let f = pair_of g.V.RankedNodes.tree N v in
    let xs = c.args.entries.now in
    left_end _ _ _ (left_as _ _ _ _ _ (entries_over R f xs c.loop-entry.entry-index c.args.level c.loop-entry.is_begun _ (omega arith)) c.loop-entry.invariant.left)

pub put_items-put_node-requires : goal.put_items-put_node-requires
put_items-put_node-requires g w c =
    let N = g.V.RankedNodes.number in
    let v = c.args.view.now in
    let R = g.V.RankedNodes.rank v in
    let T = g.V.RankedNodes.tree v in
    let xs = c.args.items.now in
    let x = c.item-item.result in
    let ready = still c.loop-item.names c.requires.ready c.loop-item.invariant.long in
    let within = item-in (λ i. N i < g.V.RankedNodes.count v) xs c.loop-item.item-index x c.requires.within (omega arith) c.item-item.is in
    let low = item-lower N T xs c.loop-item.item-index x (omega arith) c.item-item.is in
    let lower : 3 * height (T (N x)) + 2 < 3 * heights (trees_of g.V.RankedNodes.tree N v xs) = omega (arith, low) in
    search rules

pub put_entries-put_shared_key-requires : goal.put_entries-put_shared_key-requires
put_entries-put_shared_key-requires g w c =
    let N = g.V.RankedNodes.number in
    let v = c.args.view.now in
    let R = g.V.RankedNodes.rank v in
    let T = g.V.RankedNodes.tree v in
    let xs = c.args.entries.now in
    let x = c.entry-item.result in
    let ready = still c.loop-entry.names c.requires.ready c.loop-entry.invariant.long in
    let within = (item-in (λ p. (N p.0 < g.V.RankedNodes.count v) × (N p.1 < g.V.RankedNodes.count v)) xs c.loop-entry.entry-index x c.requires.within (omega arith) c.entry-item.is).0 in
    search rules

pub put_entries-put_node-requires : goal.put_entries-put_node-requires
put_entries-put_node-requires g w c =
    let N = g.V.RankedNodes.number in
    let v = c.args.view.now in
    let R = g.V.RankedNodes.rank v in
    let T = g.V.RankedNodes.tree v in
    let xs = c.args.entries.now in
    let x = c.entry-item.result in
    let ready = still c.put_shared_key.new.names c.requires.ready (c.put_shared_key.ensures.long ∙ c.loop-entry.invariant.long) in
    let within = (item-in (λ p. (N p.0 < g.V.RankedNodes.count v) × (N p.1 < g.V.RankedNodes.count v)) xs c.loop-entry.entry-index x c.requires.within (omega arith) c.entry-item.is).1 in
    let low = value-lower N T xs c.loop-entry.entry-index x (omega arith) c.entry-item.is in
    let lower : 3 * height (T (N x.1)) + 2 < 3 * heights_of_pairs (pairs_of g.V.RankedNodes.tree N v xs) = omega (arith, low) in
    search rules
