use Rattle.std.proofs.Common.{◌≡◌, ◌+◌, ◌*◌, ◌<◌, ◌&&◌, not, [], ◌∷◌, refl, ◌∙◌, ap, rules, arith}
use Rattle.yaml_definitions.specs.model.Tree.{height, heights, heights_of_pairs}
use Rattle.yaml_spell.specs.NamesView.{given_of}
use Rattle.yaml_spell.specs.RankedNodes.{tree_of, pair_of, trees_of, pairs_of}
use Rattle.yaml_spell.specs.Walked.{given_inside}
use Rattle.yaml_spell.proofs.NamesLaws.{still}
use Rattle.yaml_spell.proofs.ShownLaws.{scalar-shown, sequence-shown, mapping-shown, items-within, entries-within, sequence-high, mapping-high, item-lower, key-lower, value-lower, item-in}
use Rattle.yaml_spell.proofs.WalkLaws.{drop_item}
use Rattle.yaml_spell.proofs.WriteLaws.{given_alias, given_anchored, given_plain, items_given, items_known, pairs_given, pairs_known}
use Rattle.yaml_show.specs.Flow.{mark, colon}
use Rattle.yaml_show.proofs.FlowLaws.{seq_own, map_own}
use Rattle.yaml_show.proofs.DraftLaws.{adds_as, adds_then, adds_three, left_none, left_as, left_next, left_last}
use Rattle.yaml_show.proofs.SharingLaws.{is_one_alias, anchored_is_none, plain_is_none, flow_by_alias, flow_by_anchor, flow_by_plain, flow_scalar, flow_sequence, flow_mapping, flow_items_split, flow_items_end, flow_entries_split, flow_entries_end, scalar_given, sequence_given, mapping_given}
use Rattle.yaml_show.proofs.sharing_flow.+sharing_flow.Goals as goal

pub put_shared_flow-returns-in-Alias-clause-known : goal.put_shared_flow-returns-in-Alias-clause-known
put_shared_flow-returns-in-Alias-clause-known g w c =
    let N = g.V.RankedNodes.number in
    let v = c.args.view.now in
    let R = g.V.RankedNodes.rank v in
    let T = g.V.RankedNodes.tree v in
    let t = T (N c.args.id) in
    let p = given_of c.args.names.now in
    let o = c.open_node-opening.ensures.opening in
    let q = c.open_node-opening.ensures.given in
    q ∙ given_alias R t p _ c.in-Alias.number o c.in-Alias.is

pub put_shared_flow-returns-in-Alias-clause-alias : goal.put_shared_flow-returns-in-Alias-clause-alias
put_shared_flow-returns-in-Alias-clause-alias g w c =
    let N = g.V.RankedNodes.number in
    let v = c.args.view.now in
    let R = g.V.RankedNodes.rank v in
    let T = g.V.RankedNodes.tree v in
    let t = T (N c.args.id) in
    let p = given_of c.args.names.now in
    let o = c.open_node-opening.ensures.opening in
    let q = c.open_node-opening.ensures.given in
    is_one_alias R t p _ c.in-Alias.number o c.in-Alias.is

pub put_shared_flow-returns-in-Alias-clause-adds : goal.put_shared_flow-returns-in-Alias-clause-adds
put_shared_flow-returns-in-Alias-clause-adds g w c =
    let N = g.V.RankedNodes.number in
    let v = c.args.view.now in
    let R = g.V.RankedNodes.rank v in
    let T = g.V.RankedNodes.tree v in
    let t = T (N c.args.id) in
    let p = given_of c.args.names.now in
    let o = c.open_node-opening.ensures.opening in
    let q = c.open_node-opening.ensures.given in
    adds_as _ _ _ _ (flow_by_alias R c.args.in_key t p _ c.in-Alias.number o c.in-Alias.is) c.put_alias.ensures

pub put_shared_flow-returns-in-Anchored-clause-known : goal.put_shared_flow-returns-in-Anchored-clause-known
put_shared_flow-returns-in-Anchored-clause-known g w c =
    let N = g.V.RankedNodes.number in
    let v = c.args.view.now in
    let R = g.V.RankedNodes.rank v in
    let T = g.V.RankedNodes.tree v in
    let t = T (N c.args.id) in
    let p = given_of c.args.names.now in
    let o = c.open_node-opening.ensures.opening in
    let q = c.open_node-opening.ensures.given in
    c.put_flow_inside.ensures.known ∙ ap (given_inside R t) q ∙ given_anchored R t p _ c.in-Anchored.number o c.in-Anchored.is

pub put_shared_flow-returns-in-Anchored-clause-alias : goal.put_shared_flow-returns-in-Anchored-clause-alias
put_shared_flow-returns-in-Anchored-clause-alias g w c =
    let N = g.V.RankedNodes.number in
    let v = c.args.view.now in
    let R = g.V.RankedNodes.rank v in
    let T = g.V.RankedNodes.tree v in
    let t = T (N c.args.id) in
    let p = given_of c.args.names.now in
    let o = c.open_node-opening.ensures.opening in
    let q = c.open_node-opening.ensures.given in
    anchored_is_none R t p _ c.in-Anchored.number o c.in-Anchored.is

pub put_shared_flow-returns-in-Anchored-clause-adds : goal.put_shared_flow-returns-in-Anchored-clause-adds
put_shared_flow-returns-in-Anchored-clause-adds g w c =
    let N = g.V.RankedNodes.number in
    let v = c.args.view.now in
    let R = g.V.RankedNodes.rank v in
    let T = g.V.RankedNodes.tree v in
    let t = T (N c.args.id) in
    let p = given_of c.args.names.now in
    let o = c.open_node-opening.ensures.opening in
    let q = c.open_node-opening.ensures.given in
    adds_as _ _ _ _ (flow_by_anchor R c.args.in_key t p _ _ c.in-Anchored.number o q c.in-Anchored.is) (adds_three _ _ _ _ _ _ _ c.put_anchor.ensures c.put.ensures c.put_flow_inside.ensures.adds)

pub put_shared_flow-returns-in-Plain-clause-known : goal.put_shared_flow-returns-in-Plain-clause-known
put_shared_flow-returns-in-Plain-clause-known g w c =
    let N = g.V.RankedNodes.number in
    let v = c.args.view.now in
    let R = g.V.RankedNodes.rank v in
    let T = g.V.RankedNodes.tree v in
    let t = T (N c.args.id) in
    let p = given_of c.args.names.now in
    let o = c.open_node-opening.ensures.opening in
    let q = c.open_node-opening.ensures.given in
    c.put_flow_inside-in-Plain.ensures.known ∙ ap (given_inside R t) q ∙ given_plain R t p _ o c.in-Plain.is

pub put_shared_flow-returns-in-Plain-clause-alias : goal.put_shared_flow-returns-in-Plain-clause-alias
put_shared_flow-returns-in-Plain-clause-alias g w c =
    let N = g.V.RankedNodes.number in
    let v = c.args.view.now in
    let R = g.V.RankedNodes.rank v in
    let T = g.V.RankedNodes.tree v in
    let t = T (N c.args.id) in
    let p = given_of c.args.names.now in
    let o = c.open_node-opening.ensures.opening in
    let q = c.open_node-opening.ensures.given in
    plain_is_none R t p _ o c.in-Plain.is

pub put_shared_flow-returns-in-Plain-clause-adds : goal.put_shared_flow-returns-in-Plain-clause-adds
put_shared_flow-returns-in-Plain-clause-adds g w c =
    let N = g.V.RankedNodes.number in
    let v = c.args.view.now in
    let R = g.V.RankedNodes.rank v in
    let T = g.V.RankedNodes.tree v in
    let t = T (N c.args.id) in
    let p = given_of c.args.names.now in
    let o = c.open_node-opening.ensures.opening in
    let q = c.open_node-opening.ensures.given in
    adds_as _ _ _ _ (flow_by_plain R c.args.in_key t p _ _ o q c.in-Plain.is) c.put_flow_inside-in-Plain.ensures.adds

pub put_shared_flow-put_flow_inside-requires : goal.put_shared_flow-put_flow_inside-requires
put_shared_flow-put_flow_inside-requires g w c =
    let N = g.V.RankedNodes.number in
    let v = c.args.view.now in
    let R = g.V.RankedNodes.rank v in
    let T = g.V.RankedNodes.tree v in
    let ready = still c.open_node-opening.new.names c.requires.ready c.open_node-opening.ensures.long in
    let lower : 3 * height (T (N c.args.id)) + 1 < 3 * height (T (N c.args.id)) + 2 = omega arith in
    search rules

pub put_shared_flow-put_flow_inside-requires-in-Plain : goal.put_shared_flow-put_flow_inside-requires-in-Plain
put_shared_flow-put_flow_inside-requires-in-Plain g w c =
    let N = g.V.RankedNodes.number in
    let v = c.args.view.now in
    let R = g.V.RankedNodes.rank v in
    let T = g.V.RankedNodes.tree v in
    let ready = still c.open_node-opening.new.names c.requires.ready c.open_node-opening.ensures.long in
    let lower : 3 * height (T (N c.args.id)) + 1 < 3 * height (T (N c.args.id)) + 2 = omega arith in
    search rules

pub put_flow_inside-returns-in-Scalar-clause-known : goal.put_flow_inside-returns-in-Scalar-clause-known
put_flow_inside-returns-in-Scalar-clause-known g w c =
    let N = g.V.RankedNodes.number in
    let v = c.args.view.now in
    let R = g.V.RankedNodes.rank v in
    let T = g.V.RankedNodes.tree v in
    let t = T (N c.args.id) in
    let p = given_of c.args.names.now in
    scalar_given R t _ _ p (scalar-shown N T t _ _ _ c.node-node.ensures.tree c.in-Scalar.is)

pub put_flow_inside-returns-in-Scalar-clause-adds : goal.put_flow_inside-returns-in-Scalar-clause-adds
put_flow_inside-returns-in-Scalar-clause-adds g w c =
    let N = g.V.RankedNodes.number in
    let v = c.args.view.now in
    let R = g.V.RankedNodes.rank v in
    let T = g.V.RankedNodes.tree v in
    let t = T (N c.args.id) in
    let p = given_of c.args.names.now in
    adds_as _ _ _ _ (flow_scalar R c.args.in_key t _ p _ (scalar-shown N T t _ _ _ c.node-node.ensures.tree c.in-Scalar.is)) c.put_scalar.ensures

pub put_flow_inside-returns-in-Sequence-clause-known : goal.put_flow_inside-returns-in-Sequence-clause-known
put_flow_inside-returns-in-Sequence-clause-known g w c =
    let N = g.V.RankedNodes.number in
    let v = c.args.view.now in
    let R = g.V.RankedNodes.rank v in
    let T = g.V.RankedNodes.tree v in
    let t = T (N c.args.id) in
    let p = given_of c.args.names.now in
    c.put_items.ensures.known ∙ sequence_given R t _ _ p (sequence-shown N T t _ _ _ c.node-node.ensures.tree c.in-Sequence.is)

pub put_flow_inside-returns-in-Sequence-clause-adds : goal.put_flow_inside-returns-in-Sequence-clause-adds
put_flow_inside-returns-in-Sequence-clause-adds g w c =
    let N = g.V.RankedNodes.number in
    let v = c.args.view.now in
    let R = g.V.RankedNodes.rank v in
    let T = g.V.RankedNodes.tree v in
    let t = T (N c.args.id) in
    let p = given_of c.args.names.now in
    adds_as _ _ _ _ (flow_sequence R c.args.in_key t _ p _ _ seq_own (sequence-shown N T t _ _ _ c.node-node.ensures.tree c.in-Sequence.is)) (adds_then _ _ _ _ _ c.put_tag_before.ensures c.put_items.ensures.adds)

pub put_flow_inside-returns-in-Mapping-clause-known : goal.put_flow_inside-returns-in-Mapping-clause-known
put_flow_inside-returns-in-Mapping-clause-known g w c =
    let N = g.V.RankedNodes.number in
    let v = c.args.view.now in
    let R = g.V.RankedNodes.rank v in
    let T = g.V.RankedNodes.tree v in
    let t = T (N c.args.id) in
    let p = given_of c.args.names.now in
    c.put_entries.ensures.known ∙ mapping_given R t _ _ p (mapping-shown N T t _ _ _ c.node-node.ensures.tree c.in-Mapping.is)

pub put_flow_inside-returns-in-Mapping-clause-adds : goal.put_flow_inside-returns-in-Mapping-clause-adds
put_flow_inside-returns-in-Mapping-clause-adds g w c =
    let N = g.V.RankedNodes.number in
    let v = c.args.view.now in
    let R = g.V.RankedNodes.rank v in
    let T = g.V.RankedNodes.tree v in
    let t = T (N c.args.id) in
    let p = given_of c.args.names.now in
    adds_as _ _ _ _ (flow_mapping R c.args.in_key t _ p _ _ map_own (mapping-shown N T t _ _ _ c.node-node.ensures.tree c.in-Mapping.is)) (adds_then _ _ _ _ _ c.put_tag_before-in-Mapping.ensures c.put_entries.ensures.adds)

pub put_flow_inside-put_items-requires : goal.put_flow_inside-put_items-requires
put_flow_inside-put_items-requires g w c =
    let N = g.V.RankedNodes.number in
    let v = c.args.view.now in
    let R = g.V.RankedNodes.rank v in
    let T = g.V.RankedNodes.tree v in
    let within = items-within N T _ _ _ c.node-node.ensures.within c.in-Sequence.is in
    let high : height (T (N c.args.id)) ≡ heights (trees_of g.V.RankedNodes.tree N v c.in-Sequence.items.now) = sequence-high N T _ _ _ _ c.node-node.ensures.tree c.in-Sequence.is in
    let lower : 3 * heights (trees_of g.V.RankedNodes.tree N v c.in-Sequence.items.now) < 3 * height (T (N c.args.id)) + 1 = omega (arith, high) in
    search rules

pub put_flow_inside-put_entries-requires : goal.put_flow_inside-put_entries-requires
put_flow_inside-put_entries-requires g w c =
    let N = g.V.RankedNodes.number in
    let v = c.args.view.now in
    let R = g.V.RankedNodes.rank v in
    let T = g.V.RankedNodes.tree v in
    let within = entries-within N T _ _ _ c.node-node.ensures.within c.in-Mapping.is in
    let high : height (T (N c.args.id)) ≡ heights_of_pairs (pairs_of g.V.RankedNodes.tree N v c.in-Mapping.entries.now) = mapping-high N T _ _ _ _ c.node-node.ensures.tree c.in-Mapping.is in
    let lower : 3 * heights_of_pairs (pairs_of g.V.RankedNodes.tree N v c.in-Mapping.entries.now) < 3 * height (T (N c.args.id)) + 1 = omega (arith, high) in
    search rules

pub put_items-loop-place-init : goal.put_items-loop-place-init
put_items-loop-place-init g w c =
    record {
      known = refl;
      long = refl;
      left = left_next _ _ _ (91 ∷ []) _ _ (left_none _ _) c.put.ensures;
    }

pub put_items-loop-place-preserved : goal.put_items-loop-place-preserved
put_items-loop-place-preserved g w c =
    let N = g.V.RankedNodes.number in
    let v = c.args.view.now in
    let R = g.V.RankedNodes.rank v in
    let T = g.V.RankedNodes.tree v in
    let f = tree_of g.V.RankedNodes.tree N v in
    let xs = c.args.items.now in
    let i = c.loop-place.place in
    let x = c.index-items-place.result in
    let l = drop_item xs i x (omega arith) c.index-items-place.is in
    record {
      known = items_given R f xs i x _ _ _ l c.put_shared_flow.ensures.known c.loop-place.invariant.known;
      long = c.put_shared_flow.ensures.long ∙ c.loop-place.invariant.long;
      left = left_next _ _ _ _ _ _ (left_next _ _ _ _ _ _ (left_as _ _ _ _ _ (flow_items_split R c.args.in_key f xs i x _ _ l c.put_shared_flow.ensures.known) c.loop-place.invariant.left) (adds_as _ _ _ _ c.separator.ensures c.put-in-loop-place.ensures)) c.put_shared_flow.ensures.adds;
    }

pub put_items-returns-clause-known : goal.put_items-returns-clause-known
put_items-returns-clause-known g w c =
    let N = g.V.RankedNodes.number in
    let v = c.args.view.now in
    let R = g.V.RankedNodes.rank v in
    let T = g.V.RankedNodes.tree v in
    let f = tree_of g.V.RankedNodes.tree N v in
    let xs = c.args.items.now in
    items_known R f xs c.loop-place.place _ _ (omega arith) c.loop-place.invariant.known

pub put_items-returns-clause-adds : goal.put_items-returns-clause-adds
put_items-returns-clause-adds g w c =
    let N = g.V.RankedNodes.number in
    let v = c.args.view.now in
    let R = g.V.RankedNodes.rank v in
    let T = g.V.RankedNodes.tree v in
    let f = tree_of g.V.RankedNodes.tree N v in
    let xs = c.args.items.now in
    left_last _ _ _ _ _ (left_as _ _ _ _ _ (flow_items_end R c.args.in_key f xs c.loop-place.place _ (omega arith)) c.loop-place.invariant.left) c.put-2.ensures

pub put_entries-loop-place-init : goal.put_entries-loop-place-init
put_entries-loop-place-init g w c =
    record {
      known = refl;
      long = refl;
      left = left_next _ _ _ (123 ∷ []) _ _ (left_none _ _) c.put.ensures;
    }

pub put_entries-loop-place-preserved : goal.put_entries-loop-place-preserved
put_entries-loop-place-preserved g w c =
    let N = g.V.RankedNodes.number in
    let v = c.args.view.now in
    let R = g.V.RankedNodes.rank v in
    let T = g.V.RankedNodes.tree v in
    let f = pair_of g.V.RankedNodes.tree N v in
    let xs = c.args.entries.now in
    let i = c.loop-place.place in
    let x = c.index-entries-place.result in
    let l = drop_item xs i x (omega arith) c.index-entries-place.is in
    let k = c.put_shared_flow-is_alias.ensures.known in
    let m = c.put_shared_flow.ensures.known in
    let a = left_as _ _ _ _ _ (flow_entries_split R c.args.in_key f xs i x _ _ _ l k m) c.loop-place.invariant.left in
    let s = c.is_simple_key-is_simple.ensures in
    let b = left_next _ _ _ _ _ _ a (adds_as _ _ _ _ c.separator.ensures c.put-in-loop-place.ensures) in
    let d = left_next _ _ _ _ _ _ b (adds_as _ _ _ _ (c.mark.ensures ∙ ap mark s) c.put-in-loop-place-2.ensures) in
    let e = left_next _ _ _ _ _ _ d c.put_shared_flow-is_alias.ensures.adds in
    let h = left_next _ _ _ _ _ _ e (adds_as _ _ _ _ (c.colon.ensures ∙ (λ j. colon (s j && not (c.put_shared_flow-is_alias.ensures.alias j)))) c.put-in-loop-place-3.ensures) in
    record {
      known = pairs_given R f xs i x _ _ _ _ l k m c.loop-place.invariant.known;
      long = c.put_shared_flow.ensures.long ∙ (c.put_shared_flow-is_alias.ensures.long ∙ c.loop-place.invariant.long);
      left = left_next _ _ _ _ _ _ h c.put_shared_flow.ensures.adds;
    }

pub put_entries-returns-clause-known : goal.put_entries-returns-clause-known
put_entries-returns-clause-known g w c =
    let N = g.V.RankedNodes.number in
    let v = c.args.view.now in
    let R = g.V.RankedNodes.rank v in
    let T = g.V.RankedNodes.tree v in
    let f = pair_of g.V.RankedNodes.tree N v in
    let xs = c.args.entries.now in
    pairs_known R f xs c.loop-place.place _ _ (omega arith) c.loop-place.invariant.known

pub put_entries-returns-clause-adds : goal.put_entries-returns-clause-adds
put_entries-returns-clause-adds g w c =
    let N = g.V.RankedNodes.number in
    let v = c.args.view.now in
    let R = g.V.RankedNodes.rank v in
    let T = g.V.RankedNodes.tree v in
    let f = pair_of g.V.RankedNodes.tree N v in
    let xs = c.args.entries.now in
    left_last _ _ _ _ _ (left_as _ _ _ _ _ (flow_entries_end R c.args.in_key f xs c.loop-place.place _ (omega arith)) c.loop-place.invariant.left) c.put-2.ensures

pub put_items-put_shared_flow-requires : goal.put_items-put_shared_flow-requires
put_items-put_shared_flow-requires g w c =
    let N = g.V.RankedNodes.number in
    let v = c.args.view.now in
    let R = g.V.RankedNodes.rank v in
    let T = g.V.RankedNodes.tree v in
    let xs = c.args.items.now in
    let x = c.index-items-place.result in
    let ready = still c.loop-place.names c.requires.ready c.loop-place.invariant.long in
    let within = item-in (λ i. N i < g.V.RankedNodes.count v) xs c.loop-place.place x c.requires.within (omega arith) c.index-items-place.is in
    let low = item-lower N T xs c.loop-place.place x (omega arith) c.index-items-place.is in
    let lower : 3 * height (T (N x)) + 2 < 3 * heights (trees_of g.V.RankedNodes.tree N v xs) = omega (arith, low) in
    search rules

pub put_entries-put_shared_flow-is_alias-requires : goal.put_entries-put_shared_flow-is_alias-requires
put_entries-put_shared_flow-is_alias-requires g w c =
    let N = g.V.RankedNodes.number in
    let v = c.args.view.now in
    let R = g.V.RankedNodes.rank v in
    let T = g.V.RankedNodes.tree v in
    let xs = c.args.entries.now in
    let x = c.index-entries-place.result in
    let ready = still c.loop-place.names c.requires.ready c.loop-place.invariant.long in
    let within = (item-in (λ p. (N p.0 < g.V.RankedNodes.count v) × (N p.1 < g.V.RankedNodes.count v)) xs c.loop-place.place x c.requires.within (omega arith) c.index-entries-place.is).0 in
    let low = key-lower N T xs c.loop-place.place x (omega arith) c.index-entries-place.is in
    let lower : 3 * height (T (N x.0)) + 2 < 3 * heights_of_pairs (pairs_of g.V.RankedNodes.tree N v xs) = omega (arith, low) in
    search rules

pub put_entries-put_shared_flow-requires : goal.put_entries-put_shared_flow-requires
put_entries-put_shared_flow-requires g w c =
    let N = g.V.RankedNodes.number in
    let v = c.args.view.now in
    let R = g.V.RankedNodes.rank v in
    let T = g.V.RankedNodes.tree v in
    let xs = c.args.entries.now in
    let x = c.index-entries-place.result in
    let ready = still c.put_shared_flow-is_alias.new.names c.requires.ready (c.put_shared_flow-is_alias.ensures.long ∙ c.loop-place.invariant.long) in
    let within = (item-in (λ p. (N p.0 < g.V.RankedNodes.count v) × (N p.1 < g.V.RankedNodes.count v)) xs c.loop-place.place x c.requires.within (omega arith) c.index-entries-place.is).1 in
    let low = value-lower N T xs c.loop-place.place x (omega arith) c.index-entries-place.is in
    let lower : 3 * height (T (N x.1)) + 2 < 3 * heights_of_pairs (pairs_of g.V.RankedNodes.tree N v xs) = omega (arith, low) in
    search rules
