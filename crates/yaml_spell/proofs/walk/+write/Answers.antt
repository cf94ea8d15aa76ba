use Rattle.std.proofs.Common.{◌≡◌, ℕ, ◌+◌, ◌*◌, ◌<◌, nat_lt, List, sym, ◌∙◌, ap, refl, rules, arith, ◌++◌, ◌∷◌, []}
use Rattle.yaml_definitions.specs.model.Tree.{height, heights, heights_of_pairs}
use Rattle.yaml_definitions.specs.canonical.NodeText.{pairs_text}
use Rattle.yaml_definitions.specs.canonical.Spell.{short}
use Rattle.yaml_spell.specs.Stops.{fault_of}
use Rattle.yaml_spell.specs.NamesView.{given_of}
use Rattle.yaml_spell.specs.RankedNodes.{tree_of, pair_of, trees_of, pairs_of}
use Rattle.yaml_spell.specs.Walked.{opening_of, begun_unless_short, start, started, given_inside, written_pairs}
use Rattle.yaml_spell.proofs.NamesLaws.{still}
use Rattle.yaml_spell.proofs.PieceLaws.{on_ok, if_err, puts_piece, puts_after, fails_piece, fails_after, left_first, left_last, left_fails}
use Rattle.yaml_spell.proofs.ShownLaws.{scalar-shown, sequence-shown, mapping-shown, items-within, entries-within, sequence-high, mapping-high, item-lower, key-lower, value-lower, item-in}
use Rattle.yaml_spell.proofs.WalkLaws.{drop_item}
use Rattle.yaml_spell.proofs.ShortWalk.{short_told, short_from, short_given, counted_written, counted_unwritten}
use Rattle.yaml_spell.proofs.WriteLaws.{scalar_put, scalar_fails, sequence_put, sequence_fails, sequence_tag_fails, mapping_put, mapping_fails, mapping_tag_fails, alias_written, alias_unwritten, anchored_written, anchor_unwritten, anchored_unwritten, plain_written, plain_unwritten, all_ok, closing_bracket, closing_brace, opening_bracket, opening_brace, given_alias, given_anchored, given_plain, items_separator_fails, items_node_fails, items_step, items_end, items_given, items_known, pairs_separator_fails, pairs_key_fails, pairs_colon_fails, pairs_value_fails, pairs_step, pairs_end, pairs_given, pairs_known}
use Rattle.yaml_spell.proofs.walk.+write.Goals as goal

pub write_items-loop-place-init : goal.write_items-loop-place-init
write_items-loop-place-init g w c =
    record {
      known = refl;
      long = refl;
      left = left_first g.S.Sink.holds c.args.sink.now c.args.out.now c.put.new.self c.put.new.out (λ more. (91 ∷ []) ++ more) _ _ (puts_piece g.S.Sink.holds c.args.sink.now c.args.out.now c.put.new.self c.put.new.out (91 ∷ []) (91 ∷ []) c.in_ok-put.ensures.ok opening_bracket) (λ more. refl);
    }

pub write_items-returns-in_err-put_separator-clause-err : goal.write_items-returns-in_err-put_separator-clause-err
write_items-returns-in_err-put_separator-clause-err g w c =
    let N = g.V.RankedNodes.number in
    let v = c.args.view.now in
    let R = g.V.RankedNodes.rank v in
    let f = tree_of g.V.RankedNodes.tree N v in
    let xs = c.args.items.now in
    let i = c.loop-place.place in
    let p = given_of c.loop-place.names in
    let m = items_separator_fails g.S.Sink.holds g.S.Sink.stops R f xs i p _ c.index-items-place.result c.args.sink.now c.args.out.now c.loop-place.sink c.loop-place.out c.put_separator.new.out (fault_of c.in_err-put_separator.field-0.0) (drop_item xs i c.index-items-place.result (omega arith) c.index-items-place.is) c.loop-place.invariant.left c.in_err-put_separator.ensures.err in
    search (rules, m)

pub write_items-returns-in_err-write_node-clause-err : goal.write_items-returns-in_err-write_node-clause-err
write_items-returns-in_err-write_node-clause-err g w c =
    let N = g.V.RankedNodes.number in
    let v = c.args.view.now in
    let R = g.V.RankedNodes.rank v in
    let f = tree_of g.V.RankedNodes.tree N v in
    let xs = c.args.items.now in
    let i = c.loop-place.place in
    let p = given_of c.loop-place.names in
    let m = items_node_fails g.S.Sink.holds g.S.Sink.stops R f xs i p _ c.index-items-place.result c.args.sink.now c.args.out.now c.loop-place.sink c.loop-place.out c.put_separator.new.sink c.put_separator.new.out c.write_node.new.out (fault_of c.in_err-write_node.field-0.0) (drop_item xs i c.index-items-place.result (omega arith) c.index-items-place.is) c.loop-place.invariant.left c.in_ok-put_separator.ensures.ok c.in_err-write_node.ensures.err in
    search (rules, m)

pub write_items-loop-place-preserved : goal.write_items-loop-place-preserved
write_items-loop-place-preserved g w c =
    let N = g.V.RankedNodes.number in
    let v = c.args.view.now in
    let R = g.V.RankedNodes.rank v in
    let f = tree_of g.V.RankedNodes.tree N v in
    let xs = c.args.items.now in
    let i = c.loop-place.place in
    let p = given_of c.loop-place.names in
    let q = given_of c.write_node.new.names in
    record {
      known = items_given R f xs i c.index-items-place.result p q _ (drop_item xs i c.index-items-place.result (omega arith) c.index-items-place.is) c.in_ok-write_node.ensures.known c.loop-place.invariant.known;
      long = c.write_node.ensures.long ∙ c.loop-place.invariant.long;
      left = items_step g.S.Sink.holds g.S.Sink.stops R f xs i p _ c.index-items-place.result q c.args.sink.now c.args.out.now c.loop-place.sink c.loop-place.out c.put_separator.new.sink c.put_separator.new.out c.write_node.new.sink c.write_node.new.out (drop_item xs i c.index-items-place.result (omega arith) c.index-items-place.is) c.in_ok-write_node.ensures.known c.loop-place.invariant.left c.in_ok-put_separator.ensures.ok c.in_ok-write_node.ensures.ok;
    }

pub write_items-returns-clause-known : goal.write_items-returns-clause-known
write_items-returns-clause-known g w c =
    let N = g.V.RankedNodes.number in
    let v = c.args.view.now in
    let R = g.V.RankedNodes.rank v in
    let f = tree_of g.V.RankedNodes.tree N v in
    let xs = c.args.items.now in
    let i = c.loop-place.place in
    let p = given_of c.loop-place.names in
    all_ok c.put-2.result (items_known R f xs i p _ (omega arith) c.loop-place.invariant.known)

pub write_items-returns-clause-ok : goal.write_items-returns-clause-ok
write_items-returns-clause-ok g w c =
    let N = g.V.RankedNodes.number in
    let v = c.args.view.now in
    let R = g.V.RankedNodes.rank v in
    let f = tree_of g.V.RankedNodes.tree N v in
    let xs = c.args.items.now in
    let i = c.loop-place.place in
    let p = given_of c.loop-place.names in
    on_ok c.put-2.result c.put-2.ensures.ok (λ h. left_last g.S.Sink.holds c.args.sink.now c.args.out.now c.loop-place.sink c.loop-place.out c.put-2.new.self c.put-2.new.out _ _ (λ more. (93 ∷ []) ++ more) c.loop-place.invariant.left (puts_piece g.S.Sink.holds _ _ _ _ (93 ∷ []) (93 ∷ []) h closing_bracket) (items_end R f xs i p (omega arith)))

pub write_items-returns-clause-err : goal.write_items-returns-clause-err
write_items-returns-clause-err g w c =
    let N = g.V.RankedNodes.number in
    let v = c.args.view.now in
    let R = g.V.RankedNodes.rank v in
    let f = tree_of g.V.RankedNodes.tree N v in
    let xs = c.args.items.now in
    let i = c.loop-place.place in
    let p = given_of c.loop-place.names in
    if_err c.put-2.result c.put-2.ensures.err (λ stop h. left_fails g.S.Sink.holds g.S.Sink.stops c.args.sink.now c.args.out.now c.loop-place.sink c.loop-place.out c.put-2.new.out (fault_of stop) _ _ (λ more. (93 ∷ []) ++ more) (λ more. more) c.loop-place.invariant.left (fails_piece g.S.Sink.holds g.S.Sink.stops _ _ _ (fault_of stop) (93 ∷ []) (93 ∷ []) h closing_bracket) (items_end R f xs i p (omega arith)))

pub write_entries-loop-place-init : goal.write_entries-loop-place-init
write_entries-loop-place-init g w c =
    record {
      known = refl;
      long = refl;
      left = left_first g.S.Sink.holds c.args.sink.now c.args.out.now c.put.new.self c.put.new.out (λ more. (123 ∷ []) ++ more) _ _ (puts_piece g.S.Sink.holds c.args.sink.now c.args.out.now c.put.new.self c.put.new.out (123 ∷ []) (123 ∷ []) c.in_ok-put.ensures.ok opening_brace) (λ more. refl);
    }

pub write_entries-returns-in_err-put_separator-clause-err : goal.write_entries-returns-in_err-put_separator-clause-err
write_entries-returns-in_err-put_separator-clause-err g w c =
    let N = g.V.RankedNodes.number in
    let v = c.args.view.now in
    let R = g.V.RankedNodes.rank v in
    let f = pair_of g.V.RankedNodes.tree N v in
    let xs = c.args.entries.now in
    let i = c.loop-place.place in
    let p = given_of c.loop-place.names in
    let whole : List ℕ → List ℕ = λ more. 123 ∷ pairs_text [] (written_pairs R (pairs_of g.V.RankedNodes.tree N v xs) (given_of c.args.names.now)) more in
    let m = pairs_separator_fails g.S.Sink.holds g.S.Sink.stops R f xs i p whole c.index-entries-place.result c.args.sink.now c.args.out.now c.loop-place.sink c.loop-place.out c.put_separator.new.out (fault_of c.in_err-put_separator.field-0.0) (drop_item xs i c.index-entries-place.result (omega arith) c.index-entries-place.is) c.loop-place.invariant.left c.in_err-put_separator.ensures.err in
    search (rules, m)

pub write_entries-returns-in_err-write_node-clause-err : goal.write_entries-returns-in_err-write_node-clause-err
write_entries-returns-in_err-write_node-clause-err g w c =
    let N = g.V.RankedNodes.number in
    let v = c.args.view.now in
    let R = g.V.RankedNodes.rank v in
    let f = pair_of g.V.RankedNodes.tree N v in
    let xs = c.args.entries.now in
    let i = c.loop-place.place in
    let p = given_of c.loop-place.names in
    let whole : List ℕ → List ℕ = λ more. 123 ∷ pairs_text [] (written_pairs R (pairs_of g.V.RankedNodes.tree N v xs) (given_of c.args.names.now)) more in
    let m = pairs_key_fails g.S.Sink.holds g.S.Sink.stops R f xs i p whole c.index-entries-place.result c.args.sink.now c.args.out.now c.loop-place.sink c.loop-place.out c.put_separator.new.sink c.put_separator.new.out c.write_node.new.out (fault_of c.in_err-write_node.field-0.0) (drop_item xs i c.index-entries-place.result (omega arith) c.index-entries-place.is) c.loop-place.invariant.left c.in_ok-put_separator.ensures.ok c.in_err-write_node.ensures.err in
    search (rules, m)

pub write_entries-returns-in_err-put-2-clause-err : goal.write_entries-returns-in_err-put-2-clause-err
write_entries-returns-in_err-put-2-clause-err g w c =
    let N = g.V.RankedNodes.number in
    let v = c.args.view.now in
    let R = g.V.RankedNodes.rank v in
    let f = pair_of g.V.RankedNodes.tree N v in
    let xs = c.args.entries.now in
    let i = c.loop-place.place in
    let p = given_of c.loop-place.names in
    let q = given_of c.write_node.new.names in
    let whole : List ℕ → List ℕ = λ more. 123 ∷ pairs_text [] (written_pairs R (pairs_of g.V.RankedNodes.tree N v xs) (given_of c.args.names.now)) more in
    let m = pairs_colon_fails g.S.Sink.holds g.S.Sink.stops R f xs i p whole c.index-entries-place.result q c.args.sink.now c.args.out.now c.loop-place.sink c.loop-place.out c.put_separator.new.sink c.put_separator.new.out c.write_node.new.sink c.write_node.new.out c.put-in-loop-place.new.out (fault_of c.in_err-put-2.field-0.0) (drop_item xs i c.index-entries-place.result (omega arith) c.index-entries-place.is) c.in_ok-write_node.ensures.known c.loop-place.invariant.left c.in_ok-put_separator.ensures.ok c.in_ok-write_node.ensures.ok c.in_err-put-2.ensures.err in
    search (rules, m)

pub write_entries-returns-in_err-write_node-2-clause-err : goal.write_entries-returns-in_err-write_node-2-clause-err
write_entries-returns-in_err-write_node-2-clause-err g w c =
    let N = g.V.RankedNodes.number in
    let v = c.args.view.now in
    let R = g.V.RankedNodes.rank v in
    let f = pair_of g.V.RankedNodes.tree N v in
    let xs = c.args.entries.now in
    let i = c.loop-place.place in
    let p = given_of c.loop-place.names in
    let q = given_of c.write_node.new.names in
    let whole : List ℕ → List ℕ = λ more. 123 ∷ pairs_text [] (written_pairs R (pairs_of g.V.RankedNodes.tree N v xs) (given_of c.args.names.now)) more in
    let m = pairs_value_fails g.S.Sink.holds g.S.Sink.stops R f xs i p whole c.index-entries-place.result q c.args.sink.now c.args.out.now c.loop-place.sink c.loop-place.out c.put_separator.new.sink c.put_separator.new.out c.write_node.new.sink c.write_node.new.out c.put-in-loop-place.new.self c.put-in-loop-place.new.out c.write_node-in-loop-place.new.out (fault_of c.in_err-write_node-2.field-0.0) (drop_item xs i c.index-entries-place.result (omega arith) c.index-entries-place.is) c.in_ok-write_node.ensures.known c.loop-place.invariant.left c.in_ok-put_separator.ensures.ok c.in_ok-write_node.ensures.ok c.in_ok-put-2.ensures.ok c.in_err-write_node-2.ensures.err in
    search (rules, m)

pub write_entries-loop-place-preserved : goal.write_entries-loop-place-preserved
write_entries-loop-place-preserved g w c =
    let N = g.V.RankedNodes.number in
    let v = c.args.view.now in
    let R = g.V.RankedNodes.rank v in
    let f = pair_of g.V.RankedNodes.tree N v in
    let xs = c.args.entries.now in
    let i = c.loop-place.place in
    let p = given_of c.loop-place.names in
    let q = given_of c.write_node.new.names in
    let r = given_of c.write_node-in-loop-place.new.names in
    record {
      known = pairs_given R f xs i c.index-entries-place.result p q r _ (drop_item xs i c.index-entries-place.result (omega arith) c.index-entries-place.is) c.in_ok-write_node.ensures.known c.in_ok-write_node-2.ensures.known c.loop-place.invariant.known;
      long = c.write_node-in-loop-place.ensures.long ∙ (c.write_node.ensures.long ∙ c.loop-place.invariant.long);
      left = pairs_step g.S.Sink.holds g.S.Sink.stops R f xs i p _ c.index-entries-place.result q r c.args.sink.now c.args.out.now c.loop-place.sink c.loop-place.out c.put_separator.new.sink c.put_separator.new.out c.write_node.new.sink c.write_node.new.out c.put-in-loop-place.new.self c.put-in-loop-place.new.out c.write_node-in-loop-place.new.sink c.write_node-in-loop-place.new.out (drop_item xs i c.index-entries-place.result (omega arith) c.index-entries-place.is) c.in_ok-write_node.ensures.known c.in_ok-write_node-2.ensures.known c.loop-place.invariant.left c.in_ok-put_separator.ensures.ok c.in_ok-write_node.ensures.ok c.in_ok-put-2.ensures.ok c.in_ok-write_node-2.ensures.ok;
    }

pub write_entries-returns-clause-known : goal.write_entries-returns-clause-known
write_entries-returns-clause-known g w c =
    let N = g.V.RankedNodes.number in
    let v = c.args.view.now in
    let R = g.V.RankedNodes.rank v in
    let f = pair_of g.V.RankedNodes.tree N v in
    let xs = c.args.entries.now in
    let i = c.loop-place.place in
    let p = given_of c.loop-place.names in
    all_ok c.put-2.result (pairs_known R f xs i p _ (omega arith) c.loop-place.invariant.known)

pub write_entries-returns-clause-ok : goal.write_entries-returns-clause-ok
write_entries-returns-clause-ok g w c =
    let N = g.V.RankedNodes.number in
    let v = c.args.view.now in
    let R = g.V.RankedNodes.rank v in
    let f = pair_of g.V.RankedNodes.tree N v in
    let xs = c.args.entries.now in
    let i = c.loop-place.place in
    let p = given_of c.loop-place.names in
    on_ok c.put-2.result c.put-2.ensures.ok (λ h. left_last g.S.Sink.holds c.args.sink.now c.args.out.now c.loop-place.sink c.loop-place.out c.put-2.new.self c.put-2.new.out _ _ (λ more. (125 ∷ []) ++ more) c.loop-place.invariant.left (puts_piece g.S.Sink.holds _ _ _ _ (125 ∷ []) (125 ∷ []) h closing_brace) (pairs_end R f xs i p (omega arith)))

pub write_entries-returns-clause-err : goal.write_entries-returns-clause-err
write_entries-returns-clause-err g w c =
    let N = g.V.RankedNodes.number in
    let v = c.args.view.now in
    let R = g.V.RankedNodes.rank v in
    let f = pair_of g.V.RankedNodes.tree N v in
    let xs = c.args.entries.now in
    let i = c.loop-place.place in
    let p = given_of c.loop-place.names in
    if_err c.put-2.result c.put-2.ensures.err (λ stop h. left_fails g.S.Sink.holds g.S.Sink.stops c.args.sink.now c.args.out.now c.loop-place.sink c.loop-place.out c.put-2.new.out (fault_of stop) _ _ (λ more. (125 ∷ []) ++ more) (λ more. more) c.loop-place.invariant.left (fails_piece g.S.Sink.holds g.S.Sink.stops _ _ _ (fault_of stop) (125 ∷ []) (125 ∷ []) h closing_brace) (pairs_end R f xs i p (omega arith)))

pub write_inside-returns-in-Scalar-clause-known : goal.write_inside-returns-in-Scalar-clause-known
write_inside-returns-in-Scalar-clause-known g w c =
    let N = g.V.RankedNodes.number in
    let v = c.args.view.now in
    let R = g.V.RankedNodes.rank v in
    let T = g.V.RankedNodes.tree v in
    let t = T (N c.args.id) in
    let p = given_of c.args.names.now in
    let e = scalar-shown N T t _ _ _ c.node-node.ensures.tree c.in-Scalar.is in
    all_ok c.put_scalar.result (ap (λ z. given_inside R z p) (sym e))

pub write_inside-returns-in-Scalar-clause-ok : goal.write_inside-returns-in-Scalar-clause-ok
write_inside-returns-in-Scalar-clause-ok g w c =
    let N = g.V.RankedNodes.number in
    let v = c.args.view.now in
    let R = g.V.RankedNodes.rank v in
    let T = g.V.RankedNodes.tree v in
    let t = T (N c.args.id) in
    let p = given_of c.args.names.now in
    let e = scalar-shown N T t _ _ _ c.node-node.ensures.tree c.in-Scalar.is in
    on_ok c.put_scalar.result c.put_scalar.ensures.ok (λ h. scalar_put g.S.Sink.holds g.S.Sink.stops R p t _ _ _ _ c.args.sink.now c.args.out.now c.put_scalar.new.sink c.put_scalar.new.out e refl refl h)

pub write_inside-returns-in-Scalar-clause-err : goal.write_inside-returns-in-Scalar-clause-err
write_inside-returns-in-Scalar-clause-err g w c =
    let N = g.V.RankedNodes.number in
    let v = c.args.view.now in
    let R = g.V.RankedNodes.rank v in
    let T = g.V.RankedNodes.tree v in
    let t = T (N c.args.id) in
    let p = given_of c.args.names.now in
    let e = scalar-shown N T t _ _ _ c.node-node.ensures.tree c.in-Scalar.is in
    if_err c.put_scalar.result c.put_scalar.ensures.err (λ stop h. scalar_fails g.S.Sink.holds g.S.Sink.stops R p t _ _ _ _ c.args.sink.now c.args.out.now c.put_scalar.new.out (fault_of stop) e refl refl h)

pub write_inside-returns-in_err-put_tag-in-Sequence-clause-err : goal.write_inside-returns-in_err-put_tag-in-Sequence-clause-err
write_inside-returns-in_err-put_tag-in-Sequence-clause-err g w c =
    let N = g.V.RankedNodes.number in
    let v = c.args.view.now in
    let R = g.V.RankedNodes.rank v in
    let T = g.V.RankedNodes.tree v in
    let t = T (N c.args.id) in
    let p = given_of c.args.names.now in
    let e = sequence-shown N T t _ _ _ c.node-node.ensures.tree c.in-Sequence.is in
    let m = sequence_tag_fails g.S.Sink.holds g.S.Sink.stops R p t _ _ _ c.args.sink.now c.args.out.now c.put_tag.new.out (fault_of c.in_err-put_tag-in-Sequence.field-0.0) e refl c.in_err-put_tag-in-Sequence.ensures.err in
    search (rules, m)

pub write_inside-returns-in_ok-put_tag-in-Sequence-clause-known : goal.write_inside-returns-in_ok-put_tag-in-Sequence-clause-known
write_inside-returns-in_ok-put_tag-in-Sequence-clause-known g w c =
    let N = g.V.RankedNodes.number in
    let v = c.args.view.now in
    let R = g.V.RankedNodes.rank v in
    let T = g.V.RankedNodes.tree v in
    let t = T (N c.args.id) in
    let p = given_of c.args.names.now in
    let e = sequence-shown N T t _ _ _ c.node-node.ensures.tree c.in-Sequence.is in
    on_ok c.write_items.result c.write_items.ensures.known (λ h. h ∙ ap (λ z. given_inside R z p) (sym e))

pub write_inside-returns-in_ok-put_tag-in-Sequence-clause-ok : goal.write_inside-returns-in_ok-put_tag-in-Sequence-clause-ok
write_inside-returns-in_ok-put_tag-in-Sequence-clause-ok g w c =
    let N = g.V.RankedNodes.number in
    let v = c.args.view.now in
    let R = g.V.RankedNodes.rank v in
    let T = g.V.RankedNodes.tree v in
    let t = T (N c.args.id) in
    let p = given_of c.args.names.now in
    let e = sequence-shown N T t _ _ _ c.node-node.ensures.tree c.in-Sequence.is in
    on_ok c.write_items.result c.write_items.ensures.ok (λ h. sequence_put g.S.Sink.holds g.S.Sink.stops R p t _ _ _ c.args.sink.now c.args.out.now c.put_tag.new.sink c.put_tag.new.out c.write_items.new.sink c.write_items.new.out e refl c.in_ok-put_tag-in-Sequence.ensures.ok h)

pub write_inside-returns-in_ok-put_tag-in-Sequence-clause-err : goal.write_inside-returns-in_ok-put_tag-in-Sequence-clause-err
write_inside-returns-in_ok-put_tag-in-Sequence-clause-err g w c =
    let N = g.V.RankedNodes.number in
    let v = c.args.view.now in
    let R = g.V.RankedNodes.rank v in
    let T = g.V.RankedNodes.tree v in
    let t = T (N c.args.id) in
    let p = given_of c.args.names.now in
    let e = sequence-shown N T t _ _ _ c.node-node.ensures.tree c.in-Sequence.is in
    if_err c.write_items.result c.write_items.ensures.err (λ stop h. sequence_fails g.S.Sink.holds g.S.Sink.stops R p t _ _ _ c.args.sink.now c.args.out.now c.put_tag.new.sink c.put_tag.new.out c.write_items.new.out (fault_of stop) e refl c.in_ok-put_tag-in-Sequence.ensures.ok h)

pub write_inside-returns-in_err-put_tag-in-Mapping-clause-err : goal.write_inside-returns-in_err-put_tag-in-Mapping-clause-err
write_inside-returns-in_err-put_tag-in-Mapping-clause-err g w c =
    let N = g.V.RankedNodes.number in
    let v = c.args.view.now in
    let R = g.V.RankedNodes.rank v in
    let T = g.V.RankedNodes.tree v in
    let t = T (N c.args.id) in
    let p = given_of c.args.names.now in
    let e = mapping-shown N T t _ _ _ c.node-node.ensures.tree c.in-Mapping.is in
    let m = mapping_tag_fails g.S.Sink.holds g.S.Sink.stops R p t _ _ _ c.args.sink.now c.args.out.now c.put_tag-in-Mapping.new.out (fault_of c.in_err-put_tag-in-Mapping.field-0.0) e refl c.in_err-put_tag-in-Mapping.ensures.err in
    search (rules, m)

pub write_inside-returns-in_ok-put_tag-in-Mapping-clause-known : goal.write_inside-returns-in_ok-put_tag-in-Mapping-clause-known
write_inside-returns-in_ok-put_tag-in-Mapping-clause-known g w c =
    let N = g.V.RankedNodes.number in
    let v = c.args.view.now in
    let R = g.V.RankedNodes.rank v in
    let T = g.V.RankedNodes.tree v in
    let t = T (N c.args.id) in
    let p = given_of c.args.names.now in
    let e = mapping-shown N T t _ _ _ c.node-node.ensures.tree c.in-Mapping.is in
    on_ok c.write_entries.result c.write_entries.ensures.known (λ h. h ∙ ap (λ z. given_inside R z p) (sym e))

pub write_inside-returns-in_ok-put_tag-in-Mapping-clause-ok : goal.write_inside-returns-in_ok-put_tag-in-Mapping-clause-ok
write_inside-returns-in_ok-put_tag-in-Mapping-clause-ok g w c =
    let N = g.V.RankedNodes.number in
    let v = c.args.view.now in
    let R = g.V.RankedNodes.rank v in
    let T = g.V.RankedNodes.tree v in
    let t = T (N c.args.id) in
    let p = given_of c.args.names.now in
    let e = mapping-shown N T t _ _ _ c.node-node.ensures.tree c.in-Mapping.is in
    on_ok c.write_entries.result c.write_entries.ensures.ok (λ h. mapping_put g.S.Sink.holds g.S.Sink.stops R p t _ _ _ c.args.sink.now c.args.out.now c.put_tag-in-Mapping.new.sink c.put_tag-in-Mapping.new.out c.write_entries.new.sink c.write_entries.new.out e refl c.in_ok-put_tag-in-Mapping.ensures.ok h)

pub write_inside-returns-in_ok-put_tag-in-Mapping-clause-err : goal.write_inside-returns-in_ok-put_tag-in-Mapping-clause-err
write_inside-returns-in_ok-put_tag-in-Mapping-clause-err g w c =
    let N = g.V.RankedNodes.number in
    let v = c.args.view.now in
    let R = g.V.RankedNodes.rank v in
    let T = g.V.RankedNodes.tree v in
    let t = T (N c.args.id) in
    let p = given_of c.args.names.now in
    let e = mapping-shown N T t _ _ _ c.node-node.ensures.tree c.in-Mapping.is in
    if_err c.write_entries.result c.write_entries.ensures.err (λ stop h. mapping_fails g.S.Sink.holds g.S.Sink.stops R p t _ _ _ c.args.sink.now c.args.out.now c.put_tag-in-Mapping.new.sink c.put_tag-in-Mapping.new.out c.write_entries.new.out (fault_of stop) e refl c.in_ok-put_tag-in-Mapping.ensures.ok h)

pub write_node-returns-in_err-counted-clause-err : goal.write_node-returns-in_err-counted-clause-err
write_node-returns-in_err-counted-clause-err g w c =
    let N = g.V.RankedNodes.number in
    let v = c.args.view.now in
    let R = g.V.RankedNodes.rank v in
    let T = g.V.RankedNodes.tree v in
    let t = T (N c.args.id) in
    let p = given_of c.args.names.now in
    let h = c.in_err-counted.ensures.err in
    let m = counted_unwritten R g.S.Sink.holds g.S.Sink.stops t p _ (short_from t _ c.short_len-short.ensures.is h.0) c.short_len-short.ensures.is c.args.sink.now c.args.out.now c.count_short.new.out (fault_of c.in_err-counted.field-0.0) h.1 in
    search (rules, m)

pub write_node-returns-then-counted-clause-known : goal.write_node-returns-then-counted-clause-known
write_node-returns-then-counted-clause-known g w c =
    let N = g.V.RankedNodes.number in
    let v = c.args.view.now in
    let R = g.V.RankedNodes.rank v in
    let T = g.V.RankedNodes.tree v in
    let t = T (N c.args.id) in
    short_given R t (given_of c.args.names.now) (short_from t _ c.short_len-short.ensures.is (c.in_ok-counted.ensures.short c.if-counted.true))

pub write_node-returns-then-counted-clause-ok : goal.write_node-returns-then-counted-clause-ok
write_node-returns-then-counted-clause-ok g w c =
    let N = g.V.RankedNodes.number in
    let v = c.args.view.now in
    let R = g.V.RankedNodes.rank v in
    let T = g.V.RankedNodes.tree v in
    let t = T (N c.args.id) in
    let p = given_of c.args.names.now in
    counted_written R g.S.Sink.holds g.S.Sink.stops t p _ (short_from t _ c.short_len-short.ensures.is (c.in_ok-counted.ensures.short c.if-counted.true)) c.short_len-short.ensures.is c.args.sink.now c.args.out.now c.count_short.new.sink c.count_short.new.out (c.in_ok-counted.ensures.taken c.if-counted.true)

pub write_node-returns-in-Alias-clause-known : goal.write_node-returns-in-Alias-clause-known
write_node-returns-in-Alias-clause-known g w c =
    let N = g.V.RankedNodes.number in
    let v = c.args.view.now in
    let R = g.V.RankedNodes.rank v in
    let T = g.V.RankedNodes.tree v in
    let t = T (N c.args.id) in
    let p = given_of c.args.names.now in
    let b : nat_lt 0 c.short_len-short.result ≡ short t = short_told t _ c.short_len-short.ensures.is in
    let k : c.rank.result ≡ R t = c.rank.ensures.is in
    let o : c.start-opening.result ≡ start R t p = c.start-opening.ensures.opening ∙ (λ z. opening_of (b z) (k z) p) in
    let q : given_of c.start-opening.new.names ≡ started R t p = c.start-opening.ensures.given ∙ (λ z. begun_unless_short (b z) (k z) p) in
    all_ok c.put_alias.result (q ∙ given_alias R t p c.start-opening.result c.in-Alias.number o c.in-Alias.is)

pub write_node-returns-in-Alias-clause-ok : goal.write_node-returns-in-Alias-clause-ok
write_node-returns-in-Alias-clause-ok g w c =
    let N = g.V.RankedNodes.number in
    let v = c.args.view.now in
    let R = g.V.RankedNodes.rank v in
    let T = g.V.RankedNodes.tree v in
    let t = T (N c.args.id) in
    let p = given_of c.args.names.now in
    let b : nat_lt 0 c.short_len-short.result ≡ short t = short_told t _ c.short_len-short.ensures.is in
    let k : c.rank.result ≡ R t = c.rank.ensures.is in
    let o : c.start-opening.result ≡ start R t p = c.start-opening.ensures.opening ∙ (λ z. opening_of (b z) (k z) p) in
    let q : given_of c.start-opening.new.names ≡ started R t p = c.start-opening.ensures.given ∙ (λ z. begun_unless_short (b z) (k z) p) in
    on_ok c.put_alias.result c.put_alias.ensures.ok (λ h. puts_after g.S.Sink.holds c.args.sink.now c.args.out.now c.count_short.new.sink c.count_short.new.out c.put_alias.new.sink c.put_alias.new.out _ (c.in_ok-counted.ensures.kept c.if-counted.false) (alias_written g.S.Sink.holds g.S.Sink.stops R t p c.start-opening.result o c.in-Alias.number c.count_short.new.sink c.count_short.new.out c.put_alias.new.sink c.put_alias.new.out c.in-Alias.is h))

pub write_node-returns-in-Alias-clause-err : goal.write_node-returns-in-Alias-clause-err
write_node-returns-in-Alias-clause-err g w c =
    let N = g.V.RankedNodes.number in
    let v = c.args.view.now in
    let R = g.V.RankedNodes.rank v in
    let T = g.V.RankedNodes.tree v in
    let t = T (N c.args.id) in
    let p = given_of c.args.names.now in
    let b : nat_lt 0 c.short_len-short.result ≡ short t = short_told t _ c.short_len-short.ensures.is in
    let k : c.rank.result ≡ R t = c.rank.ensures.is in
    let o : c.start-opening.result ≡ start R t p = c.start-opening.ensures.opening ∙ (λ z. opening_of (b z) (k z) p) in
    let q : given_of c.start-opening.new.names ≡ started R t p = c.start-opening.ensures.given ∙ (λ z. begun_unless_short (b z) (k z) p) in
    if_err c.put_alias.result c.put_alias.ensures.err (λ stop h. fails_after g.S.Sink.holds g.S.Sink.stops c.args.sink.now c.args.out.now c.count_short.new.sink c.count_short.new.out c.put_alias.new.out (fault_of stop) _ (c.in_ok-counted.ensures.kept c.if-counted.false) (alias_unwritten g.S.Sink.holds g.S.Sink.stops R t p c.start-opening.result o c.in-Alias.number c.count_short.new.sink c.count_short.new.out c.put_alias.new.out (fault_of stop) c.in-Alias.is h))

pub write_node-returns-in_err-put_anchor-in-Anchored-clause-err : goal.write_node-returns-in_err-put_anchor-in-Anchored-clause-err
write_node-returns-in_err-put_anchor-in-Anchored-clause-err g w c =
    let N = g.V.RankedNodes.number in
    let v = c.args.view.now in
    let R = g.V.RankedNodes.rank v in
    let T = g.V.RankedNodes.tree v in
    let t = T (N c.args.id) in
    let p = given_of c.args.names.now in
    let b : nat_lt 0 c.short_len-short.result ≡ short t = short_told t _ c.short_len-short.ensures.is in
    let k : c.rank.result ≡ R t = c.rank.ensures.is in
    let o : c.start-opening.result ≡ start R t p = c.start-opening.ensures.opening ∙ (λ z. opening_of (b z) (k z) p) in
    let q : given_of c.start-opening.new.names ≡ started R t p = c.start-opening.ensures.given ∙ (λ z. begun_unless_short (b z) (k z) p) in
    let m = fails_after g.S.Sink.holds g.S.Sink.stops c.args.sink.now c.args.out.now c.count_short.new.sink c.count_short.new.out c.put_anchor.new.out (fault_of c.in_err-put_anchor-in-Anchored.field-0.0) _ (c.in_ok-counted.ensures.kept c.if-counted.false) (anchor_unwritten g.S.Sink.holds g.S.Sink.stops R t p c.start-opening.result o c.in-Anchored.number c.count_short.new.sink c.count_short.new.out c.put_anchor.new.out (fault_of c.in_err-put_anchor-in-Anchored.field-0.0) c.in-Anchored.is c.in_err-put_anchor-in-Anchored.ensures.err) in
    search (rules, m)

pub write_node-returns-in_ok-put_anchor-in-Anchored-clause-known : goal.write_node-returns-in_ok-put_anchor-in-Anchored-clause-known
write_node-returns-in_ok-put_anchor-in-Anchored-clause-known g w c =
    let N = g.V.RankedNodes.number in
    let v = c.args.view.now in
    let R = g.V.RankedNodes.rank v in
    let T = g.V.RankedNodes.tree v in
    let t = T (N c.args.id) in
    let p = given_of c.args.names.now in
    let b : nat_lt 0 c.short_len-short.result ≡ short t = short_told t _ c.short_len-short.ensures.is in
    let k : c.rank.result ≡ R t = c.rank.ensures.is in
    let o : c.start-opening.result ≡ start R t p = c.start-opening.ensures.opening ∙ (λ z. opening_of (b z) (k z) p) in
    let q : given_of c.start-opening.new.names ≡ started R t p = c.start-opening.ensures.given ∙ (λ z. begun_unless_short (b z) (k z) p) in
    on_ok c.write_inside.result c.write_inside.ensures.known (λ h. h ∙ ap (given_inside R t) q ∙ given_anchored R t p c.start-opening.result c.in-Anchored.number o c.in-Anchored.is)

pub write_node-returns-in_ok-put_anchor-in-Anchored-clause-ok : goal.write_node-returns-in_ok-put_anchor-in-Anchored-clause-ok
write_node-returns-in_ok-put_anchor-in-Anchored-clause-ok g w c =
    let N = g.V.RankedNodes.number in
    let v = c.args.view.now in
    let R = g.V.RankedNodes.rank v in
    let T = g.V.RankedNodes.tree v in
    let t = T (N c.args.id) in
    let p = given_of c.args.names.now in
    let b : nat_lt 0 c.short_len-short.result ≡ short t = short_told t _ c.short_len-short.ensures.is in
    let k : c.rank.result ≡ R t = c.rank.ensures.is in
    let o : c.start-opening.result ≡ start R t p = c.start-opening.ensures.opening ∙ (λ z. opening_of (b z) (k z) p) in
    let q : given_of c.start-opening.new.names ≡ started R t p = c.start-opening.ensures.given ∙ (λ z. begun_unless_short (b z) (k z) p) in
    on_ok c.write_inside.result c.write_inside.ensures.ok (λ h. puts_after g.S.Sink.holds c.args.sink.now c.args.out.now c.count_short.new.sink c.count_short.new.out c.write_inside.new.sink c.write_inside.new.out _ (c.in_ok-counted.ensures.kept c.if-counted.false) (anchored_written g.S.Sink.holds g.S.Sink.stops R t p c.start-opening.result o c.in-Anchored.number _ c.count_short.new.sink c.count_short.new.out c.put_anchor.new.sink c.put_anchor.new.out c.write_inside.new.sink c.write_inside.new.out c.in-Anchored.is q c.in_ok-put_anchor-in-Anchored.ensures.ok h))

pub write_node-returns-in_ok-put_anchor-in-Anchored-clause-err : goal.write_node-returns-in_ok-put_anchor-in-Anchored-clause-err
write_node-returns-in_ok-put_anchor-in-Anchored-clause-err g w c =
    let N = g.V.RankedNodes.number in
    let v = c.args.view.now in
    let R = g.V.RankedNodes.rank v in
    let T = g.V.RankedNodes.tree v in
    let t = T (N c.args.id) in
    let p = given_of c.args.names.now in
    let b : nat_lt 0 c.short_len-short.result ≡ short t = short_told t _ c.short_len-short.ensures.is in
    let k : c.rank.result ≡ R t = c.rank.ensures.is in
    let o : c.start-opening.result ≡ start R t p = c.start-opening.ensures.opening ∙ (λ z. opening_of (b z) (k z) p) in
    let q : given_of c.start-opening.new.names ≡ started R t p = c.start-opening.ensures.given ∙ (λ z. begun_unless_short (b z) (k z) p) in
    if_err c.write_inside.result c.write_inside.ensures.err (λ stop h. fails_after g.S.Sink.holds g.S.Sink.stops c.args.sink.now c.args.out.now c.count_short.new.sink c.count_short.new.out c.write_inside.new.out (fault_of stop) _ (c.in_ok-counted.ensures.kept c.if-counted.false) (anchored_unwritten g.S.Sink.holds g.S.Sink.stops R t p c.start-opening.result o c.in-Anchored.number _ c.count_short.new.sink c.count_short.new.out c.put_anchor.new.sink c.put_anchor.new.out c.write_inside.new.out (fault_of stop) c.in-Anchored.is q c.in_ok-put_anchor-in-Anchored.ensures.ok h))

pub write_node-returns-in-Plain-clause-known : goal.write_node-returns-in-Plain-clause-known
write_node-returns-in-Plain-clause-known g w c =
    let N = g.V.RankedNodes.number in
    let v = c.args.view.now in
    let R = g.V.RankedNodes.rank v in
    let T = g.V.RankedNodes.tree v in
    let t = T (N c.args.id) in
    let p = given_of c.args.names.now in
    let b : nat_lt 0 c.short_len-short.result ≡ short t = short_told t _ c.short_len-short.ensures.is in
    let k : c.rank.result ≡ R t = c.rank.ensures.is in
    let o : c.start-opening.result ≡ start R t p = c.start-opening.ensures.opening ∙ (λ z. opening_of (b z) (k z) p) in
    let q : given_of c.start-opening.new.names ≡ started R t p = c.start-opening.ensures.given ∙ (λ z. begun_unless_short (b z) (k z) p) in
    on_ok c.write_inside-in-Plain.result c.write_inside-in-Plain.ensures.known (λ h. h ∙ ap (given_inside R t) q ∙ given_plain R t p c.start-opening.result o c.in-Plain.is)

pub write_node-returns-in-Plain-clause-ok : goal.write_node-returns-in-Plain-clause-ok
write_node-returns-in-Plain-clause-ok g w c =
    let N = g.V.RankedNodes.number in
    let v = c.args.view.now in
    let R = g.V.RankedNodes.rank v in
    let T = g.V.RankedNodes.tree v in
    let t = T (N c.args.id) in
    let p = given_of c.args.names.now in
    let b : nat_lt 0 c.short_len-short.result ≡ short t = short_told t _ c.short_len-short.ensures.is in
    let k : c.rank.result ≡ R t = c.rank.ensures.is in
    let o : c.start-opening.result ≡ start R t p = c.start-opening.ensures.opening ∙ (λ z. opening_of (b z) (k z) p) in
    let q : given_of c.start-opening.new.names ≡ started R t p = c.start-opening.ensures.given ∙ (λ z. begun_unless_short (b z) (k z) p) in
    on_ok c.write_inside-in-Plain.result c.write_inside-in-Plain.ensures.ok (λ h. puts_after g.S.Sink.holds c.args.sink.now c.args.out.now c.count_short.new.sink c.count_short.new.out c.write_inside-in-Plain.new.sink c.write_inside-in-Plain.new.out _ (c.in_ok-counted.ensures.kept c.if-counted.false) (plain_written g.S.Sink.holds g.S.Sink.stops R t p c.start-opening.result o _ c.count_short.new.sink c.count_short.new.out c.write_inside-in-Plain.new.sink c.write_inside-in-Plain.new.out c.in-Plain.is q h))

pub write_node-returns-in-Plain-clause-err : goal.write_node-returns-in-Plain-clause-err
write_node-returns-in-Plain-clause-err g w c =
    let N = g.V.RankedNodes.number in
    let v = c.args.view.now in
    let R = g.V.RankedNodes.rank v in
    let T = g.V.RankedNodes.tree v in
    let t = T (N c.args.id) in
    let p = given_of c.args.names.now in
    let b : nat_lt 0 c.short_len-short.result ≡ short t = short_told t _ c.short_len-short.ensures.is in
    let k : c.rank.result ≡ R t = c.rank.ensures.is in
    let o : c.start-opening.result ≡ start R t p = c.start-opening.ensures.opening ∙ (λ z. opening_of (b z) (k z) p) in
    let q : given_of c.start-opening.new.names ≡ started R t p = c.start-opening.ensures.given ∙ (λ z. begun_unless_short (b z) (k z) p) in
    if_err c.write_inside-in-Plain.result c.write_inside-in-Plain.ensures.err (λ stop h. fails_after g.S.Sink.holds g.S.Sink.stops c.args.sink.now c.args.out.now c.count_short.new.sink c.count_short.new.out c.write_inside-in-Plain.new.out (fault_of stop) _ (c.in_ok-counted.ensures.kept c.if-counted.false) (plain_unwritten g.S.Sink.holds g.S.Sink.stops R t p c.start-opening.result o _ c.count_short.new.sink c.count_short.new.out c.write_inside-in-Plain.new.out (fault_of stop) c.in-Plain.is q h))

pub write_node-write_inside-requires : goal.write_node-write_inside-requires
write_node-write_inside-requires g w c =
    let N = g.V.RankedNodes.number in
    let v = c.args.view.now in
    let T = g.V.RankedNodes.tree v in
    let ready = still c.start-opening.new.names c.requires.ready c.start-opening.ensures.long in
    let lower : 3 * height (T (N c.args.id)) + 1 < 3 * height (T (N c.args.id)) + 2 = omega arith in
    search rules

pub write_node-write_inside-requires-in-Plain : goal.write_node-write_inside-requires-in-Plain
write_node-write_inside-requires-in-Plain g w c =
    let N = g.V.RankedNodes.number in
    let v = c.args.view.now in
    let T = g.V.RankedNodes.tree v in
    let ready = still c.start-opening.new.names c.requires.ready c.start-opening.ensures.long in
    let lower : 3 * height (T (N c.args.id)) + 1 < 3 * height (T (N c.args.id)) + 2 = omega arith in
    search rules

pub write_inside-write_items-requires : goal.write_inside-write_items-requires
write_inside-write_items-requires g w c =
    let N = g.V.RankedNodes.number in
    let v = c.args.view.now in
    let T = g.V.RankedNodes.tree v in
    let within = items-within N T _ _ _ c.node-node.ensures.within c.in-Sequence.is in
    let high : height (T (N c.args.id)) ≡ heights (trees_of g.V.RankedNodes.tree N v c.in-Sequence.items.now) = sequence-high N T _ _ _ _ c.node-node.ensures.tree c.in-Sequence.is in
    let lower : 3 * heights (trees_of g.V.RankedNodes.tree N v c.in-Sequence.items.now) < 3 * height (T (N c.args.id)) + 1 = omega (arith, high) in
    search rules

pub write_inside-write_entries-requires : goal.write_inside-write_entries-requires
write_inside-write_entries-requires g w c =
    let N = g.V.RankedNodes.number in
    let v = c.args.view.now in
    let T = g.V.RankedNodes.tree v in
    let within = entries-within N T _ _ _ c.node-node.ensures.within c.in-Mapping.is in
    let high : height (T (N c.args.id)) ≡ heights_of_pairs (pairs_of g.V.RankedNodes.tree N v c.in-Mapping.entries.now) = mapping-high N T _ _ _ _ c.node-node.ensures.tree c.in-Mapping.is in
    let lower : 3 * heights_of_pairs (pairs_of g.V.RankedNodes.tree N v c.in-Mapping.entries.now) < 3 * height (T (N c.args.id)) + 1 = omega (arith, high) in
    search rules

pub write_items-write_node-requires : goal.write_items-write_node-requires
write_items-write_node-requires g w c =
    let N = g.V.RankedNodes.number in
    let v = c.args.view.now in
    let T = g.V.RankedNodes.tree v in
    let xs = c.args.items.now in
    let x = c.index-items-place.result in
    let ready = still c.loop-place.names c.requires.ready c.loop-place.invariant.long in
    let within = item-in (λ i. N i < g.V.RankedNodes.count v) xs c.loop-place.place x c.requires.within (omega arith) c.index-items-place.is in
    let low = item-lower N T xs c.loop-place.place x (omega arith) c.index-items-place.is in
    let lower : 3 * height (T (N x)) + 2 < 3 * heights (trees_of g.V.RankedNodes.tree N v xs) = omega (arith, low) in
    search rules

pub write_entries-write_node-requires : goal.write_entries-write_node-requires
write_entries-write_node-requires g w c =
    let N = g.V.RankedNodes.number in
    let v = c.args.view.now in
    let T = g.V.RankedNodes.tree v in
    let xs = c.args.entries.now in
    let x = c.index-entries-place.result in
    let ready = still c.loop-place.names c.requires.ready c.loop-place.invariant.long in
    let within = (item-in (λ p. (N p.0 < g.V.RankedNodes.count v) × (N p.1 < g.V.RankedNodes.count v)) xs c.loop-place.place x c.requires.within (omega arith) c.index-entries-place.is).0 in
    let low = key-lower N T xs c.loop-place.place x (omega arith) c.index-entries-place.is in
    let lower : 3 * height (T (N x.0)) + 2 < 3 * heights_of_pairs (pairs_of g.V.RankedNodes.tree N v xs) = omega (arith, low) in
    search rules

pub write_entries-write_node-requires-in-loop-place : goal.write_entries-write_node-requires-in-loop-place
write_entries-write_node-requires-in-loop-place g w c =
    let N = g.V.RankedNodes.number in
    let v = c.args.view.now in
    let T = g.V.RankedNodes.tree v in
    let xs = c.args.entries.now in
    let x = c.index-entries-place.result in
    let ready = still c.write_node.new.names c.requires.ready (c.write_node.ensures.long ∙ c.loop-place.invariant.long) in
    let within = (item-in (λ p. (N p.0 < g.V.RankedNodes.count v) × (N p.1 < g.V.RankedNodes.count v)) xs c.loop-place.place x c.requires.within (omega arith) c.index-entries-place.is).1 in
    let low = value-lower N T xs c.loop-place.place x (omega arith) c.index-entries-place.is in
    let lower : 3 * height (T (N x.1)) + 2 < 3 * heights_of_pairs (pairs_of g.V.RankedNodes.tree N v xs) = omega (arith, low) in
    search rules
