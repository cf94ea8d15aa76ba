use Rattle.std.proofs.Common.{◌≡◌, ◌+◌, ◌*◌, ◌<◌, false, true, sym, ◌∙◌, ap, rules, arith}
use Rattle.yaml_definitions.specs.model.Tree.{height, heights, heights_of_pairs}
use Rattle.yaml_definitions.specs.canonical.Spell.{short}
use Rattle.yaml_spell.specs.Known.{is_unseen}
use Rattle.yaml_spell.specs.NamesView.{met_at, table_of}
use Rattle.yaml_spell.specs.RankedNodes.{tree_of, pair_of, trees_of, pairs_of}
use Rattle.yaml_spell.specs.Walked.{noticed_all, noticed_pairs}
use Rattle.yaml_spell.proofs.NamesLaws.{none_then, still}
use Rattle.yaml_spell.proofs.ShownLaws.{scalar-shown, sequence-shown, mapping-shown, items-within, entries-within, sequence-high, mapping-high, item-lower, key-lower, value-lower, item-in}
use Rattle.yaml_spell.proofs.WalkLaws.{drop_item, noticed_short, noticed_again, noticed_scalar, noticed_sequence, noticed_mapping, items_noticed, items_done, entries_noticed, entries_done}
use Rattle.yaml_spell.proofs.ShortWalk.{short_from, long_from}
use Rattle.yaml_spell.proofs.walk.+notice.Goals as goal

pub notice-returns-then-short_len-gt0-clause-table : goal.notice-returns-then-short_len-gt0-clause-table
notice-returns-then-short_len-gt0-clause-table g w c =
    let N = g.V.RankedNodes.number in
    let v = c.args.view.now in
    let R = g.V.RankedNodes.rank v in
    let T = g.V.RankedNodes.tree v in
    noticed_short R (T (N c.args.id)) _ (short_from (T (N c.args.id)) _ c.short_len.ensures.is c.if-short_len-gt0.true)

pub notice-returns-then-not-meet-clause-table : goal.notice-returns-then-not-meet-clause-table
notice-returns-then-not-meet-clause-table g w c =
    let N = g.V.RankedNodes.number in
    let v = c.args.view.now in
    let R = g.V.RankedNodes.rank v in
    let T = g.V.RankedNodes.tree v in
    let m = table_of c.args.names.now in
    let t = T (N c.args.id) in
    let l : short t ≡ false = long_from t _ c.short_len.ensures.is c.if-short_len-gt0.false in
    c.meet.ensures.table ∙ ap (λ z. met_at z m) c.rank.ensures.is ∙ noticed_again R t m l (ap (λ z. is_unseen (m z)) (sym c.rank.ensures.is) ∙ sym c.if-not-meet.ensures.first)

pub notice-returns-in-Scalar-clause-table : goal.notice-returns-in-Scalar-clause-table
notice-returns-in-Scalar-clause-table g w c =
    let N = g.V.RankedNodes.number in
    let v = c.args.view.now in
    let R = g.V.RankedNodes.rank v in
    let T = g.V.RankedNodes.tree v in
    let m = table_of c.args.names.now in
    let t = T (N c.args.id) in
    let l : short t ≡ false = long_from t _ c.short_len.ensures.is c.if-short_len-gt0.false in
    let u : is_unseen (m (R t)) ≡ true = ap (λ z. is_unseen (m z)) (sym c.rank.ensures.is) ∙ sym c.if-not-meet.ensures.first in
    c.meet.ensures.table ∙ ap (λ z. met_at z m) c.rank.ensures.is ∙ noticed_scalar R t _ _ m (scalar-shown N T t _ _ _ c.node-node.ensures.tree c.in-Scalar.is) l u

pub notice-returns-in-Sequence-clause-table : goal.notice-returns-in-Sequence-clause-table
notice-returns-in-Sequence-clause-table g w c =
    let N = g.V.RankedNodes.number in
    let v = c.args.view.now in
    let R = g.V.RankedNodes.rank v in
    let T = g.V.RankedNodes.tree v in
    let m = table_of c.args.names.now in
    let t = T (N c.args.id) in
    let l : short t ≡ false = long_from t _ c.short_len.ensures.is c.if-short_len-gt0.false in
    let u : is_unseen (m (R t)) ≡ true = ap (λ z. is_unseen (m z)) (sym c.rank.ensures.is) ∙ sym c.if-not-meet.ensures.first in
    let s = sequence-shown N T t _ _ _ c.node-node.ensures.tree c.in-Sequence.is in
    noticed_sequence R t _ _ m _ s l u (c.notice_items.ensures.table ∙ ap (noticed_all R _) (c.meet.ensures.table ∙ ap (λ z. met_at z m) c.rank.ensures.is))

pub notice-returns-in-Mapping-clause-table : goal.notice-returns-in-Mapping-clause-table
notice-returns-in-Mapping-clause-table g w c =
    let N = g.V.RankedNodes.number in
    let v = c.args.view.now in
    let R = g.V.RankedNodes.rank v in
    let T = g.V.RankedNodes.tree v in
    let m = table_of c.args.names.now in
    let t = T (N c.args.id) in
    let l : short t ≡ false = long_from t _ c.short_len.ensures.is c.if-short_len-gt0.false in
    let u : is_unseen (m (R t)) ≡ true = ap (λ z. is_unseen (m z)) (sym c.rank.ensures.is) ∙ sym c.if-not-meet.ensures.first in
    let s = mapping-shown N T t _ _ _ c.node-node.ensures.tree c.in-Mapping.is in
    noticed_mapping R t _ _ m _ s l u (c.notice_entries.ensures.table ∙ ap (noticed_pairs R _) (c.meet.ensures.table ∙ ap (λ z. met_at z m) c.rank.ensures.is))

pub notice_items-loop-item-preserved : goal.notice_items-loop-item-preserved
notice_items-loop-item-preserved g w c =
    let N = g.V.RankedNodes.number in
    let v = c.args.view.now in
    record {
      table = items_noticed (g.V.RankedNodes.rank v) (tree_of g.V.RankedNodes.tree N v) c.args.items.now c.loop-item.item-index c.item-item.result _ _ _ (drop_item c.args.items.now c.loop-item.item-index c.item-item.result (omega arith) c.item-item.is) c.loop-item.invariant.table c.notice.ensures.table;
      others = none_then c.notice.ensures.others c.loop-item.invariant.others;
    }

pub notice_items-returns-clause-table : goal.notice_items-returns-clause-table
notice_items-returns-clause-table g w c =
    let N = g.V.RankedNodes.number in
    let v = c.args.view.now in
    items_done (g.V.RankedNodes.rank v) (tree_of g.V.RankedNodes.tree N v) c.args.items.now c.loop-item.item-index _ _ (omega arith) c.loop-item.invariant.table

pub notice_entries-loop-entry-preserved : goal.notice_entries-loop-entry-preserved
notice_entries-loop-entry-preserved g w c =
    let N = g.V.RankedNodes.number in
    let v = c.args.view.now in
    record {
      table = entries_noticed (g.V.RankedNodes.rank v) (pair_of g.V.RankedNodes.tree N v) c.args.entries.now c.loop-entry.entry-index c.entry-item.result _ _ _ _ (drop_item c.args.entries.now c.loop-entry.entry-index c.entry-item.result (omega arith) c.entry-item.is) c.loop-entry.invariant.table c.notice.ensures.table c.notice-in-loop-entry.ensures.table;
      others = none_then c.notice-in-loop-entry.ensures.others (none_then c.notice.ensures.others c.loop-entry.invariant.others);
    }

pub notice_entries-returns-clause-table : goal.notice_entries-returns-clause-table
notice_entries-returns-clause-table g w c =
    let N = g.V.RankedNodes.number in
    let v = c.args.view.now in
    entries_done (g.V.RankedNodes.rank v) (pair_of g.V.RankedNodes.tree N v) c.args.entries.now c.loop-entry.entry-index _ _ (omega arith) c.loop-entry.invariant.table

pub notice-notice_items-requires : goal.notice-notice_items-requires
notice-notice_items-requires g w c =
    let N = g.V.RankedNodes.number in
    let v = c.args.view.now in
    let T = g.V.RankedNodes.tree v in
    let ready = still c.meet.new.self c.requires.ready c.meet.ensures.long in
    let within = items-within N T _ _ _ c.node-node.ensures.within c.in-Sequence.is in
    let high : height (T (N c.args.id)) ≡ heights (trees_of g.V.RankedNodes.tree N v c.in-Sequence.items.now) = sequence-high N T _ _ _ _ c.node-node.ensures.tree c.in-Sequence.is in
    let lower : 2 * heights (trees_of g.V.RankedNodes.tree N v c.in-Sequence.items.now) < 2 * height (T (N c.args.id)) + 1 = omega (arith, high) in
    search rules

pub notice-notice_entries-requires : goal.notice-notice_entries-requires
notice-notice_entries-requires g w c =
    let N = g.V.RankedNodes.number in
    let v = c.args.view.now in
    let T = g.V.RankedNodes.tree v in
    let ready = still c.meet.new.self c.requires.ready c.meet.ensures.long in
    let within = entries-within N T _ _ _ c.node-node.ensures.within c.in-Mapping.is in
    let high : height (T (N c.args.id)) ≡ heights_of_pairs (pairs_of g.V.RankedNodes.tree N v c.in-Mapping.entries.now) = mapping-high N T _ _ _ _ c.node-node.ensures.tree c.in-Mapping.is in
    let lower : 2 * heights_of_pairs (pairs_of g.V.RankedNodes.tree N v c.in-Mapping.entries.now) < 2 * height (T (N c.args.id)) + 1 = omega (arith, high) in
    search rules

pub notice_items-notice-requires : goal.notice_items-notice-requires
notice_items-notice-requires g w c =
    let N = g.V.RankedNodes.number in
    let v = c.args.view.now in
    let T = g.V.RankedNodes.tree v in
    let xs = c.args.items.now in
    let x = c.item-item.result in
    let ready = still c.loop-item.names c.requires.ready c.loop-item.invariant.others.long in
    let within = item-in (λ i. N i < g.V.RankedNodes.count v) xs c.loop-item.item-index x c.requires.within (omega arith) c.item-item.is in
    let low = item-lower N T xs c.loop-item.item-index x (omega arith) c.item-item.is in
    let lower : 2 * height (T (N x)) + 1 < 2 * heights (trees_of g.V.RankedNodes.tree N v xs) = omega (arith, low) in
    search rules

pub notice_entries-notice-requires : goal.notice_entries-notice-requires
notice_entries-notice-requires g w c =
    let N = g.V.RankedNodes.number in
    let v = c.args.view.now in
    let T = g.V.RankedNodes.tree v in
    let xs = c.args.entries.now in
    let x = c.entry-item.result in
    let ready = still c.loop-entry.names c.requires.ready c.loop-entry.invariant.others.long in
    let within = (item-in (λ p. (N p.0 < g.V.RankedNodes.count v) × (N p.1 < g.V.RankedNodes.count v)) xs c.loop-entry.entry-index x c.requires.within (omega arith) c.entry-item.is).0 in
    let low = key-lower N T xs c.loop-entry.entry-index x (omega arith) c.entry-item.is in
    let lower : 2 * height (T (N x.0)) + 1 < 2 * heights_of_pairs (pairs_of g.V.RankedNodes.tree N v xs) = omega (arith, low) in
    search rules

pub notice_entries-notice-requires-in-loop-entry : goal.notice_entries-notice-requires-in-loop-entry
notice_entries-notice-requires-in-loop-entry g w c =
    let N = g.V.RankedNodes.number in
    let v = c.args.view.now in
    let T = g.V.RankedNodes.tree v in
    let xs = c.args.entries.now in
    let x = c.entry-item.result in
    let ready = still c.notice.new.names c.requires.ready (c.notice.ensures.others.long ∙ c.loop-entry.invariant.others.long) in
    let within = (item-in (λ p. (N p.0 < g.V.RankedNodes.count v) × (N p.1 < g.V.RankedNodes.count v)) xs c.loop-entry.entry-index x c.requires.within (omega arith) c.entry-item.is).1 in
    let low = value-lower N T xs c.loop-entry.entry-index x (omega arith) c.entry-item.is in
    let lower : 2 * height (T (N x.1)) + 1 < 2 * heights_of_pairs (pairs_of g.V.RankedNodes.tree N v xs) = omega (arith, low) in
    search rules
