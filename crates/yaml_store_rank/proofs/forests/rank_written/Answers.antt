use Rattle.std.proofs.Common.{◌∙◌, ap, rules}
use Rattle.yaml_store.specs.TextModel.{text_of}
use Rattle.yaml_store_rank.specs.Refused.{RefusesStore}
use Rattle.yaml_store_rank.specs.Forests.{cut_from}
use Rattle.yaml_store_rank.specs.KeyOrder.{number_pairs}
use Rattle.yaml_store_rank.specs.declared.forests.RankedForests.TheInside.{Inside}
use Rattle.yaml_store_rank.proofs.WrittenLaws.{can-order, can-order-as, ordered-as, nodes-shown, holds-from}
use Rattle.yaml_store_rank.proofs.forests.rank_written.Goals as goal

pub returns-in_err-tags-clause-err : goal.returns-in_err-tags-clause-err
returns-in_err-tags-clause-err c = λ good.
    let told : RefusesStore c.args.store good c.in_err-tags.field-0.0 = c.in_err-tags.ensures.err good in
    search (rules, told)

pub key_order-requires : goal.key_order-requires
key_order-requires c =
    let s = c.args.store in
    let r = c.in_ok-tags.field-0 in
    let are = (c.in_ok-tags.ensures.ok c.requires.good).listed in
    let can = can-order s c.requires.good r.ranks.items r.first.items (text_of r.text) r.items.items r.entries.items r.nodes.items are.ranked in
    can-order-as s.nodes.items _ s.entries.items _ r.ranks.items _ can (c.deref-3.ensures.value ∙ are.nodes) (ap number_pairs c.deref-4.ensures.value ∙ (c.in_ok-entries.ensures ∙ c.deref-2.ensures.value)) c.deref-5.ensures.value

pub invariant_of-result : goal.invariant_of-result
invariant_of-result c =
    let s = c.args.store in
    let r = c.in_ok-tags.field-0 in
    let are = (c.in_ok-tags.ensures.ok c.requires.good).listed in
    let v : Inside = record { tags = r.tags; text = r.text; items = c.in_ok-items.items; entries = c.in_ok-entries.entries; nodes = r.nodes; ranks = r.ranks; order = c.in_ok-order.order; roots = c.in_ok-roots.roots; ends = c.args.ends } in
    let ordered = ordered-as _ r.nodes.items _ (number_pairs c.in_ok-entries.entries.items) _ r.ranks.items c.in_ok-order.order.items c.in_ok-order.ensures c.deref-3.ensures.value (ap number_pairs c.deref-4.ensures.value) c.deref-5.ensures.value in
    holds-from s c.requires.good c.requires.low v c.args.roots.now (text_of r.text) r.items.items r.first.items r.entries.items r.nodes.items are.tags are.text (c.in_ok-items.ensures ∙ c.deref.ensures.value) (c.in_ok-entries.ensures ∙ c.deref-2.ensures.value) are.nodes
    are.ranked are.whole ordered c.in_ok-roots.ensures c.requires.roots c.requires.ends

pub returns-clause-ok : goal.returns-clause-ok
returns-clause-ok c =
    let s = c.args.store in
    let r = c.in_ok-tags.field-0 in
    let are = (c.in_ok-tags.ensures.ok c.requires.good).listed in
    let v : Inside = record { tags = r.tags; text = r.text; items = c.in_ok-items.items; entries = c.in_ok-entries.entries; nodes = r.nodes; ranks = r.ranks; order = c.in_ok-order.order; roots = c.in_ok-roots.roots; ends = c.args.ends } in
    record {
      nodes = nodes-shown s c.requires.good c.requires.low v c.args.roots.now are.tags are.text (c.in_ok-items.ensures ∙ c.deref.ensures.value) (c.in_ok-entries.ensures ∙ c.deref-2.ensures.value) are.nodes;
      streams = ap (λ z. cut_from z 0 c.args.ends.items) c.in_ok-roots.ensures;
    }
