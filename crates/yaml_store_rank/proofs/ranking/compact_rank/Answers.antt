use Rattle.std.proofs.Common.{length, ◌∙◌, ap, subst, refl, rules}
use Rattle.yaml_store.specs.TextModel.{border, AllWhole}
use Rattle.yaml_store.specs.StoreView.{view_of}
use Rattle.yaml_store_rank.specs.Refused.{RefusesStore}
use Rattle.yaml_store_rank.proofs.StoreOf.{stored-as, listed-as}
use Rattle.yaml_store_rank.proofs.ranking.compact_rank.Goals as goal

pub rank_all-requires-clause-stored : goal.rank_all-requires-clause-stored
rank_all-requires-clause-stored c =
    let s = c.args.store in
    let are = c.in_ok-places.ensures.ok in
    (view_of s c.requires.good, stored-as s c.requires.good c.requires.low c.in_ok-places.places.items are _ _ _ _ _ c.deref-2.ensures.value refl c.deref_mut.ensures.value c.deref_mut-2.ensures.value c.deref-3.ensures.value)

pub returns-clause-ok : goal.returns-clause-ok
returns-clause-ok c = λ good.
    let s = c.args.store in
    let whole : AllWhole (border s.text) s.nodes.items = subst (AllWhole (border s.text)) c.deref.ensures.value (search rules) in
    let are = c.in_ok-places.ensures.ok in
    record {
      listed = listed-as s good c.requires.low c.in_ok-places.places.items are _ _ _ _ _ _ _ c.in_ok-ranks.ranks c.in_ok-ranks.first c.in_ok-ranks.visits c.deref-2.ensures.value refl c.deref_mut.ensures.value c.deref_mut-2.ensures.value c.deref-3.ensures.value c.rank_all.auto.items c.rank_all.auto.entries whole (c.in_ok-ranks.ensures.ok (view_of s good));
      visited = c.in_ok-ranks.ensures.visited ∙ ap length c.deref-2.ensures.value;
    }

pub returns-in_err-ranks-clause-err : goal.returns-in_err-ranks-clause-err
returns-in_err-ranks-clause-err c = λ good.
    let s = c.args.store in
    let are = c.in_ok-places.ensures.ok in
    let told : RefusesStore s good c.in_err-ranks.field-0.0 = c.in_err-ranks.ensures.err (view_of s good) (stored-as s good c.requires.low c.in_ok-places.places.items are _ _ _ _ _ c.deref-2.ensures.value refl c.deref_mut.ensures.value c.deref_mut-2.ensures.value c.deref-3.ensures.value) in
    search (rules, told)
