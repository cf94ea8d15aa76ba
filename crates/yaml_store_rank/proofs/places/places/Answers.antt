use Rattle.std.proofs.Common.{◌+◌, [], ◌∷◌, ◌++◌, take, sym, subst, arith}
use Rattle.std.proofs.lemmas.List.{take_all, take_more}
use Rattle.yaml_tree.specs.Tags.{IsTagAt, IsListed}
use Rattle.yaml_store.specs.StoreModel.{tag_at}
use Rattle.yaml_store_rank.specs.TagPlaces.{PlacesAmong}
use Rattle.yaml_store_rank.proofs.TagOrder.{among-more, places-are}
use Rattle.yaml_store_rank.proofs.places.places.Goals as goal

pub place-requires-clause-among : goal.place-requires-clause-among
place-requires-clause-among c =
    let i = c.loop-number.number in
    let listed = c.in_ok-ordered.ensures.whole i [] (omega (arith, c.loop-number-test.true, c.len-2.ensures)) in
    subst (λ z. IsListed z c.at.result.now) (sym c.deref.ensures.value) (subst (IsListed c.in_ok-ordered.ordered.items) (sym c.at.ensures) listed)

pub loop-number-preserved : goal.loop-number-preserved
loop-number-preserved c =
    let tags = c.args.tags.now in
    let i = c.loop-number.number in
    let ordered = c.in_ok-ordered.ordered.items in
    let before = c.loop-number.places.items in
    let place = c.place.result in
    let at = subst (λ z. IsTagAt z place c.at.result.now) c.deref.ensures.value c.place.ensures.at in
    let here = subst (IsTagAt ordered place) c.at.ensures at in
    let more = among-more ordered (take i tags) before (tag_at tags i) place c.loop-number.invariant here in
    subst (PlacesAmong ordered (take (i + 1) tags)) (sym c.in_ok-push.ensures.items) (subst (λ z. PlacesAmong ordered z (before ++ (place ∷ []))) (sym (take_more tags i [] (omega (arith, c.loop-number-test.true, c.len-2.ensures)))) more)

pub returns : goal.returns
returns c =
    let tags = c.args.tags.now in
    let ordered = c.in_ok-ordered.ordered in
    let places = c.loop-number.places.items in
    let whole = take_all c.loop-number.number tags (omega (arith, c.loop-number-test.false, c.len-2.ensures)) in
    let among = subst (λ z. PlacesAmong ordered.items z places) whole c.loop-number.invariant in
    record { ok = places-are ordered.items c.in_ok-ordered.ensures.rise (omega (arith, c.if-len-ge-MOST.false, c.len.ensures, ordered.ok.0)) tags places among }
