use Rattle.std.proofs.Common.{◌≡◌, ◌+◌, [], ◌∷◌, ◌++◌, length, ap, subst, ◌∙◌, arith}
use Rattle.std.proofs.lemmas.List.{length-append, nil_from_length}
use Rattle.yaml_sink.specs.ListModel.{IsPut, opening}
use Rattle.yaml_sink.proofs.SettleLemmas.{settles_more, settles_all}
use Rattle.yaml_sink.proofs.list.EventList.settle.Goals as goal

pub placing-preserved : goal.placing-preserved
placing-preserved c =
    let evs = c.placing.events.items in
    let new = c.put_start-to.new.events.items in
    let ss = c.placing.starts.items in
    let rest = c.pop.new.self.items in
    let s = c.in-Some.start in
    let split : ss ≡ rest ++ s ∷ [] = c.in-Some.ensures.items in
    let left : c.len-in-Some.result ≡ length rest = omega (arith, c.len-in-Some.ensures, c.pop.new.self.ok.0) in
    let put : IsPut evs (opening s) c.put_start-to.result c.placing.to (length rest) new = subst (λ k. IsPut evs (opening s) c.put_start-to.result c.placing.to k new) left c.put_start-to.ensures.put in
    let count : length ss ≡ length rest + 1 = ap length split ∙ length-append rest (s ∷ []) in
    let kept = put.count in
    let room = c.placing.invariant.room in
    let place = c.put_start-to.ensures.place in
    record {
      room = omega (arith, kept, room, place, count);
      settled = λ log h. settles_more log evs new ss rest s c.put_start-to.result c.placing.to split place room put (c.placing.invariant.settled log h);
    }

pub returns-clause-ok : goal.returns-clause-ok
returns-clause-ok c =
    let none : c.placing.starts.items ≡ [] = (let n = c.in_default.ensures.cases.0 in nil_from_length c.placing.starts.items (omega (arith, n, c.placing.starts.ok.0))) in
    λ log h. settles_all log c.placing.events.items c.placing.starts.items c.placing.to none (c.placing.invariant.settled log h)
