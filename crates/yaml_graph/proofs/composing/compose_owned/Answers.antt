use Rattle.std.proofs.Common.{rules, arith, ◌≡◌, ◌+◌, length, map, sym, ◌∙◌, ap}
use Rattle.std.specs.Vec.Iter.{into_iter_items}
use Rattle.std.specs.Iterator.Adapters.{enumerate_source, enumerate_count}
use Rattle.yaml_text.specs.EventModel.{event_of}
use Rattle.yaml_tree.specs.Refused.{RefusesStream}
use Rattle.yaml_graph.proofs.StreamLaws.{Stepped, stepped, goes-on, refused, ended}
use Rattle.yaml_graph.proofs.EndLaws.{nodes-low, finished}
use Rattle.yaml_tree.specs.ComposerSteps.{steps}
use Rattle.yaml_graph.specs.ComposerModel.{Reached}
use Rattle.yaml_graph.proofs.composing.compose_owned.Goals as goal

pub returns-in_err-take : goal.returns-in_err-take
returns-in_err-take c = λ ds cut.
    let h = c.loop-at.invariant.1 in
    let es = c.args.events.items in
    let left = into_iter_items (enumerate_source c.loop-at.at-iterator) in
    let more = into_iter_items (enumerate_source c.next.new.self) in
    let at = c.in-Some.at in
    let k : Stepped es ds cut at c.in-Some.event more h.0 =
    stepped es ds cut at c.in-Some.event left more h.0 c.in-Some.ensures.steps.0.0 (ap (λ n. steps n (map event_of left) h.0) c.in-Some.ensures.steps.1 ∙ h.2) in
    let f : RefusesStream ds c.in_err-take.field-0.0 = refused es ds cut at c.in-Some.event more h.0 k c.in_err-take.field-0.0 (c.in_err-take.ensures h.0 h.1 k.found k.is) in
    search (rules, f)

pub loop-at-preserved : goal.loop-at-preserved
loop-at-preserved c =
    let h = c.loop-at.invariant.1 in
    let es = c.args.events.items in
    let ds = c.requires.documents in
    let cut = c.requires.cut in
    let left = into_iter_items (enumerate_source c.loop-at.at-iterator) in
    let more = into_iter_items (enumerate_source c.next.new.self) in
    let at = c.in-Some.at in
    let w = c.in-Some.ensures.steps in
    let k : Stepped es ds cut at c.in-Some.event more h.0 = stepped es ds cut at c.in-Some.event left more h.0 w.0.0 (ap (λ n. steps n (map event_of left) h.0) w.1 ∙ h.2) in
    let r : Reached k.found c.take.new.self = c.in_ok-take.ensures h.0 h.1 k.found k.is in
    let count : enumerate_count c.next.new.self ≡ at + 1 = w.2 ∙ ap (λ n. n + 1) (sym w.1) in (
      let was = c.loop-at.invariant.0 in
          let gone = w.0.1 in
          let short = ap length w.0.0 in
          omega arith,
      (r.state, r.holds, ap (λ n. steps n (map event_of more) r.state) count ∙ goes-on es ds cut at c.in-Some.event more h.0 k c.take.new.self r),
    )

pub finish-requires : goal.finish-requires
finish-requires c =
    let h = c.loop-at.invariant.1 in
    let ds = c.requires.documents in
    let w = ended c.args.events.items ds c.requires.cut _ _ h.0 (sym c.loop-at.invariant.0 ∙ c.in-None.ensures.steps.0.0) h.2 in
    (h.0, h.1, nodes-low ds h.0 w.0 w.1)

pub returns : goal.returns
returns c = λ ds cut.
    let h = c.loop-at.invariant.1 in
    let w = ended c.args.events.items ds cut _ _ h.0 (sym c.loop-at.invariant.0 ∙ c.in-None.ensures.steps.0.0) h.2 in
    finished ds h.0 w.0 w.1 c.finish.result (c.finish.ensures h.0 h.1)
