use Rattle.std.proofs.Common.{◌≡◌, ◌≤◌, ◌∷◌, [], ◌+◌, length, take, ap, ◌∙◌, arith}
use Rattle.std.proofs.lemmas.List.{take_all, take-append-le, length-append}
use Rattle.yaml_text.specs.declared.event.Event.TheVariants as events
use Rattle.yaml_sink.proofs.list.widen.Goals as goal

pub ends-init : goal.ends-init
ends-init c =
    let old = c.args.events.now.items in
    let n : length c.reserve_exact.new.self.items ≡ length old = ap length c.reserve_exact.ensures.items in
    record {
      front = ap (take (length old)) c.reserve_exact.ensures.items ∙ take_all (length old) old (omega arith);
      more = omega (arith, n);
    }

pub ends-preserved : goal.ends-preserved
ends-preserved c =
    let old = c.args.events.now.items in
    let items = c.ends.events.items in
    let new = c.in_ok-push.ensures.items in
    let more = c.ends.invariant.more in
    let n : length c.push.new.self.items ≡ length items + 1 = ap length new ∙ length-append items (events.MappingEnd ∷ []) in
    let fits : length old ≤ length items = omega (arith, more) in
    record {
      front = ap (take (length old)) new ∙ take-append-le (length old) items (events.MappingEnd ∷ []) fits ∙ c.ends.invariant.front;
      more = omega (arith, n, more);
    }
