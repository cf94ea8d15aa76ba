use Rattle.std.proofs.Common.{◌≡◌, ◌*◌, option_map, sym, ◌∙◌, ap, subst, arith}
use Rattle.review_places.specs.Layout.{part_event}
use Rattle.review_places.specs.Trace.{shapes_in}
use Rattle.review_faults.specs.EventPlaces.{IsEventOf, IsFirstOf}
use Rattle.review_faults.proofs.SpotLaws.{first_beside}
use Rattle.review_faults.proofs.spots.events_in.Goals as goal

pub returns-in_ok-layout-in-TooHigh-clause-event : goal.returns-in_ok-layout-in-TooHigh-clause-event
returns-in_ok-layout-in-TooHigh-clause-event c =
    let layout = c.in_ok-layout-in-TooHigh.layout in
    subst (λ z. IsEventOf (shapes_in c.args.trace.now.events.items) z (option_map (λ t. t.0) c.beside.result)) (sym c.in-TooHigh.is) (layout, c.in_ok-layout-in-TooHigh.ensures.nodes, c.beside.ensures.event ∙ c.root.ensures)

pub returns-in_ok-layout-in-EqualKeys-clause-event : goal.returns-in_ok-layout-in-EqualKeys-clause-event
returns-in_ok-layout-in-EqualKeys-clause-event c =
    let layout = c.in_ok-layout-in-EqualKeys.layout in
    subst (λ z. IsEventOf (shapes_in c.args.trace.now.events.items) z (option_map (λ t. t.0) c.beside-in-EqualKeys.result)) (sym c.in-EqualKeys.is) (
      layout,
      c.in_ok-layout-in-EqualKeys.ensures.nodes,
      λ small.
          let twice : c.saturating_mul-in-EqualKeys.result ≡ c.in-EqualKeys.second * 2 = omega (arith, small, c.saturating_mul-in-EqualKeys.ensures) in
          c.beside-in-EqualKeys.ensures.event ∙ c.part-other.ensures ∙ ap (part_event layout c.in-EqualKeys.node) twice,
    )

pub returns-in_ok-layout-in-EqualKeys-clause-first : goal.returns-in_ok-layout-in-EqualKeys-clause-first
returns-in_ok-layout-in-EqualKeys-clause-first c =
    let layout = c.in_ok-layout-in-EqualKeys.layout in
    let shapes = shapes_in c.args.trace.now.events.items in
    first_beside shapes c.args.fault c.beside-in-EqualKeys.result c.part-one.result c.beside-in-EqualKeys.ensures.first (
    subst (λ z. IsFirstOf shapes z c.part-one.result) (sym c.in-EqualKeys.is) (
      layout,
      c.in_ok-layout-in-EqualKeys.ensures.nodes,
      λ small.
          let twice : c.saturating_mul.result ≡ c.in-EqualKeys.first * 2 = omega (arith, small, c.saturating_mul.ensures) in
          c.part-one.ensures ∙ ap (part_event layout c.in-EqualKeys.node) twice,
    )
    )
