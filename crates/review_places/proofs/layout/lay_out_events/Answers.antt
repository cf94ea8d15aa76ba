use Rattle.std.proofs.Common.{◌≡◌, [], length, refl, sym, ◌∙◌, ap, subst, arith}
use Rattle.std.specs.Prelude.{option_map}
use Rattle.std.specs.Bool.{OnTrue}
use Rattle.std.proofs.lemmas.List.{length-map}
use Rattle.std.proofs.lemmas.Option.{slice_get-map, slice_get-get_or}
use Rattle.review_places.specs.Trace.{shapes_in}
use Rattle.review_places.proofs.LayoutLaws.{first-stands, all-stand}
use Rattle.review_places.proofs.layout.lay_out_events.Goals as goal

pub events-init : goal.events-init
events-init c =
    let v = c.in_ok-vec.field-0 in
    let n : length v.items ≡ length c.args.events.now = omega (arith, c.in_ok-vec.ensures.len, v.ok.0) in
    record {
      offsets = c.in_ok-offsets_from.ensures.ok;
      stands = first-stands (shapes_in c.args.events.now) _ _ c.new-2.ensures.items (n ∙ sym (length-map c.args.events.now (λ e. e.0))) c.new-4.ensures.items c.new-5.ensures.items c.new-6.ensures.items;
    }

pub events-preserved : goal.events-preserved
events-preserved c = record {
  offsets = ap (λ v. v.items) c.in_ok-take_event.ensures.offsets ∙ c.events.invariant.offsets;
  stands =
      c.in_ok-take_event.ensures.stands (shapes_in c.args.events.now)
      (slice_get-map (λ e. e.0) c.args.events.now c.events.at ∙ ap (option_map (λ e. e.0)) (slice_get-get_or c.args.events.now c.events.at _ (omega (arith, c.events-test.true))))
      c.events.invariant.stands;
}

pub returns-then-is_none_open-clause-nodes : goal.returns-then-is_none_open-clause-nodes
returns-then-is_none_open-clause-nodes c =
    let n = length-map c.args.events.now (λ e. e.0) in
    let all : c.events.at ≡ length (shapes_in c.args.events.now) = omega (arith, n, c.events-test.false) in
    all-stand (shapes_in c.args.events.now) c.events.at c.events.layout _ c.events.around c.events.invariant.stands all (subst (λ b. OnTrue b (c.events.around.outer.items ≡ [])) c.if-is_none_open.true c.is_none_open.ensures) refl refl refl refl refl
