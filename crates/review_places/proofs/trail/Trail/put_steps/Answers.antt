use Rattle.std.proofs.Common.{◌++◌, ◌∙◌, ap, map, flat_map, arith}
use Rattle.std.specs.String.{string_bytes}
use Rattle.yaml_text.specs.EventModel.{event_of}
use Rattle.review_text.proofs.Pieces.{flat_next, flat_all}
use Rattle.review_places.specs.Trails.{frame_step}
use Rattle.review_places.proofs.trail.Trail.put_steps.Goals as goal

pub frames-preserved : goal.frames-preserved
frames-preserved c = flat_next (frame_step (map event_of c.args.events.now)) c.deref-frame-items.result.now c.frames.frame-index _ _ _ _ (omega arith) c.frames.invariant c.in_ok-put_frame.ensures.ok

pub returns : goal.returns
returns c = record {
  ok = (
      flat_all (frame_step (map event_of c.args.events.now)) c.deref-frame-items.result.now c.frames.frame-index _ _ (omega arith) c.frames.invariant
      ∙ ap (λ z. string_bytes c.args.out.now ++ flat_map (frame_step (map event_of c.args.events.now)) z) c.deref-frame-items.ensures.value);
}
