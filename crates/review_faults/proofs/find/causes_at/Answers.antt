use Rattle.std.proofs.Common.{◌≡◌, ◌+◌, [], ◌∷◌, map, take, ◌∙◌, ap, subst, sym}
use Rattle.std.specs.Prelude.{Some, find, option_and_then, option_map, reverse, slice_get}
use Rattle.std.proofs.lemmas.Option.{slice_get-map}
use Rattle.yaml_text.specs.EventModel.{event_of}
use Rattle.review_places.specs.Trails.{open_frames, frames_of, has_part, is_key}
use Rattle.review_faults.specs.Causes.{TellsOlder, indicator_cause, plain_text, slip_cause}
use Rattle.review_faults.specs.Keys.{begun_at, collection_at, mapping_of}
use Rattle.review_faults.specs.Slips.{is_listed, is_joined, is_pointer, is_below}
use Rattle.review_faults.specs.Warned.{flow_of, is_in_flow, scalar_text}
use Rattle.review_faults.proofs.WarnLaws.{frames_known}
use Rattle.review_faults.proofs.find.causes_at.Goals as goal

pub returns-clause-causes : goal.returns-clause-causes
returns-clause-causes c = λ at known sources here.
    let n = c.args.at in
    let es = map event_of c.args.events.now in
    let event = event_of c.args.event.now in
    let frames : open_frames c.take.new.self ≡ frames_of (take (n + 1) es) = frames_known c.args.events.now n c.args.event.now _ _ at known.frames c.in_ok-take.ensures.frames in
    let e : slice_get es n ≡ Some event = slice_get-map event_of c.args.events.now n ∙ ap (option_map event_of) at in
    let equals = c.in_ok-equals.ensures.equal es e (c.mapping_of.ensures ∙ ap (λ z. mapping_of (find has_part (reverse z))) frames) known.keys in
    let flow : c.is_flow-is_in_flow.result ≡ is_in_flow es n =
    c.is_flow-is_in_flow.ensures ∙ ap flow_of (c.event_at.ensures ∙ ap (option_and_then (slice_get es)) (c.around.ensures ∙ ap (λ z. begun_at (find has_part (reverse z))) frames)) in
    let indicator = c.indicator_cause.ensures ∙ ap (λ z. indicator_cause z event) flow in
    let key : c.is_at_key-is_key.result ≡ is_key (collection_at es n) = c.is_at_key-is_key.ensures ∙ ap (λ z. is_key (find has_part (reverse z))) frames in
    let listed : c.is_listed.result ≡ is_listed (sources n) (scalar_text event) = c.is_listed.ensures ∙ ap (λ z. is_listed z c.scalar_text-text.result.now) (sym here) ∙ ap (is_listed (sources n)) c.scalar_text-text.ensures in
    let joined : c.is_joined.result ≡ is_joined (sources n) (scalar_text event) = c.is_joined.ensures ∙ ap (λ z. is_joined z c.scalar_text-text.result.now) (sym here) ∙ ap (is_joined (sources n)) c.scalar_text-text.ensures in
    let pointer : c.is_pointer.result ≡ is_pointer (sources n) (scalar_text event) = c.is_pointer.ensures ∙ ap (λ z. is_pointer z c.scalar_text-text.result.now) (sym here) ∙ ap (is_pointer (sources n)) c.scalar_text-text.ensures in
    let below : c.is_below.result ≡ is_below (sources n) (scalar_text event) = c.is_below.ensures ∙ ap (λ z. is_below z c.scalar_text-text.result.now) (sym here) ∙ ap (is_below (sources n)) c.scalar_text-text.ensures in
    let slip = c.slip_cause.ensures ∙ ap (λ z. slip_cause z (plain_text event))
    (λ i. record { is_key = key i; is_in_flow = flow i; is_doubled = c.is_doubled.ensures i; has_no_value = c.has_no_value.ensures i; is_listed = listed i; is_joined = joined i; is_pointer = pointer i; is_below = below i; has_empty_block = c.has_empty_block.ensures i; has_call = c.has_call.ensures i; has_pair = c.has_pair.ensures i }) in
    record {
      python = c.in_ok-equals.equals.python;
      script = c.in_ok-equals.equals.script;
      older = c.older_cause.result;
      equal_in_python = equals.python;
      equal_in_script = equals.script;
      tells = subst (λ z. TellsOlder z (plain_text event) c.older_cause.result) key c.older_cause.ensures;
      are = λ i. c.name_cause.ensures i ∷ indicator i ∷ c.equal_cause.ensures i ∷ c.equal_cause-2.ensures i ∷ c.older_cause.result ∷ c.tagged_cause.ensures i ∷ slip i ∷ [];
    }

pub returns-clause-knows : goal.returns-clause-knows
returns-clause-knows c = λ at known.
    let n = c.args.at in
    let es = map event_of c.args.events.now in
    let frames : open_frames c.take.new.self ≡ frames_of (take (n + 1) es) = frames_known c.args.events.now n c.args.event.now _ _ at known.frames c.in_ok-take.ensures.frames in
    let e : slice_get es n ≡ Some (event_of c.args.event.now) = slice_get-map event_of c.args.events.now n ∙ ap (option_map event_of) at in
    record {
      frames = frames;
      keys = c.in_ok-equals.ensures.holds es e (c.mapping_of.ensures ∙ ap (λ z. mapping_of (find has_part (reverse z))) frames) known.keys;
    }
