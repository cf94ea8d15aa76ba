-- Which collections are open.
use Rattle.std.proofs.Common.{◌≡◌, ◌<◌, ℕ, zero, suc, ◌+◌, ◌-◌, ◌^◌, min, List, [], ◌∷◌, ◌++◌, map, take, length, get_or, set, refl, sym, ◌∙◌, ap, arith}
use Rattle.std.proofs.lemmas.List.{take_more, length-take-le}
use Rattle.yaml_definitions.specs.model.Event.{Event}
use Rattle.yaml_text.specs.EventModel.{event_of}
use Rattle.yaml_text.specs.declared.event.Event as code
use Rattle.review_places.specs.Trails.{begun, begun_in, frames_after, frames_from, frames_of}
use Rattle.review_places.specs.declared.trail.Frame.{Frame}

last_begun : (at i : ℕ) (frames : List Frame) (frame d : Frame) → length frames ≡ suc i → frame ≡ get_or frames i d → set frames i (begun at frame) ≡ begun_in at frames
last_begun at i [] frame d n f = absurd (omega (arith, n))
last_begun at zero (x ∷ []) frame d n f = ap (λ z. begun at z ∷ []) f
last_begun at (suc i) (x ∷ []) frame d n f = absurd (omega (arith, n))
last_begun at zero (x ∷ y ∷ frames) frame d n f = absurd (omega (arith, n))
last_begun at (suc i) (x ∷ y ∷ frames) frame d n f =
    let m : length (y ∷ frames) ≡ suc i = omega (arith, n) in
    ap (λ z. x ∷ z) (last_begun at i (y ∷ frames) frame d m f)

-- A part begins in the last of so many collections.
pub innermost_begun : (at count parts : ℕ) (frames : List Frame) (frame : Frame) → count ≡ length frames → 0 < count → frame ≡ get_or frames (count - 1) frame → parts ≡ min (frame.parts + 1) (2 ^ 64 - 1)
    → set frames (count - 1) (record { event = frame.event; is_mapping = frame.is_mapping; parts = parts; last = at; key = frame.last }) ≡ begun_in at frames
innermost_begun at count parts frames frame n some f p =
    let m : length frames ≡ suc (count - 1) = omega (arith, n, some) in
    ap (λ z. set frames (count - 1) (record { event = frame.event; is_mapping = frame.is_mapping; parts = z; last = at; key = frame.last })) p ∙ last_begun at (count - 1) frames frame frame m f

from_more : (at k : ℕ) (events : List code.Event) (event : code.Event) (frames : List Frame) → k ≡ at + length events → frames_from at (map event_of (events ++ (event ∷ []))) frames ≡ frames_after k (event_of event) (frames_from at (map event_of events) frames)
from_more at k [] event frames n =
    let same : at ≡ k = omega (arith, n) in
    ap (λ z. frames_after z (event_of event) frames) same
from_more at k (e ∷ events) event frames n =
    let m : k ≡ (at + 1) + length events = omega (arith, n) in
    from_more (at + 1) k events event (frames_after at (event_of e) frames) m

-- the collections that are open behind one event more
pub frames_next : (events : List code.Event) (i : ℕ) (event : code.Event) (frames new : List Frame) → i < length events → event ≡ get_or events i event → frames ≡ frames_of (map event_of (take i events)) → new ≡ frames_after i (event_of event) frames
    → new ≡ frames_of (map event_of (take (i + 1) events))
frames_next events i event frames new l e f n =
    let more : take (i + 1) events ≡ take i events ++ (event ∷ []) = take_more events i event l ∙ ap (λ z. take i events ++ (z ∷ [])) (sym e) in
    let long : length (take i events) ≡ i = length-take-le i events (omega (arith, l)) in
    let count : i ≡ 0 + length (take i events) = omega (arith, long) in
    n ∙ ap (frames_after i (event_of event)) f ∙ sym (from_more 0 i (take i events) event [] count) ∙ ap (λ z. frames_of (map event_of z)) (sym more)
