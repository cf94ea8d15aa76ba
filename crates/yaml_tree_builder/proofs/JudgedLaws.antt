-- A builder up to the first event that is refused, as more events come.
use Rattle.std.proofs.Common.{◌-◌, ◌≡◌, ℕ, ◌+◌, ◌<◌, ◌≤◌, List, [], ◌∷◌, ◌++◌, length, sym, ◌∙◌, subst, arith, append_assoc, Ok, Err}
use Rattle.std.specs.Prelude.{Bool, Option, None, Some}
use Rattle.yaml_definitions.specs.model.Core.{Cause, collection_tag}
use Rattle.yaml_definitions.specs.model.Event.{Event, untagged, mapping_start, stream_start, stream_end, document_end}
use Rattle.yaml_definitions.specs.grammar.Events.{Props}
use Rattle.yaml_definitions.specs.model.Serial.{Document, stream_events}
use Rattle.yaml_sink.specs.Held.{Puts}
use Rattle.yaml_tree.specs.ComposerSteps.{State, initial_state, steps}
use Rattle.yaml_store.specs.declared.nodes.Collection.{Collection}
use Rattle.yaml_tree_builder.specs.Reached.{Reaches}
use Rattle.yaml_tree_builder.specs.Nodes.{AreNodes}
use Rattle.yaml_tree_builder.specs.TagModel.{collection_number}
use Rattle.yaml_tree_builder.specs.BuilderModel.{Holds, Stepped, start_of}
use Rattle.yaml_tree_builder.specs.BuilderLog.{Follows, SettlesAlone, SettlesKey, keyed}
use Rattle.yaml_tree.specs.Refused.{RefusesStream}
use Rattle.yaml_tree_builder.specs.Refusals.{cause_of, fault_of, Stops, IsRefusal}
use Rattle.yaml_tree_builder.specs.JudgedModel.{IsFirstRefused, FollowsUnless, Judges, Takes, IsBefore, IsNoneBefore}
use Rattle.yaml_tree_builder.specs.declared.builder.TreeBuilder.{TreeBuilder}
use Rattle.yaml_tree_builder.specs.declared.stop.Stop.{Stop}
use Rattle.yaml_tree_builder.specs.declared.stop.Refusal.{Refusal}
use Rattle.yaml_tree_builder.specs.declared.judged.Judged.{Judged}
use Rattle.yaml_tree_builder.proofs.ReachedLaws.{reaches-parts}
use Rattle.yaml_tree_builder.proofs.AlikeLaws.{refused-behind}
use Rattle.yaml_tree_builder.proofs.KeyLaws.{alone-refused, key-refused, before-node}
use Rattle.yaml_tree_builder.proofs.LogLaws.{follows-step, follows-rest}
use Rattle.yaml_tree_builder.proofs.RefusalLaws.{refused-more, refused-front, refused-last, refuses-stream}

-- ---- no event is refused, or one is

pub followed : (j : Judged) (told : List Event) → j.refusal ≡ None → Judges j told → Follows j.builder told
followed j told n h = subst (λ o. FollowsUnless o j.builder told) n h

pub following : (j : Judged) (told : List Event) → j.refusal ≡ None → Follows j.builder told → Judges j told
following j told n h = subst (λ o. FollowsUnless o j.builder told) (sym n) h

first-refused : (j : Judged) (r : Refusal) (told : List Event) → j.refusal ≡ Some r → Judges j told → IsFirstRefused r told
first-refused j r told n h = subst (λ o. FollowsUnless o j.builder told) n h

refusing : (j : Judged) (r : Refusal) (told : List Event) → j.refusal ≡ Some r → IsFirstRefused r told → Judges j told
refusing j r told n h = subst (λ o. FollowsUnless o j.builder told) (sym n) h

-- ---- one event more

-- behind an event that is refused
pub puts-refused : (j : Judged) (r : Refusal) (es : List Event) → j.refusal ≡ Some r → Puts Judges j es j
puts-refused j r es n = record {
  is = λ told h. refusing j r (told ++ es) n (refused-more told es 0 initial_state (cause_of r.cause, r.at) (first-refused j r told n h));
}

pub takes-refused : (j : Judged) (r : Refusal) (at : ℕ) (e : Event) → j.refusal ≡ Some r → Takes at e j j
takes-refused j r at e n = record { is = λ told l h. (puts-refused j r (e ∷ []) n).is told h }

-- an event that the builder takes
pub puts-stepped : (old new : Judged) (e : Event) → old.refusal ≡ None → new.refusal ≡ old.refusal → ((s : State) → Holds old.builder s → Stepped e s new.builder) → Puts Judges old (e ∷ []) new
puts-stepped old new e n q k = record {
  is = λ told h. following new (told ++ (e ∷ [])) (q ∙ n) (follows-step old.builder new.builder told e (followed old told n h) k);
}

pub takes-stepped : (old new : Judged) (at : ℕ) (e : Event) → old.refusal ≡ None → new.refusal ≡ old.refusal → ((s : State) → Holds old.builder s → Stepped e s new.builder) → Takes at e old new
takes-stepped old new at e n q k = record { is = λ told l h. (puts-stepped old new e n q k).is told h }

-- an event that is refused
pub takes-stopped : (old new : Judged) (at : ℕ) (e : Event) (stop : Stop) (r : Refusal) → old.refusal ≡ None → new.refusal ≡ Some r → IsRefusal stop at r → ((s : State) → Holds old.builder s → Stops e s stop) → Takes at e old new
takes-stopped old new at e stop r n q w k = record {
  is = λ told l h.
      let f = followed old told n h in
      refusing new r (told ++ (e ∷ [])) q (refused-last told e f.state r.cause r.at (w.at ∙ l) f.is (subst (Stops e f.state) w.cause (k f.state f.holds)));
}

-- the stream's start and end and a document's end
rest-by : (o : Option Refusal) (c : TreeBuilder) (told : List Event) → FollowsUnless o c told → FollowsUnless o c (told ++ (stream_start ∷ [])) × FollowsUnless o c (told ++ (stream_end ∷ [])) × ((explicit : Bool) → FollowsUnless o c (told ++ (document_end explicit ∷ [])))
rest-by None c told h = follows-rest c told h
rest-by (Some r) c told h =
    let x : Cause × ℕ = (cause_of r.cause, r.at) in
    (refused-more told (stream_start ∷ []) 0 initial_state x h, refused-more told (stream_end ∷ []) 0 initial_state x h, λ explicit. refused-more told (document_end explicit ∷ []) 0 initial_state x h)

pub judges-rest : (j : Judged) (told : List Event) → Judges j told → Judges j (told ++ (stream_start ∷ [])) × Judges j (told ++ (stream_end ∷ [])) × ((explicit : Bool) → Judges j (told ++ (document_end explicit ∷ [])))
judges-rest j told h = rest-by j.refusal j.builder told h

-- a mapping's start before events behind the one that is refused
pub before-refused : (j : Judged) (r : Refusal) (front es fs : List Event) → j.refusal ≡ Some r → r.at < length front → Judges j (front ++ es) → Judges j (front ++ fs)
before-refused j r front es fs n l h =
    let x : Cause × ℕ = (cause_of r.cause, r.at) in
    refusing j r (front ++ fs) n (refused-more front fs 0 initial_state x (refused-front front es 0 initial_state x (omega (arith, l)) (first-refused j r (front ++ es) n h)))

-- ---- a whole stream

pub refuses : (j : Judged) (r : Refusal) (ds : List Document) → j.refusal ≡ Some r → Judges j (stream_events ds) → RefusesStream ds (fault_of r.cause r.at)
refuses j r ds n h = refuses-stream ds r (first-refused j r (stream_events ds) n h)

-- ---- whether a mapping begins before a collection

-- an event that is refused, before others
over-by : (o : Option Refusal) (c : TreeBuilder) (start : ℕ) (front es fs : List Event) → IsBefore start o → start ≡ length front → FollowsUnless o c (front ++ es) → FollowsUnless o c (front ++ fs)
over-by None c start front es fs b l h = absurd b
over-by (Some r) c start front es fs b l h =
    let x : Cause × ℕ = (cause_of r.cause, r.at) in
    refused-more front fs 0 initial_state x (refused-front front es 0 initial_state x (omega (arith, b, l)) h)

pub over-refused : (j : Judged) (start : ℕ) (front es fs : List Event) → IsBefore start j.refusal → start ≡ length front → Judges j (front ++ es) → Judges j (front ++ fs)
over-refused j start front es fs b l h = over-by j.refusal j.builder start front es fs b l h

-- none of the first events is refused
record FrontAt (front : List Event) : Type 0 where
  state : State
  is : Reaches front initial_state state

front-by : (o : Option Refusal) (c : TreeBuilder) (start : ℕ) (front es : List Event) → IsNoneBefore start o → start ≡ length front → FollowsUnless o c (front ++ es) → FrontAt front
front-by None c start front es b l h = let r = reaches-parts front es initial_state h.state h.is in record { state = r.middle; is = r.front }
front-by (Some r) c start front es b l h = let w = refused-behind front es (cause_of r.cause, r.at) (omega (arith, b, l)) h in record { state = w.state; is = w.is }

-- the event of this number is refused once it is known
pub stops-there : (j new : Judged) (start : ℕ) (front es fs : List Event) (e : Event) (stop : Stop) (r : Refusal) → new.refusal ≡ Some r → IsRefusal stop start r → ((s : State) → Stops e s stop) → start ≡ length front → IsNoneBefore start j.refusal → Judges j (front ++ es) → Judges new (front ++ (e ∷ fs))
stops-there j new start front es fs e stop r n w k l b h =
    let f = front-by j.refusal j.builder start front es b l h in
    let x : Cause × ℕ = (cause_of r.cause, r.at) in
    let last = refused-last front e f.state r.cause r.at (w.at ∙ l) f.is (subst (Stops e f.state) w.cause (k f.state)) in
    refusing new r (front ++ (e ∷ fs)) n (subst (λ z. steps 0 z initial_state ≡ Some (Err x)) (append_assoc front (e ∷ []) fs) (refused-more (front ++ (e ∷ [])) fs 0 initial_state x last))

-- no event before is refused, by the one that is
none-before : (start : ℕ) (o : Option Refusal) (r : Refusal) → o ≡ Some r → IsNoneBefore start o → start ≤ r.at
none-before start o r e b = subst (IsNoneBefore start) e b

pub settles-alone-refused : (j new : Judged) (start : ℕ) (k : Collection) (p : Props) (tag : List ℕ) (r s : Refusal) → j.refusal ≡ Some r → new.refusal ≡ Some s → s.cause ≡ r.cause → s.at ≡ r.at - 1 → IsNoneBefore start j.refusal → collection_tag (collection_number k) p.tag ≡ Ok tag → SettlesAlone Judges start k p j new
settles-alone-refused j new start k p tag r s e q c n b t = record {
  is = λ front es m flow outer own l w one g h.
      let x = first-refused j r (keyed front outer untagged k flow own es) e h in
      let y = alone-refused front es m k flow outer own p tag (cause_of r.cause) r.at s.at w one g t (omega (arith, none-before start j.refusal r e b, l)) n x in
      refusing new s (front ++ (start_of k flow p.anchor p.tag ∷ es)) q (y ∙ (λ z. Some (Err (cause_of (sym c z), s.at))));
}

pub settles-key-refused : (j : Judged) (start : ℕ) (p : Props) (tag : List ℕ) (r : Refusal) → j.refusal ≡ Some r → IsNoneBefore start j.refusal → collection_tag 2 p.tag ≡ Ok tag → SettlesKey Judges start p j j
settles-key-refused j start p tag r e b t = record {
  is = λ front es m k flow own l w h.
      let x = first-refused j r (keyed front p.anchor untagged k flow own es) e h in
      let y = key-refused front es m k flow p.anchor own p.tag tag (cause_of r.cause) r.at w t (omega (arith, none-before start j.refusal r e b, l)) x in
      refusing j r (keyed front p.anchor p.tag k flow own es) e y;
}

pub settles-alone-followed : (j new : Judged) (start : ℕ) (k : Collection) (p : Props) → j.refusal ≡ None → new.refusal ≡ None → SettlesAlone Follows start k p j.builder new.builder → SettlesAlone Judges start k p j new
settles-alone-followed j new start k p e q f = record {
  is = λ front es m flow outer own l w one g h. following new (front ++ (start_of k flow p.anchor p.tag ∷ es)) q (f.is front es m flow outer own l w one g (followed j (keyed front outer untagged k flow own es) e h));
}

pub settles-key-followed : (j new : Judged) (start : ℕ) (p : Props) → j.refusal ≡ None → new.refusal ≡ None → SettlesKey Follows start p j.builder new.builder → SettlesKey Judges start p j new
settles-key-followed j new start p e q f = record {
  is = λ front es m k flow own l w h. following new (keyed front p.anchor p.tag k flow own es) q (f.is front es m k flow own l w (followed j (keyed front p.anchor untagged k flow own es) e h));
}

-- a mapping's start before the node in which an event is refused
pub precedes-refused : (j new : Judged) (r s : Refusal) (front es : List Event) (flow : Bool) → j.refusal ≡ Some r → new.refusal ≡ Some s → s.cause ≡ r.cause → s.at ≡ r.at + 1 → length front ≤ r.at → AreNodes 1 es → Judges j (front ++ es) → Judges new (front ++ (mapping_start flow None untagged ∷ es))
precedes-refused j new r s front es flow e q c n l w h =
    let y = before-node front es flow (cause_of r.cause) r.at w l (first-refused j r (front ++ es) e h) in
    refusing new s (front ++ (mapping_start flow None untagged ∷ es)) q (y ∙ (λ z. Some (Err (cause_of (sym c z), sym n z))))
