-- What a trace holds, as events are put down.
use Rattle.std.proofs.Common.{◌≡◌, ℕ, ◌+◌, Bool, List, [], ◌∷◌, ◌++◌, Result, Ok, Err, IfOk, length, map, min, take, drop, refl, sym, ◌∙◌, ap, ap₂, subst, arith, length-append}
use Rattle.std.specs.List.{insert}
use Rattle.std.proofs.lemmas.List.{map-append, take-map, drop-map, length-map}
use Rattle.std.proofs.Math.Seq.{take-append_seam, drop-append_seam}
use Rattle.yaml_definitions.specs.model.Event.{Event, stream_start, stream_end, document_start, document_end, sequence_start, sequence_end, mapping_start, mapping_end, scalar_event, alias_event}
use Rattle.yaml_definitions.specs.grammar.Events.{Props}
use Rattle.yaml_sink.specs.PropertyRules.{with_props, dressed}
use Rattle.yaml_sink.specs.Held.{Puts, Alters}
use Rattle.yaml_sink.specs.SinkModel.{holds_of, start_of, end_of}
use Rattle.yaml_sink.specs.declared.sink.Collection.{Collection}
use Rattle.yaml_sink.specs.declared.sink.Collection.TheVariants.{Sequence, Mapping}
use Rattle.review_places.specs.declared.trace.Shape.TheVariants.{Opens, Closes}
use Rattle.yaml_sink.specs.declared.sink.Sink.{Sink}
use Rattle.yaml_sink.specs.declared.sink.Sink.TheVariants.{Kept}
use Rattle.review_places.specs.Trace.{TraceHolds, shape_of, shapes_in}
use Rattle.review_places.specs.declared.trace.Trace.{Trace}

pub if_ok : {T E : Type 0} {P Q : T → Type 0} (r : Result T E) → IfOk r P → ((x : T) → P x → Q x) → IfOk r Q
if_ok (Ok x) h f = f x h
if_ok (Err e) h f = h

pub whatever : {T E : Type 0} (P : Type 0) (r : Result T E) → P → IfOk r (λ _. P)
whatever P (Ok x) h = h
whatever P (Err e) h = tt

nothing_behind : (log : List Event) → log ++ [] ≡ log
nothing_behind [] = refl
nothing_behind (x ∷ log) = ap (λ v. x ∷ v) (nothing_behind log)

-- properties leave what an event does
same_shape : (p : Props) (e : Event) → shape_of (with_props p e) ≡ shape_of e
same_shape p (scalar_event a t style text) = refl
same_shape p (sequence_start flow a t) = refl
same_shape p (mapping_start flow a t) = refl
same_shape p (alias_event name) = refl
same_shape p stream_start = refl
same_shape p stream_end = refl
same_shape p (document_start explicit) = refl
same_shape p (document_end explicit) = refl
same_shape p sequence_end = refl
same_shape p mapping_end = refl

same_shapes : (p : Props) (es : List Event) → map shape_of (dressed p es) ≡ map shape_of es
same_shapes p [] = refl
same_shapes p (e ∷ es) = ap (λ v. v ∷ map shape_of es) (same_shape p e)

map_insert : {X Y : Type 0} (f : X → Y) (xs : List X) (n : ℕ) (x : X) → map f (insert xs n x) ≡ insert (map f xs) n (f x)
map_insert f xs n x = map-append f (take n xs) (x ∷ drop n xs) ∙ ap₂ (λ a b. a ++ f x ∷ b) (sym (take-map f n xs)) (sym (drop-map f n xs))

-- an element that is put between two lists
between_two : {X : Type 0} (xs ys : List X) (n : ℕ) (x : X) → n ≡ length xs → insert (xs ++ ys) n x ≡ xs ++ (x ∷ ys)
between_two xs ys n x e = ap (λ k. take k (xs ++ ys) ++ x ∷ drop k (xs ++ ys)) e ∙ ap₂ (λ a b. a ++ x ∷ b) (take-append_seam xs ys) (drop-append_seam xs ys)

pub traced_inserted : (a b : Trace) (start at : ℕ) (e : Event) → b.events.items ≡ insert a.events.items (min start (length a.events.items)) (shape_of e, at) → Alters TraceHolds start (λ es. e ∷ es) a b
traced_inserted a b start at e g = record {
  is = λ log es s h. record { shapes = shown log es s h.shapes };
}
  where
    shown : (log es : List Event) → start ≡ length log → shapes_in a.events.items ≡ map shape_of (log ++ es) → shapes_in b.events.items ≡ map shape_of (log ++ (e ∷ es))
    shown log es s h =
        let n : length a.events.items ≡ length log + length es = sym (length-map a.events.items (λ v. v.0)) ∙ ap length h ∙ length-map (log ++ es) shape_of ∙ length-append log es in
        let m : min start (length a.events.items) ≡ length (map shape_of log) = (let k : length (map shape_of log) ≡ length log = length-map log shape_of in omega (arith, n, s, k)) in
        ap shapes_in g ∙ map_insert (λ v. v.0) a.events.items (min start (length a.events.items)) (shape_of e, at) ∙ ap (λ v. insert v (min start (length a.events.items)) (shape_of e)) (h ∙ map-append shape_of log es)
        ∙ between_two (map shape_of log) (map shape_of es) (min start (length a.events.items)) (shape_of e) m ∙ sym (map-append shape_of log (e ∷ es))

pub traced_put : (a b : Trace) (at : ℕ) (e : Event) → b.events.items ≡ a.events.items ++ ((shape_of e, at) ∷ []) → Puts TraceHolds a (e ∷ []) b
traced_put a b at e g = record {
  is = λ log h. record { shapes = ap shapes_in g ∙ map-append (λ v. v.0) a.events.items ((shape_of e, at) ∷ []) ∙ ap (λ v. v ++ (shape_of e ∷ [])) h.shapes ∙ sym (map-append shape_of log (e ∷ [])) };
}

pub traced_dressed : (a b : Trace) (start : ℕ) (p : Props) → b.events ≡ a.events → Alters TraceHolds start (dressed p) a b
traced_dressed a b start p q = record {
  is = λ log es s h. record { shapes = ap (λ v. shapes_in v.items) q ∙ h.shapes ∙ map-append shape_of log es ∙ ap (λ v. map shape_of log ++ v) (sym (same_shapes p es)) ∙ sym (map-append shape_of log (dressed p es)) };
}

pub traced_cut : (a b : Trace) (start : ℕ) → b.events.items ≡ take start a.events.items → Alters TraceHolds start (λ _. []) a b
traced_cut a b start g = record {
  is = λ log es s h. record {
    shapes = ap shapes_in g ∙ sym (take-map (λ v. v.0) start a.events.items) ∙ ap (take start) (h.shapes ∙ map-append shape_of log es) ∙ ap (λ n. take n (map shape_of log ++ map shape_of es)) (s ∙ sym (length-map log shape_of))
        ∙ take-append_seam (map shape_of log) (map shape_of es) ∙ ap (map shape_of) (sym (nothing_behind log));
  };
}

-- what the start of a collection does, and its end
pub start_opens : (c : Collection) (flow : Bool) → Opens ≡ shape_of (start_of c flow)
start_opens Sequence flow = refl
start_opens Mapping flow = refl

pub end_closes : (c : Collection) → Closes ≡ shape_of (end_of c)
end_closes Sequence = refl
end_closes Mapping = refl

-- what is put into a sink whose keeper was empty
pub trace-kept : (first last : Trace) (out : Sink Trace) (es : List Event) → TraceHolds first [] → out ≡ Kept last → Puts (holds_of TraceHolds) (Kept first) es out → TraceHolds last es
trace-kept first last out es none is p = subst (λ v. holds_of TraceHolds v es) is (p.is [] none)
