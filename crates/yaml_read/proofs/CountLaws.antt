-- What a counter of events has counted, as events are put down.
use Rattle.std.proofs.Common.{◌≡◌, ℕ, ◌+◌, List, [], ◌∷◌, ◌++◌, Result, Ok, Err, Bool, Option, Some, None, IfOk, length, refl, sym, ◌∙◌, ap, subst, arith}
use Rattle.std.specs.Prelude.{MatchOption}
use Rattle.yaml_definitions.specs.model.Event.{Event, stream_start, stream_end, document_start, document_end, sequence_start, sequence_end, mapping_start, mapping_end, scalar_event, alias_event}
use Rattle.yaml_definitions.specs.grammar.Events.{Props}
use Rattle.yaml_sink.specs.PropertyRules.{with_props, dressed}
use Rattle.yaml_sink.specs.Held.{Puts, Alters}
use Rattle.yaml_sink.specs.SinkModel.{holds_of, start_of, end_of}
use Rattle.yaml_sink.specs.declared.sink.Collection.{Collection}
use Rattle.yaml_sink.specs.declared.sink.Collection.TheVariants.{Sequence, Mapping}
use Rattle.yaml_sink.specs.declared.sink.Sink.{Sink}
use Rattle.yaml_sink.specs.declared.sink.Sink.TheVariants.{Kept}
use Rattle.yaml_read.specs.Counts.{content_of, contents_of, CountHolds, Grows}
use Rattle.yaml_read.specs.declared.count.Counter.{Counter}

pub if_ok : {T E : Type 0} {P Q : T → Type 0} (r : Result T E) → IfOk r P → ((x : T) → P x → Q x) → IfOk r Q
if_ok (Ok x) h f = f x h
if_ok (Err e) h f = h

contents_append : (xs ys : List Event) → contents_of (xs ++ ys) ≡ contents_of xs + contents_of ys
unfolding contents_of
contents_append [] ys = omega arith
contents_append (x ∷ xs) ys = let e : contents_of (xs ++ ys) ≡ contents_of xs + contents_of ys = contents_append xs ys in omega (arith, e)

bytes_on : (p q : Option ℕ) (len x y : ℕ) → y ≡ x + len → MatchOption p (Unit {0}) (λ m. m ≡ x) → MatchOption q (Unit {0}) (λ n. MatchOption p ⊥ (λ m. n ≡ m + len)) → MatchOption q (Unit {0}) (λ n. n ≡ y)
bytes_on p None len x y e h g = tt
bytes_on None (Some n) len x y e h g = absurd g
bytes_on (Some m) (Some n) len x y e h g = g ∙ ap (λ k. k + len) h ∙ sym e

grown : (a b : Counter) (len : ℕ) (old new : List Event) → Grows a len b → CountHolds a old → length new ≡ length old + 1 → contents_of new ≡ contents_of old + len → CountHolds b new
grown a b len old new g h n c = record {
  events = g.events ∙ ap (λ k. k + 1) h.events ∙ sym n;
  bytes = bytes_on a.bytes b.bytes len (contents_of old) (contents_of new) c h.bytes g.bytes;
}

one_more : (log es : List Event) (e : Event) → length (log ++ e ∷ es) ≡ length (log ++ es) + 1
one_more [] es e = omega arith
one_more (x ∷ log) es e = let h : length (log ++ e ∷ es) ≡ length (log ++ es) + 1 = one_more log es e in omega (arith, h)

more_contents : (log es : List Event) (e : Event) → contents_of (log ++ e ∷ es) ≡ contents_of (log ++ es) + content_of e
unfolding contents_of
more_contents log es e =
    let a : contents_of (log ++ e ∷ es) ≡ contents_of log + (content_of e + contents_of es) = contents_append log (e ∷ es) in
    let b : contents_of (log ++ es) ≡ contents_of log + contents_of es = contents_append log es in
    omega (arith, a, b)

nothing_behind : (log : List Event) → log ++ [] ≡ log
nothing_behind [] = refl
nothing_behind (x ∷ log) = ap (λ v. x ∷ v) (nothing_behind log)

pub counts_inserted : (a b : Counter) (start len : ℕ) (e : Event) → len ≡ content_of e → Grows a len b → Alters CountHolds start (λ es. e ∷ es) a b
counts_inserted a b start len e l g = record {
  is = λ log es s h. grown a b len (log ++ es) (log ++ e ∷ es) g h (one_more log es e) (more_contents log es e ∙ ap (λ k. contents_of (log ++ es) + k) (sym l));
}

pub counts_put : (a b : Counter) (len : ℕ) (e : Event) → len ≡ content_of e → Grows a len b → Puts CountHolds a (e ∷ []) b
counts_put a b len e l g = record {
  is = λ log h. (counts_inserted a b (length log) len e l g).is log [] refl (subst (CountHolds a) (sym (nothing_behind log)) h);
}

-- the start and the end of a collection have none
pub start_content : (k : Collection) (flow : Bool) → 0 ≡ content_of (start_of k flow)
start_content Sequence flow = refl
start_content Mapping flow = refl

pub end_content : (k : Collection) → 0 ≡ content_of (end_of k)
end_content Sequence = refl
end_content Mapping = refl

-- properties are no content
same_content : (p : Props) (e : Event) → content_of (with_props p e) ≡ content_of e
same_content p stream_start = refl
same_content p stream_end = refl
same_content p sequence_end = refl
same_content p mapping_end = refl
same_content p (document_start explicit) = refl
same_content p (document_end explicit) = refl
same_content p (sequence_start flow a t) = refl
same_content p (mapping_start flow a t) = refl
same_content p (scalar_event a t style text) = refl
same_content p (alias_event name) = refl

same_contents : (p : Props) (log es : List Event) → contents_of (log ++ dressed p es) ≡ contents_of (log ++ es)
unfolding contents_of
same_contents p log [] = refl
same_contents p log (e ∷ es) = more_contents log es (with_props p e) ∙ ap (λ k. contents_of (log ++ es) + k) (same_content p e) ∙ sym (more_contents log es e)

same_length : (p : Props) (log es : List Event) → length (log ++ dressed p es) ≡ length (log ++ es)
same_length p log [] = refl
same_length p log (e ∷ es) = one_more log es (with_props p e) ∙ sym (one_more log es e)

same_bytes : (q : Option ℕ) (x y : ℕ) → y ≡ x → MatchOption q (Unit {0}) (λ m. m ≡ x) → MatchOption q (Unit {0}) (λ m. m ≡ y)
same_bytes None x y e h = tt
same_bytes (Some n) x y e h = h ∙ sym e

pub counts_dressed : (a : Counter) (start : ℕ) (p : Props) → Alters CountHolds start (dressed p) a a
counts_dressed a start p = record {
  is = λ log es s h. record { events = h.events ∙ sym (same_length p log es); bytes = same_bytes a.bytes (contents_of (log ++ es)) (contents_of (log ++ dressed p es)) (same_contents p log es) h.bytes };
}

pub counts_none : (c : Counter) → c.events ≡ 0 → c.bytes ≡ Some 0 → CountHolds c []
unfolding contents_of
counts_none c e b = record { events = e; bytes = subst (λ q. MatchOption q (Unit {0}) (λ n. n ≡ 0)) (sym b) refl }

-- all that a keeper holds that held nothing
pub all_kept : {K : Type 0} (holds : K → List Event → Type 0) (first last : K) (out : Sink K) (es : List Event) → holds first [] → out ≡ Kept last → Puts (holds_of holds) (Kept first) es out → holds last es
all_kept holds first last out es h is p =
    let held : holds_of holds (Kept last) es = subst (λ v. holds_of holds v es) is (p.is [] h) in
    held
