-- From where a reader stands to documents and streams.
use Rattle.std.proofs.Common.{◌≡◌, ℕ, ◌+◌, inl, inr, Some, List, [], ◌∷◌, true, map, refl, sym, ◌∙◌, subst, Vec, Global}
use Rattle.std.specs.Prelude.{slice_get}
use Rattle.yaml_definitions.specs.model.Limits.{open_limit}
use Rattle.yaml_definitions.specs.model.Event.{Event, document_start}
use Rattle.yaml_definitions.specs.grammar.Rules.{any_span, Spans, Rule, seen}
use Rattle.yaml_definitions.specs.grammar.Separation.{StartsLine, AtEnd, DocumentMarkOf, DocumentMark, l-comment as l_comment, s-l-comments as s_l_comments, s-b-comment as s_b_comment}
use Rattle.yaml_definitions.specs.grammar.Tags.{Handles}
use Rattle.yaml_definitions.specs.grammar.Directives.{directives}
use Rattle.yaml_text.specs.Calls.{read_directives}
use Rattle.yaml_definitions.specs.grammar.Streams.{document_mark, l-explicit-document as explicit_document, l-directive-document as directive_document, l-document-suffix as suffix, suffix_piece}
use Rattle.yaml_text.specs.Lines.{AfterLine}
use Rattle.yaml_text.proofs.LineRuns.{line_end_after}
use Rattle.yaml_text.specs.declared.fault.Fault.{Fault}
use Rattle.yaml_text.specs.declared.fault.Fault.TheVariants as fault
use Rattle.yaml_mark.specs.MarkFaults.{DirectivesRefuse}
use Rattle.yaml_text.specs.LeafAnswer.{IsRefusal}
use Rattle.yaml_layout.specs.NodeAnswer.{Appends}
use Rattle.yaml_text.specs.EventModel.{event_of}
use Rattle.yaml_text.specs.declared.event.Event as code
use Rattle.yaml_sink.specs.Held.{Puts}
use Rattle.yaml_sink.specs.ListModel.{HeldList}
use Rattle.yaml_sink.specs.SinkModel.{holds_of, HeldBeside}
use Rattle.yaml_sink.specs.declared.list.EventList.{EventList}
use Rattle.yaml_sink.specs.declared.sink.Sink.{Sink}
use Rattle.yaml_sink.specs.declared.sink.Sink.TheVariants.{Listed, Both}
use Rattle.yaml_sink.specs.declared.sink.Beside.{Beside}
use Rattle.yaml_layout.proofs.AnswerLemmas.{puts_on}
use Rattle.std.specs.Prelude.{Result, Ok, Err, IfOk, IfErr, MatchResult}
use Rattle.yaml_read.specs.StreamRules.{opened_by_mark, opened_by_directives}

-- an event that was put down before what a call puts down
pub appends_after : {X S : Type 0} {holds : S → List Event → Type 0} (R : X → Rule (List Event)) (v : Event) (i : ℕ) (end : X → ℕ) (old mid new : S) (r : Result X Fault) → Puts holds old (v ∷ []) mid →
    Appends R i end holds mid new r → Appends (λ x. seen (λ es. v ∷ es) (R x)) i end holds old new r
appends_after R v i end old mid new (Ok x) first (es, a, p) = (v ∷ es, puts_on old mid new (v ∷ []) es first a, (es, p, refl))
appends_after R v i end old mid new (Err e) first a = a

-- all that a list holds that held nothing
pub all_listed : {K : Type 0} {holds : K → List Event → Type 0} (first last : EventList) (out : Sink K) (es : List Event) → HeldList first [] → out ≡ Listed last → Puts (holds_of holds) (Listed first) es out → HeldList last es
all_listed {K} {holds} first last out es h is p =
    let held : holds_of holds (Listed last) es = subst (λ v. holds_of holds v es) is (p.is [] h) in
    held

-- all that a list and a keeper beside it hold that held nothing
pub all_beside : {K : Type 0} (holds : K → List Event → Type 0) (first last : Beside K) (out : Sink K) (es : List Event) → HeldList first.list [] → holds first.keeper [] → out ≡ Both last → Puts (holds_of holds) (Both first) es out → HeldBeside holds last es
all_beside holds first last out es l h is p =
    let held : holds_of holds (Both last) es = subst (λ v. holds_of holds v es) is (p.is [] (record { list = l; keeper = h })) in
    held

-- what is made of a list that holds these events, unless there is no memory for it
module _ (list : EventList) (es : List Event) (held : HeldList list es) where
  abbrev pub Makes : Vec code.Event Global → Type 0
  Makes events = (log : List Event) → HeldList list log → map event_of events.items ≡ log

  pub if_made : (Q : List Event → Type 0) (r : Result (Vec code.Event Global) Fault) → IfOk r Makes → Q es → IfOk r (λ events. Q (map event_of events.items))
  if_made Q (Ok x) f q = subst Q (sym (f es held)) q
  if_made Q (Err e) f q = tt

  pub made_or_wanting : (fs : List Event) (r : Result (Vec code.Event Global) Fault) → IfOk r Makes → IfErr r (λ e. e ≡ fault.OutOfMemory) → es ≡ fs → MatchResult r (λ events. map event_of events.items ≡ fs) (λ e. e ≡ fault.OutOfMemory)
  made_or_wanting fs (Ok x) f m e = f es held ∙ e
  made_or_wanting fs (Err x) f m e = m

-- the faults of directives are faults of the reader
pub directives_refusal : (P : Type 0) (e : Fault) → DirectivesRefuse e P → IsRefusal e
directives_refusal P (fault.Syntax at) p = tt
directives_refusal P (fault.Tab at) p = tt
directives_refusal P (fault.BadDirective at) p = tt
directives_refusal P fault.OutOfMemory p = tt
directives_refusal P _ p = absurd p

module _ (cs : List ℕ) where
  pub mark_here : (c i a b d : ℕ) → DocumentMarkOf cs c i → slice_get cs i ≡ Some c → a ≡ i + 1 → slice_get cs a ≡ Some c → b ≡ a + 1 → slice_get cs b ≡ Some c → d ≡ b + 1
      → document_mark cs (Unit {0}) open_limit c i d
  unfolding document_mark
  mark_here c i a b d m f e g h k l = (i, (refl, m), (a, (f, e), (b, (g, h), (d, (k, l), refl))))

  pub mark_line : (c i : ℕ) → DocumentMarkOf cs c i → StartsLine cs i
  unfolding DocumentMarkOf
  mark_line c i m = m.0

  pub no_mark : (i : ℕ) → (DocumentMarkOf cs 45 i → ⊥) → (DocumentMarkOf cs 46 i → ⊥) → DocumentMark cs i → ⊥
  unfolding DocumentMark
  no_mark i n o (inl m) = n m
  no_mark i n o (inr m) = o m

  pub after_lines : (j i : ℕ) → AfterLine cs i → any_span (l_comment cs) i j → AfterLine cs j
  unfolding l_comment
  after_lines j i a (Spans.done e) = subst (AfterLine cs) (sym e) a
  after_lines j i a (Spans.then k (l, (m, s, (n, c, e))) more) = after_lines j k (line_end_after cs n k e) more

  pub after_comments : (i j : ℕ) → s_l_comments cs i j → AfterLine cs j
  unfolding s_l_comments s_b_comment
  after_comments i j (k, inl (m, s, e), lines) = after_lines j k (line_end_after cs m k e) lines
  after_comments i j (k, inr (e, s), lines) = after_lines j k (inl (subst (StartsLine cs) (sym e) s)) lines

  pub starts_line : (i : ℕ) → AfterLine cs i → (AtEnd cs i → ⊥) → StartsLine cs i
  starts_line i (inl s) n = s
  starts_line i (inr e) n = absurd (n e)

  pub mark_suffix : (i k j : ℕ) → document_mark cs (Unit {0}) open_limit 46 i k → s_l_comments cs k j → suffix cs (Unit {0}) open_limit i j (suffix_piece ∷ [])
  unfolding suffix
  mark_suffix i k j m c = (k, m, (k, (refl, refl), c))

  pub mark_explicit : (handles : Handles) (i k j : ℕ) (es : List Event) → document_mark cs (Unit {0}) open_limit 45 i k → opened_by_mark cs handles k j es
      → (fs : List Event) × explicit_document cs (Unit {0}) open_limit handles i j fs × (es ≡ document_start true ∷ fs)
  unfolding explicit_document
  mark_explicit handles i k j es m (fs, r, e) = (fs, (k, m, r), e)

  pub directed : (handles : Handles) (i k a j : ℕ) (es : List Event) → read_directives cs i k handles → document_mark cs (Unit {0}) open_limit 45 k a
      → opened_by_mark cs handles a j es → opened_by_directives cs i j es
  unfolding read_directives directive_document
  directed handles i k a j es (n, d, (e, ends)) m r =
      let x = mark_explicit handles k a j es m r in
      (x.0, (k, handles, subst (λ z. directives cs i z handles) (sym e) d, x.1), x.2)
