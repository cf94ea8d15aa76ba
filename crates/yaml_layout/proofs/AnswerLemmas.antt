-- What a call says, passed on, and events put down one after the other.
use Rattle.std.proofs.Common.{◌≡◌, ℕ, List, [], ◌++◌, Result, Ok, Err, Option, Some, None, sym, ◌∙◌, ap, subst, append_assoc}
use Rattle.std.specs.Result.{IsErrAnd}
use Rattle.std.proofs.lemmas.Result.{err_from_is_err_and}
use Rattle.std.proofs.lemmas.List.{append-nil}
use Rattle.yaml_definitions.specs.model.Event.{Event}
use Rattle.yaml_definitions.specs.grammar.Rules.{Rule}
use Rattle.yaml_text.specs.declared.fault.Fault.{Fault}
use Rattle.yaml_text.specs.declared.fault.Fault.TheVariants as fault
use Rattle.yaml_text.specs.LeafAnswer as scalar
use Rattle.yaml_text.specs.LeafAnswer.{IsRefusal}
use Rattle.yaml_sink.specs.Held.{Counts, Keeps, Puts, Alters}
use Rattle.yaml_layout.specs.NodeAnswer.{Appends, Perhaps}

-- at the exit of a `?`
pub appends_err : {X S : Type 0} (R : X → Rule (List Event)) (i : ℕ) (end : X → ℕ) (holds : S → List Event → Type 0) (old new : S) (r : Result X Fault) (e : Fault) →
    IsErrAnd r (λ y. y ≡ e) → IsRefusal e → Appends R i end holds old new r
appends_err R i end holds old new r e was refused =
    let p = err_from_is_err_and r was in
    subst (Appends R i end holds old new) (sym (p.1 ∙ ap Err p.2)) refused

-- what is said of each reading by one rule is said of another's
pub appends_by : {X S : Type 0} (R T : X → Rule (List Event)) (i k : ℕ) (end : X → ℕ) (holds : S → List Event → Type 0) (old new : S) (r : Result X Fault) →
    ((x : X) (es : List Event) → R x i (end x) es → T x k (end x) es) → Appends R i end holds old new r → Appends T k end holds old new r
appends_by R T i k end holds old new (Ok x) f (es, a, p) = (es, a, f x es p)
appends_by R T i k end holds old new (Err e) f a = a

pub puts_on : {S : Type 0} {holds : S → List Event → Type 0} (a b c : S) (xs ys : List Event) → Puts holds a xs b → Puts holds b ys c → Puts holds a (xs ++ ys) c
puts_on {S} {holds} a b c xs ys p q = record { is = λ log h. subst (holds c) (append_assoc log xs ys) (q.is (log ++ xs) (p.is log h)) }

pub puts_none : {S : Type 0} {holds : S → List Event → Type 0} (a : S) → Puts holds a [] a
puts_none {S} {holds} a = record { is = λ log h. subst (holds a) (sym (append-nil log)) h }

-- nothing was put down before
pub puts_after : {S : Type 0} {holds : S → List Event → Type 0} (a b c : S) (es : List Event) → Keeps holds a b → Puts holds b es c → Puts holds a es c
puts_after a b c es k p = record { is = λ log h. p.is log (k.is log h) }

-- what was put down since a mark became something else
pub puts_altered : {S : Type 0} {holds : S → List Event → Type 0} (a b c : S) (start : ℕ) (f : List Event → List Event) (es : List Event) → Counts holds a start → Puts holds a es b → Alters holds start f b c → Puts holds a (f es) c
puts_altered a b c start f es m p q = record { is = λ log h. q.is log es (m.is log h) (p.is log h) }

-- events that were put down before
pub appends_after : {X S : Type 0} {holds : S → List Event → Type 0} (R T : X → Rule (List Event)) (i k : ℕ) (end : X → ℕ) (old mid new : S) (r : Result X Fault) (es : List Event) → Puts holds old es mid →
    ((x : X) (vs : List Event) → R x i (end x) vs → T x k (end x) (es ++ vs)) → Appends R i end holds mid new r → Appends T k end holds old new r
appends_after R T i k end old mid new (Ok x) es a f (vs, b, p) = (es ++ vs, puts_on old mid new es vs a b, f x vs p)
appends_after R T i k end old mid new (Err e) es a f b = b

pub appends_same : {X S : Type 0} {holds : S → List Event → Type 0} (R T : X → Rule (List Event)) (i k : ℕ) (end : X → ℕ) (old mid new : S) (r : Result X Fault) → Keeps holds old mid →
    ((x : X) (vs : List Event) → R x i (end x) vs → T x k (end x) vs) → Appends R i end holds mid new r → Appends T k end holds old new r
appends_same R T i k end old mid new (Ok x) a f (vs, b, p) = (vs, puts_after old mid new vs a b, f x vs p)
appends_same R T i k end old mid new (Err e) a f b = b

-- of what was found, or not
pub perhaps_some : {X S : Type 0} {holds : S → List Event → Type 0} (R : X → Rule (List Event)) (i : ℕ) (end : X → ℕ) (old new : S) (found : Option X) (x : X) → found ≡ Some x → Perhaps R i end holds old new (Ok found) →
    (es : List Event) × Puts holds old es new × R x i (end x) es
perhaps_some {X} {S} {holds} R i end old new found x e h = let some : Perhaps R i end holds old new (Ok (Some x)) = subst (λ o. Perhaps R i end holds old new (Ok o)) e h in some

pub perhaps_none : {X S : Type 0} {holds : S → List Event → Type 0} (R : X → Rule (List Event)) (i : ℕ) (end : X → ℕ) (old new : S) (found : Option X) → found ≡ None → Perhaps R i end holds old new (Ok found) → Keeps holds old new
perhaps_none {X} {S} {holds} R i end old new found e h = let none : Perhaps R i end holds old new (Ok None) = subst (λ o. Perhaps R i end holds old new (Ok o)) e h in none

-- the faults of a scalar are faults of the reader
pub scalar_refusal : (P : Type 0) (e : Fault) → scalar.ScalarFaultMeans e P → IsRefusal e
scalar_refusal P (fault.Syntax at) p = tt
scalar_refusal P (fault.Tab at) p = tt
scalar_refusal P (fault.BadEscape at) p = tt
scalar_refusal P fault.OutOfMemory p = tt
scalar_refusal P _ p = absurd p

pub unread_refusal : (e : Fault) → scalar.IsSyntaxFault e → IsRefusal e
unread_refusal (fault.Syntax at) p = tt
unread_refusal (fault.Tab at) p = tt
unread_refusal _ p = absurd p
