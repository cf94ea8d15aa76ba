-- What a call decides, passed on: at its refusals, and where one reading's end is every reading's.
use Rattle.std.proofs.Common.{◌≡◌, ℕ, ◌⊎◌, inl, inr, Result, Ok, Err, refl, sym, ◌∙◌, ap, subst}
use Rattle.std.specs.Result.{IsErrAnd}
use Rattle.std.proofs.lemmas.Result.{err_from_is_err_and}
use Rattle.yaml_text.specs.LeafAnswer.{Unread, Only, ScalarFaultMeans}
use Rattle.yaml_definitions.specs.grammar.Rules.{Rule}
use Rattle.yaml_text.specs.declared.fault.Fault.{Fault}
use Rattle.yaml_text.specs.declared.fault.Fault.TheVariants as fault
use Rattle.law_one_reading.specs.Readings.{End}
use Rattle.law_going_on.specs.GoingOn.{Refused, Goes, Here}
use Rattle.yaml_layout.specs.NodeAnswer.{Decides}

-- at the exit of a `?`
pub at_err : {X : Type 0} (P : Result X Fault → Type 0) (r : Result X Fault) (e : Fault) → IsErrAnd r (λ y. y ≡ e) → P (Err e) → P r
at_err P r e was p = let h = err_from_is_err_and r was in subst P (sym (h.1 ∙ ap Err h.2)) p

pub decides_err : {V X : Type 0} (R : Rule V) (E : End) (i : ℕ) (F : End) (end : X → ℕ) (r : Result X Fault) (e : Fault) → IsErrAnd r (λ y. y ≡ e) → (e ≡ fault.OutOfMemory) ⊎ Refused R E i → Decides R E i F end r
decides_err R E i F end = at_err (Decides R E i F end)

-- the same of another rule
pub decides_by : {V W X : Type 0} (R : Rule V) (E : End) (i : ℕ) (F : End) (S : Rule W) (G : End) (k : ℕ) (H : End) (end : X → ℕ) (r : Result X Fault)
    → ((x : ℕ) → Goes R E i F x → Goes S G k H x) → (Refused R E i → Refused S G k) → Decides R E i F end r → Decides S G k H end r
decides_by R E i F S G k H end (Ok x) f g d = f (end x) d
decides_by R E i F S G k H end (Err e) f g (inl m) = inl m
decides_by R E i F S G k H end (Err e) f g (inr n) = inr (g n)

pub refusal : {P : Type 0} (e : Fault) → ScalarFaultMeans e P → (e ≡ fault.OutOfMemory) ⊎ P
refusal (fault.Syntax at) p = inr p
refusal (fault.Tab at) p = inr p
refusal (fault.BadEscape at) p = inr p
refusal fault.OutOfMemory p = inl refl
refusal _ p = absurd p

pub unread_refused : {V : Type 0} (R : Rule V) (E : End) (i : ℕ) → Unread R i → Refused R E i
unread_refused R E i none = record { none = λ j m v r e. none j v r }

-- the only reading's end is where each ends
pub only_goes : {V : Type 0} (R : Rule V) (i x : ℕ) (w : V) → Only R i x w → Goes R Here i Here x
only_goes R i x w o = record { goes = λ j m v r e. e ∙ (o.only j v r).0 }

-- and then it ends there whatever follows
pub one_end : {V : Type 0} (R : Rule V) (E : End) (i x : ℕ) → Goes R Here i Here x → Goes R E i E x
one_end R E i x g = record { goes = λ j m v r e. subst (λ y. E y m) (g.goes j j v r refl) e }

pub no_end : {V : Type 0} (R : Rule V) (E : End) (i : ℕ) → Refused R Here i → Refused R E i
no_end R E i f = record { none = λ j m v r e. f.none j j v r refl }

pub one_left : {A P : Type 0} → A ⊎ P → (A → ⊥) → P
one_left (inl a) f = absurd (f a)
one_left (inr p) f = p
