-- What tests, refusals and counts say, passed on.
use Rattle.std.proofs.Common.{◌≡◌, ℕ, zero, suc, ◌+◌, List, [], ◌∷◌, ◌++◌, Result, Err, replicate, sym, refl, subst, ap, ◌∙◌, add-one}
use Rattle.std.specs.Prelude.{Ok, IfOk, is_ok, if◌then◌else◌}
use Rattle.std.specs.Result.{IsErrAnd}
use Rattle.std.proofs.lemmas.Result.{err_from_is_err_and}
use Rattle.yaml_scalar.specs.Chains.{TextRule}
use Rattle.yaml_text.specs.LeafAnswer.{Answers, ScalarFaultMeans}
use Rattle.yaml_text.specs.LeafAnswer.{IsSyntaxFault}
use Rattle.yaml_text.specs.LeafAnswer.{Unread}
use Rattle.yaml_text.specs.declared.fault.Fault.{Fault}
use Rattle.yaml_text.specs.declared.fault.Fault.TheVariants as fault

pub refuses_weaker : (e : Fault) {P Q : Type 0} → (P → Q) → ScalarFaultMeans e P → ScalarFaultMeans e Q
refuses_weaker (fault.Syntax at) f p = f p
refuses_weaker (fault.Tab at) f p = f p
refuses_weaker (fault.BadEscape at) f p = f p
refuses_weaker fault.OutOfMemory f p = tt
refuses_weaker _ f p = p

-- at a place where the text can't be read on
pub refuses_unread : (e : Fault) {P : Type 0} → IsSyntaxFault e → P → ScalarFaultMeans e P
refuses_unread (fault.Syntax at) u p = p
refuses_unread (fault.Tab at) u p = p
refuses_unread _ u p = absurd u

-- at the exit of a `?`
pub answers_err : {X : Type 0} (Best : TextRule → TextRule) (R : TextRule) (i : ℕ) (end : X → ℕ) (value : X → List ℕ) (r : Result X Fault) (e : Fault) →
    IsErrAnd r (λ y. y ≡ e) → ScalarFaultMeans e (Unread R i) → Answers Best R i end value r
answers_err Best R i end value r e was refused =
    let p = err_from_is_err_and r was in
    subst (Answers Best R i end value) (sym (p.1 ∙ ap Err p.2)) refused

pub replicate_snoc : (n x : ℕ) → replicate (n + 1) x ≡ replicate n x ++ x ∷ []
replicate_snoc n x = ap (λ m. replicate m x) (add-one n) ∙ go n
  where
    go : (n : ℕ) → replicate (suc n) x ≡ replicate n x ++ x ∷ []
    go zero = refl
    go (suc n) = ap (λ v. x ∷ v) (go n)

-- what a growth made of a text, where its result is handed on
pub if_ok : {T E : Type 0} (r : Result T E) (new grown same : List ℕ) → new ≡ (if is_ok r then grown else same) → IfOk r (λ _. new ≡ grown)
if_ok (Ok x) new grown same e = e
if_ok (Err x) new grown same e = tt
