-- The order of keys, by which no two keys are equal.
use Rattle.std.proofs.Common.{◌≡◌, ℕ, ◌<◌, true, refl, ◌∙◌, ap, subst}
use Rattle.std.specs.declared.cmp.Ordering.{Ordering}
use Rattle.std.specs.declared.cmp.Ordering.TheVariants.{Less, Equal, Greater}
use Rattle.std.specs.Cmp.{ranked}
use Rattle.std.specs.Ordering.{MatchOrdering, ordering_then, nat_cmp, is_eq}
use Rattle.std.proofs.lemmas.Cmp.{nat_cmp_total, tied_itself}
use Rattle.review_faults.specs.contracts.keys.FormOrd.TheImpl as form
use Rattle.review_faults.specs.contracts.keys.KeyOrd.TheImpl as key
use Rattle.review_faults.specs.declared.keys.Form.{Form}
use Rattle.review_faults.specs.declared.keys.Form.TheVariants as forms
use Rattle.review_faults.specs.declared.keys.Key.{Key}

equal-is : (o : Ordering) → is_eq o ≡ true → o ≡ Equal
equal-is Less e = absurd (cc)
equal-is Equal e = refl
equal-is Greater e = absurd (cc)

number-eq : (x y : ℕ) → is_eq (nat_cmp x y) ≡ true → x ≡ y
number-eq x y e = subst (λ (o : Ordering). MatchOrdering o (x < y) (x ≡ y) (y < x)) (equal-is (nat_cmp x y) e) (ranked x y (nat_cmp x y) refl)

form-eq : (x y : Form) → is_eq (form.ghosts.cmp x y) ≡ true → x ≡ y
form-eq forms.Null forms.Null e = refl
form-eq forms.Null forms.False e = absurd (cc)
form-eq forms.Null forms.True e = absurd (cc)
form-eq forms.Null (forms.Number y) e = absurd (cc)
form-eq forms.False forms.Null e = absurd (cc)
form-eq forms.False forms.False e = refl
form-eq forms.False forms.True e = absurd (cc)
form-eq forms.False (forms.Number y) e = absurd (cc)
form-eq forms.True forms.Null e = absurd (cc)
form-eq forms.True forms.False e = absurd (cc)
form-eq forms.True forms.True e = refl
form-eq forms.True (forms.Number y) e = absurd (cc)
form-eq (forms.Number x) forms.Null e = absurd (cc)
form-eq (forms.Number x) forms.False e = absurd (cc)
form-eq (forms.Number x) forms.True e = absurd (cc)
form-eq (forms.Number x) (forms.Number y) e = ap (λ z. forms.Number z) (number-eq x y e)

form-same : (x : Form) → form.ghosts.cmp x x ≡ Equal
form-same forms.Null = refl
form-same forms.False = refl
form-same forms.True = refl
form-same (forms.Number x) = tied_itself nat_cmp_total x

both-eq : (a b : Ordering) → is_eq (ordering_then a b) ≡ true → (is_eq a ≡ true) × (is_eq b ≡ true)
both-eq Less b e = absurd (cc)
both-eq Equal b e = (refl, e)
both-eq Greater b e = absurd (cc)

pub key-eq : (x y : Key) → is_eq (key.ghosts.cmp x y) ≡ true → x ≡ y
key-eq x y e =
    let h = both-eq (nat_cmp x.mapping y.mapping) (form.ghosts.cmp x.form y.form) e in
    λ i. record { mapping = number-eq x.mapping y.mapping h.0 i; form = form-eq x.form y.form h.1 i }

pub key-same : (x : Key) → is_eq (key.ghosts.cmp x x) ≡ true
key-same x = ap (λ z. is_eq (ordering_then z (form.ghosts.cmp x.form x.form))) (tied_itself nat_cmp_total x.mapping) ∙ ap is_eq (form-same x.form)
