-- Patterns that are read step by step.
use Rattle.std.proofs.Common.{◌≡◌, ℕ, ◌+◌, true, false, bytes_eq, codes, suc, take, drop, Some, None, Option, get_or, arith, ◌<◌, ◌≤◌, List, [], ◌∷◌, ◌++◌, map, length, refl, sym, ◌∙◌, ap, subst, inl, inr}
use Rattle.std.specs.List.{flat_map}
use Rattle.std.proofs.lemmas.List.{append_assoc, append-nil, length-append}
use Rattle.std.specs.Prelude.{◌↔◌, IfOk, IfSome, IfNone, IsSome, Result, Ok, Err}
use Rattle.std.specs.Str.{IsCharBoundary}
use Rattle.std.proofs.lemmas.Str.{IsCharBoundary-end, IsCharBoundary-before_ascii}
use Rattle.std.proofs.lemmas.Slice.Eq.{bytes_eq-Decides}
use Rattle.std.proofs.Math.Seq.{drop-append_seam, take-append_seam}
use denote.Ref.{Bor}
use Rattle.std.proofs.lemmas.List.Concat.{flat_map-append}
use Rattle.review_patterns.proofs.ByteLaws.{among, never}
use Rattle.review_patterns.specs.Grammar.{IsStep, AreSteps, is_document, begins_step, at_step}
use Rattle.review_patterns.specs.Patterns.{Begins, IsPattern}

abbrev pub joined : List (List ℕ) → List ℕ
joined steps = flat_map (λ step. step) steps

-- the steps behind that for the document, and what is still to be read
abbrev pub ReadTo : List ℕ → List ℕ → List (List ℕ) → List ℕ → Type 0
ReadTo document text steps rest = (more : List (List ℕ)) × AreSteps more × (steps ≡ document ∷ more) × (text ≡ joined more ++ rest)

-- if the whole text is one step after another, so is what is still to be read
abbrev pub OnlyFrom : List ℕ → List ℕ → Type 0
OnlyFrom text rest = (steps : List (List ℕ)) → AreSteps steps → text ≡ joined steps → (last : List (List ℕ)) × AreSteps last × (rest ≡ joined last)

steps-append : (xs : List (List ℕ)) (y : List ℕ) → AreSteps xs → IsStep y → AreSteps (xs ++ (y ∷ []))
steps-append [] y h k = (k, tt)
steps-append (x ∷ xs) y h k = (h.0, steps-append xs y h.1 k)

pub read-more : (document text : List ℕ) (old new : List (List ℕ)) (rest step more : List ℕ) → ReadTo document text old rest → new ≡ old ++ (step ∷ []) → IsStep step → rest ≡ step ++ more → ReadTo document text new more
read-more document text old new rest step more (done, are, is, whole) n s r =
    (done ++ (step ∷ []), steps-append done step are s, n ∙ ap (λ z. z ++ (step ∷ [])) is, whole ∙ ap (λ z. joined done ++ z) r ∙ sym (append_assoc (joined done) step more) ∙ ap (λ z. z ++ more) (sym (flat_map-append (λ x. x) done (step ∷ []) ∙ ap (λ z. joined done ++ z) (append-nil step))))

pub at-joined : (steps : List (List ℕ)) → AreSteps steps → at_step (joined steps) ≡ true
at-joined [] h = refl
at-joined (step ∷ steps) h = at-first step (joined steps) h.0
  where
    at-first : (x more : List ℕ) → IsStep x → at_step (x ++ more) ≡ true
    at-first x more (inl (rest, k, e)) = ap (λ z. at_step (z ++ more)) e
    at-first x more (inr (rest, k, e)) = ap (λ z. at_step (z ++ more)) e

-- ---- one step

abbrev tail-of : List ℕ → List ℕ
tail-of [] = []
tail-of (c ∷ x) = x

abbrev head-of : List ℕ → ℕ
head-of [] = 0
head-of (c ∷ x) = c

-- what the rest of a step has to be, behind its first byte
abbrev pub Whole : (List ℕ → Type 0) → List ℕ → Option ℕ → Type 0
Whole P text r = (rest more : List ℕ) → P rest → at_step more ≡ true → text ≡ rest ++ more → r ≡ Some (length rest)

pub no-empty-step : (step : List ℕ) → IsStep step → step ≡ [] → ⊥
no-empty-step step (inl (x, k, e)) h =
    let z : 0 ≡ 46 = ap head-of (sym h ∙ e) in
    omega (arith, z)
no-empty-step step (inr (x, k, e)) h =
    let z : 0 ≡ 91 = ap head-of (sym h ∙ e) in
    omega (arith, z)

pub empty-whole : (text step more : List ℕ) → text ≡ [] → IsStep step → text ≡ step ++ more → ⊥
empty-whole text [] more e k t = no-empty-step [] k refl
empty-whole text (c ∷ x) more e k t =
    let z : length text ≡ suc (length (x ++ more)) = ap length t in
    let o : length text ≡ 0 = ap length e in
    omega (arith, z, o)

pub step-whole : (text : List ℕ) (first : ℕ) (rest step more : List ℕ) (r : Option ℕ) → text ≡ first ∷ rest → Whole (λ x. IsStep (first ∷ x)) rest r → IsStep step → at_step more ≡ true → text ≡ step ++ more → (n : ℕ) × (r ≡ Some n) × (n + 1 ≡ length step)
step-whole text first rest [] more r e w k a t = absurd (no-empty-step [] k refl)
step-whole text first rest (c ∷ x) more r e w k a t =
    let same : first ≡ c = ap head-of (sym e ∙ t) in
    (length x, w x more (subst (λ z. IsStep (z ∷ x)) (sym same) k) a (ap tail-of (sym e ∙ t)), omega arith)

pub step-longer : (text : List ℕ) (first : ℕ) (rest : List ℕ) (n : ℕ) → text ≡ first ∷ rest → (n ≤ length rest) × IsStep (first ∷ take n rest) → (0 < n + 1) × (n + 1 ≤ length text) × IsStep (take (n + 1) text)
step-longer text first rest n e (within, step) = (omega arith, omega (arith, within, ap length e), subst IsStep (sym (ap (take (n + 1)) e ∙ ap (λ z. take z (first ∷ rest)) (plus-one n))) step)
  where
    plus-one : (n : ℕ) → n + 1 ≡ suc n
    plus-one n = omega arith

-- ---- a text that is cut

low : (c : ℕ) → begins_step c ≡ true → c < 128
low c h = among (λ z. z < 128) c 46 91 h (omega arith) (omega arith)

at-seam : (step : List ℕ) (c : ℕ) (x : List ℕ) → get_or (step ++ (c ∷ x)) (length step) 0 ≡ c
at-seam [] c x = refl
at-seam (b ∷ step) c x = at-seam step c x

pub seam : (text step more : List ℕ) → at_step more ≡ true → text ≡ step ++ more → IsCharBoundary text (length step)
seam text step [] a t = subst (λ z. IsCharBoundary z (length step)) (sym (t ∙ append-nil step)) (IsCharBoundary-end step)
seam text step (c ∷ x) a t =
    let l : length (step ++ (c ∷ x)) ≡ length step + length (c ∷ x) = length-append step (c ∷ x) in
    subst (λ z. IsCharBoundary z (length step)) (sym t) (IsCharBoundary-before_ascii (step ++ (c ∷ x)) (length step) (omega (arith, l)) (subst (λ z. z < 128) (sym (at-seam step c x)) (low c a)))

abbrev pub Parts : Type 0
Parts = Bor (List ℕ) × Bor (List ℕ)

pub cut-whole : (text : List ℕ) (n : ℕ) (r : Option Parts) (step more : List ℕ) → (IsSome r ↔ IsCharBoundary text n) → IfSome r (λ x. x.1.now ≡ drop n text) → n ≡ length step → at_step more ≡ true → text ≡ step ++ more → IsSome r × IfSome r (λ x. x.1.now ≡ more)
cut-whole text n None step more v b e a t = (v.1 (subst (IsCharBoundary text) (sym e) (seam text step more a t)), tt)
cut-whole text n (Some x) step more v b e a t = (refl, b ∙ ap (λ z. drop z text) e ∙ ap (drop (length step)) t ∙ drop-append_seam step more)

-- ---- all steps

-- where no step is left, none was there
pub stuck : (text rest : List ℕ) → (rest ≡ [] → ⊥) → OnlyFrom text rest → ((step more : List ℕ) → IsStep step → at_step more ≡ true → rest ≡ step ++ more → ⊥) → (steps : List (List ℕ)) → AreSteps steps → text ≡ joined steps → ⊥
stuck text rest full only none steps are is = by (only steps are is)
  where
    by : (last : List (List ℕ)) × AreSteps last × (rest ≡ joined last) → ⊥
    by ([], k, e) = full e
    by (x ∷ xs, k, e) = none x (joined xs) k.0 (at-joined xs k.1) e

pub only-more : (text rest more : List ℕ) → (rest ≡ [] → ⊥) → OnlyFrom text rest → ((step next : List ℕ) → IsStep step → at_step next ≡ true → rest ≡ step ++ next → more ≡ next) → OnlyFrom text more
only-more text rest more full only next steps are is = by (only steps are is)
  where
    by : (last : List (List ℕ)) × AreSteps last × (rest ≡ joined last) → (last : List (List ℕ)) × AreSteps last × (more ≡ joined last)
    by ([], k, e) = absurd (full e)
    by (x ∷ xs, k, e) = (xs, k.1, next x (joined xs) k.0 (at-joined xs k.1) e)

-- ---- patterns

none-joined : (steps : List (List ℕ)) → AreSteps steps → [] ≡ joined steps → steps ≡ []
none-joined [] k e = refl
none-joined (x ∷ xs) k e = absurd (empty-whole [] x (joined xs) refl k.0 e)

pub dot-pattern : (text : List ℕ) (steps : List (List ℕ)) → text ≡ codes "." → Begins [] [] steps → IsPattern text steps
dot-pattern text steps t (more, are, is, e) = inl (t, is ∙ ap (λ z. [] ∷ z) (none-joined more are e))

pub other-pattern : (text document rest : List ℕ) (steps : List (List ℕ)) → (text ≡ [] → ⊥) → is_document document ≡ true → text ≡ document ++ rest → Begins document rest steps → IsPattern text steps
other-pattern text document rest steps full d t b = inr (some text full, document, rest, d, b, t)
  where
    some : (x : List ℕ) → (x ≡ [] → ⊥) → 0 < length x
    some [] f = absurd (f refl)
    some (c ∷ x) f = omega arith

-- no other text is a pattern than one of which the step for the document and the steps were read
pub only-pattern : (text : List ℕ) (steps : List (List ℕ)) → (text ≡ codes "." → ⊥) → ((document more : List ℕ) (last : List (List ℕ)) → is_document document ≡ true → at_step more ≡ true → text ≡ document ++ more → AreSteps last → more ≡ joined last → ⊥) → IsPattern text steps → ⊥
only-pattern text steps dot none (inl (t, s)) = dot t
only-pattern text steps dot none (inr (l, document, rest, d, (more, are, is, e), t)) = none document rest more d (subst (λ z. at_step z ≡ true) (sym e) (at-joined more are)) t are e

pub front-is : (text : List ℕ) (n : ℕ) (front more : List ℕ) → n ≡ length front → text ≡ front ++ more → take n text ≡ front
front-is text n front more e t = ap (λ z. take z text) e ∙ ap (take (length front)) t ∙ take-append_seam front more

pub same-len : (n : ℕ) (x : List ℕ) → Some n ≡ Some (length x) → n ≡ length x
same-len n x e = cc

pub one-longer : (n : ℕ) (x : List ℕ) → (k : ℕ) × (Some n ≡ Some k) × (k + 1 ≡ length x) → Some (n + 1) ≡ Some (length x)
one-longer n x (k, e, l) =
    let same : n ≡ k = cc in
    ap (λ z. Some (z + 1)) same ∙ ap Some l

pub now-append : (xs : List (Bor (List ℕ))) (y : Bor (List ℕ)) → map (λ step. step.now) (xs ++ (y ∷ [])) ≡ map (λ step. step.now) xs ++ (y.now ∷ [])
now-append [] y = refl
now-append (x ∷ xs) y = ap (λ z. x.now ∷ z) (now-append xs y)

pub not-empty : (text : List ℕ) → 0 < length text → text ≡ [] → ⊥
not-empty text h e =
    let l : 0 < 0 = subst (λ z. 0 < length z) e h in
    omega (arith, l)

pub not-dot : (text : List ℕ) → bytes_eq text (codes ".") ≡ false → text ≡ codes "." → ⊥
not-dot text h e = never (bytes_eq text (codes ".")) ((bytes_eq-Decides text (codes ".")).1 e) h

pub is-dot : (text : List ℕ) → bytes_eq text (codes ".") ≡ true → text ≡ codes "."
is-dot text h = (bytes_eq-Decides text (codes ".")).0 h

-- ---- what is answered

pub some-more : {E A : Type 0} (r : Result (Option A) E) (P Q : A → Type 0) → ((p : A) → P p → Q p) → IfOk r (λ read. IfSome read P) → IfOk r (λ read. IfSome read Q)
some-more (Ok (Some p)) P Q f h = f p h
some-more (Ok None) P Q f h = h
some-more (Err e) P Q f h = h

pub none-more : {E A : Type 0} (r : Result (Option A) E) (P Q : Type 0) → (P → Q) → IfOk r (λ read. IfNone read P) → IfOk r (λ read. IfNone read Q)
none-more (Ok (Some p)) P Q f h = h
none-more (Ok None) P Q f h = f h
none-more (Err e) P Q f h = h
