-- What a text is scanned to, of a text and of its beginning.
use Rattle.std.proofs.Common.{◌≡◌, ℕ, zero, suc, ◌+◌, ◌<◌, ◌⊎◌, inl, inr, List, [], ◌∷◌, ◌++◌, true, Some, length, take, drop, slice_get, sym, ◌∙◌, ap, subst, arith}
use Rattle.std.specs.List.{All}
use Rattle.std.proofs.lemmas.List.Elements.{All-append}
use Rattle.yaml_definitions.proofs.CharLaws.{heads, tails}
use Rattle.review_hints.specs.Hinted.{is_mark}
use Rattle.review_hints.specs.Hints.{IsOpened, IsMode, IsScanned}
use Rattle.review_hints.specs.declared.scan.Mode.{Mode}
use Rattle.review_hints.specs.declared.scan.Mode.TheVariants as modes
use Rattle.review_hints.specs.declared.scan.Opened.{Opened}
use Rattle.review_hints.specs.declared.scan.Scan.{Scan}

-- ---- the next byte

pub first_left : (cs : List ℕ) (i y : ℕ) (ys : List ℕ) → drop i cs ≡ y ∷ ys → slice_get cs i ≡ Some y
first_left [] zero y ys e = absurd (let h : ◌≡◌ {A = List ℕ} [] (y ∷ ys) = e in cc)
first_left [] (suc i) y ys e = absurd (let h : ◌≡◌ {A = List ℕ} [] (y ∷ ys) = e in cc)
first_left (x ∷ xs) zero y ys e = ap (λ z. Some z) (heads e)
first_left (x ∷ xs) (suc i) y ys e = first_left xs i y ys e

pub others_left : (cs : List ℕ) (i y : ℕ) (ys : List ℕ) → drop i cs ≡ y ∷ ys → drop (i + 1) cs ≡ ys
others_left [] zero y ys e = absurd (let h : ◌≡◌ {A = List ℕ} [] (y ∷ ys) = e in cc)
others_left [] (suc i) y ys e = absurd (let h : ◌≡◌ {A = List ℕ} [] (y ∷ ys) = e in cc)
others_left (x ∷ xs) zero y ys e = tails e
others_left (x ∷ xs) (suc i) y ys e = ap (λ k. drop k (x ∷ xs)) (let f : suc i + 1 ≡ suc (i + 1) = omega arith in f) ∙ others_left xs i y ys e

-- ---- a beginning

taken : (text : List ℕ) (at k x : ℕ) → slice_get (take at text) k ≡ Some x → (slice_get text k ≡ Some x) × (k < at)
taken [] zero k x e = absurd cc
taken [] (suc at) k x e = absurd cc
taken (y ∷ text) zero k x e = absurd cc
taken (y ∷ text) (suc at) zero x e = (e, omega arith)
taken (y ∷ text) (suc at) (suc k) x e =
    let h = taken text at k x e in
    (h.0, omega (arith, h.1))

-- ---- what is opened

pub opened_here : (text : List ℕ) (end at byte : ℕ) (o : Opened) → at < end → slice_get text at ≡ Some byte → is_mark byte ≡ true → (o.at ≡ at) × (o.mark ≡ byte) → IsOpened text end o
opened_here text end at byte o l s m h = record {
  before = subst (λ z. z < end) (sym h.0) l;
  stands = subst (λ z. slice_get text z ≡ Some o.mark) (sym h.0) (s ∙ ap (λ z. Some z) (sym h.1));
  opens = subst (λ z. is_mark z ≡ true) (sym h.1) m;
}

one : (P : Opened → Type 0) (o : Opened) → P o → All P (o ∷ [])
one P o h zero d l = h
one P o h (suc k) d l = absurd (let n : suc k < 1 = l in omega (arith, n))

pub opened_more : (text : List ℕ) (end : ℕ) (o : Opened) (list new : List Opened) → All (IsOpened text end) list → new ≡ list ++ (o ∷ []) → IsOpened text end o → All (IsOpened text end) new
opened_more text end o list new h e k = subst (λ z. All (IsOpened text end) z) (sym e) (All-append (IsOpened text end) list (o ∷ []) h (one (IsOpened text end) o k))

module _ (text before : List ℕ) (at : ℕ) (front : (before ≡ []) ⊎ (before ≡ take at text)) where
  opened_in : (o : Opened) → IsOpened before (length before) o → IsOpened text at o
  opened_in o h = elim front [
    | inl e ↦ absurd (let g : slice_get [] o.at ≡ Some o.mark = subst (λ z. slice_get z o.at ≡ Some o.mark) e h.stands in cc)
    | inr e ↦
        let g = taken text at o.at o.mark (subst (λ z. slice_get z o.at ≡ Some o.mark) e h.stands) in
        record { before = g.1; stands = g.0; opens = h.opens }
  ]

  mode_in : (m : Mode) → IsMode before (length before) m → IsMode text at m
  mode_in (modes.Double o) h = opened_in o h
  mode_in (modes.Escape o) h = opened_in o h
  mode_in (modes.Single o) h = opened_in o h
  mode_in (modes.SingleEnd o) h = opened_in o h
  mode_in modes.Start h = tt
  mode_in (modes.Plain at) h = tt
  mode_in modes.Behind h = tt
  mode_in modes.Property h = tt
  mode_in modes.Comment h = tt
  mode_in modes.Header h = tt
  mode_in modes.Block h = tt
  mode_in modes.BlockLine h = tt

  pub scanned_in : (scan : Scan) → IsScanned before (length before) scan → IsScanned text at scan
  scanned_in scan h = record {
    flow = λ k d l. opened_in _ (h.flow k d l);
    mode = mode_in scan.mode h.mode;
  }
