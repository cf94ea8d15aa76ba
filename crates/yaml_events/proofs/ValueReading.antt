-- What a value stands for.
use Rattle.std.proofs.Common.{◌≡◌, Bool, true, false, ◌==◌, ◌⊎◌, inl, inr, ◌<◌, ◌≤◌, ◌-◌, ◌+◌, ℕ, List, [], ◌∷◌, ◌++◌, length, take, drop, get_or, refl, sym, ap, ◌∙◌, subst, arith, append_assoc}
use Rattle.std.proofs.lemmas.Bool.{cond_both}
use Rattle.std.proofs.lemmas.List.{append-nil, take_all, take_more, drop_more, take-append-drop, length-drop}
use Rattle.std.specs.Prelude.{MatchOption, Option, Some, None, is_some, String}
use Rattle.std.proofs.Common.{Global}
use Rattle.std.specs.String.{string_bytes}
use Rattle.yaml_definitions.specs.model.EventText.{value_byte, value_text}
use Rattle.yaml_definitions.proofs.CharLaws.{heads, tails}
use Rattle.yaml_definitions.proofs.EventTextLaws.{read_value, read_spelled}
use Rattle.yaml_events.proofs.ValueText.{value_append, run_more}

-- a value begins with one byte's text alone
byte_once : (b c : ℕ) (r s : List ℕ) → value_byte b ++ r ≡ value_byte c ++ s → (b ≡ c) × (r ≡ s)
byte_once b c r s e =
    let p : ◌≡◌ {A = ℕ × List ℕ} (b, r) (c, s) = sym (read_spelled b r) ∙ (ap read_value e ∙ read_spelled c s) in
    (ap (λ z. z.0) p, ap (λ z. z.1) p)

abbrev IsSome : List ℕ → Type 0
IsSome [] = ⊥
IsSome (b ∷ bs) = Unit {0}

byte_some : (b : ℕ) (r : List ℕ) → IsSome (value_byte b ++ r)
unfolding value_byte
byte_some b r =
    cond_both (b == 92) _ _ (λ z. IsSome (z ++ r)) (λ e. tt) (λ n. cond_both (b == 10) _ _ (λ z. IsSome (z ++ r)) (λ e. tt) (λ n1.
    cond_both (b == 9) _ _ (λ z. IsSome (z ++ r)) (λ e. tt) (λ n2. cond_both (b == 13) _ _ (λ z. IsSome (z ++ r)) (λ e. tt) (λ n3.
    cond_both (b == 8) _ _ (λ z. IsSome (z ++ r)) (λ e. tt) (λ n4. tt)))))

none : IsSome [] → ⊥
none h = h

-- a text whose value begins with another's begins with it
pub value_cut : (xs ys r : List ℕ) → value_text xs ≡ value_text ys ++ r → (zs : List ℕ) × (xs ≡ ys ++ zs) × (value_text zs ≡ r)
value_cut xs [] r e = (xs, refl, e)
value_cut [] (y ∷ ys) r e = absurd (none (subst IsSome (sym (e ∙ append_assoc (value_byte y) (value_text ys) r)) (byte_some y (value_text ys ++ r))))
value_cut (x ∷ xs) (y ∷ ys) r e =
    let p = byte_once x y (value_text xs) (value_text ys ++ r) (e ∙ append_assoc (value_byte y) (value_text ys) r) in
    let q = value_cut xs ys r p.1 in
    (q.0, (λ i. p.0 i ∷ q.1 i), q.2)

pub value_none : (xs : List ℕ) → value_text xs ≡ [] → xs ≡ []
value_none [] e = refl
value_none (x ∷ xs) e = absurd (none (subst IsSome e (byte_some x (value_text xs))))

pub value_only : (xs ys : List ℕ) → value_text xs ≡ value_text ys → xs ≡ ys
value_only xs ys e =
    let q = value_cut xs ys [] (e ∙ sym (append-nil (value_text ys))) in
    q.1 ∙ ap (λ z. ys ++ z) (value_none q.0 q.2) ∙ append-nil ys

-- ---- bytes of values

-- a byte of a text stands in the value as itself or after a backslash
abbrev Forms : ℕ → Type 0
Forms b = ((d : ℕ) × (value_byte b ≡ 92 ∷ d ∷ [])) ⊎ ((value_byte b ≡ b ∷ []) × (b ≡ 92 → ⊥))

forms : (b : ℕ) → Forms b
unfolding value_byte
forms b =
    let P : List ℕ → Type 0 = λ z. ((d : ℕ) × (z ≡ 92 ∷ d ∷ [])) ⊎ ((z ≡ b ∷ []) × (b ≡ 92 → ⊥)) in
    cond_both (b == 92) _ _ P (λ e. inl (92, refl)) (λ n. cond_both (b == 10) _ _ P (λ e. inl (110, refl)) (λ n1. cond_both (b == 9) _ _ P (λ e. inl (116, refl))
    (λ n2. cond_both (b == 13) _ _ P (λ e. inl (114, refl)) (λ n3. cond_both (b == 8) _ _ P (λ e. inl (98, refl)) (λ n4. inr (refl, λ q. let m : (92 == 92) ≡ false = subst (λ z. (z == 92) ≡ false) q n in absurd (cc)))))))

-- no value begins with a byte that is escaped, nor has a backslash at its end or before a byte that makes no escape
no_barred : (zs r : List ℕ) (b : ℕ) → (b ≡ 92 → ⊥) → (value_byte b ≡ b ∷ [] → ⊥) → value_text zs ≡ b ∷ r → ⊥
no_barred [] r b n m e = none (subst IsSome (sym e) tt)
no_barred (z ∷ zs) r b n m e = by (forms z)
  where
    by : Forms z → ⊥
    by (inl f) = n (heads (sym e ∙ ap (λ x. x ++ value_text zs) f.1))
    by (inr f) = let p : z ≡ b = heads (ap (λ x. x ++ value_text zs) (sym f.0) ∙ e) in m (subst (λ x. value_byte x ≡ x ∷ []) p f.0)

no_escape : (zs r : List ℕ) (b : ℕ) → ((c : ℕ) → value_byte c ≡ 92 ∷ b ∷ [] → ⊥) → value_text zs ≡ 92 ∷ b ∷ r → ⊥
no_escape [] r b m e = none (subst IsSome (sym e) tt)
no_escape (z ∷ zs) r b m e = by (forms z)
  where
    by : Forms z → ⊥
    by (inl f) = let p : f.0 ≡ b = heads (tails (ap (λ x. x ++ value_text zs) (sym f.1) ∙ e)) in m z (subst (λ x. value_byte z ≡ 92 ∷ x ∷ []) p f.1)
    by (inr f) = f.1 (heads (ap (λ x. x ++ value_text zs) (sym f.0) ∙ e))

no_cut : (zs : List ℕ) → value_text zs ≡ 92 ∷ [] → ⊥
no_cut [] e = none (subst IsSome (sym e) tt)
no_cut (z ∷ zs) e = by (forms z)
  where
    by : Forms z → ⊥
    by (inl f) = let p : f.0 ∷ value_text zs ≡ [] = tails (ap (λ x. x ++ value_text zs) (sym f.1) ∙ e) in absurd (cc)
    by (inr f) = f.1 (heads (ap (λ x. x ++ value_text zs) (sym f.0) ∙ e))

-- ---- what a test on an option says
pub some_case : {X : Type 0} (r : Option X) (P : Type 0) (Q : X → Type 0) → MatchOption r P Q → is_some r ≡ true → (x : X) × Q x
some_case (Some x) P Q h e = (x, h)
some_case None P Q h e = absurd (cc)

pub none_case : {X : Type 0} (r : Option X) (P : Type 0) (Q : X → Type 0) → MatchOption r P Q → is_some r ≡ false → P
none_case (Some x) P Q h e = absurd (cc)
none_case None P Q h e = h

-- ---- reading, up to a byte

-- after a backslash, and else with the run from `start` on that is still to be taken
abbrev pub IsReading : Bool → List ℕ → ℕ → ℕ → List ℕ → Type 0
IsReading true text at start out = value_text out ++ (92 ∷ []) ≡ take at text
IsReading false text at start out = (value_text (out ++ take (at - start) (drop start text)) ≡ take at text) × (start ≡ 0 → out ≡ [])

pub reading_same : (text : List ℕ) (at run start : ℕ) (e f : Bool) (out new : String Global) → e ≡ f → run ≡ start → out ≡ new → IsReading f text at start (string_bytes new) → IsReading e text at run (string_bytes out)
reading_same text at run start e f out new p q r z =
    subst (λ x. IsReading x text at run (string_bytes out)) (sym p) (subst (λ x. IsReading f text at x (string_bytes out)) (sym q) (subst (λ x. IsReading f text at start (string_bytes x)) (sym r) z))

split_at : (text : List ℕ) (at : ℕ) → at < length text → text ≡ take at text ++ (get_or text at 0 ∷ drop (at + 1) text)
split_at text at h = sym (take-append-drop at text) ∙ ap (λ x. take at text ++ x) (drop_more text at 0 h)

pub refused_escape : (text out a : List ℕ) (at start b : ℕ) → at < length text → b ≡ get_or text at 0 → ((c : ℕ) → value_byte c ≡ 92 ∷ b ∷ [] → ⊥) → IsReading true text at start out → text ≡ value_text a → ⊥
refused_escape text out a at start b h e m r f =
    let s = sym f ∙ split_at text at h ∙ ap (λ x. x ++ (get_or text at 0 ∷ drop (at + 1) text)) (sym r) ∙ append_assoc (value_text out) (92 ∷ []) (get_or text at 0 ∷ drop (at + 1) text) in
    let q = value_cut a out _ s in
    no_escape q.0 (drop (at + 1) text) b m (q.2 ∙ ap (λ x. 92 ∷ x ∷ drop (at + 1) text) (sym e))

pub refused_byte : (text out a : List ℕ) (at start b : ℕ) → at < length text → b ≡ get_or text at 0 → (b ≡ 92 → ⊥) → (value_byte b ≡ b ∷ [] → ⊥) → IsReading false text at start out → text ≡ value_text a → ⊥
refused_byte text out a at start b h e n m r f =
    let s = sym f ∙ split_at text at h ∙ ap (λ x. x ++ (get_or text at 0 ∷ drop (at + 1) text)) (sym r.0) in
    let q = value_cut a (out ++ take (at - start) (drop start text)) _ s in
    no_barred q.0 (drop (at + 1) text) b n m (q.2 ∙ ap (λ x. x ∷ drop (at + 1) text) (sym e))

pub refused_end : (text out a : List ℕ) (at start : ℕ) → length text ≤ at → IsReading true text at start out → text ≡ value_text a → ⊥
refused_end text out a at start h r f =
    let q = value_cut a out _ (sym f ∙ sym (take_all at text h) ∙ sym r) in
    no_cut q.0 q.2

pub reading_escape : (text out new pushed : List ℕ) (at start b c : ℕ) → at < length text → b ≡ get_or text at 0 → value_byte c ≡ 92 ∷ b ∷ [] → pushed ≡ c ∷ [] → new ≡ out ++ pushed
    → IsReading true text at start out → IsReading false text (at + 1) (at + 1) new
reading_escape text out new pushed at start b c h e v p n r =
    let z : at + 1 - (at + 1) ≡ 0 = omega arith in (
      ap (λ k. value_text (new ++ take k (drop (at + 1) text))) z ∙ ap value_text (append-nil new ∙ n ∙ ap (λ x. out ++ x) p) ∙ value_append out (c ∷ [])
          ∙ ap (λ x. value_text out ++ x) (append-nil (value_byte c) ∙ v) ∙ sym (append_assoc (value_text out) (92 ∷ []) (b ∷ [])) ∙ ap (λ x. x ++ (b ∷ [])) r
          ∙ ap (λ x. take at text ++ (x ∷ [])) e ∙ sym (take_more text at 0 h),
      λ q. absurd (omega arith),
    )

pub reading_mark : (text out new run : List ℕ) (at start after b : ℕ) → at < length text → b ≡ get_or text at 0 → b ≡ 92 → run ≡ take (at - start) (drop start text) → new ≡ out ++ run
    → IsReading false text at start out → IsReading true text (at + 1) after new
reading_mark text out new run at start after b h e m p n r =
    ap (λ x. value_text x ++ (92 ∷ [])) (n ∙ ap (λ x. out ++ x) p) ∙ ap (λ x. x ++ (92 ∷ [])) r.0 ∙ ap (λ x. take at text ++ (x ∷ [])) (sym m ∙ e) ∙ sym (take_more text at 0 h)

pub reading_on : (text out : List ℕ) (at start b : ℕ) → start ≤ at → at < length text → b ≡ get_or text at 0 → value_byte b ≡ b ∷ [] → IsReading false text at start out → IsReading false text (at + 1) start out
reading_on text out at start b l h e v r = (
  ap value_text (ap (λ x. out ++ x) (run_more text start at l h) ∙ sym (append_assoc out (take (at - start) (drop start text)) (get_or text at 0 ∷ [])))
      ∙ value_append (out ++ take (at - start) (drop start text)) (get_or text at 0 ∷ []) ∙ ap (λ x. value_text (out ++ take (at - start) (drop start text)) ++ x) (append-nil (value_byte (get_or text at 0)))
      ∙ ap (λ x. x ++ value_byte (get_or text at 0)) r.0 ∙ ap (λ x. take at text ++ x) (ap value_byte (sym e) ∙ v ∙ ap (λ x. x ∷ []) e) ∙ sym (take_more text at 0 h),
  r.1,
)

-- at the end
abbrev pub IsOnly : List ℕ → List ℕ → Type 0
IsOnly text x = (text ≡ value_text x) × ((a : List ℕ) → text ≡ value_text a → x ≡ a)

only : (text x : List ℕ) → text ≡ value_text x → IsOnly text x
only text x e = (e, λ a f. value_only x a (sym e ∙ f))

pub read_whole : (text out : List ℕ) (at start : ℕ) → length text ≤ at → start ≡ 0 → IsReading false text at start out → IsOnly text text
read_whole text out at start h z r =
    let n : at - start ≡ at = omega (arith, z) in
    let e : take (at - start) (drop start text) ≡ text = ap (λ k. take k (drop start text)) n ∙ ap (λ k. take at (drop k text)) z ∙ take_all at text h in
    only text text (sym (take_all at text h) ∙ sym r.0 ∙ ap value_text (ap (λ x. x ++ take (at - start) (drop start text)) (r.1 z) ∙ e))

pub read_parts : (text out run new : List ℕ) (at start : ℕ) → length text ≤ at → run ≡ drop start text → new ≡ out ++ run → IsReading false text at start out → IsOnly text new
read_parts text out run new at start h p n r =
    let e : take (at - start) (drop start text) ≡ drop start text = take_all (at - start) (drop start text) (omega (arith, length-drop start text)) in
    only text new (sym (take_all at text h) ∙ sym r.0 ∙ ap value_text (ap (λ x. out ++ x) (e ∙ sym p) ∙ sym n))
