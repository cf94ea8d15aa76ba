-- Brackets, byte by byte.
use Rattle.std.proofs.Common.{◌≡◌, ℕ, zero, suc, ◌<◌, get_or, drop-cons, ◌+◌, ◌-◌, ◌==◌, ◌≤◌, ◌⊎◌, inl, inr, Bool, true, false, not, ◌&&◌, List, [], ◌∷◌, ◌++◌, length, take, drop, cond, Option, Some, None, refl, sym, ◌∙◌, ap, subst, arith}
use Rattle.std.proofs.lemmas.List.{append_assoc, length-append}
use Rattle.std.proofs.Math.Seq.{take-append_seam}
use Rattle.review_patterns.proofs.ByteLaws.{is, among, and-left, and-right, not-true}
use Rattle.review_patterns.specs.Brackets.{behind_of, depth_of}
use Rattle.review_patterns.specs.Grammar.{is_open, is_close, InQuotes, quote_end, escape, quoted_byte, InTag, tag_end, tag_byte, Closes, closed, opens, closes, quotes, tags, other}
use Rattle.review_patterns.specs.declared.bracket.At.{At}
use Rattle.review_patterns.specs.declared.bracket.At.TheVariants.{Plain, Quoted, Escaped, Tag}

abbrev pub plus : ℕ → Option ℕ → Option ℕ
plus n None = None
plus n (Some k) = Some (n + k)

-- where no bracket is open, the last byte was the one that closes the first bracket
abbrev pub stop : ℕ → Option ℕ → Option ℕ
stop zero found = Some 1
stop (suc depth) found = plus 1 found

-- how many bytes go up to there
abbrev pub scan : At → ℕ → List ℕ → Option ℕ
scan a depth [] = None
scan a depth (c ∷ s) = stop (depth_of a c depth) (scan (behind_of a c) (depth_of a c depth) s)

-- ---- one step

scan-on : (a : At) (c d e : ℕ) (s : List ℕ) → depth_of a c d ≡ suc e → scan a d (c ∷ s) ≡ plus 1 (scan (behind_of a c) (suc e) s)
scan-on a c d e s h = ap (λ z. stop z (scan (behind_of a c) z s)) h

scan-stop : (a : At) (c d : ℕ) (s : List ℕ) → depth_of a c d ≡ 0 → scan a d (c ∷ s) ≡ Some 1
scan-stop a c d s h = ap (λ z. stop z (scan (behind_of a c) z s)) h

open-depth : (c d : ℕ) → is_open c ≡ true → depth_of Plain c d ≡ suc d
open-depth c d h = ap (λ z. cond z (d + 1) (cond (is_close c) (d - 1) d)) h ∙ omega arith

no-close : (c : ℕ) → is_close c ≡ true → is_open c ≡ false
no-close c h = among (λ z. is_open z ≡ false) c 93 125 h refl refl

close-depth : (c d : ℕ) → is_close c ≡ true → depth_of Plain c (suc d) ≡ d
close-depth c d h = ap (λ z. cond z (suc d + 1) (cond (is_close c) (suc d - 1) (suc d))) (no-close c h) ∙ ap (λ z. cond z (suc d - 1) (suc d)) h ∙ omega arith

same-depth : (c d : ℕ) → is_open c ≡ false → is_close c ≡ false → depth_of Plain c d ≡ d
same-depth c d h k = ap (λ z. cond z (d + 1) (cond (is_close c) (d - 1) d)) h ∙ ap (λ z. cond z (d - 1) d) k

stays : (c : ℕ) → (c == 34) ≡ false → (c == 60) ≡ false → behind_of Plain c ≡ Plain
stays c h k = ap (λ z. cond z Quoted (cond (c == 60) Tag Plain)) h ∙ ap (λ z. cond z Tag Plain) k

in-plain : (a : At) (e : ℕ) (s : List ℕ) → a ≡ Plain → plus 1 (scan a e s) ≡ plus 1 (scan Plain e s)
in-plain a e s h = ap (λ z. plus 1 (scan z e s)) h

plus-plus : (m n : ℕ) (o : Option ℕ) → plus m (plus n o) ≡ plus (m + n) o
plus-plus m n None = refl
plus-plus m n (Some k) = ap Some (omega arith)

as-len : (m n : ℕ) (o : Option ℕ) → m ≡ n → plus m o ≡ plus n o
as-len m n o e = ap (λ z. plus z o) e

-- ---- what the grammar says is found

quoted-whole : {q : List ℕ} → InQuotes q → (d : ℕ) (s : List ℕ) → scan Quoted (suc d) (q ++ s) ≡ plus (length q) (scan Plain (suc d) s)
quoted-whole quote_end d s = refl
quoted-whole (escape {c} {text} q) d s = ap (λ z. plus 1 (plus 1 z)) (quoted-whole q d s) ∙ ap (plus 1) (plus-plus 1 (length text) (scan Plain (suc d) s)) ∙ plus-plus 1 (1 + length text) (scan Plain (suc d) s) ∙ as-len (1 + (1 + length text)) (suc (suc (length text))) (scan Plain (suc d) s) (omega arith)
quoted-whole (quoted_byte {c} {text} h k q) d s =
    let e : behind_of Quoted c ≡ Quoted = ap (λ z. cond z Plain (cond (c == 92) Escaped Quoted)) h ∙ ap (λ z. cond z Escaped Quoted) k in
    ap (λ z. plus 1 (scan z (suc d) (text ++ s))) e ∙ ap (plus 1) (quoted-whole q d s) ∙ plus-plus 1 (length text) (scan Plain (suc d) s) ∙ as-len (1 + length text) (suc (length text)) (scan Plain (suc d) s) (omega arith)

tag-whole : {g : List ℕ} → InTag g → (d : ℕ) (s : List ℕ) → scan Tag (suc d) (g ++ s) ≡ plus (length g) (scan Plain (suc d) s)
tag-whole tag_end d s = refl
tag-whole (tag_byte {c} {text} h g) d s =
    let e : behind_of Tag c ≡ Tag = ap (λ z. cond z Plain Tag) h in
    ap (λ z. plus 1 (scan z (suc d) (text ++ s))) e ∙ ap (plus 1) (tag-whole g d s) ∙ plus-plus 1 (length text) (scan Plain (suc d) s) ∙ as-len (1 + length text) (suc (length text)) (scan Plain (suc d) s) (omega arith)

open-plain : (c : ℕ) → is_open c ≡ true → behind_of Plain c ≡ Plain
open-plain c h = stays c (among (λ z. (z == 34) ≡ false) c 91 123 h refl refl) (among (λ z. (z == 60) ≡ false) c 91 123 h refl refl)

close-plain : (c : ℕ) → is_close c ≡ true → behind_of Plain c ≡ Plain
close-plain c h = stays c (among (λ z. (z == 34) ≡ false) c 93 125 h refl refl) (among (λ z. (z == 60) ≡ false) c 93 125 h refl refl)

one-more : (n : ℕ) (o : Option ℕ) → o ≡ Some n → plus 1 o ≡ Some (suc n)
one-more n o h = ap (plus 1) h ∙ ap Some (omega arith)

counted : (q text : List ℕ) → 1 + (length q + length text) ≡ suc (length (q ++ text))
counted q text = omega (arith, length-append q text)

pub whole : {d : ℕ} {t : List ℕ} → Closes (suc d) t → (s : List ℕ) → scan Plain (suc d) (t ++ s) ≡ Some (length t)
whole (opens {depth = d} {c} {text} h t) s = scan-on Plain c (suc d) (suc d) (text ++ s) (open-depth c (suc d) h) ∙ in-plain (behind_of Plain c) (suc (suc d)) (text ++ s) (open-plain c h) ∙ one-more (length text) (scan Plain (suc (suc d)) (text ++ s)) (whole t s)
whole (closes {depth = zero} {c} {text} h closed) s = scan-stop Plain c 1 s (close-depth c 0 h)
whole (closes {depth = suc d} {c} {text} h t) s = scan-on Plain c (suc (suc d)) d (text ++ s) (close-depth c (suc d) h) ∙ in-plain (behind_of Plain c) (suc d) (text ++ s) (close-plain c h) ∙ one-more (length text) (scan Plain (suc d) (text ++ s)) (whole t s)
whole (quotes {depth = d} {quoted = q} {text} k t) s = ap (λ z. plus 1 (scan Quoted (suc d) z)) (append_assoc q text s) ∙ ap (plus 1) (quoted-whole k d (text ++ s)) ∙ ap (λ z. plus 1 (plus (length q) z)) (whole t s) ∙ ap Some (counted q text)
whole (tags {depth = d} {tag = g} {text} k t) s = ap (λ z. plus 1 (scan Tag (suc d) z)) (append_assoc g text s) ∙ ap (plus 1) (tag-whole k d (text ++ s)) ∙ ap (λ z. plus 1 (plus (length g) z)) (whole t s) ∙ ap Some (counted g text)
whole (other {depth = d} {c} {text} h t) s =
    let front : (not (is_open c) && not (is_close c)) ≡ true = and-left (not (is_open c) && not (is_close c)) (not (c == 34) && not (c == 60)) h in
    let back : (not (c == 34) && not (c == 60)) ≡ true = and-right (not (is_open c) && not (is_close c)) (not (c == 34) && not (c == 60)) h in
    let o : is_open c ≡ false = not-true (is_open c) (and-left (not (is_open c)) (not (is_close c)) front) in
    let l : is_close c ≡ false = not-true (is_close c) (and-right (not (is_open c)) (not (is_close c)) front) in
    let q : (c == 34) ≡ false = not-true (c == 34) (and-left (not (c == 34)) (not (c == 60)) back) in
    let g : (c == 60) ≡ false = not-true (c == 60) (and-right (not (c == 34)) (not (c == 60)) back) in
    scan-on Plain c (suc d) d (text ++ s) (same-depth c (suc d) o l) ∙ in-plain (behind_of Plain c) (suc d) (text ++ s) (stays c q g) ∙ one-more (length text) (scan Plain (suc d) (text ++ s)) (whole t s)

-- ---- what is found is in the grammar

abbrev pub Runs : At → ℕ → List ℕ → Type 0
Runs Plain d t = Closes d t
Runs Quoted d t = (q : List ℕ) × (r : List ℕ) × InQuotes q × Closes d r × (t ≡ q ++ r)
Runs Escaped d t = (c : ℕ) × (q : List ℕ) × (r : List ℕ) × InQuotes q × Closes d r × (t ≡ c ∷ (q ++ r))
Runs Tag d t = (g : List ℕ) × (r : List ℕ) × InTag g × Closes d r × (t ≡ g ++ r)

at-depth : (a : At) (d e : ℕ) (t : List ℕ) → d ≡ e → Runs a d t → Runs a e t
at-depth a d e t h r = subst (λ z. Runs a z t) h r

quote-back : (c d : ℕ) (t : List ℕ) → c ≡ 34 → Runs Quoted (suc d) t → Closes (suc d) (c ∷ t)
quote-back c d t e (q, r, k, o, h) = subst (λ z. Closes (suc d) (z ∷ t)) (sym e) (subst (λ z. Closes (suc d) (34 ∷ z)) (sym h) (quotes k o))

tag-back : (c d : ℕ) (t : List ℕ) → c ≡ 60 → Runs Tag (suc d) t → Closes (suc d) (c ∷ t)
tag-back c d t e (g, r, k, o, h) = subst (λ z. Closes (suc d) (z ∷ t)) (sym e) (subst (λ z. Closes (suc d) (60 ∷ z)) (sym h) (tags k o))

plain-back : (c d e : ℕ) (t : List ℕ) → depth_of Plain c (suc d) ≡ e → behind_of Plain c ≡ Plain → (c == 34) ≡ false → (c == 60) ≡ false → Closes e t → Closes (suc d) (c ∷ t)
plain-back c d e t h b q g r = by (is_open c) refl (is_close c) refl
  where
    by : (o : Bool) → is_open c ≡ o → (l : Bool) → is_close c ≡ l → Closes (suc d) (c ∷ t)
    by true o l k = opens o (subst (λ z. Closes z t) (sym h ∙ open-depth c (suc d) o) r)
    by false o true k = closes k (subst (λ z. Closes z t) (sym h ∙ close-depth c d k) r)
    by false o false k = other (ap (λ z. (not z && not (is_close c)) && (not (c == 34) && not (c == 60))) o ∙ ap (λ z. (true && not z) && (not (c == 34) && not (c == 60))) k ∙ ap (λ z. not z && not (c == 60)) q ∙ ap not g) (subst (λ z. Closes z t) (sym h ∙ same-depth c (suc d) o k) r)

-- no byte but a bracket changes the depth
no-bracket : (c n : ℕ) → (n ≡ 34) ⊎ (n ≡ 60) → c ≡ n → (is_open c ≡ false) × (is_close c ≡ false)
no-bracket c n (inl e) h = subst (λ z. (is_open z ≡ false) × (is_close z ≡ false)) (sym (h ∙ e)) (refl, refl)
no-bracket c n (inr e) h = subst (λ z. (is_open z ≡ false) × (is_close z ≡ false)) (sym (h ∙ e)) (refl, refl)

from-plain : (c d e : ℕ) (t : List ℕ) → depth_of Plain c (suc d) ≡ suc e → Runs (behind_of Plain c) (suc e) t → Closes (suc d) (c ∷ t)
from-plain c d e t h r = by (c == 34) refl (c == 60) refl
  where
    by : (q : Bool) → (c == 34) ≡ q → (g : Bool) → (c == 60) ≡ g → Closes (suc d) (c ∷ t)
    by true q g k =
        let n : (is_open c ≡ false) × (is_close c ≡ false) = no-bracket c 34 (inl refl) (is c 34 q) in
        quote-back c d t (is c 34 q) (at-depth Quoted (suc e) (suc d) t (sym h ∙ same-depth c (suc d) n.0 n.1) (subst (λ z. Runs z (suc e) t) (ap (λ z. cond z Quoted (cond (c == 60) Tag Plain)) q) r))
    by false q true k =
        let n : (is_open c ≡ false) × (is_close c ≡ false) = no-bracket c 60 (inr refl) (is c 60 k) in
        tag-back c d t (is c 60 k) (at-depth Tag (suc e) (suc d) t (sym h ∙ same-depth c (suc d) n.0 n.1) (subst (λ z. Runs z (suc e) t) (ap (λ z. cond z Quoted (cond (c == 60) Tag Plain)) q ∙ ap (λ z. cond z Tag Plain) k) r))
    by false q false k = plain-back c d (suc e) t h (stays c q k) q k (subst (λ z. Runs z (suc e) t) (stays c q k) r)

quoted-escape : (c d : ℕ) (t : List ℕ) → (c == 92) ≡ true → Runs Escaped (suc d) t → Runs Quoted (suc d) (c ∷ t)
quoted-escape c d t k (b, text, rest, i, o, h) = (92 ∷ b ∷ text, rest, escape i, o, ap (λ z. z ∷ t) (is c 92 k) ∙ ap (λ z. 92 ∷ z) h)

quoted-on : (c d : ℕ) (t : List ℕ) → (c == 34) ≡ false → (c == 92) ≡ false → Runs Quoted (suc d) t → Runs Quoted (suc d) (c ∷ t)
quoted-on c d t q k (text, rest, i, o, h) = (c ∷ text, rest, quoted_byte q k i, o, ap (λ z. c ∷ z) h)

from-quoted : (c d : ℕ) (t : List ℕ) → Runs (behind_of Quoted c) (suc d) t → Runs Quoted (suc d) (c ∷ t)
from-quoted c d t r = by (c == 34) refl (c == 92) refl
  where
    by : (q : Bool) → (c == 34) ≡ q → (g : Bool) → (c == 92) ≡ g → Runs Quoted (suc d) (c ∷ t)
    by true q g k = (34 ∷ [], t, quote_end, subst (λ z. Runs z (suc d) t) (ap (λ z. cond z Plain (cond (c == 92) Escaped Quoted)) q) r, ap (λ z. z ∷ t) (is c 34 q))
    by false q true k = quoted-escape c d t k (subst (λ z. Runs z (suc d) t) (ap (λ z. cond z Plain (cond (c == 92) Escaped Quoted)) q ∙ ap (λ z. cond z Escaped Quoted) k) r)
    by false q false k = quoted-on c d t q k (subst (λ z. Runs z (suc d) t) (ap (λ z. cond z Plain (cond (c == 92) Escaped Quoted)) q ∙ ap (λ z. cond z Escaped Quoted) k) r)

tag-on : (c d : ℕ) (t : List ℕ) → (c == 62) ≡ false → Runs Tag (suc d) t → Runs Tag (suc d) (c ∷ t)
tag-on c d t q (text, rest, i, o, h) = (c ∷ text, rest, tag_byte q i, o, ap (λ z. c ∷ z) h)

from-tag : (c d : ℕ) (t : List ℕ) → Runs (behind_of Tag c) (suc d) t → Runs Tag (suc d) (c ∷ t)
from-tag c d t r = by (c == 62) refl
  where
    by : (q : Bool) → (c == 62) ≡ q → Runs Tag (suc d) (c ∷ t)
    by true q = (62 ∷ [], t, tag_end, subst (λ z. Runs z (suc d) t) (ap (λ z. cond z Plain Tag) q) r, ap (λ z. z ∷ t) (is c 62 q))
    by false q = tag-on c d t q (subst (λ z. Runs z (suc d) t) (ap (λ z. cond z Plain Tag) q) r)

from-escaped : (c d : ℕ) (t : List ℕ) → Runs Quoted (suc d) t → Runs Escaped (suc d) (c ∷ t)
from-escaped c d t (q, r, i, o, h) = (c, q, r, i, o, ap (λ z. c ∷ z) h)

back : (a : At) (c d e : ℕ) (t : List ℕ) → depth_of a c (suc d) ≡ suc e → Runs (behind_of a c) (suc e) t → Runs a (suc d) (c ∷ t)
back Plain c d e t h r = from-plain c d e t h r
back Quoted c d e t h r = from-quoted c d t (at-depth (behind_of Quoted c) (suc e) (suc d) t (sym h) r)
back Escaped c d e t h r = from-escaped c d t (at-depth Quoted (suc e) (suc d) t (sym h) r)
back Tag c d e t h r = from-tag c d t (at-depth (behind_of Tag c) (suc e) (suc d) t (sym h) r)

last : (a : At) (c d : ℕ) → depth_of a c (suc d) ≡ 0 → Runs a (suc d) (c ∷ [])
last Plain c d h = by (is_open c) refl (is_close c) refl
  where
    by : (o : Bool) → is_open c ≡ o → (l : Bool) → is_close c ≡ l → Closes (suc d) (c ∷ [])
    by true o l k = absurd (omega (arith, sym h ∙ open-depth c (suc d) o))
    by false o true k = closes k (subst (λ z. Closes z []) (sym h ∙ close-depth c d k) closed)
    by false o false k = absurd (omega (arith, sym h ∙ same-depth c (suc d) o k))
last Quoted c d h = absurd (omega (arith, h))
last Escaped c d h = absurd (omega (arith, h))
last Tag c d h = absurd (omega (arith, h))

abbrev pub Found : At → ℕ → List ℕ → ℕ → Type 0
Found a d s n = (t : List ℕ) × (more : List ℕ) × (s ≡ t ++ more) × (length t ≡ n) × Runs a d t

found-next : (a : At) (c d e : ℕ) (s : List ℕ) (n k : ℕ) → depth_of a c (suc d) ≡ suc e → Some (1 + k) ≡ Some n → Found (behind_of a c) (suc e) s k → Found a (suc d) (c ∷ s) n
found-next a c d e s n k j m (t, more, whole-is, len, runs) =
    let i : 1 + k ≡ n = cc in
    (c ∷ t, more, ap (λ z. c ∷ z) whole-is, omega (arith, len, i), back a c d e t j runs)

found-last : (a : At) (c d n : ℕ) (s : List ℕ) → Some 1 ≡ Some n → depth_of a c (suc d) ≡ 0 → Found a (suc d) (c ∷ s) n
found-last a c d n s m e =
    let i : 1 ≡ n = cc in
    (c ∷ [], s, refl, i, last a c d e)

sound-next : (a : At) (c d : ℕ) (s : List ℕ) (n : ℕ) → ((b : At) (e k : ℕ) → scan b (suc e) s ≡ Some k → Found b (suc e) s k) → scan a (suc d) (c ∷ s) ≡ Some n → Found a (suc d) (c ∷ s) n
sound-next a c d s n ih h = by (depth_of a c (suc d)) refl
  where
    next : (e : ℕ) → depth_of a c (suc d) ≡ suc e → (o : Option ℕ) → scan (behind_of a c) (suc e) s ≡ o → plus 1 o ≡ Some n → Found a (suc d) (c ∷ s) n
    next e j None k m = absurd (cc)
    next e j (Some k) is-k m = found-next a c d e s n k j m (ih (behind_of a c) e k is-k)

    by : (e : ℕ) → depth_of a c (suc d) ≡ e → Found a (suc d) (c ∷ s) n
    by zero e = found-last a c d n s (sym (scan-stop a c (suc d) s e) ∙ h) e
    by (suc e) k = next e k (scan (behind_of a c) (suc e) s) refl (sym (scan-on a c (suc d) e s k) ∙ h)

pub sound : (a : At) (d : ℕ) (s : List ℕ) (n : ℕ) → scan a (suc d) s ≡ Some n → Found a (suc d) s n
sound a d [] n h = absurd (cc)
sound a d (c ∷ s) n h = sound-next a c d s n (λ b e k. sound b e s k) h

-- ---- the loop

pub scan-end : (a : At) (c d e place : ℕ) (text : List ℕ) (o : Option ℕ) → o ≡ plus place (scan a d (drop place text)) → drop place text ≡ c ∷ drop (place + 1) text → e ≡ depth_of a c d → e ≡ 0 → o ≡ Some (place + 1)
scan-end a c d e place text o h t k z = h ∙ ap (λ y. plus place (scan a d y)) t ∙ ap (plus place) (scan-stop a c d (drop (place + 1) text) (sym k ∙ z))

pub scan-over : (a : At) (d place : ℕ) (text : List ℕ) (o : Option ℕ) → o ≡ plus place (scan a d (drop place text)) → drop place text ≡ [] → o ≡ None
scan-over a d place text o h t = h ∙ ap (λ z. plus place (scan a d z)) t

pub closes-at : (text : List ℕ) (n : ℕ) → scan Plain 1 text ≡ Some n → (n ≤ length text) × Closes 1 (take n text)
closes-at text n h = by (sound Plain 0 text n h)
  where
    by : Found Plain 1 text n → (n ≤ length text) × Closes 1 (take n text)
    by (t, more, is-all, len, runs) =
        let l : length text ≡ length t + length more = ap length is-all ∙ length-append t more in
        (omega (arith, l, len), subst (Closes 1) (sym (ap (λ z. take z text) (sym len) ∙ ap (take (length t)) is-all ∙ take-append_seam t more)) runs)

pub whole-at : (text : List ℕ) (r : Option ℕ) → scan Plain 1 text ≡ r → (inside more : List ℕ) → Closes 1 inside → text ≡ inside ++ more → r ≡ Some (length inside)
whole-at text r h inside more k t = sym h ∙ ap (scan Plain 1) t ∙ whole k more

pub drop-next : (text : List ℕ) (at : ℕ) → at < length text → drop at text ≡ get_or text at 0 ∷ drop (at + 1) text
drop-next text at h =
    let e : suc at ≡ at + 1 = omega arith in
    drop-cons text at 0 h ∙ ap (λ z. get_or text at 0 ∷ drop z text) e

pub drop-over : (text : List ℕ) (at : ℕ) → length text ≤ at → drop at text ≡ []
drop-over [] zero h = refl
drop-over [] (suc at) h = refl
drop-over (c ∷ text) zero h = absurd (omega (arith, h))
drop-over (c ∷ text) (suc at) h = drop-over text at (omega (arith, h))
