-- The parts of a line, byte by byte.
use Rattle.std.proofs.Common.{◌≡◌, ◌==◌, ◌++◌, ℕ, ◌+◌, ◌-◌, ◌<◌, ◌≤◌, Bool, true, false, cond, List, [], ◌∷◌, Option, None, Some, length, take, drop, get_or, refl, sym, ◌∙◌, ap, subst, append-nil, arith}
use Rattle.std.proofs.lemmas.List.{drop_more, take-append-drop}
use Rattle.yaml_sum.specs.Parts.{line_text, is_white, skip_white, with_byte, cut_last}

-- ---- the end of a line

one_short : (is : Bool) (b : ℕ) → length (cond is [] (b ∷ [])) ≤ 1
one_short true b = omega arith
one_short false b = omega arith

-- a line is not longer without its end
pub text_short : (line : List ℕ) → length (line_text line) ≤ length line
text_short [] = omega arith
text_short (b ∷ []) = one_short (b == 13) b
text_short (b ∷ c ∷ bs) = let more = text_short (c ∷ bs) in omega (arith, more)

cons_cond : (is : Bool) (b : ℕ) (xs ys : List ℕ) → b ∷ cond is xs ys ≡ cond is (b ∷ xs) (b ∷ ys)
cons_cond true b xs ys = refl
cons_cond false b xs ys = refl

-- the last byte of a line tells whether it is left out
text_last : (rest : List ℕ) (b : ℕ) → line_text (rest ++ (b ∷ [])) ≡ cond (b == 13) rest (rest ++ (b ∷ []))
text_last [] b = refl
text_last (r ∷ []) b = cons_cond (b == 13) r [] (b ∷ [])
text_last (r ∷ s ∷ rest) b = ap (λ z. r ∷ z) (text_last (s ∷ rest) b) ∙ cons_cond (b == 13) r (s ∷ rest) (s ∷ (rest ++ (b ∷ [])))

pub text_is : (line rest : List ℕ) (b : ℕ) → line ≡ rest ++ (b ∷ []) → (b == 13) ≡ true → rest ≡ line_text line
text_is line rest b e f = sym (ap line_text e ∙ text_last rest b ∙ ap (λ z. cond z rest (rest ++ (b ∷ []))) f)

pub text_whole : (line rest : List ℕ) (b : ℕ) → line ≡ rest ++ (b ∷ []) → (b == 13) ≡ false → line ≡ line_text line
text_whole line rest b e f = e ∙ sym (ap line_text e ∙ text_last rest b ∙ ap (λ z. cond z rest (rest ++ (b ∷ []))) f)

pub text_none : (line : List ℕ) → length line ≡ 0 → line ≡ line_text line
text_none [] e = refl
text_none (b ∷ bs) e = absurd (omega (arith, e))

-- ---- blanks

-- a blank comes off
pub white_step : (text : List ℕ) (at d : ℕ) → at < length text → is_white (get_or text at d) ≡ true → skip_white text ≡ skip_white (drop at text) → skip_white text ≡ skip_white (drop (at + 1) text)
white_step text at d within e h = h ∙ ap skip_white (drop_more text at d within) ∙ ap (λ z. cond z (skip_white (drop (at + 1) text)) (get_or text at d ∷ drop (at + 1) text)) e

-- and another byte does not
pub white_stop : (text : List ℕ) (at d : ℕ) → at < length text → is_white (get_or text at d) ≡ false → skip_white text ≡ skip_white (drop at text) → drop at text ≡ skip_white text
white_stop text at d within e h =
    let more = drop_more text at d within in
    sym (h ∙ ap skip_white more ∙ ap (λ z. cond z (skip_white (drop (at + 1) text)) (get_or text at d ∷ drop (at + 1) text)) e ∙ sym more)

pub white_end : (text rest : List ℕ) → rest ≡ [] → skip_white text ≡ skip_white rest → rest ≡ skip_white text
white_end text rest e h = sym (h ∙ ap skip_white e ∙ sym e)

-- ---- the last bracket

-- a byte that is no bracket, before others of which none is
pub cut_step : (text : List ℕ) (at next d : ℕ) → next + 1 ≡ at → at ≤ length text → (get_or text next d == 41) ≡ false → cut_last (drop at text) ≡ None → cut_last (drop next text) ≡ None
cut_step text at next d e within f h =
    let less : next < length text = omega (arith, e, within) in
    ap cut_last (drop_more text next d less)
    ∙ ap (λ n. with_byte (get_or text next d) (drop n text) (cut_last (drop n text))) e
    ∙ ap (with_byte (get_or text next d) (drop at text)) h
    ∙ ap (λ z. cond z (Some ([], drop at text)) None) f

-- a bracket before them
cut_here : (text : List ℕ) (at next d : ℕ) → next + 1 ≡ at → at ≤ length text → (get_or text next d == 41) ≡ true → cut_last (drop at text) ≡ None → cut_last (drop next text) ≡ Some ([], drop at text)
cut_here text at next d e within f h =
    let less : next < length text = omega (arith, e, within) in
    ap cut_last (drop_more text next d less)
    ∙ ap (λ n. with_byte (get_or text next d) (drop n text) (cut_last (drop n text))) e
    ∙ ap (with_byte (get_or text next d) (drop at text)) h
    ∙ ap (λ z. cond z (Some ([], drop at text)) None) f

-- whatever is before that belongs to the name
cut_front : (xs ys before behind : List ℕ) → cut_last ys ≡ Some (before, behind) → cut_last (xs ++ ys) ≡ Some (xs ++ before, behind)
cut_front [] ys before behind e = e
cut_front (x ∷ xs) ys before behind e = ap (with_byte x (xs ++ ys)) (cut_front xs ys before behind e)

pub cut_is : (text : List ℕ) (at next d : ℕ) → next + 1 ≡ at → at ≤ length text → (get_or text next d == 41) ≡ true → cut_last (drop at text) ≡ None → Some (take next text, drop at text) ≡ cut_last text
cut_is text at next d e within f h =
    sym (ap cut_last (sym (take-append-drop next text)) ∙ cut_front (take next text) (drop next text) [] (drop at text) (cut_here text at next d e within f h) ∙ ap (λ z. Some (z, drop at text)) (append-nil (take next text)))

-- a text without a bracket
pub cut_none : (text : List ℕ) (at : ℕ) → at ≡ 0 → cut_last (drop at text) ≡ None → None ≡ cut_last text
cut_none text at e h = sym (subst (λ n. cut_last (drop n text) ≡ None) e h)
