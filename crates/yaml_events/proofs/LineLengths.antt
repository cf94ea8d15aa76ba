-- How long lines, and their parts, are at most.
use Rattle.std.proofs.Common.{◌≡◌, ◌≤◌, ℕ, ◌+◌, ◌*◌, ◌==◌, Bool, true, false, List, [], ◌∷◌, ◌++◌, length, refl, arith, cond, length-append}
use Rattle.std.specs.Prelude.{codes}
use Rattle.yaml_definitions.specs.grammar.Characters.{is_uri}
use Rattle.yaml_definitions.specs.canonical.TagText.{spell_byte, encoded}
use Rattle.yaml_definitions.specs.model.Event.{Style, plain, single, double, literal, folded, WrittenTag, Anchor, sequence_start, mapping_start, scalar_event, alias_event}
use Rattle.yaml_definitions.specs.model.EventText.{value_byte, value_text, style_text, anchor_part, tag_part, flag_text, event_line}

both_short : (b : Bool) (xs ys : List ℕ) (n : ℕ) → length xs ≤ n → length ys ≤ n → length (cond b xs ys) ≤ n
both_short true xs ys n h k = h
both_short false xs ys n h k = k

spelled_short : (b : ℕ) → length (spell_byte b) ≤ 3
unfolding spell_byte
spelled_short b = both_short (is_uri b) (b ∷ []) _ 3 (omega arith) (omega arith)

pub encoded_short : (g more : List ℕ) → length (encoded g more) ≤ 3 * length g + length more
encoded_short [] more = omega arith
encoded_short (b ∷ g) more = omega (arith, length-append (spell_byte b) (encoded g more), spelled_short b, encoded_short g more)

valued_short : (b : ℕ) → length (value_byte b) ≤ 2
unfolding value_byte
valued_short b =
    both_short (b == 92) _ _ 2 (omega arith) (both_short (b == 10) _ _ 2 (omega arith) (both_short (b == 9) _ _ 2 (omega arith)
    (both_short (b == 13) _ _ 2 (omega arith) (both_short (b == 8) _ (b ∷ []) 2 (omega arith) (omega arith)))))

value_short : (x : List ℕ) → length (value_text x) ≤ 2 * length x
value_short [] = omega arith
value_short (b ∷ x) = omega (arith, length-append (value_byte b) (value_text x), valued_short b, value_short x)

style_len : (s : Style) → length (style_text s) ≡ 2
style_len plain = refl
style_len single = refl
style_len double = refl
style_len literal = refl
style_len folded = refl

mark_short : (flow : Bool) (mark : List ℕ) → length (flag_text flow mark) ≤ length mark
mark_short true mark = omega arith
mark_short false mark = omega arith

pub scalar_short : (a : Anchor) (g : WrittenTag) (s : Style) (x : List ℕ) (n t : ℕ) → length (anchor_part a) ≤ n + 2 → length (tag_part g) ≤ 3 * t + 4 → length (event_line (scalar_event a g s x) ++ (10 ∷ [])) ≤ 16 + n + 3 * t + 2 * length x
unfolding event_line
scalar_short a g s x n t h k =
    let A = anchor_part a in let T = tag_part g in let S = style_text s in let V = value_text x in
    omega (arith, length-append (A ++ (T ++ (S ++ V))) (10 ∷ []), length-append A (T ++ (S ++ V)), length-append T (S ++ V), length-append S V, style_len s, value_short x)

pub sequence_short : (flow : Bool) (a : Anchor) (g : WrittenTag) (n t : ℕ) → length (anchor_part a) ≤ n + 2 → length (tag_part g) ≤ 3 * t + 4 → length (event_line (sequence_start flow a g) ++ (10 ∷ [])) ≤ 16 + n + 3 * t
unfolding event_line
sequence_short flow a g n t h k =
    let M = flag_text flow (codes " []") in let A = anchor_part a in let T = tag_part g in
    omega (arith, length-append (M ++ (A ++ T)) (10 ∷ []), length-append M (A ++ T), length-append A T, mark_short flow (codes " []"))

pub mapping_short : (flow : Bool) (a : Anchor) (g : WrittenTag) (n t : ℕ) → length (anchor_part a) ≤ n + 2 → length (tag_part g) ≤ 3 * t + 4 → length (event_line (mapping_start flow a g) ++ (10 ∷ [])) ≤ 16 + n + 3 * t
unfolding event_line
mapping_short flow a g n t h k =
    let M = flag_text flow (codes " {}") in let A = anchor_part a in let T = tag_part g in
    omega (arith, length-append (M ++ (A ++ T)) (10 ∷ []), length-append M (A ++ T), length-append A T, mark_short flow (codes " {}"))

pub alias_short : (name : List ℕ) → length (event_line (alias_event name) ++ (10 ∷ [])) ≤ 16 + length name
unfolding event_line
alias_short name = omega (arith, length-append name (10 ∷ []))
