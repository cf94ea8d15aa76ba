-- Texts that are written or read piece by piece.
use Rattle.std.proofs.Common.{◌≡◌, ◌||◌, ℕ, ◌+◌, ◌<◌, ◌≤◌, Bool, List, [], ◌∷◌, ◌++◌, drop, take, length, get_or, sym, ◌∙◌, ap, add-one}
use Rattle.std.specs.List.{flat_map, list_any}
use Rattle.std.specs.Char.{encode_utf8}
use Rattle.std.specs.Str.{IsUtf8, chars, encode_utf8_all}
use Rattle.std.proofs.Math.Seq.{drop-cons}
use Rattle.std.proofs.Math.ListN.{drop_of_length-le}
use Rattle.std.proofs.lemmas.List.{append_assoc, append-nil}
use Rattle.std.proofs.lemmas.List.Concat.{flat_map-append}
use Rattle.std.proofs.lemmas.List.Folds.{list_any_more}
use Rattle.std.proofs.lemmas.Str.{chars_past_char, chars-nil, encodes-append}
use Rattle.yaml_unified.specs.Script.{content, is_change}
use Rattle.yaml_unified.specs.Printed.{line_char, line_text, place_text, texts_from}
use Rattle.yaml_unified.specs.declared.lines.Piece.{Piece}
use Rattle.yaml_unified.specs.declared.script.Edit.{Edit}

drop_next : {X : Type 0} (xs : List X) (i : ℕ) (d : X) → i < length xs → drop i xs ≡ get_or xs i d ∷ drop (i + 1) xs
drop_next xs i d l = rw add-one (drop-cons xs i d l)

-- ---- one element more

pub flat_more : {X : Type 0} (f : X → List ℕ) (xs new : List X) (x : X) → new ≡ xs ++ (x ∷ []) → flat_map f new ≡ flat_map f xs ++ f x
flat_more f xs new x h = ap (flat_map f) h ∙ flat_map-append f xs (x ∷ []) ∙ ap (λ z. flat_map f xs ++ z) (append-nil (f x))

-- an edit that has this line on one side
pub put_next : (f : Edit → List ℕ) (lines : List Piece) (i : ℕ) (d : Piece) (e : Edit) (es new : List Edit) (whole : List ℕ) → i < length lines → new ≡ es ++ (e ∷ []) → f e ≡ content (get_or lines i d) → flat_map f es ++ flat_map content (drop i lines) ≡ whole
    → flat_map f new ++ flat_map content (drop (i + 1) lines) ≡ whole
put_next f lines i d e es new whole l p q h =
    let rest = flat_map content (drop (i + 1) lines) in
    ap (λ z. z ++ rest) (flat_more f es new e p) ∙ append_assoc (flat_map f es) (f e) rest ∙ ap (λ z. flat_map f es ++ (z ++ rest)) q
    ∙ ap (λ z. flat_map f es ++ flat_map content z) (sym (drop_next lines i d l)) ∙ h

-- and one that has none
pub put_none : (f : Edit → List ℕ) (e : Edit) (es new : List Edit) → f e ≡ [] → new ≡ es ++ (e ∷ []) → flat_map f new ≡ flat_map f es
put_none f e es new q p = flat_more f es new e p ∙ ap (λ z. flat_map f es ++ z) q ∙ append-nil (flat_map f es)

pub put_all : (lines : List Piece) (i : ℕ) (o whole : List ℕ) → length lines ≤ i → o ++ flat_map content (drop i lines) ≡ whole → o ≡ whole
put_all lines i o whole l h = sym (append-nil o) ∙ ap (λ z. o ++ flat_map content z) (sym (drop_of_length-le lines l)) ∙ h

-- ---- the lines of a text

pub piece_next : (ps new : List Piece) (p : Piece) (x rest less whole : List ℕ) → new ≡ ps ++ (p ∷ []) → content p ≡ x → rest ≡ x ++ less → flat_map content ps ++ rest ≡ whole → flat_map content new ++ less ≡ whole
piece_next ps new p x rest less whole h q e w =
    ap (λ z. z ++ less) (flat_more content ps new p h) ∙ append_assoc (flat_map content ps) (content p) less ∙ ap (λ z. flat_map content ps ++ z) (ap (λ z. z ++ less) q ∙ sym e) ∙ w

pub piece_all : (o rest whole : List ℕ) → rest ≡ [] → o ++ rest ≡ whole → o ≡ whole
piece_all o rest whole e h = sym (append-nil o) ∙ ap (λ z. o ++ z) (sym e) ∙ h

-- ---- a line that is written character by character

line_past : (b : Bool) (bs rest : List ℕ) (c : ℕ) → IsUtf8 bs → bs ≡ encode_utf8 c ++ rest → line_text b bs ≡ encode_utf8_all (line_char b c) ++ line_text b rest
line_past b bs rest c u e = ap (λ z. encode_utf8_all (flat_map (line_char b) z)) (chars_past_char bs rest c u e) ∙ encodes-append (line_char b c) (flat_map (line_char b) (chars rest))

pub line_next : (b : Bool) (bs rest : List ℕ) (c : ℕ) (o a whole : List ℕ) → IsUtf8 bs → bs ≡ encode_utf8 c ++ rest → o ++ line_text b bs ≡ whole → a ≡ o ++ encode_utf8_all (line_char b c) → a ++ line_text b rest ≡ whole
line_next b bs rest c o a whole u e h k =
    ap (λ z. z ++ line_text b rest) k ∙ append_assoc o (encode_utf8_all (line_char b c)) (line_text b rest) ∙ ap (λ z. o ++ z) (sym (line_past b bs rest c u e)) ∙ h

pub line_all : (b : Bool) (bs o whole : List ℕ) → bs ≡ [] → o ++ line_text b bs ≡ whole → o ≡ whole
line_all b bs o whole e h = sym (append-nil o) ∙ ap (λ z. o ++ encode_utf8_all (flat_map (line_char b) z)) (sym (ap chars e ∙ chars-nil)) ∙ h

-- ---- a script that is written edit by edit

pub texts_next : (n : ℕ) (b : Bool) (es : List Edit) (k : ℕ) (d : Edit) (o a whole : List ℕ) → k < length es → o ++ texts_from n b es k (drop k es) ≡ whole → a ≡ o ++ place_text n b es k (get_or es k d) → a ++ texts_from n b es (k + 1) (drop (k + 1) es) ≡ whole
texts_next n b es k d o a whole l h e =
    let r = texts_from n b es (k + 1) (drop (k + 1) es) in
    ap (λ z. z ++ r) e ∙ append_assoc o (place_text n b es k (get_or es k d)) r ∙ ap (λ z. o ++ texts_from n b es k z) (sym (drop_next es k d l)) ∙ h

pub texts_all : (n : ℕ) (b : Bool) (es : List Edit) (k : ℕ) (o whole : List ℕ) → length es ≤ k → o ++ texts_from n b es k (drop k es) ≡ whole → o ≡ whole
texts_all n b es k o whole l h = sym (append-nil o) ∙ ap (λ z. o ++ texts_from n b es k z) (sym (drop_of_length-le es l)) ∙ h

pub change_next : (es : List Edit) (k : ℕ) (d : Edit) (b c : Bool) → k < length es → b ≡ list_any is_change (take k es) → c ≡ (b || is_change (get_or es k d)) → c ≡ list_any is_change (take (k + 1) es)
change_next es k d b c l h e = e ∙ ap (λ z. z || is_change (get_or es k d)) h ∙ sym (list_any_more is_change es k d l)
