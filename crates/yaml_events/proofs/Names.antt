-- Names, and texts that are cut at a space.
use Rattle.std.proofs.Common.{◌≡◌, ◌≢◌, ◌==◌, ℕ, Bool, true, false, not, ◌&&◌, nat_le, ◌<◌, List, [], ◌∷◌, ◌++◌, length, take, drop, get_or, refl, sym, ap, ◌∙◌, subst, arith}
use Rattle.std.specs.List.{list_all, All}
use Rattle.std.specs.Str.{IsUtf8, chars, is_utf8}
use Rattle.std.specs.Char.{encode_utf8}
use Rattle.std.proofs.lemmas.Bool.Decides.{nat_tests}
use Rattle.std.proofs.lemmas.List.{take-append-drop, drop_more, length-take-le, get_or-take}
use Rattle.std.proofs.lemmas.List.Elements.{All-from_get_or, All-head, All-tail}
use Rattle.std.proofs.lemmas.Str.{is_utf8-from_IsUtf8, chars_past_char}
use Rattle.yaml_definitions.specs.model.Sound.{is_anchor, is_anchor_char, IsAnchor, SoundAnchor}
use Rattle.yaml_definitions.proofs.CharLaws.{heads, tails}
use Rattle.yaml_definitions.proofs.EventTextLaws.{Inner, inner_name}
use Rattle.yaml_definitions.specs.model.Event.{Anchor}
use Rattle.yaml_definitions.specs.model.EventText.{anchor_part}
use Rattle.yaml_events.specs.Parts.{StartsApart, StartsWithout, IsCutAtSpace, IsAnchored, EndsAnchor}
use Rattle.std.specs.Prelude.{Some, None}

-- ---- the characters of a name

abbrev are_names : List ℕ → Bool
are_names text = list_all is_anchor_char (chars text)

pub names_past : (rest after : List ℕ) (c : ℕ) → IsUtf8 rest → rest ≡ encode_utf8 c ++ after → list_all is_anchor_char (chars rest) ≡ (is_anchor_char c && list_all is_anchor_char (chars after))
names_past rest after c u e = ap (list_all is_anchor_char) (chars_past_char rest after c u e)

and_false : (b : Bool) → (b && false) ≡ false
and_false true = refl
and_false false = refl

pub no_name : (text : List ℕ) → list_all is_anchor_char (chars text) ≡ false → false ≡ is_anchor text
unfolding is_anchor
no_name text e = sym (ap (λ z. is_utf8 text && (nat_le 1 (length text) && z)) e ∙ ap (λ z. is_utf8 text && z) (and_false (nat_le 1 (length text))) ∙ and_false (is_utf8 text))

some_byte : (text : List ℕ) → not (length text == 0) ≡ (nat_le 1 (length text) && true)
some_byte text = grind (arith, nat_tests)

pub is_a_name : (text : List ℕ) (empty : Bool) → IsUtf8 text → list_all is_anchor_char (chars text) ≡ true → empty ≡ (length text == 0) → not empty ≡ is_anchor text
unfolding is_anchor
is_a_name text empty u e f =
    ap not f ∙ some_byte text ∙ ap (λ z. nat_le 1 (length text) && z) (sym e) ∙ ap (λ z. z && (nat_le 1 (length text) && are_names text)) (sym (is_utf8-from_IsUtf8 text u))

-- ---- a cut at a space

pub cut_some : (text front back : List ℕ) (at : ℕ) → at < length text → get_or text at 0 ≡ 32 → ((i : ℕ) → i < at → get_or text i 0 ≢ 32) → front ≡ take at text → back ≡ drop at text → IsCutAtSpace text front back
cut_some text front back at h e m f b = (
  sym (take-append-drop at text) ∙ ap (λ x. x ++ drop at text) (sym f) ∙ ap (λ x. front ++ x) (sym b),
  All-from_get_or (λ b. b ≢ 32) front 0 (subst (λ x. (i : ℕ) → i < length x → get_or x i 0 ≢ 32) (sym f) (λ i k. let n : i < at = omega (arith, length-take-le at text (omega arith)) in λ q. m i n (sym (get_or-take at text i 0 n) ∙ q))),
  subst StartsApart (sym (b ∙ drop_more text at 0 h)) e,
)

apart : (sign : ℕ) (s : List ℕ) → StartsWithout sign s → StartsApart s
apart sign [] h = tt
apart sign (c ∷ []) h = h
apart sign (c ∷ d ∷ r) h = h.0

-- a text is cut before its first space in one way
space_once : (xs ys r s : List ℕ) → All (λ b. b ≢ 32) xs → Inner ys → StartsApart r → StartsApart s → xs ++ r ≡ ys ++ s → (xs ≡ ys) × (r ≡ s)
space_once [] [] r s m n a b e = (refl, e)
space_once [] (y ∷ ys) r s m n a b e = absurd (n.0 (subst StartsApart e a))
space_once (x ∷ xs) [] r s m n a b e = absurd (All-head (λ b. b ≢ 32) x xs m (subst StartsApart (sym e) b))
space_once (x ∷ xs) (y ∷ ys) r s m n a b e =
    let p = heads e in
    let i = space_once xs ys r s (All-tail (λ b. b ≢ 32) x xs m) n.2 a b (tails e) in
    (λ z. p z ∷ i.0 z, i.1)

-- of a text that begins as an anchor does, its name and what follows are those of the cut
pub anchor_is : (text after front back : List ℕ) → text ≡ 32 ∷ 38 ∷ after → IsCutAtSpace after front back → (a : Anchor × List ℕ) → IsAnchored text a × EndsAnchor a
    → IsAnchor front × ◌≡◌ {A = Anchor × List ℕ} (Some front, back) a
anchor_is text after front back e h a p = by a.0 a.1 p.0.0 p.0.1 p.1
  where
    by : (b : Anchor) (s : List ℕ) → SoundAnchor b → text ≡ anchor_part b ++ s → StartsWithout 38 s → IsAnchor front × ◌≡◌ {A = Anchor × List ℕ} (Some front, back) (b, s)
    by None s m f w = let q : StartsWithout 38 (32 ∷ 38 ∷ after) = subst (StartsWithout 38) (sym f ∙ e) w in absurd (q.1 refl)
    by (Some name) s m f w =
        let i = space_once front name back s h.1 (inner_name name m) h.2 (apart 38 s w) (sym h.0 ∙ tails (tails (sym e ∙ f))) in
        (subst IsAnchor (sym i.0) m, λ z. (Some (i.0 z), i.1 z))
