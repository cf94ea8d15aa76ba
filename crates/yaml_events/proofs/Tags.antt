-- Full tags and their percent-encodings.
use Rattle.std.proofs.Common.{◌≡◌, ◌≢◌, ◌/◌, ◌%◌, nat_lt, ℕ, Bool, true, false, not, ◌&&◌, ◌==◌, nat_le, List, [], ◌∷◌, ◌++◌, length, refl, sym, ap, ◌∙◌, subst, arith}
use Rattle.std.specs.Prelude.{bytes_eq, IsTrue, ◌↔◌, Result, Err}
use Rattle.std.specs.declared.borrow.CowStr.{CowStr}
use Rattle.std.proofs.Common.{Global}
use Rattle.std.specs.Result.{IsErrAnd}
use Rattle.std.specs.Cow.{cow_str_bytes}
use Rattle.std.proofs.lemmas.Result.{err_from_is_err_and}
use Rattle.percent_encoding.specs.declared.DecodeError.{DecodeError}
use Rattle.percent_encoding.specs.declared.DecodeError.TheVariants as decoding
use Rattle.yaml_events.specs.declared.fault.LineFault.{LineFault}
use Rattle.yaml_events.specs.LineAnswer.{Parses, decoding_fault}
use Rattle.std.specs.Str.{IsUtf8, is_utf8}
use Rattle.std.specs.List.{All}
use Rattle.std.proofs.lemmas.List.{append-nil}
use Rattle.std.proofs.lemmas.List.Elements.{All-nil, All-cons, All-head, All-tail}
use Rattle.std.proofs.lemmas.Bool.{cond_both}
use lib.Pointwise.{bytes_decides}
use Rattle.percent_encoding.specs.Percent.{percent_encode, percent_decode}
use Rattle.percent_encoding.specs.AsciiSet.{contains}
use Rattle.percent_encoding.proofs.PercentLemmas.{round_trip, IsByte}
use Rattle.yaml_definitions.specs.grammar.Characters.{is_uri, is_word}
use Rattle.yaml_definitions.specs.canonical.CharText.{hex_digit}
use Rattle.yaml_definitions.specs.model.Event.{WrittenTag, untagged, non_specific, full}
use Rattle.yaml_definitions.specs.model.EventText.{tag_part}
use Rattle.yaml_definitions.specs.model.Sound.{SoundTag}
use Rattle.yaml_definitions.specs.canonical.TagText.{spell_byte, encoded}
use Rattle.yaml_definitions.proofs.CharLaws.{heads, tails}
use Rattle.yaml_definitions.proofs.Members.{and_both}
use Rattle.yaml_definitions.proofs.TagLaws.{AreBytes, encoded_more}
use Rattle.yaml_definitions.proofs.EventTextLaws.{bytes_of_tag, full_mark}
use Rattle.yaml_events.specs.Parts.{IsEncoded, IsTagged, EndsTag, StartsWithout}
use Rattle.yaml_events.specs.declared.tag.TheConstants.{ESCAPED}
use Rattle.yaml_events.proofs.TagText.{encoded_is}
use Rattle.std.proofs.lemmas.Bool.Decides.{nat_tests}
use Rattle.std.proofs.lemmas.Str.{is_utf8-from_IsUtf8, IsUtf8-from_is_utf8}
use Rattle.yaml_definitions.specs.model.Limits.{tag_limit}
use Rattle.yaml_definitions.specs.model.Tag.{is_full, IsTag}

some_byte : (text : List ℕ) → false ≡ (length text == 0) → true ≡ nat_le 1 (length text)
some_byte text e = grind (arith, nat_tests)

pub is_a_tag : (text : List ℕ) (limit : ℕ) (fits r : Bool) → IsUtf8 text → false ≡ (length text == 0) → fits ≡ true → fits ≡ nat_le (length text) limit → limit ≡ tag_limit → r ≡ not (bytes_eq text (33 ∷ [])) → r ≡ is_full text
unfolding is_full
is_a_tag text limit fits r u e f g l h =
    h ∙ ap (λ z. z && not (bytes_eq text (33 ∷ []))) (sym f ∙ g ∙ ap (nat_le (length text)) l)
    ∙ ap (λ z. z && (nat_le (length text) tag_limit && not (bytes_eq text (33 ∷ [])))) (some_byte text e)
    ∙ ap (λ z. z && (nat_le 1 (length text) && (nat_le (length text) tag_limit && not (bytes_eq text (33 ∷ []))))) (sym (is_utf8-from_IsUtf8 text u))

-- ---- encoding

all_bytes : (g : List ℕ) → AreBytes g → All IsByte g
all_bytes [] m = All-nil IsByte
all_bytes (b ∷ g) m = All-cons IsByte b g m.0 (all_bytes g m.1)

escapes_percent : contains ESCAPED 37 ≡ true
escapes_percent = refl

pub encoded_whole : (g : List ℕ) → AreBytes g → percent_encode ESCAPED g ≡ encoded g []
encoded_whole g m = sym (append-nil (percent_encode ESCAPED g)) ∙ encoded_is g [] m

-- what a tag is encoded as is decoded to it
pub decoded_is : (text g : List ℕ) → IsEncoded text g → percent_decode text ≡ g
decoded_is text g h =
    let m = bytes_of_tag g h.0 in
    ap percent_decode (h.1 ∙ sym (encoded_whole g m)) ∙ round_trip ESCAPED g escapes_percent (all_bytes g m)

pub tag_utf8 : (g : List ℕ) → IsTag g → IsUtf8 g
unfolding is_full
tag_utf8 g h = IsUtf8-from_is_utf8 g (and_both (is_utf8 g) (nat_le 1 (length g) && (nat_le (length g) tag_limit && not (bytes_eq g (33 ∷ [])))) h).0

pub encoding_tells : (b : Bool) (given text tag : List ℕ) → b ≡ bytes_eq given text → given ≡ encoded tag [] → IsTrue b ↔ (text ≡ encoded tag [])
encoding_tells b given text tag e f = (
  λ h. sym ((bytes_decides given text).0 (sym e ∙ h)) ∙ f,
  λ h. e ∙ (bytes_decides given text).1 (f ∙ sym h),
)

-- bytes that are no UTF-8 are no encoding of a tag
pub undecoded : (text given : List ℕ) (r : Result (CowStr Global) LineFault) (e : DecodeError) → percent_decode given ≡ percent_decode text → IsErrAnd r (λ x. x ≡ decoding_fault e) → (IsUtf8 (percent_decode given) → e ≡ decoding.OutOfMemory)
    → Parses (IsEncoded text) (IsEncoded text) cow_str_bytes r
undecoded text given r e s was h =
    let q = err_from_is_err_and r was in
    subst (Parses (IsEncoded text) (IsEncoded text) cow_str_bytes) (sym (q.1 ∙ ap Err q.2)) (by e h)
  where
    by : (e : DecodeError) → (IsUtf8 (percent_decode given) → e ≡ decoding.OutOfMemory) → Parses {T = CowStr Global} (IsEncoded text) (IsEncoded text) cow_str_bytes (Err (decoding_fault e))
    by (decoding.Utf8 place) f = λ a p. let q = f (subst IsUtf8 (sym (decoded_is text a p) ∙ sym s) (tag_utf8 a p.0)) in absurd (cc)
    by decoding.OutOfMemory f = tt

-- ---- what stands before the closing bracket

abbrev NoClose : List ℕ → Type 0
NoClose xs = All (λ b. b ≢ 62) xs

close_once : (xs ys r s : List ℕ) → NoClose xs → NoClose ys → xs ++ (62 ∷ r) ≡ ys ++ (62 ∷ s) → (xs ≡ ys) × (r ≡ s)
close_once [] [] r s m n e = (refl, tails e)
close_once [] (y ∷ ys) r s m n e = absurd (All-head (λ b. b ≢ 62) y ys n (sym (heads e)))
close_once (x ∷ xs) [] r s m n e = absurd (All-head (λ b. b ≢ 62) x xs m (heads e))
close_once (x ∷ xs) (y ∷ ys) r s m n e =
    let p = heads e in
    let i = close_once xs ys r s (All-tail (λ b. b ≢ 62) x xs m) (All-tail (λ b. b ≢ 62) y ys n) (tails e) in
    (λ z. p z ∷ i.0 z, i.1)

pub no_close : (xs s : List ℕ) → NoClose (xs ++ (62 ∷ s)) → ⊥
no_close [] s m = All-head (λ b. b ≢ 62) 62 s m refl
no_close (x ∷ xs) s m = no_close xs s (All-tail (λ b. b ≢ 62) x (xs ++ (62 ∷ s)) m)

digit_no_close : (d : ℕ) → hex_digit d ≢ 62
digit_no_close d = cond_both (nat_lt d 10) _ _ (λ z. z ≢ 62) (λ e q. grind (arith, nat_tests)) (λ e q. grind (arith, nat_tests))

spelled_no_close : (b : ℕ) (more : List ℕ) → NoClose more → NoClose (spell_byte b ++ more)
unfolding spell_byte is_uri is_word
spelled_no_close b more h =
    let P : ℕ → Type 0 = λ b. b ≢ 62 in
    cond_both (is_uri b) _ _ (λ z. NoClose (z ++ more)) (λ e. All-cons P b more (λ q. let f : is_uri 62 ≡ true = subst (λ z. is_uri z ≡ true) q e in absurd (cc)) h)
    (λ e. All-cons P 37 (hex_digit (b / 16) ∷ hex_digit (b % 16) ∷ more) (λ q. omega arith) (All-cons P (hex_digit (b / 16)) (hex_digit (b % 16) ∷ more) (digit_no_close (b / 16)) (All-cons P (hex_digit (b % 16)) more (digit_no_close (b % 16)) h)))

encoded_no_close : (g : List ℕ) → NoClose (encoded g [])
encoded_no_close [] = All-nil (λ b. b ≢ 62)
encoded_no_close (b ∷ g) = spelled_no_close b (encoded g []) (encoded_no_close g)

closed : (g s : List ℕ) → encoded g (62 ∷ []) ++ s ≡ encoded g [] ++ (62 ∷ s)
closed g s = encoded_more g (62 ∷ []) s ∙ sym (encoded_more g [] (62 ∷ s))

-- what stands between the brackets, by the tag
abbrev pub IsInner : List ℕ → WrittenTag → Type 0
IsInner inner untagged = ⊥
IsInner inner non_specific = inner ≡ 33 ∷ []
IsInner inner (full g) = IsEncoded inner g

mark_no_close : NoClose (33 ∷ [])
mark_no_close = All-cons (λ b. b ≢ 62) 33 [] (λ q. omega arith) (All-nil (λ b. b ≢ 62))

pub inner_is : (text after inner rest : List ℕ) → text ≡ 32 ∷ 60 ∷ after → after ≡ inner ++ (62 ∷ rest) → NoClose inner → (a : WrittenTag × List ℕ) → IsTagged text a × EndsTag a → IsInner inner a.0 × (rest ≡ a.1)
inner_is text after inner rest e f n a p = by a.0 a.1 p.0.0 p.0.1 p.1
  where
    by : (g : WrittenTag) (s : List ℕ) → SoundTag g → text ≡ tag_part g ++ s → StartsWithout 60 s → IsInner inner g × (rest ≡ s)
    by untagged s m h w = let q : StartsWithout 60 (32 ∷ 60 ∷ after) = subst (StartsWithout 60) (sym h ∙ e) w in absurd (q.1 refl)
    by non_specific s m h w = close_once inner (33 ∷ []) rest s n mark_no_close (sym f ∙ tails (tails (sym e ∙ h)))
    by (full g) s m h w =
        let i = close_once inner (encoded g []) rest s n (encoded_no_close g) (sym f ∙ tails (tails (sym e ∙ h)) ∙ closed g s) in
        ((m, i.0), i.1)

pub unclosed : (text after : List ℕ) → text ≡ 32 ∷ 60 ∷ after → NoClose after → (a : WrittenTag × List ℕ) → IsTagged text a × EndsTag a → ⊥
unclosed text after e n a p = by a.0 a.1 p.0.0 p.0.1 p.1
  where
    by : (g : WrittenTag) (s : List ℕ) → SoundTag g → text ≡ tag_part g ++ s → StartsWithout 60 s → ⊥
    by untagged s m h w = let q : StartsWithout 60 (32 ∷ 60 ∷ after) = subst (StartsWithout 60) (sym h ∙ e) w in q.1 refl
    by non_specific s m h w = no_close (33 ∷ []) s (subst NoClose (tails (tails (sym e ∙ h))) n)
    by (full g) s m h w = no_close (encoded g []) s (subst NoClose (tails (tails (sym e ∙ h)) ∙ closed g s) n)

-- `!` is no encoding of a full tag
pub mark_or_full : (g : WrittenTag) (inner : List ℕ) → inner ≡ 33 ∷ [] → IsInner inner g → non_specific ≡ g
mark_or_full untagged inner e h = absurd h
mark_or_full non_specific inner e h = refl
mark_or_full (full g) inner e h = absurd (full_mark g [] [] h.0 (closed g [] ∙ ap (λ z. z ++ (62 ∷ [])) (sym h.1 ∙ e)))

pub only_full : (tag : List ℕ) (g : WrittenTag) (inner : List ℕ) → false ≡ bytes_eq inner (33 ∷ []) → ((x : List ℕ) → IsEncoded inner x → tag ≡ x) → IsInner inner g → full tag ≡ g
only_full tag untagged inner e o h = absurd h
only_full tag non_specific inner e o h = let q : false ≡ true = e ∙ (bytes_decides inner (33 ∷ [])).1 h in absurd (cc)
only_full tag (full g) inner e o h = ap full (o g h)

pub encoding_of : (g : WrittenTag) (inner : List ℕ) → false ≡ bytes_eq inner (33 ∷ []) → IsInner inner g → (x : List ℕ) × IsEncoded inner x
encoding_of untagged inner e h = absurd h
encoding_of non_specific inner e h = let q : false ≡ true = e ∙ (bytes_decides inner (33 ∷ [])).1 h in absurd (cc)
encoding_of (full g) inner e h = (g, h)

pub tag_text : (text after inner rest g : List ℕ) → text ≡ 32 ∷ 60 ∷ after → after ≡ inner ++ (62 ∷ rest) → IsEncoded inner g → text ≡ tag_part (full g) ++ rest
tag_text text after inner rest g e f h = e ∙ ap (λ z. 32 ∷ 60 ∷ z) (f ∙ ap (λ z. z ++ (62 ∷ rest)) h.1 ∙ sym (closed g rest))
