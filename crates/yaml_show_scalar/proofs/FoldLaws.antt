-- Words of a folded line.
use Rattle.std.proofs.Common.{◌≡◌, ◌≢◌, ℕ, ◌<◌, Bool, false, List, [], ◌∷◌, ◌++◌, length, get_or, refl, take, sym, subst, ◌∙◌, ap, arith}
use Rattle.std.proofs.Math.Seq.{take-append_seam}
use Rattle.std.proofs.lemmas.Str.{encode_ascii, IsUtf8-append, IsUtf8-encode, IsUtf8-take, IsCharBoundary-at_seam}
use Rattle.std.specs.List.{All, slice_split}
use Rattle.std.specs.Str.{IsUtf8}
use Rattle.std.proofs.lemmas.Bool.Decides.{nat_tests}
use Rattle.std.proofs.lemmas.List.{append_assoc, append-nil}
use Rattle.std.proofs.lemmas.List.Elements.{All-from_get_or, All-weaker}
use Rattle.std.proofs.lemmas.List.Splits.{slice_split_none, slice_split_at}
use Rattle.yaml_show_scalar.specs.Folds.{is_space, width, column_after, ends_line, next_column, next_word, further_words, folded_words}

spaces : (b : ℕ) → b ≢ 32 → is_space b ≡ false
spaces b h = grind (arith, nat_tests)

pub no_space : (x : List ℕ) → ((i : ℕ) → i < length x → get_or x i 0 ≢ 32) → All (λ b. is_space b ≡ false) x
no_space x h = All-weaker (λ b. b ≢ 32) (λ b. is_space b ≡ false) spaces x (All-from_get_or (λ b. b ≢ 32) x 0 h)

split_word : (rest word after : List ℕ) → rest ≡ word ++ (32 ∷ after) → All (λ b. is_space b ≡ false) word → slice_split is_space rest ≡ word ∷ slice_split is_space after
split_word rest word after e h = ap (slice_split is_space) e ∙ slice_split_at is_space word 32 after h refl

space_utf8 : (after : List ℕ) → IsUtf8 after → IsUtf8 (32 ∷ after)
space_utf8 after u = IsUtf8-append (32 ∷ []) after (subst IsUtf8 (encode_ascii 32 (omega arith)) (IsUtf8-encode 32 refl)) u

-- a word of a text is a text
pub word_utf8 : (rest word after : List ℕ) → IsUtf8 rest → IsUtf8 after → rest ≡ word ++ (32 ∷ after) → IsUtf8 word
word_utf8 rest word after u v e =
    subst IsUtf8 (ap (take (length word)) e ∙ take-append_seam word (32 ∷ after)) (IsUtf8-take rest (length word) u (IsCharBoundary-at_seam rest word (32 ∷ after) e (space_utf8 after v)))

-- Of words behind another one some are written, and these are left.
pub record IsFolding (n column : ℕ) (before rest whole out : List ℕ) : Type 0 where
  pub before_utf8 : IsUtf8 before
  pub utf8 : IsUtf8 rest
  pub is : out ++ further_words n column before (slice_split is_space rest) ≡ whole

-- the next word is written
step : (n column : ℕ) (before rest word after : List ℕ) (ends : Bool) (column' : ℕ) → rest ≡ word ++ (32 ∷ after) → All (λ b. is_space b ≡ false) word → ends ≡ ends_line column before word → column' ≡ next_column ends column word
    → next_word n ends word ++ further_words n column' word (slice_split is_space after) ≡ further_words n column before (slice_split is_space rest)
step n column before rest word after ends column' e a l k =
    let s = slice_split is_space after in
    ap (λ z. next_word n ends word ++ further_words n z word s) k
    ∙ ap (λ b. next_word n b word ++ further_words n (next_column b column word) word s) l
    ∙ ap (further_words n column before) (sym (split_word rest word after e a))

pub fold_next : (n column : ℕ) (before rest word after whole out new : List ℕ) (ends : Bool) (column' : ℕ) → IsFolding n column before rest whole out → rest ≡ word ++ (32 ∷ after) → All (λ b. is_space b ≡ false) word → IsUtf8 word → IsUtf8 after
    → ends ≡ ends_line column before word → column' ≡ next_column ends column word → new ≡ out ++ next_word n ends word → IsFolding n column' word after whole new
fold_next n column before rest word after whole out new ends column' h e a v u l k w = record {
  before_utf8 = v;
  utf8 = u;
  is = ap (λ z. z ++ further_words n column' word (slice_split is_space after)) w ∙ append_assoc out (next_word n ends word) (further_words n column' word (slice_split is_space after))
      ∙ ap (λ z. out ++ z) (step n column before rest word after ends column' e a l k) ∙ h.is;
}

-- what is written with this word, and what is left then
pub fold_within : (n column : ℕ) (before rest word after whole out : List ℕ) (ends : Bool) → IsFolding n column before rest whole out → rest ≡ word ++ (32 ∷ after) → All (λ b. is_space b ≡ false) word → ends ≡ ends_line column before word
    → whole ≡ (out ++ next_word n ends word) ++ further_words n (next_column ends column word) word (slice_split is_space after)
fold_within n column before rest word after whole out ends h e a l =
    sym h.is ∙ ap (λ z. out ++ z) (sym (step n column before rest word after ends (next_column ends column word) e a l refl))
    ∙ sym (append_assoc out (next_word n ends word) (further_words n (next_column ends column word) word (slice_split is_space after)))

pub fold_last : (n column : ℕ) (before rest whole out new : List ℕ) (ends : Bool) → IsFolding n column before rest whole out → All (λ b. is_space b ≡ false) rest → ends ≡ ends_line column before rest → new ≡ out ++ next_word n ends rest
    → new ≡ whole
fold_last n column before rest whole out new ends h a l w =
    w ∙ ap (λ z. out ++ z) (ap (λ b. next_word n b rest) l ∙ sym (append-nil (next_word n (ends_line column before rest) rest)) ∙ ap (further_words n column before) (sym (slice_split_none is_space rest a))) ∙ h.is

-- ---- all words

pub words_more : (n : ℕ) (line first words old pushed new : List ℕ) → line ≡ first ++ (32 ∷ words) → All (λ b. is_space b ≡ false) first → pushed ≡ old ++ first
    → new ≡ pushed ++ further_words n (column_after 0 (width first)) first (slice_split is_space words) → new ≡ old ++ folded_words n (slice_split is_space line)
words_more n line first words old pushed new e a p w =
    let f = further_words n (column_after 0 (width first)) first (slice_split is_space words) in
    w ∙ ap (λ z. z ++ f) p ∙ append_assoc old first f ∙ ap (λ z. old ++ folded_words n z) (sym (split_word line first words e a))

pub words_within : (n : ℕ) (line first words old : List ℕ) → line ≡ first ++ (32 ∷ words) → All (λ b. is_space b ≡ false) first
    → old ++ folded_words n (slice_split is_space line) ≡ (old ++ first) ++ further_words n (column_after 0 (width first)) first (slice_split is_space words)
words_within n line first words old e a = sym (words_more n line first words old _ _ e a refl refl)

pub words_alone : (n : ℕ) (line old new : List ℕ) → All (λ b. is_space b ≡ false) line → new ≡ old ++ line → new ≡ old ++ folded_words n (slice_split is_space line)
words_alone n line old new a w = w ∙ ap (λ z. old ++ z) (sym (append-nil line) ∙ ap (folded_words n) (sym (slice_split_none is_space line a)))
