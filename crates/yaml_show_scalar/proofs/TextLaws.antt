-- What texts begin and end with, and lines.
use Rattle.std.proofs.Common.{◌≡◌, ◌≢◌, ◌==◌, ◌&&◌, ◌||◌, ◌↔◌, ℕ, zero, suc, ◌+◌, ◌-◌, ◌<◌, ◌≤◌, Bool, true, false, not, nat_le, cond, List, [], ◌∷◌, ◌++◌, length, take, drop, get_or, refl, sym, ◌∙◌, ap, add-one, arith}
use Rattle.std.specs.Prelude.{flat_map, Option, Some, None, MatchOption}
use Rattle.std.specs.Borrow.{Bor}
use Rattle.std.specs.Option.{option_map}
use Rattle.std.specs.Str.Pattern.{FindsTextPrefix, StripsPrefix}
use Rattle.std.specs.List.{All, count_by, list_any, slice_split, before_first, after_first, position_or_len}
use Rattle.std.specs.Str.{IsUtf8}
use Rattle.std.specs.Str.Iter.{HasSubslice}
use Rattle.std.proofs.Math.Seq.{drop-cons}
use Rattle.std.proofs.Math.ListN.{drop_of_length-le}
use Rattle.std.proofs.lemmas.Bool.{cond_both, false≢true}
use Rattle.std.proofs.lemmas.Bool.Decides.{nat_tests}
use Rattle.std.proofs.lemmas.List.{append_assoc, append-nil, take_all}
use Rattle.std.proofs.lemmas.List.Elements.{All-from_get_or, All-weaker}
use Rattle.std.proofs.lemmas.List.Sums.{sum_by-cons}
use Rattle.std.proofs.lemmas.List.Splits.{slice_split_none, slice_split_at, length-slice_split}
use Rattle.yaml_definitions.specs.model.Core.{is_empty}
use Rattle.yaml_show_scalar.specs.Texts.{times, ends_in, begins_with, has_pair, behind}
use Rattle.yaml_show_scalar.specs.Scalars.{is_feed, is_full, body, literal_line, joined, leads_blank}

same_bool : (r s : Bool) → (r ≡ true → s ≡ true) → (s ≡ true → r ≡ true) → r ≡ s
same_bool true s h k = sym (h refl)
same_bool false true h k = k refl
same_bool false false h k = refl

equal : (a b : ℕ) → (a == b) ≡ true → a ≡ b
equal a b h = grind (arith, nat_tests)

equal_itself : (a : ℕ) → (a == a) ≡ true
equal_itself a = grind (arith, nat_tests)

unequal : (a b : ℕ) → a ≢ b → (a == b) ≡ false
unequal a b h = grind (arith, nat_tests)

or_true : (a : Bool) → (a || true) ≡ true
or_true true = refl
or_true false = refl

-- ---- so many times

pub times_end : (n : ℕ) (piece : List ℕ) → times n piece ++ piece ≡ times (suc n) piece
times_end zero piece = sym (append-nil piece)
times_end (suc n) piece = append_assoc piece (times n piece) piece ∙ ap (λ z. piece ++ z) (times_end n piece)

pub times_next : (n : ℕ) (piece old out new : List ℕ) → out ≡ old ++ times n piece → new ≡ out ++ piece → new ≡ old ++ times (n + 1) piece
times_next n piece old out new e w =
    let k : suc n ≡ n + 1 = omega arith in
    w ∙ ap (λ z. z ++ piece) e ∙ append_assoc old (times n piece) piece ∙ ap (λ z. old ++ z) (times_end n piece ∙ ap (λ m. times m piece) k)

times_add : (m n : ℕ) (piece : List ℕ) → times (m + n) piece ≡ times m piece ++ times n piece
times_add zero n piece = let e : 0 + n ≡ n = omega arith in ap (λ k. times k piece) e
times_add (suc m) n piece =
    let e : suc m + n ≡ suc (m + n) = omega arith in
    ap (λ k. times k piece) e ∙ ap (λ z. piece ++ z) (times_add m n piece) ∙ sym (append_assoc piece (times m piece) (times n piece))

-- what is written with one piece more, and what is left then
pub times_within : (done count : ℕ) (piece old out : List ℕ) → done < count → out ≡ old ++ times done piece → old ++ times count piece ≡ (out ++ piece) ++ times (count - (done + 1)) piece
times_within done count piece old out l e =
    let r = times (count - (done + 1)) piece in
    let n : count ≡ (done + 1) + (count - (done + 1)) = omega (arith, l) in
    ap (λ k. old ++ times k piece) n ∙ ap (λ z. old ++ z) (times_add (done + 1) (count - (done + 1)) piece) ∙ sym (append_assoc old (times (done + 1) piece) r)
    ∙ ap (λ z. z ++ r) (sym (times_next done piece old out (out ++ piece) e refl))

-- ---- the end

not_empty : (x : List ℕ) (mark : ℕ) → is_empty (x ++ (mark ∷ [])) ≡ false
not_empty [] mark = refl
not_empty (b ∷ x) mark = refl

ends : (mark : ℕ) (x : List ℕ) → ends_in mark (x ++ (mark ∷ [])) ≡ true
ends mark [] = equal_itself mark
ends mark (b ∷ x) = ap (λ z. cond z (b == mark) (ends_in mark (x ++ (mark ∷ [])))) (not_empty x mark) ∙ ends mark x

ends_not : (mark : ℕ) (x : List ℕ) → ((front : List ℕ) → x ≢ front ++ (mark ∷ [])) → ends_in mark x ≡ false
ends_not mark [] h = refl
ends_not mark (b ∷ []) h = unequal b mark (λ e. h [] (ap (λ z. z ∷ []) e))
ends_not mark (b ∷ d ∷ x) h = ends_not mark (d ∷ x) (λ f e. h (b ∷ f) (ap (λ z. b ∷ z) e))

pub ends_is : (mark : ℕ) (x : List ℕ) (r : Bool) → (r ≡ true → x ≡ take (length x - 1) x ++ (mark ∷ [])) × ((front : List ℕ) → x ≡ front ++ (mark ∷ []) → r ≡ true) → r ≡ ends_in mark x
ends_is mark x true h = sym (ap (ends_in mark) (h.0 refl) ∙ ends mark (take (length x - 1) x))
ends_is mark x false h = sym (ends_not mark x (λ f e. false≢true (h.1 f e)))

pub body_some : (x : List ℕ) → body (x ++ (10 ∷ [])) ≡ x
unfolding body
body_some [] = refl
body_some (b ∷ x) = ap (λ z. cond (z && is_feed b) [] (b ∷ body (x ++ (10 ∷ [])))) (not_empty x 10) ∙ ap (λ z. b ∷ z) (body_some x)

pub body_none : (x : List ℕ) → ((front : List ℕ) → x ≢ front ++ (10 ∷ [])) → body x ≡ x
unfolding body
body_none [] h = refl
body_none (b ∷ []) h = ap (λ z. cond z [] (b ∷ [])) (unequal b 10 (λ e. h [] (ap (λ z. z ∷ []) e)))
body_none (b ∷ d ∷ x) h = ap (λ z. b ∷ z) (body_none (d ∷ x) (λ f e. h (b ∷ f) (ap (λ z. b ∷ z) e)))

-- ---- pairs

pair_at : (a b : ℕ) (front rest : List ℕ) → has_pair a b (front ++ (a ∷ b ∷ rest)) ≡ true
pair_at a b [] rest = ap (λ z. (z && (b == b)) || has_pair a b (b ∷ rest)) (equal_itself a) ∙ ap (λ z. z || has_pair a b (b ∷ rest)) (equal_itself b)
pair_at a b (x ∷ front) rest = ap (λ z. (x == a && begins_with b (front ++ (a ∷ b ∷ rest))) || z) (pair_at a b front rest) ∙ or_true _

pair_here : (a b x : ℕ) (xs : List ℕ) (r : Bool) → (x == a) ≡ r → (r && begins_with b xs) ≡ true → HasSubslice (x ∷ xs) (a ∷ b ∷ [])
pair_here a b x xs false e h = absurd (false≢true h)
pair_here a b x [] true e h = absurd (false≢true h)
pair_here a b x (y ∷ ys) true e h = ([], ys, (λ i. equal x a e i ∷ equal y b h i ∷ ys))

pair_or : (a b x : ℕ) (xs : List ℕ) (r : Bool) → (x == a && begins_with b xs) ≡ r → (r || has_pair a b xs) ≡ true → (has_pair a b xs ≡ true → HasSubslice xs (a ∷ b ∷ [])) → HasSubslice (x ∷ xs) (a ∷ b ∷ [])
pair_or a b x xs true e h k = pair_here a b x xs (x == a) refl e
pair_or a b x xs false e h k = let s = k h in (x ∷ s.0, s.1, ap (λ z. x ∷ z) s.2)

pair_found : (a b : ℕ) (xs : List ℕ) → has_pair a b xs ≡ true → HasSubslice xs (a ∷ b ∷ [])
pair_found a b [] h = absurd (false≢true h)
pair_found a b (x ∷ xs) h = pair_or a b x xs (x == a && begins_with b xs) refl h (pair_found a b xs)

pub pair_is : (a b : ℕ) (xs : List ℕ) (r : Bool) → (r ≡ true) ↔ HasSubslice xs (a ∷ b ∷ []) → r ≡ has_pair a b xs
pair_is a b xs r h = same_bool r (has_pair a b xs) (λ e. let s = h.0 e in ap (has_pair a b) s.2 ∙ pair_at a b s.0 s.1) (λ e. h.1 (pair_found a b xs e))

-- ---- the front

pub behind_some : (front rest : List ℕ) → behind front (front ++ rest) ≡ Some rest
behind_some [] rest = refl
behind_some (a ∷ front) rest = ap (λ z. cond z (behind front (front ++ rest)) None) (equal_itself a) ∙ behind_some front rest

pub behind_none : (front x : List ℕ) → ((rest : List ℕ) → x ≢ front ++ rest) → behind front x ≡ None
behind_none [] x h = absurd (h x refl)
behind_none (a ∷ front) [] h = refl
behind_none (a ∷ front) (b ∷ x) h =
    cond_both (b == a) (behind front x) None (λ z. z ≡ None) (λ e. behind_none front x (λ rest f. h rest (λ i. equal b a e i ∷ f i))) (λ _. refl)

-- ---- lines

feeds : (b : ℕ) → b ≢ 10 → is_feed b ≡ false
feeds b h = unequal b 10 h

pub no_feed : (x : List ℕ) → ((i : ℕ) → i < length x → get_or x i 0 ≢ 10) → All (λ b. is_feed b ≡ false) x
no_feed x h = All-weaker (λ b. b ≢ 10) (λ b. is_feed b ≡ false) feeds x (All-from_get_or (λ b. b ≢ 10) x 0 h)

split_line : (rest line after : List ℕ) → rest ≡ line ++ (10 ∷ after) → All (λ b. is_feed b ≡ false) line → slice_split is_feed rest ≡ line ∷ slice_split is_feed after
split_line rest line after e h = ap (slice_split is_feed) e ∙ slice_split_at is_feed line 10 after h refl

joined_more : (f : List ℕ → List ℕ) (between line : List ℕ) (ls : List (List ℕ)) → 0 < length ls → joined f between (line ∷ ls) ≡ f line ++ (between ++ joined f between ls)
joined_more f between line [] l = absurd (omega (arith, l))
joined_more f between line (m ∷ ls) l = refl

some_lines : (x : List ℕ) → 0 < length (slice_split is_feed x)
some_lines x = omega (arith, length-slice_split is_feed x)

-- Of lines some are written, and these are left.
pub record IsLiteral (n : ℕ) (x rest old out : List ℕ) : Type 0 where
  pub utf8 : IsUtf8 rest
  pub is : out ++ flat_map (literal_line n) (slice_split is_feed rest) ≡ old ++ flat_map (literal_line n) (slice_split is_feed x)

pub literal_next : (n : ℕ) (x rest line after old out new : List ℕ) → IsLiteral n x rest old out → rest ≡ line ++ (10 ∷ after) → All (λ b. is_feed b ≡ false) line → IsUtf8 after → new ≡ out ++ literal_line n line → IsLiteral n x after old new
literal_next n x rest line after old out new h e a u w = record {
  utf8 = u;
  is = ap (λ z. z ++ flat_map (literal_line n) (slice_split is_feed after)) w ∙ append_assoc out (literal_line n line) (flat_map (literal_line n) (slice_split is_feed after))
      ∙ ap (λ z. out ++ flat_map (literal_line n) z) (sym (split_line rest line after e a)) ∙ h.is;
}

pub literal_within : (n : ℕ) (x rest line after old out : List ℕ) → IsLiteral n x rest old out → rest ≡ line ++ (10 ∷ after) → All (λ b. is_feed b ≡ false) line
    → old ++ flat_map (literal_line n) (slice_split is_feed x) ≡ (out ++ literal_line n line) ++ flat_map (literal_line n) (slice_split is_feed after)
literal_within n x rest line after old out h e a =
    sym h.is ∙ ap (λ z. out ++ flat_map (literal_line n) z) (split_line rest line after e a) ∙ sym (append_assoc out (literal_line n line) (flat_map (literal_line n) (slice_split is_feed after)))

pub literal_last : (n : ℕ) (x rest old out new : List ℕ) → IsLiteral n x rest old out → All (λ b. is_feed b ≡ false) rest → new ≡ out ++ literal_line n rest → new ≡ old ++ flat_map (literal_line n) (slice_split is_feed x)
literal_last n x rest old out new h a w =
    w ∙ ap (λ z. out ++ z) (sym (append-nil (literal_line n rest)) ∙ ap (flat_map (literal_line n)) (sym (slice_split_none is_feed rest a))) ∙ h.is

-- The same of lines with a text between each two.
pub record IsJoined (f : List ℕ → List ℕ) (between x rest old out : List ℕ) : Type 0 where
  pub utf8 : IsUtf8 rest
  pub is : out ++ joined f between (slice_split is_feed rest) ≡ old ++ joined f between (slice_split is_feed x)

regroup : (out a b c : List ℕ) → ((out ++ a) ++ b) ++ c ≡ out ++ (a ++ (b ++ c))
regroup out a b c = simp append_assoc

pub joined_next : (f : List ℕ → List ℕ) (between x rest line after old out pushed new : List ℕ) → IsJoined f between x rest old out → rest ≡ line ++ (10 ∷ after) → All (λ b. is_feed b ≡ false) line → IsUtf8 after
    → pushed ≡ out ++ f line → new ≡ pushed ++ between → IsJoined f between x after old new
joined_next f between x rest line after old out pushed new h e a u p w =
    let s = slice_split is_feed after in
    record {
      utf8 = u;
      is = ap (λ z. z ++ joined f between s) (w ∙ ap (λ z. z ++ between) p) ∙ regroup out (f line) between (joined f between s)
          ∙ ap (λ z. out ++ z) (sym (joined_more f between line s (some_lines after)) ∙ ap (joined f between) (sym (split_line rest line after e a))) ∙ h.is;
    }

pub joined_within : (f : List ℕ → List ℕ) (between x rest line after old out : List ℕ) → IsJoined f between x rest old out → rest ≡ line ++ (10 ∷ after) → All (λ b. is_feed b ≡ false) line
    → old ++ joined f between (slice_split is_feed x) ≡ (out ++ f line) ++ (between ++ joined f between (slice_split is_feed after))
joined_within f between x rest line after old out h e a =
    let s = slice_split is_feed after in
    sym h.is ∙ ap (λ z. out ++ z) (ap (joined f between) (split_line rest line after e a) ∙ joined_more f between line s (some_lines after))
    ∙ sym (append_assoc out (f line) (between ++ joined f between s))

pub between_within : (f : List ℕ → List ℕ) (between x rest line after old out pushed : List ℕ) → IsJoined f between x rest old out → rest ≡ line ++ (10 ∷ after) → All (λ b. is_feed b ≡ false) line → pushed ≡ out ++ f line
    → old ++ joined f between (slice_split is_feed x) ≡ (pushed ++ between) ++ joined f between (slice_split is_feed after)
between_within f between x rest line after old out pushed h e a p =
    let s = joined f between (slice_split is_feed after) in
    joined_within f between x rest line after old out h e a ∙ ap (λ z. z ++ (between ++ s)) (sym p) ∙ sym (append_assoc pushed between s)

pub joined_last : (f : List ℕ → List ℕ) (between x rest old out new : List ℕ) → IsJoined f between x rest old out → All (λ b. is_feed b ≡ false) rest → new ≡ out ++ f rest → new ≡ old ++ joined f between (slice_split is_feed x)
joined_last f between x rest old out new h a w = w ∙ ap (λ z. out ++ joined f between z) (sym (slice_split_none is_feed rest a)) ∙ h.is

-- ---- a line that passes a test

-- None of the lines before these ones passes it.
pub record IsSought (p : List ℕ → Bool) (x rest : List ℕ) : Type 0 where
  pub utf8 : IsUtf8 rest
  pub is : list_any p (slice_split is_feed rest) ≡ list_any p (slice_split is_feed x)

pub sought_next : (p : List ℕ → Bool) (x rest line after : List ℕ) → IsSought p x rest → rest ≡ line ++ (10 ∷ after) → All (λ b. is_feed b ≡ false) line → IsUtf8 after → p line ≡ false → IsSought p x after
sought_next p x rest line after h e a u k = record {
  utf8 = u;
  is = ap (λ z. z || list_any p (slice_split is_feed after)) (sym k) ∙ ap (list_any p) (sym (split_line rest line after e a)) ∙ h.is;
}

pub sought_here : (p : List ℕ → Bool) (x rest line after : List ℕ) → IsSought p x rest → rest ≡ line ++ (10 ∷ after) → All (λ b. is_feed b ≡ false) line → p line ≡ true → true ≡ list_any p (slice_split is_feed x)
sought_here p x rest line after h e a k = ap (λ z. z || list_any p (slice_split is_feed after)) (sym k) ∙ ap (list_any p) (sym (split_line rest line after e a)) ∙ h.is

or_false : (a : Bool) → (a || false) ≡ a
or_false true = refl
or_false false = refl

pub sought_last : (p : List ℕ → Bool) (x rest : List ℕ) → IsSought p x rest → All (λ b. is_feed b ≡ false) rest → p rest ≡ list_any p (slice_split is_feed x)
sought_last p x rest h a = sym (or_false (p rest)) ∙ ap (list_any p) (sym (slice_split_none is_feed rest a)) ∙ h.is

-- ---- lines that are not empty

-- Of the lines so many may be full, and of those that are left so many.
pub record IsCounted (x rest : List ℕ) (most left : ℕ) : Type 0 where
  pub utf8 : IsUtf8 rest
  pub is : nat_le (count_by is_full (slice_split is_feed rest)) left ≡ nat_le (count_by is_full (slice_split is_feed x)) most

full_more : (l : List ℕ) (ls : List (List ℕ)) → cond (is_full l) 1 0 + count_by is_full ls ≡ count_by is_full (l ∷ ls)
full_more l ls = sym (sum_by-cons (λ x. cond (is_full x) 1 0) l ls)

one_less : (b : Bool) (n left : ℕ) → (b && (left == 0)) ≡ false → nat_le n (cond b (left - 1) left) ≡ nat_le (cond b 1 0 + n) left
one_less true n left h = grind (arith, nat_tests)
one_less false n left h = let e : n ≡ 0 + n = omega arith in ap (λ z. nat_le z left) e

none_left : (b : Bool) (n left : ℕ) → (b && (left == 0)) ≡ true → false ≡ nat_le (cond b 1 0 + n) left
none_left true n left h = grind (arith, nat_tests)
none_left false n left h = absurd (false≢true h)

last_left : (b : Bool) (left : ℕ) → not (b && (left == 0)) ≡ nat_le (cond b 1 0 + 0) left
last_left true left = grind (arith, nat_tests)
last_left false left = grind (arith, nat_tests)

pub counted_next : (x rest line after : List ℕ) (most left next : ℕ) → IsCounted x rest most left → rest ≡ line ++ (10 ∷ after) → All (λ b. is_feed b ≡ false) line → IsUtf8 after
    → (is_full line && (left == 0)) ≡ false → next ≡ cond (is_full line) (left - 1) left → IsCounted x after most next
counted_next x rest line after most left next h e a u k w =
    let n = count_by is_full (slice_split is_feed after) in
    record {
      utf8 = u;
      is = ap (nat_le n) w ∙ one_less (is_full line) n left k ∙ ap (λ z. nat_le z left) (full_more line (slice_split is_feed after)) ∙ ap (λ z. nat_le (count_by is_full z) left) (sym (split_line rest line after e a)) ∙ h.is;
    }

pub counted_over : (x rest line after : List ℕ) (most left : ℕ) → IsCounted x rest most left → rest ≡ line ++ (10 ∷ after) → All (λ b. is_feed b ≡ false) line
    → (is_full line && (left == 0)) ≡ true → false ≡ nat_le (count_by is_full (slice_split is_feed x)) most
counted_over x rest line after most left h e a k =
    none_left (is_full line) (count_by is_full (slice_split is_feed after)) left k ∙ ap (λ z. nat_le z left) (full_more line (slice_split is_feed after)) ∙ ap (λ z. nat_le (count_by is_full z) left) (sym (split_line rest line after e a)) ∙ h.is

pub counted_last : (x rest : List ℕ) (most left : ℕ) → IsCounted x rest most left → All (λ b. is_feed b ≡ false) rest → not (is_full rest && (left == 0)) ≡ nat_le (count_by is_full (slice_split is_feed x)) most
counted_last x rest most left h a = last_left (is_full rest) left ∙ ap (λ z. nat_le z left) (full_more rest []) ∙ ap (λ z. nat_le (count_by is_full z) left) (sym (slice_split_none is_feed rest a)) ∙ h.is

-- ---- the first line that is not empty

dropped : (xs : List ℕ) (i b : ℕ) → (i < length xs) × (b ≡ get_or xs i 0) → drop i xs ≡ b ∷ drop (i + 1) xs
dropped xs i b h = rw add-one (drop-cons xs i 0 h.0 ∙ ap (λ z. z ∷ drop (suc i) xs) (sym h.1))

pub leads_next : (xs : List ℕ) (i b : ℕ) → (i < length xs) × (b ≡ get_or xs i 0) → b ≡ 10 → leads_blank (drop i xs) ≡ leads_blank xs → leads_blank (drop (i + 1) xs) ≡ leads_blank xs
unfolding leads_blank
leads_next xs i b h e k = sym (ap leads_blank (dropped xs i b h) ∙ ap (λ z. cond (is_feed z) (leads_blank (drop (i + 1) xs)) ((z == 32) || (z == 9))) e) ∙ k

pub leads_here : (xs : List ℕ) (i b : ℕ) → (i < length xs) × (b ≡ get_or xs i 0) → b ≢ 10 → leads_blank (drop i xs) ≡ leads_blank xs → ((b == 32) || (b == 9)) ≡ leads_blank xs
unfolding leads_blank
leads_here xs i b h n k = sym (ap leads_blank (dropped xs i b h) ∙ ap (λ z. cond z (leads_blank (drop (i + 1) xs)) ((b == 32) || (b == 9))) (unequal b 10 n)) ∙ k

pub leads_never : (xs : List ℕ) (i : ℕ) → length xs ≤ i → leads_blank (drop i xs) ≡ leads_blank xs → false ≡ leads_blank xs
unfolding leads_blank
leads_never xs i l k = sym (ap leads_blank (drop_of_length-le xs l)) ∙ k

-- ---- what a call says

pub behind_is : (front x : List ℕ) (r : Option (Bor (List ℕ))) → MatchOption r (FindsTextPrefix front x None) (λ y. StripsPrefix (FindsTextPrefix front) x y.now) → option_map (λ y. y.now) r ≡ behind front x
behind_is front x None h = sym (behind_none front x h)
behind_is front x (Some y) h = ap Some h.2 ∙ sym (ap (behind front) h.1.1 ∙ behind_some front (drop h.0 x))

pub all_before : (mark : ℕ) (x : List ℕ) → position_or_len (λ b. b == mark) x ≡ length x → x ≡ before_first (λ b. b == mark) x
all_before mark x e = sym (take_all (position_or_len (λ b. b == mark) x) x (omega (arith, e)))

pub none_after : (mark : ℕ) (x : List ℕ) → position_or_len (λ b. b == mark) x ≡ length x → [] ≡ after_first (λ b. b == mark) x
none_after mark x e = sym (drop_of_length-le x (omega (arith, e)))
