-- What resolving gives has a tag, and a content that is UTF-8.
use Rattle.std.proofs.Common.{◌≡◌, ◌≤◌, ◌<◌, ℕ, zero, suc, ◌+◌, ◌==◌, nat_le, Bool, true, false, cond, not, ◌&&◌, ◌||◌, inl, inr, refl, Option, Ok, Err, List, [], ◌∷◌, ◌++◌, map, length, ℤ, pos, negsuc, IsAscii, sym, subst, arith}
use Rattle.std.proofs.lemmas.Bool.{cond_both}
use Rattle.std.proofs.lemmas.Bool.Decides.{nat_tests}
use Rattle.std.proofs.lemmas.Str.{IsUtf8-from_ascii, is_utf8-from_IsUtf8}
use Rattle.std.specs.Str.{is_utf8}
use Rattle.std.specs.Int.Digits.{digits_of, AllBelowBase}
use Rattle.std.proofs.lemmas.Int.Digits.{all_below_base_digits_of}
use Rattle.std.specs.Prelude.{bytes_eq}
use Rattle.yaml_definitions.specs.model.Event.{Style, plain, single, double, literal, folded, WrittenTag, untagged, non_specific, full}
use Rattle.yaml_definitions.specs.model.Limits.{tag_limit}
use Rattle.yaml_definitions.specs.model.Tag.{is_full, IsTag, core_tag, null_tag, bool_tag, int_tag, float_tag, str_tag, seq_tag, map_tag, default_tag}
use Rattle.yaml_definitions.specs.model.Core.{wrong_kind, bad_content, Value, null_value, bool_value, int_value, decimal_value, infinity, not_a_number, Resolved, trimmed, exponent, point_text, exponent_text, digits_text, decimal_text, natural_text, int_text, content_of, null_of, as_bool, bool_of, as_int, int_of, float_of, by_pattern, by_table, by_tag, resolve}
use Rattle.yaml_definitions.proofs.Members.{both_and}
use Rattle.yaml_definitions.proofs.CoreLaws.{Taken, pattern_parts, ok_first, wrong}
use Rattle.yaml_definitions.proofs.FloatLaws.{trimmed_below}
use Rattle.yaml_definitions.specs.model.Sound.{SoundTag, DocumentsSound, AllProper}
use Rattle.yaml_definitions.specs.model.Tree.{Tree}
use Rattle.yaml_definitions.specs.model.Serial.{Document}
use Rattle.yaml_definitions.specs.model.Unfold.{trees_from, unfold_node, event_count}
use Rattle.yaml_definitions.specs.Laws.{ReadIsProper}
use Rattle.yaml_definitions.proofs.ReadLaws.{bind, ok_one, unfold_proper}

abbrev Low : List ℕ → Type 0
Low [] = Unit {0}
Low (c ∷ cs) = (c < 128) × Low cs

low_ascii : (xs : List ℕ) → Low xs → IsAscii xs
low_ascii [] h i = omega arith
low_ascii (c ∷ cs) h zero = h.0
low_ascii (c ∷ cs) h (suc i) = low_ascii cs h.1 i

low_utf8 : (xs : List ℕ) → Low xs → is_utf8 xs ≡ true
low_utf8 xs h = is_utf8-from_IsUtf8 xs (IsUtf8-from_ascii xs (low_ascii xs h))

low_join : (xs ys : List ℕ) → Low xs → Low ys → Low (xs ++ ys)
low_join [] ys h k = k
low_join (x ∷ xs) ys h k = (h.0, low_join xs ys h.1 k)

digits_low : (ds : List ℕ) → AllBelowBase 10 ds → Low (map (λ d. 48 + d) ds)
digits_low [] m = tt
digits_low (d ∷ ds) m = let l = m.0 in (omega arith, digits_low ds m.1)

natural_low : (n : ℕ) → Low (natural_text n)
unfolding natural_text
natural_low n = cond_both (n == 0) _ _ Low (λ e. (omega arith, tt)) (λ e. digits_low (digits_of 10 n) (all_below_base_digits_of 10 n (omega arith)))

int_low : (n : ℤ) → Low (int_text n)
unfolding int_text
int_low (pos n) = natural_low n
int_low (negsuc n) = (omega arith, natural_low (suc n))

point_low : (ds : List ℕ) → AllBelowBase 10 ds → Low (point_text ds)
point_low [] m = tt
point_low (d ∷ ds) m = (omega arith, digits_low (d ∷ ds) m)

exponent_low : (x : ℤ) → Low (exponent_text x)
exponent_low (pos zero) = tt
exponent_low (pos (suc n)) = (omega arith, (omega arith, natural_low (suc n)))
exponent_low (negsuc n) = (omega arith, (omega arith, natural_low (suc n)))

digits_text_low : (ds : List ℕ) (x : ℤ) → AllBelowBase 10 ds → Low (digits_text ds x)
digits_text_low [] x m = (omega arith, tt)
digits_text_low (d ∷ ds) x m = let l = m.0 in (omega arith, low_join (point_text ds) (exponent_text x) (point_low ds m.1) (exponent_low x))

sign_low : (negative : Bool) → Low (cond negative (45 ∷ []) [])
sign_low true = (omega arith, tt)
sign_low false = tt

decimal_low : (negative : Bool) (m : ℕ) (k : ℤ) → Low (decimal_text negative m k)
unfolding decimal_text
decimal_low negative m k = cond_both (m == 0) _ _ Low (λ e. (omega arith, tt))
    (λ e. low_join (cond negative (45 ∷ []) []) _ (sign_low negative) (digits_text_low (trimmed (digits_of 10 m)) (exponent m k) (trimmed_below (digits_of 10 m) (all_below_base_digits_of 10 m (omega arith)))))

content_low : (v : Value) → Low (content_of v)
unfolding content_of
content_low null_value = (omega arith, (omega arith, (omega arith, (omega arith, tt))))
content_low (bool_value true) = (omega arith, (omega arith, (omega arith, (omega arith, tt))))
content_low (bool_value false) = (omega arith, (omega arith, (omega arith, (omega arith, (omega arith, tt)))))
content_low (int_value n) = int_low n
content_low (decimal_value negative m k) = decimal_low negative m k
content_low (infinity true) = (omega arith, (omega arith, (omega arith, (omega arith, (omega arith, tt)))))
content_low (infinity false) = (omega arith, (omega arith, (omega arith, (omega arith, tt))))
content_low not_a_number = (omega arith, (omega arith, (omega arith, (omega arith, tt))))

-- ---- the tags of the core schema are tags

core_low : (name : List ℕ) → Low name → Low (core_tag name)
unfolding core_tag
core_low name h = (omega arith, (omega arith, (omega arith, (omega arith, (omega arith, (omega arith, (omega arith, (omega arith, (omega arith, (omega arith, (omega arith, (omega arith, (omega arith, (omega arith, (omega arith, (omega arith, (omega arith, (omega arith, h))))))))))))))))))

core_is : (name : List ℕ) → Low name → length name ≤ 10 → IsTag (core_tag name)
unfolding core_tag is_full
core_is name h l =
    let g : List ℕ = core_tag name in
    let some : nat_le 1 (length g) ≡ true = grind (arith, nat_tests) in
    let few : nat_le (length g) tag_limit ≡ true = grind (arith, l, nat_tests) in
    let rest : (nat_le (length g) tag_limit && not (bytes_eq g (33 ∷ []))) ≡ true = both_and (nat_le (length g) tag_limit) (not (bytes_eq g (33 ∷ []))) few refl in
    both_and (is_utf8 g) (nat_le 1 (length g) && (nat_le (length g) tag_limit && not (bytes_eq g (33 ∷ [])))) (low_utf8 g (core_low name h)) (both_and (nat_le 1 (length g)) (nat_le (length g) tag_limit && not (bytes_eq g (33 ∷ []))) some rest)

three : {a b c : ℕ} → a < 128 → b < 128 → c < 128 → Low (a ∷ b ∷ c ∷ [])
three p q r = (p, (q, (r, tt)))

pub default_is : (k : ℕ) → IsTag (default_tag k)
default_is zero = core_is (115 ∷ 116 ∷ 114 ∷ []) (three (omega arith) (omega arith) (omega arith)) (omega arith)
default_is (suc zero) = core_is (115 ∷ 101 ∷ 113 ∷ []) (three (omega arith) (omega arith) (omega arith)) (omega arith)
default_is (suc (suc k)) = core_is (109 ∷ 97 ∷ 112 ∷ []) (three (omega arith) (omega arith) (omega arith)) (omega arith)

null_is : IsTag null_tag
null_is = core_is (110 ∷ 117 ∷ 108 ∷ 108 ∷ []) (omega arith, (omega arith, (omega arith, (omega arith, tt)))) (omega arith)

bool_is : IsTag bool_tag
bool_is = core_is (98 ∷ 111 ∷ 111 ∷ 108 ∷ []) (omega arith, (omega arith, (omega arith, (omega arith, tt)))) (omega arith)

int_is : IsTag int_tag
int_is = core_is (105 ∷ 110 ∷ 116 ∷ []) (three (omega arith) (omega arith) (omega arith)) (omega arith)

float_is : IsTag float_tag
float_is = core_is (102 ∷ 108 ∷ 111 ∷ 97 ∷ 116 ∷ []) (omega arith, (omega arith, (omega arith, (omega arith, (omega arith, tt))))) (omega arith)

-- ---- what resolving gives

abbrev Fine : List ℕ → List ℕ → Type 0
Fine g z = IsTag g × (is_utf8 z ≡ true)

taken_fine : (g : List ℕ) (o : Option Value) (h z : List ℕ) → IsTag g → Taken g o h z → Fine h z
taken_fine g o h z i t = (subst IsTag (sym t.2) i, subst (λ y. is_utf8 y ≡ true) (sym t.3) (low_utf8 (content_of t.0) (content_low t.0)))

itself : (g x h z : List ℕ) → IsTag g → is_utf8 x ≡ true → ◌≡◌ {A = Resolved} (Ok (g, x)) (Ok (h, z)) → Fine h z
itself g x h z i u e = let p = ok_first g h x z e in (subst IsTag p.0 i, subst (λ y. is_utf8 y ≡ true) p.1 u)

table_fine : (x h z : List ℕ) → is_utf8 x ≡ true → by_table x ≡ Ok (h, z) → Fine h z
unfolding by_table
table_fine x h z u e =
    elim (pattern_parts null_tag (null_of x) _ h z e) [
      | inl t ↦ taken_fine null_tag _ h z null_is t
      | inr e1 ↦
          elim (pattern_parts bool_tag (as_bool (bool_of x)) _ h z e1) [
            | inl t ↦ taken_fine bool_tag _ h z bool_is t
            | inr e2 ↦
                elim (pattern_parts int_tag (as_int (int_of x)) _ h z e2) [
                  | inl t ↦ taken_fine int_tag _ h z int_is t
                  | inr e3 ↦
                      elim (pattern_parts float_tag (float_of x) _ h z e3) [ inl t ↦ taken_fine float_tag _ h z float_is t | inr e4 ↦ itself str_tag x h z (default_is 0) u e4 ]
                ]
          ]
    ]

abbrev Step : List ℕ → List ℕ → Resolved → Type 0
Step h z r = r ≡ Ok (h, z) → Fine h z

tag_fine : (g x h z : List ℕ) → IsTag g → is_utf8 x ≡ true → by_tag g x ≡ Ok (h, z) → Fine h z
unfolding by_tag
tag_fine g x h z i u =
    let one : (o : Option Value) → Step h z (by_pattern g o (Err bad_content)) = λ o e. elim (pattern_parts g o (Err bad_content) h z e) [ inl t ↦ taken_fine g o h z i t | inr f ↦ absurd (wrong h z bad_content f) ] in
    cond_both (bytes_eq g null_tag) _ _ (Step h z) (λ b. one (null_of x)) (λ n0.
    cond_both (bytes_eq g bool_tag) _ _ (Step h z) (λ b. one (as_bool (bool_of x))) (λ n1.
    cond_both (bytes_eq g int_tag) _ _ (Step h z) (λ b. one (as_int (int_of x))) (λ n2.
    cond_both (bytes_eq g float_tag) _ _ (Step h z) (λ b. one (float_of x)) (λ n3.
    cond_both (bytes_eq g seq_tag || bytes_eq g map_tag) _ _ (Step h z) (λ b e. absurd (wrong h z wrong_kind e)) (λ n4 e. itself g x h z i u e)))))

pub resolve_fine : (w : WrittenTag) (y : Style) (x h z : List ℕ) → SoundTag w → is_utf8 x ≡ true → resolve w y x ≡ Ok (h, z) → Fine h z
unfolding resolve
resolve_fine untagged plain x h z s u e = table_fine x h z u e
resolve_fine untagged single x h z s u e = itself str_tag x h z (default_is 0) u e
resolve_fine untagged double x h z s u e = itself str_tag x h z (default_is 0) u e
resolve_fine untagged literal x h z s u e = itself str_tag x h z (default_is 0) u e
resolve_fine untagged folded x h z s u e = itself str_tag x h z (default_is 0) u e
resolve_fine non_specific y x h z s u e = itself str_tag x h z (default_is 0) u e
resolve_fine (full g) y x h z s u e = tag_fine g x h z s u e

-- ---- whole streams

from_proper : (at : ℕ) (ds : List Document) (f : List Tree) → DocumentsSound ds → trees_from at ds ≡ Ok f → AllProper f
unfolding trees_from
from_proper at [] f s e = subst AllProper (ok_one [] f e) tt
from_proper at (d ∷ ds) f s e =
    let b = bind (unfold_node d.root [] (suc at)) _ f e in
    let c = bind (trees_from (suc (suc (at + event_count d.root))) ds) _ f b.2 in
    let p = unfold_proper (default_is 1) (default_is 2) resolve_fine d.root [] (suc at) b.0 s.0 tt b.1 in
    subst AllProper (ok_one (b.0.0 ∷ c.0) f c.2) (p.0, from_proper (suc (suc (at + event_count d.root))) ds c.0 s.1 c.1)

pub read_is_proper : ReadIsProper
read_is_proper ds f s e = from_proper 1 ds f s e
