-- The length of a text that is given to a length with a limit.
use Rattle.std.proofs.Common.{◌≡◌, ℕ, ◌+◌, ◌<◌, ◌≤◌, true, false, List, [], ◌++◌, length, sym, ◌∙◌, ap, subst, arith}
use Rattle.std.specs.Prelude.{Result, Ok, Err, OnOk, IfErr, None, cond, nat_le, is_err}
use Rattle.std.proofs.lemmas.List.{append-nil, length-append}
use Rattle.std.proofs.lemmas.Bool.Decides.{nat_tests}
use Rattle.std.specs.Str.{encode_utf8_all}
use Rattle.std.specs.Str.{IsUtf8}
use Rattle.std.proofs.lemmas.Str.{is_utf8-from_IsUtf8}
use Rattle.yaml_definitions.specs.model.Limits.{short_limit}
use Rattle.yaml_definitions.specs.canonical.NodeText.{node_text}
use Rattle.yaml_definitions.specs.canonical.Spell.{text_len}
use Rattle.yaml_text.specs.declared.fault.Fault.{Fault}
use Rattle.yaml_text.specs.declared.fault.Fault.TheVariants.{TextTooLong}
use Rattle.law_length.proofs.Weights.{bytes}
use Rattle.law_length.proofs.Contents.{content_heavy, tag_and_content}
use Rattle.yaml_spell.specs.ShortNodes.{if_short, scalar_len}
use Rattle.yaml_spell.specs.declared.length.Length.{Length}
use Rattle.yaml_spell.specs.Pieces.{Began, Writes, Counts, Puts, Exceeds, Fails}
use Rattle.yaml_spell.specs.SinkViews.{len_of, limit_of, LengthHolds, LengthStops}

abbrev pub Holds : Length → Unit {0} → Began → List ℕ → Type 0
Holds s o b xs = LengthHolds s b xs

abbrev pub Stops : Unit {0} → Began → Fault → List ℕ → Type 0
Stops o b fault xs = LengthStops b fault xs

abbrev from : ℕ → Began
from limit = record { number = limit; held = None }

whole_text : (ys : List ℕ) (f : List ℕ → List ℕ) → Writes [] ys f → ys ≡ encode_utf8_all (f [])
whole_text ys f w = sym (append-nil ys) ∙ w.is []

-- what was taken has the text's length
pub measured : (s t : Length) (o p : Unit {0}) (limit : ℕ) (f : List ℕ → List ℕ) → len_of s ≡ 0 → limit_of s ≡ limit → Puts Holds s o t p f → (len_of t ≡ length (encode_utf8_all (f []))) × (limit_of t ≡ limit)
measured s t o p limit f e l h =
    let a = h.is (from limit) [] (record { limit = l; len = e }) in
    (a.1.len ∙ ap length (whole_text a.0 f a.2), a.1.limit)

-- and where it is not taken the text is longer than the limit
pub too_long : (s : Length) (o p : Unit {0}) (limit : ℕ) (fault : Fault) (f : List ℕ → List ℕ) → len_of s ≡ 0 → limit_of s ≡ limit → Fails Holds Stops s o p fault f → (more : List ℕ) → limit < length (encode_utf8_all (f more))
too_long s o p limit fault f e l h more = (h.is (from limit) [] more (record { limit = l; len = e })).longer

within : (n m : ℕ) → n ≤ m → nat_le n m ≡ true
within n m h = grind (arith, nat_tests)

beyond : (n m : ℕ) → m < n → nat_le n m ≡ false
beyond n m h = grind (arith, nat_tests)

if_within : (n : ℕ) → n ≤ 64 → n ≡ if_short n
if_within n h = ap (λ b. cond b n 0) (sym (within n 64 h))

if_beyond : (n : ℕ) → 64 < n → 0 ≡ if_short n
if_beyond n h = ap (λ b. cond b n 0) (sym (beyond n 64 h))

-- a text is taken, and is short
pub short_taken : (s t : Length) (o p : Unit {0}) (f : List ℕ → List ℕ) → len_of s ≡ 0 → limit_of s ≡ short_limit → Puts Holds s o t p f → len_of t ≡ if_short (length (encode_utf8_all (f [])))
short_taken s t o p f z l h =
    let m = measured s t o p short_limit f z l h in
    let x = m.0 in
    let y = m.1 in
    x ∙ if_within (length (encode_utf8_all (f []))) (subst (λ n. n ≤ short_limit) x (subst (λ n. len_of t ≤ n) y t.within))

-- a front is not taken
pub short_missed : (s : Length) (o p : Unit {0}) (fault : Fault) (f : List ℕ → List ℕ) (more : List ℕ) → len_of s ≡ 0 → limit_of s ≡ short_limit → Fails Holds Stops s o p fault f → 0 ≡ if_short (length (encode_utf8_all (f more)))
short_missed s o p fault f more z l h = if_beyond (length (encode_utf8_all (f more))) (too_long s o p short_limit fault f z l h more)

pub was_err : {T E : Type 0} {P : E → Type 0} (r : Result T E) → is_err r ≡ true → IfErr r P → (e : E) × P e
was_err (Ok x) e h = absurd (cc)
was_err (Err x) e h = (x, h)

pub was_ok : {T E P : Type 0} (r : Result T E) → is_err r ≡ false → OnOk r P → P
was_ok (Ok x) e h = h
was_ok (Err x) e h = absurd (cc)

-- a content that is too long, whatever its tag
pub long_scalar : (tag x : List ℕ) → IsUtf8 x → 256 < length x → 0 ≡ if_short (scalar_len tag x)
unfolding text_len node_text bytes
long_scalar tag x u l = if_beyond (scalar_len tag x) (omega (arith, l, content_heavy x (is_utf8-from_IsUtf8 x u), tag_and_content 0 tag x))

-- ---- counting

pub counted : (s t : Length) (len : ℕ) → limit_of t ≡ limit_of s → len_of t ≡ len_of s + len → Counts Holds s tt t tt len
counted s t len e f = record {
  is = λ piece l. record {
    is = λ b xs h. record {
      limit = e ∙ h.limit;
      len = f ∙ (λ i. h.len i + sym l i) ∙ sym (length-append xs piece);
    };
  };
}

pub uncounted : (s : Length) (fault : Fault) (len : ℕ) → fault ≡ TextTooLong → limit_of s < len_of s + len → Exceeds Holds Stops s tt tt fault len
uncounted s fault len e f = record {
  is = λ piece l. record {
    is = λ b xs more h.
        let same = h.limit in
        let long = h.len in
        let whole : length (xs ++ (piece ++ more)) ≡ length xs + (length piece + length more) = length-append xs (piece ++ more) ∙ ap (λ n. length xs + n) (length-append piece more) in
        record { too_long = e; longer = omega (arith, f, l, same, long, whole) };
  };
}
