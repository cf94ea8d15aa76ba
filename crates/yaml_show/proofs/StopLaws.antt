-- A text of several pieces is too long where a piece of it does not fit.
use Rattle.std.proofs.Common.{◌≡◌, ℕ, zero, suc, ◌+◌, ◌*◌, ◌-◌, ◌<◌, ◌≤◌, false, List, [], ◌∷◌, ◌++◌, length, refl, sym, ◌∙◌, ap, subst, arith}
use Rattle.std.specs.Prelude.{nat_le, nat_lt}
use Rattle.std.specs.Str.{chars, chars_after, continuation_len, lead_bits}
use Rattle.std.proofs.lemmas.Bool.{cond_both}
use Rattle.std.proofs.lemmas.Bool.Decides.{nat_tests}
use Rattle.std.proofs.lemmas.List.{append_assoc}
use Rattle.yaml_definitions.specs.model.Tree.{Tree, scalar, sequence, mapping}
use Rattle.yaml_show_scalar.specs.Stops.{Stops}
use Rattle.yaml_show_scalar.specs.declared.stop.Stop.{Stop}
use Rattle.yaml_show_scalar.specs.declared.stop.Stop.TheVariants.{TooLong, OutOfMemory}
use Rattle.yaml_show_scalar.proofs.StopLaws.{stops_longer}
use Rattle.yaml_show.specs.Flow.{is_short, key_text, fits}
use Rattle.yaml_show.specs.Sharing.{key_room, has_room}
use Rattle.yaml_show.proofs.LayoutLaws.{measured}
use Rattle.yaml_show.proofs.SharingLaws.{room_measured}

module _ (limit limit' : ℕ) (text : List ℕ) (whole : List ℕ) (stop : Stop) (l : limit' ≡ limit) (h : Stops limit' text stop) where
  pub before_one : (a rest : List ℕ) → whole ≡ (text ++ a) ++ rest → Stops limit whole stop
  before_one a rest e = stops_longer limit limit' text (a ++ rest) whole stop l (e ∙ append_assoc text a rest) h

  pub before_two : (a b rest : List ℕ) → whole ≡ ((text ++ a) ++ b) ++ rest → Stops limit whole stop
  before_two a b rest e = before_one a (b ++ rest) (e ∙ append_assoc (text ++ a) b rest)

  pub before_three : (a b c rest : List ℕ) → whole ≡ (((text ++ a) ++ b) ++ c) ++ rest → Stops limit whole stop
  before_three a b c rest e = before_two a b (c ++ rest) (e ∙ append_assoc ((text ++ a) ++ b) c rest)

pub memory_stops : (limit : ℕ) (text : List ℕ) (stop : Stop) → stop ≡ OutOfMemory → Stops limit text stop
memory_stops limit text stop e = subst (Stops limit text) (sym e) tt

-- ---- a character has at most four bytes

few : (b : ℕ) → continuation_len b ≤ 3
few b = cond_both (nat_lt b 128) 0 _ (λ n. n ≤ 3) (λ _. omega arith) (λ _. cond_both (nat_lt b 224) 1 _ (λ n. n ≤ 3) (λ _. omega arith) (λ _. cond_both (nat_lt b 240) 2 3 (λ n. n ≤ 3) (λ _. omega arith) (λ _. omega arith)))

bytes_after : (n c : ℕ) (bs : List ℕ) → length bs ≤ 4 * length (chars_after n c bs) + n
bytes_after zero c [] = omega arith
bytes_after zero c (b ∷ bs) = let h = bytes_after (continuation_len b) (lead_bits b) bs in omega (arith, h, few b)
bytes_after (suc n) c [] = omega arith
bytes_after (suc n) c (b ∷ bs) = let h = bytes_after n (c * 64 + (b - 128)) bs in omega (arith, h)

bytes_of_chars : (x : List ℕ) → length x ≤ 4 * length (chars x) + 4
unfolding chars
bytes_of_chars [] = omega arith
bytes_of_chars (b ∷ bs) = let h = bytes_after (continuation_len b) (lead_bits b) bs in omega (arith, h, few b)

beyond : (n : ℕ) → 1023 < n → nat_le n 1023 ≡ false
beyond n h = grind (arith, nat_tests)

-- a key of more than 4,096 bytes does not fit
pub too_long_key : (t : Tree) (limit : ℕ) (old : List ℕ) → limit ≡ 4096 → old ≡ [] → is_short t ≡ false → (stop : Stop) → stop ≡ TooLong → Stops limit (old ++ key_text t) stop → false ≡ fits t
too_long_key t limit old l e s stop is stops =
    let h : limit < length (old ++ key_text t) = subst (Stops limit (old ++ key_text t)) is stops in
    let n : length (old ++ key_text t) ≡ length (key_text t) = ap (λ z. length (z ++ key_text t)) e in
    sym (beyond (length (chars (key_text t))) (omega (arith, l, n, h, bytes_of_chars (key_text t)))) ∙ measured t (key_text t) s refl

few_room : (t : Tree) → key_room t ≤ 1023
few_room (scalar g x) = omega arith
few_room (sequence g ts) = omega arith
few_room (mapping g ps) = omega arith

beyond_room : (n room : ℕ) → room ≤ 1023 → 1023 < n → nat_le n room ≡ false
beyond_room n room l h = grind (arith, nat_tests)

-- nor has it room
pub too_long_room : (t : Tree) (limit : ℕ) (old : List ℕ) → limit ≡ 4096 → old ≡ [] → is_short t ≡ false → (stop : Stop) → stop ≡ TooLong → Stops limit (old ++ key_text t) stop → false ≡ has_room t
too_long_room t limit old l e s stop is stops =
    let h : limit < length (old ++ key_text t) = subst (Stops limit (old ++ key_text t)) is stops in
    let n : length (old ++ key_text t) ≡ length (key_text t) = ap (λ z. length (z ++ key_text t)) e in
    sym (beyond_room (length (chars (key_text t))) (key_room t) (few_room t) (omega (arith, l, n, h, bytes_of_chars (key_text t)))) ∙ room_measured t (key_text t) (key_room t) s refl refl
