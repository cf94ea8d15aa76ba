-- A tag is told by its text and the node's first character.
use Rattle.std.proofs.Common.{◌≡◌, ℕ, zero, suc, Bool, true, false, cond, ◌<◌, ◌==◌, ◌||◌, List, [], ◌∷◌, ◌++◌, refl, sym, ◌∙◌, ap, subst, arith, append_assoc}
use Rattle.std.proofs.lemmas.Bool.{cond_both, ne_eqb}
use Rattle.std.specs.Prelude.{codes}
use Rattle.std.specs.declared.option.Option.{Option}
use Rattle.std.specs.declared.option.Option.TheVariants.{None, Some}
use lib.Pointwise.{bytes_decides}
use Rattle.std.specs.Prelude.{bytes_eq}
use Rattle.yaml_definitions.specs.model.Tag.{null_tag, bool_tag, int_tag, float_tag, default_tag}
use Rattle.yaml_definitions.specs.model.Event.{WrittenTag, untagged, non_specific, full}
use Rattle.yaml_definitions.specs.grammar.Characters.{is_uri, is_word}
use Rattle.yaml_definitions.specs.canonical.TagText.{spell_byte, encoded, full_text, tag_text, written_tag}
use Rattle.yaml_definitions.proofs.CharLaws.{heads, tails, two_digits, value2}

-- ---- one byte

abbrev read_byte : List ℕ → Option (ℕ × List ℕ)
read_byte [] = None
read_byte (a ∷ r) = cond (a == 37) (two_digits r) (Some (a, r))

abbrev Back : ℕ → List ℕ → List ℕ → Type 0
Back b r z = read_byte (z ++ r) ≡ Some (b, r)

uri_no_percent : (b : ℕ) → is_uri b ≡ true → (b == 37) ≡ false
unfolding is_uri is_word
uri_no_percent b e = ne_eqb b 37 (λ q. let f : is_uri 37 ≡ true = subst (λ z. is_uri z ≡ true) q e in absurd (cc))

read_spelled_byte : (b : ℕ) (r : List ℕ) → b < 256 → read_byte (spell_byte b ++ r) ≡ Some (b, r)
unfolding spell_byte
read_spelled_byte b r h = cond_both (is_uri b) _ _ (Back b r) (λ e. rw (uri_no_percent b e)) (λ e. ap (λ z. Some (z, r)) (value2 b h))

byte_once : (b c : ℕ) (r s : List ℕ) → b < 256 → c < 256 → spell_byte b ++ r ≡ spell_byte c ++ s → (b ≡ c) × (r ≡ s)
byte_once b c r s m n e =
    let p : ◌≡◌ {A = Option (ℕ × List ℕ)} (Some (b, r)) (Some (c, s)) = sym (read_spelled_byte b r m) ∙ (ap read_byte e ∙ read_spelled_byte c s n) in
    let q : ◌≡◌ {A = ℕ × List ℕ} (b, r) (c, s) = cc in
    (ap (λ z. z.0) q, ap (λ z. z.1) q)

abbrev NotEnd : List ℕ → List ℕ → List ℕ → Type 0
NotEnd r s z = z ++ r ≡ 62 ∷ s → ⊥

no_end : (b : ℕ) (r s : List ℕ) → spell_byte b ++ r ≡ 62 ∷ s → ⊥
unfolding spell_byte is_uri is_word
no_end b r s = cond_both (is_uri b) _ _ (NotEnd r s) (λ e q. let f : is_uri 62 ≡ true = subst (λ z. is_uri z ≡ true) (heads q) e in absurd (cc)) (λ e q. omega (arith, heads q))

abbrev pub AreBytes : List ℕ → Type 0
AreBytes [] = Unit {0}
AreBytes (b ∷ bs) = (b < 256) × AreBytes bs

pub encoded_more : (g more r : List ℕ) → encoded g more ++ r ≡ encoded g (more ++ r)
encoded_more [] more r = refl
encoded_more (b ∷ g) more r = append_assoc (spell_byte b) (encoded g more) r ∙ ap (λ z. spell_byte b ++ z) (encoded_more g more r)

pub encoded_once : (g h r s : List ℕ) → AreBytes g → AreBytes h → encoded g (62 ∷ r) ≡ encoded h (62 ∷ s) → (g ≡ h) × (r ≡ s)
encoded_once [] [] r s m n e = (refl, tails e)
encoded_once [] (c ∷ h) r s m n e = absurd (no_end c (encoded h (62 ∷ s)) r (sym e))
encoded_once (b ∷ g) [] r s m n e = absurd (no_end b (encoded g (62 ∷ r)) s e)
encoded_once (b ∷ g) (c ∷ h) r s m n e =
    let p = byte_once b c (encoded g (62 ∷ r)) (encoded h (62 ∷ s)) m.0 n.0 e in
    let q = encoded_once g h r s m.1 n.1 p.1 in
    (λ z. p.0 z ∷ q.0 z, q.1)

tails7 : {a b c d f g h i j k l m n o : ℕ} {r s : List ℕ} → ◌≡◌ {A = List ℕ} (a ∷ b ∷ c ∷ d ∷ f ∷ g ∷ h ∷ r) (i ∷ j ∷ k ∷ l ∷ m ∷ n ∷ o ∷ s) → r ≡ s
tails7 e = tails (tails (tails (tails (tails (tails (tails e))))))

-- ---- the forms of a full tag

abbrev pub in_form : ℕ → List ℕ → List ℕ
in_form zero g = codes "!!null "
in_form (suc zero) g = codes "!!bool "
in_form (suc (suc zero)) g = codes "!!int "
in_form (suc (suc (suc zero))) g = codes "!!float "
in_form (suc (suc (suc (suc n)))) g = codes "!<" ++ encoded g (codes "> ")

-- what a form says of the tag
abbrev Says : List ℕ → ℕ → Type 0
Says g zero = g ≡ null_tag
Says g (suc zero) = g ≡ bool_tag
Says g (suc (suc zero)) = g ≡ int_tag
Says g (suc (suc (suc zero))) = g ≡ float_tag
Says g (suc (suc (suc (suc n)))) = n ≡ 0

abbrev Formed : List ℕ → List ℕ → Type 0
Formed g z = (n : ℕ) × Says g n × (z ≡ in_form n g)

form_says : (g : List ℕ) → Formed g (full_text g)
unfolding full_text
form_says g =
    cond_both (bytes_eq g null_tag) _ _ (Formed g) (λ e. (0, (bytes_decides g null_tag).0 e, refl)) (λ n0.
    cond_both (bytes_eq g bool_tag) _ _ (Formed g) (λ e. (1, (bytes_decides g bool_tag).0 e, refl)) (λ n1.
    cond_both (bytes_eq g int_tag) _ _ (Formed g) (λ e. (2, (bytes_decides g int_tag).0 e, refl)) (λ n2.
    cond_both (bytes_eq g float_tag) _ _ (Formed g) (λ e. (3, (bytes_decides g float_tag).0 e, refl)) (λ n3. (4, refl, refl)))))

abbrev third : List ℕ → ℕ
third [] = 0
third (c ∷ r) = cond (c == 110) 0 (cond (c == 98) 1 (cond (c == 105) 2 3))

abbrev second : List ℕ → ℕ
second [] = 0
second (c ∷ r) = cond (c == 60) 4 (third r)

abbrev form_seen : List ℕ → ℕ
form_seen [] = 5
form_seen (c ∷ r) = cond (c == 33) (second r) 5

form_back : (n : ℕ) (g r : List ℕ) → Says g n → form_seen (in_form n g ++ r) ≡ n
form_back zero g r h = refl
form_back (suc zero) g r h = refl
form_back (suc (suc zero)) g r h = refl
form_back (suc (suc (suc zero))) g r h = refl
form_back (suc (suc (suc (suc n)))) g r h = rw h

by_form : (n : ℕ) (g h r s : List ℕ) → AreBytes g → AreBytes h → Says g n → Says h n → in_form n g ++ r ≡ in_form n h ++ s → (g ≡ h) × (r ≡ s)
by_form zero g h r s m n x y e = (x ∙ sym y, tails7 e)
by_form (suc zero) g h r s m n x y e = (x ∙ sym y, tails7 e)
by_form (suc (suc zero)) g h r s m n x y e = (x ∙ sym y, tails (tails (tails (tails (tails (tails e))))))
by_form (suc (suc (suc zero))) g h r s m n x y e = (x ∙ sym y, tails (tails7 e))
by_form (suc (suc (suc (suc i)))) g h r s m n x y e =
    let q = sym (encoded_more g (62 ∷ 32 ∷ []) r) ∙ (tails (tails e) ∙ encoded_more h (62 ∷ 32 ∷ []) s) in
    let p = encoded_once g h (32 ∷ r) (32 ∷ s) m n q in
    (p.0, tails p.1)

full_once : (g h r s : List ℕ) → AreBytes g → AreBytes h → full_text g ++ r ≡ full_text h ++ s → (g ≡ h) × (r ≡ s)
full_once g h r s m n e =
    let a = form_says g in
    let b = form_says h in
    let d : in_form a.0 g ++ r ≡ in_form b.0 h ++ s = ap (λ z. z ++ r) (sym a.2) ∙ (e ∙ ap (λ z. z ++ s) b.2) in
    let f : a.0 ≡ b.0 = sym (form_back a.0 g r a.1) ∙ (ap form_seen d ∙ form_back b.0 h s b.1) in
    by_form b.0 g h r s m n (subst (Says g) f a.1) b.1 (subst (λ z. in_form z g ++ r ≡ in_form b.0 h ++ s) f d)

form_starts : (n : ℕ) (g r : List ℕ) → (y : List ℕ) × (in_form n g ++ r ≡ 33 ∷ y)
form_starts zero g r = (_, refl)
form_starts (suc zero) g r = (_, refl)
form_starts (suc (suc zero)) g r = (_, refl)
form_starts (suc (suc (suc zero))) g r = (_, refl)
form_starts (suc (suc (suc (suc n)))) g r = (_, refl)

full_starts : (g r : List ℕ) → (y : List ℕ) × (full_text g ++ r ≡ 33 ∷ y)
full_starts g r = let a = form_says g in let b = form_starts a.0 g r in (b.0, ap (λ z. z ++ r) a.2 ∙ b.1)

-- ---- a node's tag, before its first character

-- the first character of a scalar, a sequence and a mapping
abbrev pub bracket : ℕ → ℕ
bracket zero = 34
bracket (suc zero) = 91
bracket (suc (suc n)) = 123

-- the characters with which a node without an anchor begins
abbrev pub opens : ℕ → Bool
opens c = (c == 33) || ((c == 34) || ((c == 91) || (c == 123)))

brackets : (k l : ℕ) → k < 3 → l < 3 → bracket k ≡ bracket l → k ≡ l
brackets zero zero m n e = refl
brackets zero (suc zero) m n e = omega arith
brackets zero (suc (suc l)) m n e = omega arith
brackets (suc zero) zero m n e = omega arith
brackets (suc zero) (suc zero) m n e = refl
brackets (suc zero) (suc (suc l)) m n e = omega arith
brackets (suc (suc k)) zero m n e = omega arith
brackets (suc (suc k)) (suc zero) m n e = omega arith
brackets (suc (suc k)) (suc (suc l)) m n e = omega arith

opening : (k : ℕ) → opens (bracket k) ≡ true
opening zero = refl
opening (suc zero) = refl
opening (suc (suc k)) = refl

no_mark : (k : ℕ) (r s : List ℕ) → bracket k ∷ r ≡ 33 ∷ s → ⊥
no_mark zero r s e = omega (arith, heads e)
no_mark (suc zero) r s e = omega (arith, heads e)
no_mark (suc (suc k)) r s e = omega (arith, heads e)

-- a tag as canonical text has it
abbrev pub IsWritten : WrittenTag → Type 0
IsWritten untagged = Unit {0}
IsWritten non_specific = ⊥
IsWritten (full g) = AreBytes g

pub written_bytes : (k : ℕ) (g : List ℕ) → AreBytes g → IsWritten (written_tag k g)
unfolding written_tag
written_bytes k g m = cond_both (bytes_eq g (default_tag k)) _ _ IsWritten (λ e. tt) (λ e. m)

pub tag_once : (k l : ℕ) (g h : WrittenTag) (r s : List ℕ) → k < 3 → l < 3 → IsWritten g → IsWritten h
    → tag_text g ++ (bracket k ∷ r) ≡ tag_text h ++ (bracket l ∷ s) → (k ≡ l) × (g ≡ h) × (r ≡ s)
tag_once k l untagged untagged r s i j m n e = (brackets k l i j (heads e), refl, tails e)
tag_once k l untagged (full h) r s i j m n e = let b = full_starts h (bracket l ∷ s) in absurd (no_mark k r b.0 (e ∙ b.1))
tag_once k l (full g) untagged r s i j m n e = let b = full_starts g (bracket k ∷ r) in absurd (no_mark l s b.0 (sym e ∙ b.1))
tag_once k l (full g) (full h) r s i j m n e =
    let p = full_once g h (bracket k ∷ r) (bracket l ∷ s) m n e in
    (brackets k l i j (heads p.1), ap full p.0, tails p.1)
tag_once k l non_specific h r s i j m n e = absurd m
tag_once k l untagged non_specific r s i j m n e = absurd n
tag_once k l (full g) non_specific r s i j m n e = absurd n

pub tag_opens : (k : ℕ) (g : WrittenTag) (r s : List ℕ) (c : ℕ) → IsWritten g → tag_text g ++ (bracket k ∷ r) ≡ c ∷ s → opens c ≡ true
tag_opens k untagged r s c m e = subst (λ z. opens z ≡ true) (heads e) (opening k)
tag_opens k non_specific r s c m e = absurd m
tag_opens k (full g) r s c m e =
    let b = full_starts g (bracket k ∷ r) in
    let q : 33 ≡ c = heads (sym b.1 ∙ e) in
    subst (λ z. opens z ≡ true) q refl
