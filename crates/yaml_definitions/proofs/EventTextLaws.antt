-- A text is that of one list of events alone.
use Rattle.std.proofs.Common.{◌≡◌, ◌<◌, ℕ, ◌+◌, ◌*◌, ◌==◌, nat_lt, nat_le, not, Bool, true, false, cond, ◌&&◌, ◌||◌, ◌⊎◌, inl, inr, List, [], ◌∷◌, ◌++◌, length, refl, sym, ◌∙◌, ap, subst, arith, append_assoc}
use Rattle.std.proofs.lemmas.Bool.{cond_both, eqb-true, ltb-false}
use Rattle.std.proofs.lemmas.Str.{encodes-chars, scalars-chars, IsUtf8-from_is_utf8}
use Rattle.std.proofs.lemmas.List.Elements.{All-nil, All-cons, All-head, All-tail}
use Rattle.std.specs.Prelude.{codes, bytes_eq}
use Rattle.std.specs.List.{list_all, All}
use Rattle.std.specs.Str.{chars, is_utf8}
use Rattle.std.specs.declared.option.Option.TheVariants.{None, Some}
use lib.Utf8.{scalar, scalars, encode, encodes}
use lib.Pointwise.{bytes_decides}
use Rattle.yaml_definitions.specs.model.Limits.{tag_limit}
use Rattle.yaml_definitions.specs.model.Tag.{is_full, IsTag}
use Rattle.yaml_definitions.specs.grammar.Characters.{is_uri, is_word, is_nb, is_break, is_white, is_ns}
use Rattle.yaml_definitions.specs.grammar.Tags.{is_name}
use Rattle.yaml_definitions.specs.model.Event.{Style, plain, single, double, literal, folded, WrittenTag, untagged, non_specific, full, Anchor, Event, stream_start, stream_end, document_start, document_end, sequence_start, sequence_end, mapping_start, mapping_end, scalar_event, alias_event}
use Rattle.yaml_definitions.specs.model.Serial.{SerialNode, SerialNodes, SerialPairs, alias_at, scalar_at, sequence_at, mapping_at, end_serial, item_serial, done_serial, entry_serial, flat, flat_all, flat_pairs, Document, documents_events, stream_events}
use Rattle.yaml_definitions.specs.canonical.TagText.{spell_byte, encoded}
use Rattle.yaml_definitions.specs.model.Text.{is_text}
use Rattle.yaml_definitions.specs.model.Sound.{SoundTag, is_anchor_char, is_anchor, IsAnchor, SoundAnchor, Sound, AllSound, PairsSound, DocumentsSound}
use Rattle.yaml_definitions.specs.model.EventText.{value_byte, value_text, style_text, anchor_part, tag_part, flag_text, event_line, events_text, IsSound}
use Rattle.yaml_definitions.specs.Laws.{EventTextTells, EventsHaveOneText, SoundEventsHaveText}
use Rattle.yaml_definitions.proofs.Members.{and_both}
use Rattle.yaml_definitions.proofs.CharLaws.{heads, tails}
use Rattle.yaml_definitions.proofs.TagLaws.{AreBytes, encoded_once, encoded_more}
use Rattle.yaml_definitions.proofs.ProperLaws.{utf8_bytes, low}

-- ---- names: no space and no LF stands in them

abbrev pub Inner : List ℕ → Type 0
Inner [] = Unit {0}
Inner (b ∷ bs) = (b ≡ 32 → ⊥) × (b ≡ 10 → ⊥) × Inner bs

inner_append : (xs ys : List ℕ) → Inner xs → Inner ys → Inner (xs ++ ys)
inner_append [] ys m n = n
inner_append (x ∷ xs) ys m n = (m.0, m.1, inner_append xs ys m.2 n)

inner_encode : (c : ℕ) → c < 1114112 → (c ≡ 32 → ⊥) → (c ≡ 10 → ⊥) → Inner (encode c)
unfolding encode
inner_encode c h x y =
    cond_both (nat_lt c 128) _ _ Inner (λ e. (x, y, tt)) (λ n1. let k1 = ltb-false c 128 n1 in
    cond_both (nat_lt c 2048) _ _ Inner (λ e. (λ q. omega arith, λ q. omega arith, (λ q. omega arith, λ q. omega arith, tt))) (λ n2.
    cond_both (nat_lt c 65536) _ _ Inner (λ e. (λ q. omega arith, λ q. omega arith, (λ q. omega arith, λ q. omega arith, (λ q. omega arith, λ q. omega arith, tt))))
    (λ n3. (λ q. omega arith, λ q. omega arith, (λ q. omega arith, λ q. omega arith, (λ q. omega arith, λ q. omega arith, (λ q. omega arith, λ q. omega arith, tt)))))))

name_no_space : is_name 32 ≡ false
unfolding is_name is_ns is_nb is_break is_white
name_no_space = refl

name_no_feed : is_name 10 ≡ false
unfolding is_name is_ns is_nb is_break is_white
name_no_feed = refl

inner_encodes : (cs : List ℕ) → scalars cs ≡ true → list_all is_anchor_char cs ≡ true → Inner (encodes cs)
inner_encodes [] h k = tt
inner_encodes (c ∷ cs) h k =
    let p = and_both (scalar c) (scalars cs) h in
    let q = and_both (is_text c && is_name c) (list_all is_anchor_char cs) k in
    let n = (and_both (is_text c) (is_name c) q.0).1 in
    inner_append (encode c) (encodes cs)
    (inner_encode c (low c p.0) (λ e. let f : is_name 32 ≡ true = subst (λ z. is_name z ≡ true) e n in let g = sym f ∙ name_no_space in absurd (cc))
    (λ e. let f : is_name 10 ≡ true = subst (λ z. is_name z ≡ true) e n in let g = sym f ∙ name_no_feed in absurd (cc)))
    (inner_encodes cs p.1 q.1)

pub inner_name : (name : List ℕ) → IsAnchor name → Inner name
unfolding is_anchor
inner_name name h =
    let p = and_both (is_utf8 name) (nat_le 1 (length name) && list_all is_anchor_char (chars name)) h in
    let q = and_both (nat_le 1 (length name)) (list_all is_anchor_char (chars name)) p.1 in
    let u = IsUtf8-from_is_utf8 name p.0 in
    subst Inner (encodes-chars name u) (inner_encodes (chars name) (scalars-chars name u) q.1)

-- where a name ends
abbrev pub Ends : List ℕ → Type 0
Ends [] = ⊥
Ends (c ∷ cs) = (c ≡ 32) ⊎ (c ≡ 10)

no_end : (x : ℕ) (xs r : List ℕ) → Inner (x ∷ xs) → Ends (x ∷ r) → ⊥
no_end x xs r m (inl e) = m.0 e
no_end x xs r m (inr e) = m.1 e

pub name_once : (xs ys r s : List ℕ) → Inner xs → Inner ys → Ends r → Ends s → xs ++ r ≡ ys ++ s → (xs ≡ ys) × (r ≡ s)
name_once [] [] r s m n a b e = (refl, e)
name_once [] (y ∷ ys) r s m n a b e = absurd (no_end y ys (ys ++ s) n (subst Ends e a))
name_once (x ∷ xs) [] r s m n a b e = absurd (no_end x xs (xs ++ r) m (subst Ends (sym e) b))
name_once (x ∷ xs) (y ∷ ys) r s m n a b e =
    let p = heads e in
    let i = name_once xs ys r s m.2 n.2 a b (tails e) in
    (λ z. p z ∷ i.0 z, i.1)

-- ---- what stands next: 0 the end of the line, 1 an anchor, 2 a tag, 3 a flow mark, 4 a value

abbrev after_space : List ℕ → ℕ
after_space [] = 0
after_space (d ∷ r) = cond (d == 38) 1 (cond (d == 60) 2 (cond (d == 91 || d == 123) 3 4))

abbrev next : List ℕ → ℕ
next [] = 0
next (c ∷ r) = cond (c == 10) 0 (after_space r)

anchor_once : (a b : Anchor) (r s : List ℕ) → SoundAnchor a → SoundAnchor b → (next r ≡ 1 → ⊥) → (next s ≡ 1 → ⊥) → Ends r → Ends s
    → anchor_part a ++ r ≡ anchor_part b ++ s → (a ≡ b) × (r ≡ s)
anchor_once None None r s m n x y p q e = (refl, e)
anchor_once None (Some b) r s m n x y p q e = absurd (x (ap next e))
anchor_once (Some a) None r s m n x y p q e = absurd (y (ap next (sym e)))
anchor_once (Some a) (Some b) r s m n x y p q e =
    let i = name_once a b r s (inner_name a m) (inner_name b n) p q (tails (tails e)) in
    (ap Some i.0, i.1)

mark_is : (s : List ℕ) → encoded (33 ∷ []) (62 ∷ s) ≡ 33 ∷ 62 ∷ s
unfolding spell_byte is_uri is_word
mark_is s = refl

pub bytes_of_tag : (g : List ℕ) → IsTag g → AreBytes g
unfolding is_full
bytes_of_tag g h = utf8_bytes g (and_both (is_utf8 g) _ h).0

not_mark : (g : List ℕ) → IsTag g → g ≡ 33 ∷ [] → ⊥
unfolding is_full
not_mark g h e =
    let p = and_both (is_utf8 g) (nat_le 1 (length g) && (nat_le (length g) tag_limit && not (bytes_eq g (33 ∷ [])))) h in
    let q = and_both (nat_le 1 (length g)) (nat_le (length g) tag_limit && not (bytes_eq g (33 ∷ []))) p.1 in
    let r = and_both (nat_le (length g) tag_limit) (not (bytes_eq g (33 ∷ []))) q.1 in
    let t : not true ≡ true = ap not (sym ((bytes_decides g (33 ∷ [])).1 e)) ∙ r.1 in
    absurd (cc)

full_once : (g h r s : List ℕ) → IsTag g → IsTag h → encoded g (62 ∷ []) ++ r ≡ encoded h (62 ∷ []) ++ s → (g ≡ h) × (r ≡ s)
full_once g h r s m n e = encoded_once g h r s (bytes_of_tag g m) (bytes_of_tag h n) (sym (encoded_more g (62 ∷ []) r) ∙ (e ∙ encoded_more h (62 ∷ []) s))

pub full_mark : (g r s : List ℕ) → IsTag g → encoded g (62 ∷ []) ++ r ≡ 33 ∷ 62 ∷ s → ⊥
full_mark g r s m e =
    not_mark g m (encoded_once g (33 ∷ []) r s (bytes_of_tag g m) (omega arith, tt) (sym (encoded_more g (62 ∷ []) r) ∙ (e ∙ sym (mark_is s)))).0

tag_once : (g h : WrittenTag) (r s : List ℕ) → SoundTag g → SoundTag h → (next r ≡ 2 → ⊥) → (next s ≡ 2 → ⊥)
    → tag_part g ++ r ≡ tag_part h ++ s → (g ≡ h) × (r ≡ s)
tag_once untagged untagged r s m n x y e = (refl, e)
tag_once untagged non_specific r s m n x y e = absurd (x (ap next e))
tag_once untagged (full h) r s m n x y e = absurd (x (ap next e))
tag_once non_specific untagged r s m n x y e = absurd (y (ap next (sym e)))
tag_once non_specific non_specific r s m n x y e = (refl, tails (tails (tails (tails e))))
tag_once non_specific (full h) r s m n x y e = absurd (full_mark h s r n (sym (tails (tails e))))
tag_once (full g) untagged r s m n x y e = absurd (y (ap next (sym e)))
tag_once (full g) non_specific r s m n x y e = absurd (full_mark g r s m (tails (tails e)))
tag_once (full g) (full h) r s m n x y e = let p = full_once g h r s m n (tails (tails e)) in (ap full p.0, p.1)

tag_next : (g : WrittenTag) (r : List ℕ) (n : ℕ) → (n ≡ 2 → ⊥) → (next r ≡ n → ⊥) → next (tag_part g ++ r) ≡ n → ⊥
tag_next untagged r n x y e = y e
tag_next non_specific r n x y e = x (sym e)
tag_next (full g) r n x y e = x (sym e)

tag_ends : (g : WrittenTag) (r : List ℕ) → Ends r → Ends (tag_part g ++ r)
tag_ends untagged r h = h
tag_ends non_specific r h = inl refl
tag_ends (full g) r h = inl refl

anchor_next : (a : Anchor) (r : List ℕ) (n : ℕ) → (n ≡ 1 → ⊥) → (next r ≡ n → ⊥) → next (anchor_part a ++ r) ≡ n → ⊥
anchor_next None r n x y e = y e
anchor_next (Some name) r n x y e = x (sym e)

-- what may follow a node's properties
abbrev Follows : List ℕ → Type 0
Follows r = (next r ≡ 1 → ⊥) × (next r ≡ 2 → ⊥) × (next r ≡ 3 → ⊥) × Ends r

parts_once : (a b : Anchor) (g h : WrittenTag) (r s : List ℕ) → SoundAnchor a → SoundAnchor b → SoundTag g → SoundTag h → Follows r → Follows s
    → anchor_part a ++ (tag_part g ++ r) ≡ anchor_part b ++ (tag_part h ++ s) → (a ≡ b) × (g ≡ h) × (r ≡ s)
parts_once a b g h r s m n o p x y e =
    let i = anchor_once a b (tag_part g ++ r) (tag_part h ++ s) m n (tag_next g r 1 (λ q. omega arith) x.0) (tag_next h s 1 (λ q. omega arith) y.0) (tag_ends g r x.3) (tag_ends h s y.3) e in
    let j = tag_once g h r s o p x.1 y.1 i.1 in
    (i.0, j.0, j.1)

parts_next : (a : Anchor) (g : WrittenTag) (r : List ℕ) → Follows r → next (anchor_part a ++ (tag_part g ++ r)) ≡ 3 → ⊥
parts_next a g r x = anchor_next a (tag_part g ++ r) 3 (λ q. omega arith) (tag_next g r 3 (λ q. omega arith) x.2)

line_ends : (r : List ℕ) → Follows (10 ∷ r)
line_ends r = (λ q. omega arith, λ q. omega arith, λ q. omega arith, inr refl)

-- ---- flow marks

sequence_flag : (v w : Bool) (r s : List ℕ) → (next r ≡ 3 → ⊥) → (next s ≡ 3 → ⊥) → flag_text v (codes " []") ++ r ≡ flag_text w (codes " []") ++ s → (v ≡ w) × (r ≡ s)
sequence_flag false false r s x y e = (refl, e)
sequence_flag false true r s x y e = absurd (x (ap next e))
sequence_flag true false r s x y e = absurd (y (ap next (sym e)))
sequence_flag true true r s x y e = (refl, tails (tails (tails e)))

mapping_flag : (v w : Bool) (r s : List ℕ) → (next r ≡ 3 → ⊥) → (next s ≡ 3 → ⊥) → flag_text v (codes " {}") ++ r ≡ flag_text w (codes " {}") ++ s → (v ≡ w) × (r ≡ s)
mapping_flag false false r s x y e = (refl, e)
mapping_flag false true r s x y e = absurd (x (ap next e))
mapping_flag true false r s x y e = absurd (y (ap next (sym e)))
mapping_flag true true r s x y e = (refl, tails (tails (tails e)))

start_flag : (v w : Bool) (r s : List ℕ) → flag_text v (codes " ---") ++ (10 ∷ r) ≡ flag_text w (codes " ---") ++ (10 ∷ s) → (v ≡ w) × (r ≡ s)
start_flag false false r s e = (refl, tails e)
start_flag false true r s e = absurd (omega (arith, heads e))
start_flag true false r s e = absurd (omega (arith, heads e))
start_flag true true r s e = (refl, tails (tails (tails (tails (tails e)))))

end_flag : (v w : Bool) (r s : List ℕ) → flag_text v (codes " ...") ++ (10 ∷ r) ≡ flag_text w (codes " ...") ++ (10 ∷ s) → (v ≡ w) × (r ≡ s)
end_flag false false r s e = (refl, tails e)
end_flag false true r s e = absurd (omega (arith, heads e))
end_flag true false r s e = absurd (omega (arith, heads e))
end_flag true true r s e = (refl, tails (tails (tails (tails (tails e)))))

-- ---- values

abbrev pub read_escape : List ℕ → ℕ × List ℕ
read_escape [] = (0, [])
read_escape (c ∷ r) = (cond (c == 110) 10 (cond (c == 116) 9 (cond (c == 114) 13 (cond (c == 98) 8 92))), r)

abbrev pub read_value : List ℕ → ℕ × List ℕ
read_value [] = (0, [])
read_value (c ∷ r) = cond (c == 92) (read_escape r) (c, r)

abbrev pub Back : ℕ → List ℕ → List ℕ → Type 0
Back b r z = read_value (z ++ r) ≡ (b, r)

pub read_spelled : (b : ℕ) (r : List ℕ) → Back b r (value_byte b)
unfolding value_byte
read_spelled b r =
    cond_both (b == 92) _ _ (Back b r) (λ e. ap (λ z. (z, r)) (sym (eqb-true b 92 e))) (λ n.
    cond_both (b == 10) _ _ (Back b r) (λ e. ap (λ z. (z, r)) (sym (eqb-true b 10 e))) (λ n1.
    cond_both (b == 9) _ _ (Back b r) (λ e. ap (λ z. (z, r)) (sym (eqb-true b 9 e))) (λ n2.
    cond_both (b == 13) _ _ (Back b r) (λ e. ap (λ z. (z, r)) (sym (eqb-true b 13 e))) (λ n3.
    cond_both (b == 8) _ _ (Back b r) (λ e. ap (λ z. (z, r)) (sym (eqb-true b 8 e))) (λ n4. rw n refl)))))

abbrev NotFeed : List ℕ → List ℕ → List ℕ → Type 0
NotFeed r s z = z ++ r ≡ 10 ∷ s → ⊥

no_feed : (b : ℕ) (r s : List ℕ) → NotFeed r s (value_byte b)
unfolding value_byte
no_feed b r s =
    cond_both (b == 92) _ _ (NotFeed r s) (λ e q. omega (arith, heads q)) (λ n.
    cond_both (b == 10) _ _ (NotFeed r s) (λ e q. omega (arith, heads q)) (λ n1.
    cond_both (b == 9) _ _ (NotFeed r s) (λ e q. omega (arith, heads q)) (λ n2.
    cond_both (b == 13) _ _ (NotFeed r s) (λ e q. omega (arith, heads q)) (λ n3.
    cond_both (b == 8) _ _ (NotFeed r s) (λ e q. omega (arith, heads q)) (λ n4 q. let f : (10 == 10) ≡ false = subst (λ z. (z == 10) ≡ false) (heads q) n1 in absurd (cc))))))

value_once : (xs ys r s : List ℕ) → value_text xs ++ (10 ∷ r) ≡ value_text ys ++ (10 ∷ s) → (xs ≡ ys) × (r ≡ s)
value_once [] [] r s e = (refl, tails e)
value_once [] (y ∷ ys) r s e = absurd (no_feed y (value_text ys ++ (10 ∷ s)) r (sym (append_assoc (value_byte y) (value_text ys) (10 ∷ s)) ∙ sym e))
value_once (x ∷ xs) [] r s e = absurd (no_feed x (value_text xs ++ (10 ∷ r)) s (sym (append_assoc (value_byte x) (value_text xs) (10 ∷ r)) ∙ e))
value_once (x ∷ xs) (y ∷ ys) r s e =
    let f : value_byte x ++ (value_text xs ++ (10 ∷ r)) ≡ value_byte y ++ (value_text ys ++ (10 ∷ s)) = sym (append_assoc (value_byte x) (value_text xs) (10 ∷ r)) ∙ (e ∙ append_assoc (value_byte y) (value_text ys) (10 ∷ s)) in
    let p : ◌≡◌ {A = ℕ × List ℕ} (x, value_text xs ++ (10 ∷ r)) (y, value_text ys ++ (10 ∷ s)) = sym (read_spelled x (value_text xs ++ (10 ∷ r))) ∙ (ap read_value f ∙ read_spelled y (value_text ys ++ (10 ∷ s))) in
    let i = value_once xs ys r s (ap (λ z. z.1) p) in
    (λ z. (p z).0 ∷ i.0 z, i.1)

abbrev style_of : List ℕ → Style
style_of (c ∷ d ∷ r) = cond (d == 58) plain (cond (d == 39) single (cond (d == 34) double (cond (d == 124) literal folded)))
style_of _ = plain

style_back : (y : Style) (r : List ℕ) → style_of (style_text y ++ r) ≡ y
style_back plain r = refl
style_back single r = refl
style_back double r = refl
style_back literal r = refl
style_back folded r = refl

style_rest : (y : Style) (r s : List ℕ) → style_text y ++ r ≡ style_text y ++ s → r ≡ s
style_rest plain r s e = tails (tails e)
style_rest single r s e = tails (tails e)
style_rest double r s e = tails (tails e)
style_rest literal r s e = tails (tails e)
style_rest folded r s e = tails (tails e)

pub style_once : (y w : Style) (r s : List ℕ) → style_text y ++ r ≡ style_text w ++ s → (y ≡ w) × (r ≡ s)
style_once y w r s e =
    let p : y ≡ w = sym (style_back y r) ∙ (ap style_of e ∙ style_back w s) in
    (p, style_rest w r s (subst (λ z. style_text z ++ r ≡ style_text w ++ s) p e))

style_follows : (y : Style) (r : List ℕ) → Follows (style_text y ++ r)
style_follows plain r = (λ q. omega arith, λ q. omega arith, λ q. omega arith, inl refl)
style_follows single r = (λ q. omega arith, λ q. omega arith, λ q. omega arith, inl refl)
style_follows double r = (λ q. omega arith, λ q. omega arith, λ q. omega arith, inl refl)
style_follows literal r = (λ q. omega arith, λ q. omega arith, λ q. omega arith, inl refl)
style_follows folded r = (λ q. omega arith, λ q. omega arith, λ q. omega arith, inl refl)

-- ---- lines

-- the first three bytes tell the kind of event
abbrev pub seen : List ℕ → ℕ
seen (a ∷ b ∷ c ∷ r) = a * 65536 + b * 256 + c
seen _ = 0

pub seen_more : (e : Event) (r : List ℕ) → seen (event_line e ++ r) ≡ seen (event_line e)
unfolding event_line
seen_more stream_start r = refl
seen_more stream_end r = refl
seen_more (document_start b) r = refl
seen_more (document_end b) r = refl
seen_more (sequence_start b a g) r = refl
seen_more sequence_end r = refl
seen_more (mapping_start b a g) r = refl
seen_more mapping_end r = refl
seen_more (scalar_event a g y x) r = refl
seen_more (alias_event n) r = refl

four : {a b c d : ℕ} {r s : List ℕ} → ◌≡◌ {A = List ℕ} (a ∷ b ∷ c ∷ d ∷ r) (a ∷ b ∷ c ∷ d ∷ s) → r ≡ s
four e = tails (tails (tails (tails e)))

-- a collection's line from the flow mark on, and a scalar's from its properties on, as they were put together and with what follows
marked_line : (f : List ℕ) (a : Anchor) (g : WrittenTag) (r : List ℕ) → (f ++ (anchor_part a ++ tag_part g)) ++ r ≡ f ++ (anchor_part a ++ (tag_part g ++ r))
marked_line f a g r = append_assoc f (anchor_part a ++ tag_part g) r ∙ ap (λ z. f ++ z) (append_assoc (anchor_part a) (tag_part g) r)

scalar_line : (a : Anchor) (g : WrittenTag) (y x r : List ℕ) → (anchor_part a ++ (tag_part g ++ (y ++ x))) ++ r ≡ anchor_part a ++ (tag_part g ++ (y ++ (x ++ r)))
scalar_line a g y x r =
    append_assoc (anchor_part a) (tag_part g ++ (y ++ x)) r ∙ ap (λ z. anchor_part a ++ z) (append_assoc (tag_part g) (y ++ x) r ∙ ap (λ z. tag_part g ++ z) (append_assoc y x r))

pub line_once : (e f : Event) (r s : List ℕ) → IsSound e → IsSound f → event_line e ++ (10 ∷ r) ≡ event_line f ++ (10 ∷ s) → (e ≡ f) × (r ≡ s)
unfolding event_line
line_once stream_start stream_start r s m n e = (refl, tails (four e))
line_once stream_end stream_end r s m n e = (refl, tails (four e))
line_once (document_start v) (document_start w) r s m n e = let p = start_flag v w r s (four e) in (ap document_start p.0, p.1)
line_once (document_end v) (document_end w) r s m n e = let p = end_flag v w r s (four e) in (ap document_end p.0, p.1)
line_once (sequence_start v a g) (sequence_start w b h) r s m n e =
    let f = sym (marked_line (flag_text v (codes " []")) a g (10 ∷ r)) ∙ (four e ∙ marked_line (flag_text w (codes " []")) b h (10 ∷ s)) in
    let p = sequence_flag v w _ _ (parts_next a g (10 ∷ r) (line_ends r)) (parts_next b h (10 ∷ s) (line_ends s)) f in
    let q = parts_once a b g h (10 ∷ r) (10 ∷ s) m.0 n.0 m.1 n.1 (line_ends r) (line_ends s) p.1 in
    (λ z. sequence_start (p.0 z) (q.0 z) (q.1 z), tails q.2)
line_once sequence_end sequence_end r s m n e = (refl, tails (four e))
line_once (mapping_start v a g) (mapping_start w b h) r s m n e =
    let f = sym (marked_line (flag_text v (codes " {}")) a g (10 ∷ r)) ∙ (four e ∙ marked_line (flag_text w (codes " {}")) b h (10 ∷ s)) in
    let p = mapping_flag v w _ _ (parts_next a g (10 ∷ r) (line_ends r)) (parts_next b h (10 ∷ s) (line_ends s)) f in
    let q = parts_once a b g h (10 ∷ r) (10 ∷ s) m.0 n.0 m.1 n.1 (line_ends r) (line_ends s) p.1 in
    (λ z. mapping_start (p.0 z) (q.0 z) (q.1 z), tails q.2)
line_once mapping_end mapping_end r s m n e = (refl, tails (four e))
line_once (scalar_event a g v x) (scalar_event b h w y) r s m n e =
    let f = sym (scalar_line a g (style_text v) (value_text x) (10 ∷ r)) ∙ (four e ∙ scalar_line b h (style_text w) (value_text y) (10 ∷ s)) in
    let p = parts_once a b g h (style_text v ++ (value_text x ++ (10 ∷ r))) (style_text w ++ (value_text y ++ (10 ∷ s))) m.0 n.0 m.1 n.1 (style_follows v _) (style_follows w _) f in
    let q = style_once v w (value_text x ++ (10 ∷ r)) (value_text y ++ (10 ∷ s)) p.2 in
    let o = value_once x y r s q.1 in
    (λ z. scalar_event (p.0 z) (p.1 z) (q.0 z) (o.0 z), o.1)
line_once (alias_event a) (alias_event b) r s m n e =
    let p = name_once a b (10 ∷ r) (10 ∷ s) (inner_name a m) (inner_name b n) (inr refl) (inr refl) (tails (tails (four e))) in
    (ap alias_event p.0, tails p.1)
line_once e f r s m n h = let q : seen (event_line e) ≡ seen (event_line f) = sym (seen_more e (10 ∷ r)) ∙ (ap seen h ∙ seen_more f (10 ∷ s)) in absurd (omega arith)

no_line : (e : Event) (r : List ℕ) → [] ≡ event_line e ++ (10 ∷ r) → ⊥
no_line e r h = by (event_line e) h
  where
    by : (x : List ℕ) → [] ≡ x ++ (10 ∷ r) → ⊥
    by [] h = cc
    by (c ∷ x) h = cc

text_once : (es fs : List Event) → All IsSound es → All IsSound fs → events_text es ≡ events_text fs → es ≡ fs
unfolding events_text
text_once [] [] m n h = refl
text_once [] (f ∷ fs) m n h = absurd (no_line f (events_text fs) h)
text_once (e ∷ es) [] m n h = absurd (no_line e (events_text es) (sym h))
text_once (e ∷ es) (f ∷ fs) m n h =
    let p = line_once e f (events_text es) (events_text fs) (All-head IsSound e es m) (All-head IsSound f fs n) h in
    let i = text_once es fs (All-tail IsSound e es m) (All-tail IsSound f fs n) p.1 in
    λ z. p.0 z ∷ i z

pub event_text_tells : EventTextTells
event_text_tells text es fs a b = text_once es fs a.sound b.sound (sym a.lines ∙ b.lines)

pub events_have_one_text : EventsHaveOneText
events_have_one_text x y es a b = a.lines ∙ sym b.lines

-- ---- sound documents have a text

first : (e : Event) (es : List Event) → IsSound e → All IsSound es → All IsSound (e ∷ es)
first = All-cons IsSound

mutual
  unfolding flat

  node_sound : (m : SerialNode) (more : List Event) → Sound m → All IsSound more → All IsSound (flat m more)
  node_sound (alias_at name) more s h = first (alias_event name) more s h
  node_sound (scalar_at a g y x) more s h = first (scalar_event a g y x) more s h
  node_sound (sequence_at a g b ts) more s h = first (sequence_start b a g) _ (s.0, s.1) (items_sound ts (sequence_end ∷ more) s.2 (first sequence_end more tt h))
  node_sound (mapping_at a g b ps) more s h = first (mapping_start b a g) _ (s.0, s.1) (pairs_sound ps (mapping_end ∷ more) s.2 (first mapping_end more tt h))

  items_sound : (ts : SerialNodes) (more : List Event) → AllSound ts → All IsSound more → All IsSound (flat_all ts more)
  items_sound end_serial more s h = h
  items_sound (item_serial t ts) more s h = node_sound t (flat_all ts more) s.0 (items_sound ts more s.1 h)

  pairs_sound : (ps : SerialPairs) (more : List Event) → PairsSound ps → All IsSound more → All IsSound (flat_pairs ps more)
  pairs_sound done_serial more s h = h
  pairs_sound (entry_serial k v ps) more s h = node_sound k (flat v (flat_pairs ps more)) s.0 (node_sound v (flat_pairs ps more) s.1 (pairs_sound ps more s.2 h))

documents_sound : (ds : List Document) (more : List Event) → DocumentsSound ds → All IsSound more → All IsSound (documents_events ds more)
documents_sound [] more s h = h
documents_sound (d ∷ ds) more s h =
    first (document_start d.starts) _ tt (node_sound d.root _ s.0 (first (document_end d.ends) (documents_events ds more) tt (documents_sound ds more s.1 h)))

pub sound_events_have_text : SoundEventsHaveText
unfolding stream_events
sound_events_have_text ds s = record {
  sound = first stream_start _ tt (documents_sound ds (stream_end ∷ []) s (first stream_end [] tt (All-nil IsSound)));
  lines = refl;
}
