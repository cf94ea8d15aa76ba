-- Event lines, put together of their parts.
use Rattle.std.proofs.Common.{◌≡◌, ◌≢◌, inl, inr, ℕ, Bool, true, List, [], ◌∷◌, ◌++◌, refl, sym, ap, ◌∙◌, subst, arith}
use Rattle.std.proofs.Common.{Global}
use Rattle.std.specs.Prelude.{codes, Option, Some, None}
use Rattle.std.specs.Borrow.{Bor}
use Rattle.std.specs.Str.{is_utf8}
use Rattle.std.specs.Option.{option_map}
use Rattle.std.specs.Cow.{cow_str_bytes}
use Rattle.std.specs.declared.borrow.CowStr.{CowStr}
use Rattle.yaml_text.specs.declared.event.EventTag.{EventTag}
use Rattle.yaml_text.specs.declared.event.Style as code
use Rattle.yaml_text.specs.EventModel.{written_of, style_of}
use Rattle.std.proofs.lemmas.List.{append-nil}
use Rattle.yaml_definitions.specs.model.Event.{Event, Style, plain, single, double, literal, folded, WrittenTag, untagged, non_specific, full, Anchor, stream_start, stream_end, document_start, document_end, sequence_start, sequence_end, mapping_start, mapping_end, scalar_event, alias_event}
use Rattle.yaml_definitions.specs.model.Sound.{IsAnchor}
use Rattle.yaml_definitions.specs.model.EventText.{anchor_part, tag_part, style_text, value_text, flag_text, event_line, IsSound}
use Rattle.yaml_definitions.proofs.CharLaws.{heads, tails}
use Rattle.yaml_definitions.proofs.EventTextLaws.{line_once, seen}
use Rattle.yaml_events.specs.Parts.{StartsWithout, IsAnchored, EndsAnchor, IsTagged, EndsTag, IsProps, EndsProps, IsMark, IsCut, EndsMark, IsCollection, IsSigned, IsScalarLine, IsBare, IsLineOf}

abbrev pub Props : Type 0
Props = Anchor × WrittenTag × List ℕ

abbrev pub Flowing : Type 0
Flowing = Bool × Anchor × WrittenTag

abbrev pub Scalar : Type 0
Scalar = Anchor × WrittenTag × Style × List ℕ

-- what the code's parts are as plain values
abbrev pub anchor_seen : (Option (CowStr Global) × Bor (List ℕ)) → Anchor × List ℕ
anchor_seen r = (option_map cow_str_bytes r.0, r.1.now)

abbrev pub tag_seen : (EventTag × Bor (List ℕ)) → WrittenTag × List ℕ
tag_seen r = (written_of r.0, r.1.now)

abbrev pub props_seen : (Option (CowStr Global) × EventTag × Bor (List ℕ)) → Props
props_seen r = (option_map cow_str_bytes r.0, written_of r.1, r.2.now)

abbrev pub collection_seen : (Bool × Option (CowStr Global) × EventTag) → Flowing
collection_seen r = (r.0, option_map cow_str_bytes r.1, written_of r.2)

abbrev pub sign_seen : (code.Style × Bor (List ℕ)) → Style × List ℕ
sign_seen r = (style_of r.0, r.1.now)

abbrev pub scalar_seen : (Option (CowStr Global) × EventTag × code.Style × CowStr Global) → Scalar
scalar_seen r = (option_map cow_str_bytes r.0, written_of r.1, style_of r.2, cow_str_bytes r.3)

-- ---- properties

tag_apart : (g : WrittenTag) (s : List ℕ) → StartsWithout 38 s → StartsWithout 38 (tag_part g ++ s)
tag_apart untagged s h = h
tag_apart non_specific s h = (refl, λ q. omega arith)
tag_apart (full g) s h = (refl, λ q. omega arith)

-- where properties may be expected, so may the anchor, with the tag after it
pub props_anchor : (text : List ℕ) (p : Props) → IsProps text p × EndsProps p → (a : Anchor × List ℕ) × (IsAnchored text a × EndsAnchor a)
props_anchor text p h = ((p.0, tag_part p.1 ++ p.2), ((h.0.0, h.0.2), tag_apart p.1 p.2 h.1.0))

abbrev OnlyAnchor : List ℕ → (Anchor × List ℕ) → Type 0
OnlyAnchor text q = (a : Anchor × List ℕ) → IsAnchored text a × EndsAnchor a → q ≡ a

abbrev OnlyTag : List ℕ → (WrittenTag × List ℕ) → Type 0
OnlyTag text q = (a : WrittenTag × List ℕ) → IsTagged text a × EndsTag a → q ≡ a

-- and where the anchor was read, the tag
pub props_tag : (text rest : List ℕ) (b : Anchor) → OnlyAnchor text (b, rest) → (p : Props) → IsProps text p × EndsProps p → (g : WrittenTag × List ℕ) × (IsTagged rest g × EndsTag g)
unfolding props_anchor
props_tag text rest b o p h =
    let e = o (p.0, tag_part p.1 ++ p.2) (props_anchor text p h).1 in
    ((p.1, p.2), ((h.0.1, ap (λ z. z.1) e), h.1.1))

pub props_only : (text rest after : List ℕ) (b : Anchor) (g : WrittenTag) → OnlyAnchor text (b, rest) → OnlyTag rest (g, after) → (p : Props) → IsProps text p × EndsProps p → ◌≡◌ {A = Props} (b, g, after) p
unfolding props_anchor props_tag
props_only text rest after b g o n p h =
    let e = o (p.0, tag_part p.1 ++ p.2) (props_anchor text p h).1 in
    let f = n (p.1, p.2) (props_tag text rest b o p h).1 in
    λ z. ((e z).0, (f z).0, (f z).1)

pub props_are : (text rest after : List ℕ) (b : Anchor) (g : WrittenTag) → IsAnchored text (b, rest) → IsTagged rest (g, after) → IsProps text (b, g, after)
props_are text rest after b g h k = (h.0, k.0, h.1 ∙ ap (λ z. anchor_part b ++ z) k.1)

-- ---- collections

parts_no_mark : (mark r : List ℕ) (a : Anchor) (g : WrittenTag) → IsMark mark → anchor_part a ++ tag_part g ≢ mark ++ r
parts_no_mark mark r a g (inl m) e = by a g (e ∙ ap (λ z. z ++ r) m)
  where
    by : (a : Anchor) (g : WrittenTag) → anchor_part a ++ tag_part g ≡ 32 ∷ 91 ∷ 93 ∷ r → ⊥
    by None untagged f = absurd (cc)
    by None non_specific f = omega (arith, heads (tails f))
    by None (full x) f = omega (arith, heads (tails f))
    by (Some n) g f = omega (arith, heads (tails f))
parts_no_mark mark r a g (inr m) e = by a g (e ∙ ap (λ z. z ++ r) m)
  where
    by : (a : Anchor) (g : WrittenTag) → anchor_part a ++ tag_part g ≡ 32 ∷ 123 ∷ 125 ∷ r → ⊥
    by None untagged f = absurd (cc)
    by None non_specific f = omega (arith, heads (tails f))
    by None (full x) f = omega (arith, heads (tails f))
    by (Some n) g f = omega (arith, heads (tails f))

abbrev OnlyCut : List ℕ → List ℕ → (Bool × List ℕ) → Type 0
OnlyCut mark text q = (p : Bool × List ℕ) → IsCut mark text p × EndsMark mark p → q ≡ p

cut_of : (mark text rest : List ℕ) (v : Bool) → IsMark mark → OnlyCut mark text (v, rest) → (p : Flowing) → IsCollection mark text p → ◌≡◌ {A = Bool × List ℕ} (v, rest) (p.0, anchor_part p.1 ++ tag_part p.2)
cut_of mark text rest v m o p h = o (p.0, anchor_part p.1 ++ tag_part p.2) (h.2, λ r. parts_no_mark mark r p.1 p.2 m)

pub collection_props : (mark text rest : List ℕ) (v : Bool) → IsMark mark → OnlyCut mark text (v, rest) → (p : Flowing) → IsCollection mark text p → (q : Props) × (IsProps rest q × EndsProps q)
collection_props mark text rest v m o p h =
    let e = cut_of mark text rest v m o p h in
    ((p.1, p.2, []), ((h.0, h.1, ap (λ z. z.1) e ∙ ap (λ z. anchor_part p.1 ++ z) (sym (append-nil (tag_part p.2)))), (tt, tt)))

abbrev OnlyProps : List ℕ → Props → Type 0
OnlyProps text q = (p : Props) → IsProps text p × EndsProps p → q ≡ p

pub collection_ends : (mark text rest after : List ℕ) (v : Bool) (a : Anchor) (g : WrittenTag) → IsMark mark → OnlyCut mark text (v, rest) → OnlyProps rest (a, g, after) → (p : Flowing) → IsCollection mark text p → after ≡ []
unfolding collection_props
collection_ends mark text rest after v a g m o n p h = let q = collection_props mark text rest v m o p h in ap (λ z. z.2) (n q.0 q.1)

pub collection_only : (mark text rest after : List ℕ) (v : Bool) (a : Anchor) (g : WrittenTag) → IsMark mark → OnlyCut mark text (v, rest) → OnlyProps rest (a, g, after) → (p : Flowing) → IsCollection mark text p → ◌≡◌ {A = Flowing} (v, a, g) p
unfolding collection_props
collection_only mark text rest after v a g m o n p h =
    let e = cut_of mark text rest v m o p h in
    let q = collection_props mark text rest v m o p h in
    let f = n q.0 q.1 in
    λ z. ((e z).0, (f z).0, (f z).1)

pub collection_is : (mark text rest after : List ℕ) (v : Bool) (a : Anchor) (g : WrittenTag) → IsCut mark text (v, rest) → IsProps rest (a, g, after) → after ≡ [] → IsCollection mark text (v, a, g)
collection_is mark text rest after v a g h k e =
    (k.0, k.1, h ∙ ap (λ z. flag_text v mark ++ z) (k.2 ∙ ap (λ z. anchor_part a ++ (tag_part g ++ z)) e ∙ ap (λ z. anchor_part a ++ z) (append-nil (tag_part g))))

-- ---- scalars

style_apart : (y : Style) (x : List ℕ) → EndsProps (None, untagged, style_text y ++ x)
style_apart plain x = ((refl, λ q. omega arith), (refl, λ q. omega arith))
style_apart single x = ((refl, λ q. omega arith), (refl, λ q. omega arith))
style_apart double x = ((refl, λ q. omega arith), (refl, λ q. omega arith))
style_apart literal x = ((refl, λ q. omega arith), (refl, λ q. omega arith))
style_apart folded x = ((refl, λ q. omega arith), (refl, λ q. omega arith))

pub scalar_props : (text : List ℕ) (p : Scalar) → IsScalarLine text p → (q : Props) × (IsProps text q × EndsProps q)
scalar_props text p h = ((p.0, p.1, style_text p.2 ++ value_text p.3), ((h.0, h.1, h.2), style_apart p.2 (value_text p.3)))

pub scalar_sign : (text rest : List ℕ) (a : Anchor) (g : WrittenTag) → OnlyProps text (a, g, rest) → (p : Scalar) → IsScalarLine text p → (q : Style × List ℕ) × IsSigned rest q
unfolding scalar_props
scalar_sign text rest a g o p h = let q = scalar_props text p h in ((p.2, value_text p.3), ap (λ z. z.2) (o q.0 q.1))

abbrev OnlySigned : List ℕ → (Style × List ℕ) → Type 0
OnlySigned text q = (p : Style × List ℕ) → IsSigned text p → q ≡ p

pub scalar_value : (text rest value : List ℕ) (a : Anchor) (g : WrittenTag) (y : Style) → OnlyProps text (a, g, rest) → OnlySigned rest (y, value) → (p : Scalar) → IsScalarLine text p → (x : List ℕ) × (value ≡ value_text x)
unfolding scalar_props scalar_sign
scalar_value text rest value a g y o n p h = let q = scalar_sign text rest a g o p h in (p.3, ap (λ z. z.1) (n q.0 q.1))

abbrev OnlyValue : List ℕ → List ℕ → Type 0
OnlyValue value x = (z : List ℕ) → value ≡ value_text z → x ≡ z

pub scalar_only : (text rest value x : List ℕ) (a : Anchor) (g : WrittenTag) (y : Style) → OnlyProps text (a, g, rest) → OnlySigned rest (y, value) → OnlyValue value x → (p : Scalar) → IsScalarLine text p
    → ◌≡◌ {A = Scalar} (a, g, y, x) p
unfolding scalar_props scalar_sign scalar_value
scalar_only text rest value x a g y o n m p h =
    let q = scalar_props text p h in
    let e = o q.0 q.1 in
    let s = scalar_sign text rest a g o p h in
    let f = n s.0 s.1 in
    let v = m p.3 (scalar_value text rest value a g y o n p h).1 in
    λ z. ((e z).0, (e z).1, (f z).0, v z)

pub scalar_is : (text rest value x : List ℕ) (a : Anchor) (g : WrittenTag) (y : Style) → IsProps text (a, g, rest) → IsSigned rest (y, value) → value ≡ value_text x → IsScalarLine text (a, g, y, x)
scalar_is text rest value x a g y h k e = (h.0, h.1, h.2 ∙ ap (λ z. anchor_part a ++ (tag_part g ++ z)) (k ∙ ap (λ z. style_text y ++ z) e))

-- ---- lines

-- a line is that of one event
pub only_line : (line : List ℕ) (e f : Event) → IsLineOf line e → IsLineOf line f → e ≡ f
only_line line e f h k = (line_once e f [] [] h.0 k.0 (ap (λ z. z ++ (10 ∷ [])) (sym h.1 ∙ k.1))).0

pub bare_sound : (e : Event) → IsBare e → IsSound e
bare_sound stream_start h = tt
bare_sound stream_end h = tt
bare_sound (document_start v) h = tt
bare_sound (document_end v) h = tt
bare_sound sequence_end h = tt
bare_sound mapping_end h = tt
bare_sound (sequence_start v a g) h = absurd h
bare_sound (mapping_start v a g) h = absurd h
bare_sound (scalar_event a g y x) h = absurd h
bare_sound (alias_event n) h = absurd h

-- ---- lines by their first four characters

pub sequence_line : (line rest : List ℕ) → line ≡ 43 ∷ 83 ∷ 69 ∷ 81 ∷ rest → (e : Event) → IsLineOf line e → (p : Flowing) × IsCollection (codes " []") rest p
unfolding event_line
sequence_line line rest h (sequence_start v a g) k = ((v, a, g), (k.0.0, k.0.1, tails (tails (tails (tails (sym h ∙ k.1))))))
sequence_line line rest h e k = let q : seen (43 ∷ 83 ∷ 69 ∷ 81 ∷ rest) ≡ seen (event_line e) = ap seen (sym h ∙ k.1) in absurd (omega arith)

pub mapping_line : (line rest : List ℕ) → line ≡ 43 ∷ 77 ∷ 65 ∷ 80 ∷ rest → (e : Event) → IsLineOf line e → (p : Flowing) × IsCollection (codes " {}") rest p
unfolding event_line
mapping_line line rest h (mapping_start v a g) k = ((v, a, g), (k.0.0, k.0.1, tails (tails (tails (tails (sym h ∙ k.1))))))
mapping_line line rest h e k = let q : seen (43 ∷ 77 ∷ 65 ∷ 80 ∷ rest) ≡ seen (event_line e) = ap seen (sym h ∙ k.1) in absurd (omega arith)

pub scalar_line : (line rest : List ℕ) → line ≡ 61 ∷ 86 ∷ 65 ∷ 76 ∷ rest → (e : Event) → IsLineOf line e → (p : Scalar) × IsScalarLine rest p
unfolding event_line
scalar_line line rest h (scalar_event a g y x) k = ((a, g, y, x), (k.0.0, k.0.1, tails (tails (tails (tails (sym h ∙ k.1))))))
scalar_line line rest h e k = let q : seen (61 ∷ 86 ∷ 65 ∷ 76 ∷ rest) ≡ seen (event_line e) = ap seen (sym h ∙ k.1) in absurd (omega arith)

pub alias_line : (line name : List ℕ) → line ≡ 61 ∷ 65 ∷ 76 ∷ 73 ∷ 32 ∷ 42 ∷ name → (e : Event) → IsLineOf line e → IsAnchor name
unfolding event_line
alias_line line name h (alias_event n) k = subst IsAnchor (sym (tails (tails (tails (tails (tails (tails (sym h ∙ k.1)))))))) k.0
alias_line line name h e k = let q : seen (61 ∷ 65 ∷ 76 ∷ 73 ∷ 32 ∷ 42 ∷ name) ≡ seen (event_line e) = ap seen (sym h ∙ k.1) in absurd (omega arith)

abbrev NoneBegins : List ℕ → List ℕ → Type 0
NoneBegins line front = (rest : List ℕ) → line ≢ front ++ rest

pub no_line : (line : List ℕ) → ((e : Event) → IsBare e → line ≢ event_line e) → NoneBegins line (codes "+SEQ") → NoneBegins line (codes "+MAP") → NoneBegins line (codes "=VAL") → NoneBegins line (codes "=ALI *")
    → (e : Event) → IsLineOf line e → ⊥
unfolding event_line
no_line line b s m v a (sequence_start f n g) k = s _ k.1
no_line line b s m v a (mapping_start f n g) k = m _ k.1
no_line line b s m v a (scalar_event n g y x) k = v _ k.1
no_line line b s m v a (alias_event n) k = a _ k.1
no_line line b s m v a stream_start k = b stream_start tt k.1
no_line line b s m v a stream_end k = b stream_end tt k.1
no_line line b s m v a (document_start f) k = b (document_start f) tt k.1
no_line line b s m v a (document_end f) k = b (document_end f) tt k.1
no_line line b s m v a sequence_end k = b sequence_end tt k.1
no_line line b s m v a mapping_end k = b mapping_end tt k.1

abbrev pub IsOnlyLine : List ℕ → Event → Type 0
IsOnlyLine line e = IsLineOf line e × ((f : Event) → IsLineOf line f → e ≡ f)

pub found : (line : List ℕ) (e : Event) → IsLineOf line e → IsOnlyLine line e
found line e h = (h, λ f k. only_line line e f h k)

pub sequence_found : (line rest : List ℕ) → line ≡ 43 ∷ 83 ∷ 69 ∷ 81 ∷ rest → (v : Bool) (a : Anchor) (g : WrittenTag) → IsCollection (codes " []") rest (v, a, g) → IsOnlyLine line (sequence_start v a g)
unfolding event_line
sequence_found line rest h v a g k = found line (sequence_start v a g) ((k.0, k.1), h ∙ ap (λ z. 43 ∷ 83 ∷ 69 ∷ 81 ∷ z) k.2)

pub mapping_found : (line rest : List ℕ) → line ≡ 43 ∷ 77 ∷ 65 ∷ 80 ∷ rest → (v : Bool) (a : Anchor) (g : WrittenTag) → IsCollection (codes " {}") rest (v, a, g) → IsOnlyLine line (mapping_start v a g)
unfolding event_line
mapping_found line rest h v a g k = found line (mapping_start v a g) ((k.0, k.1), h ∙ ap (λ z. 43 ∷ 77 ∷ 65 ∷ 80 ∷ z) k.2)

pub scalar_found : (line rest : List ℕ) → line ≡ 61 ∷ 86 ∷ 65 ∷ 76 ∷ rest → (a : Anchor) (g : WrittenTag) (y : Style) (x : List ℕ) → is_utf8 x ≡ true → IsScalarLine rest (a, g, y, x) → IsOnlyLine line (scalar_event a g y x)
unfolding event_line
scalar_found line rest h a g y x u k = found line (scalar_event a g y x) ((k.0, k.1, u), h ∙ ap (λ z. 61 ∷ 86 ∷ 65 ∷ 76 ∷ z) k.2)

pub alias_found : (line name : List ℕ) → line ≡ 61 ∷ 65 ∷ 76 ∷ 73 ∷ 32 ∷ 42 ∷ name → IsAnchor name → IsOnlyLine line (alias_event name)
unfolding event_line
alias_found line name h k = found line (alias_event name) (k, h)
