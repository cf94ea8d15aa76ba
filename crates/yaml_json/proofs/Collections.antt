-- What ends the collections that are open, and how one token changes it.
use Rattle.std.proofs.Common.{◌≡◌, ℕ, List, [], ◌∷◌, ◌++◌, refl, subst, sym}
use Rattle.yaml_json.specs.Json.{Ws, no_white, Structural, structural, Str, Value, object_value, array_value, empty_object, object, Member, member, MoreMembers, no_member, more_members, empty_array, array, MoreItems, no_item, more_items, EndArray, EndObject, IsJson, json_text}
use Rattle.yaml_json.specs.Reading.{Scalar, Left, Leave, Ends, GoesAt}
use Rattle.yaml_json.specs.declared.next.Collection.{Collection}
use Rattle.yaml_json.specs.declared.next.Collection.TheVariants as collections
use Rattle.yaml_json.proofs.Rules.{white_joined, scalar_read}

-- ---- white space before

items_white : {s t v r : List ℕ} → Ws s t → MoreItems t v → EndArray v r → Left collections.Array s r
items_white w no_item (structural a b) = (_, no_item, structural (white_joined w a) b)
items_white w (more_items (structural a b) x m) e = (_, more_items (structural (white_joined w a) b) x m, e)

members_white : {s t v r : List ℕ} → Ws s t → MoreMembers t v → EndObject v r → Left collections.Object s r
members_white w no_member (structural a b) = (_, no_member, structural (white_joined w a) b)
members_white w (more_members (structural a b) x m) e = (_, more_members (structural (white_joined w a) b) x m, e)

left_white : (k : Collection) (s t r : List ℕ) → Ws s t → Left k t r → Left k s r
left_white collections.Array s t r w l = items_white w l.1 l.2
left_white collections.Object s t r w l = members_white w l.1 l.2

leave_white : (k : Collection) (ks : List Collection) (s t r : List ℕ) → Ws s t → Leave (k ∷ ks) t r → Leave (k ∷ ks) s r
leave_white k [] s t r w (v, e, l) = (s, refl, left_white k s t r w (subst (λ z. Left k z r) (sym e) l))
leave_white k (j ∷ js) s t r w (v, m, l) = (v, leave_white j js s t v w m, l)

pub ends_white : (ks : List Collection) (s t : List ℕ) → Ws s t → Ends ks t → Ends ks s
ends_white [] s t w (v, e, x) = (s, refl, white_joined w (subst (λ z. Ws z []) (sym e) x))
ends_white (k ∷ ks) s t w (v, l, x) = (v, leave_white k ks s t v w l, x)

pub goes_white : (ks : List Collection) (s t : List ℕ) → Ws s t → GoesAt ks t → GoesAt ks s
goes_white ks s t w (a, b, x, v, e) = (a, b, white_joined w x, v, e)

-- ---- the collection that was opened last

leave_inner : (ks : List Collection) (k : Collection) (s t r : List ℕ) → Left k s t → Leave ks t r → Leave (ks ++ k ∷ []) s r
leave_inner [] k s t r l e = (s, refl, subst (λ z. Left k s z) e l)
leave_inner (j ∷ js) k s t r l (u, m, x) = (u, leave_inner js k s t u l m, x)

leave_outer : (ks : List Collection) (k : Collection) (s r : List ℕ) → Leave (ks ++ k ∷ []) s r → (t : List ℕ) × Left k s t × Leave ks t r
leave_outer [] k s r (u, e, l) = (r, subst (λ z. Left k z r) (sym e) l, refl)
leave_outer (j ∷ js) k s r (u, m, x) = let w = leave_outer js k s u m in (w.0, w.1, (u, w.2, x))

pub ends_inner : (ks : List Collection) (k : Collection) (s t : List ℕ) → Left k s t → Ends ks t → Ends (ks ++ k ∷ []) s
ends_inner ks k s t l (u, m, w) = (u, leave_inner ks k s t u l m, w)

pub ends_outer : (ks : List Collection) (k : Collection) (s : List ℕ) → Ends (ks ++ k ∷ []) s → (t : List ℕ) × Left k s t × Ends ks t
ends_outer ks k s (u, m, w) = let x = leave_outer ks k s u m in (x.0, x.1, (u, x.2, w))

-- a structural character with no white space before it
here : (c : ℕ) (bytes rest r : List ℕ) → bytes ≡ c ∷ rest → Ws rest r → Structural c bytes r
here c bytes rest r e w = structural (subst (λ z. Ws bytes z) e no_white) w

-- ---- the beginnings of values

pub empty_array_read : (ks : List Collection) (bytes inside rest : List ℕ) → Ws bytes inside → inside ≡ 93 ∷ rest → Ends ks rest → GoesAt ks (91 ∷ bytes)
empty_array_read ks bytes inside rest w e ends =
    (91 ∷ bytes, rest, no_white, array_value (empty_array (structural no_white no_white) (structural (subst (λ z. Ws bytes z) e w) no_white)), ends)

pub empty_object_read : (ks : List Collection) (bytes inside rest : List ℕ) → Ws bytes inside → inside ≡ 125 ∷ rest → Ends ks rest → GoesAt ks (123 ∷ bytes)
empty_object_read ks bytes inside rest w e ends =
    (123 ∷ bytes, rest, no_white, object_value (empty_object (structural no_white no_white) (structural (subst (λ z. Ws bytes z) e w) no_white)), ends)

pub array_begun : (ks new : List Collection) (bytes inside : List ℕ) → Ws bytes inside → new ≡ ks ++ collections.Array ∷ [] → GoesAt new inside → GoesAt ks (91 ∷ bytes)
array_begun ks new bytes inside w is (t, u, a, v, e) =
    let out = ends_outer ks collections.Array u (subst (λ z. Ends z u) is e) in
    (91 ∷ bytes, out.0, no_white, array_value (array (structural no_white (white_joined w a)) v out.1.1 out.1.2), out.2)

-- a member's name and colon
abbrev pub Named : List ℕ → List ℕ → Type 0
Named bytes value = (t : List ℕ) × Str bytes t × Ws t (58 ∷ value)

pub name_read : (bytes colon behind value : List ℕ) → Str bytes colon → Ws colon behind → behind ≡ 58 ∷ value → Named bytes value
name_read bytes colon behind value q w e = (colon, q, subst (λ z. Ws colon z) e w)

named : (bytes value t u : List ℕ) → Named bytes value → Ws value t → Value t u → Member bytes u
named bytes value t u n a v = member n.1 (structural n.2 a) v

pub object_begun : (ks new : List Collection) (bytes inside value : List ℕ) → Ws bytes inside → Named inside value → new ≡ ks ++ collections.Object ∷ [] → GoesAt new value → GoesAt ks (123 ∷ bytes)
object_begun ks new bytes inside value w n is (t, u, a, v, e) =
    let out = ends_outer ks collections.Object u (subst (λ z. Ends z u) is e) in
    (123 ∷ bytes, out.0, no_white, object_value (object (structural no_white w) (named inside value t u n a v) out.1.1 out.1.2), out.2)

pub scalar_began : (ks : List Collection) (bytes start rest : List ℕ) → Ws bytes start → Scalar start rest → Ends ks rest → GoesAt ks bytes
scalar_began ks bytes start rest w x ends = (start, rest, w, scalar_read start rest x, ends)

pub begun : (ks : List Collection) (c : ℕ) (bytes start inside : List ℕ) → Ws bytes start → start ≡ c ∷ inside → GoesAt ks (c ∷ inside) → GoesAt ks bytes
begun ks c bytes start inside w e g = goes_white ks bytes start w (subst (λ z. GoesAt ks z) (sym e) g)

-- ---- what follows a value

pub array_ended : (ks : List Collection) (bytes rest : List ℕ) → bytes ≡ 93 ∷ rest → Ends ks rest → Ends (ks ++ collections.Array ∷ []) bytes
array_ended ks bytes rest e ends = ends_inner ks collections.Array bytes rest (bytes, no_item, here 93 bytes rest rest e no_white) ends

pub object_ended : (ks : List Collection) (bytes rest : List ℕ) → bytes ≡ 125 ∷ rest → Ends ks rest → Ends (ks ++ collections.Object ∷ []) bytes
object_ended ks bytes rest e ends = ends_inner ks collections.Object bytes rest (bytes, no_member, here 125 bytes rest rest e no_white) ends

pub item_begun : (ks new : List Collection) (bytes value : List ℕ) → bytes ≡ 44 ∷ value → new ≡ ks ++ collections.Array ∷ [] → GoesAt new value → Ends (ks ++ collections.Array ∷ []) bytes
item_begun ks new bytes value q is (t, u, a, v, e) =
    let out = ends_outer ks collections.Array u (subst (λ z. Ends z u) is e) in
    ends_inner ks collections.Array bytes out.0 (out.1.0, more_items (here 44 bytes value t q a) v out.1.1, out.1.2) out.2

pub member_begun : (ks new : List Collection) (bytes more name value : List ℕ) → bytes ≡ 44 ∷ more → Ws more name → Named name value → new ≡ ks ++ collections.Object ∷ [] → GoesAt new value → Ends (ks ++ collections.Object ∷ []) bytes
member_begun ks new bytes more name value q w n is (t, u, a, v, e) =
    let out = ends_outer ks collections.Object u (subst (λ z. Ends z u) is e) in
    ends_inner ks collections.Object bytes out.0 (out.1.0, more_members (here 44 bytes more name q w) (named name value t u n a v) out.1.1, out.1.2) out.2

pub value_ended : (old new : List Collection) (last k : Collection) (bytes rest : List ℕ) → Ws bytes rest → old ≡ new ++ last ∷ [] → last ≡ k → Ends (new ++ k ∷ []) rest → Ends old bytes
value_ended old new last k bytes rest w is which e =
    ends_white old bytes rest w (subst (λ z. Ends z rest) (sym is) (subst (λ z. Ends (new ++ z ∷ []) rest) (sym which) e))

-- ---- the whole text

pub text_read : (ks : List Collection) (bytes text : List ℕ) → ks ≡ [] → bytes ≡ text → GoesAt ks bytes → IsJson text
text_read ks bytes text none is g =
    let h : GoesAt [] text = subst (λ z. GoesAt [] z) is (subst (λ z. GoesAt z bytes) none g) in
    json_text h.2 h.3 (subst (λ z. Ws z []) (sym h.4.1) h.4.2)
