-- Values, arrays and objects are read in one way: how each goes on.
use Rattle.std.proofs.Common.{◌≡◌, ℕ, List, [], ◌∷◌, ◌++◌, false, length, nat_eq, inl, inr, refl, sym, ◌∙◌, subst, arith}
use Rattle.std.specs.Prelude.{◌⊎◌}
use Rattle.std.proofs.lemmas.List.{append-nil}
use Rattle.yaml_json.specs.Json.{is_white, is_digit, is_e, Ws, no_white, white, Structural, structural, EndArray, EndObject, NameSeparator, ValueSeparator, Str, Value, false_value, null_value, true_value, object_value, array_value, number_value, string_value, Object, empty_object, object, Member, member, MoreMembers, no_member, more_members, Array, empty_array, array, MoreItems, no_item, more_items, IsJson, json_text}
use Rattle.yaml_json.specs.Reading.{begins, is_dot, Only, No, Stops, Scalar, false_scalar, null_scalar, true_scalar, number_scalar, string_scalar, ScalarTo, Left, Leave, Ends, GoesAt, GoesOn}
use Rattle.yaml_json.specs.declared.next.Collection.{Collection}
use Rattle.yaml_json.specs.declared.next.Collection.TheVariants as collections
use Rattle.yaml_json.specs.declared.next.Next.{Next}
use Rattle.yaml_json.proofs.Rules.{white_joined}
use Rattle.yaml_json.proofs.Collections.{ends_white, ends_inner, ends_outer, Named}
use Rattle.yaml_json.proofs.OneReading.{begins_is, same_rest, two_firsts, white_no_digit, white_no_dot, white_no_e, white_here, white_one, number_bare, str_first, not_scalar}

-- ---- structural characters

structural_inv : {c : ℕ} {s r : List ℕ} → Structural c s r → (t : List ℕ) × Ws s (c ∷ t) × Ws t r
structural_inv (structural a b) = (_, a, b)

-- the character that is met where white space ends
met : {c : ℕ} {s a t r : List ℕ} → is_white c ≡ false → Ws s a → Ws s t → begins is_white t ≡ false → Structural c a r → (x : List ℕ) × (t ≡ c ∷ x) × Ws x r
met n v w m x = let i = structural_inv x in (i.0, white_one w m (white_joined v i.1) n, i.2)

-- from the character on
opened : (c : ℕ) (s r : List ℕ) → is_white c ≡ false → Structural c (c ∷ s) r → Ws s r
opened c s r n x = let i = met n no_white no_white n x in subst (λ z. Ws z r) (sym (same_rest c c (c ∷ s) s i.0 refl i.1)) i.2

moved : {c : ℕ} {s t r : List ℕ} → is_white c ≡ false → Ws s t → begins is_white t ≡ false → Structural c s r → Structural c t r
moved {c} {s} {t} {r} n w m x = let i = met n no_white w m x in structural (subst (λ z. Ws t z) i.1 no_white) i.2

-- ---- values

array_inv : {s r : List ℕ} → Array s r → (t : List ℕ) × Structural 91 s t × ((EndArray t r) ⊎ ((u v : List ℕ) × Value t u × MoreItems u v × EndArray v r))
array_inv (empty_array b e) = (_, b, inl e)
array_inv (array b v m e) = (_, b, inr (_, _, v, m, e))

member_inv : {s r : List ℕ} → Member s r → (t u : List ℕ) × Str s t × NameSeparator t u × Value u r
member_inv (member q n v) = (_, _, q, n, v)

object_inv : {s r : List ℕ} → Object s r → (t : List ℕ) × Structural 123 s t × ((EndObject t r) ⊎ ((u v : List ℕ) × Member t u × MoreMembers u v × EndObject v r))
object_inv (empty_object b e) = (_, b, inl e)
object_inv (object b v m e) = (_, b, inr (_, _, v, m, e))

-- the white space before a value that begins with a structural character
bare_structural : {c : ℕ} {s r : List ℕ} → Structural c s r → (t : List ℕ) × Ws s (c ∷ t) × Structural c (c ∷ t) r
bare_structural x = let i = structural_inv x in (i.0, i.1, structural no_white i.2)

str_bare : {s r : List ℕ} → Str s r → begins is_white s ≡ false
str_bare q = let f = str_first q in begins_is is_white 34 _ f.0 f.1

value_bare : {s r : List ℕ} → Value s r → (t : List ℕ) × Ws s t × (begins is_white t ≡ false) × Value t r
value_bare false_value = (_, no_white, refl, false_value)
value_bare null_value = (_, no_white, refl, null_value)
value_bare true_value = (_, no_white, refl, true_value)
value_bare (number_value n) = (_, no_white, number_bare n, number_value n)
value_bare (string_value q) = (_, no_white, str_bare q, string_value q)
value_bare (array_value (empty_array b e)) = let i = bare_structural b in (_, i.1, refl, array_value (empty_array i.2 e))
value_bare (array_value (array b v m e)) = let i = bare_structural b in (_, i.1, refl, array_value (array i.2 v m e))
value_bare (object_value (empty_object b e)) = let i = bare_structural b in (_, i.1, refl, object_value (empty_object i.2 e))
value_bare (object_value (object b v m e)) = let i = bare_structural b in (_, i.1, refl, object_value (object i.2 v m e))

-- the value that is met where white space ends
value_met : {s a t r : List ℕ} → Ws s a → Ws s t → begins is_white t ≡ false → Value a r → Value t r
value_met {s} {a} {t} {r} x w n v = let b = value_bare v in subst (λ z. Value z r) (white_one (white_joined x b.1) b.2 w n) b.3

-- which value it is
pub data Kind (s r : List ℕ) : Type 0 where
  is_scalar : Scalar s r → Kind s r
  is_array : (t : List ℕ) → s ≡ 91 ∷ t → Array s r → Kind s r
  is_object : (t : List ℕ) → s ≡ 123 ∷ t → Object s r → Kind s r

kind_of : {s r : List ℕ} → begins is_white s ≡ false → Value s r → Kind s r
kind_of n false_value = is_scalar (false_scalar refl)
kind_of n null_value = is_scalar (null_scalar refl)
kind_of n true_value = is_scalar (true_scalar refl)
kind_of n (number_value x) = is_scalar (number_scalar x)
kind_of n (string_value x) = is_scalar (string_scalar x)
kind_of n (array_value x) = let i = array_inv x in let j = structural_inv i.1 in is_array j.0 (sym (white_here n j.1)) x
kind_of n (object_value x) = let i = object_inv x in let j = structural_inv i.1 in is_object j.0 (sym (white_here n j.1)) x

array_of : (s r : List ℕ) → Kind (91 ∷ s) r → Array (91 ∷ s) r
array_of s r (is_scalar x) = not_scalar 91 s refl refl x
array_of s r (is_array t e x) = x
array_of s r (is_object t e x) = two_firsts 91 123 (91 ∷ s) s t refl refl e

object_of : (s r : List ℕ) → Kind (123 ∷ s) r → Object (123 ∷ s) r
object_of s r (is_scalar x) = not_scalar 123 s refl refl x
object_of s r (is_array t e x) = two_firsts 123 91 (123 ∷ s) s t refl refl e
object_of s r (is_object t e x) = x

-- no value begins with the end of an array
no_close : {P : Type 0} {s r : List ℕ} (t : List ℕ) → s ≡ 93 ∷ t → Value s r → P
no_close {P} {s} {r} t e v = by (kind_of (begins_is is_white 93 s t e) v)
  where
    by : Kind s r → P
    by (is_scalar x) = not_scalar 93 t refl e x
    by (is_array u f x) = two_firsts 93 91 s t u refl e f
    by (is_object u f x) = two_firsts 93 123 s t u refl e f

-- ---- where a value is read next

-- with no white space before the value
pub goes_here : (ks : List Collection) (s t : List ℕ) → Ws s t → begins is_white t ≡ false → GoesAt ks s → (u : List ℕ) × Value t u × Ends ks u
goes_here ks s t w n (a, u, x, v, e) =
    let b = value_bare v in
    (u, subst (λ z. Value z u) (white_one (white_joined x b.1) b.2 w n) b.3, e)

pub begun_only : (ks : List Collection) (c : ℕ) (bytes start inside : List ℕ) → Ws bytes start → begins is_white start ≡ false → start ≡ c ∷ inside → GoesAt ks bytes → GoesAt ks (c ∷ inside)
begun_only ks c bytes start inside w n e g =
    let h = goes_here ks bytes start w n g in
    (start, h.0, subst (λ z. Ws z start) e no_white, h.1, h.2)

array_here : (ks : List Collection) (s : List ℕ) → GoesAt ks (91 ∷ s) → (u : List ℕ) × Array (91 ∷ s) u × Ends ks u
array_here ks s g = let h = goes_here ks (91 ∷ s) (91 ∷ s) no_white refl g in (h.0, array_of s h.0 (kind_of refl h.1), h.2)

object_here : (ks : List Collection) (s : List ℕ) → GoesAt ks (123 ∷ s) → (u : List ℕ) × Object (123 ∷ s) u × Ends ks u
object_here ks s g = let h = goes_here ks (123 ∷ s) (123 ∷ s) no_white refl g in (h.0, object_of s h.0 (kind_of refl h.1), h.2)

-- the end of a collection that is met, and what follows it
ended : {c : ℕ} {s a t r : List ℕ} (ks : List Collection) (rest : List ℕ) → is_white c ≡ false → Ws s a → Ws s t → begins is_white t ≡ false → t ≡ c ∷ rest → Structural c a r → Ends ks r → Ends ks rest
ended ks rest n v w m e x ends =
    let i = met n v w m x in
    subst (λ z. Ends ks z) (same_rest _ _ _ _ _ i.1 e) (ends_white ks i.0 _ i.2 ends)

lacks : {P : Type 0} {c : ℕ} {s a t r : List ℕ} → is_white c ≡ false → Ws s a → Ws s t → begins is_white t ≡ false → No (λ rest. t ≡ c ∷ rest) → Structural c a r → P
lacks n v w m lack x = let i = met n v w m x in absurd (lack i.0 i.1)

-- another byte is met
other : {P : Type 0} {c d : ℕ} {s a t r : List ℕ} (rest : List ℕ) → is_white c ≡ false → nat_eq c d ≡ false → Ws s a → Ws s t → begins is_white t ≡ false → t ≡ d ∷ rest → Structural c a r → P
other {P} {c} {d} rest n ne v w m e x = let i = met n v w m x in two_firsts c d _ i.0 rest ne i.1 e

pub empty_array_only : (ks : List Collection) (bytes inside rest : List ℕ) → Ws bytes inside → begins is_white inside ≡ false → inside ≡ 93 ∷ rest → GoesAt ks (91 ∷ bytes) → Ends ks rest
empty_array_only ks bytes inside rest w n e g =
    let h = array_here ks bytes g in
    let i = array_inv h.1 in
    let o = opened 91 bytes i.0 refl i.1 in
    elim i.2 [
      | inl x ↦ ended ks rest refl o w n e x h.2
      | inr y ↦ no_close rest e (value_met o w n y.2)
    ]

pub array_begun_only : (ks new : List Collection) (bytes inside : List ℕ) → Ws bytes inside → begins is_white inside ≡ false → No (λ rest. inside ≡ 93 ∷ rest) → new ≡ ks ++ collections.Array ∷ [] → GoesAt ks (91 ∷ bytes) → GoesAt new inside
array_begun_only ks new bytes inside w n lack is g =
    let h = array_here ks bytes g in
    let i = array_inv h.1 in
    let o = opened 91 bytes i.0 refl i.1 in
    elim i.2 [
      | inl x ↦ lacks refl o w n lack x
      | inr y ↦ (inside, y.0, no_white, value_met o w n y.2, subst (λ z. Ends z y.0) (sym is) (ends_inner ks collections.Array y.0 h.0 (y.1, y.3, y.4) h.2))
    ]

-- ---- members

-- the name of a member that is met where white space ends, and its value
record Met (t u : List ℕ) : Type 0 where
  value : List ℕ
  start : List ℕ
  named : Named t value
  white : Ws value start
  is : Value start u

member_met : {s a t u : List ℕ} → Ws s a → Ws s t → begins is_white t ≡ false → Member a u → Met t u
member_met {s} {a} {t} {u} v w n x =
    let i = member_inv x in
    let j = structural_inv i.3 in
    let e : a ≡ t = white_one v (str_bare i.2) w n in
    record { value = j.0; start = i.1; named = (i.0, subst (λ z. Str z i.0) e i.2, j.1); white = j.2; is = i.4 }

-- a member does not begin with the end of an object
no_member_close : {P : Type 0} {s a t u : List ℕ} (rest : List ℕ) → Ws s a → Ws s t → begins is_white t ≡ false → t ≡ 125 ∷ rest → Member a u → P
no_member_close {P} {s} {a} {t} rest v w n e x =
    let m = member_met v w n x in
    let f = str_first m.named.1 in
    two_firsts 34 125 t f.0 rest refl f.1 e

pub empty_object_only : (ks : List Collection) (bytes inside rest : List ℕ) → Ws bytes inside → begins is_white inside ≡ false → inside ≡ 125 ∷ rest → GoesAt ks (123 ∷ bytes) → Ends ks rest
empty_object_only ks bytes inside rest w n e g =
    let h = object_here ks bytes g in
    let i = object_inv h.1 in
    let o = opened 123 bytes i.0 refl i.1 in
    elim i.2 [
      | inl x ↦ ended ks rest refl o w n e x h.2
      | inr y ↦ no_member_close rest o w n e y.2
    ]

pub object_begun_only : (ks new : List Collection) (bytes inside value : List ℕ) → Ws bytes inside → begins is_white inside ≡ false → No (λ rest. inside ≡ 125 ∷ rest) → Only (Named inside) value → new ≡ ks ++ collections.Object ∷ [] → GoesAt ks (123 ∷ bytes) → GoesAt new value
object_begun_only ks new bytes inside value w n lack only is g =
    let h = object_here ks bytes g in
    let i = object_inv h.1 in
    let o = opened 123 bytes i.0 refl i.1 in
    elim i.2 [
      | inl x ↦ lacks refl o w n lack x
      | inr y ↦
          let m = member_met o w n y.2 in
          (m.start, y.0, subst (λ z. Ws z m.start) (only m.value m.named) m.white, m.is, subst (λ z. Ends z y.0) (sym is) (ends_inner ks collections.Object y.0 h.0 (y.1, y.3, y.4) h.2))
    ]

pub object_not_begun : (ks : List Collection) (bytes inside : List ℕ) → Ws bytes inside → begins is_white inside ≡ false → No (λ rest. inside ≡ 125 ∷ rest) → No (Named inside) → GoesAt ks (123 ∷ bytes) → ⊥
object_not_begun ks bytes inside w n lack unnamed g =
    let h = object_here ks bytes g in
    let i = object_inv h.1 in
    let o = opened 123 bytes i.0 refl i.1 in
    elim i.2 [
      | inl x ↦ lacks refl o w n lack x
      | inr y ↦ let m = member_met o w n y.2 in unnamed m.value m.named
    ]

pub named_only : (s t behind rest : List ℕ) → Only (Str s) t → Ws t behind → begins is_white behind ≡ false → behind ≡ 58 ∷ rest → Only (Named s) rest
named_only s t behind rest only w n e r (a, q, x) = same_rest _ _ _ _ _ (white_one w n (subst (λ z. Ws z (58 ∷ r)) (only a q) x) refl) e

pub named_none : (s t behind : List ℕ) → Only (Str s) t → Ws t behind → begins is_white behind ≡ false → No (λ rest. behind ≡ 58 ∷ rest) → No (Named s)
named_none s t behind only w n lack r (a, q, x) = lack r (white_one w n (subst (λ z. Ws z (58 ∷ r)) (only a q) x) refl)

-- ---- what follows a value

items_inv : {s r : List ℕ} → MoreItems s r → (r ≡ s) ⊎ ((t u : List ℕ) × ValueSeparator s t × Value t u × MoreItems u r)
items_inv no_item = inl refl
items_inv (more_items a v m) = inr (_, _, a, v, m)

members_inv : {s r : List ℕ} → MoreMembers s r → (r ≡ s) ⊎ ((t u : List ℕ) × ValueSeparator s t × Member t u × MoreMembers u r)
members_inv no_member = inl refl
members_inv (more_members a v m) = inr (_, _, a, v, m)

-- the end of a collection, or one more of what it has
abbrev Items : List ℕ → List ℕ → Type 0
Items s r = (EndArray s r) ⊎ ((t u v : List ℕ) × ValueSeparator s t × Value t u × MoreItems u v × EndArray v r)

items_of : {s r : List ℕ} → Left collections.Array s r → Items s r
items_of {s} {r} (t, m, e) = elim (items_inv m) [
  | inl i ↦ inl (subst (λ z. EndArray z r) i e)
  | inr y ↦ inr (y.0, y.1, t, y.2, y.3, y.4, e)
]

abbrev Members : List ℕ → List ℕ → Type 0
Members s r = (EndObject s r) ⊎ ((t u v : List ℕ) × ValueSeparator s t × Member t u × MoreMembers u v × EndObject v r)

members_of : {s r : List ℕ} → Left collections.Object s r → Members s r
members_of {s} {r} (t, m, e) = elim (members_inv m) [
  | inl i ↦ inl (subst (λ z. EndObject z r) i e)
  | inr y ↦ inr (y.0, y.1, t, y.2, y.3, y.4, e)
]

pub array_ended_only : (ks : List Collection) (bytes rest : List ℕ) → begins is_white bytes ≡ false → bytes ≡ 93 ∷ rest → Ends (ks ++ collections.Array ∷ []) bytes → Ends ks rest
array_ended_only ks bytes rest n e ends =
    let o = ends_outer ks collections.Array bytes ends in
    elim (items_of o.1) [
      | inl x ↦ ended ks rest refl no_white no_white n e x o.2
      | inr y ↦ other rest refl refl no_white no_white n e y.3
    ]

pub item_begun_only : (ks new : List Collection) (bytes item : List ℕ) → begins is_white bytes ≡ false → No (λ rest. bytes ≡ 93 ∷ rest) → bytes ≡ 44 ∷ item → new ≡ ks ++ collections.Array ∷ [] → Ends (ks ++ collections.Array ∷ []) bytes → GoesAt new item
item_begun_only ks new bytes item n lack e is ends =
    let o = ends_outer ks collections.Array bytes ends in
    elim (items_of o.1) [
      | inl x ↦ lacks refl no_white no_white n lack x
      | inr y ↦
          let i = met refl no_white no_white n y.3 in
          (y.0, y.1, subst (λ z. Ws z y.0) (same_rest _ _ _ _ _ i.1 e) i.2, y.4, subst (λ z. Ends z y.1) (sym is) (ends_inner ks collections.Array y.1 o.0 (y.2, y.5, y.6) o.2))
    ]

pub array_goes_no_way : (ks : List Collection) (bytes : List ℕ) → begins is_white bytes ≡ false → No (λ rest. bytes ≡ 93 ∷ rest) → No (λ rest. bytes ≡ 44 ∷ rest) → Ends (ks ++ collections.Array ∷ []) bytes → ⊥
array_goes_no_way ks bytes n lack none ends =
    let o = ends_outer ks collections.Array bytes ends in
    elim (items_of o.1) [
      | inl x ↦ lacks refl no_white no_white n lack x
      | inr y ↦ lacks refl no_white no_white n none y.3
    ]

pub object_ended_only : (ks : List Collection) (bytes rest : List ℕ) → begins is_white bytes ≡ false → bytes ≡ 125 ∷ rest → Ends (ks ++ collections.Object ∷ []) bytes → Ends ks rest
object_ended_only ks bytes rest n e ends =
    let o = ends_outer ks collections.Object bytes ends in
    elim (members_of o.1) [
      | inl x ↦ ended ks rest refl no_white no_white n e x o.2
      | inr y ↦ other rest refl refl no_white no_white n e y.3
    ]

-- the member that follows a comma
next_member : {s t u more name : List ℕ} → begins is_white s ≡ false → s ≡ 44 ∷ more → Ws more name → begins is_white name ≡ false → ValueSeparator s t → Member t u → Met name u
next_member {s} {t} {u} {more} {name} n e w m x y =
    let i = met refl no_white no_white n x in
    member_met (subst (λ z. Ws z t) (same_rest _ _ _ _ _ i.1 e) i.2) w m y

pub member_begun_only : (ks new : List Collection) (bytes more name value : List ℕ) → begins is_white bytes ≡ false → No (λ rest. bytes ≡ 125 ∷ rest) → bytes ≡ 44 ∷ more → Ws more name → begins is_white name ≡ false → Only (Named name) value → new ≡ ks ++ collections.Object ∷ [] → Ends (ks ++ collections.Object ∷ []) bytes → GoesAt new value
member_begun_only ks new bytes more name value n lack e w k only is ends =
    let o = ends_outer ks collections.Object bytes ends in
    elim (members_of o.1) [
      | inl x ↦ lacks refl no_white no_white n lack x
      | inr y ↦
          let m = next_member n e w k y.3 y.4 in
          (m.start, y.1, subst (λ z. Ws z m.start) (only m.value m.named) m.white, m.is, subst (λ z. Ends z y.1) (sym is) (ends_inner ks collections.Object y.1 o.0 (y.2, y.5, y.6) o.2))
    ]

pub member_not_begun : (ks : List Collection) (bytes more name : List ℕ) → begins is_white bytes ≡ false → No (λ rest. bytes ≡ 125 ∷ rest) → bytes ≡ 44 ∷ more → Ws more name → begins is_white name ≡ false → No (Named name) → Ends (ks ++ collections.Object ∷ []) bytes → ⊥
member_not_begun ks bytes more name n lack e w k unnamed ends =
    let o = ends_outer ks collections.Object bytes ends in
    elim (members_of o.1) [
      | inl x ↦ lacks refl no_white no_white n lack x
      | inr y ↦ let m = next_member n e w k y.3 y.4 in unnamed m.value m.named
    ]

pub object_goes_no_way : (ks : List Collection) (bytes : List ℕ) → begins is_white bytes ≡ false → No (λ rest. bytes ≡ 125 ∷ rest) → No (λ rest. bytes ≡ 44 ∷ rest) → Ends (ks ++ collections.Object ∷ []) bytes → ⊥
object_goes_no_way ks bytes n lack none ends =
    let o = ends_outer ks collections.Object bytes ends in
    elim (members_of o.1) [
      | inl x ↦ lacks refl no_white no_white n lack x
      | inr y ↦ lacks refl no_white no_white n none y.3
    ]

items_moved : {s t r : List ℕ} → Ws s t → begins is_white t ≡ false → Left collections.Array s r → Left collections.Array t r
items_moved {s} {t} {r} w n (v, m, e) = elim (items_inv m) [
  | inl i ↦ (t, no_item, moved refl w n (subst (λ z. EndArray z r) i e))
  | inr y ↦ (v, more_items (moved refl w n y.2) y.3 y.4, e)
]

members_moved : {s t r : List ℕ} → Ws s t → begins is_white t ≡ false → Left collections.Object s r → Left collections.Object t r
members_moved {s} {t} {r} w n (v, m, e) = elim (members_inv m) [
  | inl i ↦ (t, no_member, moved refl w n (subst (λ z. EndObject z r) i e))
  | inr y ↦ (v, more_members (moved refl w n y.2) y.3 y.4, e)
]

left_moved : (k : Collection) (s t r : List ℕ) → Ws s t → begins is_white t ≡ false → Left k s r → Left k t r
left_moved collections.Array s t r w n l = items_moved w n l
left_moved collections.Object s t r w n l = members_moved w n l

pub value_ended_only : (old new : List Collection) (last k : Collection) (bytes rest : List ℕ) → Ws bytes rest → begins is_white rest ≡ false → old ≡ new ++ last ∷ [] → last ≡ k → Ends old bytes → Ends (new ++ k ∷ []) rest
value_ended_only old new last k bytes rest w n is which e =
    let o = ends_outer new k bytes (subst (λ z. Ends (new ++ z ∷ []) bytes) which (subst (λ z. Ends z bytes) is e)) in
    ends_inner new k rest o.0 (left_moved k bytes rest o.0 w n o.1) o.2

none_open : (old new : List Collection) → length old ≡ 0 → old ≡ new ++ [] → (old ≡ []) × (new ≡ [])
none_open [] new z e = (refl, sym (append-nil new) ∙ sym e)
none_open (k ∷ ks) new z e = absurd (omega arith)

pub last_ended : (old new : List Collection) (bytes rest : List ℕ) (n : Next) → length old ≡ 0 → old ≡ new ++ [] → Ws bytes rest → begins is_white rest ≡ false → (rest ≡ [] → GoesOn [] n) → Ends old bytes → GoesOn new n
last_ended old new bytes rest n z e w m goes ends =
    let none = none_open old new z e in
    let h : Ends [] bytes = subst (λ z. Ends z bytes) none.0 ends in
    subst (λ z. GoesOn z n) (sym none.1) (goes (white_one w m (subst (λ z. Ws z []) (sym h.1) h.2) refl))

-- ---- a number ends where what is open goes on

white_stops : {s r : List ℕ} → Ws s r → Stops r → Stops s
white_stops no_white stops = stops
white_stops (white {c} h w) stops = record { digit = white_no_digit c h; dot = white_no_dot c h; e = white_no_e c h }

structural_stops : {c : ℕ} {s r : List ℕ} → is_digit c ≡ false → is_dot c ≡ false → is_e c ≡ false → Structural c s r → Stops s
structural_stops a b d x = let i = structural_inv x in white_stops i.1 (record { digit = a; dot = b; e = d })

left_stops : (k : Collection) (s r : List ℕ) → Left k s r → Stops s
left_stops collections.Array s r l = elim (items_of l) [
  | inl x ↦ structural_stops refl refl refl x
  | inr y ↦ structural_stops refl refl refl y.3
]
left_stops collections.Object s r l = elim (members_of l) [
  | inl x ↦ structural_stops refl refl refl x
  | inr y ↦ structural_stops refl refl refl y.3
]

leave_stops : (ks : List Collection) (s r : List ℕ) → Leave ks s r → Stops r → Stops s
leave_stops [] s r l stops = subst Stops (sym l) stops
leave_stops (k ∷ ks) s r (t, l, x) stops = leave_stops ks s t l (left_stops k t r x)

none_stops : Stops []
none_stops = record { digit = refl; dot = refl; e = refl }

pub ends_stop : (ks : List Collection) (s : List ℕ) → Ends ks s → Stops s
ends_stop ks s (t, l, w) = leave_stops ks s t l (white_stops w none_stops)

-- ---- the beginnings of values

pub scalar_goes : (ks : List Collection) (bytes start rest : List ℕ) → Ws bytes start → begins is_white start ≡ false → Scalar start rest → Only (ScalarTo start) rest → GoesAt ks bytes → Ends ks rest
scalar_goes ks bytes start rest w n x only g =
    let h = goes_here ks bytes start w n g in
    by h.0 h.2 (kind_of n h.1)
  where
    by : (u : List ℕ) → Ends ks u → Kind start u → Ends ks rest
    by u e (is_scalar y) = subst (λ z. Ends ks z) (only u (y, ends_stop ks u e)) e
    by u e (is_array t f y) = not_scalar 91 t refl f x
    by u e (is_object t f y) = not_scalar 123 t refl f x

pub nothing_begins : (ks : List Collection) (bytes start : List ℕ) → Ws bytes start → begins is_white start ≡ false → No (ScalarTo start) → No (λ rest. start ≡ 91 ∷ rest) → No (λ rest. start ≡ 123 ∷ rest) → GoesAt ks bytes → ⊥
nothing_begins ks bytes start w n a b d g =
    let h = goes_here ks bytes start w n g in
    by h.0 h.2 (kind_of n h.1)
  where
    by : (u : List ℕ) → Ends ks u → Kind start u → ⊥
    by u e (is_scalar y) = a u (y, ends_stop ks u e)
    by u e (is_array t f y) = b t f
    by u e (is_object t f y) = d t f

-- ---- the whole text

pub text_read_only : (ks : List Collection) (bytes text : List ℕ) → ks ≡ [] → bytes ≡ text → IsJson text → GoesAt ks bytes
text_read_only ks bytes text none is j = subst (λ z. GoesAt z bytes) (sym none) (subst (λ z. GoesAt [] z) (sym is) (goes j))
  where
    goes : {s : List ℕ} → IsJson s → GoesAt [] s
    goes (json_text w v x) = (_, _, w, v, (_, refl, x))
