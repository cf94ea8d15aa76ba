-- A name that is written with escapes, byte by byte.
use Rattle.std.proofs.Common.{◌≡◌, ◌==◌, ◌++◌, ℕ, ◌+◌, ◌<◌, Bool, true, false, cond, List, [], ◌∷◌, Option, None, Some, length, map, take, drop, get_or, refl, sym, ◌∙◌, ap, append_assoc, append-nil, arith}
use Rattle.std.specs.Prelude.{◌&&◌, nat_lt, slice_index, option_map, unwrap_or}
use Rattle.std.proofs.lemmas.Bool.{ltb-true}
use Rattle.std.proofs.lemmas.List.{length-take-le}
use Rattle.std.proofs.lemmas.List.{drop_more}
use Rattle.hex.specs.Hex.{decode_sized}
use Rattle.yaml_sum.specs.Listed.{listed, escaped, with_front, name_as, name_of, name_part, name_read, has_digits, told_digest, both, plain, form_in, has_one_space, lines_of, listing_of}
use Rattle.yaml_sum.specs.Names.{IsCut}
use Rattle.yaml_sum.specs.Parts.{is_white, line_text}
use Rattle.yaml_sum.specs.Reads.{said, name_behind}
use Rattle.yaml_sum.specs.declared.listed.Listed.{Listed}
use Rattle.yaml_sum.proofs.NameLaws.{pieces_cut, pieces_last}

put_assoc : (plain : List ℕ) (b : ℕ) (r : Option (List ℕ)) → option_map (λ z. plain ++ z) (with_front (Some b) r) ≡ option_map (λ z. (plain ++ (b ∷ [])) ++ z) r
put_assoc plain b None = refl
put_assoc plain b (Some z) = ap Some (sym (append_assoc plain (b ∷ []) z))

-- a byte that is no backslash stands for itself
plain_front : (plain : List ℕ) (b : ℕ) (bs : List ℕ) → (b == 92) ≡ false → name_behind plain (b ∷ bs) ≡ name_behind (plain ++ (b ∷ [])) bs
plain_front plain b [] e =
    ap (λ t. option_map (λ z. plain ++ z) (cond t None (Some (b ∷ [])))) e ∙ ap Some (sym (append-nil (plain ++ (b ∷ []))))
plain_front plain b (c ∷ bs) e =
    ap (λ t. option_map (λ z. plain ++ z) (cond t (with_front (escaped c) (name_of bs)) (with_front (Some b) (name_of (c ∷ bs))))) e ∙ put_assoc plain b (name_of (c ∷ bs))

-- and a backslash and a byte for another
escape_front : (plain : List ℕ) (c b : ℕ) (bs : List ℕ) → escaped c ≡ Some b → name_behind plain (92 ∷ c ∷ bs) ≡ name_behind (plain ++ (b ∷ [])) bs
escape_front plain c b bs e = ap (λ t. option_map (λ z. plain ++ z) (with_front t (name_of bs))) e ∙ put_assoc plain b (name_of bs)

pub plain_step : (name plain next : List ℕ) (at : ℕ) (d : ℕ) → at < length name → (get_or name at d == 92) ≡ false → next ≡ plain ++ (get_or name at d ∷ []) → name_of name ≡ name_behind plain (drop at name) → name_of name ≡ name_behind next (drop (at + 1) name)
plain_step name plain next at d within e f h =
    h ∙ ap (name_behind plain) (drop_more name at d within) ∙ plain_front plain (get_or name at d) (drop (at + 1) name) e ∙ ap (λ z. name_behind z (drop (at + 1) name)) (sym f)

two_more : (name : List ℕ) (at d : ℕ) → at < length name → at + 1 < length name → get_or name at d ≡ 92 → drop at name ≡ 92 ∷ get_or name (at + 1) d ∷ drop (at + 1 + 1) name
two_more name at d within more e =
    drop_more name at d within ∙ ap (λ z. z ∷ drop (at + 1) name) e ∙ ap (λ z. 92 ∷ z) (drop_more name (at + 1) d more)

pub escape_step : (name plain next : List ℕ) (at d b : ℕ) → at < length name → at + 1 < length name → get_or name at d ≡ 92 → escaped (get_or name (at + 1) d) ≡ Some b → next ≡ plain ++ (b ∷ []) → name_of name ≡ name_behind plain (drop at name)
    → name_of name ≡ name_behind next (drop (at + 2) name)
escape_step name plain next at d b within more e f g h =
    let two : at + 1 + 1 ≡ at + 2 = omega arith in
    h
    ∙ ap (name_behind plain) (two_more name at d within more e)
    ∙ escape_front plain (get_or name (at + 1) d) b (drop (at + 1 + 1) name) f
    ∙ ap (λ z. name_behind z (drop (at + 1 + 1) name)) (sym g)
    ∙ ap (λ n. name_behind next (drop n name)) two

-- a backslash that begins no escape
pub escape_bad : (name plain : List ℕ) (at d : ℕ) → at < length name → at + 1 < length name → get_or name at d ≡ 92 → escaped (get_or name (at + 1) d) ≡ None → name_of name ≡ name_behind plain (drop at name) → name_of name ≡ None
escape_bad name plain at d within more e f h =
    h
    ∙ ap (name_behind plain) (two_more name at d within more e)
    ∙ ap (λ t. option_map (λ z. plain ++ z) (with_front t (name_of (drop (at + 1 + 1) name)))) f

-- or is the last byte
pub escape_last : (name plain : List ℕ) (at d : ℕ) → at < length name → drop (at + 1) name ≡ [] → get_or name at d ≡ 92 → name_of name ≡ name_behind plain (drop at name) → name_of name ≡ None
escape_last name plain at d within e f h =
    h ∙ ap (name_behind plain) (drop_more name at d within ∙ ap (λ z. get_or name at d ∷ z) e ∙ ap (λ z. z ∷ []) f)

pub name_end : (name plain rest : List ℕ) → rest ≡ [] → name_of name ≡ name_behind plain rest → name_of name ≡ Some plain
name_end name plain rest e h = h ∙ ap (name_behind plain) e ∙ ap Some (append-nil plain)

same_map : (r : Option (List ℕ)) → r ≡ option_map (λ z. [] ++ z) r
same_map None = refl
same_map (Some z) = refl

-- nothing of a name was read
pub name_start : (name plain : List ℕ) → plain ≡ [] → name_of name ≡ name_behind plain name
name_start name plain e = same_map (name_of name) ∙ ap (λ z. name_behind z name) (sym e)

first_of : (a b : Bool) → (a && b) ≡ true → a ≡ true
first_of true b e = refl
first_of false b e = e

-- a line with room for a digest has its digits and a byte behind them
pub is_long : (line : List ℕ) → has_digits line ≡ true → 65 < length line
is_long line e = ltb-true 65 (length line) (first_of (nat_lt 65 (length line)) (is_white (slice_index line 64)) e)

pub digits_long : (line : List ℕ) → has_digits line ≡ true → 64 ≡ length (take 64 line)
digits_long line e = let l = is_long line e in sym (length-take-le 64 line (omega (arith, l)))

-- a line of a digest says what its name says
pub plain_is : (line digest : List ℕ) (one_space is_escaped : Bool) (part : Option (List ℕ)) → has_digits line ≡ true → told_digest (decode_sized (take 64 line) 32) ≡ Some digest → part ≡ name_part one_space line
    → both (Some digest) (name_read is_escaped part) ≡ plain one_space is_escaped line
plain_is line digest one_space is_escaped part e f g =
    sym (ap (λ z. cond z (both (told_digest (decode_sized (take 64 line) 32)) (name_read is_escaped (name_part one_space line))) None) e ∙ ap (λ z. both z (name_read is_escaped (name_part one_space line))) f
    ∙ ap (λ z. both (Some digest) (name_read is_escaped z)) (sym g))

-- a line whose name is written properly names a file
pub listing_said : (m : Bool) (line : List ℕ) (r : Option Listed) (l : Listed) (plain : List ℕ) → said r ≡ listing_of m line → r ≡ Some l → name_as l.is_escaped l.name.now ≡ Some plain → listing_of m line ≡ Some (listed l.digest plain)
listing_said m line r l plain e f g = sym e ∙ ap said f ∙ ap (both (Some l.digest)) g

-- ---- the form of a list

-- a line that does not tell it comes off the rest
pub form_more : (list rest piece more : List ℕ) → IsCut 10 rest piece (Some more) → form_in (line_text piece) ≡ None → has_one_space (lines_of list) ≡ has_one_space (lines_of rest) → has_one_space (lines_of list) ≡ has_one_space (lines_of more)
form_more list rest piece more (one, e) f h =
    h ∙ ap (λ z. has_one_space (lines_of z)) e ∙ ap (λ z. has_one_space (map line_text z)) (pieces_cut 10 piece more one) ∙ ap (λ z. unwrap_or z (has_one_space (lines_of more))) f

-- the first one that tells it
pub form_first : (list rest piece : List ℕ) (m : Option (List ℕ)) (form : Bool) → IsCut 10 rest piece m → form_in (line_text piece) ≡ Some form → has_one_space (lines_of list) ≡ has_one_space (lines_of rest) → form ≡ has_one_space (lines_of list)
form_first list rest piece (Some more) form (one, e) f h =
    sym (h ∙ ap (λ z. has_one_space (lines_of z)) e ∙ ap (λ z. has_one_space (map line_text z)) (pieces_cut 10 piece more one) ∙ ap (λ z. unwrap_or z (has_one_space (lines_of more))) f)
form_first list rest piece None form (one, e) f h =
    sym (h ∙ ap (λ z. has_one_space (lines_of z)) e ∙ ap (λ z. has_one_space (map line_text z)) (pieces_last 10 piece one) ∙ ap (λ z. unwrap_or z false) f)

-- and none
pub form_none : (list rest piece : List ℕ) → IsCut 10 rest piece None → form_in (line_text piece) ≡ None → has_one_space (lines_of list) ≡ has_one_space (lines_of rest) → false ≡ has_one_space (lines_of list)
form_none list rest piece (one, e) f h =
    sym (h ∙ ap (λ z. has_one_space (lines_of z)) e ∙ ap (λ z. has_one_space (map line_text z)) (pieces_last 10 piece one) ∙ ap (λ z. unwrap_or z false) f)
