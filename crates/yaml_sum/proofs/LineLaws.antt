-- A name as it is written, byte by byte.
use Rattle.std.proofs.Common.{◌≡◌, ◌++◌, ℕ, ◌+◌, ◌<◌, Bool, List, [], ◌∷◌, length, take, get_or, ◌∙◌, ap, append-nil}
use Rattle.std.proofs.lemmas.List.{take_more}
use Rattle.std.proofs.lemmas.Grind.{flat_map-append}
use Rattle.yaml_sum.specs.Lines.{byte_text, name_text, told_byte, told_name}

pub name_more : (name : List ℕ) (i d : ℕ) → i < length name → name_text (take (i + 1) name) ≡ name_text (take i name) ++ byte_text (get_or name i d)
name_more name i d h = ap name_text (take_more name i d h) ∙ flat_map-append byte_text (take i name) (get_or name i d ∷ []) ∙ ap (λ z. name_text (take i name) ++ z) (append-nil (byte_text (get_or name i d)))

pub told_more : (is_text : Bool) (name : List ℕ) (i d : ℕ) → i < length name → told_name is_text (take (i + 1) name) ≡ told_name is_text (take i name) ++ told_byte is_text (get_or name i d)
told_more is_text name i d h =
    ap (told_name is_text) (take_more name i d h) ∙ flat_map-append (told_byte is_text) (take i name) (get_or name i d ∷ []) ∙ ap (λ z. told_name is_text (take i name) ++ z) (append-nil (told_byte is_text (get_or name i d)))
