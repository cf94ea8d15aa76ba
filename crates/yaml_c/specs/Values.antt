-- The values of a stream, in the rooms that a caller gives for them.
use Rattle.std.specs.Prelude.{◌≡◌, ◌<◌, ◌≤◌, ◌⊎◌, ◌++◌, ℕ, List, length, map, take, drop}
use Rattle.std.specs.String.{string_bytes}
use Rattle.yaml_definitions.specs.model.Tree.{Tree}
use Rattle.yaml_definitions.specs.model.Order.{arranged}
use Rattle.yaml_text.specs.declared.fault.Fault.{Fault}
use Rattle.yaml_text.specs.declared.side.Side.TheVariants.{Left}
use Rattle.yaml_canon.specs.Claims.{CanonicalRefuses}
use Rattle.yaml_values.specs.declared.value.Value.{Value}
use Rattle.yaml_values.specs.declared.making.Values.{Values}
use Rattle.yaml_values.specs.Denotes.{Denotes}
use Rattle.yaml_values.specs.ValuesOf.{AreValuesOf}
use Rattle.yaml_c.specs.declared.values.Lengths.{Lengths}
use Rattle.yaml_c.specs.declared.fault.YamlcanonFault.{YamlcanonFault}
use Rattle.yaml_c.specs.Told.{told}

abbrev pub lengths_of : Values → Lengths
lengths_of v = record { values = length v.values.items; parts = length v.parts.items; texts = length (string_bytes v.texts); documents = v.documents }

-- a room is long enough for these
abbrev pub Fit : {X : Type 0} → List X → List X → Type 0
Fit xs room = length xs ≤ length room

-- these stand at the front of a room, and the rest of it is as it was
abbrev pub IsAtFront : {X : Type 0} → List X → List X → List X → Type 0
IsAtFront xs old new = new ≡ xs ++ drop (length xs) old

module _ (made : Values) (values_old values_new : List Value) (parts_old parts_new texts_old texts_new : List ℕ) where
  -- Each room begins with what the values have there.
  pub record AreAtFront : Type 0 where
    pub values : IsAtFront made.values.items values_old values_new
    pub parts : IsAtFront made.parts.items parts_old parts_new
    pub texts : IsAtFront (string_bytes made.texts) texts_old texts_new

  -- A room is too small for the values, and the rooms are as they were.
  pub record LackRoom : Type 0 where
    pub lacks : (length values_old < length made.values.items) ⊎ ((length parts_old < length made.parts.items) ⊎ (length texts_old < length (string_bytes made.texts)))
    pub values : values_new ≡ values_old
    pub parts : parts_new ≡ parts_old
    pub texts : texts_new ≡ texts_old

module _ (bytes : List ℕ) (values_old values_new : List Value) (parts_old parts_new texts_old texts_new : List ℕ) where
  -- The values of the bytes stand at the front of the rooms, their lengths are told, and no fault is told.
  pub record GivesValues (n : Lengths) (before after : YamlcanonFault) : Type 0 where
    pub made : Values
    pub are : AreValuesOf bytes made
    pub lengths : n ≡ lengths_of made
    pub placed : AreAtFront made values_old values_new parts_old parts_new texts_old texts_new
    pub silent : after ≡ before

  -- A room is too small for the values of the bytes, whose lengths are told, and no fault is told.
  pub record ShortValues (n : Lengths) (before after : YamlcanonFault) : Type 0 where
    pub made : Values
    pub are : AreValuesOf bytes made
    pub lengths : n ≡ lengths_of made
    pub short : LackRoom made values_old values_new parts_old parts_new texts_old texts_new
    pub silent : after ≡ before

  -- A fault is told for which the input is refused, and nothing else is written.
  pub record RefusesValues (n_before n_after : Lengths) (after : YamlcanonFault) : Type 0 where
    pub fault : Fault
    pub why : CanonicalRefuses bytes fault
    pub numbers : after ≡ told Left fault
    pub values : values_new ≡ values_old
    pub parts : parts_new ≡ parts_old
    pub texts : texts_new ≡ texts_old
    pub lengths : n_after ≡ n_before

-- Of bytes that mean these trees the values stand for them, and all that may be refused is memory (21).
pub record OnlyMemoryOfValues (f : List Tree) (values : List Value) (parts texts : List ℕ) (n : Lengths) (status : ℕ) (after : YamlcanonFault) : Type 0 where
  pub denotes : status ≡ 0 → Denotes (take n.values values) (take n.parts parts) (take n.texts texts) n.documents (map arranged f)
  pub refused : status ≡ 2 → after.number ≡ 21
