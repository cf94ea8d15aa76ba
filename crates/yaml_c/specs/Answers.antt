-- What the calls promise.
use Rattle.std.specs.Prelude.{◌≡◌, ℕ, Bool, List, take}
use Rattle.yaml_definitions.specs.model.Tree.{Tree}
use Rattle.yaml_definitions.specs.canonical.Spell.{spell_bytes}
use Rattle.yaml_text.specs.declared.fault.Fault.{Fault}
use Rattle.yaml_text.specs.declared.side.Side.{Side}
use Rattle.yaml_text.specs.declared.side.Side.TheVariants.{Left}
use Rattle.yaml_canon.specs.Claims.{IsCanonicalText, CanonicalRefuses}
use Rattle.yaml_canon.specs.Comparing.{Compares, ComparerRefuses}
use Rattle.yaml_canon.specs.Accepting.{TellsTexts}
use Rattle.yaml_event_text.specs.EventTextAnswer.{IsEventText, IsUnread}
use Rattle.yaml_c.specs.declared.fault.YamlcanonFault.{YamlcanonFault}
use Rattle.yaml_c.specs.Told.{told}
use Rattle.yaml_c.specs.Room.{IsGiven, IsShort}

-- The room begins with such a text, and no fault is told.
pub record Gives (Is : List ℕ → Type 0) (old new : List ℕ) (len : ℕ) (before after : YamlcanonFault) : Type 0 where
  pub text : List ℕ
  pub is : Is text
  pub given : IsGiven text old new len
  pub silent : after ≡ before

-- There is such a text, for which the room is too small, and no fault is told.
pub record Lacks (Is : List ℕ → Type 0) (old new : List ℕ) (len : ℕ) (before after : YamlcanonFault) : Type 0 where
  pub text : List ℕ
  pub is : Is text
  pub short : IsShort text old new len
  pub silent : after ≡ before

-- A fault is told for which the input is refused, and neither the room nor the length is written.
pub record Refuses (Why : Fault → Type 0) (old new : List ℕ) (len_before len_after : ℕ) (after : YamlcanonFault) : Type 0 where
  pub fault : Fault
  pub why : Why fault
  pub numbers : after ≡ told Left fault
  pub room : new ≡ old
  pub long : len_after ≡ len_before

abbrev pub GivesCanonical : List ℕ → List ℕ → List ℕ → ℕ → YamlcanonFault → YamlcanonFault → Type 0
GivesCanonical bytes = Gives (IsCanonicalText bytes)

abbrev pub ShortCanonical : List ℕ → List ℕ → List ℕ → ℕ → YamlcanonFault → YamlcanonFault → Type 0
ShortCanonical bytes = Lacks (IsCanonicalText bytes)

abbrev pub RefusesCanonical : List ℕ → List ℕ → List ℕ → ℕ → ℕ → YamlcanonFault → Type 0
RefusesCanonical bytes = Refuses (CanonicalRefuses bytes)

abbrev pub GivesEvents : List ℕ → List ℕ → List ℕ → ℕ → YamlcanonFault → YamlcanonFault → Type 0
GivesEvents bytes = Gives (IsEventText bytes)

abbrev pub ShortEvents : List ℕ → List ℕ → List ℕ → ℕ → YamlcanonFault → YamlcanonFault → Type 0
ShortEvents bytes = Lacks (IsEventText bytes)

abbrev pub RefusesEvents : List ℕ → List ℕ → List ℕ → ℕ → ℕ → YamlcanonFault → Type 0
RefusesEvents bytes = Refuses (IsUnread bytes)

-- Of bytes that mean these trees the text is theirs, and all that may be refused is memory (21).
pub record OnlyMemory (f : List Tree) (new : List ℕ) (len status : ℕ) (after : YamlcanonFault) : Type 0 where
  pub text : status ≡ 0 → take len new ≡ spell_bytes f
  pub refused : status ≡ 2 → after.number ≡ 21

-- The two streams are accepted, the answer is whether they mean the same, and whether their canonical texts are the same bytes. No fault is told.
pub record Answers (left right : List ℕ) (answer : Bool) (before after : YamlcanonFault) : Type 0 where
  pub compares : Compares left right answer
  pub texts : TellsTexts left right answer
  pub silent : after ≡ before

-- One of the streams is refused, for a fault of the side that is told.
pub record RefusesSame (left right : List ℕ) (after : YamlcanonFault) : Type 0 where
  pub side : Side
  pub fault : Fault
  pub refuses : ComparerRefuses left right side fault
  pub numbers : after ≡ told side fault
