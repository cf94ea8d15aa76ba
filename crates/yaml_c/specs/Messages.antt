-- The message of a fault, in the room that a caller gives for it.
use Rattle.std.specs.Prelude.{◌≡◌, ◌≢◌, ◌+◌, ◌++◌, ◌∷◌, [], ℕ, List, Some, None, take}
use Rattle.yaml_text.specs.declared.fault.Fault.{Fault}
use Rattle.yaml_message.specs.Words.{fault_message}
use Rattle.yaml_c.specs.declared.fault.YamlcanonFault.{YamlcanonFault}
use Rattle.yaml_c.specs.Numbers.{fault_in}
use Rattle.yaml_c.specs.Room.{IsGiven, IsShort}

-- a text that a null byte ends
abbrev pub ended : List ℕ → List ℕ
ended text = text ++ (0 ∷ [])

-- The room begins with the message of the fault of these numbers, which a null byte ends.
pub record GivesMessage (numbers : YamlcanonFault) (old new : List ℕ) (len : ℕ) : Type 0 where
  pub fault : Fault
  pub is : fault_in numbers ≡ Some fault
  pub given : IsGiven (ended (fault_message fault)) old new (len + 1)

-- The room is too small for it.
pub record ShortMessage (numbers : YamlcanonFault) (old new : List ℕ) (len : ℕ) : Type 0 where
  pub fault : Fault
  pub is : fault_in numbers ≡ Some fault
  pub short : IsShort (ended (fault_message fault)) old new (len + 1)

-- No fault has these numbers, and nothing is written.
pub record NoMessage (numbers : YamlcanonFault) (old new : List ℕ) (len_before len_after : ℕ) : Type 0 where
  pub none : fault_in numbers ≡ None
  pub room : new ≡ old
  pub long : len_after ≡ len_before

-- The message is that of this fault.
pub record Says (fault : Fault) (status : ℕ) (new : List ℕ) (len : ℕ) : Type 0 where
  pub answered : status ≢ 2
  pub text : status ≡ 0 → take len new ≡ fault_message fault
