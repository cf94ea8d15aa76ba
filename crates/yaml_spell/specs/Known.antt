-- How ranks are known in a document.
use Rattle.std.specs.Prelude.{ℕ, zero, suc, Bool, true, false, ◌&&◌, ◌==◌}
use Rattle.yaml_spell.specs.declared.names.Known.{Known}
use Rattle.yaml_spell.specs.declared.names.State.{State}
use Rattle.yaml_spell.specs.declared.names.State.TheVariants.{Unseen, Seen, Repeated, Named}

-- the state of a mark: the first three, and behind them names by their numbers
abbrev pub state_of : ℕ → State
state_of zero = Unseen
state_of (suc zero) = Seen
state_of (suc (suc zero)) = Repeated
state_of (suc (suc (suc n))) = Named (suc n)

-- once one more node is met
abbrev pub met_state : State → State
met_state Unseen = Seen
met_state Seen = Repeated
met_state s = s

abbrev pub is_unseen : State → Bool
is_unseen Unseen = true
is_unseen _ = false

abbrev pub has_name : State → Bool
has_name (Named number) = true
has_name _ = false

-- it has a name in this document
abbrev pub is_named : ℕ → Known → Bool
is_named document k = (k.document == document) && has_name (state_of k.mark)

-- the number of its name, or 1
abbrev pub state_number : State → ℕ
state_number (Named number) = number
state_number _ = 1
