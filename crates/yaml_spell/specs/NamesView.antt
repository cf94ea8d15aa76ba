-- What is known of each rank, as a table, and how nodes change it.
use Rattle.std.specs.Prelude.{◌≡◌, ℕ, suc, cond, ◌==◌, length}
use Rattle.std.specs.List.{slice_index_or}
use Rattle.yaml_spell.specs.declared.names.Known.{Known}
use Rattle.yaml_spell.specs.declared.names.State.{State}
use Rattle.yaml_spell.specs.declared.names.State.TheVariants.{Unseen, Repeated, Named}
use Rattle.yaml_spell.specs.declared.names.Opening.{Opening}
use Rattle.yaml_spell.specs.declared.names.Opening.TheVariants.{Plain, Anchored, Alias}
use Rattle.yaml_spell.specs.declared.names.Names.{Names}
use Rattle.yaml_spell.specs.Known.{state_of, met_state}

abbrev pub ranks_in : Names → ℕ
ranks_in n = length n.states.items

abbrev pub count_of : Names → ℕ
count_of n = n.count

-- how each rank is known
abbrev pub RankStates : Type 0
RankStates = ℕ → State

abbrev pub unknown : Known
unknown = record { document = 0; mark = 0 }

abbrev pub stamped_state : ℕ → Known → State
stamped_state document k = cond (k.document == document) (state_of k.mark) Unseen

abbrev pub table_of : Names → RankStates
table_of n rank = stamped_state n.document (slice_index_or n.states.items rank unknown)

abbrev pub put : ℕ → State → RankStates → RankStates
put rank s table q = cond (q == rank) s (table q)

-- one more node of this rank is met
abbrev pub met_at : ℕ → RankStates → RankStates
met_at rank table = put rank (met_state (table rank)) table

-- how a node begins, where so many names were given
abbrev pub opening : ℕ → State → Opening
opening count (Named number) = Alias number
opening count Repeated = Anchored (suc count)
opening count _ = Plain

-- the table and the number of names
abbrev pub Given : Type 0
Given = RankStates × ℕ

abbrev pub rank_begun_by : ℕ → State → Given → Given
rank_begun_by rank Repeated given = (put rank (Named (suc given.1)) given.0, suc given.1)
rank_begun_by rank _ given = given

-- after a node of this rank has begun
abbrev pub rank_begun : ℕ → Given → Given
rank_begun rank given = rank_begun_by rank (given.0 rank) given

abbrev pub given_of : Names → Given
given_of n = (table_of n, count_of n)

-- the number of its name, or 1
abbrev pub opening_number : Opening → ℕ
opening_number (Alias number) = number
opening_number (Anchored number) = number
opening_number Plain = 1

-- There are as many ranks, and no name is given.
pub record NamesNone (old new : Names) : Type 0 where
  pub long : ranks_in new ≡ ranks_in old
  pub count : count_of new ≡ count_of old
