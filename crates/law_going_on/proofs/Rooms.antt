-- What is known of the nodes at each room, in the form in which the lemmas on one level ask for it.
use Rattle.std.proofs.Common.{ℕ, zero, suc, List}
use Rattle.yaml_definitions.specs.grammar.Rules.{Rule, never}
use Rattle.yaml_definitions.specs.grammar.Tags.{Handles}
use Rattle.yaml_definitions.specs.model.Event.{Event}
use Rattle.yaml_definitions.specs.grammar.Nodes.{Part, part, reads}
use Rattle.yaml_definitions.proofs.grammar.Forward.{Forward, fwd_reads}
use Rattle.yaml_definitions.proofs.grammar.Widening.{Within}
use Rattle.law_one_reading.proofs.FlowEntries.{Facts}
use Rattle.law_one_reading.proofs.FlowLevels.{no_facts, reads_facts}
use Rattle.law_one_reading.proofs.KeyContexts.{Eased, no_eased, reads_eased}
use Rattle.law_one_reading.proofs.BlockLevels.{Blocks, no_blocks, one_more, reads_blocks}

module _ (cs : List ℕ) (Wide : Type 0) (handles : Handles) where
  -- whether one more collection may be opened, and what may then stand in it
  abbrev pub Opens : ℕ → Type 0
  Opens zero = ⊥
  Opens (suc room) = Unit {0}

  abbrev pub below : ℕ → Part → Rule (List Event)
  below zero = λ q. never
  below (suc room) = reads cs Wide handles room

  pub facts_below : (room : ℕ) → Facts cs (below room)
  facts_below zero = no_facts cs Wide handles
  facts_below (suc room) = reads_facts cs Wide handles room

  pub eased_below : (room : ℕ) → Eased cs Wide handles (below room)
  eased_below zero = no_eased cs Wide handles
  eased_below (suc room) = reads_eased cs Wide handles room

  pub wider_below : (room : ℕ) (p : Part) → Within (below room p) (part cs Wide handles (Opens room) (below room) p)
  wider_below zero p i j v r = absurd r
  wider_below (suc room) p i j v r = one_more cs Wide handles room p i j v r

  pub forward_below : (room : ℕ) (p : Part) → Forward (below room p)
  forward_below zero p i j v r = absurd r
  forward_below (suc room) p i j v r = fwd_reads cs Wide handles room p i j v r

  pub blocks_below : (room : ℕ) → Blocks cs Wide handles (below room)
  blocks_below zero = no_blocks cs Wide handles
  blocks_below (suc room) = reads_blocks cs Wide handles room

  -- a part in so much room is one of its level
  pub of_level : (room : ℕ) (p : Part) (i j : ℕ) (v : List Event) → part cs Wide handles (Opens room) (below room) p i j v → reads cs Wide handles room p i j v
  unfolding reads
  of_level zero p i j v r = r
  of_level (suc room) p i j v r = r

  pub to_level : (room : ℕ) (p : Part) (i j : ℕ) (v : List Event) → reads cs Wide handles room p i j v → part cs Wide handles (Opens room) (below room) p i j v
  unfolding reads
  to_level zero p i j v r = r
  to_level (suc room) p i j v r = r
