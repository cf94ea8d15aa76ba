-- What is known of the nodes at each room, in the form in which the lemmas on one level ask for it, by the definitions of the reader.
use Rattle.std.proofs.Common.{ℕ, zero, suc, List}
use Rattle.yaml_definitions.specs.grammar.Tags.{Handles}
use Rattle.yaml_definitions.specs.grammar.Nodes.{Part, part}
use Rattle.yaml_definitions.proofs.grammar.Forward.{Forward, fwd_reads}
use Rattle.yaml_definitions.proofs.grammar.Widening.{Within}
use Rattle.law_one_reading.proofs.FlowEntries.{Facts}
use Rattle.law_one_reading.proofs.FlowLevels.{no_facts, reads_facts}
use Rattle.law_one_reading.proofs.KeyContexts.{Eased, no_eased, reads_eased}
use Rattle.law_one_reading.proofs.BlockLevels.{Blocks, no_blocks, one_more, reads_blocks}
use Rattle.yaml_layout.specs.NodeRules.{opens, below}

module _ (cs : List ℕ) (Wide : Type 0) (handles : Handles) where
  pub facts_at : (room : ℕ) → Facts cs (below cs Wide handles room)
  facts_at zero = no_facts cs Wide handles
  facts_at (suc room) = reads_facts cs Wide handles room

  pub eased_at : (room : ℕ) → Eased cs Wide handles (below cs Wide handles room)
  eased_at zero = no_eased cs Wide handles
  eased_at (suc room) = reads_eased cs Wide handles room

  pub wider_at : (room : ℕ) (p : Part) → Within (below cs Wide handles room p) (part cs Wide handles (opens cs Wide handles room) (below cs Wide handles room) p)
  wider_at zero p i j v r = absurd r
  wider_at (suc room) p i j v r = one_more cs Wide handles room p i j v r

  pub forward_at : (room : ℕ) (p : Part) → Forward (below cs Wide handles room p)
  forward_at zero p i j v r = absurd r
  forward_at (suc room) p i j v r = fwd_reads cs Wide handles room p i j v r

  pub blocks_at : (room : ℕ) → Blocks cs Wide handles (below cs Wide handles room)
  blocks_at zero = no_blocks cs Wide handles
  blocks_at (suc room) = reads_blocks cs Wide handles room
