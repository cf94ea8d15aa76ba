-- From the nodes of documents to the productions (YAML 1.2.2, 9.1).
use Rattle.std.proofs.Common.{ℕ, List, ◌⊎◌, inl, inr, arith}
use Rattle.yaml_definitions.specs.model.Event.{Event}
use Rattle.yaml_definitions.specs.grammar.Rules.{◌◂◌, gives}
use Rattle.yaml_definitions.specs.grammar.Separation.{block_in, StartsLine, s-l-comments as s_l_comments}
use Rattle.yaml_definitions.specs.grammar.Events.{no_props, e-scalar as empty}
use Rattle.yaml_definitions.specs.grammar.Tags.{Handles}
use Rattle.yaml_definitions.specs.grammar.Nodes.{block_part, reads}
use Rattle.yaml_definitions.specs.grammar.Streams.{l-bare-document as bare_document}
use Rattle.yaml_layout.proofs.LineLemmas.{no_lines}
use Rattle.yaml_layout.proofs.SpaceLemmas.{lines_separate}
use Rattle.yaml_block.specs.BlockRules.{root_rest, value_rest}
use Rattle.yaml_block.proofs.BlockLemmas.{node_value, mapping_value, sequence_value}
use Rattle.yaml_block.proofs.MarkLaws.{unmarked}

module _ (cs : List ℕ) (handles : Handles) where
  root_node : (room k p j : ℕ) (es : List Event) → StartsLine cs p → root_rest cs (Unit {0}) handles room k p j es → reads cs (Unit {0}) handles room (block_part 0 block_in) p j es
  root_node room k p j es s (q, ind, inl t) = sequence_value cs (Unit {0}) handles room 0 k block_in p p q j es tt (no_lines cs p s) (omega arith) ind t
  root_node room k p j es s (q, ind, inr (inl t)) = node_value cs (Unit {0}) handles room 0 block_in p q j es tt (lines_separate cs 0 k p p q (omega arith) (no_lines cs p s) ind) (inl t)
  root_node room k p j es s (q, ind, inr (inr (inl t))) = node_value cs (Unit {0}) handles room 0 block_in p q j es tt (lines_separate cs 0 k p p q (omega arith) (no_lines cs p s) ind) (inr (inl t))
  root_node room k p j es s (q, ind, inr (inr (inr (inl t)))) = node_value cs (Unit {0}) handles room 0 block_in p q j es tt (lines_separate cs 0 k p p q (omega arith) (no_lines cs p s) ind) (inr (inr (inl t)))
  root_node room k p j es s (q, ind, inr (inr (inr (inr t)))) = mapping_value cs (Unit {0}) handles room 0 k block_in p p q j es (no_lines cs p s) (omega arith) ind t

  pub bare : (room i j : ℕ) (es : List Event) → reads cs (Unit {0}) handles room (block_part 0 block_in) i j es → bare_document cs (Unit {0}) room handles i j es
  unfolding bare_document
  bare room i j es r = ((unmarked cs (Unit {0}) handles room (block_part 0 block_in) i j es r).1, r)

  pub root_document : (room k p j : ℕ) (es : List Event) → StartsLine cs p → root_rest cs (Unit {0}) handles room k p j es → bare_document cs (Unit {0}) room handles p j es
  root_document room k p j es s r = bare room p j es (root_node room k p j es s r)

  pub marked_document : (room i j : ℕ) (es : List Event) → value_rest cs (Unit {0}) handles room 0 block_in i j es →
      bare_document cs (Unit {0}) room handles i j es ⊎ (gives (empty no_props) ◂ s_l_comments cs) i j es
  marked_document room i j es (inl r) = inl (bare room i j es r)
  marked_document room i j es (inr r) = inr r
