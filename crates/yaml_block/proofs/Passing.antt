-- What a call decides, passed on to the call that made it.
use Rattle.std.proofs.Common.{ℕ, zero, suc, List, Result, Ok, Err, Option, Some, None, inl, inr}
use Rattle.yaml_definitions.specs.model.Event.{Event}
use Rattle.yaml_definitions.specs.grammar.Rules.{Rule}
use Rattle.yaml_definitions.specs.grammar.Separation.{Ctx}
use Rattle.yaml_definitions.specs.grammar.Tags.{Handles}
use Rattle.yaml_definitions.specs.grammar.Events.{Props}
use Rattle.yaml_definitions.specs.grammar.Nodes.{reads}
use Rattle.yaml_text.specs.declared.fault.Fault.{Fault}
use Rattle.yaml_definitions.proofs.grammar.Forward.{fwd_reads}
use Rattle.law_one_reading.specs.Readings.{End}
use Rattle.law_one_reading.proofs.Lines.{less_stuck}
use Rattle.law_one_reading.proofs.FlowLevels.{reads_facts}
use Rattle.law_one_reading.proofs.KeyContexts.{reads_eased}
use Rattle.law_one_reading.proofs.BlockLevels.{one_more, reads_blocks}
use Rattle.law_going_on.specs.GoingOn.{Refused, Goes, Rest, Here}
use Rattle.law_going_on.proofs.GoingOn.{rest_goes, rest_refused, goes_until, refused_until}
use Rattle.law_going_on.proofs.BlockLoops.{mapping_no_key}
use Rattle.law_going_on.proofs.KeyChoices.{value_starts, key_starts}
use Rattle.yaml_layout.specs.NodeAnswer.{Decides}
use Rattle.yaml_layout.specs.Lines.{IsBlock}
use Rattle.yaml_block.specs.BlockRules.{block_scalar_rest}
use Rattle.yaml_block.specs.BlockEnds.{AfterNode, AfterScalar, SignIs, IsStyleSign}
use Rattle.yaml_block.specs.KeyFits.{NoneBelow}
use Rattle.yaml_block.specs.declared.block.signs.Block.{Block}
use Rattle.yaml_block.specs.declared.block.signs.Block.TheVariants.{Literal, Folded}
use Rattle.yaml_block.proofs.KeyDecisions.{key_no_node}
use Rattle.yaml_block.proofs.NodeDecisions.{Keyed}
use Rattle.yaml_block.proofs.ScalarDecisions.{props_goes, props_refused}

pub decides_rest : {V W X : Type 0} (R : Rule V) (E : End) (i : ℕ) (S : Rule W) (G : End) (k : ℕ) (F : End) (end : X → ℕ) (r : Result X Fault) → Rest R E i S G k → Decides S G k F end r → Decides R E i F end r
decides_rest R E i S G k F end (Ok x) t g = rest_goes t g
decides_rest R E i S G k F end (Err e) t (inl m) = inl m
decides_rest R E i S G k F end (Err e) t (inr n) = inr (rest_refused t n)

module _ (cs : List ℕ) where
  pub sign_of : (i : ℕ) (b : Block) → SignIs cs i b → IsStyleSign cs i
  sign_of i Literal h = inl h
  sign_of i Folded h = inr h

  -- a block scalar, whatever its properties
  module _ (col : ℕ) (c : Ctx) (R : Rule (List Event)) (i n : ℕ) (p q : Props) (rest : Rest R (AfterNode cs col c) i (block_scalar_rest cs p col) (AfterNode cs col c) n) where
    after : (j m : ℕ) → AfterNode cs col c j m → AfterScalar cs j m
    after j m (a, f) = (a, less_stuck cs col m f.0)

    pub scalar_done : (x : ℕ) → Goes (block_scalar_rest cs q col) (AfterScalar cs) n Here x → Goes R (AfterNode cs col c) i Here x
    scalar_done x g = rest_goes rest (goes_until (AfterNode cs col c) after (props_goes cs p q col n (AfterScalar cs) Here x g))

    pub scalar_none : Refused (block_scalar_rest cs q col) (AfterScalar cs) n → Refused R (AfterNode cs col c) i
    scalar_none f = rest_refused rest (refused_until (AfterNode cs col c) after (props_refused cs p q col n (AfterScalar cs) f))

-- no key fits
pub keyed_none_below : (cs : List ℕ) (handles : Handles) (room col : ℕ) (c : Ctx) (b : IsBlock c) (p : Props) (column : Option ℕ) (x : ℕ) (E : End) → NoneBelow cs handles room col x → Refused (Keyed cs handles room col c b p column) E x
keyed_none_below cs handles room col c b p None x E n = record { none = λ j m v r e. r }
keyed_none_below cs handles zero col c b p (Some k) x E n = record { none = λ j m v (o, t) e. o }
keyed_none_below cs handles (suc r) col c b p (Some k) x E n =
    mapping_no_key cs (Unit {0}) handles (Unit {0}) (reads cs (Unit {0}) handles r) k (value_starts cs (Unit {0}) handles (Unit {0}) (reads cs (Unit {0}) handles r) (reads_facts cs (Unit {0}) handles r) (reads_eased cs (Unit {0}) handles r) (one_more cs (Unit {0}) handles r) (fwd_reads cs (Unit {0}) handles r) (reads_blocks cs (Unit {0}) handles r) k) (key_starts cs (Unit {0}) handles (Unit {0}) (reads cs (Unit {0}) handles r) (reads_facts cs (Unit {0}) handles r) (reads_eased cs (Unit {0}) handles r) (one_more cs (Unit {0}) handles r) (fwd_reads cs (Unit {0}) handles r) (reads_blocks cs (Unit {0}) handles r) k) p E x (key_no_node cs handles r col x n)
