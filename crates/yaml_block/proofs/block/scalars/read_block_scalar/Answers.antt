use Rattle.yaml_text.specs.Source.{text_of, place_of}
use Rattle.yaml_definitions.specs.grammar.Events.{no_props}
use Rattle.law_going_on.specs.GoingOn.{Here}
use Rattle.yaml_sink.specs.PropertyRules.{props_of, dressed}
use Rattle.yaml_layout.proofs.AnswerLemmas.{puts_altered}
use Rattle.yaml_layout.proofs.PropertyDecisions.{or_else}
use Rattle.yaml_layout.proofs.Deciding.{decides_err}
use Rattle.yaml_block.specs.BlockRules.{block_scalar_rest}
use Rattle.yaml_block.specs.BlockEnds.{AfterScalar}
use Rattle.yaml_block.proofs.OuterLemmas.{scalar_dressed}
use Rattle.yaml_block.proofs.ScalarDecisions.{props_goes, props_refused}
use Rattle.yaml_block.proofs.block.scalars.read_block_scalar.Goals as goal

pub returns-clause-reads : goal.returns-clause-reads
returns-clause-reads g c =
    let n = c.in_ok-line.ensures.reads in
    let p = props_of c.args.properties in
    (dressed p n.0, puts_altered c.args.out.now c.read_bare_scalar.new.out c.dress.new.self c.mark-start.result (dressed p) n.0 c.mark-start.ensures n.1 c.dress.ensures, scalar_dressed (text_of c.args.source.now) p c.args.col _ _ n.0 n.2)

pub returns-in_err-line-clause-decides : goal.returns-in_err-line-clause-decides
returns-in_err-line-clause-decides g c =
    let s = c.args.source.now in
    let cs = text_of s in
    let i = place_of s c.args.sign.at in
    let p = props_of c.args.properties in
    decides_err (block_scalar_rest cs p c.args.col) (AfterScalar cs) i Here (λ line. place_of s line.start) c.from_residual.result _ c.from_residual.ensures.1
    (or_else (props_refused cs p no_props c.args.col i (AfterScalar cs)) c.in_err-line.ensures.decides)

pub returns-clause-decides : goal.returns-clause-decides
returns-clause-decides g c =
    let s = c.args.source.now in
    let cs = text_of s in
    props_goes cs (props_of c.args.properties) no_props c.args.col (place_of s c.args.sign.at) (AfterScalar cs) Here (place_of s c.in_ok-line.line.start) c.in_ok-line.ensures.decides
