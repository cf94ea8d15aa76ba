use Rattle.std.proofs.Common.{inr, ◌≡◌, ◌⊎◌, Some, None}
use Rattle.yaml_text.specs.Source.{text_of, place_of}
use Rattle.yaml_definitions.specs.grammar.Separation.{flow_out, block_key}
use Rattle.yaml_text.proofs.Tests.{on_true_at, on_false_at}
use Rattle.yaml_mark.specs.HandlesModel.{handles_of}
use Rattle.law_going_on.specs.GoingOn.{Here}
use Rattle.yaml_sink.specs.PropertyRules.{props_of, dressed}
use Rattle.yaml_layout.proofs.AnswerLemmas.{puts_altered}
use Rattle.yaml_layout.proofs.NodeLemmas.{bare_flow}
use Rattle.yaml_layout.proofs.PropertyLemmas.{own_marks}
use Rattle.yaml_layout.proofs.PropertyDecisions.{or_else, line_own, line_all}
use Rattle.yaml_layout.proofs.Deciding.{decides_err}
use Rattle.yaml_block.specs.BlockRules.{key_rest}
use Rattle.yaml_block.specs.BlockEnds.{AfterColon, IsNoKey}
use Rattle.yaml_block.specs.BlockCalls.{IsFirstColon}
use Rattle.yaml_block.proofs.BlockLemmas.{value_key}
use Rattle.yaml_block.proofs.KeyDecisions.{key_ends, key_none, key_no_node, key_barred, key_over}
use Rattle.yaml_block.proofs.Found.{found_is, none_is, is_some}
use Rattle.yaml_block.proofs.Places.{places_up}
use Rattle.yaml_block.proofs.block.keys.read_other_key.Goals as goal

pub read_bare-requires : goal.read_bare-requires
read_bare-requires g c =
    let cs = text_of c.args.source.now in
    let h = handles_of c.args.level.now.handles in
    let stand = c.in_ok-own.ensures.stand in record {
      border = c.requires.border;
      end = stand.border;
      order = stand.onward;
      own = line_own cs h c.args.column flow_out _ _ _ stand.own;
      all = line_all cs h c.args.column flow_out _ _ _ (on_true_at c.line_goes_on.result c.if-not-line_goes_on.false c.line_goes_on.ensures.yes) stand.all;
      low = c.requires.low;
    }

pub returns-in-Some-clause-reads : goal.returns-in-Some-clause-reads
returns-in-Some-clause-reads g c =
    let cs = text_of c.args.source.now in
    let h = handles_of c.args.level.now.handles in
    let k = c.in_ok-key.ensures.reads in
    let q = props_of c.in_ok-own.own in (
      dressed q k.0,
      puts_altered c.args.out.now c.read_bare.new.out c.dress.new.self c.mark-begin.result (dressed q) k.0 c.mark-begin.ensures k.1 c.dress.ensures,
      value_key cs (Unit {0}) h c.args.level.now.room c.args.column c.in_ok-key.key.deep c.in_ok-key.key.kind _ _ _ (dressed q k.0) (bare_flow cs (Unit {0}) h c.in_ok-key.key.deep c.in_ok-key.key.kind c.args.column flow_out q _ _ _ k.0 k.2) c.in_ok-key.ensures.ends.within
          ((found_is (λ x. IsFirstColon c.args.source.now c.args.at c.in_ok-key.key.end (Some c.args.column) x.0 x.1) c.in_ok-first_colon.field-0 _ c.in-Some.is c.in_ok-first_colon.ensures.found).colon),
    )

pub returns-in_err-own-clause-decides : goal.returns-in_err-own-clause-decides
returns-in_err-own-clause-decides g c =
    let s = c.args.source.now in
    let cs = text_of s in
    let h = handles_of c.args.level.now.handles in
    decides_err (key_rest cs (Unit {0}) h c.args.level.now.room) (AfterColon cs) (place_of s c.args.at) Here (place_of s) c.from_residual.result _ c.from_residual.ensures.1
    (or_else (key_barred cs h c.args.level.now.room _) c.in_err-own.ensures.barred)

pub returns-then-not-line_goes_on-clause-decides : goal.returns-then-not-line_goes_on-clause-decides
returns-then-not-line_goes_on-clause-decides g c =
    let s = c.args.source.now in
    let cs = text_of s in
    let h = handles_of c.args.level.now.handles in
    let no = on_false_at c.line_goes_on.result c.if-not-line_goes_on.true c.line_goes_on.ensures.no in
    inr (key_over cs h c.args.level.now.room _ _ _ _ (places_up s _ _ c.requires.border c.in_ok-own.ensures.stand.border c.in_ok-own.ensures.stand.onward) (own_marks cs h 0 block_key _ _ (props_of c.in_ok-own.own) c.in_ok-own.ensures.stand.own no.0) no.1.1)

pub returns-in_err-key-clause-decides : goal.returns-in_err-key-clause-decides
returns-in_err-key-clause-decides g c =
    let s = c.args.source.now in
    let cs = text_of s in
    let h = handles_of c.args.level.now.handles in
    decides_err (key_rest cs (Unit {0}) h c.args.level.now.room) (AfterColon cs) (place_of s c.args.at) Here (place_of s) c.from_residual-in_err-key.result _ c.from_residual-in_err-key.ensures.1
    (or_else (key_no_node cs h c.args.level.now.room c.args.column _) (c.in_err-key.ensures.decides (λ _. on_true_at c.line_goes_on.result c.if-not-line_goes_on.false c.line_goes_on.ensures.yes)))

pub returns-in_err-first_colon-clause-decides : goal.returns-in_err-first_colon-clause-decides
returns-in_err-first_colon-clause-decides g c =
    let s = c.args.source.now in
    let cs = text_of s in
    let h = handles_of c.args.level.now.handles in
    decides_err (key_rest cs (Unit {0}) h c.args.level.now.room) (AfterColon cs) (place_of s c.args.at) Here (place_of s) c.from_residual-in_err-first_colon.result _ c.from_residual-in_err-first_colon.ensures.1
    (inr (key_none cs h c.args.level.now.room c.args.column _ _ c.in_ok-key.key.kind (c.in_ok-key.ensures.decides (λ _. on_true_at c.line_goes_on.result c.if-not-line_goes_on.false c.line_goes_on.ensures.yes)) c.in_err-first_colon.ensures.long.1))

pub returns-in-None-clause-decides : goal.returns-in-None-clause-decides
returns-in-None-clause-decides g c =
    let cs = text_of c.args.source.now in
    let h = handles_of c.args.level.now.handles in
    inr (key_none cs h c.args.level.now.room c.args.column _ _ c.in_ok-key.key.kind (c.in_ok-key.ensures.decides (λ _. on_true_at c.line_goes_on.result c.if-not-line_goes_on.false c.line_goes_on.ensures.yes))
    (is_some c.args.column (none_is ((Some c.args.column ≡ None) ⊎ IsNoKey cs (place_of c.args.source.now c.args.at) (place_of c.args.source.now c.in_ok-key.key.end)) c.in_ok-first_colon.field-0 c.in-None.is c.in_ok-first_colon.ensures.none)))

pub returns-in-Some-clause-decides : goal.returns-in-Some-clause-decides
returns-in-Some-clause-decides g c =
    let cs = text_of c.args.source.now in
    let h = handles_of c.args.level.now.handles in
    key_ends cs h c.args.level.now.room c.args.column _ _ _ c.in_ok-key.key.kind (c.in_ok-key.ensures.decides (λ _. on_true_at c.line_goes_on.result c.if-not-line_goes_on.false c.line_goes_on.ensures.yes)) ((found_is (λ x. IsFirstColon c.args.source.now c.args.at c.in_ok-key.key.end (Some c.args.column) x.0 x.1) c.in_ok-first_colon.field-0 _ c.in-Some.is c.in_ok-first_colon.ensures.found).colon)
