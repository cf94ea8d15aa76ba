use Rattle.std.proofs.Common.{inl, inr, None, arith}
use Rattle.yaml_text.specs.EventModel.{context_of}
use Rattle.yaml_text.specs.Source.{text_of, place_of}
use Rattle.yaml_definitions.specs.grammar.Separation.{flow_out}
use Rattle.yaml_mark.specs.HandlesModel.{handles_of}
use Rattle.law_going_on.specs.GoingOn.{Here}
use Rattle.yaml_layout.specs.NodeRules.{content_from}
use Rattle.yaml_layout.specs.NodeLevels.{EndsAlone}
use Rattle.yaml_layout.proofs.AnswerLemmas.{perhaps_some}
use Rattle.yaml_layout.proofs.Deciding.{decides_err}
use Rattle.yaml_layout.proofs.WordDecisions.{word_only, word_refused}
use Rattle.yaml_block.specs.BlockRules.{node_rest}
use Rattle.yaml_block.specs.BlockEnds.{AfterNode}
use Rattle.yaml_block.proofs.Found.{found_is}
use Rattle.yaml_block.proofs.LineDecisions.{comments_after}
use Rattle.yaml_block.proofs.WordRests.{word_line, word_goes, word_not_over, word_none}
use Rattle.yaml_block.proofs.block.words.read_word.Goals as goal

pub returns-in_ok-line-in-Some-clause-reads : goal.returns-in_ok-line-in-Some-clause-reads
returns-in_ok-line-in-Some-clause-reads g c =
    let s = c.args.source.now in
    let cs = text_of s in
    let h = handles_of c.args.level.now.handles in
    let node = c.in-Some.node in
    let r = perhaps_some (λ node. content_from cs (Unit {0}) h node.deep node.kind c.args.level.now.least flow_out) _ (λ node. place_of s node.end) _ _ _ _ c.in-Some.is c.in_ok-found.ensures.reads in
    let deep = (found_is (EndsAlone s c.args.at) _ node c.in-Some.is c.in_ok-found.ensures.ends).within in
    (r.0, r.1, word_line cs h c.args.level.now.room c.args.level.now.least (context_of c.args.level.now.context) c.requires.block _ c.requires.word node.deep node.kind _ _ r.0 r.2 (omega (arith, deep)) c.in_ok-line-in-Some.ensures.comments)

pub returns-in_ok-line-in-Some-clause-ends : goal.returns-in_ok-line-in-Some-clause-ends
returns-in_ok-line-in-Some-clause-ends g c =
    let s = c.args.source.now in
    let n = c.in_ok-line-in-Some.ensures in
    let node = found_is (EndsAlone s c.args.at) _ c.in-Some.node c.in-Some.is c.in_ok-found.ensures.ends in
    record { line = n.line; onward = omega (arith, node.onward, n.onward); after = comments_after (text_of s) _ _ n.comments }

pub returns-in_ok-line-in-Some-clause-decides : goal.returns-in_ok-line-in-Some-clause-decides
returns-in_ok-line-in-Some-clause-decides g c =
    let s = c.args.source.now in
    let cs = text_of s in
    let h = handles_of c.args.level.now.handles in
    let n = c.in_ok-line-in-Some.ensures in
    let only = word_only cs _ c.requires.word h c.args.level.now.room c.args.level.now.least flow_out (λ node. place_of s node.end) c.in_ok-found.found c.in_ok-found.ensures.decides c.in-Some.node c.in-Some.is in
    word_goes cs h c.args.level.now.room c.args.level.now.least (context_of c.args.level.now.context) c.requires.block _ c.requires.word _ c.in-Some.node.kind only _ n.comments n.line.stuck

pub returns-in_err-line-in-Some-clause-decides : goal.returns-in_err-line-in-Some-clause-decides
returns-in_err-line-in-Some-clause-decides g c =
    let s = c.args.source.now in
    let cs = text_of s in
    let h = handles_of c.args.level.now.handles in
    let x = context_of c.args.level.now.context in
    let only = word_only cs _ c.requires.word h c.args.level.now.room c.args.level.now.least flow_out (λ node. place_of s node.end) c.in_ok-found.found c.in_ok-found.ensures.decides c.in-Some.node c.in-Some.is in
    decides_err (node_rest cs (Unit {0}) h c.args.level.now.room c.args.level.now.least x None) (AfterNode cs c.args.level.now.least x) (place_of s c.args.at) Here (λ line. place_of s line.start) c.from_residual-in_err-line-in-Some.result _ c.from_residual-in_err-line-in-Some.ensures.1
    (inr (word_not_over cs h c.args.level.now.room c.args.level.now.least x c.requires.block _ c.requires.word _ c.in-Some.node.kind only c.in_err-line-in-Some.ensures.none))

pub returns-in-None-clause-decides : goal.returns-in-None-clause-decides
returns-in-None-clause-decides g c =
    let s = c.args.source.now in
    let cs = text_of s in
    let h = handles_of c.args.level.now.handles in
    inr (word_none cs h c.args.level.now.room c.args.level.now.least (context_of c.args.level.now.context) c.requires.block _ c.requires.word (word_refused cs _ c.requires.word h c.args.level.now.room c.args.level.now.least flow_out (λ node. place_of s node.end) c.in_ok-found.found c.in_ok-found.ensures.decides c.in-None.is))

pub returns-in_err-found-clause-decides : goal.returns-in_err-found-clause-decides
returns-in_err-found-clause-decides g c =
    let s = c.args.source.now in
    let cs = text_of s in
    let x = context_of c.args.level.now.context in
    decides_err (node_rest cs (Unit {0}) (handles_of c.args.level.now.handles) c.args.level.now.room c.args.level.now.least x None) (AfterNode cs c.args.level.now.least x) (place_of s c.args.at) Here (λ line. place_of s line.start) c.from_residual.result _ c.from_residual.ensures.1 (inl c.in_err-found.ensures.decides)
