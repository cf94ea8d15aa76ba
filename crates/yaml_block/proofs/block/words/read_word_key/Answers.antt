use Rattle.std.proofs.Common.{inl, inr, ◌≡◌, ◌⊎◌, Some, None, arith}
use Rattle.yaml_text.specs.Source.{text_of, place_of}
use Rattle.yaml_definitions.specs.grammar.Separation.{flow_out}
use Rattle.yaml_mark.specs.HandlesModel.{handles_of}
use Rattle.law_going_on.specs.GoingOn.{Here}
use Rattle.yaml_layout.specs.NodeRules.{content_from}
use Rattle.yaml_layout.specs.NodeLevels.{EndsAlone}
use Rattle.yaml_layout.proofs.AnswerLemmas.{perhaps_some}
use Rattle.yaml_layout.proofs.NodeLemmas.{content_flow}
use Rattle.yaml_layout.proofs.Deciding.{decides_err}
use Rattle.yaml_layout.proofs.WordDecisions.{word_only, word_refused}
use Rattle.yaml_block.specs.BlockRules.{key_rest}
use Rattle.yaml_block.specs.BlockEnds.{AfterColon, IsNoKey}
use Rattle.yaml_block.specs.BlockCalls.{IsFirstColon}
use Rattle.yaml_block.proofs.BlockLemmas.{value_key}
use Rattle.yaml_block.proofs.KeyDecisions.{key_ends, key_none, key_no_node}
use Rattle.yaml_block.proofs.Found.{found_is, none_is, is_some}
use Rattle.yaml_block.proofs.block.words.read_word_key.Goals as goal

pub returns-in-Some-2-clause-reads : goal.returns-in-Some-2-clause-reads
returns-in-Some-2-clause-reads g c =
    let s = c.args.source.now in
    let cs = text_of s in
    let h = handles_of c.args.level.now.handles in
    let key = c.in-Some.key in
    let r = perhaps_some (λ node. content_from cs (Unit {0}) h node.deep node.kind c.args.column flow_out) _ (λ node. place_of s node.end) _ _ _ _ c.in-Some.is c.in_ok-found.ensures.reads in
    let deep = (found_is (EndsAlone s c.args.at) _ key c.in-Some.is c.in_ok-found.ensures.ends).within in
    let colon = (found_is (λ x. IsFirstColon s c.args.at key.end (Some c.args.column) x.0 x.1) c.in_ok-first_colon-in-Some.field-0 _ c.in-Some-2.is c.in_ok-first_colon-in-Some.ensures.found).colon in
    (r.0, r.1, value_key cs (Unit {0}) h c.args.level.now.room c.args.column key.deep key.kind _ _ _ r.0 (content_flow cs (Unit {0}) h key.deep key.kind c.args.column flow_out _ _ r.0 r.2) (omega (arith, deep)) colon)

pub returns-in-Some-2-clause-decides : goal.returns-in-Some-2-clause-decides
returns-in-Some-2-clause-decides g c =
    let s = c.args.source.now in
    let cs = text_of s in
    let h = handles_of c.args.level.now.handles in
    let key = c.in-Some.key in
    let only = word_only cs _ c.requires.word h c.args.level.now.room c.args.column flow_out (λ node. place_of s node.end) c.in_ok-found.found c.in_ok-found.ensures.decides key c.in-Some.is in
    key_ends cs h c.args.level.now.room c.args.column _ _ _ key.kind only ((found_is (λ x. IsFirstColon s c.args.at key.end (Some c.args.column) x.0 x.1) c.in_ok-first_colon-in-Some.field-0 _ c.in-Some-2.is c.in_ok-first_colon-in-Some.ensures.found).colon)

pub returns-in-None-2-clause-decides : goal.returns-in-None-2-clause-decides
returns-in-None-2-clause-decides g c =
    let s = c.args.source.now in
    let cs = text_of s in
    let h = handles_of c.args.level.now.handles in
    let key = c.in-Some.key in
    let only = word_only cs _ c.requires.word h c.args.level.now.room c.args.column flow_out (λ node. place_of s node.end) c.in_ok-found.found c.in_ok-found.ensures.decides key c.in-Some.is in
    inr (key_none cs h c.args.level.now.room c.args.column _ _ key.kind only
    (is_some c.args.column (none_is ((Some c.args.column ≡ None) ⊎ IsNoKey cs (place_of s c.args.at) (place_of s key.end)) c.in_ok-first_colon-in-Some.field-0 c.in-None-2.is c.in_ok-first_colon-in-Some.ensures.none)))

pub returns-in_err-first_colon-in-Some-clause-decides : goal.returns-in_err-first_colon-in-Some-clause-decides
returns-in_err-first_colon-in-Some-clause-decides g c =
    let s = c.args.source.now in
    let cs = text_of s in
    let h = handles_of c.args.level.now.handles in
    let key = c.in-Some.key in
    let only = word_only cs _ c.requires.word h c.args.level.now.room c.args.column flow_out (λ node. place_of s node.end) c.in_ok-found.found c.in_ok-found.ensures.decides key c.in-Some.is in
    decides_err (key_rest cs (Unit {0}) h c.args.level.now.room) (AfterColon cs) (place_of s c.args.at) Here (place_of s) c.from_residual-in_err-first_colon-in-Some.result _ c.from_residual-in_err-first_colon-in-Some.ensures.1
    (inr (key_none cs h c.args.level.now.room c.args.column _ _ key.kind only c.in_err-first_colon-in-Some.ensures.long.1))

pub returns-in-None-clause-decides : goal.returns-in-None-clause-decides
returns-in-None-clause-decides g c =
    let s = c.args.source.now in
    let cs = text_of s in
    let h = handles_of c.args.level.now.handles in
    inr (key_no_node cs h c.args.level.now.room c.args.column _ (word_refused cs _ c.requires.word h c.args.level.now.room c.args.column flow_out (λ node. place_of s node.end) c.in_ok-found.found c.in_ok-found.ensures.decides c.in-None.is))

pub returns-in_err-found-clause-decides : goal.returns-in_err-found-clause-decides
returns-in_err-found-clause-decides g c =
    let s = c.args.source.now in
    let cs = text_of s in
    decides_err (key_rest cs (Unit {0}) (handles_of c.args.level.now.handles) c.args.level.now.room) (AfterColon cs) (place_of s c.args.at) Here (place_of s) c.from_residual.result _ c.from_residual.ensures.1 (inl c.in_err-found.ensures.decides)
