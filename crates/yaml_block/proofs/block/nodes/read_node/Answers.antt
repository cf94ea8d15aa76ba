use Rattle.yaml_text.specs.EventModel.{context_of}
use Rattle.yaml_text.specs.Source.{text_of, place_of}
use Rattle.law_going_on.specs.GoingOn.{Here}
use Rattle.yaml_layout.proofs.AnswerLemmas.{appends_after}
use Rattle.yaml_layout.proofs.Deciding.{decides_err}
use Rattle.yaml_block.specs.BlockEnds.{AfterNode}
use Rattle.yaml_block.specs.BlockCalls.{rest_rule, left_rule, rest_end, opened_at, site_rule}
use Rattle.yaml_block.proofs.Passing.{decides_rest}
use Rattle.yaml_block.proofs.Opened.{ends_from}
use Rattle.yaml_block.proofs.block.nodes.read_node.Goals as goal

pub returns-clause-ends : goal.returns-clause-ends
returns-clause-ends g c = ends_from c.args.source.now c.args.site.now.from (opened_at c.in_ok-opened.opened) c.read_opened.result c.in_ok-opened.ensures.ends.onward c.read_opened.ensures.ends

pub returns-clause-reads : goal.returns-clause-reads
returns-clause-reads g c =
    let s = c.args.source.now in
    let level = c.args.site.now.level.now in
    let found = c.in_ok-opened.opened in
    let n = c.in_ok-opened.ensures.reads in
    appends_after (λ _. rest_rule found s level) (λ _. site_rule c.args.site.now c.args.outer s level) (place_of s (opened_at found)) (place_of s c.args.site.now.from) (λ line. place_of s line.start) c.args.out.now c.open_node.new.out _ c.read_opened.result n.0 n.1
    (λ x vs v. n.2 _ vs v) c.read_opened.ensures.reads

pub returns-in_err-opened-clause-decides : goal.returns-in_err-opened-clause-decides
returns-in_err-opened-clause-decides g c =
    let s = c.args.source.now in
    let level = c.args.site.now.level.now in
    decides_err (site_rule c.args.site.now c.args.outer s level) (AfterNode (text_of s) level.least (context_of level.context)) (place_of s c.args.site.now.from) Here (λ line. place_of s line.start) c.from_residual.result _ c.from_residual.ensures.1 c.in_err-opened.ensures.decides

pub returns-clause-decides : goal.returns-clause-decides
returns-clause-decides g c =
    let s = c.args.source.now in
    let level = c.args.site.now.level.now in
    let found = c.in_ok-opened.opened in
    decides_rest (site_rule c.args.site.now c.args.outer s level) (AfterNode (text_of s) level.least (context_of level.context)) (place_of s c.args.site.now.from) (left_rule found s level) (rest_end found (text_of s)) (place_of s (opened_at found))
    Here (λ line. place_of s line.start) c.read_opened.result c.in_ok-opened.ensures.decides c.read_opened.ensures.decides
