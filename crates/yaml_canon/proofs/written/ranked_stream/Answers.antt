use Rattle.std.proofs.Common.{rules}
use Rattle.yaml_spell.proofs.PieceLaws.{if_err}
use Rattle.yaml_canon.proofs.RefusedLaws.{no-forest, not-ranked}
use Rattle.yaml_canon.proofs.StreamLaws.{shows-stream}
use Rattle.yaml_canon.proofs.TargetLaws.{if_is}
use Rattle.yaml_canon.proofs.written.ranked_stream.Goals as goal

pub written_forest-requires : goal.written_forest-requires
written_forest-requires c = let h = c.in_ok-forest.ensures.forest.forest in (h.trees_are, record { good = h.good; level = h.level; roots = h.roots })

pub returns-clause-shows : goal.returns-clause-shows
returns-clause-shows c = if_is c.written_forest.result c.written_forest.ensures.ok (λ f is. shows-stream c.args.bytes.now c.in_ok-forest.forest f c.in_ok-forest.ensures.means is)

pub returns-clause-why : goal.returns-clause-why
returns-clause-why c =
    let h = c.in_ok-forest.ensures.forest in
    if_err c.written_forest.result (c.written_forest.ensures.err h.documents h.forest) (λ fault r. not-ranked c.args.bytes.now h.documents fault (record { reads = h.read }) r)

pub returns-in_err-forest-clause-why : goal.returns-in_err-forest-clause-why
returns-in_err-forest-clause-why c =
    let w = no-forest c.args.bytes.now c.in_err-forest.field-0.0 c.in_err-forest.ensures.why in
    search (rules, w)
