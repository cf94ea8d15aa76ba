use Rattle.std.proofs.Common.{rules}
use Rattle.yaml_spell.proofs.PieceLaws.{if_err}
use Rattle.yaml_canon.proofs.RootRanks.{has-ranks}
use Rattle.yaml_canon.proofs.RefusedLaws.{no-forest, not-ranked}
use Rattle.yaml_canon.proofs.TargetLaws.{if_is}
use Rattle.yaml_canon.proofs.ranks.ranked_forest.Goals as goal

pub ranked_roots-requires : goal.ranked_roots-requires
ranked_roots-requires c = let h = c.in_ok-forest.ensures.forest.forest in (h.trees_are, record { good = h.good; level = h.level; roots = h.roots })

pub returns-clause-ranks : goal.returns-clause-ranks
returns-clause-ranks c =
    let h = c.in_ok-forest.ensures.forest in
    if_is c.ranked_roots.result (c.ranked_roots.ensures.ok h.forest.trees_are (record { good = h.forest.good; level = h.forest.level; roots = h.forest.roots })) (λ ranked r. has-ranks c.args.bytes.now c.in_ok-forest.forest h c.in_ok-forest.ensures.means ranked r)

pub returns-clause-why : goal.returns-clause-why
returns-clause-why c =
    let h = c.in_ok-forest.ensures.forest in
    if_err c.ranked_roots.result (c.ranked_roots.ensures.err h.documents h.forest) (λ fault r. not-ranked c.args.bytes.now h.documents fault (record { reads = h.read }) r)

pub returns-in_err-forest-clause-why : goal.returns-in_err-forest-clause-why
returns-in_err-forest-clause-why c =
    let w = no-forest c.args.bytes.now c.in_err-forest.field-0.0 c.in_err-forest.ensures.why in
    search (rules, w)
