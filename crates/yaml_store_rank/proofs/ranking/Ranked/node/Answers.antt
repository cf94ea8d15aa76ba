use Rattle.yaml_store_rank.proofs.WalkedLaws.{tree-shown, parts-shown}
use Rattle.yaml_store_rank.proofs.ranking.Ranked.node.Goals as goal

pub shown-requires-clause-listed : goal.shown-requires-clause-listed
shown-requires-clause-listed c = let w = c.requires.stands in (w.0, w.1, w.2.listed)

pub returns-clause-tree : goal.returns-clause-tree
returns-clause-tree c =
    let w = c.requires.stands in
    tree-shown w.0 w.1 c.args.self.now w.2.listed (λ r. r) c.args.rank _ _ c.requires.within c.shown.ensures.tag c.shown.ensures.inside

pub returns-clause-within : goal.returns-clause-within
returns-clause-within c =
    let w = c.requires.stands in
    parts-shown w.0 w.1 c.args.self.now w.2.listed (λ r. r) c.args.rank _ _ c.requires.within c.shown.ensures.tag c.shown.ensures.inside
