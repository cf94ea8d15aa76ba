use Rattle.std.proofs.Common.{map, slice_index, sym, ◌∙◌, ap, subst}
use Rattle.yaml_store_rank.specs.Walked.{RanksTaken}
use Rattle.yaml_store_rank.proofs.WalkedLaws.{ranks-taken}
use Rattle.yaml_store_rank.proofs.ranking.Ranked.take_ranks.Goals as goal

pub returns : goal.returns
returns c =
    let self = c.args.self.now in
    let nodes = c.args.nodes.now in
    subst (RanksTaken self nodes) (sym (c.overwrite.ensures ∙ ap (λ z. map (slice_index z) nodes) c.deref.ensures.value)) (ranks-taken self nodes c.requires)
