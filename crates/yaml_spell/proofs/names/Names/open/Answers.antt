use Rattle.std.proofs.Common.{◌∙◌, ap, sym, add-one}
use Rattle.yaml_spell.specs.NamesView.{put, table_of, rank_begun_by, given_of}
use Rattle.yaml_spell.specs.declared.names.State.TheVariants.{Named}
use Rattle.yaml_spell.proofs.NamesLaws.{table_set}
use Rattle.yaml_spell.proofs.names.Names.open.Goals as goal

pub returns-in-Repeated-clause-given : goal.returns-in-Repeated-clause-given
returns-in-Repeated-clause-given c =
    let n = c.args.self.now in
    let more = add-one n.count in
    let named = table_set n.states.items n.document c.args.rank c.mark.result c.requires ∙ ap (λ s. put c.args.rank s (table_of n)) (c.mark.ensures ∙ ap Named more) in
    (λ z. (named z, more z)) ∙ ap (λ s. rank_begun_by c.args.rank s (given_of n)) (sym c.in-Repeated.is ∙ c.state.ensures.is)
