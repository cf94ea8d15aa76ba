use Rattle.std.proofs.Common.{◌∙◌, ap}
use Rattle.yaml_spell.specs.NamesView.{put, table_of}
use Rattle.yaml_spell.specs.Known.{met_state}
use Rattle.yaml_spell.proofs.NamesLaws.{table_set}
use Rattle.yaml_spell.proofs.names.Names.meet.Goals as goal

pub returns-in-Unseen-clause-table : goal.returns-in-Unseen-clause-table
returns-in-Unseen-clause-table c =
    let n = c.args.self.now in
    table_set n.states.items n.document c.args.rank c.mark.result c.requires ∙ ap (λ s. put c.args.rank s (table_of n)) (c.mark.ensures ∙ (c.met.ensures.is ∙ ap met_state c.state-state.ensures.is))
