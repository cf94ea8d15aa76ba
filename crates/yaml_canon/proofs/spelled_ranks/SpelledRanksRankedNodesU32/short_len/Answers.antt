use Rattle.std.proofs.Common.{◌∙◌, arith, rules}
use Rattle.std.proofs.lemmas.Grind.{get_or_default_zero}
use Rattle.yaml_canon.proofs.spelled_ranks.SpelledRanksRankedNodesU32.short_len.Goals as goal

pub index-requires : goal.index-requires
index-requires c =
    let l = c.requires.stands.shorts.long in
    search rules

pub returns : goal.returns
returns c =
    let are = c.requires.stands.shorts in
    record { is = c.index.ensures ∙ get_or_default_zero c.args.self.now.shorts.items c.args.id _ (omega (arith, c.requires.within, are.long)) ∙ are.each c.args.id c.requires.within }
