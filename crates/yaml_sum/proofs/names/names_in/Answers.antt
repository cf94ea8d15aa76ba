use Rattle.std.proofs.Common.{◌∙◌, option_map, None, Some, sym, ap, subst}
use Rattle.yaml_sum.specs.Names.{IsCut, pieces, all_named}
use Rattle.yaml_sum.proofs.NameLaws.{names_more, names_last}
use Rattle.yaml_sum.proofs.names.names_in.Goals as goal

pub pieces-preserved : goal.pieces-preserved
pieces-preserved c =
    let cut : IsCut c.end_in-end.result c.pieces.rest.now c.cut.result.0.now (Some c.in-Some.more.now) =
    subst (IsCut c.end_in-end.result c.pieces.rest.now c.cut.result.0.now) (ap (option_map (λ s. s.now)) c.in-Some.is) c.cut.ensures in
    names_more c.end_in-end.result c.pieces.rest.now c.cut.result.0.now c.in-Some.more.now _ _ _ cut.0 cut.1 c.pieces.invariant c.in_ok-add.ensures.ok

pub returns-in-None : goal.returns-in-None
returns-in-None c = record {
  ok = (
      let cut : IsCut c.end_in-end.result c.pieces.rest.now c.cut.result.0.now None =
      subst (IsCut c.end_in-end.result c.pieces.rest.now c.cut.result.0.now) (ap (option_map (λ s. s.now)) c.in-None.is) c.cut.ensures in
      sym (names_last c.end_in-end.result c.pieces.rest.now c.cut.result.0.now _ _ _ cut.0 cut.1 c.pieces.invariant c.in_ok-add.ensures.ok)
      ∙ ap (λ e. all_named (pieces e c.args.list.now)) c.end_in-end.ensures);
}
