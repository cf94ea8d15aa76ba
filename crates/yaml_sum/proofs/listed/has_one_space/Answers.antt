use Rattle.std.proofs.Common.{None, Some, option_map, ◌∙◌, sym, ap, subst}
use Rattle.yaml_sum.specs.Listed.{form_in}
use Rattle.yaml_sum.specs.Names.{IsCut}
use Rattle.yaml_sum.proofs.ListedLaws.{form_first, form_more, form_none}
use Rattle.yaml_sum.proofs.listed.has_one_space.Goals as goal

pub returns-in-Some : goal.returns-in-Some
returns-in-Some c =
    form_first c.args.list.now c.lines.rest.now c.cut.result.0.now (option_map (λ s. s.now) c.cut.result.1) c.in-Some.one_space c.cut.ensures (ap form_in (sym c.line_text.ensures) ∙ sym c.form_in.ensures ∙ c.in-Some.is) c.lines.invariant

pub lines-preserved : goal.lines-preserved
lines-preserved c =
    let cut : IsCut 10 c.lines.rest.now c.cut.result.0.now (Some c.in-Some-behind.more.now) = subst (IsCut 10 c.lines.rest.now c.cut.result.0.now) (ap (option_map (λ s. s.now)) c.in-Some-behind.is) c.cut.ensures in
    form_more c.args.list.now c.lines.rest.now c.cut.result.0.now c.in-Some-behind.more.now cut (ap form_in (sym c.line_text.ensures) ∙ sym c.form_in.ensures ∙ c.in_default.is) c.lines.invariant

pub returns-in-None : goal.returns-in-None
returns-in-None c =
    let cut : IsCut 10 c.lines.rest.now c.cut.result.0.now None = subst (IsCut 10 c.lines.rest.now c.cut.result.0.now) (ap (option_map (λ s. s.now)) c.in-None.is) c.cut.ensures in
    form_none c.args.list.now c.lines.rest.now c.cut.result.0.now cut (ap form_in (sym c.line_text.ensures) ∙ sym c.form_in.ensures ∙ c.in_default.is) c.lines.invariant
