use Rattle.std.proofs.Common.{[], ◌∷◌, sym, subst}
use Rattle.std.specs.Str.{chars}
use Rattle.std.specs.Cow.{cow_str_bytes}
use Rattle.yaml_text.specs.Source.{text_of, place_of}
use Rattle.yaml_text.specs.EventModel.{context_of}
use Rattle.yaml_definitions.specs.grammar.Events.{no_props, scalar}
use Rattle.law_going_on.specs.GoingOn.{Here}
use Rattle.yaml_layout.specs.NodeRules.{content_from}
use Rattle.yaml_flow.specs.FlowRules.{quoted}
use Rattle.yaml_layout.proofs.Deciding.{decides_err, refusal, unread_refused, only_goes}
use Rattle.yaml_layout.proofs.PropertyDecisions.{or_else}
use Rattle.yaml_mark.specs.HandlesModel.{handles_of}
use Rattle.yaml_layout.specs.declared.flow.Kind.TheVariants.{Json}
use Rattle.yaml_flow.proofs.FlowLemmas.{quoted_is}
use Rattle.yaml_flow.proofs.flow.scalars.read_quoted_node.Goals as goal

pub returns-clause-reads : goal.returns-clause-reads
returns-clause-reads g c =
    let cs = text_of c.args.source.now in
    let h = handles_of c.args.level.now.handles in
    let n = c.args.level.now.least in
    let x = context_of c.args.level.now.context in
    let i = place_of c.args.source.now c.args.at in
    let j = place_of c.args.source.now c.in_ok-text.end in
    let text = chars (cow_str_bytes c.in_ok-text.text) in (
      _,
      c.in_ok-push_scalar.ensures.ok,
      subst (λ s. content_from cs (Unit {0}) h 0 Json n x i j (scalar no_props s text ∷ [])) (sym c.style_of-style.ensures) (quoted_is cs (Unit {0}) h c.args.quote n x i j text c.in_ok-text.ensures.reads.is),
    )

pub returns-clause-decides : goal.returns-clause-decides
returns-clause-decides g c = only_goes _ _ _ _ c.in_ok-text.ensures.reads

pub returns-in_err-text-clause-decides : goal.returns-in_err-text-clause-decides
returns-in_err-text-clause-decides g c =
    let cs = text_of c.args.source.now in
    let i = place_of c.args.source.now c.args.at in
    decides_err (quoted c.args.quote cs c.args.level.now.least (context_of c.args.level.now.context)) Here i Here (λ node. place_of c.args.source.now node.end) c.from_residual.result _ c.from_residual.ensures.1
    (or_else (unread_refused _ Here i) (refusal _ c.in_err-text.ensures.reads))
