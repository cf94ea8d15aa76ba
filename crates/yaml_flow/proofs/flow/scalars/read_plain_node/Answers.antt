use Rattle.std.proofs.Common.{ℕ, ℤ, pos, ◌≡◌, refl, ap, subst}
use Rattle.std.specs.Prelude.{nat_abs}
use Rattle.std.proofs.Common.{rules, w32, ◌∙◌}
use Rattle.std.proofs.lemmas.Int.{to_z-of_z}
use mir.Val.{SFits, of_z, to_z}
use Rattle.std.specs.Str.{chars}
use Rattle.std.specs.Cow.{cow_str_bytes}
use Rattle.yaml_text.specs.Source.{text_of, place_of}
use Rattle.yaml_text.specs.EventModel.{context_of}
use Rattle.yaml_definitions.specs.grammar.FlowScalars.{ns-plain as plain}
use Rattle.yaml_text.specs.LeafAnswer.{Furthest, Unread}
use Rattle.yaml_layout.proofs.Deciding.{refusal, one_left}
use Rattle.yaml_flow.proofs.ContentDecisions.{plain_taken}
use Rattle.yaml_mark.specs.HandlesModel.{handles_of}
use Rattle.yaml_flow.proofs.FlowLemmas.{plain_is}
use Rattle.yaml_flow.proofs.flow.scalars.read_plain_node.Goals as goal

least_is : (r : ℤ) (least : ℕ) → SFits w32 r → r ≡ pos least → nat_abs (to_z w32 (of_z w32 r)) ≡ least
least_is r least fits e = ap nat_abs (to_z-of_z w32 r fits ∙ e)

pub returns-in_ok-put_scalar-in-Ok-clause-reads : goal.returns-in_ok-put_scalar-in-Ok-clause-reads
returns-in_ok-put_scalar-in-Ok-clause-reads g c =
    let cs = text_of c.args.source.now in
    let n = least_is c.indentation.result c.args.level.now.least (search rules) c.indentation.ensures in
    let text = chars (cow_str_bytes c.in-Ok.text) in (
      _,
      c.in_ok-put_scalar-in-Ok.ensures.ok,
      plain_is cs (Unit {0}) (handles_of c.args.level.now.handles) c.args.level.now.least (context_of c.args.level.now.context) _ _ text
          (subst (λ m. plain cs m (context_of c.args.level.now.context) (place_of c.args.source.now c.args.at) (place_of c.args.source.now c.in-Ok.end) text) n c.in-Ok.ensures.reads.is),
    )

pub returns-in_ok-put_scalar-in-Ok-clause-decides : goal.returns-in_ok-put_scalar-in-Ok-clause-decides
returns-in_ok-put_scalar-in-Ok-clause-decides g c =
    let cs = text_of c.args.source.now in
    let x = context_of c.args.level.now.context in
    let i = place_of c.args.source.now c.args.at in
    let j = place_of c.args.source.now c.in-Ok.end in
    let n = least_is c.indentation.result c.args.level.now.least (search rules) c.indentation.ensures in
    (refl, λ d. plain_taken cs c.args.level.now.least x i j _ (subst (λ m. Furthest (plain cs m x) i j (chars (cow_str_bytes c.in-Ok.text))) n c.in-Ok.ensures.reads) d)

pub returns-in_default-clause-decides : goal.returns-in_default-clause-decides
returns-in_default-clause-decides g c =
    let cs = text_of c.args.source.now in
    let x = context_of c.args.level.now.context in
    let i = place_of c.args.source.now c.args.at in
    let n = least_is c.indentation.result c.args.level.now.least (search rules) c.indentation.ensures in
    subst (λ m. Unread (plain cs m x) i) n (one_left (refusal c.in-Err.fault c.in-Err.ensures.reads) c.in_default.not-OutOfMemory)
