use Rattle.std.proofs.Common.{[], ◌∷◌, None, IfOk, ap, sym, subst}
use Rattle.std.specs.Str.{IsUtf8}
use Rattle.std.specs.Cow.{cow_str_bytes}
use Rattle.std.proofs.lemmas.Str.{encodes-chars}
use Rattle.yaml_definitions.specs.model.Event.{scalar_event, untagged}
use Rattle.yaml_text.specs.EventModel.{style_of}
use Rattle.yaml_sink.specs.Held.{Puts}
use Rattle.yaml_sink.specs.SinkModel.{holds_of}
use Rattle.yaml_sink.proofs.push.put_scalar.Goals as goal

pub returns-clause-ok : goal.returns-clause-ok
returns-clause-ok g c =
    let is = ap (scalar_event None untagged (style_of c.args.style)) (sym (encodes-chars (cow_str_bytes c.args.text) (subst IsUtf8 c.as_str.ensures.value c.as_str.utf8))) in
    subst (λ v. IfOk c.scalar.result (λ _. Puts (holds_of g.K.Keeper.holds) c.args.out.now (v ∷ []) c.scalar.new.self)) is c.scalar.ensures.ok
