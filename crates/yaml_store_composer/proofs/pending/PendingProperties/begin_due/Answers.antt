use Rattle.std.proofs.Common.{◌∙◌, sym, ap, subst, arith}
use Rattle.std.specs.Prelude.{Some, None}
use Rattle.yaml_sink.specs.PropertyRules.{props_of, with_props}
use Rattle.yaml_sink.specs.SinkModel as sink
use Rattle.yaml_tree_builder.specs.TagModel.{kind_in}
use Rattle.yaml_tree_builder.specs.BuilderModel.{start_of}
use Rattle.yaml_tree_builder.specs.JudgedModel.{Takes}
use Rattle.yaml_store_composer.specs.declared.pending.Begun.{Begun}
use Rattle.yaml_store_composer.proofs.PendingLaws.{started, started-again}
use Rattle.yaml_store_composer.proofs.DueLaws.{tells-opened}
use Rattle.yaml_store_composer.proofs.pending.PendingProperties.begin_due.Goals as goal

pub returns : goal.returns
returns c = λ flow p log at t.
    let mid = c.go_on.new.self in
    let g = props_of c.args.given in
    let k = c.args.collection in
    let b : Begun = record { at = c.args.at; due = Some c.args.given; above = None } in
    let e = with_props p (sink.start_of k flow) in
    let is = started-again k flow g p ∙ sym (started k flow g) in
    let was = c.in_ok-go_on.ensures.tells log t in
    let takes = subst (λ z. Takes c.in_ok-number.number z mid.judged c.begin.new.self) (ap (λ z. start_of z flow g.anchor g.tag) c.kind_of.ensures ∙ sym is) (c.in_ok-begin.ensures flow) in
    tells-opened mid.judged c.begin.new.self mid.ended mid.opens.items c.push.new.self.items b e (kind_in k) flow g.anchor g.tag mid.early mid.early c.in_ok-go_on.ensures.none c.in_ok-push.ensures.items is tt (omega arith) log at was
    (takes.is was.told (omega (arith, c.in_ok-number.ensures, at, was.size)) was.judges)
