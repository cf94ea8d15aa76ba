use Rattle.std.proofs.Common.{◌∙◌, ◌∷◌, [], ◌++◌, sym, ap, subst, arith, append_assoc, length-append}
use Rattle.std.specs.Prelude.{Some, false}
use Rattle.yaml_definitions.specs.model.Event.{mapping_start, untagged}
use Rattle.yaml_sink.specs.PropertyRules.{props_of, with_props}
use Rattle.yaml_sink.specs.SinkModel as sink
use Rattle.yaml_tree_builder.specs.TagModel.{kind_in}
use Rattle.yaml_tree_builder.specs.BuilderModel.{start_of}
use Rattle.yaml_tree_builder.specs.JudgedModel.{Judges, Takes}
use Rattle.yaml_store_composer.specs.PendingModel.{IsStart}
use Rattle.yaml_store_composer.specs.declared.pending.Above.{Above}
use Rattle.yaml_store_composer.specs.declared.pending.Begun.{Begun}
use Rattle.yaml_store_composer.proofs.PendingLaws.{started, started-again}
use Rattle.yaml_store_composer.proofs.DueLaws.{tells-opened}
use Rattle.yaml_store_composer.proofs.pending.PendingProperties.begin_below.Goals as goal

pub returns : goal.returns
returns c = λ flow p log at t.
    let mid = c.go_on.new.self in
    let g = props_of c.args.given in
    let k = c.args.collection in
    let kind = c.kind_of-kind.result in
    let above : Above = record { outer = c.args.outer; kind = kind } in
    let b : Begun = record { at = c.args.at; due = Some c.args.given; above = Some above } in
    let e = with_props p (sink.start_of k flow) in
    let is = started-again k flow g p ∙ sym (started k flow g) in
    let w : IsStart kind e = record { flow = flow; anchor = p.anchor; tag = p.tag; is = sym (started k flow p) ∙ ap (λ z. start_of z flow p.anchor p.tag) (sym c.kind_of-kind.ensures) } in
    let was = c.in_ok-go_on.ensures.tells log t in
    let m = mapping_start false (props_of c.args.outer).anchor untagged in
    let map = c.in_ok-begin_untagged.ensures.is was.told was.judges in
    let takes = subst (λ z. Takes c.in_ok-behind.behind z c.begin_untagged.new.self c.begin.new.self) (ap (λ z. start_of z flow g.anchor g.tag) c.kind_of-kind.ensures ∙ sym is) (c.in_ok-begin.ensures flow) in
    let told = takes.is (was.told ++ (m ∷ [])) (omega (arith, c.in_ok-number.ensures, c.in_ok-behind.ensures, at, was.size, length-append was.told (m ∷ []))) map in
    tells-opened mid.judged c.begin.new.self mid.ended mid.opens.items c.push.new.self.items b e (kind_in k) flow g.anchor g.tag mid.early c.in_ok-early.early c.in_ok-go_on.ensures.none c.in_ok-push.ensures.items is w (omega (arith, c.in_ok-early.ensures)) log at was
    (subst (Judges c.begin.new.self) (append_assoc was.told (m ∷ []) _) told)
