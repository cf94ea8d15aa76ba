use Rattle.std.proofs.Common.{◌≡◌, ◌∙◌, ap, rules}
use Rattle.yaml_spell.specs.Stops.{fault_of}
use Rattle.yaml_spell.specs.NamesView.{given_of}
use Rattle.yaml_spell.specs.Walked.{noticed}
use Rattle.yaml_spell.specs.declared.names.State.TheVariants.{Unseen}
use Rattle.yaml_spell.proofs.PieceLaws.{on_ok, if_err}
use Rattle.yaml_spell.proofs.DocumentLaws.{marks-there, document_put, document_broken, document_unended}
use Rattle.yaml_spell.proofs.spell.write_document.Goals as goal

pub returns-in_err-write_node-clause-err : goal.returns-in_err-write_node-clause-err
returns-in_err-write_node-clause-err g c =
    let N = g.V.RankedNodes.number in
    let v = c.args.view.now in
    let R = g.V.RankedNodes.rank v in
    let T = g.V.RankedNodes.tree v in
    let i = N c.args.root in
    let p = given_of c.notice.new.names in
    let e : p ≡ (noticed R (T i) (λ _. Unseen), 0) = (λ z. ((c.notice.ensures.table ∙ ap (noticed R (T i)) c.begin.ensures.table) z, (c.notice.ensures.others.count ∙ c.begin.ensures.count) z)) in
    let m = marks-there (g.V.RankedNodes.count v) T R c.tells.ensures i p c.requires.within e in
    let f = document_broken g.S.Sink.holds g.S.Sink.stops (T i) _ c.args.sink.now c.args.out.now c.put.new.self c.put.new.out c.write_node.new.out (fault_of c.in_err-write_node.field-0.0) m c.in_ok-put.ensures.ok c.in_err-write_node.ensures.err in
    search (rules, f)

pub returns-clause-ok : goal.returns-clause-ok
returns-clause-ok g c =
    let N = g.V.RankedNodes.number in
    let v = c.args.view.now in
    let R = g.V.RankedNodes.rank v in
    let T = g.V.RankedNodes.tree v in
    let i = N c.args.root in
    let p = given_of c.notice.new.names in
    let e : p ≡ (noticed R (T i) (λ _. Unseen), 0) = (λ z. ((c.notice.ensures.table ∙ ap (noticed R (T i)) c.begin.ensures.table) z, (c.notice.ensures.others.count ∙ c.begin.ensures.count) z)) in
    let m = marks-there (g.V.RankedNodes.count v) T R c.tells.ensures i p c.requires.within e in
    on_ok c.put-2.result c.put-2.ensures.ok (λ h. document_put g.S.Sink.holds g.S.Sink.stops (T i) _ c.args.sink.now c.args.out.now c.put.new.self c.put.new.out c.write_node.new.sink c.write_node.new.out c.put-2.new.self c.put-2.new.out m c.in_ok-put.ensures.ok c.in_ok-write_node.ensures.ok h)

pub returns-clause-err : goal.returns-clause-err
returns-clause-err g c =
    let N = g.V.RankedNodes.number in
    let v = c.args.view.now in
    let R = g.V.RankedNodes.rank v in
    let T = g.V.RankedNodes.tree v in
    let i = N c.args.root in
    let p = given_of c.notice.new.names in
    let e : p ≡ (noticed R (T i) (λ _. Unseen), 0) = (λ z. ((c.notice.ensures.table ∙ ap (noticed R (T i)) c.begin.ensures.table) z, (c.notice.ensures.others.count ∙ c.begin.ensures.count) z)) in
    let m = marks-there (g.V.RankedNodes.count v) T R c.tells.ensures i p c.requires.within e in
    if_err c.put-2.result c.put-2.ensures.err (λ stop h. document_unended g.S.Sink.holds g.S.Sink.stops (T i) _ c.args.sink.now c.args.out.now c.put.new.self c.put.new.out c.write_node.new.sink c.write_node.new.out c.put-2.new.out (fault_of stop) m c.in_ok-put.ensures.ok c.in_ok-write_node.ensures.ok h)
