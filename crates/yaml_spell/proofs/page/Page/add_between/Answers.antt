use Rattle.std.proofs.Common.{rules}
use Rattle.yaml_spell.specs.Stops.{fault_of}
use Rattle.yaml_spell.specs.Pages.{PageHolds, PageStops}
use Rattle.yaml_spell.proofs.PieceLaws.{on_ok, if_err}
use Rattle.yaml_spell.proofs.SpelledLaws.{quoted_taken, quoted_unopened, quoted_broken, quoted_unclosed}
use Rattle.yaml_spell.proofs.page.Page.add_between.Goals as goal

pub returns-in_err-add-clause-err : goal.returns-in_err-add-clause-err
returns-in_err-add-clause-err g c =
    let m = quoted_unopened (PageHolds g.W.Write.contents) (PageStops g.W.Write.contents) c.args.self.now c.args.out.now c.add.new.out (fault_of c.in_err-add.field-0.0) c.args.content.now c.in_err-add.ensures.err in
    search (rules, m)

pub returns-in_err-add-2-clause-err : goal.returns-in_err-add-2-clause-err
returns-in_err-add-2-clause-err g c =
    let m = quoted_broken (PageHolds g.W.Write.contents) (PageStops g.W.Write.contents) c.args.self.now c.add.new.self c.args.out.now c.add.new.out c.add-2.new.out (fault_of c.in_err-add-2.field-0.0) c.args.content.now c.in_ok-add.ensures.ok c.in_err-add-2.ensures.err in
    search (rules, m)

pub returns-clause-ok : goal.returns-clause-ok
returns-clause-ok g c =
    on_ok c.add-3.result c.add-3.ensures.ok (λ h. quoted_taken (PageHolds g.W.Write.contents) c.args.self.now c.add.new.self c.add-2.new.self c.add-3.new.self c.args.out.now c.add.new.out c.add-2.new.out c.add-3.new.out c.args.content.now c.in_ok-add.ensures.ok c.in_ok-add-2.ensures.ok h)

pub returns-clause-err : goal.returns-clause-err
returns-clause-err g c =
    if_err c.add-3.result c.add-3.ensures.err (λ stop h. quoted_unclosed (PageHolds g.W.Write.contents) (PageStops g.W.Write.contents) c.args.self.now c.add.new.self c.add-2.new.self c.args.out.now c.add.new.out c.add-2.new.out c.add-3.new.out (fault_of stop) c.args.content.now c.in_ok-add.ensures.ok c.in_ok-add-2.ensures.ok h)
