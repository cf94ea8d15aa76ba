use Rattle.std.proofs.Common.{rules}
use Rattle.yaml_spell.specs.Stops.{fault_of}
use Rattle.yaml_spell.specs.Rooms.{Holds, Stops}
use Rattle.yaml_spell.proofs.PieceLaws.{on_ok, if_err}
use Rattle.yaml_spell.proofs.SpelledLaws.{quoted_taken, quoted_unopened, quoted_broken, quoted_unclosed}
use Rattle.yaml_spell.proofs.room.Room.add_quoted.Goals as goal

pub returns-in_err-add-clause-err : goal.returns-in_err-add-clause-err
returns-in_err-add-clause-err c =
    let m = quoted_unopened Holds Stops c.args.self.now tt tt (fault_of c.in_err-add.field-0.0) c.args.content.now c.in_err-add.ensures.err in
    search (rules, m)

pub returns-in_err-add-2-clause-err : goal.returns-in_err-add-2-clause-err
returns-in_err-add-2-clause-err c =
    let m = quoted_broken Holds Stops c.args.self.now c.add.new.self tt tt tt (fault_of c.in_err-add-2.field-0.0) c.args.content.now c.in_ok-add.ensures.ok c.in_err-add-2.ensures.err in
    search (rules, m)

pub returns-clause-ok : goal.returns-clause-ok
returns-clause-ok c =
    on_ok c.add-3.result c.add-3.ensures.ok (λ h. quoted_taken Holds c.args.self.now c.add.new.self c.add-2.new.self c.add-3.new.self tt tt tt tt c.args.content.now c.in_ok-add.ensures.ok c.in_ok-add-2.ensures.ok h)

pub returns-clause-err : goal.returns-clause-err
returns-clause-err c =
    if_err c.add-3.result c.add-3.ensures.err (λ stop h. quoted_unclosed Holds Stops c.args.self.now c.add.new.self c.add-2.new.self tt tt tt tt (fault_of stop) c.args.content.now c.in_ok-add.ensures.ok c.in_ok-add-2.ensures.ok h)
