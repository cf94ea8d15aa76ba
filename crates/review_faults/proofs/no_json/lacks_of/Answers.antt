use Rattle.std.proofs.Common.{rules}
use Rattle.review_faults.proofs.AgainLaws.{reading_refused}
use Rattle.review_faults.proofs.no_json.lacks_of.Goals as goal

pub returns-in_err-events : goal.returns-in_err-events
returns-in_err-events c =
    let f = reading_refused c.args.bytes.now _ c.in_err-events.field-0.0 c.in_ok-source.ensures.read c.in_err-events.ensures.decides in
    record { err = search (rules, f) }

pub returns-in_err-trace : goal.returns-in_err-trace
returns-in_err-trace c =
    let f = reading_refused c.args.bytes.now _ c.in_err-trace.field-0.0 c.in_ok-source.ensures.read c.in_err-trace.ensures.decides in
    record { err = search (rules, f) }
