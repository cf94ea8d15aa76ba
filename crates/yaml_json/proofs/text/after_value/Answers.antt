use Rattle.std.proofs.Common.{sym, ◌∙◌, arith}
use Rattle.yaml_json.proofs.Collections.{value_ended}
use Rattle.yaml_json.proofs.Lengths.{white_shorter}
use Rattle.yaml_json.proofs.OneEnd.{value_ended_only, last_ended}
use Rattle.yaml_json.proofs.text.after_value.Goals as goal

pub returns-in_ok-next-in-Some-Array-clause-reads : goal.returns-in_ok-next-in-Some-Array-clause-reads
returns-in_ok-next-in-Some-Array-clause-reads c =
    λ g. value_ended _ _ _ _ _ _ c.after_white-rest.ensures.white c.in-Some-Array.ensures.items c.in-Some-Array.field-0-is (c.in_ok-next-in-Some-Array.ensures.reads g)

pub returns-in_ok-next-in-Some-Array-clause-only : goal.returns-in_ok-next-in-Some-Array-clause-only
returns-in_ok-next-in-Some-Array-clause-only c =
    λ e. c.in_ok-next-in-Some-Array.ensures.only (value_ended_only _ _ _ _ _ _ c.after_white-rest.ensures.white c.after_white-rest.ensures.all c.in-Some-Array.ensures.items c.in-Some-Array.field-0-is e)

pub returns-in_ok-next-in-Some-Array-clause-less : goal.returns-in_ok-next-in-Some-Array-clause-less
returns-in_ok-next-in-Some-Array-clause-less c =
    let l = white_shorter c.after_white-rest.ensures.white in
    let k = c.in_ok-next-in-Some-Array.ensures.less in
    omega arith

pub returns-in_ok-next-in-Some-Object-clause-reads : goal.returns-in_ok-next-in-Some-Object-clause-reads
returns-in_ok-next-in-Some-Object-clause-reads c =
    λ g. value_ended _ _ _ _ _ _ c.after_white-rest.ensures.white c.in-Some-Object.ensures.items c.in-Some-Object.field-0-is (c.in_ok-next-in-Some-Object.ensures.reads g)

pub returns-in_ok-next-in-Some-Object-clause-only : goal.returns-in_ok-next-in-Some-Object-clause-only
returns-in_ok-next-in-Some-Object-clause-only c =
    λ e. c.in_ok-next-in-Some-Object.ensures.only (value_ended_only _ _ _ _ _ _ c.after_white-rest.ensures.white c.after_white-rest.ensures.all c.in-Some-Object.ensures.items c.in-Some-Object.field-0-is e)

pub returns-in_ok-next-in-Some-Object-clause-less : goal.returns-in_ok-next-in-Some-Object-clause-less
returns-in_ok-next-in-Some-Object-clause-less c =
    let l = white_shorter c.after_white-rest.ensures.white in
    let k = c.in_ok-next-in-Some-Object.ensures.less in
    omega arith

pub returns-in-None-clause-only : goal.returns-in-None-clause-only
returns-in-None-clause-only c =
    let old = c.args.around.now in
    last_ended old.items _ _ _ _ (sym old.ok.0 ∙ c.in-None.ensures.cases.0) c.in-None.ensures.items c.after_white-rest.ensures.white c.after_white-rest.ensures.all c.after_last.ensures.only
