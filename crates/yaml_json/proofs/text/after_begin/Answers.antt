use Rattle.std.proofs.Common.{arith}
use Rattle.yaml_json.proofs.Collections.{scalar_began}
use Rattle.yaml_json.proofs.Lengths.{scalar_behind, behind_shorter}
use Rattle.yaml_json.proofs.OneEnd.{scalar_goes, begun_only, nothing_begins}
use Rattle.yaml_json.proofs.text.after_begin.Goals as goal

pub returns-in-Some-clause-reads : goal.returns-in-Some-clause-reads
returns-in-Some-clause-reads c = scalar_began _ _ _ _ c.after_white-start.ensures.white c.in-Some.ensures.some

pub returns-in-Some-clause-only : goal.returns-in-Some-clause-only
returns-in-Some-clause-only c = scalar_goes _ _ _ _ c.after_white-start.ensures.white c.after_white-start.ensures.all c.in-Some.ensures.some c.in-Some.ensures.only

pub returns-in-Some-clause-less : goal.returns-in-Some-clause-less
returns-in-Some-clause-less c = let l = scalar_behind _ _ _ c.after_white-start.ensures.white c.in-Some.ensures.some in omega arith

pub returns-in-Some-after_byte-clause-only : goal.returns-in-Some-after_byte-clause-only
returns-in-Some-after_byte-clause-only c =
    λ g. c.in_ok-next.ensures.only (begun_only _ _ _ _ _ c.after_white-start.ensures.white c.after_white-start.ensures.all c.in-Some-after_byte.ensures.some g)

pub returns-in-Some-after_byte-clause-less : goal.returns-in-Some-after_byte-clause-less
returns-in-Some-after_byte-clause-less c =
    let l = behind_shorter _ _ _ _ c.after_white-start.ensures.white c.in-Some-after_byte.ensures.some in
    let k = c.in_ok-next.ensures.less in
    omega arith

pub returns-in-Some-after_byte-2-clause-only : goal.returns-in-Some-after_byte-2-clause-only
returns-in-Some-after_byte-2-clause-only c =
    λ g. c.in_ok-next-2.ensures.only (begun_only _ _ _ _ _ c.after_white-start.ensures.white c.after_white-start.ensures.all c.in-Some-after_byte-2.ensures.some g)

pub returns-in-Some-after_byte-2-clause-less : goal.returns-in-Some-after_byte-2-clause-less
returns-in-Some-after_byte-2-clause-less c =
    let l = behind_shorter _ _ _ _ c.after_white-start.ensures.white c.in-Some-after_byte-2.ensures.some in
    let k = c.in_ok-next-2.ensures.less in
    omega arith

pub returns-clause-only : goal.returns-clause-only
returns-clause-only c =
    nothing_begins _ _ _ c.after_white-start.ensures.white c.after_white-start.ensures.all c.in_default.ensures.none c.in_default-after_byte.ensures.none c.in_default-after_byte-2.ensures.none
