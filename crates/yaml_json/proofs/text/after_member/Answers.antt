use Rattle.std.proofs.Common.{arith}
use Rattle.yaml_json.proofs.Collections.{object_ended, member_begun}
use Rattle.yaml_json.proofs.Lengths.{named_behind}
use Rattle.yaml_json.proofs.OneReading.{shorter}
use Rattle.yaml_json.proofs.OneEnd.{object_ended_only, member_begun_only, member_not_begun, object_goes_no_way}
use Rattle.yaml_json.proofs.text.after_member.Goals as goal

pub returns-in-Some-clause-reads : goal.returns-in-Some-clause-reads
returns-in-Some-clause-reads c = object_ended _ _ _ c.in-Some.ensures.some

pub returns-in-Some-clause-only : goal.returns-in-Some-clause-only
returns-in-Some-clause-only c = object_ended_only _ _ _ c.requires c.in-Some.ensures.some

pub returns-in-Some-clause-less : goal.returns-in-Some-clause-less
returns-in-Some-clause-less c = let l = shorter _ _ _ c.in-Some.ensures.some in omega arith

pub returns-in_default-after_byte-clause-only : goal.returns-in_default-after_byte-clause-only
returns-in_default-after_byte-clause-only c = object_goes_no_way _ _ c.requires c.in_default.ensures.none c.in_default-after_byte.ensures.none

pub returns-in_default-after_name-clause-only : goal.returns-in_default-after_name-clause-only
returns-in_default-after_name-clause-only c =
    member_not_begun _ _ _ _ c.requires c.in_default.ensures.none c.in-Some-after_byte.ensures.some c.after_white.ensures.white c.after_white.ensures.all c.in_default-after_name.ensures.none

pub returns-clause-reads : goal.returns-clause-reads
returns-clause-reads c = member_begun _ _ _ _ _ _ c.in-Some-after_byte.ensures.some c.after_white.ensures.white c.in-Some-after_name.ensures.some c.in_ok-push.ensures.items

pub returns-clause-only : goal.returns-clause-only
returns-clause-only c =
    member_begun_only _ _ _ _ _ _ c.requires c.in_default.ensures.none c.in-Some-after_byte.ensures.some c.after_white.ensures.white c.after_white.ensures.all c.in-Some-after_name.ensures.only c.in_ok-push.ensures.items

pub returns-clause-less : goal.returns-clause-less
returns-clause-less c =
    let k = shorter _ _ _ c.in-Some-after_byte.ensures.some in
    let l = named_behind _ _ _ c.after_white.ensures.white c.in-Some-after_name.ensures.some in
    omega arith
