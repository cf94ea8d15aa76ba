use Rattle.std.proofs.Common.{arith}
use Rattle.yaml_json.proofs.Collections.{empty_object_read, object_begun}
use Rattle.yaml_json.proofs.Lengths.{behind_shorter, named_behind}
use Rattle.yaml_json.proofs.OneEnd.{empty_object_only, object_begun_only, object_not_begun}
use Rattle.yaml_json.proofs.text.begin_object.Goals as goal

pub returns-in-Some-clause-reads : goal.returns-in-Some-clause-reads
returns-in-Some-clause-reads c = empty_object_read _ _ _ _ c.after_white-inside.ensures.white c.in-Some.ensures.some

pub returns-in-Some-clause-only : goal.returns-in-Some-clause-only
returns-in-Some-clause-only c = empty_object_only _ _ _ _ c.after_white-inside.ensures.white c.after_white-inside.ensures.all c.in-Some.ensures.some

pub returns-in-Some-clause-less : goal.returns-in-Some-clause-less
returns-in-Some-clause-less c = let l = behind_shorter _ _ _ _ c.after_white-inside.ensures.white c.in-Some.ensures.some in omega arith

pub returns-in_default-after_name-clause-only : goal.returns-in_default-after_name-clause-only
returns-in_default-after_name-clause-only c = object_not_begun _ _ _ c.after_white-inside.ensures.white c.after_white-inside.ensures.all c.in_default.ensures.none c.in_default-after_name.ensures.none

pub returns-clause-reads : goal.returns-clause-reads
returns-clause-reads c = object_begun _ _ _ _ _ c.after_white-inside.ensures.white c.in-Some-after_name.ensures.some c.in_ok-push.ensures.items

pub returns-clause-only : goal.returns-clause-only
returns-clause-only c =
    object_begun_only _ _ _ _ _ c.after_white-inside.ensures.white c.after_white-inside.ensures.all c.in_default.ensures.none c.in-Some-after_name.ensures.only c.in_ok-push.ensures.items

pub returns-clause-less : goal.returns-clause-less
returns-clause-less c = let l = named_behind _ _ _ c.after_white-inside.ensures.white c.in-Some-after_name.ensures.some in omega arith
