use Rattle.std.proofs.Common.{arith}
use Rattle.yaml_json.proofs.Collections.{empty_array_read, array_begun}
use Rattle.yaml_json.proofs.Lengths.{white_shorter, behind_shorter}
use Rattle.yaml_json.proofs.OneEnd.{empty_array_only, array_begun_only}
use Rattle.yaml_json.proofs.text.begin_array.Goals as goal

pub returns-in-Some-clause-reads : goal.returns-in-Some-clause-reads
returns-in-Some-clause-reads c = empty_array_read _ _ _ _ c.after_white-inside.ensures.white c.in-Some.ensures.some

pub returns-in-Some-clause-only : goal.returns-in-Some-clause-only
returns-in-Some-clause-only c = empty_array_only _ _ _ _ c.after_white-inside.ensures.white c.after_white-inside.ensures.all c.in-Some.ensures.some

pub returns-in-Some-clause-less : goal.returns-in-Some-clause-less
returns-in-Some-clause-less c = let l = behind_shorter _ _ _ _ c.after_white-inside.ensures.white c.in-Some.ensures.some in omega arith

pub returns-clause-reads : goal.returns-clause-reads
returns-clause-reads c = array_begun _ _ _ _ c.after_white-inside.ensures.white c.in_ok-push.ensures.items

pub returns-clause-only : goal.returns-clause-only
returns-clause-only c = array_begun_only _ _ _ _ c.after_white-inside.ensures.white c.after_white-inside.ensures.all c.in_default.ensures.none c.in_ok-push.ensures.items

pub returns-clause-less : goal.returns-clause-less
returns-clause-less c = let l = white_shorter c.after_white-inside.ensures.white in omega arith
