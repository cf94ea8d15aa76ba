use Rattle.std.proofs.Common.{arith}
use Rattle.yaml_json.proofs.Collections.{array_ended, item_begun}
use Rattle.yaml_json.proofs.OneReading.{shorter}
use Rattle.yaml_json.proofs.OneEnd.{array_ended_only, item_begun_only, array_goes_no_way}
use Rattle.yaml_json.proofs.text.after_item.Goals as goal

pub returns-in-Some-clause-reads : goal.returns-in-Some-clause-reads
returns-in-Some-clause-reads c = array_ended _ _ _ c.in-Some.ensures.some

pub returns-in-Some-clause-only : goal.returns-in-Some-clause-only
returns-in-Some-clause-only c = array_ended_only _ _ _ c.requires c.in-Some.ensures.some

pub returns-in-Some-clause-less : goal.returns-in-Some-clause-less
returns-in-Some-clause-less c = let l = shorter _ _ _ c.in-Some.ensures.some in omega arith

pub returns-in_default-after_byte-clause-only : goal.returns-in_default-after_byte-clause-only
returns-in_default-after_byte-clause-only c = array_goes_no_way _ _ c.requires c.in_default.ensures.none c.in_default-after_byte.ensures.none

pub returns-clause-reads : goal.returns-clause-reads
returns-clause-reads c = item_begun _ _ _ _ c.in-Some-after_byte.ensures.some c.in_ok-push.ensures.items

pub returns-clause-only : goal.returns-clause-only
returns-clause-only c = item_begun_only _ _ _ _ c.requires c.in_default.ensures.none c.in-Some-after_byte.ensures.some c.in_ok-push.ensures.items

pub returns-clause-less : goal.returns-clause-less
returns-clause-less c = let l = shorter _ _ _ c.in-Some-after_byte.ensures.some in omega arith
