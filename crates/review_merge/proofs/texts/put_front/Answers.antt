use Rattle.std.specs.String.{string_bytes}
use Rattle.review_merge.proofs.PartLaws.{front_put, all_put, on_ok}
use Rattle.review_merge.proofs.texts.put_front.Goals as goal

pub returns-then-text-gt-CUT : goal.returns-then-text-gt-CUT
returns-then-text-gt-CUT c = record { ok = (on_ok c.put_all.result (front_put c.args.text.now c.front.result.now (string_bytes c.args.out.now) (string_bytes c.put_all.new.out) c.if-text-gt-CUT.true c.front.ensures) c.put_all.ensures.ok) }

pub returns : goal.returns
returns c = record { ok = (all_put c.args.text.now (string_bytes c.args.out.now) (string_bytes c.push_str.new.self) c.if-text-gt-CUT.false c.in_ok-push_str.ensures.bytes) }
