use Rattle.std.specs.String.{string_bytes}
use Rattle.review_merge.proofs.RefusalLaws.{told_of_each}
use Rattle.review_merge.proofs.merge.put_rejections.Goals as goal

pub returns-clause-ok : goal.returns-clause-ok
returns-clause-ok c =
    told_of_each c.args.names.now c.args.bytes (string_bytes c.args.out.now) (string_bytes c.put_one.new.out) (string_bytes c.put_one-2.new.out) (string_bytes c.put_one-3.new.out) (string_bytes c.put_one-4.new.out)
    c.in_ok-base.ensures.ok.0 c.in_ok-ours.ensures.ok.0 c.in_ok-theirs.ensures.ok.0 c.in_ok-result.ensures.ok.0 c.in_ok-base.base c.in_ok-ours.ours c.in_ok-theirs.theirs c.in_ok-result.result c.greater.result c.greater-2.result c.greater-3.result
    c.result_name.result.now
    c.in_ok-base.ensures.ok.1 c.in_ok-ours.ensures.ok.1 c.in_ok-theirs.ensures.ok.1 c.in_ok-result.ensures.ok.1 c.in_ok-base.ensures.ok.2 c.in_ok-ours.ensures.ok.2 c.in_ok-theirs.ensures.ok.2 c.in_ok-result.ensures.ok.2
    c.result_name.ensures c.greater.ensures c.greater-2.ensures c.greater-3.ensures
