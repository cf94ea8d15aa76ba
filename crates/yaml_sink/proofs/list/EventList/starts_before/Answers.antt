use Rattle.std.proofs.Common.{◌≡◌, length, arith}
use Rattle.yaml_sink.proofs.ListLemmas.{splits_none, splits_all}
use Rattle.yaml_sink.proofs.list.EventList.starts_before.Goals.{then-count-eq0-via-then-count-eq0, then-count-eq0-via-else-count-eq0+then-is_before}
use Rattle.yaml_sink.proofs.list.EventList.starts_before.Goals as goal

pub returns-then-count-eq0 : goal.returns-then-count-eq0
returns-then-count-eq0 c =
    let ss = c.args.self.now.starts.items in
    let all : c.len-count.result ≡ length ss = omega (arith, c.len-count.ensures, c.args.self.now.starts.ok.0) in
    elim c.then-count-eq0.branch [
      | then-count-eq0-via-then-count-eq0 w ↦ splits_none ss c.args.mark c.len-count.result all w.if-count-eq0.true
      | then-count-eq0-via-else-count-eq0+then-is_before w ↦ splits_all ss c.args.mark c.len-count.result _ all (omega (arith, w.if-count-eq0.false)) w.if-is_before.ensures.yes
    ]
