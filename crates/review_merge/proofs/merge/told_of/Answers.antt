use Rattle.std.proofs.Common.{sym, subst}
use Rattle.std.specs.String.{string_bytes}
use Rattle.review_merge.specs.Judged.{stream_trees}
use Rattle.review_merge.specs.Merges.{Says}
use Rattle.review_merge.proofs.JudgeLaws.{four-mean}
use Rattle.review_merge.proofs.TextLaws.{sources_told}
use Rattle.review_merge.proofs.merge.told_of.Goals as goal

pub returns-clause-tells : goal.returns-clause-tells
returns-clause-tells c =
    let b = c.args.bytes.now in
    let f = c.in_ok-forests.forests in
    let m = four-mean f b.base.items b.ours.items b.theirs.items b.result.items c.in_ok-forests.ensures in
    record {
      b = stream_trees f 0;
      o = stream_trees f 1;
      t = stream_trees f 2;
      m = stream_trees f 3;
      base_means = m.0;
      ours_mean = m.1;
      theirs_mean = m.2;
      result_means = m.3;
      says = subst (Says c.args.given (stream_trees f 0) (stream_trees f 1) (stream_trees f 2) (stream_trees f 3)) (sym c.verdict_of-answer.ensures) c.in_ok-outcome.ensures.says;
    }

pub returns-clause-shows : goal.returns-clause-shows
returns-clause-shows c = record {
  forests = c.in_ok-forests.forests;
  roots = c.roots_of-roots.result;
  outcome = c.in_ok-outcome.outcome;
  show = c.in_ok-forests.ensures;
  ranked = c.laws.ensures;
  roots_are = c.roots_of-roots.ensures;
  finds = c.in_ok-outcome.ensures.finds;
  judged = c.verdict_of-answer.ensures;
  is = sources_told c.args.bytes.now c.args.given c.sources_of-sources.result c.in_ok-forests.forests c.args.print c.roots_of-roots.result c.in_ok-outcome.outcome (string_bytes c.in_ok-text.text) c.sources_of-sources.ensures c.in_ok-text.ensures;
}
