use Rattle.std.proofs.Common.{refl, ◌∙◌, ap}
use Rattle.std.specs.Prelude.{Some, unwrap_or}
use Rattle.std.specs.BTreeMap.{get}
use Rattle.std.specs.Ordering.{nat_cmp}
use Rattle.std.proofs.lemmas.Option.{slice_get-get_or}
use Rattle.yaml_pair.proofs.ListLaws.{tally-more, counts-push}
use Rattle.yaml_pair.proofs.equal.counted.Goals as goal

pub loop-rank-preserved : goal.loop-rank-preserved
loop-rank-preserved c = (
  counts-push c.args.ranks.now c.loop-rank.rank-index c.loop-rank.names.items c.push.new.self.items _ c.loop-rank.invariant.0 c.in_ok-push.ensures.items record {
    bare = refl;
    is = slice_get-get_or c.args.ranks.now c.loop-rank.rank-index 0 c.loop-rank-test.true;
    often = ap Some (c.unwrap_or-often.ensures ∙ ap (λ z. unwrap_or z 0) (c.copied.ensures ∙ c.get.ensures.value) ∙ c.in_ok-all.ensures.ok _);
    before = c.unwrap_or-count.ensures ∙ ap (λ z. unwrap_or z 0) (c.copied-in-loop-rank.ensures ∙ c.get-in-loop-rank.ensures.value) ∙ c.loop-rank.invariant.1 _;
  },
  tally-more c.args.ranks.now c.loop-rank.rank-index 0 (get nat_cmp c.loop-rank.before) (get nat_cmp c.insert.new.self) c.unwrap_or-count.result c.loop-rank-test.true c.loop-rank.invariant.1 c.in_ok-insert.ensures.updates.0
      (c.unwrap_or-count.ensures ∙ ap (λ z. unwrap_or z 0) (c.copied-in-loop-rank.ensures ∙ c.get-in-loop-rank.ensures.value)),
)
