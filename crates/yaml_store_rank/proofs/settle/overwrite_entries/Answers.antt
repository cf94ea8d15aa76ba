use Rattle.std.proofs.Common.{ℕ, ◌<◌, length, slice_index, sym, subst, refl}
use Rattle.yaml_tree.proofs.Lists.{raise-more}
use Rattle.yaml_store_rank.specs.PartsModel.{two_ranks}
use Rattle.yaml_store_rank.proofs.Overwriting.{not-yet}
use Rattle.yaml_store_rank.proofs.settle.overwrite_entries.Goals as goal

pub bounds-ranks-entry : goal.bounds-ranks-entry
bounds-ranks-entry c =
    let rs = c.args.ranks.now in
    let i = c.loop-entry.entry-index in
    subst (λ (z : ℕ × ℕ). z.0 < length rs) (sym (not-yet (two_ranks (slice_index rs)) c.args.entries.now c.loop-entry.entries i (0, 0) c.loop-entry-test.true c.loop-entry.invariant)) (c.requires i (0, 0) c.loop-entry-test.true).0

pub bounds-ranks-entry-in-loop-entry : goal.bounds-ranks-entry-in-loop-entry
bounds-ranks-entry-in-loop-entry c =
    let rs = c.args.ranks.now in
    let i = c.loop-entry.entry-index in
    subst (λ (z : ℕ × ℕ). z.1 < length rs) (sym (not-yet (two_ranks (slice_index rs)) c.args.entries.now c.loop-entry.entries i (0, 0) c.loop-entry-test.true c.loop-entry.invariant)) (c.requires i (0, 0) c.loop-entry-test.true).1

pub loop-entry-preserved : goal.loop-entry-preserved
loop-entry-preserved c = raise-more (two_ranks (slice_index c.args.ranks.now)) c.args.entries.now c.loop-entry.entries c.loop-entry.entry-index (0, 0) _ c.loop-entry-test.true c.loop-entry.invariant refl
