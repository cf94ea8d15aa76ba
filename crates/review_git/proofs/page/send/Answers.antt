use Rattle.std.proofs.Common.{◌∙◌, arith}
use Rattle.std.proofs.lemmas.Grind.{common_steps}
use Rattle.yaml_spell.proofs.Streams.{appends_piece, count_kept}
use Rattle.review_git.proofs.page.send.Goals as goal

pub write-preserved : goal.write-preserved
write-preserved g c = (
  record {
    took = appends_piece _ _ _ _ _ _ c.write.invariant.0.took c.in-Ok.ensures.bytes;
    counted = c.in-Ok.ensures.faults ∙ count_kept c.in-Ok.took _ _ (λ e. omega (arith, e)) ∙ c.write.invariant.0.counted;
  },
  grind (arith, common_steps),
)
