use Rattle.std.proofs.Common.{◌∙◌, ap, arith, string_bytes}
use Rattle.review_args.proofs.Loops.{map_all, map_next}
use Rattle.review_args.proofs.reading.texts.Goals as goal

pub loop-word-preserved : goal.loop-word-preserved
loop-word-preserved c = map_next (λ s. s.now) string_bytes c.args.words.now c.loop-word.word-index _ _ _ c.as_str.result (omega arith) c.loop-word.invariant c.in_ok-push.ensures.items (c.as_str.ensures.value ∙ ap string_bytes c.word-item.is)

pub returns : goal.returns
returns c = map_all (λ s. s.now) string_bytes c.args.words.now c.loop-word.word-index c.loop-word.list.items (omega arith) c.loop-word.invariant
