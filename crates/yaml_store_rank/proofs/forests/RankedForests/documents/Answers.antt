use Rattle.std.proofs.Common.{[], sym, arith}
use Rattle.std.proofs.lemmas.List.{get_or_past}
use Rattle.std.proofs.lemmas.Option.{get_or_from_slice_get}
use Rattle.yaml_store_rank.specs.KeyOrder.{numbers}
use Rattle.yaml_store_rank.proofs.ForestLaws.{streams-count}
use Rattle.yaml_store_rank.proofs.forests.RankedForests.documents.Goals as goal

pub stream-requires : goal.stream-requires
stream-requires c = omega (arith, streams-count c.self.inside c.self.invariant c.args.self.now c.self.view_is, c.len.ensures, c.if-stream-len.true, c.self.inside.ends.ok.0)

pub returns-then-stream-len : goal.returns-then-stream-len
returns-then-stream-len c = sym (get_or_from_slice_get c.args.self.now.streams c.args.stream (numbers c.stream.result.now) [] c.stream.ensures)

pub returns-else-stream-len : goal.returns-else-stream-len
returns-else-stream-len c = sym (get_or_past c.args.self.now.streams c.args.stream [] (omega (arith, streams-count c.self.inside c.self.invariant c.args.self.now c.self.view_is, c.len.ensures, c.if-stream-len.false, c.self.inside.ends.ok.0)))
