use Rattle.std.specs.Prelude.{Ok}
use Rattle.review_merge.proofs.SeatLaws.{laid}
use Rattle.review_merge.proofs.seats.layout_of.Goals as goal

pub returns : goal.returns
returns c = laid c.args.bytes.now c.in_ok-source.source c.in_ok-trace.trace (Ok c.in_ok-lay_out.field-0) c.in_ok-source.ensures.text c.in_ok-trace.ensures.ok c.in_ok-lay_out.ensures.offsets c.in_ok-lay_out.ensures.nodes
