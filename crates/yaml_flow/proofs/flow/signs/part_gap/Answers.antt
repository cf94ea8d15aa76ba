use Rattle.std.proofs.Common.{inl, refl, arith}
use Rattle.yaml_text.specs.Source.{text_of, place_of}
use Rattle.yaml_text.specs.EventModel.{context_of}
use Rattle.yaml_text.proofs.Tests.{on_true_at}
use Rattle.law_one_reading.proofs.Lines.{way_same, way_maybe, way_here}
use Rattle.law_one_reading.proofs.FlowEntries.{closes_solid}
use Rattle.yaml_flow.proofs.flow.signs.part_gap.Goals as goal

pub returns-then-ends_value-clause-leads : goal.returns-then-ends_value-clause-leads
returns-then-ends_value-clause-leads c =
    let cs = text_of c.args.source.now in
    let here = closes_solid cs _ (on_true_at c.ends_value.result c.if-ends_value.true c.ends_value.ensures.yes) in
    record {
      border = c.requires;
      onward = omega arith;
      separate = inl refl;
      to = λ q s h. way_same cs (place_of c.args.source.now c.args.at) q _ (way_maybe cs c.args.least (context_of c.args.context) _ q s h) (way_here cs _ here);
    }
