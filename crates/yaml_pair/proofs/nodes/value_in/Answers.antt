use Rattle.std.proofs.Common.{sym, ◌∙◌}
use Rattle.std.proofs.lemmas.Option.{slice_get-get_or}
use Rattle.yaml_definitions.specs.model.Tag.{str_tag}
use Rattle.yaml_definitions.specs.model.Tree.{scalar}
use Rattle.yaml_pair.proofs.TreeLaws.{value-here, value-next}
use Rattle.yaml_pair.proofs.nodes.value_in.Goals as goal

pub returns-then-is_text : goal.returns-then-is_text
returns-then-is_text c = λ w.
    let x = w c.loop-name.name-index _ (slice_get-get_or c.args.entries.now c.loop-name.name-index _ c.loop-name-test.true) in
    record {
      is = value-here c.args.forests.now (scalar str_tag c.args.key.now) c.args.entries.now c.loop-name.name-index _ _ c.loop-name-test.true (sym c.if-is_text.true ∙ c.is_text.ensures x.0) (c.loop-name.invariant w);
      within = x.1;
    }

pub loop-name-preserved : goal.loop-name-preserved
loop-name-preserved c = λ w.
    let x = w c.loop-name.name-index _ (slice_get-get_or c.args.entries.now c.loop-name.name-index _ c.loop-name-test.true) in
    value-next c.args.forests.now (scalar str_tag c.args.key.now) c.args.entries.now c.loop-name.name-index _ _ c.loop-name-test.true (sym c.if-is_text.false ∙ c.is_text.ensures x.0) (c.loop-name.invariant w)
