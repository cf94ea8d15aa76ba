use Rattle.std.proofs.Common.{◌∙◌, arith, refl}
use Rattle.yaml_spell.specs.RankedNodes.{tree_of}
use Rattle.yaml_spell.proofs.PieceLaws.{puts_none}
use Rattle.yaml_spell.proofs.DocumentLaws.{next_document}
use Rattle.yaml_spell.proofs.WalkLaws.{drop_item}
use Rattle.yaml_spell.proofs.spell.write_ranked.Goals as goal

pub loop-root-init : goal.loop-root-init
loop-root-init g c = record {
  long = refl;
  left = record { front = λ more. more; puts = puts_none g.S.Sink.holds c.args.sink.now c.args.out.now; is = λ more. refl };
}

pub loop-root-preserved : goal.loop-root-preserved
loop-root-preserved g c =
    let f = tree_of g.V.RankedNodes.tree g.V.RankedNodes.number c.args.view.now in
    record {
      long = c.write_document.ensures.long ∙ c.loop-root.invariant.long;
      left = next_document g.S.Sink.holds g.S.Sink.stops f c.args.roots.now _ c.loop-root.root-index c.root-item.result c.args.sink.now c.args.out.now c.loop-root.sink c.loop-root.out c.write_document.new.sink c.write_document.new.out (drop_item c.args.roots.now c.loop-root.root-index c.root-item.result (omega arith) c.root-item.is) c.loop-root.invariant.left c.in_ok-write_document.ensures.ok;
    }
