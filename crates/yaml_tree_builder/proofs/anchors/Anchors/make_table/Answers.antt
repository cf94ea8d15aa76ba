use Rattle.std.proofs.Common.{refl, arith}
use Rattle.yaml_tree_builder.proofs.AnchorLaws.{names-tabled}
use Rattle.yaml_tree_builder.proofs.anchors.Anchors.make_table.Goals as goal

pub returns : goal.returns
returns c = λ names h.
    let self = c.args.self.now in
    names-tabled self _ names (omega (arith, c.len.ensures, self.spans.ok.0, c.if-len-gt0.false)) refl refl refl refl h
