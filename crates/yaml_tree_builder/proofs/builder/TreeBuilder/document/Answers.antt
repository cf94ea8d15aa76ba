use Rattle.std.proofs.Common.{[], ap, arith}
use Rattle.yaml_tree.specs.ComposerSteps.{State, step, cleared}
use Rattle.yaml_store.specs.StoreGrows.{tags_of, trees_of}
use Rattle.yaml_tree_builder.proofs.BuilderLaws.{keeping-cleared, outer-none}
use Rattle.yaml_tree_builder.proofs.builder.TreeBuilder.document.Goals as goal

pub returns : goal.returns
unfolding step
returns c = λ s h explicit.
    let self = c.args.self.now in
    let n = outer-none (tags_of self.store) (trees_of self.store) self.anchored.items self.stack.items self.opens.items s.inner s.outer s.table h.keeping (omega (arith, c.len.ensures, self.opens.ok.0, c.if-len-gt0.false)) in
    let t : State = record { inner = s.inner; outer = []; table = []; done = s.done } in
    record {
      state = t;
      is = ap (cleared s) n;
      holds = record {
        good = h.good;
        names = c.clear.ensures;
        keeping =
            keeping-cleared (tags_of self.store) (trees_of self.store) self.anchored.items self.stack.items self.opens.items s.inner s.outer s.table h.keeping c.clear-2.new.self.items c.clear-2.ensures.items n;
        counted = h.counted;
      };
    }
