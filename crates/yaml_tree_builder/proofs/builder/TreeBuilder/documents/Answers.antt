use Rattle.std.proofs.Common.{arith, length, sym, ap, subst}
use Rattle.std.specs.Prelude.{MatchOption}
use Rattle.yaml_tree.specs.TreeLists.{IsFirstTooHigh, AreLow}
use Rattle.yaml_store.specs.StoreGrows.{trees_of}
use Rattle.yaml_tree_builder.specs.BuilderModel.{AllAt}
use Rattle.yaml_tree_builder.proofs.BuilderLaws.{roots-of}
use Rattle.yaml_tree_builder.proofs.ReachedLaws.{stream-is-forest, stream-closes, streams-are-forests}
use Rattle.yaml_tree_builder.proofs.LevelLaws.{closed-stream, closed-all}
use Rattle.yaml_tree_builder.proofs.builder.TreeBuilder.documents.Goals as goal

pub returns-clause-size : goal.returns-clause-size
returns-clause-size c = λ ds s r h.
    let self = c.args.self.now in
    let roots = roots-of self s h (closed-stream ds s r) in
    let at : AllAt (trees_of self.store) c.deref.result.now s.inner = subst (λ z. AllAt (trees_of self.store) z s.inner) (sym c.deref.ensures.value) roots.at in
    let low : AreLow s.inner = subst (λ o. MatchOption o (AreLow s.inner) (IsFirstTooHigh s.inner)) c.in_default.is (c.first_too_high.ensures h.good.store s.inner at) in
    record {
      trees_are = s.inner;
      unfolded = stream-is-forest ds s r;
      low = low;
      documents = omega (arith, roots.count, c.len.ensures, self.stack.ok.0);
      nodes = omega (arith, ap length (stream-closes ds s r), h.counted.count);
    }

pub returns-clause-streams : goal.returns-clause-streams
returns-clause-streams c = λ dss s r h.
    let self = c.args.self.now in
    let roots = roots-of self s h (closed-all dss s r) in
    let all = streams-are-forests dss s r in
    record { forests = all.forests; unfolded = all.unfolded; count_is = omega (arith, roots.count, c.len.ensures, self.stack.ok.0, ap length all.is) }

pub returns-in-Some-clause-refused : goal.returns-in-Some-clause-refused
returns-in-Some-clause-refused c = λ ds s r h.
    let self = c.args.self.now in
    let roots = roots-of self s h (closed-stream ds s r) in
    let at : AllAt (trees_of self.store) c.deref.result.now s.inner = subst (λ z. AllAt (trees_of self.store) z s.inner) (sym c.deref.ensures.value) roots.at in
    let first : IsFirstTooHigh s.inner c.in-Some.document = subst (λ o. MatchOption o (AreLow s.inner) (IsFirstTooHigh s.inner)) c.in-Some.is (c.first_too_high.ensures h.good.store s.inner at) in
    record { trees = s.inner; unfolded = stream-is-forest ds s r; tree = first.tree; is = first.is; high = first.high; before = first.before }
