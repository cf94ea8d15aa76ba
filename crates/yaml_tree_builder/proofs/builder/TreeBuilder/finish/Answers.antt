use Rattle.std.proofs.Common.{arith, length, sym, ap, subst}
use Rattle.std.specs.Prelude.{MatchOption}
use Rattle.yaml_tree.specs.TreeLists.{IsFirstTooHigh, AreLow}
use Rattle.yaml_store.specs.StoreGrows.{trees_of}
use Rattle.yaml_tree_builder.specs.BuilderModel.{AllAt}
use Rattle.yaml_tree_builder.proofs.BuilderLaws.{roots-of, are-low}
use Rattle.yaml_tree_builder.proofs.ReachedLaws.{stream-is-forest, stream-closes, two-streams-are-forests, streams-are-forests}
use Rattle.yaml_tree_builder.proofs.LevelLaws.{closed-stream, closed-streams, closed-all}
use Rattle.yaml_store.specs.StoreGrows.{IsLow}
use Rattle.yaml_tree.specs.Numbers.{Numbers}
use Rattle.yaml_tree_builder.proofs.builder.TreeBuilder.finish.Goals as goal

pub returns-clause-forest : goal.returns-clause-forest
returns-clause-forest c = λ ds s r h.
    let self = c.args.self in
    let roots = roots-of self s h (closed-stream ds s r) in
    let low : IsLow self.store = c.if-not-is_low.ensures.low h.good.store in
    record {
      trees_are = s.inner;
      unfolded = stream-is-forest ds s r;
      low = are-low self.store low self.stack.items s.inner roots.at;
      good = h.good.store;
      level = low;
      roots = roots.at;
      numbered = subst (Numbers (trees_of self.store) self.firsts.numbers.items) (stream-closes ds s r) h.counted.numbers;
      few = omega (arith, ap length (stream-closes ds s r), h.counted.count, h.counted.few);
    }

pub returns-clause-both : goal.returns-clause-both
returns-clause-both c = λ ds es s r h.
    let self = c.args.self in
    let roots = roots-of self s h (closed-streams ds es s r) in
    let low : IsLow self.store = c.if-not-is_low.ensures.low h.good.store in
    record {
      trees_are = s.inner;
      nodes_are = s.done;
      unfolded = two-streams-are-forests ds es s r;
      low = are-low self.store low self.stack.items s.inner roots.at;
      good = h.good.store;
      level = low;
      roots = roots.at;
      numbered = h.counted.numbers;
      few = omega (arith, h.counted.count, h.counted.few);
    }

pub returns-clause-streams : goal.returns-clause-streams
returns-clause-streams c = λ dss s r h.
    let self = c.args.self in
    let roots = roots-of self s h (closed-all dss s r) in
    let low : IsLow self.store = c.if-not-is_low.ensures.low h.good.store in
    record {
      trees_are = s.inner;
      nodes_are = s.done;
      unfolded = streams-are-forests dss s r;
      low = are-low self.store low self.stack.items s.inner roots.at;
      good = h.good.store;
      level = low;
      roots = roots.at;
      numbered = h.counted.numbers;
      few = omega (arith, h.counted.count, h.counted.few);
    }

pub returns-in-Some-clause-refused : goal.returns-in-Some-clause-refused
returns-in-Some-clause-refused c = λ ds s r h.
    let self = c.args.self in
    let roots = roots-of self s h (closed-stream ds s r) in
    let at : AllAt (trees_of self.store) c.deref.result.now s.inner = subst (λ z. AllAt (trees_of self.store) z s.inner) (sym c.deref.ensures.value) roots.at in
    let first : IsFirstTooHigh s.inner c.in-Some.document = subst (λ o. MatchOption o (AreLow s.inner) (IsFirstTooHigh s.inner)) c.in-Some.is (c.first_too_high.ensures h.good.store s.inner at) in
    record { trees = s.inner; unfolded = stream-is-forest ds s r; tree = first.tree; is = first.is; high = first.high; before = first.before }
