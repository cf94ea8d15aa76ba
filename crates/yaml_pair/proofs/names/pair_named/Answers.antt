use Rattle.std.proofs.Common.{length, map, take, get_or, sym, subst}
use Rattle.std.proofs.lemmas.List.{map_more}
use Rattle.yaml_store_rank.specs.Forests.{item_trees}
use Rattle.yaml_pair.specs.Names.{EqualPair}
use Rattle.yaml_pair.specs.Named.{HasPairs, PairsBy, AreNames, naming_of}
use Rattle.yaml_pair.specs.declared.names.Column.TheVariants as columns
use Rattle.yaml_pair.proofs.PairLaws.{has-named, named-push}
use Rattle.yaml_pair.proofs.names.pair_named.Goals as goal

pub loop-column-preserved : goal.loop-column-preserved
loop-column-preserved c = λ within start.
    let g = c.args.forests.now in
    let ls = c.args.lefts.now in
    let rs = c.args.rights.now in
    let i = c.loop-column.column-index in
    let cur = c.loop-column.partners in
    let cs = map naming_of (take i c.args.columns.now) in
    let one = naming_of (get_or c.args.columns.now i columns.Object) in
    let nl = c.deref-in-loop-column-2.result.now in
    let nr = c.deref-in-loop-column-3.result.now in
    let al = subst (λ z. AreNames g one ls cur.lefts.items z) (sym c.deref-in-loop-column-2.ensures.value) (subst (λ z. AreNames g one ls z c.in_ok-left.left.items) c.deref.ensures.value c.in_ok-left.ensures.ok) in
    let ar = subst (λ z. AreNames g one rs cur.rights.items z) (sym c.deref-in-loop-column-3.ensures.value) (subst (λ z. AreNames g one rs z c.in_ok-right.right.items) c.deref-in-loop-column.ensures.value c.in_ok-right.ensures.ok) in
    let equal = EqualPair (item_trees g ls) (item_trees g rs) in
    let more = has-named g c.laws.ensures ls rs within one cur c.join.new.partners (PairsBy g ls rs cs) (c.loop-column.invariant within start) nl nr al ar c.in_ok-join.ensures.ok in
    subst (λ z. HasPairs c.join.new.partners (length ls) (length rs) (PairsBy g ls rs z)) (sym (map_more naming_of c.args.columns.now i columns.Object c.loop-column-test.true))
    (named-push (item_trees g ls) (item_trees g rs) one c.join.new.partners (length ls) (length rs) cs equal more)
