use Rattle.std.proofs.Common.{length, slice_index, get_or, [], sym, subst}
use Rattle.yaml_tree.specs.View.{InsideBelow}
use Rattle.yaml_tree.specs.Places.{IsFirstEqual}
use Rattle.yaml_tree.proofs.Numbering.{get-there}
use Rattle.yaml_store.specs.declared.nodes.Node.{Node}
use Rattle.yaml_store.specs.declared.nodes.Kind.TheVariants.{Scalar}
use Rattle.yaml_store.specs.StoreModel.{inside_of, PartsWithin}
use Rattle.yaml_store_rank.specs.PartsModel.{key_ranks, PlaceSettled}
use Rattle.yaml_store_rank.proofs.Settling.{parts-now, inside-now, equals-now, settled-more}
use Rattle.yaml_store_rank.proofs.settle.settle.Goals as goal

abbrev none : Node
none = record { kind = Scalar; tag = 0; height = 0; span = record { start = 0; end = 0 } }

pub settle_one-requires-clause-within : goal.settle_one-requires-clause-within
settle_one-requires-clause-within c =
    let rs = c.args.ranks.now in
    let nodes = c.args.nodes.now in
    let level = c.args.level.now in
    let k = c.loop-number.number-index in
    let l = c.loop-number-test.true in
    let there = get-there nodes (get_or level k 0) none (c.requires.numbers k 0 l) in
    subst (PartsWithin (length c.loop-number.items) (length c.loop-number.entries)) (sym c.place-place.ensures)
    (parts-now (slice_index rs) nodes level c.args.items.now c.args.entries.now c.requires.within c.requires.apart c.requires.once k l c.loop-number.items c.loop-number.entries c.loop-number.invariant _ there)

pub settle_one-requires-clause-parts : goal.settle_one-requires-clause-parts
settle_one-requires-clause-parts c =
    let rs = c.args.ranks.now in
    let nodes = c.args.nodes.now in
    let level = c.args.level.now in
    let k = c.loop-number.number-index in
    let l = c.loop-number-test.true in
    let n = get_or level k 0 in
    let there = get-there nodes n none (c.requires.numbers k 0 l) in
    subst (λ z. InsideBelow (length rs) (inside_of [] c.loop-number.items c.loop-number.entries z)) (sym c.place-place.ensures)
    (subst (InsideBelow (length rs)) (sym (inside-now (slice_index rs) nodes level c.args.items.now c.args.entries.now c.requires.within c.requires.apart c.requires.once k l c.loop-number.items c.loop-number.entries c.loop-number.invariant _ there [])) (c.requires.below k n _ (get-there level k 0 l) there))

pub loop-number-preserved : goal.loop-number-preserved
loop-number-preserved c =
    let rs = c.args.ranks.now in
    let nodes = c.args.nodes.now in
    let level = c.args.level.now in
    let k = c.loop-number.number-index in
    let l = c.loop-number-test.true in
    let n = get_or level k 0 in
    let there = get-there nodes n none (c.requires.numbers k 0 l) in
    let done = subst (λ z. PlaceSettled (slice_index rs) z c.loop-number.items c.loop-number.entries c.settle_one.new.items c.settle_one.new.entries) c.place-place.ensures (rw c.in_default.is at c.in_ok-equal.ensures) in
    settled-more (slice_index rs) nodes level c.args.items.now c.args.entries.now c.requires.within c.requires.apart c.requires.once k l c.loop-number.items c.loop-number.entries c.loop-number.invariant _ there c.settle_one.new.items c.settle_one.new.entries done

pub returns-in-Some-clause-err : goal.returns-in-Some-clause-err
returns-in-Some-clause-err c =
    let rs = c.args.ranks.now in
    let nodes = c.args.nodes.now in
    let level = c.args.level.now in
    let k = c.loop-number.number-index in
    let l = c.loop-number-test.true in
    let there = get-there nodes (get_or level k 0) none (c.requires.numbers k 0 l) in
    let equal = subst (λ z. IsFirstEqual (key_ranks (slice_index rs) (inside_of [] c.loop-number.items c.loop-number.entries z)) c.in-Some.first c.in-Some.second) c.place-place.ensures (rw c.in-Some.is at c.in_ok-equal.ensures) in
    equals-now (slice_index rs) nodes level c.args.items.now c.args.entries.now c.requires.within c.requires.apart c.requires.once k l c.loop-number.items c.loop-number.entries c.loop-number.invariant _ there c.in-Some.first c.in-Some.second equal
