use Rattle.std.proofs.Common.{◌≡◌, ◌<◌, suc, length, slice_index, add-one, refl, sym, ◌∙◌, ap, subst, arith, rules}
use Rattle.std.specs.List.{All}
use Rattle.std.specs.Vec.{with_items}
use Rattle.std.proofs.lemmas.List.{with_items_is, drop_more, drop_all}
use Rattle.yaml_tree.specs.Levels.{level_of, total, LevelsBy}
use Rattle.yaml_tree.proofs.LevelsLaws.{level-there}
use Rattle.yaml_store.specs.StoreModel.{height_at}
use Rattle.yaml_store.specs.TextModel.{text_of}
use Rattle.yaml_store_rank.specs.PartsModel.{LevelBelow, LevelSettled, RefusesLevel}
use Rattle.yaml_store_rank.specs.LevelModel.{LevelFits, LevelNumbered}
use Rattle.yaml_store_rank.specs.Refused.{RefusesView}
use Rattle.yaml_store_rank.proofs.Repeating.{level-refused}
use Rattle.yaml_store_rank.proofs.SlotLaws.{slots-within, level-numbered}
use Rattle.yaml_store_rank.proofs.Standing.{Standing, level-numbers, level-rising, level-below, level-fits, settled-within, standing-more, standing-done, levels-end}
use Rattle.yaml_store_rank.proofs.ranking.rank_all.Goals as goal

pub settle-requires-clause-numbers : goal.settle-requires-clause-numbers
settle-requires-clause-numbers c =
    let v = c.requires.stored.0 in
    let store = c.requires.stored.1 in
    let nodes = c.args.nodes.now in
    let text = text_of c.args.text.now in
    let olds = c.args.items.now in
    let pairs = c.args.entries.now in
    let places = c.args.places.now in
    let ls = c.deref-level-items.result.now in
    let i = c.loop-level.level-index in
    let are : LevelsBy (height_at nodes) (length nodes) ls = subst (LevelsBy (height_at nodes) (length nodes)) (sym c.deref-level-items.ensures.value) c.in_ok-levels.ensures.ok in
    let level = c.deref-in-loop-level.result.now in
    let is : level ≡ level_of ls i = c.deref-in-loop-level.ensures.value ∙ (ap (λ z. z.items) c.level-item.is ∙ level-there ls i c.level-item.result c.loop-level-test.true) in
    level-numbers v nodes text olds pairs places store ls are i level is

pub settle-requires-clause-once : goal.settle-requires-clause-once
settle-requires-clause-once c =
    let v = c.requires.stored.0 in
    let store = c.requires.stored.1 in
    let nodes = c.args.nodes.now in
    let text = text_of c.args.text.now in
    let olds = c.args.items.now in
    let pairs = c.args.entries.now in
    let places = c.args.places.now in
    let ls = c.deref-level-items.result.now in
    let i = c.loop-level.level-index in
    let are : LevelsBy (height_at nodes) (length nodes) ls = subst (LevelsBy (height_at nodes) (length nodes)) (sym c.deref-level-items.ensures.value) c.in_ok-levels.ensures.ok in
    let level = c.deref-in-loop-level.result.now in
    let is : level ≡ level_of ls i = c.deref-in-loop-level.ensures.value ∙ (ap (λ z. z.items) c.level-item.is ∙ level-there ls i c.level-item.result c.loop-level-test.true) in
    level-rising v nodes text olds pairs places store ls are i level is

pub settle-requires-clause-below : goal.settle-requires-clause-below
settle-requires-clause-below c =
    let v = c.requires.stored.0 in
    let store = c.requires.stored.1 in
    let nodes = c.args.nodes.now in
    let text = text_of c.args.text.now in
    let olds = c.args.items.now in
    let pairs = c.args.entries.now in
    let places = c.args.places.now in
    let ls = c.deref-level-items.result.now in
    let i = c.loop-level.level-index in
    let are : LevelsBy (height_at nodes) (length nodes) ls = subst (LevelsBy (height_at nodes) (length nodes)) (sym c.deref-level-items.ensures.value) c.in_ok-levels.ensures.ok in
    let level = c.deref-in-loop-level.result.now in
    let is : level ≡ level_of ls i = c.deref-in-loop-level.ensures.value ∙ (ap (λ z. z.items) c.level-item.is ∙ level-there ls i c.level-item.result c.loop-level-test.true) in
    subst (λ z. LevelBelow (length z) nodes level c.loop-level.items c.loop-level.entries) (sym c.deref.ensures.value) (level-below v nodes text olds pairs places store ls are i level is c.loop-level.items c.loop-level.entries c.loop-level.ranks.items c.loop-level.first.items (c.loop-level.invariant.1 v store))

pub sorted_slots-requires-clause-numbers : goal.sorted_slots-requires-clause-numbers
sorted_slots-requires-clause-numbers c =
    let v = c.requires.stored.0 in
    let store = c.requires.stored.1 in
    let nodes = c.args.nodes.now in
    let text = text_of c.args.text.now in
    let olds = c.args.items.now in
    let pairs = c.args.entries.now in
    let places = c.args.places.now in
    let ls = c.deref-level-items.result.now in
    let i = c.loop-level.level-index in
    let are : LevelsBy (height_at nodes) (length nodes) ls = subst (LevelsBy (height_at nodes) (length nodes)) (sym c.deref-level-items.ensures.value) c.in_ok-levels.ensures.ok in
    let level = c.deref-in-loop-level.result.now in
    let is : level ≡ level_of ls i = c.deref-in-loop-level.ensures.value ∙ (ap (λ z. z.items) c.level-item.is ∙ level-there ls i c.level-item.result c.loop-level-test.true) in
    let again = c.deref-in-loop-level-2.result.now in
    let same : again ≡ level = c.deref-in-loop-level-2.ensures.value ∙ sym c.deref-in-loop-level.ensures.value in
    let ranks = c.loop-level.ranks.items in
    let settled : LevelSettled (slice_index ranks) nodes level c.loop-level.items c.loop-level.entries c.settle.new.items c.settle.new.entries = subst (λ z. LevelSettled (slice_index z) nodes level c.loop-level.items c.loop-level.entries c.settle.new.items c.settle.new.entries) c.deref.ensures.value c.in_ok-settle.ensures.ok in
    subst (All (λ n. n < length nodes)) (sym same) (level-numbers v nodes text olds pairs places store ls are i level is)

pub sorted_slots-requires-clause-range : goal.sorted_slots-requires-clause-range
sorted_slots-requires-clause-range c =
    let v = c.requires.stored.0 in
    let store = c.requires.stored.1 in
    let nodes = c.args.nodes.now in
    let text = text_of c.args.text.now in
    let olds = c.args.items.now in
    let pairs = c.args.entries.now in
    let places = c.args.places.now in
    let ls = c.deref-level-items.result.now in
    let i = c.loop-level.level-index in
    let are : LevelsBy (height_at nodes) (length nodes) ls = subst (LevelsBy (height_at nodes) (length nodes)) (sym c.deref-level-items.ensures.value) c.in_ok-levels.ensures.ok in
    let level = c.deref-in-loop-level.result.now in
    let is : level ≡ level_of ls i = c.deref-in-loop-level.ensures.value ∙ (ap (λ z. z.items) c.level-item.is ∙ level-there ls i c.level-item.result c.loop-level-test.true) in
    let again = c.deref-in-loop-level-2.result.now in
    let same : again ≡ level = c.deref-in-loop-level-2.ensures.value ∙ sym c.deref-in-loop-level.ensures.value in
    let ranks = c.loop-level.ranks.items in
    let settled : LevelSettled (slice_index ranks) nodes level c.loop-level.items c.loop-level.entries c.settle.new.items c.settle.new.entries = subst (λ z. LevelSettled (slice_index z) nodes level c.loop-level.items c.loop-level.entries c.settle.new.items c.settle.new.entries) c.deref.ensures.value c.in_ok-settle.ensures.ok in
    record { within = settled-within v nodes text olds pairs places store ls are i level is c.loop-level.items c.loop-level.entries c.loop-level.ranks.items c.loop-level.first.items (c.loop-level.invariant.1 v store) c.settle.new.items c.settle.new.entries settled; whole = c.requires.whole; small = store.small }

pub sorted_slots-requires-clause-fit : goal.sorted_slots-requires-clause-fit
sorted_slots-requires-clause-fit c =
    let v = c.requires.stored.0 in
    let store = c.requires.stored.1 in
    let nodes = c.args.nodes.now in
    let text = text_of c.args.text.now in
    let olds = c.args.items.now in
    let pairs = c.args.entries.now in
    let places = c.args.places.now in
    let ls = c.deref-level-items.result.now in
    let i = c.loop-level.level-index in
    let are : LevelsBy (height_at nodes) (length nodes) ls = subst (LevelsBy (height_at nodes) (length nodes)) (sym c.deref-level-items.ensures.value) c.in_ok-levels.ensures.ok in
    let level = c.deref-in-loop-level.result.now in
    let is : level ≡ level_of ls i = c.deref-in-loop-level.ensures.value ∙ (ap (λ z. z.items) c.level-item.is ∙ level-there ls i c.level-item.result c.loop-level-test.true) in
    let again = c.deref-in-loop-level-2.result.now in
    let same : again ≡ level = c.deref-in-loop-level-2.ensures.value ∙ sym c.deref-in-loop-level.ensures.value in
    let ranks = c.loop-level.ranks.items in
    let settled : LevelSettled (slice_index ranks) nodes level c.loop-level.items c.loop-level.entries c.settle.new.items c.settle.new.entries = subst (λ z. LevelSettled (slice_index z) nodes level c.loop-level.items c.loop-level.entries c.settle.new.items c.settle.new.entries) c.deref.ensures.value c.in_ok-settle.ensures.ok in
    subst (LevelFits nodes text c.settle.new.items c.settle.new.entries) (sym same) (level-fits v nodes text olds pairs places store ls are i level is c.loop-level.items c.loop-level.entries c.loop-level.ranks.items c.loop-level.first.items (c.loop-level.invariant.1 v store) c.settle.new.items c.settle.new.entries settled)

pub sorted_slots-requires-clause-few : goal.sorted_slots-requires-clause-few
sorted_slots-requires-clause-few c =
    let ls = c.deref-level-items.result.now in
    let i = c.loop-level.level-index in
    let d = c.level-item.result in
    let here = ap length (c.deref-in-loop-level-2.ensures.value ∙ ap (λ z. z.items) c.level-item.is) in
    let behind = ap total (drop_more ls i d c.loop-level-test.true) in
    omega (arith, c.loop-level.invariant.0, here, behind, c.requires.stored.1.few)

pub number-requires-clause-range : goal.number-requires-clause-range
number-requires-clause-range c =
    let v = c.requires.stored.0 in
    let store = c.requires.stored.1 in
    let nodes = c.args.nodes.now in
    let text = text_of c.args.text.now in
    let olds = c.args.items.now in
    let pairs = c.args.entries.now in
    let places = c.args.places.now in
    let ls = c.deref-level-items.result.now in
    let i = c.loop-level.level-index in
    let are : LevelsBy (height_at nodes) (length nodes) ls = subst (LevelsBy (height_at nodes) (length nodes)) (sym c.deref-level-items.ensures.value) c.in_ok-levels.ensures.ok in
    let level = c.deref-in-loop-level.result.now in
    let is : level ≡ level_of ls i = c.deref-in-loop-level.ensures.value ∙ (ap (λ z. z.items) c.level-item.is ∙ level-there ls i c.level-item.result c.loop-level-test.true) in
    let again = c.deref-in-loop-level-2.result.now in
    let same : again ≡ level = c.deref-in-loop-level-2.ensures.value ∙ sym c.deref-in-loop-level.ensures.value in
    let ranks = c.loop-level.ranks.items in
    let settled : LevelSettled (slice_index ranks) nodes level c.loop-level.items c.loop-level.entries c.settle.new.items c.settle.new.entries = subst (λ z. LevelSettled (slice_index z) nodes level c.loop-level.items c.loop-level.entries c.settle.new.items c.settle.new.entries) c.deref.ensures.value c.in_ok-settle.ensures.ok in
    record { within = settled-within v nodes text olds pairs places store ls are i level is c.loop-level.items c.loop-level.entries c.loop-level.ranks.items c.loop-level.first.items (c.loop-level.invariant.1 v store) c.settle.new.items c.settle.new.entries settled; whole = c.requires.whole; small = store.small }

pub number-requires-clause-within : goal.number-requires-clause-within
number-requires-clause-within c =
    let v = c.requires.stored.0 in
    let store = c.requires.stored.1 in
    let nodes = c.args.nodes.now in
    let text = text_of c.args.text.now in
    let olds = c.args.items.now in
    let pairs = c.args.entries.now in
    let places = c.args.places.now in
    let ls = c.deref-level-items.result.now in
    let i = c.loop-level.level-index in
    let are : LevelsBy (height_at nodes) (length nodes) ls = subst (LevelsBy (height_at nodes) (length nodes)) (sym c.deref-level-items.ensures.value) c.in_ok-levels.ensures.ok in
    let level = c.deref-in-loop-level.result.now in
    let is : level ≡ level_of ls i = c.deref-in-loop-level.ensures.value ∙ (ap (λ z. z.items) c.level-item.is ∙ level-there ls i c.level-item.result c.loop-level-test.true) in
    let again = c.deref-in-loop-level-2.result.now in
    let same : again ≡ level = c.deref-in-loop-level-2.ensures.value ∙ sym c.deref-in-loop-level.ensures.value in
    let ranks = c.loop-level.ranks.items in
    let settled : LevelSettled (slice_index ranks) nodes level c.loop-level.items c.loop-level.entries c.settle.new.items c.settle.new.entries = subst (λ z. LevelSettled (slice_index z) nodes level c.loop-level.items c.loop-level.entries c.settle.new.items c.settle.new.entries) c.deref.ensures.value c.in_ok-settle.ensures.ok in
    let before = c.loop-level.invariant.1 v store in
    let numbers = subst (λ n. All (λ i. i < n) again) (sym (ap length c.deref_mut.ensures.value ∙ before.long)) (subst (All (λ n. n < length nodes)) (sym same) (level-numbers v nodes text olds pairs places store ls are i level is)) in
    let found = slots-within _ nodes text c.settle.new.items c.settle.new.entries places (λ s. refl) again c.in_ok-slots.slots.items c.in_ok-slots.ensures.ok (length c.deref_mut.result.now) numbers in
    subst (All (λ s. s.number < length c.deref_mut.result.now)) (sym c.deref-in-loop-level-3.ensures.value) found

pub number-requires-clause-few : goal.number-requires-clause-few
number-requires-clause-few c = (c.loop-level.invariant.1 c.requires.stored.0 c.requires.stored.1).few

pub loop-level-preserved : goal.loop-level-preserved
loop-level-preserved c = (
  (let ls = c.deref-level-items.result.now in
      let here = ap length (c.deref-in-loop-level-2.ensures.value ∙ ap (λ z. z.items) c.level-item.is) in
      let behind = ap total (drop_more ls c.loop-level.level-index c.level-item.result c.loop-level-test.true) in
      omega (arith, c.loop-level.invariant.0, c.in_ok-slots.ensures.visited, here, behind)),
  λ v store.
      let nodes = c.args.nodes.now in
      let text = text_of c.args.text.now in
      let olds = c.args.items.now in
      let pairs = c.args.entries.now in
      let places = c.args.places.now in
      let ls = c.deref-level-items.result.now in
      let i = c.loop-level.level-index in
      let are : LevelsBy (height_at nodes) (length nodes) ls = subst (LevelsBy (height_at nodes) (length nodes)) (sym c.deref-level-items.ensures.value) c.in_ok-levels.ensures.ok in
      let level = c.deref-in-loop-level.result.now in
      let is : level ≡ level_of ls i = c.deref-in-loop-level.ensures.value ∙ (ap (λ z. z.items) c.level-item.is ∙ level-there ls i c.level-item.result c.loop-level-test.true) in
      let again = c.deref-in-loop-level-2.result.now in
      let same : again ≡ level = c.deref-in-loop-level-2.ensures.value ∙ sym c.deref-in-loop-level.ensures.value in
      let ranks = c.loop-level.ranks.items in
      let settled : LevelSettled (slice_index ranks) nodes level c.loop-level.items c.loop-level.entries c.settle.new.items c.settle.new.entries = subst (λ z. LevelSettled (slice_index z) nodes level c.loop-level.items c.loop-level.entries c.settle.new.items c.settle.new.entries) c.deref.ensures.value c.in_ok-settle.ensures.ok in
      let next = c.number.new.ranks in
      let after = c.number.new.first.items in
      let numbered = level-numbered _ nodes text c.settle.new.items c.settle.new.entries places again level c.in_ok-slots.slots.items c.deref-in-loop-level-3.result.now c.deref_mut.result.now next c.loop-level.first.items after same c.deref-in-loop-level-3.ensures.value c.in_ok-slots.ensures.ok c.in_ok-number.ensures.ok in
      let num = subst (λ z. LevelNumbered nodes text c.settle.new.items c.settle.new.entries places level z next c.loop-level.first.items after) c.deref_mut.ensures.value numbered in
      let b = c.loop-level.ranks in
      let e : (with_items b next).items ≡ next = with_items_is b next (omega (arith, num.numbered.long, b.ok.0)) in
      subst (λ z. Standing v nodes text olds pairs c.settle.new.items c.settle.new.entries (with_items b next).items after z) (sym (add-one i)) (subst (λ z. Standing v nodes text olds pairs c.settle.new.items c.settle.new.entries z after (suc i)) (sym e) (standing-more v nodes text olds pairs places store ls are i level is c.loop-level.items c.loop-level.entries c.loop-level.ranks.items c.loop-level.first.items (c.loop-level.invariant.1 v store) c.settle.new.items c.settle.new.entries settled next after num)),
)

pub returns-clause-ok : goal.returns-clause-ok
returns-clause-ok c = λ v store.
    let nodes = c.args.nodes.now in
    let ls = c.deref-level-items.result.now in
    let are : LevelsBy (height_at nodes) (length nodes) ls = subst (LevelsBy (height_at nodes) (length nodes)) (sym c.deref-level-items.ensures.value) c.in_ok-levels.ensures.ok in
    standing-done v nodes (text_of c.args.text.now) c.args.items.now c.args.entries.now c.args.places.now store c.loop-level.items c.loop-level.entries c.loop-level.ranks.items c.loop-level.first.items c.loop-level.level-index (c.loop-level.invariant.1 v store)
    (λ i l. let w = levels-end v nodes (text_of c.args.text.now) c.args.items.now c.args.entries.now c.args.places.now store ls are i l in omega (arith, c.loop-level-test.false))

pub returns-clause-visited : goal.returns-clause-visited
returns-clause-visited c =
    let ls = c.deref-level-items.result.now in
    let behind = ap total (drop_all c.loop-level.level-index ls (omega (arith, c.loop-level-test.false))) in
    omega (arith, c.loop-level.invariant.0, behind)

pub returns-in_err-settle-clause-err : goal.returns-in_err-settle-clause-err
returns-in_err-settle-clause-err c = λ v store.
    let nodes = c.args.nodes.now in
    let text = text_of c.args.text.now in
    let olds = c.args.items.now in
    let pairs = c.args.entries.now in
    let places = c.args.places.now in
    let ls = c.deref-level-items.result.now in
    let i = c.loop-level.level-index in
    let are : LevelsBy (height_at nodes) (length nodes) ls = subst (LevelsBy (height_at nodes) (length nodes)) (sym c.deref-level-items.ensures.value) c.in_ok-levels.ensures.ok in
    let level = c.deref-in-loop-level.result.now in
    let is : level ≡ level_of ls i = c.deref-in-loop-level.ensures.value ∙ (ap (λ z. z.items) c.level-item.is ∙ level-there ls i c.level-item.result c.loop-level-test.true) in
    let ranks = c.loop-level.ranks.items in
    let fault = c.in_err-settle.field-0.0 in
    let refused = subst (λ z. RefusesLevel (slice_index z) nodes level c.loop-level.items c.loop-level.entries fault) c.deref.ensures.value c.in_err-settle.ensures.err in
    let told : RefusesView v fault = level-refused v nodes text olds pairs places store ls are i level is c.loop-level.items c.loop-level.entries ranks c.loop-level.first.items (c.loop-level.invariant.1 v store) fault refused in
    search (rules, told)
