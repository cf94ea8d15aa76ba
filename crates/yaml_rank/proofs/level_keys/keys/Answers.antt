use Rattle.std.proofs.Common.{◌≡◌, ◌+◌, take, set, get_or, sym, ◌∙◌, subst, arith, rules}
use Rattle.yaml_rank.specs.LevelModel.{KeysMade, RefusesLevel}
use Rattle.yaml_tree.proofs.Lists.{set-past}
use Rattle.yaml_rank.proofs.LevelLaws.{keys-more, level-refused}
use Rattle.yaml_rank.proofs.TagLaws.{tag-at, tag-among}
use Rattle.yaml_rank.proofs.level_keys.keys.Goals as goal
use Rattle.yaml_rank.proofs.level_keys.keys.Goals.{then-number-sorted, else-number-sorted}

pub returns-in_err-key-clause-err : goal.returns-in_err-key-clause-err
returns-in_err-key-clause-err c =
    let f : RefusesLevel c.args.graph.now c.args.level.now c.in_err-key.field-0.0 =
    level-refused c.args.graph.now c.args.tags.now c.args.ranks.now c.args.level.now c.loop-number.number-index c.loop-number.keys.items c.args.sorted.now c.loop-number.sorted c.loop-number-test.true c.loop-number.invariant.1 c.in_err-key.field-0.0 c.in_err-key.ensures.err in
    search (rules, f)

pub loop-number-preserved : goal.loop-number-preserved
loop-number-preserved c =
    let g = c.args.graph.now in
    let tags = c.args.tags.now in
    let rs = c.args.ranks.now in
    let level = c.args.level.now in
    let i = c.loop-number.number-index in
    let number = get_or level i 0 in
    let now = c.loop-number.sorted in
    let entries = c.in_ok-key.entries in
    let more = keys-more g tags rs level i c.loop-number.keys.items c.args.sorted.now now c.loop-number-test.true c.loop-number.invariant.1 c.in_ok-key.key entries (c.in_ok-key.ensures.ok tags (tag-at g tags c.tag_of.result.now number c.place-tag.result c.tag_of.ensures c.place-tag.ensures)) c.push.new.self.items c.in_ok-push.ensures.items in
    let kept : c.if-number-sorted.sorted ≡ set now number entries = elim c.if-number-sorted.branch [
      | then-number-sorted w ↦ w.sorted-is
      | else-number-sorted w ↦ w.sorted-is ∙ sym (set-past now number entries (omega (arith, w.if-number-sorted.false)))
    ] in
    ((let a = c.add.ensures in let b = c.loop-number.invariant.0 in omega arith), subst (KeysMade g tags rs (take (i + 1) level) c.push.new.self.items c.args.sorted.now) (sym kept) more)

pub place-tag-requires-clause-among : goal.place-tag-requires-clause-among
place-tag-requires-clause-among c = tag-among c.args.graph.now c.args.tags.now c.requires.tagged _ c.tag_of.result.now (c.requires.settled c.loop-number.number-index _ c.loop-number-test.true).0 c.tag_of.ensures
