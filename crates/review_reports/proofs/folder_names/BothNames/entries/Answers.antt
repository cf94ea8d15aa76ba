use Rattle.std.proofs.Common.{drop, cond, refl, ◌∙◌, ap, arith}
use Rattle.review_reports.specs.Names.{left_of, right_of, names_in, is_left, is_right}
use Rattle.review_reports.proofs.NameLaws.{names_more, names_all, left_begins, right_begins, fewer}
use Rattle.review_reports.proofs.folder_names.BothNames.entries.Goals.{else-loop-test, then-loop-test+in_default}
use Rattle.review_reports.proofs.folder_names.BothNames.entries.Goals as goal

pub loop-preserved : goal.loop-preserved
loop-preserved c =
    let next = c.in-Some.next in
    let left = c.loop.left.now in
    let right = c.loop.right.now in
    let is = c.in-Some.ensures.some in
    let less = c.left_behind-left.ensures ∙ ap (λ b. cond b (drop 1 left) left) c.is_left.ensures in
    let other = c.left_behind-right.ensures ∙ ap (λ b. cond b (drop 1 right) right) c.is_right.ensures in
    let fewer = fewer left right c.left_behind-left.result.now c.left_behind-right.result.now next.has next.name.now is less other in
    let few = c.loop.invariant.few in
    record {
      lefts = names_more left_of c.loop.entries.items c.push.new.self.items next left c.left_behind-left.result.now (names_in c.args.self.now.left.items) (is_left next.has) c.in_ok-push.ensures.items refl less (left_begins left right next.has next.name.now is) c.loop.invariant.lefts;
      rights = names_more right_of c.loop.entries.items c.push.new.self.items next right c.left_behind-right.result.now (names_in c.args.self.now.right.items) (is_right next.has) c.in_ok-push.ensures.items refl other (right_begins left right next.has next.name.now is) c.loop.invariant.rights;
      few = omega (arith, fewer, few);
    }

pub returns : goal.returns
returns c = record {
  names = (elim c.loop-test.branch [
    | else-loop-test w ↦
        let few = c.loop.invariant.few in
        absurd (omega (arith, few, w.loop-test.false, c.args.self.now.left.small, c.args.self.now.right.small))
    | then-loop-test+in_default w ↦
        let none = w.in_default.ensures.none in
        record { lefts = names_all left_of c.loop.entries.items c.loop.left.now _ none.0 c.loop.invariant.lefts; rights = names_all right_of c.loop.entries.items c.loop.right.now _ none.1 c.loop.invariant.rights }
  ]);
}
