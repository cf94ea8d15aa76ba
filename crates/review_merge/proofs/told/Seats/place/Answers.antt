use Rattle.std.proofs.Common.{rules}
use Rattle.std.proofs.lemmas.List.Sorted.{answers_always}
use Rattle.review_merge.proofs.PlaceLaws.{told_there, told_nowhere}
use Rattle.review_merge.proofs.told.Seats.place.Goals as goal

pub returns-in-Ok : goal.returns-in-Ok
returns-in-Ok c = let h = c.in-Ok.ensures.position (λ it. it.0) (answers_always _ _ _ (λ f a r g called. search rules)) in
    told_there c.args.self.now.places.items c.args.number c.in-Ok.at c.index.result.now (rw c.deref.ensures.value at c.in-Ok.ensures.bound) (rw c.deref.ensures.value at h) c.index.ensures

pub returns-in-Err : goal.returns-in-Err
returns-in-Err c =
    let h = c.in-Err.ensures.position (λ it. it.0) (answers_always _ _ _ (λ f a r g called. search rules)) in
    told_nowhere c.args.self.now.places.items c.args.number c.in-Err.field-0 c.args.self.now.rising (rw c.deref.ensures.value at h)
