use Rattle.std.proofs.Common.{ℕ, ◌+◌, drop, get_or, subst, arith, List}
use Rattle.std.specs.Prelude.{Option}
use Rattle.std.specs.String.{string_bytes}
use Rattle.std.proofs.Math.ListN.{drop_of_length-le}
use Rattle.yaml_path.specs.declared.place.Place.{Place}
use Rattle.review_merge.specs.Lines.{column, place_text}
use Rattle.review_merge.specs.Placed.{IsTold}
use Rattle.review_merge.specs.declared.told.Seats.{Seats}
use Rattle.review_merge.proofs.LineLaws.{drop_next, on_start, on_step, on_done}
use Rattle.review_merge.proofs.lines.put_places.Goals as goal

abbrev Of : ℕ → Seats → Option Place → Type 0
Of number seats place = IsTold seats.places.items number place

abbrev text : Option Place → List ℕ
text place = column (place_text place)

pub seats-init : goal.seats-init
seats-init c = on_start (Of c.args.number) text c.args.seats.now (string_bytes c.args.out.now)

pub seats-preserved : goal.seats-preserved
seats-preserved c =
    let all = c.args.seats.now in
    let at = c.seats.side-index in
    let one = c.side-item.result in
    on_step (Of c.args.number) text all (string_bytes c.args.out.now) (drop at all) (drop (at + 1) all) (get_or all at one) c.place.result (string_bytes c.seats.out) (string_bytes c.put_place.new.out) (drop_next all at one (omega (arith, c.seats-test.true))) c.seats.invariant
    (subst (λ z. Of c.args.number z c.place.result) c.side-item.is c.place.ensures) c.in_ok-put_place.ensures.ok

pub returns : goal.returns
returns c = record { ok = (on_done (Of c.args.number) text c.args.seats.now (string_bytes c.args.out.now) (drop c.seats.side-index c.args.seats.now) (string_bytes c.seats.out) (drop_of_length-le c.args.seats.now c.seats-test.false) c.seats.invariant) }
