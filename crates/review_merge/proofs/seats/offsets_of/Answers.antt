use Rattle.std.proofs.Common.{◌≡◌, ◌∙◌, map, ap, sym, subst, arith}
use Rattle.std.specs.Prelude.{Some}
use Rattle.std.specs.Option.{option_map}
use Rattle.std.specs.List.{slice_get}
use Rattle.std.proofs.lemmas.List.{length-map}
use Rattle.std.proofs.lemmas.Option.{slice_get-map, slice_get-get_or}
use Rattle.review_merge.proofs.SeatLaws.{OffsetsTo, offsets_start, offsets_added, offsets_all}
use Rattle.review_merge.proofs.seats.offsets_of.Goals as goal

pub paths-init : goal.paths-init
paths-init c =
    let paths = map (λ path. path.items) c.args.paths.now in
    subst (OffsetsTo c.args.finder.now paths 0) (sym c.new-offsets.ensures.items) (offsets_start c.args.finder.now paths)

pub paths-preserved : goal.paths-preserved
paths-preserved c =
    let paths = c.args.paths.now in
    let at = c.paths.number in
    let one = c.index-paths-number.result in
    let here : slice_get (map (λ path. path.items) paths) at ≡ Some c.deref.result.now =
    slice_get-map (λ path. path.items) paths at ∙ ap (option_map (λ path. path.items)) (slice_get-get_or paths at one (omega (arith, c.paths-test.true))) ∙ ap Some (sym (c.deref.ensures.value ∙ ap (λ z. z.items) c.index-paths-number.is)) in
    offsets_added c.args.finder.now (map (λ path. path.items) paths) at c.paths.offsets.items c.add_offset.new.offsets.items c.deref.result.now here c.in_ok-add_offset.ensures.ok c.paths.invariant

pub returns : goal.returns
returns c =
    let paths = c.args.paths.now in
    let l = length-map paths (λ path. path.items) in
    offsets_all c.args.finder.now (map (λ path. path.items) paths) c.paths.number c.paths.offsets.items (omega (arith, l, c.paths-test.false)) c.paths.invariant
