use Rattle.std.proofs.Common.{◌+◌, sym, ◌∙◌, subst}
use Rattle.std.proofs.lemmas.Option.{slice_get-get_or}
use Rattle.yaml_pair.specs.Named.{naming_of, AreNamesTo}
use Rattle.yaml_pair.proofs.ListLaws.{names-push}
use Rattle.yaml_pair.proofs.Parts.{false-true}
use Rattle.yaml_pair.proofs.names.names_in.Goals as goal
use Rattle.yaml_pair.proofs.names.names_in.Goals.{then-is_free+in_ok-push, else-is_free+in_ok-push-2}

pub loop-place-preserved : goal.loop-place-preserved
loop-place-preserved c =
    let g = c.args.forests.now in
    let n = naming_of c.args.column in
    let xs = c.args.items.now in
    let i = c.loop-place.place in
    let there = slice_get-get_or xs i _ c.loop-place-test.true in
    elim c.if-is_free.branch [
      | then-is_free+in_ok-push w ↦ subst (λ z. AreNamesTo g n xs c.args.places.now (i + 1) z.items) (sym w.names-is)
          (names-push g n xs c.args.places.now i _ c.loop-place.names.items w.push.new.self.items w.name_in.result c.loop-place.invariant there w.in_ok-push.ensures.items (λ e l. w.name_in.ensures l) (λ m e. c.is_free.ensures.0 w.if-is_free.true))
      | else-is_free+in_ok-push-2 w ↦ subst (λ z. AreNamesTo g n xs c.args.places.now (i + 1) z.items) (sym w.names-is)
          (names-push g n xs c.args.places.now i _ c.loop-place.names.items w.push-else-is_free.new.self.items _ c.loop-place.invariant there w.in_ok-push-2.ensures.items (λ e l. absurd (false-true (sym w.if-is_free.false ∙ c.is_free.ensures.1 e))) (λ m e. absurd (cc)))
    ]
