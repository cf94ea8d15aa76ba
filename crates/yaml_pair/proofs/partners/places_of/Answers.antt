use Rattle.std.proofs.Common.{◌≡◌, ◌+◌, refl, sym, ◌∙◌, ap, subst}
use Rattle.std.specs.Prelude.{Some, None, is_some}
use Rattle.std.specs.BTreeMap.{get}
use Rattle.std.proofs.lemmas.Option.{slice_get-get_or}
use Rattle.yaml_pair.specs.Named.{Name, name_cmp, is_one, Stands}
use Rattle.yaml_pair.proofs.NameLaws.{name_laws}
use Rattle.yaml_pair.proofs.PlaceLaws.{stand-skip, stand-noted}
use Rattle.yaml_pair.proofs.Parts.{free-not, false-true}
use Rattle.yaml_pair.proofs.partners.places_of.Goals as goal
use Rattle.yaml_pair.proofs.partners.places_of.Goals.{in-Some+in_ok-note, then-is_known, else-is_known, in_default}

pub loop-place-preserved : goal.loop-place-preserved
loop-place-preserved c =
    let xs = c.args.names.now in
    let i = c.loop-place.place in
    let there = slice_get-get_or xs i None c.loop-place-test.true in
    elim c.match-name.branch [
      | in-Some+in_ok-note w ↦
          let known : is_some (get name_cmp c.loop-place.places w.in-Some.name) ≡ w.is_known.result = sym w.is_known.ensures in
          subst (λ z. (q : Name) → Stands is_one xs (i + 1) q (get name_cmp z q)) (sym w.places-is)
          (stand-noted is_one name_laws xs i w.in-Some.name (get name_cmp c.loop-place.places) (get name_cmp w.note.new.places) w.if-is_known.alone (there ∙ ap Some w.in-Some.is) c.loop-place.invariant w.in_ok-note.ensures.ok
          (λ e. elim w.if-is_known.branch [ then-is_known v ↦ v.alone-is | else-is_known v ↦ absurd (false-true (sym v.if-is_known.false ∙ sym known ∙ e)) ])
          (λ e. elim w.if-is_known.branch [ then-is_known v ↦ absurd (false-true (sym e ∙ known ∙ v.if-is_known.true)) | else-is_known v ↦ v.alone-is ]))
      | in_default w ↦
          subst (λ z. (q : Name) → Stands is_one xs (i + 1) q (get name_cmp z q)) (sym w.places-is)
          (λ q. stand-skip is_one name_laws xs i q (get name_cmp c.loop-place.places q) (λ n f g. free-not xs i i n refl (there ∙ ap Some w.in_default.is) f) (c.loop-place.invariant q))
    ]
