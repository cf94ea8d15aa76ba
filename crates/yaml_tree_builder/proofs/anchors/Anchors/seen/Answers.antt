use Rattle.std.proofs.Common.{rules, ◌≡◌, refl, sym, ap, subst, length, Some, ◌∙◌}
use Rattle.std.specs.List.{slice_get}
use Rattle.std.proofs.lemmas.Bool.{ltb-true}
use Rattle.std.proofs.lemmas.Option.{slice_get_read}
use Rattle.yaml_tree_builder.specs.AnchorsModel.{table_place}
use Rattle.yaml_tree_builder.proofs.AnchorLaws.{sees-is}
use Rattle.yaml_tree_builder.proofs.anchors.Anchors.seen.Goals as goal

pub returns-then-eq : goal.returns-then-eq
returns-then-eq c = λ names h.
    let s = c.args.self.now in
    let place = c.in_ok-last.last.now in
    let same : c.in_ok-found.found.now ≡ c.args.name.now = search rules in
    let got = slice_get_read c.deref.result.now (length c.deref.result.now) c.place_of.result place refl (ltb-true c.place_of.result (length c.deref.result.now) (sym c.in_ok-last.ensures.lookup.0)) c.in_ok-last.ensures.lookup.1 in
    let hash : c.place_of.result ≡ table_place c.args.name.now = c.place_of.ensures ∙ ap table_place c.as_bytes.ensures.value in
    let there : slice_get s.recent.items (table_place c.args.name.now) ≡ Some place = subst (λ z. slice_get s.recent.items z ≡ Some place) hash (subst (λ z. slice_get z c.place_of.result ≡ Some place) c.deref.ensures.value got) in
    sees-is s.recent.items names c.args.name.now place h.sees there (subst (λ z. slice_get names place ≡ Some z) same (c.in_ok-found.ensures names h))
