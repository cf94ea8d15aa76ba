use Rattle.std.proofs.Common.{◌≡◌, refl, sym, ap, subst, length, Some, ◌∙◌}
use Rattle.std.specs.List.{slice_get, slice_range}
use Rattle.yaml_store.specs.TextModel.{text_of}
use Rattle.std.proofs.lemmas.Bool.{ltb-true}
use Rattle.std.proofs.lemmas.Option.{slice_get_read}
use Rattle.yaml_tree_builder.proofs.AnchorLaws.{stand-at, got}
use Rattle.yaml_tree_builder.proofs.anchors.Anchors.name.Goals as goal

pub returns : goal.returns
returns c = λ names h.
    let s = c.args.self.now in
    let span = c.in_ok-span.span.now in
    let there : slice_get s.spans.items c.args.place ≡ Some span =
    subst (λ z. slice_get z c.args.place ≡ Some span) c.deref.ensures.value (slice_get_read c.deref.result.now (length c.deref.result.now) c.args.place span refl (ltb-true c.args.place (length c.deref.result.now) (sym c.in_ok-span.ensures.lookup.0)) c.in_ok-span.ensures.lookup.1) in
    let is : slice_get names c.args.place ≡ Some (slice_range (text_of s.text) span.start span.end) = stand-at (text_of s.text) s.spans.items names c.args.place span h.texts there in
    got c.get-2.result c.get-2.ensures (λ name e. is ∙ ap Some e)
