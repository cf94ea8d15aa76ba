use Rattle.std.proofs.Common.{arith, sym, ◌∙◌}
use Rattle.yaml_store.specs.TextModel.{text_of}
use Rattle.std.specs.BTreeMap.{get_by_text}
use Rattle.yaml_tree_builder.proofs.AnchorLaws.{stand-length, maps-all}
use Rattle.yaml_tree_builder.proofs.anchors.Anchors.find.Goals as goal

pub returns-clause-place : goal.returns-clause-place
returns-clause-place c = λ names h.
    let s = c.loop-self.self in
    let k = c.loop-self.invariant names h in
    sym (maps-all (get_by_text s.places) s.mapped names (omega (arith, stand-length (text_of s.text) s.spans.items names k.texts, c.len.ensures, s.spans.ok.0, c.loop-self-test.false)) k.maps c.args.name.now) ∙ (sym c.get.ensures.value ∙ sym c.copied.ensures)
