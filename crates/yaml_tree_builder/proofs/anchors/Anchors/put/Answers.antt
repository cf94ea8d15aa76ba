use Rattle.std.proofs.Common.{◌≡◌, length, ◌∙◌, ap, refl, arith}
use Rattle.yaml_store.specs.TextModel.{text_of}
use Rattle.yaml_tree_builder.specs.AnchorsModel.{table_place}
use Rattle.yaml_tree_builder.proofs.AnchorLaws.{stand-length, names-more}
use Rattle.yaml_tree_builder.proofs.anchors.Anchors.put.Goals as goal

pub returns-clause-place : goal.returns-clause-place
returns-clause-place c = λ names h.
    let s = c.make_table.new.self in
    omega (arith, stand-length (text_of s.text) s.spans.items names (c.in_ok-make_table.ensures names h).texts, c.len-place.ensures, s.spans.ok.0)

pub returns-clause-names : goal.returns-clause-names
returns-clause-names c = λ names h.
    let s = c.make_table.new.self in
    let k = c.in_ok-make_table.ensures names h in
    let hash : c.place_of-hash.result ≡ table_place c.args.name.now = c.place_of-hash.ensures ∙ ap table_place c.as_bytes.ensures.value in
    let number : c.in_ok-last.last ≡ length names = omega (arith, stand-length (text_of s.text) s.spans.items names k.texts, c.in_ok-last.ensures, c.len-place.ensures, s.spans.ok.0) in
    names-more s _ names c.args.name.now c.in_ok-span.span c.in_ok-last.last c.place_of-hash.result c.in_ok-span.ensures.puts c.in_ok-push.ensures.items number hash refl refl refl k
