use Rattle.std.proofs.Common.{◌≡◌, false, sym, ◌∙◌, ap}
use Rattle.std.specs.Prelude.{bytes_eq}
use Rattle.yaml_definitions.specs.model.Tag.{default_tag}
use Rattle.yaml_spell.specs.Stops.{fault_of}
use Rattle.yaml_spell.specs.Kinds.{number_of_kind}
use Rattle.yaml_spell.proofs.PieceLaws.{on_ok, if_err}
use Rattle.yaml_spell.proofs.PartLaws.{tag_left_out, tag_told, tag_untold}
use Rattle.yaml_spell.proofs.parts.put_tag.Goals as goal

pub returns-then-eq-clause-ok : goal.returns-then-eq-clause-ok
returns-then-eq-clause-ok g c = tag_left_out g.S.Sink.holds g.S.Sink.stops c.args.sink.now c.args.out.now (number_of_kind c.args.kind) c.args.tag.now (ap (bytes_eq c.args.tag.now) (sym c.default_tag.ensures) ∙ sym c.if-eq.ensures)

pub returns-clause-ok : goal.returns-clause-ok
returns-clause-ok g c =
    let e : bytes_eq c.args.tag.now (default_tag (number_of_kind c.args.kind)) ≡ false = ap (bytes_eq c.args.tag.now) (sym c.default_tag.ensures) ∙ sym c.if-eq.ensures in
    on_ok c.put_full_tag.result c.put_full_tag.ensures.ok (λ h. tag_told g.S.Sink.holds g.S.Sink.stops c.args.sink.now c.args.out.now c.put_full_tag.new.sink c.put_full_tag.new.out (number_of_kind c.args.kind) c.args.tag.now e h)

pub returns-clause-err : goal.returns-clause-err
returns-clause-err g c =
    let e : bytes_eq c.args.tag.now (default_tag (number_of_kind c.args.kind)) ≡ false = ap (bytes_eq c.args.tag.now) (sym c.default_tag.ensures) ∙ sym c.if-eq.ensures in
    if_err c.put_full_tag.result c.put_full_tag.ensures.err (λ stop h. tag_untold g.S.Sink.holds g.S.Sink.stops c.args.sink.now c.args.out.now c.put_full_tag.new.out (fault_of stop) (number_of_kind c.args.kind) c.args.tag.now e h)
