use Rattle.std.proofs.Common.{◌&&◌, sym, ap, ◌∙◌}
use Rattle.std.specs.List.{list_all}
use Rattle.std.specs.Str.{chars}
use Rattle.std.proofs.lemmas.List.{nil_from_length}
use Rattle.std.proofs.lemmas.Str.{IsUtf8-past_char, chars-nil}
use Rattle.yaml_definitions.specs.model.Sound.{is_anchor_char}
use Rattle.yaml_events.proofs.Names.{names_past, no_name, is_a_name}
use Rattle.yaml_events.proofs.name.is_name.Goals as goal

pub returns-then-not-is_name_char : goal.returns-then-not-is_name_char
returns-then-not-is_name_char c =
    let v = c.chars.invariant in
    let after = c.next.new.self.rest.now in
    no_name c.args.text.now (v.all ∙ names_past _ after c.in-Some.c v.utf8 c.in-Some.ensures.steps.0
    ∙ ap (λ z. z && list_all is_anchor_char (chars after)) (sym c.if-not-is_name_char.ensures))

pub chars-preserved : goal.chars-preserved
chars-preserved c =
    let v = c.chars.invariant in
    let after = c.next.new.self.rest.now in
    record {
      utf8 = IsUtf8-past_char _ after c.in-Some.c v.utf8 c.in-Some.ensures.steps.0;
      all = v.all ∙ names_past _ after c.in-Some.c v.utf8 c.in-Some.ensures.steps.0 ∙ ap (λ z. z && list_all is_anchor_char (chars after)) (sym c.if-not-is_name_char.ensures);
    }

pub returns : goal.returns
returns c =
    let e = nil_from_length _ c.in-None.ensures.steps.0.0 in
    is_a_name c.args.text.now c.is_empty.result c.utf8.text (c.chars.invariant.all ∙ ap (λ x. list_all is_anchor_char (chars x)) e ∙ ap (list_all is_anchor_char) chars-nil) c.is_empty.ensures
