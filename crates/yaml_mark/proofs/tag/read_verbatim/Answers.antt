use Rattle.std.proofs.Common.{ap, sym, ◌∙◌}
use Rattle.std.specs.Option.{option_map}
use Rattle.std.specs.Cow.{cow_str_bytes}
use Rattle.yaml_definitions.specs.model.Event.{full}
use Rattle.yaml_text.specs.Source.{text_of}
use Rattle.yaml_definitions.specs.grammar.Characters.{is_uri}
use Rattle.yaml_definitions.specs.grammar.Tags.{decoded}
use Rattle.yaml_text.proofs.Tests.{on_true_at, on_false_at}
use Rattle.yaml_mark.proofs.AsciiLemmas.{low_spans, ascii_text, uri_low}
use Rattle.yaml_mark.proofs.TagLemmas.{spans_map, uri_is, is_uri_char, verbatim_only, no_greater, no_verbatim_value, no_verbatim_end}
use Rattle.yaml_mark.proofs.tag.read_verbatim.Goals as goal

pub returns-in-None-clause-refused : goal.returns-in-None-clause-refused
returns-in-None-clause-refused c =
    let cs = text_of c.args.source.now in
    let e = c.skip_escaped-end.ensures in
    λ hs. no_greater cs _ _ _ c.requires.angle c.requires.next (spans_map (uri_is cs) e.spans) (λ m r. e.furthest m (is_uri_char cs _ m r)) hs c.in-None.ensures.none

pub returns-in-None-2-clause-refused : goal.returns-in-None-2-clause-refused
returns-in-None-2-clause-refused c =
    let cs = text_of c.args.source.now in
    let e = c.skip_escaped-end.ensures in
    let t = ascii_text cs c.text_between.result.now _ _ c.text_between.utf8 c.text_between.ensures (low_spans cs is_uri uri_low e.spans) in
    λ hs. no_verbatim_value cs _ _ _ c.requires.angle c.requires.next (spans_map (uri_is cs) e.spans) (λ m r. e.furthest m (is_uri_char cs _ m r)) hs
    (sym (ap decoded t) ∙ sym c.in_ok-decode-in-Some.ensures.ok ∙ ap (option_map (λ x. full (cow_str_bytes x))) c.in-None-2.is)

pub returns-then-stands-clause-refused : goal.returns-then-stands-clause-refused
returns-then-stands-clause-refused c =
    let cs = text_of c.args.source.now in
    let e = c.skip_escaped-end.ensures in
    λ hs. no_verbatim_end cs _ _ _ c.requires.angle c.requires.next (spans_map (uri_is cs) e.spans) (λ m r. e.furthest m (is_uri_char cs _ m r)) hs
    _ c.in-Some.ensures.some.next (on_true_at c.stands.result c.if-stands.true c.stands.ensures.yes)

pub returns-else-stands-clause-only : goal.returns-else-stands-clause-only
returns-else-stands-clause-only c =
    let cs = text_of c.args.source.now in
    let e = c.skip_escaped-end.ensures in
    let s = c.in-Some.ensures.some in
    let t = ascii_text cs c.text_between.result.now _ _ c.text_between.utf8 c.text_between.ensures (low_spans cs is_uri uri_low e.spans) in
    λ hs. verbatim_only cs _ _ _ _ _ c.requires.bang c.requires.angle c.requires.next (spans_map (uri_is cs) e.spans) (λ m r. e.furthest m (is_uri_char cs _ m r))
    s.is s.next (sym (ap decoded t) ∙ sym c.in_ok-decode-in-Some.ensures.ok ∙ ap (option_map (λ x. full (cow_str_bytes x))) c.in-Some-2.is) (on_false_at c.stands.result c.if-stands.false c.stands.ensures.no) hs
