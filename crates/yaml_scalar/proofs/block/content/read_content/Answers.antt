use Rattle.std.proofs.Common.{◌≡◌, ◌++◌, replicate, arith, refl, sym, ◌∙◌, ap, subst}
use Rattle.std.specs.Prelude.{slice_range}
use Rattle.std.specs.Str.{chars}
use Rattle.std.specs.String.{string_bytes}
use Rattle.std.proofs.lemmas.Str.{chars-nil}
use Rattle.yaml_text.specs.Source.{text_of, place_of}
use Rattle.yaml_definitions.specs.grammar.BlockScalars.{is_given, is_spaced}
use Rattle.yaml_scalar.specs.BlockRules.{block_lines}
use Rattle.yaml_scalar.specs.BlockModel.{chomp_of, header_of, glue, shape, are_folded}
use Rattle.yaml_scalar.specs.declared.block.content.Before.TheVariants.{Nothing}
use Rattle.yaml_scalar.proofs.ContentLemmas.{Sofar, sofar_at, sofar_start, sofar_empty, sofar_text, sofar_over, spaced_is, few_breaks}
use Rattle.yaml_scalar.proofs.block.content.read_content.Goals as goal

pub lines-init : goal.lines-init
lines-init c =
    let cs = text_of c.args.source.now in
    let s = c.in-Ok.ensures in
    record {
      border = s.border;
      onward = omega (arith, s.onward);
      counted = omega (arith, s.onward);
      after = s.after;
      sofar = subst (λ v. Sofar cs c.args.is_folded (chomp_of c.args.header.chomp) (is_given c.args.header.digit) c.in-Ok.start.indent
          (place_of c.args.source.now c.args.at) (place_of c.args.source.now c.in-Ok.start.line) v Nothing c.in-Ok.start.empty) (sym (ap chars c.new-text.ensures.bytes ∙ chars-nil))
          (sofar_start cs _ _ _ _ _ _ _ s.empty s.ready);
    }

pub lines-preserved-in-Empty : goal.lines-preserved-in-Empty
lines-preserved-in-Empty c =
    let v = c.lines.invariant in
    let l = c.in-Empty.ensures in
    record {
      border = l.border;
      onward = omega (arith, v.onward, l.forward);
      counted = omega (arith, v.counted, l.forward);
      after = l.after;
      sofar = sofar_empty (text_of c.args.source.now) _ _ _ _ _ _ _ _ _ _ v.sofar l.line;
    }

pub lines-preserved : goal.lines-preserved
lines-preserved c =
    let cs = text_of c.args.source.now in
    let v = c.lines.invariant in
    let l = c.in-Text.ensures in
    let xs = chars (string_bytes c.lines.text) in
    let t = slice_range cs (place_of c.args.source.now c.in-Text.from) (place_of c.args.source.now c.in-Text.to) in
    let spaced : c.is_spaced-spaced.result ≡ is_spaced t = spaced_is cs _ _ _ l.some l.begins c.is_spaced-spaced.ensures.yes c.is_spaced-spaced.ensures.no in
    let glued : c.are_folded.result ≡ are_folded c.args.is_folded c.lines.before (is_spaced t) = c.are_folded.ensures ∙ ap (are_folded c.args.is_folded c.lines.before) spaced in
    let whole : chars (string_bytes c.push_between.new.text) ≡ (xs ++ glue (are_folded c.args.is_folded c.lines.before (is_spaced t)) c.lines.breaks) ++ t =
    c.in_ok-push_between-in-Text.ensures ∙ ap (λ v. v ++ t) (c.in_ok-push_breaks-in-Text.ensures ∙ ap (λ v. xs ++ glue v c.lines.breaks) glued) in
    record {
      border = l.border;
      onward = omega (arith, v.onward, l.forward);
      counted = omega (arith, l.forward, c.breaks_of-breaks.ensures, few_breaks c.in-Text.is_ended);
      after = l.after;
      sofar = sofar_at cs _ _ _ _ _ _ (sofar_text cs _ _ _ _ _ _ _ _ _ _ _ t v.sofar l.line l.last) whole (c.shape-before.ensures ∙ ap shape spaced) c.breaks_of-breaks.ensures;
    }

pub returns-in-Over-clause-lines : goal.returns-in-Over-clause-lines
returns-in-Over-clause-lines c =
    let cs = text_of c.args.source.now in
    let xs = chars (string_bytes c.lines.text) in
    subst (block_lines cs c.args.is_folded (header_of c.args.header) c.in-Ok.start.indent (place_of c.args.source.now c.args.at) (place_of c.args.source.now c.in-Over.end))
    (sym (c.in_ok-push_lines-in-Over.ensures ∙ ap (λ n. xs ++ replicate n 10) c.last_breaks.ensures))
    (sofar_over cs _ c.args.header.chomp (header_of c.args.header) _ _ _ _ _ _ _ refl c.lines.invariant.sofar c.in-Over.ensures.over)
