use Rattle.std.proofs.Common.{refl}
use Rattle.std.specs.Prelude.{◌==◌}
use Rattle.yaml_text.specs.Source.{text_of, place_of}
use Rattle.yaml_definitions.specs.grammar.Characters.{is_space}
use Rattle.yaml_definitions.specs.grammar.Rules.{Spans}
use Rattle.yaml_text.proofs.Tests.{on_true_at}
use Rattle.yaml_text.proofs.Runs.{run_none}
use Rattle.yaml_text.proofs.LineRuns.{indent_run, line_end_stops}
use Rattle.yaml_text.proofs.RestLemmas.{blank_end, no_comment_line}
use Rattle.yaml_mark.proofs.StartLemmas.{no_blank_text}
use Rattle.yaml_mark.proofs.CommentLemmas.{rest_comments}
use Rattle.yaml_layout.proofs.line.text_below.Goals as goal

pub returns-else-not-begins_text-clause-line : goal.returns-else-not-begins_text-clause-line
returns-else-not-begins_text-clause-line c =
    let cs = text_of c.args.source.now in
    let s = c.skip_spaces-spaces.ensures in
    let text = on_true_at c.begins_text.result c.if-not-begins_text.false c.begins_text.ensures in
    record {
      start = c.in-Some.ensures.border;
      first = s.border;
      spaces = s.spaces;
      wide = s.counted;
      all = s.furthest;
      stuck = no_comment_line cs _ (no_blank_text cs _ _ (indent_run cs _ _ _ s.spaces) s.furthest text);
    }

pub returns-else-not-begins_text-clause-comments : goal.returns-else-not-begins_text-clause-comments
returns-else-not-begins_text-clause-comments c =
    let cs = text_of c.args.source.now in
    let i = place_of c.args.source.now c.args.at in
    let end = c.in-Some.ensures.some in
    rest_comments cs i _ _ (blank_end cs i i _ (run_none cs is_space i) end) (λ h. line_end_stops cs (λ c. c == 35) refl refl i _ end (35, h, refl)) (Spans.done refl)
