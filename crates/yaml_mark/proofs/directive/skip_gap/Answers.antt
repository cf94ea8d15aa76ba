use Rattle.std.proofs.Common.{arith}
use Rattle.std.proofs.lemmas.Str.{IsUtf8-had}
use Rattle.yaml_text.specs.Source.{text_of}
use Rattle.yaml_text.proofs.PlaceLemmas.{place_less}
use Rattle.yaml_text.proofs.LineRuns.{indent_run}
use Rattle.yaml_mark.proofs.directive.skip_gap.Goals as goal

pub returns-clause-spaces : goal.returns-clause-spaces
returns-clause-spaces c =
    let e = c.skip_spaces-to.ensures in (
      indent_run (text_of c.args.source.now) _ _ _ e.spaces,
      place_less _ _ _ (IsUtf8-had c.args.source.now.text.now c.args.source.now.utf8) c.requires.from e.border (omega (arith, e.onward, c.if-to-from.false)),
    )
