use Rattle.std.proofs.Common.{◌-◌, ◌≤◌, length}
use Rattle.std.specs.Prelude.{slice_range}
use Rattle.yaml_text.specs.Source.{text_of, place_of, IsBorder}
use Rattle.yaml_definitions.specs.grammar.Rules.{any, run}
use Rattle.yaml_definitions.specs.grammar.Characters.{is_white}
use Rattle.yaml_scalar.specs.Chains.{quoted_more}
use Rattle.yaml_scalar.proofs.quoted.quoted_run.Given as goal

abbrev pub invariant-line : goal.invariant-line
invariant-line l = record {
  border : IsBorder l.source l.here;
  ends : IsBorder l.source l.end;
  onward : l.from ≤ l.end;
  further : l.end ≤ l.here;
  whites : run (text_of l.source) is_white (place_of l.source l.end) (place_of l.source l.here);
  line : any (quoted_more (text_of l.source) l.quote) (place_of l.source l.from) (place_of l.source l.end)
      (slice_range (text_of l.source) (place_of l.source l.from) (place_of l.source l.end));
}

abbrev pub decreases-line : goal.decreases-line
decreases-line l = length l.source.text.now - l.here
