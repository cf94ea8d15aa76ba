use Rattle.std.proofs.Common.{ℕ, ◌-◌, ◌<◌, ◌≤◌, length, replicate}
use Rattle.std.specs.Str.{chars}
use Rattle.std.specs.String.{string_bytes}
use Rattle.yaml_text.specs.Place.{Steps}
use Rattle.yaml_text.specs.Source.{text_of, place_of, IsBorder}
use Rattle.yaml_text.specs.EventModel.{context_of}
use Rattle.yaml_scalar.specs.Chains.{folds, folded_breaks, Later}
use Rattle.yaml_definitions.specs.grammar.Separation.{DocumentMark}
use Rattle.yaml_scalar.proofs.PlainLemmas.{Sofar}
use Rattle.yaml_scalar.proofs.plain.plain_from.Given as goal

abbrev pub invariant-lines : goal.invariant-lines
invariant-lines l =
    let cs = text_of l.source in
    let at = place_of l.source in
    record {
      border : IsBorder l.source l.end;
      onward : l.at < l.end;
      begins : IsBorder l.source l.start;
      further : l.end ≤ l.start;
      sofar : Sofar cs l.least (context_of l.context) (at l.at) (at l.end) (chars (string_bytes l.text));
      fold : folds cs l.least (context_of l.context) (at l.end) (at l.start) (folded_breaks (replicate l.count 10));
      later : Later cs (context_of l.context) (at l.start);
      unmarked : DocumentMark cs (at l.start) → ⊥;
      steps : (c : ℕ) × Steps l.source.text.now l.start c l.to;
    }

abbrev pub decreases-lines : goal.decreases-lines
decreases-lines l = length l.source.text.now - l.end
