use Rattle.std.proofs.Common.{option_map, string_bytes, subst}
use Rattle.review_faults.specs.FaultLines.{text_in}
use Rattle.review_faults.specs.Spotted.{IsLineOf}
use Rattle.review_faults.proofs.spotted.spot_fault.Goals as goal

pub returns-clause-ok : goal.returns-clause-ok
returns-clause-ok c = (c.in_ok-told.told, c.in_ok-told.ensures.ok, c.shown_place.ensures)

pub returns-clause-told : goal.returns-clause-told
returns-clause-told c =
    let line = option_map string_bytes c.in_ok-line_of.field-0 in
    record {
      told = c.in_ok-told.told;
      is_told = c.in_ok-told.ensures.ok;
      place = c.shown_place.ensures;
      path = c.in_ok-path_of.ensures.ok;
      words = c.in_ok-words_of.ensures.ok;
      line = subst (λ p. IsLineOf (text_in c.args.bytes.now) p line) c.shown.ensures (subst (λ t. IsLineOf t c.shown.result line) c.unmarked-text.ensures c.in_ok-line_of.ensures.ok);
    }
