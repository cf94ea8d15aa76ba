use Rattle.std.proofs.Common.{sym, ◌∙◌, ap, subst}
use Rattle.yaml_definitions.specs.model.Limits.{text_limit}
use Rattle.yaml_show_scalar.specs.Stops.{Stops}
use Rattle.yaml_show.specs.Refused.{RefusesBy}
use Rattle.yaml_show.specs.Shows.{arranged_by, written_by}
use Rattle.yaml_canon.proofs.SpelledLaws.{spelled-rooted}
use Rattle.yaml_show.proofs.ShownLaws.{stop_shown}
use Rattle.yaml_show.proofs.StreamLaws.{sorted_are, sorted_is}
use Rattle.yaml_show.proofs.presenting.text_by_key.Goals as goal

pub text_by-requires : goal.text_by-requires
text_by-requires c = spelled-rooted c.args.bytes.now c.in_ok-forest.forest c.deref.result.now c.in_ok-forest.ensures.ranks c.deref.ensures.value c.in_ok-ranks.ranks c.in_ok-ranks.ensures.same c.in_ok-ranks.ensures.spells

pub returns-in-Ok-clause-text : goal.returns-in-Ok-clause-text
returns-in-Ok-clause-text c = λ f m.
    c.in-Ok.ensures.ok ∙ ap (arranged_by c.args.shares) (sorted_is c.args.bytes.now c.in_ok-forest.forest c.deref.result.now c.in_ok-forest.ensures.ranks c.deref.ensures.value c.in_ok-ranks.ranks c.in_ok-ranks.ensures.same f m)

pub returns-clause-refused : goal.returns-clause-refused
returns-clause-refused c =
    let has = c.in_ok-forest.ensures.ranks in
    let e = sorted_are c.args.bytes.now c.in_ok-forest.forest c.deref.result.now has c.deref.ensures.value c.in_ok-ranks.ranks c.in_ok-ranks.ensures.same in
    subst (RefusesBy (written_by c.args.shares) c.args.bytes.now) (sym c.stopped.ensures) (stop_shown (written_by c.args.shares) c.args.bytes.now has.trees c.in-Err.stop has.means (subst (λ z. Stops text_limit (arranged_by c.args.shares z) c.in-Err.stop) e c.in-Err.ensures.err))
