use Rattle.std.proofs.Common.{sym, ◌∙◌, ap, length}
use Rattle.std.proofs.lemmas.Str.{IsUtf8-had}
use Rattle.yaml_text.proofs.PlaceLemmas.{steps, ends, ends_at}
use Rattle.yaml_text.proofs.places.next_decoded.Goals as goal

pub returns-in-None-clause-none : goal.returns-in-None-clause-none
returns-in-None-clause-none c =
    let text = c.args.source.now.text.now in
    ends text c.args.at (IsUtf8-had text c.args.source.now.utf8) c.requires
    (ap length (sym c.rest-rest.ensures ∙ sym c.chars.ensures.rest) ∙ c.in-None.ensures.steps.0.0)

pub returns-in-Some-clause-some : goal.returns-in-Some-clause-some
returns-in-Some-clause-some c =
    let text = c.args.source.now.text.now in
    rw c.len_utf8.ensures.value
    (steps text c.next.new.self.rest.now c.args.at c.in-Some.c (IsUtf8-had text c.args.source.now.utf8) c.requires
    (sym c.rest-rest.ensures ∙ sym c.chars.ensures.rest ∙ c.in-Some.ensures.steps.0))

pub returns-in-None-clause-end : goal.returns-in-None-clause-end
returns-in-None-clause-end c =
    let text = c.args.source.now.text.now in
    ends_at text c.args.at (IsUtf8-had text c.args.source.now.utf8) c.requires
    (ap length (sym c.rest-rest.ensures ∙ sym c.chars.ensures.rest) ∙ c.in-None.ensures.steps.0.0)
