use Rattle.std.proofs.Common.{ap, ◌∙◌, arith}
use Rattle.yaml_text.specs.Source.{text_of, place_of}
use Rattle.yaml_text.proofs.PlaceLemmas.{starts_at}
use Rattle.yaml_text.proofs.Tests.{on_false_at, on_true_at}
use Rattle.yaml_mark.proofs.CommentLemmas.{uncut, return_before, is_cut_here}
use Rattle.yaml_mark.proofs.comments.is_cut.Goals as goal

pub returns-in-None-clause-no : goal.returns-in-None-clause-no
returns-in-None-clause-no c = uncut (text_of c.args.source.now) _ (λ b h. c.in-None.ensures.none h)

pub returns-then-at-eq0-clause-no : goal.returns-then-at-eq0-clause-no
returns-then-at-eq0-clause-no c = uncut (text_of c.args.source.now) _ (λ b h. omega (arith, b.0, ap (place_of c.args.source.now) c.if-at-eq0.true ∙ starts_at c.args.source.now.text.now))

pub returns-then-not-is_border-clause-no : goal.returns-then-not-is_border-clause-no
returns-then-not-is_border-clause-no c = uncut (text_of c.args.source.now) _ (λ b h.
    on_false_at c.is_border.result c.if-not-is_border.true c.is_border.ensures.no (return_before c.args.source.now c.args.at c.requires b).0)

pub returns-in-None-accept-clause-no : goal.returns-in-None-accept-clause-no
returns-in-None-accept-clause-no c = uncut (text_of c.args.source.now) _ (λ b h.
    c.in-None-accept.ensures.none (return_before c.args.source.now c.args.at c.requires b).1)

pub returns-in-Some-accept-clause-yes : goal.returns-in-Some-accept-clause-yes
returns-in-Some-accept-clause-yes c =
    is_cut_here c.args.source.now c.args.at _ c.requires c.if-at-eq0.false c.in-Some.ensures.some.is
    (on_true_at c.is_border.result c.if-not-is_border.false c.is_border.ensures.yes) c.in-Some-accept.ensures.some
