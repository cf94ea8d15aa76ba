use Rattle.std.proofs.Common.{None, [], ◌∷◌, ◌++◌, refl, ◌∙◌, ap}
use Rattle.review_formats.specs.declared.finding.Part.{Part}
use Rattle.review_reports.proofs.pages.as_found.Goals as goal

pub returns : goal.returns
returns c = record {
  ok = (
      let part : Part = record { name = None; list = c.args.list; shown = None; left_out = c.none.result } in
      record {
        command = c.word_of.ensures;
        names = refl;
        part = part;
        parts = c.in_ok-push.ensures.items ∙ ap (λ z. z ++ (part ∷ [])) c.new-parts.ensures.items;
        unnamed = refl;
        listed = refl;
        unshown = refl;
        whole = c.none.ensures;
      });
}
