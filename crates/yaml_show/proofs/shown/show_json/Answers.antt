use Rattle.std.proofs.Common.{[], ◌∙◌, ap, subst, map}
use Rattle.std.specs.List.{All}
use Rattle.std.specs.String.{string_bytes}
use Rattle.std.proofs.lemmas.List.Elements.{All-map}
use Rattle.yaml_show.specs.Alike.{MeanAlike}
use Rattle.yaml_show.specs.Lines.{IsJsonLine, joined, document_start}
use Rattle.yaml_show.proofs.shown.show_json.Goals as goal

pub returns-clause-lines : goal.returns-clause-lines
returns-clause-lines c =
    let items = c.in_ok-lines.lines.items in
    let stream = c.as_str.ensures.value ∙ c.in_ok-stream.ensures.ok ∙ ap (λ z. joined document_start (map string_bytes z)) c.deref-2.ensures.value in
    record {
      lines = map string_bytes items;
      text_is = c.in_ok-join.ensures.ok ∙ ap (λ z. joined [] (map string_bytes z)) c.deref-3.ensures.value;
      json = All-map IsJsonLine string_bytes items (subst (All (λ line. IsJsonLine (string_bytes line))) c.deref.ensures.value (c.in_ok-are_json_lines.ensures.json c.if-not-branch.false));
      theirs = c.in_ok-lines.ensures.lines;
      alike = subst (MeanAlike c.args.bytes.now) stream (c.in_ok-is_alike.ensures.alike c.if-not-branch-2.false);
    }

pub returns-then-not-branch-clause-refused : goal.returns-then-not-branch-clause-refused
returns-then-not-branch-clause-refused c =
    let m = c.in_ok-lines.ensures.means in
    (m.0, m.1, (c.in_ok-lines.ensures.lines m.0 m.1).has)

pub returns-then-not-branch-2-clause-refused : goal.returns-then-not-branch-2-clause-refused
returns-then-not-branch-2-clause-refused c =
    let m = c.in_ok-lines.ensures.means in
    (m.0, m.1, (c.in_ok-lines.ensures.lines m.0 m.1).has)
