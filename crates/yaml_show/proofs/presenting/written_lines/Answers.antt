use Rattle.std.proofs.Common.{◌≡◌, true, map, ◌∙◌, ap, subst}
use Rattle.std.specs.List.{list_all}
use Rattle.yaml_definitions.specs.model.Limits.{text_limit}
use Rattle.yaml_canon.proofs.SpelledLaws.{spelled-rooted}
use Rattle.yaml_show.specs.JsonText.{json_text, line_stream}
use Rattle.yaml_show.specs.JsonTrees.{has_json, Lacks, Overruns}
use Rattle.yaml_show.proofs.StreamLaws.{sorted_are, sorted_is}
use Rattle.yaml_show.proofs.presenting.written_lines.Goals as goal

pub json_lines-requires : goal.json_lines-requires
json_lines-requires c = spelled-rooted c.args.bytes.now c.in_ok-forest.forest c.deref.result.now c.in_ok-forest.ensures.ranks c.deref.ensures.value c.in-Ok.ranks c.in-Ok.ensures.same c.in-Ok.ensures.spells

pub returns-in-Ok-json_lines-clause-lines : goal.returns-in-Ok-json_lines-clause-lines
returns-in-Ok-json_lines-clause-lines c = λ f m.
    let e = sorted_is c.args.bytes.now c.in_ok-forest.forest c.deref.result.now c.in_ok-forest.ensures.ranks c.deref.ensures.value c.in-Ok.ranks c.in-Ok.ensures.same f m in
    let h = c.in-Ok-json_lines.ensures.ok in
    record { written = h.0 ∙ ap (map json_text) e; has = subst (λ z. list_all has_json z ≡ true) e h.1 }

pub returns-in-Ok-json_lines-clause-means : goal.returns-in-Ok-json_lines-clause-means
returns-in-Ok-json_lines-clause-means c =
    let has = c.in_ok-forest.ensures.ranks in
    (has.trees, has.means)

pub returns-clause-refused : goal.returns-clause-refused
returns-clause-refused c =
    let has = c.in_ok-forest.ensures.ranks in
    let e = sorted_are c.args.bytes.now c.in_ok-forest.forest c.deref.result.now has c.deref.ensures.value c.in-Ok.ranks c.in-Ok.ensures.same in
    c.unwritten.ensures c.args.bytes.now has.trees has.means
    (λ f m. subst (λ z. Lacks (list_all has_json z) c.in-Err.why) (sorted_is c.args.bytes.now c.in_ok-forest.forest c.deref.result.now has c.deref.ensures.value c.in-Ok.ranks c.in-Ok.ensures.same f m) c.in-Err.ensures.err)
    (subst (λ z. Overruns text_limit (line_stream z) c.in-Err.why) e c.in-Err.ensures.stops)
