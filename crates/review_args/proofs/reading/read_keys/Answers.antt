use Rattle.std.proofs.Common.{◌∙◌, None, Some, ap, map, string_bytes, sym}
use Rattle.std.proofs.lemmas.Result.{IfOk-weaker}
use Rattle.clap.specs.Words.{found_of, rows_of}
use Rattle.clap.specs.Walk.{texts}
use Rattle.review_args.proofs.Adding.{is_judged, is_read}
use Rattle.review_args.proofs.Parsing.{entered_is, keys_of_command, keys_of_none, none_entered}
use Rattle.review_args.proofs.reading.read_keys.Goals as goal
use Rattle.review_args.proofs.reading.read_keys.Goals.{in-OutOfMemory, in_default}

pub returns-in-Err : goal.returns-in-Err
returns-in-Err c =
    let words = map string_bytes c.args.words.now in
    let is = c.in_ok-grammar.ensures in
    elim c.match-kind.branch [
      | in-OutOfMemory w ↦ rw w.result-is tt
      | in_default w ↦ rw w.result-is (keys_of_none words (texts w.new.result.items) _ is _ (c.in-Err.ensures.kinds (is_judged _ is)) (λ memory. w.in_default.not-OutOfMemory (c.kind.ensures ∙ memory)))
    ]

pub returns-in-Some : goal.returns-in-Some
returns-in-Some c =
    let words = map string_bytes c.args.words.now in
    let is = c.in_ok-grammar.ensures in
    let below = (c.in-Ok.ensures.matches (is_read _ is)).1 in
    let name = c.in-Some.name.now in
    let rows = rows_of (found_of c.in-Some.inner.now) in
    let found = sym below ∙ entered_is _ _ _ name rows c.in-Some.ensures.name c.in-Some.ensures.rows in
    IfOk-weaker c.keys_of.result _ _ (λ keys are. keys_of_command words (texts keys.items) _ is (Some (name, rows)) found are) c.keys_of.ensures

pub returns : goal.returns
returns c =
    let words = map string_bytes c.args.words.now in
    let is = c.in_ok-grammar.ensures in
    let below = (c.in-Ok.ensures.matches (is_read _ is)).1 in
    let found = sym below ∙ none_entered _ _ _ c.in-None.ensures.name in
    keys_of_command words (texts c.new-in-None.result.items) _ is None found (ap texts c.new-in-None.ensures.items)
