use Rattle.std.proofs.Common.{◌≡◌, ◌∙◌, None, ap, map, option_map, string_bytes, sym}
use Rattle.std.proofs.lemmas.Result.{err_from_is_err_and}
use Rattle.clap.specs.Words.{found_of, rows_of}
use Rattle.clap.specs.Walk.{texts}
use Rattle.review_args.specs.Words.{git_words}
use Rattle.review_args.proofs.Adding.{is_judged, is_read}
use Rattle.review_args.proofs.Parsing.{asked_in, by_clap, entered_is, refused_in}
use Rattle.review_args.proofs.reading.read_words.Goals as goal

pub returns-in_err-matches-clause-err : goal.returns-in_err-matches-clause-err
returns-in_err-matches-clause-err c =
    let words = map string_bytes c.args.words.now in
    let other : git_words words ≡ None = sym c.git_words.ensures ∙ ap (option_map (λ p. map string_bytes p.now)) c.in_default.is in
    let is = c.in_ok-grammar.ensures in
    let p = err_from_is_err_and c.from_residual-in_err-matches.result c.from_residual-in_err-matches.ensures.1 in
    rw (p.1, p.2) (by_clap words other _ is _ (c.in_err-matches.ensures.kinds (is_judged _ is)))

pub returns-in-Some-subcommand-clause-ok : goal.returns-in-Some-subcommand-clause-ok
returns-in-Some-subcommand-clause-ok c =
    let words = map string_bytes c.args.words.now in
    let other : git_words words ≡ None = sym c.git_words.ensures ∙ ap (option_map (λ p. map string_bytes p.now)) c.in_default.is in
    let is = c.in_ok-grammar.ensures in
    let below = (c.in_ok-matches.ensures.matches (is_read _ is)).1 in
    let name = c.in-Some-subcommand.name.now in
    let rows = rows_of (found_of c.in-Some-subcommand.inner.now) in
    let found = sym below ∙ entered_is _ _ _ name rows c.in-Some-subcommand.ensures.name c.in-Some-subcommand.ensures.rows in
    asked_in words other _ is (c.in_ok-matches.ensures.kinds (is_judged _ is)) (texts c.args.by.now) c.args.is_terminal name rows found c.asked_of.result c.asked_of.ensures.ok

pub returns-in-Some-subcommand-clause-err : goal.returns-in-Some-subcommand-clause-err
returns-in-Some-subcommand-clause-err c =
    let words = map string_bytes c.args.words.now in
    let other : git_words words ≡ None = sym c.git_words.ensures ∙ ap (option_map (λ p. map string_bytes p.now)) c.in_default.is in
    let is = c.in_ok-grammar.ensures in
    let below = (c.in_ok-matches.ensures.matches (is_read _ is)).1 in
    let name = c.in-Some-subcommand.name.now in
    let rows = rows_of (found_of c.in-Some-subcommand.inner.now) in
    let found = sym below ∙ entered_is _ _ _ name rows c.in-Some-subcommand.ensures.name c.in-Some-subcommand.ensures.rows in
    refused_in words other _ is (c.in_ok-matches.ensures.kinds (is_judged _ is)) name rows found c.asked_of.result c.asked_of.ensures.err
