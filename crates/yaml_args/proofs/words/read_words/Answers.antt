use Rattle.std.proofs.Common.{◌≡◌, ◌∙◌, [], ap, subst, sym, map, option_map, string_bytes}
use Rattle.std.proofs.lemmas.Result.{IfOk-weaker, err_from_is_err_and}
use Rattle.clap.specs.Words.{App, HasKind, fault_of, found_of, is_simple, is_simple_and_free, rows_of, subcommand_of, subcommand_rows_of}
use Rattle.clap.specs.Matches.{subcommand_name_of}
use Rattle.yaml_args.specs.Words.{call_of}
use Rattle.yaml_args.specs.Grammar.{whole_app}
use Rattle.yaml_args.proofs.Parsing.{Answers, Entered, HasCall, are_texts, call_chosen, entered_call, has_call, joined, one_call, whole_is_free, whole_is_simple, words_fail}
use Rattle.yaml_args.proofs.words.read_words.Goals as goal

pub returns-in_err-matches-clause-err : goal.returns-in_err-matches-clause-err
returns-in_err-matches-clause-err c =
    let words = map string_bytes c.args.words.now in
    let e = c.in_err-matches.field-0.0 in
    let is = c.in_ok-grammar.ensures in
    let has = subst (λ (a : App). HasKind (fault_of a words) e) is (c.in_err-matches.ensures.kinds (ap is_simple_and_free is ∙ whole_is_free)) in
    let p = err_from_is_err_and c.from_residual-in_err-matches.result c.from_residual-in_err-matches.ensures.1 in
    rw (p.1, p.2) (words_fail words (are_texts c.args.words.now) _ has)

pub returns : goal.returns
returns c =
    let words = map string_bytes c.args.words.now in
    let m = c.in_ok-matches.matches in
    let is = c.in_ok-grammar.ensures in
    let none : fault_of whole_app words ≡ [] = subst (λ (a : App). fault_of a words ≡ []) is (c.in_ok-matches.ensures.kinds (ap is_simple_and_free is ∙ whole_is_free)) in
    let below : subcommand_rows_of m ≡ subcommand_of whole_app words = (c.in_ok-matches.ensures.matches (ap is_simple is ∙ whole_is_simple)).1 ∙ ap (λ (a : App). subcommand_of a words) is in
    let call : HasCall words (subcommand_rows_of m) = subst (HasCall words) (sym below) (has_call words (are_texts c.args.words.now) none) in
    let entered : Entered words (subcommand_name_of m) (option_map (λ p. p.1) (subcommand_rows_of m)) = entered_call _ _ _ words call in
    let given = c.in_ok-name.ensures.ok_part in
    let parsed = joined words c.in_ok-name.name.now (rows_of (found_of c.in_ok-name.files.now)) _ _ entered
    (ap (option_map (λ p. p.0.now)) (sym given) ∙ c.subcommand.ensures.name) (ap (option_map (λ p. rows_of (found_of p.1.now))) (sym given) ∙ c.subcommand.ensures.rows) in
    let a = subst (Answers words) (sym c.ok_or-2.ensures.value) (call_chosen words c.chosen.result _ _ parsed c.chosen.ensures) in
    record {
      ok = a.0;
      alone = IfOk-weaker c.ok_or-2.result _ _ (λ asked asks other others. one_call words (call_of other) (call_of asked) others asks) a.0;
      err = a.1;
    }
