use Rattle.std.proofs.Common.{◌≡◌, ◌∙◌, Option, Some, None, option_map, refl, sym, ap, ap₂, codes}
use Rattle.std.specs.Borrow.{Bor}
use Rattle.clap.specs.Words.{Text, first_of, first_value, found_of, rows_of}
use Rattle.clap.specs.declared.parser.matches.Found.{Found}
use Rattle.clap.proofs.WalkLemmas.{first_value-rows}
use Rattle.yaml_args.specs.Words.{call_of}
use Rattle.yaml_args.specs.Grammar.{call_in, with_one, with_two}
use Rattle.yaml_args.specs.declared.words.Asked.TheVariants.{Canon, Events}
use Rattle.yaml_args.proofs.words.chosen.Goals as goal

canon_call : (o : Option (Bor Text)) → call_of (Canon o) ≡ with_one (codes "canon") (option_map (λ s. s.now) o)
canon_call None = refl
canon_call (Some file) = refl

events_call : (o : Option (Bor Text)) → call_of (Events o) ≡ with_one (codes "events") (option_map (λ s. s.now) o)
events_call None = refl
events_call (Some file) = refl

-- what was found, by the rows
found_is : (f : Found) (id : Text) (r : Option (Bor Text)) (o : Option Text) → option_map (λ s. s.now) r ≡ first_value f id → option_map (λ s. s.now) r ≡ o → o ≡ first_of id (rows_of f)
found_is f id r o e is = sym is ∙ e ∙ first_value-rows f id

no_first : (name : Text) (b : Option Text) → with_two name None b ≡ None
no_first name b = refl

pub returns-in-canon : goal.returns-in-canon
returns-in-canon c =
    let rows = rows_of (found_of c.args.files.now) in
    let o = found_is (found_of c.args.files.now) (codes "FILE") c.get_str.result _ c.get_str.ensures refl in
    ap Some (canon_call c.get_str.result ∙ ap (with_one (codes "canon")) o) ∙ ap (λ (n : Text). call_in n rows) (sym c.in-canon.is)

pub returns-in-events : goal.returns-in-events
returns-in-events c =
    let rows = rows_of (found_of c.args.files.now) in
    let o = found_is (found_of c.args.files.now) (codes "FILE") c.get_str-in-events.result _ c.get_str-in-events.ensures refl in
    ap Some (events_call c.get_str-in-events.result ∙ ap (with_one (codes "events")) o) ∙ ap (λ (n : Text). call_in n rows) (sym c.in-events.is)

pub returns-in_err-get_str-in-same : goal.returns-in_err-get_str-in-same
returns-in_err-get_str-in-same c =
    let rows = rows_of (found_of c.args.files.now) in
    let o = found_is (found_of c.args.files.now) (codes "A") c.get_str-in-same.result None c.get_str-in-same.ensures (ap (option_map (λ s. s.now)) c.in_err-get_str-in-same.was) in
    ap (option_map call_of) c.from_residual.ensures ∙ ap (λ (a : Option Text). with_two (codes "same") a (first_of (codes "B") rows)) o ∙ ap (λ (n : Text). call_in n rows) (sym c.in-same.is)

pub returns-in_err-get_str-in-same-2 : goal.returns-in_err-get_str-in-same-2
returns-in_err-get_str-in-same-2 c =
    let rows = rows_of (found_of c.args.files.now) in
    let a = found_is (found_of c.args.files.now) (codes "A") c.get_str-in-same.result (Some c.in_ok-get_str-in-same.field-0.now) c.get_str-in-same.ensures (ap (option_map (λ s. s.now)) c.in_ok-get_str-in-same.was) in
    let b = found_is (found_of c.args.files.now) (codes "B") c.get_str-in-same-2.result None c.get_str-in-same-2.ensures (ap (option_map (λ s. s.now)) c.in_err-get_str-in-same-2.was) in
    ap (option_map call_of) c.from_residual-in_err-get_str-in-same-2.ensures ∙ ap₂ (with_two (codes "same")) a b ∙ ap (λ (n : Text). call_in n rows) (sym c.in-same.is)

pub returns-in_ok-get_str-in-same-2 : goal.returns-in_ok-get_str-in-same-2
returns-in_ok-get_str-in-same-2 c =
    let rows = rows_of (found_of c.args.files.now) in
    let a = found_is (found_of c.args.files.now) (codes "A") c.get_str-in-same.result (Some c.in_ok-get_str-in-same.field-0.now) c.get_str-in-same.ensures (ap (option_map (λ s. s.now)) c.in_ok-get_str-in-same.was) in
    let b = found_is (found_of c.args.files.now) (codes "B") c.get_str-in-same-2.result (Some c.in_ok-get_str-in-same-2.field-0.now) c.get_str-in-same-2.ensures (ap (option_map (λ s. s.now)) c.in_ok-get_str-in-same-2.was) in
    ap₂ (with_two (codes "same")) a b ∙ ap (λ (n : Text). call_in n rows) (sym c.in-same.is)

pub returns-in_err-get_str-in-check : goal.returns-in_err-get_str-in-check
returns-in_err-get_str-in-check c =
    let rows = rows_of (found_of c.args.files.now) in
    let o = found_is (found_of c.args.files.now) (codes "FILE") c.get_str-in-check.result None c.get_str-in-check.ensures (ap (option_map (λ s. s.now)) c.in_err-get_str-in-check.was) in
    ap (option_map call_of) c.from_residual-in_err-get_str-in-check.ensures ∙ ap (λ (a : Option Text). with_two (codes "check") a (first_of (codes "EVENTS") rows)) o ∙ ap (λ (n : Text). call_in n rows) (sym c.in-check.is)

pub returns-in_err-get_str-in-check-2 : goal.returns-in_err-get_str-in-check-2
returns-in_err-get_str-in-check-2 c =
    let rows = rows_of (found_of c.args.files.now) in
    let a = found_is (found_of c.args.files.now) (codes "FILE") c.get_str-in-check.result (Some c.in_ok-get_str-in-check.field-0.now) c.get_str-in-check.ensures (ap (option_map (λ s. s.now)) c.in_ok-get_str-in-check.was) in
    let b = found_is (found_of c.args.files.now) (codes "EVENTS") c.get_str-in-check-2.result None c.get_str-in-check-2.ensures (ap (option_map (λ s. s.now)) c.in_err-get_str-in-check-2.was) in
    ap (option_map call_of) c.from_residual-in_err-get_str-in-check-2.ensures ∙ ap₂ (with_two (codes "check")) a b ∙ ap (λ (n : Text). call_in n rows) (sym c.in-check.is)

pub returns-in_ok-get_str-in-check-2 : goal.returns-in_ok-get_str-in-check-2
returns-in_ok-get_str-in-check-2 c =
    let rows = rows_of (found_of c.args.files.now) in
    let a = found_is (found_of c.args.files.now) (codes "FILE") c.get_str-in-check.result (Some c.in_ok-get_str-in-check.field-0.now) c.get_str-in-check.ensures (ap (option_map (λ s. s.now)) c.in_ok-get_str-in-check.was) in
    let b = found_is (found_of c.args.files.now) (codes "EVENTS") c.get_str-in-check-2.result (Some c.in_ok-get_str-in-check-2.field-0.now) c.get_str-in-check-2.ensures (ap (option_map (λ s. s.now)) c.in_ok-get_str-in-check-2.was) in
    ap₂ (with_two (codes "check")) a b ∙ ap (λ (n : Text). call_in n rows) (sym c.in-check.is)
