use Rattle.std.proofs.Common.{◌≡◌, ◌∙◌, Bool, true, ap, ap₂}
use Rattle.std.proofs.lemmas.Result.{IfOk-weaker}
use Rattle.clap.specs.Words.{App, app_of, with_subcommand}
use Rattle.clap.proofs.SimpleLemmas.{plain_fields}
use Rattle.yaml_args.specs.Grammar.{canon_app, check_app, events_app, same_app, top_app}
use Rattle.yaml_args.proofs.words.grammar.Goals as goal

abbrev as_top : App → App
as_top app = record app {
  top = record app.top {
    no_binary_name = true;
    subcommand_required = true;
    disable_help_flag = true;
    disable_version_flag = true;
    disable_help_subcommand = true;
  };
}

-- whether a command has no global argument, among others
abbrev plainly : App → Bool
plainly app = app.top.is_plain

pub returns : goal.returns
returns c =
    let canon_is : app_of c.in_ok-canon.canon ≡ canon_app = c.in_ok-canon.ensures in
    let same_is : app_of c.in_ok-same.same ≡ same_app = c.in_ok-same.ensures in
    let events_is : app_of c.in_ok-events.events ≡ events_app = c.in_ok-events.ensures in
    let check_is : app_of c.in_ok-check.check ≡ check_app = c.in_ok-check.ensures in
    let canon_own = (plain_fields c.in_ok-canon.canon (ap plainly canon_is)).globals in
    let same_own = (plain_fields c.in_ok-same.same (ap plainly same_is)).globals in
    let events_own = (plain_fields c.in_ok-events.events (ap plainly events_is)).globals in
    let check_own = (plain_fields c.in_ok-check.check (ap plainly check_is)).globals in
    let top_is : app_of c.disable_help_subcommand.result ≡ top_app =
    rw (c.disable_help_subcommand.ensures, c.disable_version_flag.ensures, c.disable_help_flag.ensures, c.subcommand_required.ensures, c.no_binary_name.ensures)
    (ap as_top c.new.ensures.app) in
    let with_canon : app_of c.in_ok-whole.whole ≡ with_subcommand top_app canon_app.top = c.in_ok-whole.ensures.shape canon_own ∙ ap₂ with_subcommand top_is (ap (λ (a : App). a.top) canon_is) in
    let with_same = c.in_ok-whole-2.ensures.shape same_own ∙ ap₂ with_subcommand with_canon (ap (λ (a : App). a.top) same_is) in
    let with_events = c.in_ok-whole-3.ensures.shape events_own ∙ ap₂ with_subcommand with_same (ap (λ (a : App). a.top) events_is) in
    IfOk-weaker c.subcommand-4.result _ _ (λ r h. h.shape check_own ∙ ap₂ with_subcommand with_events (ap (λ (a : App). a.top) check_is)) c.subcommand-4.ensures
