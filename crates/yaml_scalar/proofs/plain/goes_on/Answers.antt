use Rattle.std.proofs.Common.{◌≡◌, ℕ, nat_eq, ◌≤◌, ◌<◌, ◌∙◌, ap, Some, arith, true, false}
use Rattle.std.proofs.lemmas.Str.{IsUtf8-had}
use Rattle.yaml_text.specs.Source.{text_of, place_of}
use Rattle.yaml_definitions.specs.grammar.Characters.{is_white}
use Rattle.yaml_text.proofs.Tests.{on_true, on_false, on_true_weaker, on_false_weaker}
use Rattle.yaml_text.proofs.PlaceLemmas.{place_less}
use Rattle.yaml_text.proofs.Runs.{no_stand, same_char}
use Rattle.yaml_scalar.proofs.PlainLemmas.{line_hash, line_later, line_stop, hash_stop}
use Rattle.yaml_scalar.proofs.plain.goes_on.Goals as goal

equal : (a b : ℕ) → nat_eq a b ≡ true → a ≡ b
equal a b t = grind (arith, t)

further : (a b : ℕ) → a ≤ b → nat_eq a b ≡ false → a < b
further a b h t = grind (arith, h, t)

pub returns-then-c-eq35-clause-yes : goal.returns-then-c-eq35-clause-yes
returns-then-c-eq35-clause-yes c =
    on_true (nat_eq c.args.end c.args.at) (λ t. line_hash (text_of c.args.source.now) _ _ _ _ (c.requires.steps.is ∙ ap Some c.if-c-eq35.true) (ap (place_of c.args.source.now) (equal c.args.end c.args.at t)) c.requires.steps.next)

pub returns-then-c-eq35-clause-no : goal.returns-then-c-eq35-clause-no
returns-then-c-eq35-clause-no c =
    on_false (nat_eq c.args.end c.args.at) (λ t.
    let further : c.args.end < c.args.at = further c.args.end c.args.at c.requires.onward t in
    hash_stop (text_of c.args.source.now) _ _ _ c.requires.whites (c.requires.steps.is ∙ ap Some c.if-c-eq35.true)
    (place_less _ _ _ (IsUtf8-had c.args.source.now.text.now c.args.source.now.utf8) c.requires.ends c.requires.border further))

pub returns-else-c-eq35-clause-yes : goal.returns-else-c-eq35-clause-yes
returns-else-c-eq35-clause-yes c =
    on_true_weaker c.is_later.result (λ l. line_later (text_of c.args.source.now) _ _ _ _ _ c.requires.whites c.requires.steps.is l c.requires.steps.next) c.is_later.ensures.yes

pub returns-else-c-eq35-clause-no : goal.returns-else-c-eq35-clause-no
returns-else-c-eq35-clause-no c =
    let cs = text_of c.args.source.now in
    on_false_weaker c.is_later.result (λ n. line_stop cs _ _ _ c.requires.whites (no_stand cs is_white _ _ c.requires.steps.is c.requires.text) n
    (λ e h. c.if-c-eq35.false (same_char cs _ _ 35 c.requires.steps.is h))) c.is_later.ensures.no
