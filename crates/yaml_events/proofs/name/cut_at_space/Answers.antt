use Rattle.std.proofs.Common.{arith, ◌≡◌, ◌≢◌, ◌-◌, take, sym, ap, ◌∙◌}
use Rattle.std.proofs.lemmas.List.{append-nil}
use Rattle.std.proofs.lemmas.List.Elements.{All-from_get_or}
use Rattle.std.proofs.lemmas.Str.Pattern.{find_char}
use Rattle.std.specs.Prelude.{Some, None}
use Rattle.yaml_events.proofs.Names.{cut_some}
use Rattle.yaml_events.proofs.name.cut_at_space.Goals as goal

pub returns-in-Some : goal.returns-in-Some
returns-in-Some c =
    let f = find_char 32 c.args.text.now (Some c.in-Some.at) c.in-Some.ensures.cases (omega arith) in
    let n : c.in-Some.at - 0 ≡ c.in-Some.at = omega arith in
    cut_some c.args.text.now _ _ c.in-Some.at f.0 f.1 f.2 (c.range.ensures.value ∙ ap (λ n. take n c.args.text.now) n) c.range_from.ensures.value

pub returns-in-None : goal.returns-in-None
returns-in-None c =
    let f = find_char 32 c.args.text.now None c.in-None.ensures.cases (omega arith) in
    (sym (append-nil c.args.text.now), All-from_get_or (λ b. b ≢ 32) c.args.text.now 0 f, tt)
