use Rattle.std.proofs.Common.{ℕ, [], ◌∷◌, ◌++◌, get_or, refl, ◌∙◌, ap, arith}
use Rattle.yaml_values.proofs.RangeLaws.{in_turn-more}
use Rattle.yaml_values.proofs.parts.put_entries.Goals as goal

pub loop-entry-preserved : goal.loop-entry-preserved
loop-entry-preserved c =
    let p : ℕ × ℕ = get_or c.args.entries.now c.loop-entry.entry-index (0, 0) in
    in_turn-more c.args.entries.now c.loop-entry.entry-index (0, 0) c.args.parts.now.items c.loop-entry.parts.items c.push-in-loop-entry.new.self.items p.0 p.1 (omega (arith, c.loop-entry-test.true)) c.loop-entry.invariant refl refl
    (c.in_ok-push-2.ensures.items ∙ ap (λ z. z ++ (p.1 ∷ [])) c.in_ok-push.ensures.items)
