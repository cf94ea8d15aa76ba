use Rattle.std.proofs.Common.{◌≡◌, ◌<◌, ℕ, true, refl, sym, subst, arith}
use Rattle.std.proofs.lemmas.List.{get_or-take, length-take-le}
use Rattle.yaml_definitions.specs.grammar.Separation.{flow_in}
use Rattle.yaml_scalar.specs.Chains.{plain_inner}
use Rattle.yaml_scalar.proofs.class.plain_len.Goals as goal

-- what is told of a byte
abbrev Told : ℕ → Type 0
Told b = (b < 128) × (plain_inner flow_in b ≡ true)

pub slice_bounds-len_by_one-end : goal.slice_bounds-len_by_one-end
slice_bounds-len_by_one-end c = sym (length-take-le 64 c.args.bytes.now (omega (arith, c.if-bytes-gt-NEAR.true)))

pub returns-then-len-lt-NEAR-clause-front : goal.returns-then-len-lt-NEAR-clause-front
returns-then-len-lt-NEAR-clause-front c = λ k e.
    let f = c.len_by_one-len.ensures.front k e in
    subst Told (get_or-take 64 c.args.bytes.now k 0 (omega (arith, e, c.if-len-lt-NEAR.true))) (f.0 refl, f.1 refl)
