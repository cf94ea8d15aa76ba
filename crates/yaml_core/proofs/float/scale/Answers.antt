use Rattle.std.proofs.Common.{List, ℕ, Bor}
use Rattle.std.specs.Option.{option_map}
use Rattle.yaml_definitions.specs.model.Core.{exponent_of}
use Rattle.yaml_core.proofs.DecimalLemmas.{scale_fits, scale_past, scale_far}
use Rattle.yaml_core.proofs.float.scale.Goals as goal

pub returns-then-exponent-le-EXPONENT_LIMIT : goal.returns-then-exponent-le-EXPONENT_LIMIT
returns-then-exponent-le-EXPONENT_LIMIT c =
    let w = c.in-Some.written in
    let r = c.shifted-exponent.result in
    scale_fits (exponent_of (option_map (λ (s : Bor (List ℕ)). s.now) c.args.exponent)) w.negative r.negative w.size r.size c.args.part_len c.args.len c.in-Some.ensures.0 c.shifted-exponent.ensures c.if-exponent-le-EXPONENT_LIMIT.true

pub returns-else-exponent-le-EXPONENT_LIMIT : goal.returns-else-exponent-le-EXPONENT_LIMIT
returns-else-exponent-le-EXPONENT_LIMIT c =
    let w = c.in-Some.written in
    let r = c.shifted-exponent.result in
    scale_past (exponent_of (option_map (λ (s : Bor (List ℕ)). s.now) c.args.exponent)) w.negative r.negative w.size r.size c.args.part_len c.args.len c.in-Some.ensures.0 c.shifted-exponent.ensures c.if-exponent-le-EXPONENT_LIMIT.false

pub returns-in-None : goal.returns-in-None
returns-in-None c =
    scale_far (exponent_of (option_map (λ (s : Bor (List ℕ)). s.now) c.args.exponent)) c.args.part_len c.args.len c.ranges.part_len.fits c.requires.len c.in-None.ensures
