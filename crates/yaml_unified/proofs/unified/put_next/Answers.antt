use Rattle.std.proofs.Common.{arith, ◌≡◌, ◌-◌, ◌≤◌, ◌<◌, drop, length, sym, subst}
use Rattle.yaml_unified.specs.Unified.{IsFirstChange}
use Rattle.yaml_unified.proofs.UnifiedLaws.{hunk_put}
use Rattle.yaml_unified.proofs.FramedLaws.{first_behind, framed}
use Rattle.yaml_unified.proofs.unified.put_next.Goals as goal

pub hunk_len-requires-clause-first : goal.hunk_len-requires-clause-first
hunk_len-requires-clause-first c =
    let before : c.saturating_sub.result ≤ c.args.change = omega (arith, c.saturating_sub.ensures) in
    let place : c.args.change - c.saturating_sub.result ≡ c.args.change - length c.split_at.result.0.now = omega (arith, c.split_at.ensures.front_len) in
    subst (λ z. IsFirstChange z (c.args.change - length c.split_at.result.0.now)) (sym c.split_at.ensures.back) (subst (IsFirstChange (drop c.saturating_sub.result c.args.rest.edits.now)) place (first_behind c.args.rest.edits.now c.saturating_sub.result c.args.change before c.requires.change))

pub returns-clause-hunk : goal.returns-clause-hunk
returns-clause-hunk c =
    let before : c.saturating_sub.result ≤ c.args.change = omega (arith, c.saturating_sub.ensures) in
    let within : c.args.change < length c.args.rest.edits.now = c.requires.change.within in
    let more : 0 < length c.split_at.result.1.now = omega (arith, before, within, c.split_at.ensures.back_len) in
    let frame = framed c.args.rest.edits.now c.split_at.result.0.now c.split_at.result.1.now c.split_at-2.result.0.now c.split_at-2.result.1.now c.args.context c.args.change c.saturating_sub.result c.hunk_len.result
    c.split_at.ensures.front c.split_at.ensures.back c.split_at-2.ensures.front c.split_at-2.ensures.back (omega (arith, c.saturating_sub.ensures)) (omega (arith, before, within, c.split_at.ensures.front_len, c.hunk_len.ensures.some)) c.requires.change c.hunk_len.ensures.ends in
    hunk_put c.args.context c.args.rest.edits.now c.split_at.result.0.now c.split_at.result.1.now c.split_at-2.result.0.now c.split_at-2.result.1.now c.saturating_sub.result c.hunk_len.result c.args.change c.args.rest.left c.args.rest.right _ _ _ _
    c.split_at.ensures.front c.split_at.ensures.back c.split_at-2.ensures.front c.split_at-2.ensures.back
    before (omega (arith, before, within, c.split_at.ensures.front_len, c.split_at.ensures.back_len)) (omega (arith, more, c.hunk_len.ensures.some, c.hunk_len.ensures.within, c.split_at-2.ensures.back_len))
    c.requires.change.before frame c.lefts.ensures.count c.rights.ensures.count c.in_ok-put_hunk.ensures.ok
