use Rattle.std.proofs.Common.{◌+◌, get_or, refl, subst, sym, ap, arith}
use Rattle.review_lines.proofs.CompareLaws.{TellsBefore, line_told, line_none, line_full, all_told}
use Rattle.review_lines.proofs.diff.lines_with.Goals.{then-count-gt0+then-len-asked+in_ok-line_of+in_ok-push, else-count-gt0, else-count-gt0-via-then-count-gt0+else-len-asked, else-count-gt0-via-else-count-gt0}
use Rattle.review_lines.proofs.diff.lines_with.Goals as goal

pub loop-number-preserved : goal.loop-number-preserved
loop-number-preserved c =
    let g = c.args.forests.now in
    let asked = c.args.asked.now in
    let ds = c.args.list.now in
    let ns = c.args.counts.now in
    let ls = c.loop-number.lines.items in
    let i = c.loop-number.number in
    let d = c.index-list-number.result in
    let n = get_or ns i 0 in
    elim c.if-count-gt0.branch [
      | then-count-gt0+then-len-asked+in_ok-line_of+in_ok-push w ↦
          subst (TellsBefore g asked ds ns (i + 1)) (sym (ap (λ z. z.items) w.lines-is))
          (line_told g asked ds ns ls i d n 0 (omega arith) c.requires.level c.index-list-number.is refl c.loop-number.invariant _ _ (omega (arith, w.if-count-gt0.true)) (omega (arith, w.len.ensures, w.if-len-asked.true)) w.in_ok-line_of.ensures.one w.in_ok-line_of.ensures.count w.in_ok-push.ensures.items)
      | else-count-gt0 w ↦ subst (TellsBefore g asked ds ns (i + 1)) (sym (ap (λ z. z.items) w.lines-is)) (elim w.else-count-gt0.branch [
        | else-count-gt0-via-then-count-gt0+else-len-asked v ↦ line_full g asked ds ns ls i d n 0 (omega arith) c.requires.level c.index-list-number.is refl c.loop-number.invariant (omega (arith, v.if-count-gt0.true)) (omega (arith, v.len.ensures, v.if-len-asked.false))
        | else-count-gt0-via-else-count-gt0 v ↦ line_none g asked ds ns ls i d n 0 (omega arith) c.requires.level c.index-list-number.is refl c.loop-number.invariant (omega (arith, v.if-count-gt0.false))
      ])
    ]

pub returns : goal.returns
returns c = record { ok = (all_told c.args.forests.now c.args.asked.now c.args.list.now c.args.counts.now c.loop-number.lines.items c.loop-number.number (omega arith) c.requires.level c.loop-number.invariant) }
