use Rattle.std.proofs.Common.{inl, inr}
use Rattle.std.proofs.lemmas.Result.{err_from_is_err_and}
use Rattle.review_merge.proofs.merge.read_files.Goals as goal

pub returns-in_err-theirs-clause-why : goal.returns-in_err-theirs-clause-why
returns-in_err-theirs-clause-why g c =
    let p = err_from_is_err_and c.from_residual-in_err-theirs.result c.from_residual-in_err-theirs.ensures.1 in
    rw (p.1, p.2) (inr (inr (c.bytes_of.new.input, c.in_ok-base.base.items, c.in_ok-base.ensures.ok, inr (c.bytes_of-2.new.input, c.in_ok-ours.ours.items, c.in_ok-ours.ensures.ok, inl c.in_err-theirs.ensures.why))))

pub returns-in_err-result-clause-why : goal.returns-in_err-result-clause-why
returns-in_err-result-clause-why g c =
    let p = err_from_is_err_and c.from_residual-in_err-result.result c.from_residual-in_err-result.ensures.1 in
    rw (p.1, p.2)
    (inr
    (inr (
      c.bytes_of.new.input,
      c.in_ok-base.base.items,
      c.in_ok-base.ensures.ok,
      inr (
        c.bytes_of-2.new.input,
        c.in_ok-ours.ours.items,
        c.in_ok-ours.ensures.ok,
        inr
            (c.bytes_of-3.new.input, c.in_ok-theirs.theirs.items, c.in_ok-theirs.ensures.ok, c.in_err-result.ensures.why),
      ),
    )))
