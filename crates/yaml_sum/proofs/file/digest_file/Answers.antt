use Rattle.std.proofs.Common.{inr, subst}
use Rattle.yaml_canon.specs.Claims.{CanonicalRefuses}
use Rattle.yaml_sum.specs.Sums.{IsRead}
use Rattle.yaml_sum.proofs.file.digest_file.Goals as goal

pub returns-in-Err-clause-err : goal.returns-in-Err-clause-err
returns-in-Err-clause-err g c = inr (
  c.read_file.new.bytes.items,
  subst (λ n. IsRead (g.S.Shelf.holds c.args.shelf.now) g.R.Read.remaining c.args.name.now n c.args.input.now c.read_file.new.input c.read_file.new.bytes.items) c.text_limit.ensures c.in_ok-read_file.ensures.ok,
  subst (λ z. CanonicalRefuses z c.in-Err.fault) c.deref.ensures.value c.in-Err.ensures.err,
)
