use Rattle.std.proofs.Common.{◌+◌, ◌-◌, ◌≤◌, vec_len}
use Rattle.std.specs.Io.KnownBytes.{Consumes}
use Rattle.yaml_sum.proofs.reading.refill.Given as goal

abbrev pub invariant-read : goal.invariant-read
invariant-read g l = record {
  gave : Consumes (g.R.Read.remaining l.initial.input) (g.R.Read.remaining l.input) l.bytes.items;
  short : vec_len l.bytes ≤ l.limit;
}

abbrev pub decreases-read : goal.decreases-read
decreases-read g l = l.limit + 1 - vec_len l.bytes
