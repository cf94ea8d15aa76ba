use Rattle.std.proofs.Common.{◌≡◌, ◌+◌, ◌-◌, ◌≤◌, vec_len}
use Rattle.std.specs.Io.KnownBytes.{Consumes}
use Rattle.yaml_text.specs.CountedModel.{inner_of, faults_of}
use Rattle.yaml_text.proofs.gathering.gather.Given as goal

abbrev pub invariant-read : goal.invariant-read
invariant-read g l =
    record {
      gave : Consumes (g.R.Read.remaining (inner_of l.initial.input)) (g.R.Read.remaining (inner_of l.input)) l.bytes.items;
      short : vec_len l.bytes ≤ l.limit;
      counted : faults_of l.input ≡ faults_of l.initial.input;
    }

abbrev pub decreases-read : goal.decreases-read
decreases-read g l = l.limit + 1 - vec_len l.bytes
