-- What a counted reader or writer holds.
use Rattle.std.specs.Prelude.{ℕ, Bool}
use Rattle.yaml_text.specs.declared.counted.Counted.{Counted}

abbrev pub inner_of : {T : Type 0} → Counted T → T
inner_of c = c.inner

-- how many calls failed
abbrev pub faults_of : {T : Type 0} → Counted T → ℕ
faults_of c = c.faults

-- whether the last write or flush was a flush that succeeded
abbrev pub flushed_of : {T : Type 0} → Counted T → Bool
flushed_of c = c.flushed
