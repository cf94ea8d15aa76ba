-- Counts of failed calls.
use Rattle.std.specs.Prelude.{ℕ, ◌+◌, ◌^◌, ◌-◌, min, cond, not, ◌&&◌, ◌==◌, List, length, Result, Ok, Err}

-- one more, up to the greatest u64
abbrev pub one_more : ℕ → ℕ
one_more n = min (n + 1) (2 ^ 64 - 1)

-- one more after a call that answered an error
abbrev pub counted_call : {T E : Type 0} → Result T E → ℕ → ℕ
counted_call (Ok value) n = n
counted_call (Err error) n = one_more n

-- and after a write of a nonempty piece that took no byte
abbrev pub counted_write : {E : Type 0} → Result ℕ E → List ℕ → ℕ → ℕ
counted_write (Ok took) piece n = cond (took == 0 && not (length piece == 0)) (one_more n) n
counted_write (Err error) piece n = one_more n
