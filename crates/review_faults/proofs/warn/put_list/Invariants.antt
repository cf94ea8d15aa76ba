use Rattle.std.proofs.Common.{◌≡◌, ◌++◌, drop, flat_map}
use Rattle.std.specs.String.{string_bytes}
use Rattle.review_faults.specs.Warned.{warning_text}
use Rattle.review_faults.proofs.warn.put_list.Given as goal

abbrev pub invariant-loop-warning : goal.invariant-loop-warning
invariant-loop-warning l = string_bytes l.out ++ flat_map (warning_text l.form l.name) (drop l.warning-index l.list) ≡ string_bytes l.fn.out ++ flat_map (warning_text l.form l.name) l.list
