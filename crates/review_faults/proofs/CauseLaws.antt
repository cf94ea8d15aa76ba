-- Ints of base 8.
use Rattle.std.proofs.Common.{◌≡◌, true, refl, ap}
use Rattle.std.specs.Prelude.{Option, Some, None}
use Rattle.review_text.specs.Yaml11.{is_timed_warning, IsOlder}
use Rattle.review_text.specs.declared.yaml11.Kind.{Kind}
use Rattle.review_text.specs.declared.yaml11.Kind.TheVariants as kinds
use Rattle.review_text.specs.declared.yaml11.Older.{Older}
use Rattle.review_text.specs.declared.yaml11.Older.TheVariants as olders
use Rattle.review_faults.specs.Causes.{octal_cause}

never : (here : Kind) → is_timed_warning here olders.Octal ≡ true → ⊥
never kinds.Null e = absurd (cc)
never kinds.Bool e = absurd (cc)
never kinds.Int e = absurd (cc)
never kinds.Float e = absurd (cc)
never kinds.Str e = absurd (cc)
never kinds.Merge e = absurd (cc)
never kinds.Timestamp e = absurd (cc)
never kinds.Default e = absurd (cc)

-- of a text it is told by the patterns alone
pub octal_told : (older : Option Older) (here : Kind) (told : Option Older) → IsOlder older here told → octal_cause told ≡ octal_cause older
octal_told (Some why) here told h = ap octal_cause h
octal_told None here None h = refl
octal_told None here (Some (olders.Kinds a b)) h = refl
octal_told None here (Some olders.Octal) h = absurd (never here h)
octal_told None here (Some olders.Shorter) h = refl
