-- That the one error of telling why a file is not shown is want of memory.
use Rattle.std.proofs.Common.{◌≡◌, inl, inr, ℕ, true, List}
use Rattle.yaml_text.specs.declared.fault.Fault.{Fault}
use Rattle.yaml_text.specs.declared.fault.Fault.TheVariants as faults
use Rattle.yaml_definitions.specs.model.Tree.{Tree}
use Rattle.yaml_show.specs.Layout.{shown_text}
use Rattle.yaml_show.specs.Refused.{RefusesBy, ShowRefuses, lines_text}
use Rattle.yaml_show.specs.Shows.{readable, readable_sharing}
use Rattle.yaml_show.specs.declared.unshown.Unshown.{Unshown}
use Rattle.yaml_show.specs.declared.unshown.Unshown.TheVariants as why
use Rattle.review_args.specs.declared.words.Format.{Format}
use Rattle.review_args.specs.declared.words.Format.TheVariants as format
use Rattle.review_faults.specs.Again.{HasNoEvents, CannotTell}
use Rattle.review_faults.specs.FaultLines.{names_event}
use Rattle.review_files.proofs.MemoryLaws.{named_events}
use Rattle.review_git.specs.ShownFiles.{HasNone}
use Rattle.review_git.specs.Unshown.{CannotTellNone}

-- bytes whose fault names an event have a reading
named_shown : (write : List Tree → List ℕ) (bytes : List ℕ) (fault : Fault) → names_event fault ≡ true → RefusesBy write bytes fault → HasNoEvents bytes → ⊥
named_shown write bytes (faults.UndefinedAlias e) n h none = named_events bytes (faults.UndefinedAlias e) h n none
named_shown write bytes (faults.CyclicAlias e) n h none = named_events bytes (faults.CyclicAlias e) h n none
named_shown write bytes (faults.WrongKind e) n h none = named_events bytes (faults.WrongKind e) h n none
named_shown write bytes (faults.BadContent e) n h none = named_events bytes (faults.BadContent e) h n none
named_shown write bytes (faults.IntRange e) n h none = named_events bytes (faults.IntRange e) h n none
named_shown write bytes (faults.FloatRange e) n h none = named_events bytes (faults.FloatRange e) h n none
named_shown write bytes (faults.TooHigh d) n h none = named_events bytes (faults.TooHigh d) h n none
named_shown write bytes (faults.EqualKeys node first second) n h none = named_events bytes (faults.EqualKeys node first second) h n none
named_shown write bytes _ n h none = absurd (cc)

refusal_memory : (write : List Tree → List ℕ) (bytes : List ℕ) (fault error : Fault) → RefusesBy write bytes fault → CannotTell bytes fault error → error ≡ faults.OutOfMemory
refusal_memory write bytes fault error s (inl e) = e
refusal_memory write bytes fault error s (inr (n, h)) = absurd (named_shown write bytes fault n s h)

pub shown_memory : (bytes : List ℕ) (fault error : Fault) → ShowRefuses bytes fault → CannotTell bytes fault error → error ≡ faults.OutOfMemory
shown_memory = refusal_memory readable

-- in each format
pub none_memory : (f : Format) (bytes : List ℕ) (none : Unshown) (error : Fault) → HasNone f bytes none → CannotTellNone bytes none error → error ≡ faults.OutOfMemory
none_memory format.Yaml bytes (why.Rejected fault) error h t = shown_memory bytes fault error h t
none_memory format.Yaml bytes why.NoJson error h t = absurd h
none_memory format.Yaml bytes why.Unlike error h t = absurd h
none_memory format.AsRead bytes (why.Rejected fault) error h t = refusal_memory shown_text bytes fault error h t
none_memory format.AsRead bytes why.NoJson error h t = absurd h
none_memory format.AsRead bytes why.Unlike error h t = absurd h
none_memory format.Sharing bytes (why.Rejected fault) error h t = refusal_memory readable_sharing bytes fault error h t
none_memory format.Sharing bytes why.NoJson error h t = absurd h
none_memory format.Sharing bytes why.Unlike error h t = absurd h
none_memory format.Json bytes (why.Rejected fault) error h t = refusal_memory lines_text bytes fault error h t
none_memory format.Json bytes why.NoJson error h (inl e) = e
none_memory format.Json bytes why.NoJson error h (inr n) = absurd (n h.1.events h.1.reads)
none_memory format.Json bytes why.Unlike error h t = t
