-- What a call that reads says of its production.
use Rattle.std.specs.Prelude.{◌≡◌, ℕ, ◌≤◌, Result, Ok, Err}
use Rattle.yaml_definitions.specs.grammar.Rules.{Rule}
use Rattle.yaml_text.specs.declared.fault.Fault.{Fault}
use Rattle.yaml_text.specs.declared.fault.Fault.TheVariants as fault

-- no reading begins at i
abbrev pub Unread : {V : Type 0} → Rule V → ℕ → Type 0
Unread {V} R i = (j : ℕ) (v : V) → R i j v → ⊥

-- the only reading by the rule that begins at i
pub record Only {V : Type 0} (R : Rule V) (i j : ℕ) (v : V) : Type 0 where
  pub is : R i j v
  pub only : (k : ℕ) (w : V) → R i k w → (k ≡ j) × (w ≡ v)

-- the one that ends furthest
pub record Furthest {V : Type 0} (R : Rule V) (i j : ℕ) (v : V) : Type 0 where
  pub is : R i j v
  pub furthest : (k : ℕ) (w : V) → R i k w → k ≤ j
  pub only : (w : V) → R i j w → w ≡ v

-- the reading that ends furthest, and no other has another value
pub record FurthestAlone {V : Type 0} (R : Rule V) (i j : ℕ) (v : V) : Type 0 where
  pub is : R i j v
  pub furthest : (k : ℕ) (w : V) → R i k w → k ≤ j
  pub only : (k : ℕ) (w : V) → R i k w → w ≡ v

-- the faults that a scalar may have: each but want of memory means that P holds
abbrev pub ScalarFaultMeans : Fault → Type 0 → Type 0
ScalarFaultMeans (fault.Syntax at) P = P
ScalarFaultMeans (fault.Tab at) P = P
ScalarFaultMeans (fault.BadEscape at) P = P
ScalarFaultMeans fault.OutOfMemory P = Unit {0}
ScalarFaultMeans _ P = ⊥

-- the answer is the reading that Best names, or there is none
abbrev pub Answers : {V X : Type 0} (Best : Rule V → Rule V) (R : Rule V) → ℕ → (X → ℕ) → (X → V) → Result X Fault → Type 0
Answers Best R i end value (Ok x) = Best R i (end x) (value x)
Answers Best R i end value (Err e) = ScalarFaultMeans e (Unread R i)

-- the faults that a reader of events answers
abbrev pub IsRefusal : Fault → Type 0
IsRefusal (fault.Syntax at) = Unit {0}
IsRefusal (fault.Tab at) = Unit {0}
IsRefusal (fault.KeyTooLong at) = Unit {0}
IsRefusal (fault.TooDeep at) = Unit {0}
IsRefusal (fault.BadEscape at) = Unit {0}
IsRefusal (fault.BadDirective at) = Unit {0}
IsRefusal (fault.UnknownHandle at) = Unit {0}
IsRefusal (fault.BadTag at) = Unit {0}
IsRefusal fault.OutOfMemory = Unit {0}
IsRefusal _ = ⊥

-- the text can't be read on
abbrev pub IsSyntaxFault : Fault → Type 0
IsSyntaxFault (fault.Syntax at) = Unit {0}
IsSyntaxFault (fault.Tab at) = Unit {0}
IsSyntaxFault _ = ⊥
