-- What follows of an answer.
use Rattle.std.specs.Prelude.{Result, Ok, Err, IfOk}

pub if_ok : {T E : Type 0} {P Q : T → Type 0} (r : Result T E) → ((x : T) → P x → Q x) → IfOk r P → IfOk r Q
if_ok (Ok x) f h = f x h
if_ok (Err e) f h = tt

pub if_both : {T E : Type 0} (P Q : T → Type 0) (asked : Type 0) (r : Result T E) → IfOk r P → (asked → IfOk r Q) → IfOk r (λ x. P x × (asked → Q x))
if_both P Q asked (Ok x) p q = (p, q)
if_both P Q asked (Err e) p q = tt
