-- What a test tells, passed on.
use Rattle.std.proofs.Common.{◌≡◌, refl, Bool, true, false}
use Rattle.std.specs.Bool.{OnFalse, OnTrue}

pub on_true_at : (b : Bool) {P : Type 0} → b ≡ true → OnTrue b P → P
on_true_at true e p = p
on_true_at false e p = let h : false ≡ true = e in cc

pub on_false_at : (b : Bool) {P : Type 0} → b ≡ false → OnFalse b P → P
on_false_at false e p = p
on_false_at true e p = let h : true ≡ false = e in cc

pub on_either : (b : Bool) {P Q A : Type 0} → OnTrue b P → OnFalse b Q → (P → A) → (Q → A) → A
on_either true p q f g = f p
on_either false p q f g = g q

pub on_true : (b : Bool) {P : Type 0} → (b ≡ true → P) → OnTrue b P
on_true true f = f refl
on_true false f = tt

pub on_false : (b : Bool) {P : Type 0} → (b ≡ false → P) → OnFalse b P
on_false false f = f refl
on_false true f = tt

pub on_true_weaker : (b : Bool) {P Q : Type 0} → (P → Q) → OnTrue b P → OnTrue b Q
on_true_weaker true f p = f p
on_true_weaker false f p = tt

pub on_false_weaker : (b : Bool) {P Q : Type 0} → (P → Q) → OnFalse b P → OnFalse b Q
on_false_weaker true f p = tt
on_false_weaker false f p = f p
