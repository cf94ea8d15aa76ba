-- What a call says of what it found, or did not find.
use Rattle.std.proofs.Common.{◌≡◌, ◌⊎◌, inl, inr, Option, Some, None, subst}
use Rattle.std.specs.Prelude.{IfSome, IfNone}

pub found_is : {A : Type 0} (P : A → Type 0) (found : Option A) (x : A) → found ≡ Some x → IfSome found P → P x
found_is P found x e h = let some : IfSome (Some x) P = subst (λ o. IfSome o P) e h in some

pub none_is : {A : Type 0} (P : Type 0) (found : Option A) → found ≡ None → IfNone found P → P
none_is P None e h = h
none_is P (Some x) e h = go e
  where
    go : Some x ≡ None → P
    go f = cc

pub is_some : {A : Type 0} {P : Type 0} (x : A) → (Some x ≡ None) ⊎ P → P
is_some {A} {P} x (inl h) = go h
  where
    go : Some x ≡ None → P
    go e = cc
is_some x (inr p) = p
