-- Lines that are made of pieces, one behind the other.
use Rattle.std.proofs.Common.{◌≡◌, ◌++◌, ◌==◌, ℕ, Bool, false, cond, List, [], sym, ◌∙◌, ap, append_assoc}
use Rattle.std.specs.Prelude.{Result, Ok, Err, OnOk}

-- three pieces behind a text
joined : (old a b c x y new : List ℕ) → x ≡ old ++ a → y ≡ x ++ b → new ≡ y ++ c → new ≡ old ++ (a ++ (b ++ c))
joined old a b c x y new l m n = n ∙ ap (λ z. z ++ c) (m ∙ ap (λ z. z ++ b) l) ∙ append_assoc (old ++ a) b c ∙ append_assoc old a (b ++ c)

pub three_pushed : {T E : Type 0} (old a b c x y new : List ℕ) (r : Result T E) → x ≡ old ++ a → y ≡ x ++ b → OnOk r (new ≡ y ++ c) → OnOk r (new ≡ old ++ (a ++ (b ++ c)))
three_pushed old a b c x y new (Ok it) l m n = joined old a b c x y new l m n
three_pushed old a b c x y new (Err fault) l m n = n

-- and four, of a number that is not 0
four : (old a b c d x y z new : List ℕ) → x ≡ old ++ a → y ≡ x ++ b → z ≡ y ++ c → new ≡ z ++ d → new ≡ old ++ (a ++ (b ++ (c ++ d)))
four old a b c d x y z new k l m n = joined x b c d y z new l m n ∙ ap (λ w. w ++ (b ++ (c ++ d))) k ∙ append_assoc old a (b ++ (c ++ d))

pub four_pushed : {T E : Type 0} (is_none : Bool) (old a b c d x y z new : List ℕ) (r : Result T E) → is_none ≡ false → x ≡ old ++ a → y ≡ x ++ b → z ≡ y ++ c → OnOk r (new ≡ z ++ d) → OnOk r (new ≡ old ++ cond is_none [] (a ++ (b ++ (c ++ d))))
four_pushed is_none old a b c d x y z new (Ok it) e k l m n = four old a b c d x y z new k l m n ∙ ap (λ t. old ++ cond t [] (a ++ (b ++ (c ++ d)))) (sym e)
four_pushed is_none old a b c d x y z new (Err fault) e k l m n = n
