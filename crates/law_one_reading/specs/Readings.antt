-- What a reading is followed by, and that a place begins one reading at most.
use Rattle.std.specs.Prelude.{◌≡◌, ◌⊎◌, ℕ}
use Rattle.yaml_definitions.specs.grammar.Rules.{Span, Rule}

-- how a text goes on after a reading that ends at j: up to m, where what comes next stands
abbrev pub End : Type 1
End = ℕ → ℕ → Type 0

-- right here
abbrev pub At : (ℕ → Type 0) → End
At D j m = (j ≡ m) × D j

-- one more begins right here, or the text goes on
abbrev pub More : (ℕ → Type 0) → End → End
More D E j m = At D j m ⊎ E j m

-- a span, and then so
abbrev pub Then : Span → End → End
Then S E k m = (j : ℕ) × S k j × E j m

-- from a place one value, and one place to go on from
abbrev pub Unique : {V : Type 0} → Rule V → End → Type 0
Unique {V} R E = (i j k m n : ℕ) (v w : V) → R i j v → E j m → R i k w → E k n → (m ≡ n) × (v ≡ w)

-- no place begins readings of both
abbrev pub Apart : {V W : Type 0} → Rule V → End → Rule W → End → Type 0
Apart {V} {W} R E S F = (i j k m n : ℕ) (v : V) (w : W) → R i j v → E j m → S i k w → F k n → ⊥

-- this holds where a reading begins
abbrev pub Starts : {V : Type 0} → Rule V → End → (ℕ → Type 0) → Type 0
Starts {V} R E D = (i j m : ℕ) (v : V) → R i j v → E j m → D i

-- the text goes on in one way
abbrev pub OneWayOn : End → Type 0
OneWayOn E = (i m n : ℕ) → E i m → E i n → m ≡ n

-- one end at most where this holds
abbrev pub To : Span → (ℕ → Type 0) → Type 0
To R D = (i k l : ℕ) → R i k → D k → R i l → D l → k ≡ l
