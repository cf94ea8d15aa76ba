-- What a text that is put over a room piece by piece leaves there.
use Rattle.std.specs.Prelude.{◌≡◌, ◌+◌, ◌++◌, ℕ, List, length, take, drop}

-- the piece stands in the room from this offset on, and all else is as it was
abbrev pub Overwrites : List ℕ → ℕ → List ℕ → List ℕ → Type 0
Overwrites piece at old new = new ≡ take at old ++ (piece ++ drop (at + length piece) old)

-- A front of the page was put there and is no longer in the page.
pub record Turns (page next : List ℕ) (at behind : ℕ) (old new : List ℕ) : Type 0 where
  pub front : List ℕ
  pub page_is : page ≡ front ++ next
  pub behind_is : behind ≡ at + length front
  pub room_is : Overwrites front at old new

-- The text stands at the start of the room, which is as it was behind it; and this is its length.
pub record Fills (text old new : List ℕ) (len : ℕ) : Type 0 where
  pub len_is : len ≡ length text
  pub room_is : new ≡ text ++ drop (length text) old
