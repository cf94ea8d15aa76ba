-- What is in the room that a caller gives for a text.
use Rattle.std.specs.Prelude.{◌≡◌, ◌<◌, ◌≤◌, ◌++◌, ℕ, List, length, drop}

-- A text's length is told. Where the room is long enough the text stands at its start, and the rest is as it was; else all of it is as it was.
pub record Places (text old new : List ℕ) (len : ℕ) : Type 0 where
  pub long : len ≡ length text
  pub given : length text ≤ length old → new ≡ text ++ drop (length text) old
  pub kept : length old < length text → new ≡ old
