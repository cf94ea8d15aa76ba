-- Room in a text: where a piece of something longer had none, that had none either.
use Rattle.std.proofs.Common.{◌≡◌, ◌<◌, ◌≤◌, ℕ, ◌+◌, List, ◌++◌, length, ap, arith, length-append}

pub full_first : (room len : ℕ) (a b : List ℕ) → room < len + length a → room < len + length (a ++ b)
full_first room len a b h = omega (arith, length-append a b)

-- behind a, in a room that is no smaller
pub full_next : (room more : ℕ) (xs ys a b : List ℕ) → ys ≡ xs ++ a → room ≤ more → more < length ys + length b → room < length xs + length (a ++ b)
full_next room more xs ys a b e k h = omega (arith, length-append a b, length-append xs a, ap length e)

-- what was put there so far, with the piece that found no room, is no longer than all
pub full_within : (room more : ℕ) (xs ys piece front all : List ℕ) → ys ++ piece ≡ xs ++ front → length front ≤ length all → room ≤ more → more < length ys + length piece → room < length xs + length all
full_within room more xs ys piece front all e f k h = omega (arith, f, length-append ys piece, length-append xs front, ap length e)
