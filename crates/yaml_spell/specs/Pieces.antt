-- What is known of a text that is given piece by piece to a sink before an output.
use Rattle.std.specs.Prelude.{◌≡◌, ℕ, List, ◌++◌, length, Option}
use Rattle.std.specs.Str.{encode_utf8_all}
use Rattle.yaml_text.specs.declared.fault.Fault.{Fault}

-- How things stood when writing began: a number of the sink's own, and the bytes that the output held, where they are known.
pub record Began : Type 0 where
  pub number : ℕ
  pub held : Option (List ℕ)

-- The bytes `new` are `old` and then the characters that `f` puts before any further ones.
pub record Writes (old new : List ℕ) (f : List ℕ → List ℕ) : Type 0 where
  pub is : (more : List ℕ) → new ++ encode_utf8_all more ≡ old ++ encode_utf8_all (f more)

-- `holds s o b xs` says that the sink s and the output o have xs of the text.
module _ {S O : Type 0} (holds : S → O → Began → List ℕ → Type 0) where
  -- the bytes of a piece were taken
  pub record TakesPiece (s : S) (o : O) (t : S) (p : O) (piece : List ℕ) : Type 0 where
    pub is : (b : Began) (xs : List ℕ) → holds s o b xs → holds t p b (xs ++ piece)

  -- so many bytes were taken, whichever they are
  pub record Counts (s : S) (o : O) (t : S) (p : O) (len : ℕ) : Type 0 where
    pub is : (piece : List ℕ) → length piece ≡ len → TakesPiece s o t p piece

  -- the characters that `f` puts before others were taken
  pub record Puts (s : S) (o : O) (t : S) (p : O) (f : List ℕ → List ℕ) : Type 0 where
    pub is : (b : Began) (xs : List ℕ) → holds s o b xs → (ys : List ℕ) × holds t p b ys × Writes xs ys f

  -- `stops o b fault xs` says why no more was taken of a text that begins with xs.
  module _ (stops : O → Began → Fault → List ℕ → Type 0) where
    -- within a piece, whatever was to follow
    pub record Misses (s : S) (o p : O) (fault : Fault) (piece : List ℕ) : Type 0 where
      pub is : (b : Began) (xs more : List ℕ) → holds s o b xs → stops p b fault (xs ++ (piece ++ more))

    -- within so many bytes, whichever they are
    pub record Exceeds (s : S) (o p : O) (fault : Fault) (len : ℕ) : Type 0 where
      pub is : (piece : List ℕ) → length piece ≡ len → Misses s o p fault piece

    -- within these characters, whatever was to follow
    pub record Fails (s : S) (o p : O) (fault : Fault) (f : List ℕ → List ℕ) : Type 0 where
      pub is : (b : Began) (xs more : List ℕ) → holds s o b xs → stops p b fault (xs ++ encode_utf8_all (f more))
