-- The digest of a meaning.
use Rattle.std.specs.Prelude.{◌≡◌, ◌≤◌, ℕ, List, length, take}
use Rattle.sha2.specs.Sha256.{sha256}
use Rattle.yaml_canon.specs.Claims.{IsCanonicalText}

-- the SHA-256 of the canonical text of what the bytes mean
pub record IsDigest (bytes digest : List ℕ) : Type 0 where
  pub text : List ℕ
  pub canonical : IsCanonicalText bytes text
  pub is : digest ≡ sha256 text

-- a room begins with the canonical text, which has this length
pub record HoldsText (bytes room : List ℕ) (len : ℕ) : Type 0 where
  pub text : List ℕ
  pub canonical : IsCanonicalText bytes text
  pub held : take len room ≡ text
  pub within : len ≤ length room
