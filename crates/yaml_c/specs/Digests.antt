-- The digest of a meaning.
use Rattle.std.specs.Prelude.{◌≡◌, ℕ, List}
use Rattle.sha2.specs.Sha256.{sha256}
use Rattle.yaml_definitions.specs.model.Tree.{Tree}
use Rattle.yaml_definitions.specs.canonical.Spell.{spell_bytes}
use Rattle.yaml_text.specs.declared.fault.Fault.{Fault}
use Rattle.yaml_text.specs.declared.side.Side.TheVariants.{Left}
use Rattle.yaml_canon.specs.Claims.{IsCanonicalText, CanonicalRefuses}
use Rattle.yaml_c.specs.declared.fault.YamlcanonFault.{YamlcanonFault}
use Rattle.yaml_c.specs.Told.{told}

-- the SHA-256 of the canonical text of what the bytes mean
pub record IsDigest (bytes digest : List ℕ) : Type 0 where
  pub text : List ℕ
  pub canonical : IsCanonicalText bytes text
  pub is : digest ≡ sha256 text

-- It is given, and no fault is told.
pub record GivesDigest (bytes new : List ℕ) (before after : YamlcanonFault) : Type 0 where
  pub digest : IsDigest bytes new
  pub silent : after ≡ before

-- A fault is told for which the input is refused, and no digest is written.
pub record RefusesDigest (bytes old new : List ℕ) (after : YamlcanonFault) : Type 0 where
  pub fault : Fault
  pub why : CanonicalRefuses bytes fault
  pub numbers : after ≡ told Left fault
  pub kept : new ≡ old

-- Of bytes that mean these trees the digest is that of their text, and all that may be refused is memory (21).
pub record OnlyMemoryOfDigest (f : List Tree) (new : List ℕ) (status : ℕ) (after : YamlcanonFault) : Type 0 where
  pub digest : status ≡ 0 → new ≡ sha256 (spell_bytes f)
  pub refused : status ≡ 2 → after.number ≡ 21
