-- From a room that was filled to what is promised of the bytes.
use Rattle.std.proofs.Common.{◌≡◌, ℕ, List, refl, ap, subst}
use Rattle.std.specs.Prelude.{Result, Ok, Err, OnOk, OnErr, IfOk, IfErr, IsOk, MatchResult}
use Rattle.yaml_definitions.specs.model.Tree.{Tree}
use Rattle.yaml_definitions.specs.canonical.Spell.{spell_bytes}
use Rattle.yaml_definitions.specs.model.Proper.{Admitted}
use Rattle.yaml_definitions.specs.model.Means.{Means}
use Rattle.yaml_text.specs.declared.fault.Fault.{Fault}
use Rattle.yaml_canon.specs.Accepting.{IsSpelling, IsMemory}
use Rattle.yaml_spell.specs.Documents.{RefusesArranged}
use Rattle.yaml_canon.specs.Claims.{CanonicalRefuses}
use Rattle.yaml_text.specs.Rooms.{Places}
use Rattle.yaml_canon.specs.Rooms.{PlacesCanonical}
use Rattle.yaml_canon.specs.Targets.{ArrangedFails}
use Rattle.yaml_canon.specs.declared.placing.Buffer.{Buffer}
use Rattle.yaml_canon.proofs.AcceptLaws.{memory, text-is, spelling-means}
use Rattle.yaml_canon.proofs.TargetLaws.{left_arranged}

pub ok_unless : {T E : Type 0} {P : E → Type 0} (r : Result T E) → IfErr r P → ((e : E) → P e → ⊥) → IsOk r
ok_unless (Ok x) h never = refl
ok_unless (Err e) h never = absurd (never e h)

pub of_ok : {T E P : Type 0} (r : Result T E) → OnOk r P → IsOk r → P
of_ok (Ok x) h o = h
of_ok (Err e) h o = absurd (cc)

module _ (bytes old new : List ℕ) where
  abbrev Gives : Result ℕ Fault → Type 0
  Gives r = (f : List Tree) → Admitted f → Means bytes f → MatchResult r (Places (spell_bytes f) old new) IsMemory

  pub placed-answer : (r : Result ℕ Fault) → IfOk r (PlacesCanonical bytes old new) → IfErr r (CanonicalRefuses bytes) → Gives r
  placed-answer (Ok n) o e f a m = subst (λ z. Places z old new n) (text-is bytes f a m o.text o.canonical) o.placed
  placed-answer (Err fault) o e f a m = memory bytes f a m fault e

  pub placed-spelling : (r : Result ℕ Fault) → Gives r → (f : List Tree) → Admitted f → IsSpelling bytes f → MatchResult r (Places (spell_bytes f) old new) IsMemory
  placed-spelling r h f a s =
      let u = spelling-means bytes f a s in
      subst (λ z. MatchResult r (Places z old new) IsMemory) u.text (h u.forest u.admitted u.means)

-- a buffer whose room was left as it was
abbrev pub filled : Buffer → List ℕ → Buffer
filled b w = record { room = record { ref_ptr = b.room.ref_ptr; ghost_name = b.room.ghost_name; now = w } }

pub unfilled : (ts : List Tree) (b : Buffer) (w : List ℕ) (r : Result ℕ Fault) → IfErr r (RefusesArranged ts) → OnErr r (w ≡ b.room.now) → IfErr r (ArrangedFails (λ _ _ _. ⊥) ts b (filled b w))
unfilled ts b w (Ok len) h k = tt
unfilled ts b w (Err fault) h k = left_arranged (λ _ _ _. ⊥) ts b (filled b w) fault (ap (filled b) k) h
