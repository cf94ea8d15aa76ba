-- What is spelled is read as what was spelled, or memory is refused.
use Rattle.std.proofs.Common.{◌≡◌, ℕ, ◌≤◌, ◌⊎◌, inl, inr, List, length, sym, ◌∙◌, ap, subst}
use Rattle.std.specs.Prelude.{Result, Err, MatchResult}
use Rattle.std.specs.Result.{IsErrAnd}
use Rattle.std.proofs.lemmas.Result.{err_from_is_err_and}
use Rattle.yaml_definitions.specs.model.Limits.{open_limit, text_limit}
use Rattle.yaml_definitions.specs.model.Event.{Event}
use Rattle.yaml_definitions.specs.model.Tree.{Tree}
use Rattle.yaml_definitions.specs.model.Text.{Text}
use Rattle.yaml_definitions.specs.model.Proper.{Admitted}
use Rattle.yaml_definitions.specs.canonical.Spell.{spell_bytes, spelled}
use Rattle.yaml_definitions.specs.canonical.Block.{block_bytes, blocked, AllKeysFit}
use Rattle.yaml_definitions.specs.grammar.Reading.{Reads}
use Rattle.yaml_definitions.specs.grammar.Streams.{ReadsText}
use Rattle.yaml_text.specs.declared.fault.Fault.{Fault}
use Rattle.yaml_text.specs.declared.fault.Fault.TheVariants.{OutOfMemory}
use Rattle.yaml_definitions.proofs.grammar.OneText.{one-text}
use Rattle.law_read_back.proofs.StreamReadings.{spellings_are_read}
use Rattle.law_read_back.proofs.BlockReadings.{blocks_are_read}
use Rattle.yaml_read.specs.Decided.{HasNoReading}

module _ (cs : List ℕ) where
  text_reads : (bytes : List ℕ) (es : List Event) → Text bytes cs → Reads bytes es → ReadsText cs (Unit {0}) open_limit es
  unfolding Reads
  text_reads bytes es t (ds, u, r) = subst (λ z. ReadsText z (Unit {0}) open_limit es) (one-text bytes ds cs u t) r

  pub spelling_reads : (f : List Tree) → Admitted f → Text (spell_bytes f) cs → ReadsText cs (Unit {0}) open_limit (spelled f)
  spelling_reads f a t = text_reads (spell_bytes f) (spelled f) t (spellings_are_read f a)

  pub block_reads : (f : List Tree) → Admitted f → AllKeysFit f → length (block_bytes f) ≤ text_limit → Text (block_bytes f) cs → ReadsText cs (Unit {0}) open_limit (blocked f)
  block_reads f a k l t = text_reads (block_bytes f) (blocked f) t (blocks_are_read f a l k)

  -- a text with a reading is refused for want of memory alone
  memory : (fault : Fault) (es : List Event) → (fault ≡ OutOfMemory) ⊎ HasNoReading cs → ReadsText cs (Unit {0}) open_limit es → fault ≡ OutOfMemory
  memory fault es (inl e) r = e
  memory fault es (inr n) r = absurd (n es r)

  pub read_or_memory : {T : Type 0} (P : T → Type 0) (r : Result T Fault) (fault : Fault) (es : List Event) → IsErrAnd r (λ y. y ≡ fault) → (fault ≡ OutOfMemory) ⊎ HasNoReading cs →
      ReadsText cs (Unit {0}) open_limit es → MatchResult r P (λ e. e ≡ OutOfMemory)
  read_or_memory P r fault es was d reads =
      let p = err_from_is_err_and r was in
      subst (λ z. MatchResult z P (λ e. e ≡ OutOfMemory)) (sym (p.1 ∙ ap Err p.2)) (memory fault es d reads)
