-- From a refusal to read a text to what it says of the bytes.
use Rattle.std.proofs.Common.{◌≡◌, ◌⊎◌, inl, inr, ℕ, List, subst}
use Rattle.yaml_definitions.specs.model.Event.{Event}
use Rattle.yaml_definitions.specs.model.Limits.{open_limit}
use Rattle.yaml_definitions.specs.model.Text.{Text}
use Rattle.yaml_definitions.specs.grammar.Reading.{Reads}
use Rattle.yaml_definitions.specs.grammar.Streams.{ReadsText}
use Rattle.yaml_definitions.proofs.grammar.OneText.{one-text}
use Rattle.yaml_text.specs.declared.fault.Fault.{Fault}
use Rattle.yaml_text.specs.declared.fault.Fault.TheVariants as faults
use Rattle.yaml_text.specs.Unread.{IsNoStream}

-- a refusal to read that is not want of memory means that the bytes are no stream
pub no_stream : (bytes text : List ℕ) (fault : Fault) → Text bytes text → (fault ≡ faults.OutOfMemory) ⊎ ((es : List Event) → ReadsText text (Unit {0}) open_limit es → ⊥) → (fault ≡ faults.OutOfMemory → ⊥) → IsNoStream bytes
unfolding Reads
no_stream bytes text fault t (inl e) n = absurd (n e)
no_stream bytes text fault t (inr h) n = record {
  text = (text, t);
  unread = λ es (cs, u, r). h es (subst (λ z. ReadsText z (Unit {0}) open_limit es) (one-text bytes cs text u t) r);
}
