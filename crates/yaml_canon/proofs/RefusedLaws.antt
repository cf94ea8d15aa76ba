-- From the faults of a reader and a composer to why bytes are refused.
use Rattle.std.proofs.Common.{◌≡◌, ◌⊎◌, ℕ, List}
use Rattle.std.specs.Prelude.{Result, Ok, Err, IfErr}
use Rattle.yaml_definitions.specs.model.Text.{Text}
use Rattle.yaml_text.specs.LeafAnswer.{IsRefusal}
use Rattle.yaml_text.specs.Placed.{IsPlaced}
use Rattle.yaml_text.specs.Refused.{RefusesText}
use Rattle.yaml_text.specs.Source.{text_of}
use Rattle.yaml_text.specs.declared.chars.Chars.{Chars}
use Rattle.yaml_text.specs.declared.fault.Fault.{Fault}
use Rattle.yaml_text.specs.declared.fault.Fault.TheVariants as faults
use Rattle.yaml_read.specs.Decided.{HasNoReading}
use Rattle.yaml_definitions.specs.model.Serial.{Document}
use Rattle.yaml_definitions.specs.grammar.Reading.{Reads}
use Rattle.yaml_tree.specs.Refused.{RefusesStream}
use Rattle.yaml_canon.specs.Claims.{CanonicalRefuses, GraphRefuses, IsRead}
use Rattle.yaml_canon.specs.RefusedRanks.{RefusesRanks}
use Rattle.yaml_canon.specs.Read.{IsSource}
use Rattle.yaml_canon.specs.Refused.{Refuses}
use Rattle.yaml_canon.proofs.ClaimLaws.{refused_text, refused_reading, refused_composing, refused_graph}
use Rattle.yaml_canon.proofs.PlacedLaws.{text_elsewhere, placed_in, stream_elsewhere}

-- bytes that are read are a text
pub read-text : (bytes : List ℕ) (ds : List Document) → IsRead bytes ds → ((cs : List ℕ) → Text bytes cs → ⊥) → ⊥
unfolding Reads
read-text bytes ds r never = let (cs, t, p) = r.reads in never cs t

-- bytes that are no text
pub no-text : (bytes : List ℕ) (fault : Fault) → RefusesText bytes fault → Refuses GraphRefuses bytes fault
no-text bytes fault h = record { refused = refused_text bytes fault h; placed = text_elsewhere bytes fault h; no_text = λ never. h }

-- a text that is not read
pub not-read : (bytes : List ℕ) (source : Chars) → IsSource bytes source → (fault : Fault) → IsRefusal fault → (fault ≡ faults.OutOfMemory) ⊎ HasNoReading (text_of source) → IsPlaced source fault → Refuses GraphRefuses bytes fault
not-read bytes source s fault r d p = record {
  refused = refused_reading bytes (text_of source) fault s.read r d;
  placed = placed_in bytes source s.behind_mark s.mark fault p;
  no_text = λ never. absurd (never (text_of source) s.read);
}

-- what reading answers
pub if_not_read : {K : Type 0} (bytes : List ℕ) (source : Chars) → IsSource bytes source → (r : Result K Fault) → IfErr r IsRefusal → IfErr r (λ e. (e ≡ faults.OutOfMemory) ⊎ HasNoReading (text_of source)) → IfErr r (IsPlaced source) → IfErr r (Refuses GraphRefuses bytes)
if_not_read bytes source s (Ok new) e d p = tt
if_not_read bytes source s (Err fault) e d p = not-read bytes source s fault e d p

-- a text for which there is no memory
pub no-memory : (bytes : List ℕ) (source : Chars) → IsSource bytes source → Refuses GraphRefuses bytes faults.OutOfMemory
no-memory bytes source s = record { refused = tt; placed = tt; no_text = λ never. absurd (never (text_of source) s.read) }

-- ---- documents

-- a composer's answer, once the bytes are read as these documents
pub not-made : (bytes : List ℕ) (ds : List Document) (fault : Fault) → IsRead bytes ds → RefusesStream ds fault → Refuses GraphRefuses bytes fault
not-made bytes ds fault r h = record { refused = refused_composing bytes ds fault r h; placed = stream_elsewhere bytes ds fault h; no_text = λ never. absurd (read-text bytes ds r never) }

-- bytes without a forest have no canonical text
pub no-forest : (bytes : List ℕ) (fault : Fault) → Refuses GraphRefuses bytes fault → Refuses CanonicalRefuses bytes fault
no-forest bytes fault h = record { refused = refused_graph bytes fault h.refused; placed = h.placed; no_text = h.no_text }

-- nodes without ranks, once the bytes are read as these documents
pub not-ranked : (bytes : List ℕ) (ds : List Document) (fault : Fault) → IsRead bytes ds → RefusesRanks ds fault → Refuses CanonicalRefuses bytes fault
not-ranked bytes ds (faults.EqualKeys node i j) r h = record { refused = (ds, h.trees, r, h.unfolded, h.low, h.repeats); placed = tt; no_text = λ never. absurd (read-text bytes ds r never) }
not-ranked bytes ds faults.OutOfMemory r h = record { refused = tt; placed = tt; no_text = λ never. absurd (read-text bytes ds r never) }
not-ranked bytes ds _ r h = absurd h
