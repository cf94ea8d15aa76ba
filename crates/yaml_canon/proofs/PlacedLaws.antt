-- From the places that a reader tells to places of the bytes.
use Rattle.std.proofs.Common.{◌≡◌, ◌+◌, ℕ, List, drop, ◌∙◌, ap, subst}
use Rattle.std.specs.Prelude.{Option, Some, slice_get}
use Rattle.std.specs.Str.{chars, IsCharBoundary}
use Rattle.yaml_definitions.specs.grammar.Characters.{s-tab, c-escape, c-directive, c-tag}
use Rattle.yaml_definitions.specs.model.Limits.{text_limit}
use Rattle.yaml_definitions.specs.model.Serial.{Document}
use Rattle.yaml_definitions.specs.model.Text.{mark_len}
use Rattle.yaml_definitions.specs.model.Tree.{Tree}
use Rattle.yaml_text.specs.Place.{place}
use Rattle.yaml_text.specs.Placed.{IsPlaced, IsOffset, IsOffsetOf, IsOffsetOfLongKey, BeginsLongKey}
use Rattle.yaml_text.specs.Refused.{RefusesText}
use Rattle.yaml_text.specs.Source.{bytes_of, mark_of}
use Rattle.yaml_text.specs.declared.chars.Chars.{Chars}
use Rattle.yaml_text.specs.declared.counted.Counted.{Counted}
use Rattle.yaml_text.specs.declared.fault.Fault.{Fault}
use Rattle.yaml_text.specs.declared.fault.Fault.TheVariants as faults
use Rattle.yaml_tree.specs.Refused.{RefusesStream}
use Rattle.yaml_canon.specs.Comparing.{RefusesDocuments}
use Rattle.yaml_spell.specs.Documents.{RefusesArranged}
use Rattle.yaml_text.specs.Gathering.{Gathers, GatherFails}
use Rattle.yaml_canon.specs.FaultPlaces.{anything, character, long_key, IsPlaceIn, TellsPlace, TellsSidesPlace, TellsReadPlace}
use Rattle.yaml_text.specs.declared.side.Side.{Side}
use Rattle.yaml_text.specs.declared.side.Side.TheVariants.{Left, Right}

-- ---- the reader's places

module _ (bytes : List ℕ) (source : Chars) (e : bytes_of source ≡ drop (mark_len bytes) bytes) (m : mark_of source ≡ mark_len bytes) where
  offset_in : (at : ℕ) → IsOffset source at → IsPlaceIn bytes (at, anything)
  offset_in at (border, is_border, offset) = record {
    border = border;
    is_border = subst (λ z. IsCharBoundary z border) e is_border;
    offset = offset ∙ ap (λ n. n + border) m;
    stands = tt;
  }

  offset_of_in : (c at : ℕ) → IsOffsetOf source c at → IsPlaceIn bytes (at, character c)
  offset_of_in c at (border, is_border, stands, offset) = record {
    border = border;
    is_border = subst (λ z. IsCharBoundary z border) e is_border;
    offset = offset ∙ ap (λ n. n + border) m;
    stands = subst (λ z. slice_get (chars z) (place z border) ≡ Some c) e stands;
  }

  long_key_in : (at : ℕ) → IsOffsetOfLongKey source at → IsPlaceIn bytes (at, long_key)
  long_key_in at (border, is_border, begins, offset) = record {
    border = border;
    is_border = subst (λ z. IsCharBoundary z border) e is_border;
    offset = offset ∙ ap (λ n. n + border) m;
    stands = subst (λ z. BeginsLongKey (chars z) (place z border)) e begins;
  }

  pub placed_in : (fault : Fault) → IsPlaced source fault → TellsPlace bytes fault
  placed_in (faults.Syntax at) h = offset_in at h
  placed_in (faults.Tab at) h = offset_of_in s-tab at h
  placed_in (faults.KeyTooLong at) h = long_key_in at h
  placed_in (faults.TooDeep at) h = offset_in at h
  placed_in (faults.BadEscape at) h = offset_of_in c-escape at h
  placed_in (faults.BadDirective at) h = offset_of_in c-directive at h
  placed_in (faults.UnknownHandle at) h = offset_of_in c-tag at h
  placed_in (faults.BadTag at) h = offset_of_in c-tag at h
  placed_in _ h = tt

-- ---- the faults that are none of the reader's

pub text_elsewhere : (bytes : List ℕ) (fault : Fault) → RefusesText bytes fault → TellsPlace bytes fault
text_elsewhere bytes faults.TooLong h = tt
text_elsewhere bytes (faults.NotUtf8 at) h = tt
text_elsewhere bytes (faults.NotPrintable at) h = tt
text_elsewhere bytes _ h = absurd h

pub stream_elsewhere : (bytes : List ℕ) (ds : List Document) (fault : Fault) → RefusesStream ds fault → TellsPlace bytes fault
stream_elsewhere bytes ds (faults.UndefinedAlias e) h = tt
stream_elsewhere bytes ds (faults.CyclicAlias e) h = tt
stream_elsewhere bytes ds (faults.WrongKind e) h = tt
stream_elsewhere bytes ds (faults.BadContent e) h = tt
stream_elsewhere bytes ds (faults.IntRange e) h = tt
stream_elsewhere bytes ds (faults.FloatRange e) h = tt
stream_elsewhere bytes ds (faults.TooHigh e) h = tt
stream_elsewhere bytes ds faults.OutOfMemory h = tt
stream_elsewhere bytes ds _ h = absurd h

pub arranged_elsewhere : (bytes : List ℕ) (ts : List Tree) (fault : Fault) → RefusesArranged ts fault → TellsPlace bytes fault
arranged_elsewhere bytes ts faults.TextTooLong h = tt
arranged_elsewhere bytes ts faults.OutOfMemory h = tt
arranged_elsewhere bytes ts _ h = absurd h

pub write_elsewhere : (bytes : List ℕ) (fault : Fault) → fault ≡ faults.WriteFault → TellsPlace bytes fault
write_elsewhere bytes faults.WriteFault h = tt
write_elsewhere bytes _ h = absurd (cc)

-- ---- sides, and what a reader gave

pub documents_elsewhere : (left right : List ℕ) (ds es : List Document) (side : Side) (fault : Fault) → RefusesDocuments ds es side fault → TellsSidesPlace left right side fault
documents_elsewhere left right ds es Left (faults.EqualKeys n i j) h = tt
documents_elsewhere left right ds es Right (faults.EqualKeys n i j) h = tt
documents_elsewhere left right ds es Left fault h = stream_elsewhere left ds fault h
documents_elsewhere left right ds es Right fault h = stream_elsewhere right es fault h

module _ {R : Type 0} (remaining : R → Option (List ℕ)) (input end : Counted R) where
  pub gather_elsewhere : (fault : Fault) → GatherFails remaining input end text_limit fault → TellsReadPlace remaining input end fault
  gather_elsewhere faults.TooLong h = tt
  gather_elsewhere faults.OutOfMemory h = tt
  gather_elsewhere faults.ReadFault h = tt
  gather_elsewhere _ h = absurd h

  pub read_place : (bytes : List ℕ) (fault : Fault) → Gathers remaining input end text_limit bytes → TellsPlace bytes fault → TellsReadPlace remaining input end fault
  read_place bytes (faults.Syntax at) g h = (bytes, g, h)
  read_place bytes (faults.Tab at) g h = (bytes, g, h)
  read_place bytes (faults.KeyTooLong at) g h = (bytes, g, h)
  read_place bytes (faults.TooDeep at) g h = (bytes, g, h)
  read_place bytes (faults.BadEscape at) g h = (bytes, g, h)
  read_place bytes (faults.BadDirective at) g h = (bytes, g, h)
  read_place bytes (faults.UnknownHandle at) g h = (bytes, g, h)
  read_place bytes (faults.BadTag at) g h = (bytes, g, h)
  read_place bytes _ g h = tt
