-- A stream as far as it was read: its pieces, and the events that were written of them (YAML 1.2.2, chapter 9).
use Rattle.std.specs.Prelude.{◌≡◌, ◌⊎◌, ℕ, List, [], ◌∷◌, ◌++◌, Bool, true, false}
use Rattle.yaml_definitions.specs.model.Limits.{open_limit}
use Rattle.yaml_definitions.specs.model.Event.{Event, stream_start, document_start, document_end}
use Rattle.yaml_definitions.specs.grammar.Rules.{◌◂◌, any_one, any_span}
use Rattle.yaml_definitions.specs.grammar.Separation.{l-comment as l_comment}
use Rattle.yaml_definitions.specs.grammar.Streams.{Piece, document_piece, suffix_piece, l-yaml-stream as stream, l-document-suffix as suffix}

-- whether the document before these pieces ends explicitly, where the Bool says whether a suffix comes after them
unfoldable pub ends_so : List Piece → Bool → Bool
ends_so [] next = next
ends_so (suffix_piece ∷ ps) next = true
ends_so (document_piece explicit es ∷ ps) next = false

-- the events of the pieces, where the Bool says whether a suffix comes after them
unfoldable pub events_so : List Piece → Bool → List Event
events_so [] next = []
events_so (suffix_piece ∷ ps) next = events_so ps next
events_so (document_piece explicit es ∷ ps) next = document_start explicit ∷ (es ++ (document_end (ends_so ps next) ∷ events_so ps next))

-- the end of the last document, where it is still to be written
abbrev pub document_closing : Bool → Bool → List Event
document_closing true next = document_end next ∷ []
document_closing false next = []

module _ (cs : List ℕ) where
  abbrev pub Pieces : ℕ → List Piece → Type 0
  Pieces i ps = stream cs (Unit {0}) open_limit 0 i ps

  -- only comment lines stand before i, or a suffix and comment lines: a document needs no mark here
  abbrev pub MayBeBare : ℕ → List Piece → Type 0
  MayBeBare i ps = (any_span (l_comment cs) 0 i × (ps ≡ []))
      ⊎ ((k : ℕ) × (qs : List Piece) × (rs : List Piece) × Pieces k qs × (any_one (suffix cs (Unit {0}) open_limit) ◂ any_span (l_comment cs)) k i rs × (ps ≡ qs ++ rs))

  -- The pieces up to i were read and written. `is_open`: the last of them is a document whose end is still to be written.
  pub record IsSofar (is_open : Bool) (i : ℕ) (written : List Event) : Type 0 where
    pub pieces : List Piece
    pub read : Pieces i pieces
    pub fresh : is_open ≡ false → MayBeBare i pieces
    pub events : (next : Bool) → written ++ document_closing is_open next ≡ stream_start ∷ events_so pieces next
