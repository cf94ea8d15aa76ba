-- The events of every reading are those of documents: a law over all productions, one line for each, by induction on the room.
use Rattle.std.proofs.Common.{◌≡◌, ℕ, zero, suc, Bool, true, false, List, [], ◌∷◌, ◌++◌, length, refl, sym, ◌∙◌, ap, subst}
use Rattle.std.specs.Prelude.{encode_utf8_all}
use Rattle.std.proofs.lemmas.Str.{is_utf8-from_IsUtf8}
use Rattle.std.proofs.lemmas.List.{append_assoc}
use Rattle.yaml_definitions.specs.model.Event.{Event, Style, sequence_start, sequence_end, mapping_start, mapping_end, document_start, document_end, stream_start, stream_end}
use Rattle.yaml_definitions.specs.model.Event as style
use Rattle.yaml_definitions.specs.model.Limits.{open_limit}
use Rattle.yaml_definitions.specs.model.Serial.{SerialNode, SerialNodes, SerialPairs, alias_at, scalar_at, sequence_at, mapping_at, end_serial, item_serial, done_serial, entry_serial, flat, flat_all, flat_pairs, Document, documents_events}
use Rattle.yaml_definitions.specs.model.Serial as marked
use Rattle.std.proofs.lemmas.List.Sums.{list_all-from_AllPass}
use Rattle.yaml_definitions.specs.model.Text.{is_text}
use Rattle.yaml_definitions.specs.model.Sound.{Sound, AllSound, PairsSound, DocumentsSound}
use Rattle.yaml_definitions.specs.grammar.Rules.{Rule, ◌⨾◌, never, any_one}
use Rattle.yaml_definitions.specs.grammar.Separation.{Ctx, flow_key, flow_out, block_key}
use Rattle.yaml_definitions.specs.grammar.Events.{Props, no_props, seq_start, map_start, scalar, e-scalar as empty, wrapped}
use Rattle.yaml_definitions.specs.grammar.Events as events
use Rattle.yaml_definitions.specs.grammar.Tags as tags
use Rattle.yaml_definitions.specs.grammar.Nodes as nodes
use Rattle.yaml_definitions.specs.grammar.Nodes.{Part, yaml_part, json_part, pair_part, block_part, compact_part, part, reads}
use Rattle.yaml_definitions.specs.grammar.Streams as streams
use Rattle.yaml_definitions.specs.grammar.Streams.{Piece, document_piece, suffix_piece, ReadsText}
use Rattle.yaml_definitions.specs.grammar.Laws.{FromDocuments, ReadingsAreDocuments}
use Rattle.yaml_definitions.specs.grammar.Reading.{Reads}
use Rattle.yaml_definitions.proofs.grammar.Values.{Each, Free, Joins, AreScalars, AreCharacters, IsNameText, SoundProps, each_alias, each_before, each_after, each_either, each_taking, each_some, each_giving, each_never, each_seen, each_given, each_bounded, each_weaker, each_joined, each_any, each_optional, each_free, each_properties, each_plain, each_single, each_double, each_literal, each_folded}

-- ---- the events of a node, of items and of entries; the last two before more of them

abbrev pub IsNode : List Event → Type 0
IsNode es = (t : SerialNode) × ((more : List Event) → es ++ more ≡ flat t more) × Sound t

abbrev AreItems : List Event → Type 0
AreItems es = (rest : SerialNodes) → AllSound rest → (ts : SerialNodes) × ((more : List Event) → es ++ flat_all rest more ≡ flat_all ts more) × AllSound ts

abbrev AreEntries : List Event → Type 0
AreEntries es = (rest : SerialPairs) → PairsSound rest → (ps : SerialPairs) × ((more : List Event) → es ++ flat_pairs rest more ≡ flat_pairs ps more) × PairsSound ps

items_join : (xs ys : List Event) → AreItems xs → AreItems ys → AreItems (xs ++ ys)
items_join xs ys f g rest s =
    let q = g rest s in
    let p = f q.0 q.2 in
    (p.0, (λ more. append_assoc xs ys (flat_all rest more) ∙ ap (λ es. xs ++ es) (q.1 more) ∙ p.1 more), p.2)

abbrev item_lists : Joins AreItems
item_lists = ((λ rest s. (rest, (λ more. refl), s)), items_join)

entries_join : (xs ys : List Event) → AreEntries xs → AreEntries ys → AreEntries (xs ++ ys)
entries_join xs ys f g rest s =
    let q = g rest s in
    let p = f q.0 q.2 in
    (p.0, (λ more. append_assoc xs ys (flat_pairs rest more) ∙ ap (λ es. xs ++ es) (q.1 more) ∙ p.1 more), p.2)

abbrev entry_lists : Joins AreEntries
entry_lists = ((λ rest s. (rest, (λ more. refl), s)), entries_join)

one_item : (es : List Event) → IsNode es → AreItems es
unfolding flat
one_item es h rest s = (item_serial h.0 rest, (λ more. h.1 (flat_all rest more)), (h.2, s))

one_entry : (xs ys : List Event) → IsNode xs → IsNode ys → AreEntries (xs ++ ys)
unfolding flat
one_entry xs ys k v rest s = (
  entry_serial k.0 v.0 rest,
  (λ more. append_assoc xs ys (flat_pairs rest more) ∙ ap (λ es. xs ++ es) (v.1 (flat_pairs rest more)) ∙ k.1 (flat v.0 (flat_pairs rest more))),
  (k.2, v.2, s),
)

each_items : {R : Rule (List Event)} → Each IsNode R → Each AreItems R
each_items f = each_weaker IsNode AreItems one_item f

each_entry : {R S : Rule (List Event)} → Each IsNode R → Each IsNode S → Each AreEntries (R ⨾ S)
each_entry f g i j v (k, ys, zs, r, s, e) = subst AreEntries (sym e) (one_entry ys zs (f i k ys r) (g k j zs s))

-- ---- nodes

alias_node : (name : List ℕ) → IsNameText name → IsNode (events.alias_node name ∷ [])
unfolding flat
alias_node name h = (alias_at (encode_utf8_all name), (λ more. refl), h)

scalar_node : (p : Props) (s : Style) → SoundProps p → (text : List ℕ) → AreScalars text → IsNode (scalar p s text ∷ [])
unfolding flat
scalar_node p s h text k = (scalar_at p.anchor p.tag s (encode_utf8_all text), (λ more. refl), (h.0, h.1, is_utf8-from_IsUtf8 _ (text, (k, refl))))

empty_node : (p : Props) → SoundProps p → IsNode (empty p)
empty_node p h = scalar_node p style.plain h [] refl

sequence_node : (is_flow : Bool) (p : Props) → SoundProps p → (es : List Event) → AreItems es → IsNode (wrapped (seq_start is_flow p) sequence_end es)
unfolding flat
sequence_node is_flow p h es f =
    let q = f end_serial tt in
    (sequence_at p.anchor p.tag is_flow q.0, (λ more. ap (λ x. seq_start is_flow p ∷ x) (append_assoc es (sequence_end ∷ []) more ∙ q.1 (sequence_end ∷ more))), (h.0, h.1, q.2))

mapping_node : (is_flow : Bool) (p : Props) → SoundProps p → (es : List Event) → AreEntries es → IsNode (wrapped (map_start is_flow p) mapping_end es)
unfolding flat
mapping_node is_flow p h es f =
    let q = f done_serial tt in
    (mapping_at p.anchor p.tag is_flow q.0, (λ more. ap (λ x. map_start is_flow p ∷ x) (append_assoc es (mapping_end ∷ []) more ∙ q.1 (mapping_end ∷ more))), (h.0, h.1, q.2))

-- ---- pieces of a stream

abbrev PieceSound : Piece → Type 0
PieceSound (document_piece explicit es) = IsNode es
PieceSound suffix_piece = Unit {0}

abbrev ArePieces : List Piece → Type 0
ArePieces [] = Unit {0}
ArePieces (p ∷ ps) = PieceSound p × ArePieces ps

pieces_join : (ps qs : List Piece) → ArePieces ps → ArePieces qs → ArePieces (ps ++ qs)
pieces_join [] qs h k = k
pieces_join (p ∷ ps) qs h k = (h.0, pieces_join ps qs h.1 k)

abbrev piece_lists : Joins ArePieces
piece_lists = (tt, pieces_join)

-- the documents of the pieces
piece_documents : (ps : List Piece) → ArePieces ps
    → (ds : List Document) × ((more : List Event) → streams.piece_events ps ++ more ≡ documents_events ds more) × DocumentsSound ds
unfolding streams.piece_events
piece_documents [] h = ([], (λ more. refl), tt)
piece_documents (suffix_piece ∷ ps) h = piece_documents ps h.1
piece_documents (document_piece explicit es ∷ ps) h =
    let q = piece_documents ps h.1 in
    let end = document_end (streams.ends_explicitly ps) in (
      record { starts = explicit; root = h.0.0; ends = streams.ends_explicitly ps } ∷ q.0,
      (λ more. ap (λ x. document_start explicit ∷ x) (append_assoc es (end ∷ streams.piece_events ps) more
          ∙ ap (λ x. es ++ (end ∷ x)) (q.1 more) ∙ h.0.1 (end ∷ documents_events q.0 more))),
      (h.0.2, q.2),
    )

-- ---- the productions

module _ (cs : List ℕ) (characters : AreCharacters cs) where
  module _ (Wide : Type 0) (handles : tags.Handles) where
    module _ (Open : Type 0) (inside : Part → Rule (List Event)) (each : (p : Part) → Each IsNode (inside p)) where
      each_inside_flow : (n : ℕ) (c : Ctx) → Each IsNode (nodes.inside_flow cs Wide handles Open inside n c)
      each_inside_flow n c = each_either IsNode (each (yaml_part n c)) (each (json_part n c))

      each_e : Each IsNode (nodes.e-node cs Wide handles Open inside)
      each_e = each_giving IsNode _ (empty_node no_props (tt, tt))

      each_scalar : (p : Props) (s : Style) {R : Rule (List ℕ)} → SoundProps p → Each AreScalars R → Each IsNode (nodes.scalar_of cs Wide handles Open inside p s R)
      each_scalar p s h f = each_seen IsNode AreScalars _ (scalar_node p s h) f

      each_yaml_node : (n : ℕ) (c : Ctx) → Each IsNode (nodes.ns-flow-yaml-node cs Wide handles Open inside n c)
      unfolding nodes.ns-flow-yaml-node
      each_yaml_node n c = each_either IsNode (each_seen IsNode IsNameText _ alias_node (each_alias cs characters))
          (each_either IsNode (each_scalar no_props style.plain (tt, tt) (each_plain cs characters n c))
          (each_taking IsNode SoundProps (each_properties cs characters handles n c)
          (λ p h. each_either IsNode (each_before IsNode _ (each_scalar p style.plain h (each_plain cs characters n c))) (each_giving IsNode _ (empty_node p h)))))

      module _ (Q : List Event → Type 0) (joins : Joins Q) where
        each_parted : (n : ℕ) (c : Ctx) {R : Rule (List Event)} → Each Q R → Each Q (nodes.parted cs Wide handles Open inside n c R)
        each_parted n c f = each_joined Q joins (each_any Q joins (each_after Q _ f)) (each_optional Q joins f)

        each_any_one : {R : Rule (List Event)} → Each Q R → Each Q (any_one R)
        each_any_one f = each_joined Q joins f (each_any Q joins f)

      each_value : (n : ℕ) (c : Ctx) → Each IsNode (nodes.c-ns-flow-map-separate-value cs Wide handles Open inside n c)
      unfolding nodes.c-ns-flow-map-separate-value
      each_value n c = each_before IsNode _ (each_either IsNode (each_before IsNode _ (each_inside_flow n c)) each_e)

      each_adjacent : (n : ℕ) (c : Ctx) → Each IsNode (nodes.c-ns-flow-map-adjacent-value cs Wide handles Open inside n c)
      unfolding nodes.c-ns-flow-map-adjacent-value
      each_adjacent n c = each_before IsNode _ (each_either IsNode (each_before IsNode _ (each_inside_flow n c)) each_e)

      each_yaml_key_entry : (n : ℕ) (c : Ctx) → Each AreEntries (nodes.ns-flow-map-yaml-key-entry cs Wide handles Open inside n c)
      unfolding nodes.ns-flow-map-yaml-key-entry
      each_yaml_key_entry n c = each_entry (each (yaml_part n c)) (each_either IsNode (each_before IsNode _ (each_value n c)) each_e)

      each_json_key_entry : (n : ℕ) (c : Ctx) → Each AreEntries (nodes.c-ns-flow-map-json-key-entry cs Wide handles Open inside n c)
      unfolding nodes.c-ns-flow-map-json-key-entry
      each_json_key_entry n c = each_entry (each (json_part n c)) (each_either IsNode (each_before IsNode _ (each_adjacent n c)) each_e)

      each_implicit_entry : (n : ℕ) (c : Ctx) → Each AreEntries (nodes.ns-flow-map-implicit-entry cs Wide handles Open inside n c)
      unfolding nodes.ns-flow-map-implicit-entry
      each_implicit_entry n c = each_either AreEntries (each_yaml_key_entry n c) (each_json_key_entry n c)

      each_empty_key : (n : ℕ) (c : Ctx) → Each AreEntries (nodes.c-ns-flow-map-empty-key-entry cs Wide handles Open inside n c)
      unfolding nodes.c-ns-flow-map-empty-key-entry
      each_empty_key n c = each_entry each_e (each_value n c)

      each_explicit : (n : ℕ) (c : Ctx) → Each AreEntries (nodes.ns-flow-map-explicit-entry cs Wide handles Open inside n c)
      unfolding nodes.ns-flow-map-explicit-entry
      each_explicit n c = each_before AreEntries _ (each_either AreEntries (each_implicit_entry n c)
          (each_either AreEntries (each_empty_key n c) (each_entry each_e each_e)))

      each_flow_entry : (n : ℕ) (c : Ctx) → Each AreEntries (nodes.ns-flow-map-entry cs Wide handles Open inside n c)
      unfolding nodes.ns-flow-map-entry
      each_flow_entry n c = each_either AreEntries (each_implicit_entry n c) (each_given AreEntries _ (each_either AreEntries (each_empty_key n c) (each_explicit n c)))

      each_implicit_yaml_key : (c : Ctx) → Each IsNode (nodes.ns-s-implicit-yaml-key cs Wide handles Open inside c)
      unfolding nodes.ns-s-implicit-yaml-key
      each_implicit_yaml_key c = each_bounded IsNode _ (each_after IsNode _ (each (yaml_part 0 c)))

      each_implicit_json_key : (c : Ctx) → Each IsNode (nodes.c-s-implicit-json-key cs Wide handles Open inside c)
      unfolding nodes.c-s-implicit-json-key
      each_implicit_json_key c = each_bounded IsNode _ (each_after IsNode _ (each (json_part 0 c)))

      each_pair : (n : ℕ) (c : Ctx) → Each IsNode (nodes.ns-flow-pair cs Wide handles Open inside n c)
      unfolding nodes.ns-flow-pair
      each_pair n c = each_given IsNode _ (each_seen IsNode AreEntries _ (mapping_node true no_props (tt, tt))
          (each_either AreEntries (each_entry (each_implicit_yaml_key flow_key) (each_value n c))
          (each_either AreEntries (each_entry (each_implicit_json_key flow_key) (each_adjacent n c))
          (each_given AreEntries _ (each_either AreEntries (each_empty_key n c) (each_explicit n c))))))

      each_flow_seq : (p : Props) → SoundProps p → (n : ℕ) (c : Ctx) → Each IsNode (nodes.c-flow-sequence cs Wide handles Open inside p n c)
      unfolding nodes.c-flow-sequence
      each_flow_seq p h n c = each_given IsNode _ (each_seen IsNode AreItems _ (sequence_node true p h)
          (each_before AreItems _ (each_after AreItems _ (each_parted AreItems item_lists n c
          (each_after AreItems _ (each_items (each_either IsNode (each (pair_part n _)) (each_inside_flow n _))))))))

      each_flow_map : (p : Props) → SoundProps p → (n : ℕ) (c : Ctx) → Each IsNode (nodes.c-flow-mapping cs Wide handles Open inside p n c)
      unfolding nodes.c-flow-mapping
      each_flow_map p h n c = each_given IsNode _ (each_seen IsNode AreEntries _ (mapping_node true p h)
          (each_before AreEntries _ (each_after AreEntries _ (each_parted AreEntries entry_lists n c (each_after AreEntries _ (each_flow_entry n _))))))

      each_json_node : (n : ℕ) (c : Ctx) → Each IsNode (nodes.c-flow-json-node cs Wide handles Open inside n c)
      unfolding nodes.c-flow-json-node
      each_json_node n c = each_taking IsNode SoundProps (each_either SoundProps (each_giving SoundProps no_props (tt, tt)) (each_after SoundProps _ (each_properties cs characters handles n c)))
          (λ p h. each_either IsNode (each_scalar p style.single h (each_single cs characters n c))
          (each_either IsNode (each_scalar p style.double h (each_double cs characters n c))
          (each_either IsNode (each_flow_seq p h n c) (each_flow_map p h n c))))

      each_flow_node : (n : ℕ) (c : Ctx) → Each IsNode (nodes.ns-flow-node cs Wide handles Open inside n c)
      unfolding nodes.ns-flow-node
      each_flow_node n c = each_either IsNode (each_yaml_node n c) (each_json_node n c)

      each_empty_rest : Each IsNode (nodes.empty_rest cs Wide handles Open inside)
      each_empty_rest = each_after IsNode _ each_e

      each_indented : (n : ℕ) → Each IsNode (nodes.s-l+block-indented cs Wide handles Open inside n)
      unfolding nodes.s-l+block-indented
      each_indented n = each_either IsNode (each_some IsNode (λ m. each_given IsNode _ (each_before IsNode _ (each _)))) (each_either IsNode (each _) each_empty_rest)

      each_seq_entry : (n : ℕ) → Each AreItems (nodes.c-l-block-seq-entry cs Wide handles Open inside n)
      unfolding nodes.c-l-block-seq-entry
      each_seq_entry n = each_items (each_before IsNode _ (each_indented n))

      each_map_entry : (n : ℕ) → Each AreEntries (nodes.ns-l-block-map-entry cs Wide handles Open inside n)
      unfolding nodes.ns-l-block-map-entry
      each_map_entry n = each_entry (each_after IsNode _ (each_either IsNode (each_implicit_yaml_key block_key) (each_implicit_json_key block_key)))
          (each_either IsNode (each _) each_empty_rest)

      each_block_seq : (p : Props) → SoundProps p → (col : ℕ) → Each IsNode (nodes.l+block-sequence cs Wide handles Open inside p col)
      unfolding nodes.l+block-sequence
      each_block_seq p h col = each_given IsNode _ (each_seen IsNode AreItems _ (sequence_node false p h)
          (each_some AreItems (λ k. each_given AreItems _ (each_any_one AreItems item_lists (each_before AreItems _ (each_seq_entry k))))))

      each_block_map : (p : Props) → SoundProps p → (col : ℕ) → Each IsNode (nodes.l+block-mapping cs Wide handles Open inside p col)
      unfolding nodes.l+block-mapping
      each_block_map p h col = each_given IsNode _ (each_seen IsNode AreEntries _ (mapping_node false p h)
          (each_some AreEntries (λ k. each_given AreEntries _ (each_any_one AreEntries entry_lists (each_before AreEntries _ (each_map_entry k))))))

      each_compact_seq : (k : ℕ) → Each IsNode (nodes.ns-l-compact-sequence cs Wide handles Open inside k)
      unfolding nodes.ns-l-compact-sequence
      each_compact_seq k = each_given IsNode _ (each_seen IsNode AreItems _ (sequence_node false no_props (tt, tt))
          (each_joined AreItems item_lists (each_seq_entry k) (each_any AreItems item_lists (each_before AreItems _ (each_seq_entry k)))))

      each_compact_map : (k : ℕ) → Each IsNode (nodes.ns-l-compact-mapping cs Wide handles Open inside k)
      unfolding nodes.ns-l-compact-mapping
      each_compact_map k = each_given IsNode _ (each_seen IsNode AreEntries _ (mapping_node false no_props (tt, tt))
          (each_joined AreEntries entry_lists (each_map_entry k) (each_any AreEntries entry_lists (each_before AreEntries _ (each_map_entry k)))))

      each_block_node : (col : ℕ) (c : Ctx) → Each IsNode (nodes.s-l+block-node cs Wide handles Open inside col c)
      unfolding nodes.s-l+block-node
      each_block_node col c = each_either IsNode
          (each_before IsNode _ (each_after IsNode _ (each_flow_node col flow_out)))
          (each_either IsNode
          (each_before IsNode _ (each_taking IsNode SoundProps
          (each_either SoundProps (each_giving SoundProps no_props (tt, tt)) (each_after SoundProps _ (each_properties cs characters handles col c)))
          (λ p h. each_either IsNode (each_scalar p style.literal h (each_literal cs characters col)) (each_scalar p style.folded h (each_folded cs characters col)))))
          (each_taking IsNode SoundProps
          (each_after SoundProps _ (each_either SoundProps (each_giving SoundProps no_props (tt, tt)) (each_before SoundProps _ (each_properties cs characters handles col c))))
          (λ p h. each_either IsNode (each_block_map p h col) (each_block_seq p h _))))

      each_part : (p : Part) → Each IsNode (part cs Wide handles Open inside p)
      each_part (yaml_part n c) = each_yaml_node n c
      each_part (json_part n c) = each_json_node n c
      each_part (pair_part n c) = each_pair n c
      each_part (block_part col c) = each_block_node col c
      each_part (compact_part k) = each_either IsNode (each_compact_seq k) (each_compact_map k)

    -- by induction on the room
    pub each_reads : (room : ℕ) (p : Part) → Each IsNode (reads cs Wide handles room p)
    unfolding reads
    each_reads zero p = each_part ⊥ (λ q. never) (λ q. each_never IsNode) p
    each_reads (suc room) p = each_part (Unit {0}) (reads cs Wide handles room) (each_reads room) p

  -- ---- documents and streams

  module _ (Wide : Type 0) (room : ℕ) where
    each_bare_document : (handles : tags.Handles) → Each IsNode (streams.l-bare-document cs Wide room handles)
    unfolding streams.l-bare-document
    each_bare_document handles = each_bounded IsNode _ (each_reads Wide handles room _)

    each_explicit_document : (handles : tags.Handles) → Each IsNode (streams.l-explicit-document cs Wide room handles)
    unfolding streams.l-explicit-document
    each_explicit_document handles = each_before IsNode _ (each_either IsNode (each_bare_document handles) (each_after IsNode _ (each_giving IsNode _ (empty_node no_props (tt, tt)))))

    each_directive_document : Each IsNode (streams.l-directive-document cs Wide room)
    unfolding streams.l-directive-document
    each_directive_document = each_taking IsNode Free (each_free _) (λ handles u. each_explicit_document handles)

    each_explicit_piece : Each ArePieces (streams.explicit_piece cs Wide room)
    each_explicit_piece = each_seen ArePieces IsNode _ (λ es h. (h, tt)) (each_explicit_document [])

    each_any_document : Each ArePieces (streams.l-any-document cs Wide room)
    unfolding streams.l-any-document
    each_any_document = each_either ArePieces (each_seen ArePieces IsNode _ (λ es h. (h, tt)) (each_bare_document []))
        (each_either ArePieces each_explicit_piece (each_seen ArePieces IsNode _ (λ es h. (h, tt)) each_directive_document))

    each_suffix : Each ArePieces (streams.l-document-suffix cs Wide room)
    unfolding streams.l-document-suffix
    each_suffix = each_before ArePieces _ (each_after ArePieces _ (each_giving ArePieces _ (tt, tt)))

    each_stream : Each ArePieces (streams.l-yaml-stream cs Wide room)
    unfolding streams.l-yaml-stream
    each_stream = each_joined ArePieces piece_lists (each_before ArePieces _ (each_optional ArePieces piece_lists each_any_document))
        (each_any ArePieces piece_lists (each_either ArePieces
        (each_joined ArePieces piece_lists (each_joined ArePieces piece_lists each_suffix (each_any ArePieces piece_lists each_suffix))
        (each_before ArePieces _ (each_optional ArePieces piece_lists each_any_document)))
        (each_either ArePieces each_explicit_piece (each_before ArePieces _ (each_giving ArePieces [] tt)))))

    pub documents_of_reading : (es : List Event) → ReadsText cs Wide room es → FromDocuments es
    unfolding ReadsText streams.stream_of_pieces marked.stream_events
    documents_of_reading es (pieces, r, e) =
        let q = piece_documents pieces (each_stream 0 (length cs) pieces r) in
        (q.0, e ∙ ap (λ x. stream_start ∷ x) (q.1 (stream_end ∷ [])), q.2)

pub readings_are_documents : ReadingsAreDocuments
unfolding Reads
readings_are_documents bytes es (cs, text, r) = documents_of_reading cs (text.scalars, list_all-from_AllPass is_text cs text.permitted) (Unit {0}) open_limit es r
