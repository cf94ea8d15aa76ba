-- A canonical text is read as a stream.
use Rattle.std.proofs.Common.{◌≡◌, ℕ, zero, suc, ◌+◌, ◌≤◌, true, false, inl, inr, Some, List, [], ◌∷◌, ◌++◌, map, length, slice_get, refl, sym, ◌∙◌, ap, subst, arith, append_assoc}
use Rattle.yaml_definitions.specs.model.Limits.{open_limit}
use Rattle.yaml_definitions.specs.model.Tree.{Tree}
use Rattle.yaml_definitions.specs.model.Event.{Event, stream_start, stream_end, document_start, document_end}
use Rattle.yaml_definitions.specs.model.Serial.{SerialNode, flat, documents_events, stream_events}
use Rattle.yaml_definitions.specs.canonical.NodeText.{node_text}
use Rattle.yaml_definitions.specs.canonical.Spell.{serial_of, spell, spelled, document_of}
use Rattle.yaml_definitions.specs.model.Proper.{AreAdmitted}
use Rattle.yaml_definitions.specs.grammar.Rules.{Rule, Any, done, then, Spans, word, Stands, ◌▸◌, ◌⨾◌, ◌∪◌, gives, optional, any_one, any_span}
use Rattle.yaml_definitions.specs.grammar.Characters.{is_white}
use Rattle.yaml_definitions.specs.grammar.Separation.{Ctx, block_in, flow_out, s-separate as separate, s-l-comments as s_l_comments, l-comment as l_comment, DocumentMarkOf, StartsLine, Unmarked}
use Rattle.yaml_definitions.specs.grammar.Nodes.{block_part, s-l+block-node as block_node, ns-flow-node as flow_node, reads}
use Rattle.yaml_definitions.specs.grammar.Streams as grammar
use Rattle.yaml_definitions.specs.grammar.Streams.{Piece, document_piece, piece_events, ends_explicitly, document_mark, l-bare-document as bare_document, l-explicit-document as explicit_document, explicit_piece, l-any-document as any_document, l-document-suffix as suffix, l-yaml-stream as stream, ReadsText}
use Rattle.yaml_definitions.specs.grammar.Reading.{Reads}
use Rattle.yaml_definitions.proofs.PrintLaws.{spelled_text}
use Rattle.law_read_back.specs.Spellings.{SpellingsAreRead}
use Rattle.law_read_back.proofs.PlaceLemmas.{At, at_get, at_next, at_end}
use Rattle.law_read_back.proofs.FlowReadings.{Spells, depth, Node, feed_stops, flat_more, node_read}
use Rattle.law_read_back.proofs.LineLemmas.{Calm, calm_after, calm_run, a_nb, rest_unmarked, line_starts, line_ends, below_or_not, apart}
use Rattle.law_read_back.proofs.TextLemmas.{text_over}
use Rattle.law_read_back.proofs.MarkLemmas.{spells_tree, depth_tree}

module _ (cs : List ℕ) where
  -- a node in flow style is a block node
  pub flow_block : (room n : ℕ) (c : Ctx) (i k m j : ℕ) (es : List Event) → separate cs n flow_out i k → Node cs room n flow_out k m es → s_l_comments cs m j → reads cs (Unit {0}) [] room (block_part n c) i j es
  unfolding reads block_node flow_node
  flow_block zero n c i k m j es s (inl d) t = inl (k, s, (m, inl d, t))
  flow_block zero n c i k m j es s (inr d) t = inl (k, s, (m, inr d, t))
  flow_block (suc room) n c i k m j es s (inl d) t = inl (k, s, (m, inl d, t))
  flow_block (suc room) n c i k m j es s (inr d) t = inl (k, s, (m, inr d, t))

  -- a node in flow style and the end of its line, after a space
  pub flow_line : (t : SerialNode) (room n : ℕ) (c : Ctx) (i : ℕ) (r : List ℕ) → Spells t → depth t ≤ room → At cs i (32 ∷ node_text t (10 ∷ r))
      → (j : ℕ) × reads cs (Unit {0}) [] room (block_part n c) i j (flat t []) × At cs j r × Unmarked cs (i + 1) j × StartsLine cs j
  flow_line t room n c i r p l a =
      let e = at_get cs i 32 (node_text t (10 ∷ r)) a in
      let b = at_next cs i 32 (node_text t (10 ∷ r)) a in
      let d = node_read cs t room n flow_out (i + 1) (10 ∷ r) p l feed_stops b in
      let o = text_over cs t (i + 1) d.0 (10 ∷ r) p b d.2 in
      let calm : Calm cs (i + 1) = calm_after cs i 32 e (a_nb 32 (omega arith)) in
      let last : Calm cs d.0 = calm_run cs (i + 1) d.0 calm o.1 in
      let g = at_get cs d.0 10 r d.2 in
      (d.0 + 1, flow_block room n c i (i + 1) d.0 (d.0 + 1) (flat t []) (apart cs n flow_out i e) d.1 (line_ends cs d.0 last g), at_next cs d.0 10 r d.2, rest_unmarked cs (i + 1) d.0 calm o.1, line_starts cs d.0 last g)

  -- ---- documents

  -- `---` and what is read after it
  pub explicit_read : (i : ℕ) (r : List ℕ) (j : ℕ) (es : List Event) → StartsLine cs i → At cs i (45 ∷ 45 ∷ 45 ∷ 32 ∷ r)
      → reads cs (Unit {0}) [] open_limit (block_part 0 block_in) (i + 1 + 1 + 1) j es → Unmarked cs (i + 1 + 1 + 1 + 1) j → explicit_document cs (Unit {0}) open_limit [] i j es
  unfolding explicit_document bare_document document_mark DocumentMarkOf is_white
  explicit_read i r j es s a d u =
      let a1 = at_next cs i 45 (45 ∷ 45 ∷ 32 ∷ r) a in
      let a2 = at_next cs (i + 1) 45 (45 ∷ 32 ∷ r) a1 in
      let a3 = at_next cs (i + 1 + 1) 45 (32 ∷ r) a2 in
      let k : ℕ = i + 1 + 1 + 1 in
      let e2 = at_get cs (i + 1 + 1) 45 (32 ∷ r) a2 in
      let e3 = at_get cs k 32 r a3 in
      let w : word cs (45 ∷ 45 ∷ 45 ∷ []) i k = (i + 1, (at_get cs i 45 _ a, refl), (i + 1 + 1, (at_get cs (i + 1) 45 _ a1, refl), (k, (e2, refl), refl))) in
      let q : k ≡ i + 3 = omega arith in
      let white : Stands cs is_white (i + 3) = (32, subst (λ z. slice_get cs z ≡ Some 32) q e3, refl) in
      let mark : DocumentMarkOf cs 45 i = (s, (k, w), inl white) in
      let calm : Calm cs k = calm_after cs (i + 1 + 1) 45 e2 (a_nb 45 (omega arith)) in
      let all : Unmarked cs k j = both k j calm e3 u in
      (k, (i, (refl, mark), w), inl (all, d))
    where
      both : (k j : ℕ) → Calm cs k → slice_get cs k ≡ Some 32 → Unmarked cs (k + 1) j → Unmarked cs k j
      both k j calm e u =
          let one = rest_unmarked cs k k calm (omega arith, λ m x y. absurd (let z : ⊥ = omega (arith, x, y) in z)) in
          λ m x y h. elim (below_or_not cs m (k + 1)) [ inl f ↦ one m x f h | inr f ↦ u m f y h ]

  module _ (root : Tree → SerialNode) where
    -- documents with these roots stand from the place on, up to the end
    abbrev pub Documents : List Tree → ℕ → Type 0
    Documents [] i = i ≡ length cs
    Documents (t ∷ f) i = (j : ℕ) × explicit_document cs (Unit {0}) open_limit [] i j (flat (root t) []) × Documents f j

  -- what may stand after the first document
  abbrev Later : Rule (List Piece)
  Later = (any_one (suffix cs (Unit {0}) open_limit) ⨾ (any_span (l_comment cs) ▸ optional (any_document cs (Unit {0}) open_limit))) ∪ explicit_piece cs (Unit {0}) open_limit ∪ (l_comment cs ▸ gives [])

  abbrev Pieces : (Tree → SerialNode) → List Tree → ℕ → Type 0
  Pieces root f i = (ps : List Piece) × Any Later (length cs) i ps × (ends_explicitly ps ≡ false)
      × ((more : List Event) → piece_events ps ++ more ≡ documents_events (map (λ t. document_of (root t)) f) more)

  many : (root : Tree → SerialNode) (f : List Tree) (i : ℕ) → Documents root f i → Pieces root f i
  unfolding piece_events ends_explicitly
  many root [] i e = ([], done (sym e) refl, refl, λ more. refl)
  many root (t ∷ f) i (j, d, h) =
      let (ps, rest, q, w) = many root f j h in
      let es : List Event = flat (root t) [] in (
        document_piece true es ∷ ps,
        then j (document_piece true es ∷ []) ps (inr (inl (es, d, refl))) rest refl,
        refl,
        λ more. ap (λ z. document_start true ∷ z) (append_assoc es (document_end (ends_explicitly ps) ∷ piece_events ps) more ∙ ap (λ z. es ++ z) (λ z. document_end (q z) ∷ w more z)
            ∙ sym (flat_more (root t) [] (document_end false ∷ documents_events (map (λ t. document_of (root t)) f) more))),
      )

  pub stream_read : (root : Tree → SerialNode) (f : List Tree) → Documents root f 0 → ReadsText cs (Unit {0}) open_limit (stream_events (map (λ t. document_of (root t)) f))
  unfolding ReadsText stream stream_events grammar.stream_of_pieces
  stream_read root f h =
      let (ps, rest, q, w) = many root f 0 h in
      (ps, (0, [], ps, (0, Spans.done refl, inl (refl, refl)), rest, refl), ap (λ z. stream_start ∷ z) (sym (w (stream_end ∷ []))))

  -- ---- canonical text

  forest_read : (f : List Tree) (i : ℕ) → AreAdmitted f → StartsLine cs i → At cs i (spell f) → Documents serial_of f i
  unfolding spell
  forest_read [] i p s a = at_end cs i a
  forest_read (t ∷ f) i p s a =
      let r : List ℕ = node_text (serial_of t) (10 ∷ spell f) in
      let a3 = at_next cs (i + 1 + 1) 45 (32 ∷ r) (at_next cs (i + 1) 45 (45 ∷ 32 ∷ r) (at_next cs i 45 (45 ∷ 45 ∷ 32 ∷ r) a)) in
      let d = flow_line (serial_of t) open_limit 0 block_in (i + 1 + 1 + 1) (spell f) (spells_tree t p.0) (depth_tree t p.0) a3 in
      (d.0, explicit_read i r d.0 (flat (serial_of t) []) s a d.1 d.3, forest_read f d.0 p.1 d.4 d.2)

pub spellings_are_read : SpellingsAreRead
unfolding Reads spelled StartsLine
spellings_are_read f a = let cs : List ℕ = spell f in (cs, spelled_text f a, stream_read cs serial_of f (forest_read cs f 0 a.trees (inl refl) (refl, omega arith)))
