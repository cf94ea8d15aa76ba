-- A flow node that was read where a node of block level begins: by what stands after it, it is the node, or the first key of a mapping, or neither.
use Rattle.std.proofs.Common.{◌≡◌, ℕ, ◌+◌, ◌≤◌, ◌⊎◌, inl, inr, List, Option, Some, None, refl, sym, subst, arith}
use Rattle.std.specs.Prelude.{slice_get}
use Rattle.yaml_definitions.specs.model.Limits.{key_limit}
use Rattle.yaml_definitions.specs.grammar.Rules.{Rule, ◌⨾◌, any, maybe, run, Stands}
use Rattle.yaml_definitions.specs.grammar.Characters.{is_space, is_ns}
use Rattle.yaml_definitions.specs.grammar.Separation.{Ctx, flow_out, s-separate-in-line as sep, s-l-comments as s_l_comments, OneLine}
use Rattle.yaml_definitions.specs.grammar.Tags.{Handles}
use Rattle.yaml_definitions.specs.model.Event.{Event}
use Rattle.yaml_definitions.specs.grammar.Events.{Props}
use Rattle.yaml_definitions.specs.grammar.Nodes.{Part, part, ns-flow-node as flow_node, ns-l-block-map-entry as map_entry}
use Rattle.yaml_definitions.proofs.grammar.Forward.{Forward}
use Rattle.yaml_definitions.proofs.grammar.Widening.{Within}
use Rattle.yaml_text.specs.Lines.{Inside}
use Rattle.law_one_reading.specs.Readings.{End, At}
use Rattle.law_one_reading.specs.Follows.{Stuck, Over, Follow, EndsNode as F, KeyHere}
use Rattle.law_one_reading.proofs.Lines.{past_of, sep_run}
use Rattle.law_one_reading.proofs.FlowEntries.{Facts}
use Rattle.law_one_reading.proofs.KeyContexts.{Eased}
use Rattle.yaml_text.proofs.Runs.{run_none}
use Rattle.law_one_reading.proofs.BlockNodes.{KeyRead}
use Rattle.law_one_reading.proofs.BlockLevels.{Blocks, key_flow, key_parts, value_no_ns}
use Rattle.law_going_on.specs.GoingOn.{Refused, Goes, Rest, Here}
use Rattle.law_going_on.proofs.GoingOn.{rest_refused, rest_left, rest_right, goes_at, refused_either}
use Rattle.law_going_on.proofs.KeyOrScalar.{node_line, node_no_line, node_no_rest, key_goes, no_colon}
use Rattle.law_going_on.proofs.BlockLoops.{MappingFrom, Keys, Values, Pairs, Colon, mapping_keyed, mapping_no_key}
use Rattle.law_going_on.proofs.BlockStarts.{FlowLine, map_key}
use Rattle.law_going_on.proofs.OwnLines.{MappingIn, FlowOrKey, mapping_refused}

module _ (cs : List ℕ) (Wide : Type 0) (handles : Handles) (Open : Type 0) (inside : Part → Rule (List Event)) (facts : Facts cs inside) (ease : Eased cs Wide handles inside)
    (wider : (p : Part) → Within (inside p) (part cs Wide handles Open inside p)) (fwd : (p : Part) → Forward (inside p)) (blocks : Blocks cs Wide handles inside) where
  -- two facts of the entries of mappings
  pub value_starts : (k i j : ℕ) (v : List Event) → Inside cs i → Values cs Wide handles Open inside k i j v → Stands cs is_ns i → ⊥
  value_starts k i j v o r = value_no_ns cs Wide handles Open inside facts ease wider fwd blocks k i j v o r

  pub key_starts : (k i j : ℕ) (v : List Event) → map_entry cs Wide handles Open inside k i j v → KeyHere cs i
  key_starts k i j v r = map_key cs Wide handles Open inside facts ease wider fwd blocks 0 flow_out k i j v r

  -- no flow node that a colon follows is no key
  pub keys_refused : (col d : ℕ) (c : Ctx) (k x : ℕ) → (KeyRead cs Wide handles Open inside col d c x → ⊥) → Refused (Keys cs Wide handles Open inside k) (At (Colon cs Wide handles Open inside k)) x
  keys_refused col d c k x n = record { none = λ j m v (z, r, (h, e)) (f, g). go z v h (λ s. g (subst (Stands cs is_ns) (sym e) s)) (key_parts cs Wide handles Open inside facts ease wider fwd blocks col x z v r) }
    where
      spaces : (a z : ℕ) → maybe (sep cs) a z → run cs is_space a z
      spaces a z (inl e) = subst (run cs is_space a) (sym e) (run_none cs is_space a)
      spaces a z (inr s) = sep_run cs a z s

      go : (z : ℕ) (v : List Event) → slice_get cs z ≡ Some 58 → (Stands cs is_ns (z + 1) → ⊥) → (a : ℕ) × flow_node cs Wide handles Open inside col flow_out x a v × maybe (sep cs) a z × OneLine cs x z → ⊥
      go z v h g (a, p, t, one) =
          let s = spaces a z t in
          let le : a ≤ z = s.0 in n (a, v, p, (z, s, h, g), λ l y w. one l y (omega (arith, w, le)))

  module _ (col d : ℕ) (c : Ctx) where
    abbrev Flow : Rule (List Event)
    Flow = flow_node cs Wide handles Open inside col flow_out

    abbrev Line : Rule (List Event)
    Line = FlowLine cs Wide handles Open inside facts ease wider fwd blocks col c

    abbrev AfterNode : End
    AfterNode = Over cs (Follow cs col d)

    abbrev InText : End
    InText = At (F cs col d)

    abbrev Mapping : Props → Option ℕ → Rule (List Event)
    Mapping = MappingIn cs Wide handles Open inside facts ease wider fwd blocks col d c

    abbrev Whole : Props → Option ℕ → Rule (List Event)
    Whole = FlowOrKey cs Wide handles Open inside facts ease wider fwd blocks col d c

    -- no flow node goes on
    line_refused : (x : ℕ) → Refused Flow InText x → Refused Line AfterNode x
    line_refused x n = record { none = λ j m v (k, r, t) (y, f). n.none k k v r (refl, inl (m, past_of cs k j m t y, f)) }

    pub no_flow : (p : Props) (column : Option ℕ) (x : ℕ) → Refused Flow InText x → Refused (Whole p column) AfterNode x
    no_flow p column x n = refused_either (line_refused x n) (mapping_refused cs Wide handles Open inside facts ease wider fwd blocks col d c AfterNode x p column (λ (o, v, f, fk, one). n.none o o v f (refl, inr fk)))

    -- one that ends at y does
    module _ (x y : ℕ) (node : Goes Flow InText x InText y) where
      -- no colon that makes it a key, or no column for a mapping
      abbrev pub NoKey : Option ℕ → Type 0
      NoKey column = (column ≡ None) ⊎ ((q : ℕ) → run cs is_space y q → slice_get cs q ≡ Some 58 → OneLine cs x q → q ≤ x + key_limit → ⊥)

      mapping_none : (E : End) (p : Props) (column : Option ℕ) → NoKey column → Refused (Mapping p column) E x
      mapping_none E p None n = record { none = λ j m v r e. r }
      mapping_none E p (Some k) (inl h) = some_none h
        where
          some_none : {A : Type 0} → Some k ≡ None → A
          some_none g = cc
      mapping_none E p (Some k) (inr n) =
          mapping_no_key cs Wide handles Open inside k (value_starts k) (key_starts k) p E x (no_colon cs Flow col d Wide handles Open inside (key_flow cs Wide handles Open inside facts ease wider fwd blocks col) x y node n)

      pub no_key_left : (p : Props) (column : Option ℕ) → NoKey column → Rest (Whole p column) AfterNode x Line AfterNode x
      no_key_left p column n = rest_left Line (mapping_none AfterNode p column n)

      pub no_key_mapping : (E : End) (p : Props) (column : Option ℕ) → NoKey column → Refused (Mapping p column) E x
      no_key_mapping E p column n = mapping_none E p column n

      -- the rest of the line
      pub line_goes : (s : ℕ) → s_l_comments cs y s → Stuck cs s → Goes Line AfterNode x Here s
      line_goes s over st = node_line cs Flow col d x y s node over st

      pub line_not_over : ((j : ℕ) → s_l_comments cs y j → ⊥) → Refused Line AfterNode x
      line_not_over n = node_no_line cs Flow col d x y node n

      -- a colon follows: it is no scalar, and if it is no key either, nothing
      module _ (q : ℕ) (ins : Inside cs y) (spaces : run cs is_space y q) (colon : slice_get cs q ≡ Some 58) where
        pub key_left : (p : Props) (column : Option ℕ) → Rest (Whole p column) AfterNode x (Mapping p column) AfterNode x
        key_left p column = rest_right (Mapping p column) (node_no_rest cs Flow col d x y q node ins spaces colon)

        pub neither : (p : Props) (column : Option ℕ) → NoKey column → Refused (Whole p column) AfterNode x
        neither p column n = rest_refused (key_left p column) (mapping_none AfterNode p column n)

      -- a mapping from the colon of its first key on
      pub keyed_left : (p : Props) (k q : ℕ) (E : End) → run cs is_space y q → slice_get cs q ≡ Some 58 → Rest (MappingFrom cs Wide handles Open inside k p) E x (Values cs Wide handles Open inside k ⨾ any (Pairs cs Wide handles Open inside k)) E (q + 1)
      keyed_left p k q E spaces colon =
          mapping_keyed cs Wide handles Open inside k (value_starts k) (key_starts k) p E x (q + 1) (goes_at (Colon cs Wide handles Open inside k) (key_goes cs Flow col d Wide handles Open inside (key_flow cs Wide handles Open inside facts ease wider fwd blocks col) x y q node spaces colon))
