-- A value, an entry's node, or nothing: which of them is left, by the line that comes next.
use Rattle.std.proofs.Common.{◌≡◌, ℕ, ◌+◌, ◌≤◌, inl, inr, List, refl, subst, arith}
use Rattle.yaml_definitions.specs.grammar.Rules.{Rule, Spans, ◌▸◌, ◌∪◌, given, Stands}
use Rattle.yaml_definitions.specs.grammar.Characters.{is_space}
use Rattle.yaml_definitions.specs.grammar.Separation.{Ctx, block_in, s-l-comments as s_l_comments, s-indent as indent}
use Rattle.yaml_definitions.specs.grammar.Tags.{Handles}
use Rattle.yaml_definitions.specs.model.Event.{Event}
use Rattle.yaml_definitions.specs.grammar.Events.{no_props}
use Rattle.yaml_definitions.specs.grammar.Nodes.{Part, block_part, compact_part, part, s-l+block-node as block_node, empty_rest, s-l+block-indented as indented}
use Rattle.yaml_definitions.proofs.grammar.Forward.{Forward}
use Rattle.yaml_definitions.proofs.grammar.Widening.{Within}
use Rattle.yaml_text.specs.Lines.{Inside}
use Rattle.yaml_text.proofs.Runs.{run_same}
use Rattle.yaml_text.proofs.LineRuns.{indent_run, indent_place, inside_no_line}
use Rattle.law_one_reading.specs.Readings.{End}
use Rattle.law_one_reading.proofs.Lines.{solid_no_space, past_of, past_same, past_no_run}
use Rattle.law_one_reading.specs.Follows.{Fresh, Stuck, Past, Over, Follow}
use Rattle.law_one_reading.proofs.BlockEntries.{NodeStart, start_no_empty}
use Rattle.law_one_reading.proofs.FlowEntries.{Facts}
use Rattle.law_one_reading.proofs.KeyContexts.{Eased}
use Rattle.law_one_reading.proofs.BlockLevels.{Blocks}
use Rattle.law_going_on.specs.GoingOn.{Refused, Goes, Rest, Here}
use Rattle.law_going_on.proofs.BlockLoops.{SequenceFrom, MappingFrom}
use Rattle.law_going_on.proofs.BlockStarts.{OnLine, Form}

module _ (cs : List ℕ) where
  -- ---- nothing

  module _ (Wide : Type 0) (handles : Handles) (Open : Type 0) (inside : Part → Rule (List Event)) where
    abbrev pub Nothing : Rule (List Event)
    Nothing = empty_rest cs Wide handles Open inside

    -- comments to the line where the text goes on
    pub nothing_here : (X : ℕ → Type 0) → ((m : ℕ) → X m → Stuck cs m) → (i s : ℕ) → s_l_comments cs i s → Stuck cs s → Goes Nothing (Over cs X) i Here s
    nothing_here X stuck i s l t = record { goes = λ j m v (k, (e, f), c) (d, x). past_same cs i m s (past_of cs i j m (subst (λ y. s_l_comments cs y j) e c) d) (stuck m x) (past_of cs i s s l (Spans.done refl)) t }

    pub nothing_refused : (X : ℕ → Type 0) → ((m : ℕ) → X m → Stuck cs m) → (i s : ℕ) → s_l_comments cs i s → Stuck cs s → (X s → ⊥) → Refused Nothing (Over cs X) i
    nothing_refused X stuck i s l t n = record { none = λ j m v r (d, x). n (subst X ((nothing_here X stuck i s l t).goes j m v r (d, x)) x) }

    pub nothing_on_line : (E : End) (i : ℕ) → ((j : ℕ) → s_l_comments cs i j → ⊥) → Refused Nothing E i
    nothing_on_line E i n = record { none = λ j m v (k, (e, f), c) x. n j (subst (λ y. s_l_comments cs y j) e c) }

  -- ---- no node

  -- the line that comes next ends the node that would begin here
  pub no_node_here : (R : Rule (List Event)) (col d : ℕ) → ((i j : ℕ) (v : List Event) → R i j v → NodeStart cs col d i) → (E : End) (i m : ℕ) → Inside cs i → Past cs i m → Follow cs col d m → Refused R E i
  no_node_here R col d start E i m o p f = record { none = λ j k v r e. start_no_empty cs col d i m o (start i j v r) p f }

  module _ (Wide : Type 0) (handles : Handles) (Open : Type 0) (inside : Part → Rule (List Event)) (facts : Facts cs inside) (ease : Eased cs Wide handles inside)
      (wider : (p : Part) → Within (inside p) (part cs Wide handles Open inside p)) (fwd : (p : Part) → Forward (inside p)) (blocks : Blocks cs Wide handles inside) where
    abbrev Node : ℕ → Ctx → Rule (List Event)
    Node col c = block_node cs Wide handles Open inside col c

    abbrev Sequence : ℕ → Rule (List Event)
    Sequence k = SequenceFrom cs Wide handles Open inside k no_props

    abbrev Mapping : ℕ → Rule (List Event)
    Mapping k = MappingFrom cs Wide handles Open inside k no_props

    module _ (col : ℕ) (c : Ctx) where
      abbrev LineForm : Rule (List Event)
      LineForm = OnLine cs Wide handles Open inside facts ease wider fwd blocks col c

      abbrev Forms : ℕ → ℕ → List Event → Type 0
      Forms = Form cs Wide handles Open inside facts ease wider fwd blocks col c

  -- ---- after a dash (8.2.1), where `inside` reads what stands in the entry

  module _ (Wide : Type 0) (handles : Handles) (Open : Type 0) (inside : Part → Rule (List Event)) (compact_start : (k i j : ℕ) (es : List Event) → inside (compact_part k) i j es → Fresh cs i) (k : ℕ) where
    abbrev Entry : Rule (List Event)
    Entry = indented cs Wide handles Open inside k

    abbrev EntryNode : Rule (List Event)
    EntryNode = inside (block_part (k + 1) block_in)

    abbrev EntryNothing : Rule (List Event)
    EntryNothing = empty_rest cs Wide handles Open inside

    -- a collection that begins on the dash's line, m spaces further
    abbrev pub OnDash : ℕ → Rule (List Event)
    OnDash m = indent cs m ▸ inside (compact_part (k + 1 + m))

    -- the rest of the line is over: a node below, or nothing
    pub entry_below : (E : End) (i s : ℕ) → Inside cs i → s_l_comments cs i s → Rest Entry E i (EntryNode ∪ EntryNothing) E i
    unfolding indented
    entry_below E i s o l = record { rest = go }
      where
        go : (j m : ℕ) (v : List Event) → Entry i j v → E j m → (x : ℕ) × (w : List Event) × (EntryNode ∪ EntryNothing) i x w × E x m
        go j m v (inl (a, (b, (q, r, t)))) e = absurd (inside_no_line cs i o (past_no_run cs i s q (past_of cs i s s l (Spans.done refl)) (indent_run cs a i q r) (compact_start (k + 1 + a) q j v t).0).0)
        go j m v (inr r) e = (j, v, r, e)

    -- content on the dash's line, after m spaces: a collection, or a node of the line
    pub entry_on_line : (E : End) (i x n : ℕ) → ((j : ℕ) → s_l_comments cs i j → ⊥) → indent cs n i x → (Stands cs is_space x → ⊥) → Rest Entry E i (given (1 ≤ n) (OnDash n) ∪ EntryNode) E i
    unfolding indented
    entry_on_line E i x n none ind sp = record { rest = go }
      where
        go : (j m : ℕ) (v : List Event) → Entry i j v → E j m → (y : ℕ) × (w : List Event) × (given (1 ≤ n) (OnDash n) ∪ EntryNode) i y w × E y m
        go j m v (inl (a, (b, (q, r, t)))) e =
            let h : q ≡ x = run_same cs is_space i q x (indent_run cs a i q r) (indent_run cs n i x ind) (solid_no_space cs q (compact_start (k + 1 + a) q j v t).0.0) sp in
            let c : q ≡ i + a = indent_place cs a i q r in
            let d : x ≡ i + n = indent_place cs n i x ind in
            let f : a ≡ n = omega (arith, h, c, d) in
            (j, v, inl (subst (λ z. 1 ≤ z) f b, subst (λ z. OnDash z i j v) f (q, r, t)), e)
        go j m v (inr (inl r)) e = (j, v, inr r, e)
        go j m v (inr (inr r)) e = absurd ((nothing_on_line Wide handles Open inside E i none).none j m v r e)
