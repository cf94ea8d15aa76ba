-- A value on the line of its sign that begins with a letter or a digit.
use Rattle.std.proofs.Common.{ℕ, ◌≤◌, List, None, inl, inr, refl, subst}
use Rattle.std.specs.Char.{is_ascii_alphanumeric}
use Rattle.yaml_definitions.specs.model.Event.{Event}
use Rattle.yaml_definitions.specs.grammar.Rules.{Rule, Stands}
use Rattle.yaml_definitions.specs.grammar.Separation.{Ctx, flow_out, block_key, s-l-comments as s_l_comments}
use Rattle.yaml_definitions.specs.grammar.Tags.{Handles}
use Rattle.yaml_definitions.specs.grammar.Events.{no_props}
use Rattle.law_one_reading.specs.Follows.{Stuck}
use Rattle.law_going_on.specs.GoingOn.{Refused, Goes, Rest, Here}
use Rattle.law_going_on.proofs.GoingOn.{rest_goes, rest_refused}
use Rattle.yaml_layout.specs.PropertyDecisions.{AllProperties, IsProperty, Differ, IsOnly, IsRefused}
use Rattle.yaml_layout.specs.NodeRules.{content_from}
use Rattle.yaml_layout.specs.Lines.{IsBlock}
use Rattle.yaml_layout.specs.declared.flow.Kind.{Kind}
use Rattle.yaml_layout.specs.declared.flow.Kind.TheVariants.{Yaml, Json}
use Rattle.yaml_layout.proofs.NodeLemmas.{content_flow}
use Rattle.yaml_layout.proofs.WordDecisions.{word_not, word_no_property}
use Rattle.yaml_block.specs.BlockRules.{node_rest}
use Rattle.yaml_block.specs.BlockEnds.{AfterNode, IsStyleSign}
use Rattle.yaml_block.specs.OuterRules.{nothing, Follows}
use Rattle.yaml_block.proofs.OuterLemmas.{part_flow}
use Rattle.yaml_block.proofs.NodeDecisions.{Kept, kept}
use Rattle.yaml_block.proofs.KeyedDecisions.{kept_line, kept_not_over, kept_refused}

module _ (cs : List ℕ) (handles : Handles) (room : ℕ) (col : ℕ) (c : Ctx) (b : IsBlock c) (i : ℕ) (word : Stands cs is_ascii_alphanumeric i) where
  abbrev Node : Rule (List Event)
  Node = node_rest cs (Unit {0}) handles room col c None

  differs : (o : ℕ) → Differ cs i o → IsProperty cs i
  differs o (inl (h, g)) = inl h
  differs o (inr (h, g)) = inr h

  all : AllProperties cs handles 0 block_key i i no_props
  all = record { none = λ e. word_no_property cs i word; second = λ single o apart d. word_no_property cs i word (differs o d) }

  no_scalar : (n : ℕ) → Follows cs i i n no_props → IsStyleSign cs n → ⊥
  no_scalar n (inl (e, f)) s = go (subst (IsStyleSign cs) f s)
    where
      go : IsStyleSign cs i → ⊥
      go (inl h) = word_not cs i word 124 refl h
      go (inr h) = word_not cs i word 62 refl h
  no_scalar n (inr (some, r, l)) s = absurd (some refl)

  whole : Rest Node (AfterNode cs col c) i (Kept cs handles room col c b no_props None) (AfterNode cs col c) i
  whole = kept cs handles room col c b None i i no_props i no_props all (inl refl) (inl (refl, refl)) (nothing refl refl) no_scalar

  pub word_line : (deep : ℕ) (kind : Kind) (n l : ℕ) (es : List Event) → content_from cs (Unit {0}) handles deep kind col flow_out i n es → deep ≤ room → s_l_comments cs n l → Node i l es
  word_line deep kind n l es r le over = inl (n, part_flow cs (Unit {0}) handles kind room col i n es (content_flow cs (Unit {0}) handles deep kind col flow_out i n es r room le), over)

  module _ (y : ℕ) (kind : Kind) (only : IsOnly cs handles room col flow_out i kind y) where
    pub word_goes : (l : ℕ) → s_l_comments cs y l → Stuck cs l → Goes Node (AfterNode cs col c) i Here l
    word_goes l over stuck = rest_goes whole (kept_line cs handles room col c b i y kind only no_props None l (inl refl) over stuck)

    pub word_not_over : ((j : ℕ) → s_l_comments cs y j → ⊥) → Refused Node (AfterNode cs col c) i
    word_not_over none = rest_refused whole (kept_not_over cs handles room col c b i y kind only no_props None (inl refl) none)

  pub word_none : IsRefused cs handles room col flow_out i Yaml × IsRefused cs handles room col flow_out i Json → Refused Node (AfterNode cs col c) i
  word_none n = rest_refused whole (kept_refused cs handles room col c b i no_props None n)
