-- A flow node that was read where a node of block level begins: what is left where it is no key, and where a mapping begins with it.
use Rattle.std.proofs.Common.{◌≡◌, ℕ, suc, ◌≤◌, ◌⊎◌, List, Option, Some, None, inl, inr, sym, subst}
use Rattle.yaml_definitions.specs.model.Event.{Event}
use Rattle.yaml_text.specs.Lines.{Inside}
use Rattle.yaml_definitions.specs.grammar.Separation.{Ctx, block_key, flow_out, s-l-comments as s_l_comments}
use Rattle.yaml_definitions.specs.grammar.Tags.{Handles}
use Rattle.yaml_definitions.specs.grammar.Events.{Props}
use Rattle.law_going_on.specs.GoingOn.{Refused, Rest}
use Rattle.law_going_on.proofs.GoingOn.{rest_rest, rest_refused}
use Rattle.yaml_layout.specs.PropertyDecisions.{AllProperties, LineGoesOn, IsOnly}
use Rattle.yaml_layout.specs.NodeRules.{flow_from}
use Rattle.yaml_layout.specs.Keys.{ColonAfter}
use Rattle.yaml_layout.specs.Lines.{IsBlock}
use Rattle.yaml_sink.specs.PropertyRules.{Disjoint}
use Rattle.yaml_layout.specs.declared.flow.Kind.{Kind}
use Rattle.yaml_block.specs.BlockRules.{node_rest, entries_rest}
use Rattle.yaml_block.specs.BlockEnds.{AfterNode, AfterMapping, ColonStands, IsNoKey, IsStyleSign}
use Rattle.yaml_block.specs.OuterRules.{Outer, OnLine, Follows, MayBear, column_of}
use Rattle.yaml_block.proofs.LineDecisions.{colon_inside}
use Rattle.yaml_block.proofs.NodeDecisions.{Keyed, kept, keyed_only}
use Rattle.yaml_block.proofs.KeyedDecisions.{end_inside, kept_not_over, keyed_none, kept_keyed, keyed_entries}

module _ (cs : List ℕ) where
  pub colon_stands : (i j k : ℕ) → ColonAfter cs i j k → ColonStands cs j
  colon_stands i j k (q, r, (h, e), sized) = (q, r, h)

  pub colon_after_inside : (i j k : ℕ) → ColonAfter cs i j k → Inside cs k
  colon_after_inside i j k (q, r, (h, e), sized) = colon_inside cs q k h e

-- the first nodes from `from` on, with the outer properties p, and own ones q from x to e
module _ (cs : List ℕ) (handles : Handles) (room : ℕ) (col : ℕ) (c : Ctx) (b : IsBlock c) (column : Option ℕ) (i x : ℕ) (p : Props) (e : ℕ) (q : Props) (all : AllProperties cs handles 0 block_key x e q) (on : LineGoesOn cs e q)
    (line : OnLine cs handles x e q) (outer : Outer cs handles col column i x p) (none : (n : ℕ) → Follows cs x e n q → IsStyleSign cs n → ⊥) where
  pub unfit_none : (y : ℕ) (kind : Kind) → IsOnly cs handles room col flow_out x kind y → (column ≡ None) ⊎ IsNoKey cs x y
      → ((j : ℕ) → s_l_comments cs y j → ⊥) ⊎ (Disjoint p q → ⊥) ⊎ (MayBear cs x p → ⊥) → Refused (node_rest cs (Unit {0}) handles room col c (column_of p column)) (AfterNode cs col c) i
  unfit_none y kind only n (inl over) =
      rest_refused (kept cs handles room col c b column i x p e q all on line outer none) (kept_not_over cs handles room col c b x y kind only p column n over)
  unfit_none y kind only n (inr why) = rest_refused (keyed_only cs handles room col c b column i x p e q all on line outer why) (keyed_none cs handles room col c b x y kind only p column n)

module _ (cs : List ℕ) (handles : Handles) (r room : ℕ) (col : ℕ) (c : Ctx) (b : IsBlock c) (column : Option ℕ) (i x : ℕ) (p : Props) (e : ℕ) (q : Props) (all : AllProperties cs handles 0 block_key x e q) (on : LineGoesOn cs e q)
    (line : OnLine cs handles x e q) (outer : Outer cs handles col column i x p) (none : (n : ℕ) → Follows cs x e n q → IsStyleSign cs n → ⊥) where
  pub mapping_left : (y : ℕ) (kind : Kind) (deep : ℕ) (es : List Event) → flow_from cs (Unit {0}) handles deep kind col flow_out x y es → deep ≤ room → IsOnly cs handles room col flow_out x kind y → room ≡ suc r
      → (k a : ℕ) → column ≡ Some k → col ≤ k → ColonAfter cs x y a
      → Rest (node_rest cs (Unit {0}) handles room col c (column_of p column)) (AfterNode cs col c) i (entries_rest cs (Unit {0}) handles r k) (AfterMapping cs k) a
  mapping_left y kind deep es flow le only is k a at wide colon =
      subst (λ n. Rest (node_rest cs (Unit {0}) handles n col c (column_of p column)) (AfterNode cs col c) i (entries_rest cs (Unit {0}) handles r k) (AfterMapping cs k) a) (sym is)
      (rest_rest (kept cs handles (suc r) col c b column i x p e q all on line outer none)
      (rest_rest (kept_keyed cs handles (suc r) col c b x y kind there p column (end_inside cs handles room col c b kind deep x y es flow le) (colon_stands cs x y a colon))
      (subst (λ o. Rest (Keyed cs handles (suc r) col c b p o) (AfterNode cs col c) x (entries_rest cs (Unit {0}) handles r k) (AfterMapping cs k) a) (sym at) (keyed_entries cs handles r col c b x y kind there p k a wide colon))))
    where
      there : IsOnly cs handles (suc r) col flow_out x kind y
      there = subst (λ n. IsOnly cs handles n col flow_out x kind y) is only
