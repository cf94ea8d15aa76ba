-- From what a call says of its answer, found or refused, to what its caller decides.
use Rattle.std.proofs.Common.{◌≡◌, ℕ, ◌+◌, ◌≤◌, ◌⊎◌, inl, inr, List, Result, Ok, Err, Option, Some, None, IfOk, IfErr, IfSome, IfNone, refl, sym, subst, arith}
use Rattle.std.specs.Prelude.{slice_get}
use Rattle.std.specs.Result.{IsErrAnd}
use Rattle.yaml_definitions.specs.model.Event.{Event}
use Rattle.yaml_text.specs.Lines.{Inside}
use Rattle.yaml_text.specs.declared.fault.Fault.{Fault}
use Rattle.yaml_text.specs.declared.fault.Fault.TheVariants.{OutOfMemory}
use Rattle.yaml_definitions.specs.grammar.Rules.{Rule, maybe}
use Rattle.yaml_definitions.specs.grammar.Separation.{Ctx, block_out, block_in, flow_out, flow_in, block_key, flow_key, inner, s-separate as separate}
use Rattle.yaml_definitions.specs.grammar.Tags.{Handles}
use Rattle.yaml_definitions.specs.grammar.Tags as tags
use Rattle.yaml_definitions.specs.grammar.Events.{Props}
use Rattle.law_one_reading.specs.Follows.{Solid}
use Rattle.law_going_on.specs.GoingOn.{Refused, Here}
use Rattle.yaml_layout.specs.NodeAnswer.{Decides}
use Rattle.yaml_layout.specs.PropertyDecisions.{IsOnly, DecidesNode}
use Rattle.yaml_flow.specs.FlowDecisions.{DecidesEach}
use Rattle.yaml_flow.specs.FlowRules.{MayFollowColon, SignAt, IsParted}
use Rattle.yaml_layout.specs.declared.flow.Kind as kinds
use Rattle.yaml_layout.specs.declared.flow.Kind.TheVariants.{Yaml, Json}
use Rattle.yaml_layout.specs.declared.flow.FlowNode.{FlowNode}
use Rattle.yaml_layout.proofs.Deciding.{at_err}
use Rattle.yaml_layout.proofs.PropertyDecisions.{or_else}
use Rattle.yaml_flow.proofs.BareDecisions.{alias_only, alias_refused}
use Rattle.yaml_flow.proofs.EntryDecisions.{char_inside, nb_question}

-- ---- found, or not

pub if_some : {X : Type 0} (P : X → Type 0) (o : Option X) (x : X) → o ≡ Some x → IfSome o P → P x
if_some P o x e p = let q : IfSome (Some x) P = subst (λ y. IfSome y P) e p in q

pub if_none : {X : Type 0} (P : Type 0) (o : Option X) → o ≡ None → IfNone o P → P
if_none P None e p = p
if_none P (Some x) e p = let h : Some x ≡ None = e in cc

-- ---- nodes

module _ (cs : List ℕ) (handles : Handles) (room n : ℕ) (c : Ctx) (i : ℕ) where
  only_kind : (kind : kinds.Kind) (x y : ℕ) → kind ≡ Yaml → x ≡ y → IsOnly cs handles room n c i Yaml y → IsOnly cs handles room n c i kind x
  only_kind kind x y e f o = subst (λ k. IsOnly cs handles room n c i k x) (sym e) (subst (λ z. IsOnly cs handles room n c i Yaml z) (sym f) o)

  pub alias_decides : slice_get cs i ≡ Some 42 → (end : FlowNode → ℕ) (r : Result FlowNode Fault) → IfOk r (λ node. node.kind ≡ Yaml) → Decides (tags.c-ns-alias-node cs) Here i Here end r → DecidesNode cs handles room n c i end r
  alias_decides h end (Ok node) k d = only_kind node.kind (end node) (end node) k refl (alias_only cs handles room n c i (end node) h d)
  alias_decides h end (Err e) k d = or_else (alias_refused cs handles room n c i h) d

  pub lone_decides : (k : ℕ) (end : FlowNode → ℕ) (r : Result FlowNode Fault) (e : ℕ) → IfOk r (λ node. node.kind ≡ Yaml) → ((node : FlowNode) → node.end ≡ e → end node ≡ k) → IfOk r (λ node. node.end ≡ e) → IfErr r (λ f. f ≡ OutOfMemory)
      → IsOnly cs handles room n c i Yaml k → DecidesNode cs handles room n c i end r
  lone_decides k end (Ok node) e kind at is memory o = only_kind node.kind (end node) k kind (at node is) o
  lone_decides k end (Err f) e kind at is memory o = inl memory

-- ---- collections

pub each_err : {X : Type 0} (R : Props → Rule (List Event)) (i : ℕ) (end : X → ℕ) (r : Result X Fault) (e : Fault) → IsErrAnd r (λ y. y ≡ e) → (e ≡ OutOfMemory) ⊎ ((p : Props) → Refused (R p) Here i) → DecidesEach R i end r
each_err R i end = at_err (DecidesEach R i end)

-- between brackets comes what is between brackets, but in a key
flow_or_key : (c : Ctx) → (inner c ≡ flow_in) ⊎ (inner c ≡ flow_in → ⊥)
unfolding inner
flow_or_key block_out = inl refl
flow_or_key block_in = inl refl
flow_or_key flow_out = inl refl
flow_or_key flow_in = inl refl
flow_or_key block_key = inr (λ e. let h : flow_key ≡ flow_in = e in cc)
flow_or_key flow_key = inr (λ e. let h : flow_key ≡ flow_in = e in cc)

pub collection_err : {A F Z : Type 0} (c : Ctx) → ((inner c ≡ flow_in → F) → Z) → (inner c ≡ flow_in → A ⊎ F) → A ⊎ Z
collection_err {A} {F} {Z} c make d = go (flow_or_key c)
  where
    go : (inner c ≡ flow_in) ⊎ (inner c ≡ flow_in → ⊥) → A ⊎ Z
    go (inl w) = or_else (λ f. make (λ v. f)) (d w)
    go (inr no_flow) = inr (make (λ v. absurd (no_flow v)))

-- ---- signs

pub sign_in : (cs : List ℕ) (kind : kinds.Kind) (c : Ctx) (q k : ℕ) → c ≡ flow_in → slice_get cs q ≡ Some 58 → k ≡ q + 1 → MayFollowColon kind c cs k → SignAt kind flow_in cs q
sign_in cs kind c q k e h t s = (h, subst (λ y. MayFollowColon kind y cs (q + 1)) e (subst (MayFollowColon kind c cs) t s))

pub mark_inside : (cs : List ℕ) (k : ℕ) → (i : ℕ) × (k ≡ i + 1) × (slice_get cs i ≡ Some 63) → Inside cs k
mark_inside cs k (i, e, h) = char_inside cs i k 63 h e nb_question

-- a value that nothing parts from its colon
pub alone_to : (cs : List ℕ) (n : ℕ) (kind : kinds.Kind) (a b : ℕ) (place : ℕ → ℕ) → (IsParted kind a b → ⊥) → a ≤ b → ((q : ℕ) → maybe (separate cs n flow_in) (place a) q → Solid cs q → q ≡ place b)
    → (q : ℕ) → maybe (separate cs n flow_in) (place a) q → Solid cs q → q ≡ place a
alone_to cs n Yaml a b place f le to = let e : b ≡ a = omega (arith, f, le) in subst (λ y. (q : ℕ) → maybe (separate cs n flow_in) (place a) q → Solid cs q → q ≡ place y) e to
alone_to cs n Json a b place f le to = absurd (f tt)
