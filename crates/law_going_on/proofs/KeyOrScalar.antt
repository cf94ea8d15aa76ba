-- A flow node at block level is a scalar or a key by what stands after it; one call that reads it serves both.
use Rattle.std.proofs.Common.{◌≡◌, ◌≢◌, ℕ, ◌+◌, ◌≤◌, inl, inr, List, Some, refl, sym, ◌∙◌, ap, subst}
use Rattle.std.specs.Prelude.{slice_get}
use Rattle.yaml_definitions.specs.grammar.Rules.{Rule, Spans, ◌◂◌, ◌∪◌, chr, run, maybe, Stands}
use Rattle.yaml_definitions.specs.grammar.Characters.{is_ns, is_space}
use Rattle.yaml_definitions.specs.grammar.Separation.{block_key, s-separate-in-line as sep, s-l-comments as s_l_comments, OneLine}
use Rattle.yaml_definitions.specs.grammar.Tags.{Handles}
use Rattle.yaml_definitions.specs.model.Event.{Event}
use Rattle.yaml_definitions.specs.model.Limits.{key_limit}
use Rattle.yaml_definitions.specs.grammar.Nodes.{Part, yaml_part, json_part, ns-s-implicit-yaml-key as implicit_yaml_key, c-s-implicit-json-key as implicit_json_key}
use Rattle.yaml_text.specs.Lines.{Inside}
use Rattle.yaml_text.proofs.Runs.{run_none, run_same}
use Rattle.yaml_text.proofs.LineRuns.{inside_no_line}
use Rattle.law_one_reading.specs.Readings.{At, Then}
use Rattle.law_going_on.specs.GoingOn.{Refused, Goes, Here}
use Rattle.law_one_reading.proofs.Lines.{solid_no_space, past_of, past_same, past_no_run, less_stuck, sep_run, run_solid}
use Rattle.law_one_reading.specs.Follows.{Stuck, Over, Follow, EndsNode as F, FollowRest}
use Rattle.law_one_reading.proofs.BlockNodes.{colon_solid}

module _ (cs : List ℕ) where
  -- ---- comments: `skip_comments`

  -- the line that was come to is where the text goes on
  pub comments_here : (i x j m : ℕ) (X : ℕ → Type 0) → s_l_comments cs i x → Stuck cs x → s_l_comments cs i j → Over cs X j m → Stuck cs m → m ≡ x
  comments_here i x j m X r s t (c, d) u = past_same cs i m x (past_of cs i j m t c) u (past_of cs i x x r (Spans.done refl)) s

  -- ---- a node, and then the rest of its line

  module _ (R : Rule (List Event)) (col d : ℕ) where
    rest_of : (k m : ℕ) → Then (s_l_comments cs) (Over cs (Follow cs col d)) k m → FollowRest cs col d k
    rest_of k m (j, s, (c, f)) = (m, past_of cs k j m s c, f)

    -- `read_keyed`, no colon
    pub node_line : (i y x : ℕ) → Goes R (At (F cs col d)) i (At (F cs col d)) y → s_l_comments cs y x → Stuck cs x → Goes (R ◂ s_l_comments cs) (Over cs (Follow cs col d)) i Here x
    node_line i y x g r s = record {
      goes = λ j m v (k, t, u) e.
          let h = (g.goes k k v t (refl, inl (rest_of k m (j, u, e)))).0 in
          comments_here y x j m (Follow cs col d) r s (subst (λ z. s_l_comments cs z j) (sym h) u) e (less_stuck cs col m e.1.0);
    }

    -- no comments, which is a fault
    pub node_no_line : (i y : ℕ) → Goes R (At (F cs col d)) i (At (F cs col d)) y → ((j : ℕ) → s_l_comments cs y j → ⊥) → Refused (R ◂ s_l_comments cs) (Over cs (Follow cs col d)) i
    node_no_line i y g n = record {
      none = λ j m v (k, t, u) e.
          let h = (g.goes k k v t (refl, inl (rest_of k m (j, u, e)))).0 in
          n j (subst (λ z. s_l_comments cs z j) (sym h) u);
    }

    -- a colon: no scalar
    pub node_no_rest : (i y q : ℕ) → Goes R (At (F cs col d)) i (At (F cs col d)) y → Inside cs y → run cs is_space y q → slice_get cs q ≡ Some 58 → Refused (R ◂ s_l_comments cs) (Over cs (Follow cs col d)) i
    node_no_rest i y q g o r h = record {
      none = λ j m v (k, t, u) e.
          let f = rest_of k m (j, u, e) in
          let a = (g.goes k k v t (refl, inl f)).0 in
          inside_no_rest y q o r h (subst (FollowRest cs col d) (sym a) f);
    }
      where
        inside_no_rest : (y q : ℕ) → Inside cs y → run cs is_space y q → slice_get cs q ≡ Some 58 → FollowRest cs col d y → ⊥
        inside_no_rest y q o r h (m, p, f) = inside_no_line cs y o (past_no_run cs y m q p r (colon_solid cs q h)).0

    -- ---- the same node as a key

    module _ (Wide : Type 0) (handles : Handles) (Open : Type 0) (inside : Part → Rule (List Event))
        (key_flow : (i j : ℕ) (v : List Event) → (inside (yaml_part 0 block_key) ∪ inside (json_part 0 block_key)) i j v → R i j v) where
      abbrev pub Keys : Rule (List Event)
      Keys = (implicit_yaml_key cs Wide handles Open inside block_key ∪ implicit_json_key cs Wide handles Open inside block_key) ◂ chr cs 58

      abbrev pub Colon : ℕ → Type 0
      Colon i = Stands cs is_ns i → ⊥

      spaces : (a k : ℕ) → maybe (sep cs) a k → run cs is_space a k
      spaces a k (inl e) = subst (run cs is_space a) (sym e) (run_none cs is_space a)
      spaces a k (inr s) = sep_run cs a k s

      -- a key is a node that a colon follows, of so many characters on one line
      Key : ℕ → ℕ → Type 0
      Key i j = (a : ℕ) × (v : List Event) × R i a v × (k : ℕ) × run cs is_space a k × (slice_get cs k ≡ Some 58) × OneLine cs i k × (k ≤ i + key_limit) × (j ≡ k + 1)

      key_is : (i j : ℕ) (v : List Event) → Keys i j v → Key i j
      unfolding Key implicit_yaml_key implicit_json_key
      key_is i j v (k, inl ((o, l), (a, r, s)), (h, e)) = (a, v, key_flow i a v (inl r), k, spaces a k s, h, o, l, e)
      key_is i j v (k, inr ((o, l), (a, r, s)), (h, e)) = (a, v, key_flow i a v (inr r), k, spaces a k s, h, o, l, e)

      key_colon : (i y j : ℕ) → Goes R (At (F cs col d)) i (At (F cs col d)) y → Key i j → Colon j → (k : ℕ) × run cs is_space y k × (slice_get cs k ≡ Some 58) × OneLine cs i k × (k ≤ i + key_limit) × (j ≡ k + 1)
      unfolding Key
      key_colon i y j g (a, v, r, k, s, h, o, l, e) n =
          let b = (g.goes a a v r (refl, inr (k, s, h, subst (λ z. Stands cs is_ns z → ⊥) e n))).0 in
          (k, subst (λ z. run cs is_space z k) (sym b) s, h, o, l, e)

      -- `first_colon`, `read_key`: the key ends after this colon
      pub key_goes : (i y q : ℕ) → Goes R (At (F cs col d)) i (At (F cs col d)) y → run cs is_space y q → slice_get cs q ≡ Some 58 → Goes Keys (At Colon) i Here (q + 1)
      key_goes i y q g r h = record {
        goes = λ j m v k (e, n).
            let (p, s, f, o, l, t) = key_colon i y j g (key_is i j v k) n in
            let u : p ≡ q = run_solid cs y p q s (colon_solid cs p f).0 r (colon_solid cs q h).0 in
            sym e ∙ t ∙ ap (λ z. z + 1) u;
      }

      -- no colon after the node
      pub no_key : (i y q : ℕ) → Goes R (At (F cs col d)) i (At (F cs col d)) y → run cs is_space y q → (Stands cs is_space q → ⊥) → (slice_get cs q ≢ Some 58) → Refused Keys (At Colon) i
      no_key i y q g r w h = record {
        none = λ j m v k (e, n).
            let (p, s, f, o, l, t) = key_colon i y j g (key_is i j v k) n in
            let u : p ≡ q = run_same cs is_space y p q s r (solid_no_space cs p (colon_solid cs p f).0) w in
            h (subst (λ z. slice_get cs z ≡ Some 58) u f);
      }

      -- no colon that ends a key
      pub no_colon : (i y : ℕ) → Goes R (At (F cs col d)) i (At (F cs col d)) y → ((q : ℕ) → run cs is_space y q → slice_get cs q ≡ Some 58 → OneLine cs i q → q ≤ i + key_limit → ⊥) → Refused Keys (At Colon) i
      no_colon i y g x = record {
        none = λ j m v k (e, n).
            let (p, s, f, o, l, t) = key_colon i y j g (key_is i j v k) n in x p s f o l;
      }

      key_none : (i j : ℕ) → Refused R (At (F cs col d)) i → Key i j → Colon j → ⊥
      unfolding Key
      key_none i j f (a, v, r, k, s, h, o, l, e) n = f.none a a v r (refl, inr (k, s, h, subst (λ z. Stands cs is_ns z → ⊥) e n))

      -- no node
      pub no_node : (i : ℕ) → Refused R (At (F cs col d)) i → Refused Keys (At Colon) i
      no_node i f = record { none = λ j m v k (e, n). key_none i j f (key_is i j v k) n }
