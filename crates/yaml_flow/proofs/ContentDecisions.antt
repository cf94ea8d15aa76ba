-- What a node's content decides by its first character: an alias, a plain scalar, a quoted one or a flow collection.
use Rattle.std.proofs.Common.{◌≡◌, ℕ, ◌⊎◌, inl, inr, List, [], ◌∷◌, Result, Option, Some, refl, sym, ◌∙◌, subst}
use Rattle.std.specs.Prelude.{slice_get}
use Rattle.std.specs.Result.{IsErrAnd}
use Rattle.yaml_definitions.specs.model.Event.{Event}
use Rattle.yaml_definitions.specs.model.Event as style
use Rattle.yaml_text.specs.declared.fault.Fault.{Fault}
use Rattle.yaml_text.specs.declared.fault.Fault.TheVariants.{OutOfMemory}
use Rattle.yaml_definitions.specs.grammar.Events.{Props, scalar}
use Rattle.yaml_definitions.specs.grammar.Nodes.{Part, c-flow-sequence as flow_seq, c-flow-mapping as flow_map}
use Rattle.yaml_definitions.specs.grammar.Tags.{Handles}
use Rattle.yaml_definitions.specs.grammar.FlowScalars.{c-single-quoted as single, c-double-quoted as double}
use Rattle.yaml_text.specs.LeafAnswer.{Unread, Only, Furthest}
use Rattle.yaml_text.specs.Calls as calls
use Rattle.yaml_definitions.specs.grammar.Rules.{Rule}
use Rattle.yaml_definitions.specs.grammar.Separation.{Ctx, block_out, block_in, flow_out, flow_in, block_key, flow_key, inner}
use Rattle.yaml_definitions.specs.grammar.Tags as tags
use Rattle.yaml_definitions.specs.grammar.FlowScalars.{ns-plain as plain}
use Rattle.law_one_reading.proofs.FlowNodes.{Kind, Sign, plain_no_kind, plain_start}
use Rattle.law_one_reading.proofs.FlowLevels.{inner_in, inner_out}
use Rattle.law_going_on.proofs.GoingOn.{rest_goes, rest_refused, rest_seen}
use Rattle.law_going_on.proofs.FlowStarts.{single_left, double_left, sequence_left, mapping_left}
use Rattle.law_going_on.specs.GoingOn.{Refused, Goes, Here}
use Rattle.law_going_on.proofs.PlainScalars.{plain_block_goes}
use Rattle.law_going_on.proofs.FlowChoices.{plain_in_flow}
use Rattle.yaml_layout.specs.PropertyDecisions.{EndOf}
use Rattle.yaml_layout.specs.NodeDecisions.{IsOpening, ContentTaken, ContentRefused, ContentOnly, DecidesContent}
use Rattle.yaml_layout.specs.NodeRules.{opens, below, content_at}
use Rattle.yaml_layout.specs.declared.flow.Kind as kinds
use Rattle.yaml_layout.specs.declared.flow.FlowNode.{FlowNode}
use Rattle.yaml_layout.proofs.Deciding.{at_err, one_end, no_end}
use Rattle.yaml_layout.specs.declared.flow.Kind.TheVariants.{Yaml, Json}

module _ (cs : List ℕ) where
  -- ---- aliases

  pub alias_goes : (i x : ℕ) (w : List ℕ) → Only (calls.read_name cs) i x w → Goes (tags.c-ns-alias-node cs) Here i Here x
  unfolding calls.read_name
  alias_goes i x w o = record { goes = λ j m v r e. e ∙ (o.only j v (inr r)).0 }

  pub no_alias : (i : ℕ) → Unread (calls.read_name cs) i → Refused (tags.c-ns-alias-node cs) Here i
  unfolding calls.read_name
  no_alias i none = record { none = λ j m v r e. none j v (inr r) }

  -- ---- plain scalars

  pub plain_taken : (n : ℕ) (c : Ctx) (i x : ℕ) (w : List ℕ) → Furthest (plain cs n c) i x w → (d : ℕ) → Goes (plain cs n c) (EndOf cs Yaml n c d) i (EndOf cs Yaml n c d) x
  plain_taken n flow_out i x w f d = plain_block_goes cs n d i x w f.is f.furthest
  plain_taken n flow_in i x w f d = plain_in_flow cs n i x w f.is f.furthest
  plain_taken n block_out i x w f d = record { goes = λ j m v r e. absurd e }
  plain_taken n block_in i x w f d = record { goes = λ j m v r e. absurd e }
  plain_taken n block_key i x w f d = record { goes = λ j m v r e. absurd e }
  plain_taken n flow_key i x w f d = record { goes = λ j m v r e. absurd e }

-- of an end nothing is said, or the node stands at block level or between brackets
spoken : (cs : List ℕ) (kind : kinds.Kind) (n : ℕ) (c : Ctx) (d : ℕ) → (inner c ≡ flow_in) ⊎ ((j m : ℕ) → EndOf cs kind n c d j m → ⊥)
spoken cs kind n flow_out d = inl inner_out
spoken cs kind n flow_in d = inl inner_in
spoken cs kind n block_out d = inr (λ j m e. e)
spoken cs kind n block_in d = inr (λ j m e. e)
spoken cs kind n block_key d = inr (λ j m e. e)
spoken cs kind n flow_key d = inr (λ j m e. e)

module _ (cs : List ℕ) (handles : Handles) (room n : ℕ) (c : Ctx) (i : ℕ) where
  abbrev Wide : Type 0
  Wide = Unit {0}

  abbrev Open : Type 0
  Open = opens cs Wide handles room

  abbrev Inner : Part → Rule (List Event)
  Inner = below cs Wide handles room

  pub opening_kind : IsOpening cs i → Kind cs 3 i
  opening_kind (inl h) = (91, h, Sign.bracket 91 refl)
  opening_kind (inr (inl h)) = (123, h, Sign.brace 123 refl)
  opening_kind (inr (inr (inl h))) = (39, h, Sign.quote 39 refl)
  opening_kind (inr (inr (inr h))) = (34, h, Sign.quotes 34 refl)

  no_plain_content : IsOpening cs i → ContentRefused cs handles room n c i Yaml
  no_plain_content h p d = record { none = λ j m v (t, r, e) f. plain_no_kind cs c 3 i (opening_kind h) (plain_start cs n c i j t r).1 }

  -- a quote or a bracket: one end whatever follows, or none
  only_json : (x : ℕ) → IsOpening cs i → ContentTaken cs handles room n c i Json x → (k : kinds.Kind) → k ≡ Json → ContentOnly cs handles room n c i k x
  only_json x h g k e = subst (λ y. ContentOnly cs handles room n c i y x) (sym e) (g, no_plain_content h)

  none_json : IsOpening cs i → ContentRefused cs handles room n c i Json → IsOpening cs i × ContentRefused cs handles room n c i Yaml × ContentRefused cs handles room n c i Json
  none_json h f = (h, no_plain_content h, f)

  pub single_only : (x : ℕ) → slice_get cs i ≡ Some 39 → Goes (single cs n c) Here i Here x → (k : kinds.Kind) → k ≡ Json → ContentOnly cs handles room n c i k x
  single_only x h g = only_json x (inr (inr (inl h)))
      (λ p d. let E = EndOf cs Json n c d in rest_goes (single_left cs Wide handles Open Inner n c p E i h) (rest_goes (rest_seen (λ t. scalar p style.single t ∷ []) (single cs n c) E i) (one_end (single cs n c) E i x g)))

  pub no_single : slice_get cs i ≡ Some 39 → Refused (single cs n c) Here i → IsOpening cs i × ContentRefused cs handles room n c i Yaml × ContentRefused cs handles room n c i Json
  no_single h f = none_json (inr (inr (inl h)))
      (λ p d. let E = EndOf cs Json n c d in rest_refused (single_left cs Wide handles Open Inner n c p E i h) (rest_refused (rest_seen (λ t. scalar p style.single t ∷ []) (single cs n c) E i) (no_end (single cs n c) E i f)))

  pub double_only : (x : ℕ) → slice_get cs i ≡ Some 34 → Goes (double cs n c) Here i Here x → (k : kinds.Kind) → k ≡ Json → ContentOnly cs handles room n c i k x
  double_only x h g = only_json x (inr (inr (inr h)))
      (λ p d. let E = EndOf cs Json n c d in rest_goes (double_left cs Wide handles Open Inner n c p E i h) (rest_goes (rest_seen (λ t. scalar p style.double t ∷ []) (double cs n c) E i) (one_end (double cs n c) E i x g)))

  pub no_double : slice_get cs i ≡ Some 34 → Refused (double cs n c) Here i → IsOpening cs i × ContentRefused cs handles room n c i Yaml × ContentRefused cs handles room n c i Json
  no_double h f = none_json (inr (inr (inr h)))
      (λ p d. let E = EndOf cs Json n c d in rest_refused (double_left cs Wide handles Open Inner n c p E i h) (rest_refused (rest_seen (λ t. scalar p style.double t ∷ []) (double cs n c) E i) (no_end (double cs n c) E i f)))

  abbrev Sequence : Props → Rule (List Event)
  Sequence p = flow_seq cs Wide handles Open Inner p n c

  abbrev Mapping : Props → Rule (List Event)
  Mapping p = flow_map cs Wide handles Open Inner p n c

  -- nothing is said in the contexts of keys
  taken_where : (x : ℕ) → (inner c ≡ flow_in → ContentTaken cs handles room n c i Json x) → ContentTaken cs handles room n c i Json x
  taken_where x f p d = go (spoken cs Json n c d)
    where
      go : (inner c ≡ flow_in) ⊎ ((j m : ℕ) → EndOf cs Json n c d j m → ⊥) → Goes (content_at cs Wide handles p Json room n c) (EndOf cs Json n c d) i (EndOf cs Json n c d) x
      go (inl h) = f h p d
      go (inr none) = record { goes = λ j m v r e. absurd (none j m e) }

  refused_where : (inner c ≡ flow_in → ContentRefused cs handles room n c i Json) → ContentRefused cs handles room n c i Json
  refused_where f p d = go (spoken cs Json n c d)
    where
      go : (inner c ≡ flow_in) ⊎ ((j m : ℕ) → EndOf cs Json n c d j m → ⊥) → Refused (content_at cs Wide handles p Json room n c) (EndOf cs Json n c d) i
      go (inl h) = f h p d
      go (inr none) = record { none = λ j m v r e. none j m e }

  pub sequence_only : (x : ℕ) → slice_get cs i ≡ Some 91 → (inner c ≡ flow_in → (p : Props) → Goes (Sequence p) Here i Here x) → (k : kinds.Kind) → k ≡ Json → ContentOnly cs handles room n c i k x
  sequence_only x h g = only_json x (inl h)
      (taken_where x (λ w p d. let E = EndOf cs Json n c d in rest_goes (sequence_left cs Wide handles Open Inner n c p E i h) (one_end (Sequence p) E i x (g w p))))

  pub no_sequence : slice_get cs i ≡ Some 91 → (inner c ≡ flow_in → (p : Props) → Refused (Sequence p) Here i) → IsOpening cs i × ContentRefused cs handles room n c i Yaml × ContentRefused cs handles room n c i Json
  no_sequence h f = none_json (inl h) (refused_where (λ w p d. let E = EndOf cs Json n c d in rest_refused (sequence_left cs Wide handles Open Inner n c p E i h) (no_end (Sequence p) E i (f w p))))

  pub mapping_only : (x : ℕ) → slice_get cs i ≡ Some 123 → (inner c ≡ flow_in → (p : Props) → Goes (Mapping p) Here i Here x) → (k : kinds.Kind) → k ≡ Json → ContentOnly cs handles room n c i k x
  mapping_only x h g = only_json x (inr (inl h))
      (taken_where x (λ w p d. let E = EndOf cs Json n c d in rest_goes (mapping_left cs Wide handles Open Inner n c p E i h) (one_end (Mapping p) E i x (g w p))))

  pub no_mapping : slice_get cs i ≡ Some 123 → (inner c ≡ flow_in → (p : Props) → Refused (Mapping p) Here i) → IsOpening cs i × ContentRefused cs handles room n c i Yaml × ContentRefused cs handles room n c i Json
  no_mapping h f = none_json (inr (inl h)) (refused_where (λ w p d. let E = EndOf cs Json n c d in rest_refused (mapping_left cs Wide handles Open Inner n c p E i h) (no_end (Mapping p) E i (f w p))))

  -- no collection may be opened any more
  pub no_sequence_left : room ≡ 0 → (p : Props) → Refused (Sequence p) Here i
  unfolding flow_seq
  no_sequence_left h p = record { none = λ j m v (o, r) e. subst (λ x. opens cs Wide handles x) h o }

  pub no_mapping_left : room ≡ 0 → (p : Props) → Refused (Mapping p) Here i
  unfolding flow_map
  no_mapping_left h p = record { none = λ j m v (o, r) e. subst (λ x. opens cs Wide handles x) h o }

  -- at the exit of a `?`
  pub content_err : (end : FlowNode → ℕ) (r : Result (Option FlowNode) Fault) (e : Fault) → IsErrAnd r (λ y. y ≡ e)
      → (e ≡ OutOfMemory) ⊎ (IsOpening cs i × ContentRefused cs handles room n c i Yaml × ContentRefused cs handles room n c i Json) → DecidesContent cs handles room n c i end r
  content_err end = at_err (DecidesContent cs handles room n c i end)
