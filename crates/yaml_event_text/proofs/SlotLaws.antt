-- Where each event's line has room for properties.
use Rattle.std.proofs.Common.{◌≡◌, ◌⊎◌, inl, inr, ℕ, true, false, List, ◌∷◌, ◌++◌, Some, None, refl, sym, ap, ◌∙◌, arith, append_assoc}
use Rattle.std.specs.Prelude.{codes}
use Rattle.std.specs.List.{insert_slice}
use Rattle.yaml_definitions.specs.model.Event.{Event, untagged, non_specific, full, stream_start, stream_end, document_start, document_end, sequence_start, sequence_end, mapping_start, mapping_end, scalar_event, alias_event}
use Rattle.yaml_definitions.specs.model.EventText.{event_line, anchor_part, tag_part, style_text, value_text}
use Rattle.yaml_definitions.specs.grammar.Events.{Props, no_props}
use Rattle.yaml_sink.specs.PropertyRules.{with_props}
use Rattle.yaml_event_text.specs.Slots.{byte, props_text, IsScalarLine, IsStartLine, IsClosed, HasRoom}

pub closed : (text : List ℕ) → (IsScalarLine text → ⊥) → (IsStartLine text → ⊥) → IsClosed text
unfolding event_line
closed text v s = record { is = by }
  where
    by : (e : Event) (more : List ℕ) → text ≡ event_line e ++ (10 ∷ more) → (p : Props) → with_props p e ≡ e
    by stream_start more h p = refl
    by stream_end more h p = refl
    by (document_start explicit) more h p = refl
    by (document_end explicit) more h p = refl
    by (sequence_start flow a g) more h p = absurd (s (ap (λ v. byte v 0) h, inr (ap (λ v. byte v 1) h, ap (λ v. byte v 2) h)))
    by sequence_end more h p = refl
    by (mapping_start flow a g) more h p = absurd (s (ap (λ v. byte v 0) h, inl (ap (λ v. byte v 1) h)))
    by mapping_end more h p = refl
    by (scalar_event a g y x) more h p = absurd (v (ap (λ v. byte v 0) h, ap (λ v. byte v 1) h))
    by (alias_event name) more h p = refl

-- ---- a scalar

regroup : (a g s m : List ℕ) → (a ++ g) ++ (s ++ m) ≡ (a ++ (g ++ s)) ++ m
regroup a g s m = append_assoc a g (s ++ m) ∙ ap (λ v. a ++ v) (sym (append_assoc g s m)) ∙ sym (append_assoc a (g ++ s) m)

module _ (text : List ℕ) (line : IsScalarLine text) (no_anchor : byte text 5 ≡ 38 → ⊥) (no_tag : byte text 5 ≡ 60 → ⊥) where
  scalar_bare : (e : Event) (more : List ℕ) → text ≡ event_line e ++ (10 ∷ more) → with_props no_props e ≡ e
  unfolding event_line
  scalar_bare (scalar_event None untagged y x) more h = refl
  scalar_bare (scalar_event None non_specific y x) more h = absurd (no_tag (ap (λ v. byte v 5) h))
  scalar_bare (scalar_event None (full t) y x) more h = absurd (no_tag (ap (λ v. byte v 5) h))
  scalar_bare (scalar_event (Some name) g y x) more h = absurd (no_anchor (ap (λ v. byte v 5) h))
  scalar_bare stream_start more h = refl
  scalar_bare stream_end more h = refl
  scalar_bare (document_start explicit) more h = refl
  scalar_bare (document_end explicit) more h = refl
  scalar_bare (sequence_start flow a g) more h = absurd (let q : byte text 0 ≡ 43 = ap (λ v. byte v 0) h in omega (arith, q, line.0))
  scalar_bare sequence_end more h = refl
  scalar_bare (mapping_start flow a g) more h = absurd (let q : byte text 0 ≡ 43 = ap (λ v. byte v 0) h in omega (arith, q, line.0))
  scalar_bare mapping_end more h = refl
  scalar_bare (alias_event name) more h = refl

  scalar_dressed : (e : Event) (more : List ℕ) → text ≡ event_line e ++ (10 ∷ more) → (p : Props) → insert_slice text 4 (props_text p) ≡ event_line (with_props p e) ++ (10 ∷ more)
  unfolding event_line
  scalar_dressed (scalar_event None untagged y x) more h p =
      ap (λ v. insert_slice v 4 (props_text p)) h ∙ ap (λ v. codes "=VAL" ++ v) (regroup (anchor_part p.anchor) (tag_part p.tag) (style_text y ++ value_text x) (10 ∷ more))
  scalar_dressed (scalar_event None non_specific y x) more h p = absurd (no_tag (ap (λ v. byte v 5) h))
  scalar_dressed (scalar_event None (full t) y x) more h p = absurd (no_tag (ap (λ v. byte v 5) h))
  scalar_dressed (scalar_event (Some name) g y x) more h p = absurd (no_anchor (ap (λ v. byte v 5) h))
  scalar_dressed stream_start more h p = absurd (let q : byte text 0 ≡ 43 = ap (λ v. byte v 0) h in omega (arith, q, line.0))
  scalar_dressed stream_end more h p = absurd (let q : byte text 0 ≡ 45 = ap (λ v. byte v 0) h in omega (arith, q, line.0))
  scalar_dressed (document_start explicit) more h p = absurd (let q : byte text 0 ≡ 43 = ap (λ v. byte v 0) h in omega (arith, q, line.0))
  scalar_dressed (document_end explicit) more h p = absurd (let q : byte text 0 ≡ 45 = ap (λ v. byte v 0) h in omega (arith, q, line.0))
  scalar_dressed (sequence_start flow a g) more h p = absurd (let q : byte text 0 ≡ 43 = ap (λ v. byte v 0) h in omega (arith, q, line.0))
  scalar_dressed sequence_end more h p = absurd (let q : byte text 0 ≡ 45 = ap (λ v. byte v 0) h in omega (arith, q, line.0))
  scalar_dressed (mapping_start flow a g) more h p = absurd (let q : byte text 0 ≡ 43 = ap (λ v. byte v 0) h in omega (arith, q, line.0))
  scalar_dressed mapping_end more h p = absurd (let q : byte text 0 ≡ 45 = ap (λ v. byte v 0) h in omega (arith, q, line.0))
  scalar_dressed (alias_event name) more h p = absurd (let q : byte text 1 ≡ 65 = ap (λ v. byte v 1) h in omega (arith, q, line.1))

  pub scalar_room : HasRoom text 4
  scalar_room = record { bare = scalar_bare; dressed = scalar_dressed }

-- ---- a collection's start

no_start : (text : List ℕ) → IsStartLine text → (a b : ℕ) → byte text 1 ≡ a → byte text 2 ≡ b → (a ≡ 77 → ⊥) → (b ≡ 69 → ⊥) → ⊥
no_start text line a b h k m e = by line.1
  where
    by : (byte text 1 ≡ 77) ⊎ ((byte text 1 ≡ 83) × (byte text 2 ≡ 69)) → ⊥
    by (inl q) = m (sym h ∙ q)
    by (inr q) = e (sym k ∙ q.1)

module _ (text : List ℕ) (line : IsStartLine text) (ends : byte text 4 ≡ 10) where
  block_bare : (e : Event) (more : List ℕ) → text ≡ event_line e ++ (10 ∷ more) → with_props no_props e ≡ e
  unfolding event_line
  block_bare (sequence_start false None untagged) more h = refl
  block_bare (sequence_start false None non_specific) more h = absurd (let q : byte text 4 ≡ 32 = ap (λ v. byte v 4) h in omega (arith, q, ends))
  block_bare (sequence_start false None (full t)) more h = absurd (let q : byte text 4 ≡ 32 = ap (λ v. byte v 4) h in omega (arith, q, ends))
  block_bare (sequence_start false (Some name) g) more h = absurd (let q : byte text 4 ≡ 32 = ap (λ v. byte v 4) h in omega (arith, q, ends))
  block_bare (sequence_start true a g) more h = absurd (let q : byte text 4 ≡ 32 = ap (λ v. byte v 4) h in omega (arith, q, ends))
  block_bare (mapping_start false None untagged) more h = refl
  block_bare (mapping_start false None non_specific) more h = absurd (let q : byte text 4 ≡ 32 = ap (λ v. byte v 4) h in omega (arith, q, ends))
  block_bare (mapping_start false None (full t)) more h = absurd (let q : byte text 4 ≡ 32 = ap (λ v. byte v 4) h in omega (arith, q, ends))
  block_bare (mapping_start false (Some name) g) more h = absurd (let q : byte text 4 ≡ 32 = ap (λ v. byte v 4) h in omega (arith, q, ends))
  block_bare (mapping_start true a g) more h = absurd (let q : byte text 4 ≡ 32 = ap (λ v. byte v 4) h in omega (arith, q, ends))
  block_bare stream_start more h = refl
  block_bare stream_end more h = refl
  block_bare (document_start explicit) more h = refl
  block_bare (document_end explicit) more h = refl
  block_bare sequence_end more h = refl
  block_bare mapping_end more h = refl
  block_bare (alias_event name) more h = refl
  block_bare (scalar_event a g y x) more h = absurd (let q : byte text 0 ≡ 61 = ap (λ v. byte v 0) h in omega (arith, q, line.0))

  block_dressed : (e : Event) (more : List ℕ) → text ≡ event_line e ++ (10 ∷ more) → (p : Props) → insert_slice text 4 (props_text p) ≡ event_line (with_props p e) ++ (10 ∷ more)
  unfolding event_line
  block_dressed (sequence_start false None untagged) more h p = ap (λ v. insert_slice v 4 (props_text p)) h
  block_dressed (sequence_start false None non_specific) more h p = absurd (let q : byte text 4 ≡ 32 = ap (λ v. byte v 4) h in omega (arith, q, ends))
  block_dressed (sequence_start false None (full t)) more h p = absurd (let q : byte text 4 ≡ 32 = ap (λ v. byte v 4) h in omega (arith, q, ends))
  block_dressed (sequence_start false (Some name) g) more h p = absurd (let q : byte text 4 ≡ 32 = ap (λ v. byte v 4) h in omega (arith, q, ends))
  block_dressed (sequence_start true a g) more h p = absurd (let q : byte text 4 ≡ 32 = ap (λ v. byte v 4) h in omega (arith, q, ends))
  block_dressed (mapping_start false None untagged) more h p = ap (λ v. insert_slice v 4 (props_text p)) h
  block_dressed (mapping_start false None non_specific) more h p = absurd (let q : byte text 4 ≡ 32 = ap (λ v. byte v 4) h in omega (arith, q, ends))
  block_dressed (mapping_start false None (full t)) more h p = absurd (let q : byte text 4 ≡ 32 = ap (λ v. byte v 4) h in omega (arith, q, ends))
  block_dressed (mapping_start false (Some name) g) more h p = absurd (let q : byte text 4 ≡ 32 = ap (λ v. byte v 4) h in omega (arith, q, ends))
  block_dressed (mapping_start true a g) more h p = absurd (let q : byte text 4 ≡ 32 = ap (λ v. byte v 4) h in omega (arith, q, ends))
  block_dressed stream_start more h p = absurd (no_start text line 83 84 (ap (λ v. byte v 1) h) (ap (λ v. byte v 2) h) (λ q. omega (arith, q)) (λ q. omega (arith, q)))
  block_dressed stream_end more h p = absurd (let q : byte text 0 ≡ 45 = ap (λ v. byte v 0) h in omega (arith, q, line.0))
  block_dressed (document_start explicit) more h p = absurd (no_start text line 68 79 (ap (λ v. byte v 1) h) (ap (λ v. byte v 2) h) (λ q. omega (arith, q)) (λ q. omega (arith, q)))
  block_dressed (document_end explicit) more h p = absurd (let q : byte text 0 ≡ 45 = ap (λ v. byte v 0) h in omega (arith, q, line.0))
  block_dressed sequence_end more h p = absurd (let q : byte text 0 ≡ 45 = ap (λ v. byte v 0) h in omega (arith, q, line.0))
  block_dressed mapping_end more h p = absurd (let q : byte text 0 ≡ 45 = ap (λ v. byte v 0) h in omega (arith, q, line.0))
  block_dressed (alias_event name) more h p = absurd (let q : byte text 0 ≡ 61 = ap (λ v. byte v 0) h in omega (arith, q, line.0))
  block_dressed (scalar_event a g y x) more h p = absurd (let q : byte text 0 ≡ 61 = ap (λ v. byte v 0) h in omega (arith, q, line.0))

  pub block_room : HasRoom text 4
  block_room = record { bare = block_bare; dressed = block_dressed }

module _ (text : List ℕ) (line : IsStartLine text) (goes_on : byte text 4 ≡ 10 → ⊥) (no_anchor : byte text 5 ≡ 38 → ⊥) (no_tag : byte text 5 ≡ 60 → ⊥) (ends : byte text 7 ≡ 10) where
  flow_bare : (e : Event) (more : List ℕ) → text ≡ event_line e ++ (10 ∷ more) → with_props no_props e ≡ e
  unfolding event_line
  flow_bare (sequence_start true None untagged) more h = refl
  flow_bare (sequence_start true None non_specific) more h = absurd (let q : byte text 7 ≡ 32 = ap (λ v. byte v 7) h in omega (arith, q, ends))
  flow_bare (sequence_start true None (full t)) more h = absurd (let q : byte text 7 ≡ 32 = ap (λ v. byte v 7) h in omega (arith, q, ends))
  flow_bare (sequence_start true (Some name) g) more h = absurd (let q : byte text 7 ≡ 32 = ap (λ v. byte v 7) h in omega (arith, q, ends))
  flow_bare (sequence_start false None untagged) more h = absurd (goes_on (ap (λ v. byte v 4) h))
  flow_bare (sequence_start false None non_specific) more h = absurd (no_tag (ap (λ v. byte v 5) h))
  flow_bare (sequence_start false None (full t)) more h = absurd (no_tag (ap (λ v. byte v 5) h))
  flow_bare (sequence_start false (Some name) g) more h = absurd (no_anchor (ap (λ v. byte v 5) h))
  flow_bare (mapping_start true None untagged) more h = refl
  flow_bare (mapping_start true None non_specific) more h = absurd (let q : byte text 7 ≡ 32 = ap (λ v. byte v 7) h in omega (arith, q, ends))
  flow_bare (mapping_start true None (full t)) more h = absurd (let q : byte text 7 ≡ 32 = ap (λ v. byte v 7) h in omega (arith, q, ends))
  flow_bare (mapping_start true (Some name) g) more h = absurd (let q : byte text 7 ≡ 32 = ap (λ v. byte v 7) h in omega (arith, q, ends))
  flow_bare (mapping_start false None untagged) more h = absurd (goes_on (ap (λ v. byte v 4) h))
  flow_bare (mapping_start false None non_specific) more h = absurd (no_tag (ap (λ v. byte v 5) h))
  flow_bare (mapping_start false None (full t)) more h = absurd (no_tag (ap (λ v. byte v 5) h))
  flow_bare (mapping_start false (Some name) g) more h = absurd (no_anchor (ap (λ v. byte v 5) h))
  flow_bare stream_start more h = refl
  flow_bare stream_end more h = refl
  flow_bare (document_start explicit) more h = refl
  flow_bare (document_end explicit) more h = refl
  flow_bare sequence_end more h = refl
  flow_bare mapping_end more h = refl
  flow_bare (alias_event name) more h = refl
  flow_bare (scalar_event a g y x) more h = absurd (let q : byte text 0 ≡ 61 = ap (λ v. byte v 0) h in omega (arith, q, line.0))

  flow_dressed : (e : Event) (more : List ℕ) → text ≡ event_line e ++ (10 ∷ more) → (p : Props) → insert_slice text 7 (props_text p) ≡ event_line (with_props p e) ++ (10 ∷ more)
  unfolding event_line
  flow_dressed (sequence_start true None untagged) more h p = ap (λ v. insert_slice v 7 (props_text p)) h
  flow_dressed (sequence_start true None non_specific) more h p = absurd (let q : byte text 7 ≡ 32 = ap (λ v. byte v 7) h in omega (arith, q, ends))
  flow_dressed (sequence_start true None (full t)) more h p = absurd (let q : byte text 7 ≡ 32 = ap (λ v. byte v 7) h in omega (arith, q, ends))
  flow_dressed (sequence_start true (Some name) g) more h p = absurd (let q : byte text 7 ≡ 32 = ap (λ v. byte v 7) h in omega (arith, q, ends))
  flow_dressed (sequence_start false None untagged) more h p = absurd (goes_on (ap (λ v. byte v 4) h))
  flow_dressed (sequence_start false None non_specific) more h p = absurd (no_tag (ap (λ v. byte v 5) h))
  flow_dressed (sequence_start false None (full t)) more h p = absurd (no_tag (ap (λ v. byte v 5) h))
  flow_dressed (sequence_start false (Some name) g) more h p = absurd (no_anchor (ap (λ v. byte v 5) h))
  flow_dressed (mapping_start true None untagged) more h p = ap (λ v. insert_slice v 7 (props_text p)) h
  flow_dressed (mapping_start true None non_specific) more h p = absurd (let q : byte text 7 ≡ 32 = ap (λ v. byte v 7) h in omega (arith, q, ends))
  flow_dressed (mapping_start true None (full t)) more h p = absurd (let q : byte text 7 ≡ 32 = ap (λ v. byte v 7) h in omega (arith, q, ends))
  flow_dressed (mapping_start true (Some name) g) more h p = absurd (let q : byte text 7 ≡ 32 = ap (λ v. byte v 7) h in omega (arith, q, ends))
  flow_dressed (mapping_start false None untagged) more h p = absurd (goes_on (ap (λ v. byte v 4) h))
  flow_dressed (mapping_start false None non_specific) more h p = absurd (no_tag (ap (λ v. byte v 5) h))
  flow_dressed (mapping_start false None (full t)) more h p = absurd (no_tag (ap (λ v. byte v 5) h))
  flow_dressed (mapping_start false (Some name) g) more h p = absurd (no_anchor (ap (λ v. byte v 5) h))
  flow_dressed stream_start more h p = absurd (no_start text line 83 84 (ap (λ v. byte v 1) h) (ap (λ v. byte v 2) h) (λ q. omega (arith, q)) (λ q. omega (arith, q)))
  flow_dressed stream_end more h p = absurd (let q : byte text 0 ≡ 45 = ap (λ v. byte v 0) h in omega (arith, q, line.0))
  flow_dressed (document_start explicit) more h p = absurd (no_start text line 68 79 (ap (λ v. byte v 1) h) (ap (λ v. byte v 2) h) (λ q. omega (arith, q)) (λ q. omega (arith, q)))
  flow_dressed (document_end explicit) more h p = absurd (let q : byte text 0 ≡ 45 = ap (λ v. byte v 0) h in omega (arith, q, line.0))
  flow_dressed sequence_end more h p = absurd (let q : byte text 0 ≡ 45 = ap (λ v. byte v 0) h in omega (arith, q, line.0))
  flow_dressed mapping_end more h p = absurd (let q : byte text 0 ≡ 45 = ap (λ v. byte v 0) h in omega (arith, q, line.0))
  flow_dressed (alias_event name) more h p = absurd (let q : byte text 0 ≡ 61 = ap (λ v. byte v 0) h in omega (arith, q, line.0))
  flow_dressed (scalar_event a g y x) more h p = absurd (let q : byte text 0 ≡ 61 = ap (λ v. byte v 0) h in omega (arith, q, line.0))

  pub flow_room : HasRoom text 7
  flow_room = record { bare = flow_bare; dressed = flow_dressed }
