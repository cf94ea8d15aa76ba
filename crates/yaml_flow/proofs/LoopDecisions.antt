-- A flow collection from its bracket on: what is left of its parts after each, and where it closes.
use Rattle.std.proofs.Common.{◌≡◌, ◌≢◌, ℕ, suc, ◌+◌, inl, inr, List, Some, refl, sym, ◌∙◌, ap, subst, arith}
use Rattle.std.specs.Prelude.{slice_get}
use Rattle.yaml_definitions.specs.model.Event.{Event}
use Rattle.yaml_definitions.specs.grammar.Rules.{Rule, ◌◂◌, ◌⨾◌, any, optional, maybe}
use Rattle.yaml_definitions.specs.grammar.Separation.{Ctx, block_out, block_in, flow_out, flow_in, block_key, flow_key, inner, s-separate as separate}
use Rattle.yaml_definitions.specs.grammar.Tags.{Handles}
use Rattle.yaml_definitions.specs.grammar.Events.{Props}
use Rattle.yaml_definitions.specs.grammar.Nodes.{reads, c-flow-sequence as flow_seq, c-flow-mapping as flow_map}
use Rattle.law_one_reading.specs.Readings.{End, At}
use Rattle.law_one_reading.specs.Follows.{Solid, Fresh, Closes}
use Rattle.law_one_reading.proofs.FlowEntries.{PartHere, item_part, entry_start}
use Rattle.law_one_reading.proofs.FlowLevels.{reads_facts}
use Rattle.law_going_on.specs.GoingOn.{Refused, Goes, Rest, Here}
use Rattle.law_going_on.specs.FlowEnds.{InFlow}
use Rattle.law_going_on.proofs.GoingOn.{rest_goes, rest_refused, rest_rest}
use Rattle.law_going_on.proofs.FlowLoops.{parts_closed, parts_last, parts_more, parts_no_more, parts_refused, parts_unclosed, parts_no_way}
use Rattle.law_going_on.proofs.FlowCollections.{Bracketed, Items, Entries, sequence_opens, sequence_no_gap, mapping_opens, mapping_no_gap}
use Rattle.yaml_layout.specs.NodeRules.{opens, below}
use Rattle.yaml_flow.specs.FlowRules.{spaced, comma, parts, item_at, entry_at}

abbrev Wide : Type 0
Wide = Unit {0}

-- between brackets separation is what it is in the reader's context
pub to_in : (cs : List ℕ) (n : ℕ) (c : Ctx) (k x : ℕ) → c ≡ flow_in → ((q : ℕ) → maybe (separate cs n c) k q → Solid cs q → q ≡ x) → (q : ℕ) → maybe (separate cs n flow_in) k q → Solid cs q → q ≡ x
to_in cs n c k x e = subst (λ y. (q : ℕ) → maybe (separate cs n y) k q → Solid cs q → q ≡ x) e

pub none_in : (cs : List ℕ) (n : ℕ) (c : Ctx) (k : ℕ) → c ≡ flow_in → ((q : ℕ) → maybe (separate cs n c) k q → Fresh cs q → ⊥) → (q : ℕ) → maybe (separate cs n flow_in) k q → Fresh cs q → ⊥
none_in cs n c k e = subst (λ y. (q : ℕ) → maybe (separate cs n y) k q → Fresh cs q → ⊥) e

-- ---- parts by commas

module _ (cs : List ℕ) (n : ℕ) where
  abbrev pub Parting : Rule (List Event) → Rule (List Event)
  Parting I = any (spaced cs n flow_in I ◂ comma cs n flow_in) ⨾ optional (spaced cs n flow_in I)

  abbrev pub ClosedBy : ℕ → End
  ClosedBy close = At (λ q. slice_get cs q ≡ Some close)

  -- where parts from i close, parts from x do
  abbrev pub PartsLeft : Rule (List Event) → ℕ → ℕ → ℕ → Type 0
  PartsLeft I close i x = Rest (Parting I) (ClosedBy close) i (Parting I) (ClosedBy close) x

  pub all_left : (I : Rule (List Event)) (close i : ℕ) → PartsLeft I close i i
  all_left I close i = record { rest = λ j m v r e. (j, v, r, e) }

  abbrev To : ℕ → ℕ → Type 0
  To k x = (q : ℕ) → maybe (separate cs n flow_in) k q → Solid cs q → q ≡ x

  abbrev NoWay : ℕ → Type 0
  NoWay k = (q : ℕ) → maybe (separate cs n flow_in) k q → Fresh cs q → ⊥

  module _ (I : Rule (List Event)) (start : (i j : ℕ) (v : List Event) → I i j v → PartHere cs i) (close : ℕ) (shut : (q : ℕ) → slice_get cs q ≡ Some close → Closes cs q) (no_comma : close ≢ 44) where
    abbrev All : Rule (List Event)
    All = parts cs n flow_in close I

    ends : (i x z to : ℕ) → PartsLeft I close i x → Goes (Parting I) (ClosedBy close) x Here z → to ≡ z + 1 → Goes All Here i Here to
    ends i x z to f g t = record { goes = λ j m v (k, s, (h, e)) d. let b : k ≡ z = (rest_goes f g).goes k k v s (refl, h) in d ∙ e ∙ ap (λ y. y + 1) b ∙ sym t }

    none : (i x : ℕ) → PartsLeft I close i x → Refused (Parting I) (ClosedBy close) x → Refused All Here i
    none i x f g = record { none = λ j m v (k, s, (h, e)) d. (rest_refused f g).none k k v s (refl, h) }

    -- the bracket at x
    pub left_closed : (i x to : ℕ) → PartsLeft I close i x → slice_get cs x ≡ Some close → to ≡ x + 1 → Goes All Here i Here to
    left_closed i x to f h t = ends i x x to f (parts_closed cs n flow_in I start close shut no_comma x h) t

    module _ (i x : ℕ) (f : PartsLeft I close i x) (o : slice_get cs x ≢ Some close) where
      pub left_refused : Refused I (InFlow cs n) x → Refused All Here i
      left_refused g = none i x f (parts_refused cs n flow_in I start close shut no_comma x o g)

      module _ (y : ℕ) (g : Goes I (InFlow cs n) x (InFlow cs n) y) where
        pub left_no_way : NoWay y → Refused All Here i
        left_no_way w = none i x f (parts_no_way cs n flow_in I start close shut no_comma x y o g w)

        module _ (q : ℕ) (to : To y q) where
          pub left_last : (z : ℕ) → slice_get cs q ≡ Some close → z ≡ q + 1 → Goes All Here i Here z
          left_last z h t = ends i x q z f (parts_last cs n flow_in I start close shut no_comma x y q o g to h) t

          pub left_unclosed : slice_get cs q ≢ Some close → slice_get cs q ≢ Some 44 → Refused All Here i
          left_unclosed h t = none i x f (parts_unclosed cs n flow_in I start close shut no_comma x y q o g to h t)

          module _ (h : slice_get cs q ≡ Some 44) (a : ℕ) (t : a ≡ q + 1) where
            pub left_more : (z : ℕ) → To a z → PartsLeft I close i z
            left_more z on = rest_rest f (parts_more cs n flow_in I start close shut no_comma x y q z o g to h (subst (λ b. To b z) t on))

            pub left_no_more : NoWay a → Refused All Here i
            left_no_more w = none i x f (parts_no_more cs n flow_in I start close shut no_comma x y q o g to h (subst NoWay t w))

-- ---- items and entries

pub bracket_shut : (cs : List ℕ) (q : ℕ) → slice_get cs q ≡ Some 93 → Closes cs q
bracket_shut cs q h = inr (inl h)

pub brace_shut : (cs : List ℕ) (q : ℕ) → slice_get cs q ≡ Some 125 → Closes cs q
brace_shut cs q h = inr (inr h)

pub bracket_other : ◌≢◌ {A = ℕ} 93 44
bracket_other e = omega (arith, e)

pub brace_other : ◌≢◌ {A = ℕ} 125 44
brace_other e = omega (arith, e)

module _ (cs : List ℕ) (handles : Handles) (r n : ℕ) where
  abbrev pub ItemsIn : Rule (List Event)
  ItemsIn = item_at cs Wide handles r n flow_in

  abbrev pub EntriesIn : Rule (List Event)
  EntriesIn = entry_at cs Wide handles r n flow_in

  pub item_begins : (i j : ℕ) (v : List Event) → ItemsIn i j v → PartHere cs i
  item_begins i j v (inl s) = (reads_facts cs Wide handles r).pair_start n i j v s
  item_begins i j v (inr (inl s)) = item_part cs i ((reads_facts cs Wide handles r).yaml_start n i j v s)
  item_begins i j v (inr (inr s)) = item_part cs i ((reads_facts cs Wide handles r).json_start n i j v s)

  pub entry_begins : (i j : ℕ) (v : List Event) → EntriesIn i j v → PartHere cs i
  entry_begins i j v s = entry_start cs Wide handles (Unit {0}) (reads cs Wide handles r) (reads_facts cs Wide handles r) n i j v s

  -- ---- sequences and mappings

  module _ (c : Ctx) (within : inner c ≡ flow_in) where
    abbrev OpenedItems : Rule (List Event)
    OpenedItems = Bracketed cs Wide handles (Unit {0}) (reads cs Wide handles r) (reads_facts cs Wide handles r) n c within (Items cs Wide handles (Unit {0}) (reads cs Wide handles r) (reads_facts cs Wide handles r) n c within) 93

    abbrev OpenedEntries : Rule (List Event)
    OpenedEntries = Bracketed cs Wide handles (Unit {0}) (reads cs Wide handles r) (reads_facts cs Wide handles r) n c within (Entries cs Wide handles (Unit {0}) (reads cs Wide handles r) (reads_facts cs Wide handles r) n c within) 125

  key_not : {A : Type 0} → flow_key ≡ flow_in → A
  key_not e = let h : flow_key ≡ flow_in = e in cc

  same_items : (c : Ctx) (within : inner c ≡ flow_in) (x : ℕ) → Rest (OpenedItems c within) Here x (parts cs n flow_in 93 ItemsIn) Here x
  unfolding inner separate
  same_items block_out w x = record { rest = λ j m v s e. (j, v, s, e) }
  same_items block_in w x = record { rest = λ j m v s e. (j, v, s, e) }
  same_items flow_out w x = record { rest = λ j m v s e. (j, v, s, e) }
  same_items flow_in w x = record { rest = λ j m v s e. (j, v, s, e) }
  same_items block_key w x = key_not w
  same_items flow_key w x = key_not w

  same_entries : (c : Ctx) (within : inner c ≡ flow_in) (x : ℕ) → Rest (OpenedEntries c within) Here x (parts cs n flow_in 125 EntriesIn) Here x
  unfolding inner separate
  same_entries block_out w x = record { rest = λ j m v s e. (j, v, s, e) }
  same_entries block_in w x = record { rest = λ j m v s e. (j, v, s, e) }
  same_entries flow_out w x = record { rest = λ j m v s e. (j, v, s, e) }
  same_entries flow_in w x = record { rest = λ j m v s e. (j, v, s, e) }
  same_entries block_key w x = key_not w
  same_entries flow_key w x = key_not w

module _ (cs : List ℕ) (handles : Handles) (room r n : ℕ) (e : room ≡ suc r) (c : Ctx) (within : inner c ≡ flow_in) (p : Props) (i k : ℕ) (next : k ≡ i + 1) where
  abbrev Sequence : ℕ → Rule (List Event)
  Sequence x = flow_seq cs Wide handles (opens cs Wide handles x) (below cs Wide handles x) p n c

  abbrev Mapping : ℕ → Rule (List Event)
  Mapping x = flow_map cs Wide handles (opens cs Wide handles x) (below cs Wide handles x) p n c

  -- nothing comes after the bracket
  pub sequence_nowhere : ((q : ℕ) → maybe (separate cs n c) k q → Fresh cs q → ⊥) → Refused (Sequence room) Here i
  sequence_nowhere f = subst (λ x. Refused (Sequence x) Here i) (sym e)
      (sequence_no_gap cs Wide handles (Unit {0}) (reads cs Wide handles r) (reads_facts cs Wide handles r) n c within p Here i (subst (λ y. (q : ℕ) → maybe (separate cs n c) y q → Fresh cs q → ⊥) next f))

  pub mapping_nowhere : ((q : ℕ) → maybe (separate cs n c) k q → Fresh cs q → ⊥) → Refused (Mapping room) Here i
  mapping_nowhere f = subst (λ x. Refused (Mapping x) Here i) (sym e)
      (mapping_no_gap cs Wide handles (Unit {0}) (reads cs Wide handles r) (reads_facts cs Wide handles r) n c within p Here i (subst (λ y. (q : ℕ) → maybe (separate cs n c) y q → Fresh cs q → ⊥) next f))

  module _ (x : ℕ) (to : (q : ℕ) → maybe (separate cs n c) k q → Solid cs q → q ≡ x) where
    at : (q : ℕ) → maybe (separate cs n c) (i + 1) q → Solid cs q → q ≡ x
    at = subst (λ y. (q : ℕ) → maybe (separate cs n c) y q → Solid cs q → q ≡ x) next to

    items_left : Rest (Sequence (suc r)) Here i (parts cs n flow_in 93 (ItemsIn cs handles r n)) Here x
    items_left = rest_rest (sequence_opens cs Wide handles (Unit {0}) (reads cs Wide handles r) (reads_facts cs Wide handles r) n c within p Here i x at) (same_items cs handles r n c within x)

    entries_left : Rest (Mapping (suc r)) Here i (parts cs n flow_in 125 (EntriesIn cs handles r n)) Here x
    entries_left = rest_rest (mapping_opens cs Wide handles (Unit {0}) (reads cs Wide handles r) (reads_facts cs Wide handles r) n c within p Here i x at) (same_entries cs handles r n c within x)

    pub sequence_goes : (z : ℕ) → Goes (parts cs n flow_in 93 (ItemsIn cs handles r n)) Here x Here z → Goes (Sequence room) Here i Here z
    sequence_goes z g = subst (λ y. Goes (Sequence y) Here i Here z) (sym e) (rest_goes items_left g)

    pub sequence_refused : Refused (parts cs n flow_in 93 (ItemsIn cs handles r n)) Here x → Refused (Sequence room) Here i
    sequence_refused f = subst (λ y. Refused (Sequence y) Here i) (sym e) (rest_refused items_left f)

    pub mapping_goes : (z : ℕ) → Goes (parts cs n flow_in 125 (EntriesIn cs handles r n)) Here x Here z → Goes (Mapping room) Here i Here z
    mapping_goes z g = subst (λ y. Goes (Mapping y) Here i Here z) (sym e) (rest_goes entries_left g)

    pub mapping_refused : Refused (parts cs n flow_in 125 (EntriesIn cs handles r n)) Here x → Refused (Mapping room) Here i
    mapping_refused f = subst (λ y. Refused (Mapping y) Here i) (sym e) (rest_refused entries_left f)
