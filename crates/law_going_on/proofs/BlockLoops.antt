-- The loops of a reader of block sequences and block mappings: what is left after each call, and when there is nothing left.
use Rattle.std.proofs.Common.{◌≡◌, ℕ, ◌+◌, ◌≤◌, ◌<◌, ◌++◌, inl, inr, List, true, false, refl, sym, ◌∙◌, subst, arith}
use Rattle.yaml_definitions.specs.grammar.Rules.{Rule, ◌▸◌, ◌◂◌, ◌∪◌, ◌⨾◌, chr, any, given, seen, Spans, Stands}
use Rattle.yaml_definitions.specs.grammar.Characters.{is_ns, is_space, is_nb, is_break}
use Rattle.yaml_definitions.specs.grammar.Separation.{block_out, block_key, s-indent as indent, AtEnd, DocumentMark}
use Rattle.yaml_definitions.specs.grammar.Tags.{Handles}
use Rattle.yaml_definitions.specs.model.Event.{Event, sequence_end, mapping_end}
use Rattle.yaml_definitions.specs.grammar.Events.{Props, no_props, seq_start, map_start, wrapped}
use Rattle.yaml_definitions.specs.grammar.Nodes.{Part, block_part, empty_rest, s-l+block-indented as indented, c-l-block-seq-entry as seq_entry, ns-l-block-map-entry as map_entry, ns-s-implicit-yaml-key as implicit_yaml_key, c-s-implicit-json-key as implicit_json_key, ns-l-compact-sequence as compact_seq, ns-l-compact-mapping as compact_map}
use Rattle.yaml_text.specs.Lines.{Inside}
use Rattle.yaml_text.proofs.LineRuns.{indent_place, indent_run}
use Rattle.yaml_text.proofs.Runs.{run_same}
use Rattle.law_one_reading.specs.Readings.{End, At, More, Starts}
use Rattle.law_going_on.specs.GoingOn.{Refused, Goes, Rest, Here}
use Rattle.law_going_on.proofs.GoingOn.{rest_refused, rest_goes, rest_rest, goes_refused, refused_until, rest_seen, rest_given, refused_given, rest_before, rest_first, refused_first, rest_more, refused_more, rest_next, refused_next, goes_done}
use Rattle.law_one_reading.proofs.Lines.{solid_no_space, dash_fresh, comments_none, less_stuck}
use Rattle.law_one_reading.specs.Follows.{Solid, Stuck, Less, DashHere, Dash, Over, Follow, KeyHere, KeyAt}
use Rattle.law_one_reading.proofs.BlockEntries.{dash_less, key_dash, follow_less, less_key}

nb_colon : is_nb 58 ≡ true
unfolding is_nb is_break
nb_colon = refl

module _ (cs : List ℕ) where
  -- one more begins at x, or the text goes on there
  move : (D X : ℕ → Type 0) (j m x : ℕ) → m ≡ x → More D (Over cs X) j m → More D (Over cs X) x m
  move D X j m x h (inl (e, d)) = inl (sym h, subst D (e ∙ h) d)
  move D X j m x h (inr (c, f)) = inr (Spans.done h, f)

  to_more : (D X Y : ℕ → Type 0) {R : Rule (List Event)} {i x : ℕ} → ((j m : ℕ) → More D (Over cs X) j m → Over cs Y j m)
      → Goes R (Over cs Y) i Here x → Goes R (More D (Over cs X)) i (More D (Over cs X)) x
  to_more D X Y {R} {i} {x} f g = record { goes = λ j m v r e. move D X j m x (g.goes j m v r (f j m e)) e }

  -- at a line that is no comment the text goes on right there
  to_here : (X : ℕ → Type 0) {R : Rule (List Event)} {E : End} {i x : ℕ} → Stuck cs x → Goes R E i (Over cs X) x → Goes R E i Here x
  to_here X {R} {E} {i} {x} s g = record { goes = λ j m v r e. comments_none cs x m s (g.goes j m v r e).0 }

  more_less : (k j m : ℕ) → More (Dash cs k) (Over cs (Follow cs (k + 1) k)) j m → Over cs (Less cs (k + 1)) j m
  more_less k j m (inl (e, d)) = (Spans.done (sym e), subst (Less cs (k + 1)) e (dash_less cs k j d))
  more_less k j m (inr (c, (l, n))) = (c, l)

  key_less : (k m : ℕ) → KeyAt cs k m → Follow cs (k + 1) k m
  key_less k m (p, r, f) = (inr (inr (k, p, omega arith, r, f.0.0)), key_dash cs k m (p, r, f))

  more_follow : (k j m : ℕ) → More (KeyAt cs k) (Over cs (Less cs k)) j m → Over cs (Follow cs (k + 1) k) j m
  more_follow k j m (inl (e, d)) = (Spans.done (sym e), subst (Follow cs (k + 1) k) e (key_less k j d))
  more_follow k j m (inr (c, l)) = (c, follow_less cs k k m l (omega arith))

  -- a line that is no comment, with something after its spaces further right than this column: content, or a tab
  pub record Right (k s x p : ℕ) : Type 0 where
    pub spaces : indent cs s x p
    pub whole : Stands cs is_space p → ⊥
    pub further : k < s
    pub no_end : AtEnd cs x → ⊥
    pub no_mark : DocumentMark cs x → ⊥

  right_at : (k s t x p q : ℕ) → Right k s x p → indent cs t x q → Solid cs q → k < t
  right_at k s t x p q o r h =
      let e : q ≡ p = run_same cs is_space x q p (indent_run cs t x q r) (indent_run cs s x p o.spaces) (solid_no_space cs q h.0) o.whole in
      let a : q ≡ x + t = indent_place cs t x q r in
      let b : p ≡ x + s = indent_place cs s x p o.spaces in
      let l : k < s = o.further in omega (arith, e, a, b, l)

  right_less : (c k s x p : ℕ) → c ≤ k + 1 → Right k s x p → Less cs c x → ⊥
  right_less c k s x p le o (inl e) = o.no_end e
  right_less c k s x p le o (inr (inl e)) = o.no_mark e
  right_less c k s x p le o (inr (inr (t, q, l, r, h))) = let lt : k < t = right_at k s t x p q o r h in omega (arith, lt, l, le)

  -- a line with at least so many spaces that is neither the end nor a mark
  pub line_less : (c s x p : ℕ) → indent cs s x p → (Stands cs is_space p → ⊥) → c ≤ s → (AtEnd cs x → ⊥) → (DocumentMark cs x → ⊥) → Less cs c x → ⊥
  line_less c s x p ind w le e m (inl a) = e a
  line_less c s x p ind w le e m (inr (inl a)) = m a
  line_less c s x p ind w le e m (inr (inr (t, q, l, r, h))) =
      let f : q ≡ p = run_same cs is_space x q p (indent_run cs t x q r) (indent_run cs s x p ind) (solid_no_space cs q h.0) w in
      let a : q ≡ x + t = indent_place cs t x q r in
      let b : p ≡ x + s = indent_place cs s x p ind in omega (arith, f, a, b, l, le)

  right_dash : (k s x p : ℕ) → Right k s x p → Dash cs k x → ⊥
  right_dash k s x p o (q, t, d) = let lt : k < k = right_at k s k x p q o t (dash_fresh cs q d).0 in omega (arith, lt)

  right_key : (k s x p : ℕ) → Right k s x p → KeyAt cs k x → ⊥
  right_key k s x p o (q, t, (f, n)) = let lt : k < k = right_at k s k x p q o t f.0 in omega (arith, lt)

  module _ (Wide : Type 0) (handles : Handles) (Open : Type 0) (inside : Part → Rule (List Event)) (k : ℕ) where
    -- a collection from its first entry on, in column k, with these properties; without any it is a compact one
    abbrev pub SequenceFrom : Props → Rule (List Event)
    SequenceFrom o = given Open (seen (wrapped (seq_start false o) sequence_end) (seq_entry cs Wide handles Open inside k ⨾ any (indent cs k ▸ seq_entry cs Wide handles Open inside k)))

    abbrev pub MappingFrom : Props → Rule (List Event)
    MappingFrom o = given Open (seen (wrapped (map_start false o) mapping_end) (map_entry cs Wide handles Open inside k ⨾ any (indent cs k ▸ map_entry cs Wide handles Open inside k)))

    pub compact_sequence : (i j : ℕ) (v : List Event) → compact_seq cs Wide handles Open inside k i j v → SequenceFrom no_props i j v
    unfolding compact_seq
    compact_sequence i j v r = r

    pub compact_mapping : (i j : ℕ) (v : List Event) → compact_map cs Wide handles Open inside k i j v → MappingFrom no_props i j v
    unfolding compact_map
    compact_mapping i j v r = r

    -- ---- sequences: `read_sequence`, with `read_indented` and `next_dash`

    abbrev pub Indented : Rule (List Event)
    Indented = indented cs Wide handles Open inside k

    abbrev pub DashEntries : Rule (List Event)
    DashEntries = indent cs k ▸ seq_entry cs Wide handles Open inside k

    -- after an entry; after the sequence
    abbrev pub InEntry : End
    InEntry = Over cs (Less cs (k + 1))

    abbrev pub InDashes : End
    InDashes = Over cs (Follow cs (k + 1) k)

    entry_dash : (i j : ℕ) (es : List Event) → seq_entry cs Wide handles Open inside k i j es → DashHere cs i
    unfolding seq_entry
    entry_dash i j es (a, (b, (h, e), (f, n)), r) = (h, subst (λ x. Stands cs is_ns x → ⊥) e n)

    dash_starts : Starts DashEntries (More (Dash cs k) InDashes) (Dash cs k)
    dash_starts i j m v (a, r, s) e = (a, r, entry_dash a j v s)

    dash_there : (j m : ℕ) → Dash cs k m → InDashes j m → ⊥
    dash_there j m d (c, (l, n)) = n d

    -- no follow begins where a dash does
    dash_here : (i m : ℕ) → Dash cs k i → InDashes i m → ⊥
    dash_here i m d (c, (l, n)) = n (subst (Dash cs k) (sym (comments_none cs i m (less_stuck cs (k + 1) i (dash_less cs k i d)) c)) d)

    entry_rest : (E : End) (p : ℕ) → Rest (seq_entry cs Wide handles Open inside k) E p Indented E (p + 1)
    unfolding seq_entry
    entry_rest E p = rest_before _ Indented E (λ i. Unit {0}) p (p + 1) (λ i j m v r e. tt) (λ l (b, (h, e), (f, n)) d. f ∙ e)

    entry_goes : (p x : ℕ) → Goes Indented InEntry (p + 1) Here x → Goes (seq_entry cs Wide handles Open inside k) (More (Dash cs k) InDashes) p (More (Dash cs k) InDashes) x
    entry_goes p x g = rest_goes (entry_rest _ p) (to_more (Dash cs k) (Follow cs (k + 1) k) (Less cs (k + 1)) (more_less k) g)

    entry_refused : (p : ℕ) → Refused Indented InEntry (p + 1) → Refused (seq_entry cs Wide handles Open inside k) (More (Dash cs k) InDashes) p
    entry_refused p n = rest_refused (entry_rest _ p) (refused_until _ (more_less k) n)

    line_rest : (E : End) (x p : ℕ) → indent cs k x p → Rest DashEntries E x (seq_entry cs Wide handles Open inside k) E p
    line_rest E x p r = rest_before (indent cs k) _ E (λ i. Unit {0}) x p (λ i j m v r e. tt)
        (λ l s d. let a : l ≡ x + k = indent_place cs k x l s in let b : p ≡ x + k = indent_place cs k x p r in omega (arith, a, b))

    -- the first dash; what follows is as wide as both compact sequences and those of block nodes need it (`follow_less`, `follow_seq`)
    pub sequence_first : (o : Props) (p x : ℕ) → Goes Indented InEntry (p + 1) Here x → Rest (SequenceFrom o) InDashes p (any DashEntries) InDashes x
    sequence_first o p x g = rest_rest (rest_given _ _ _ p) (rest_rest (rest_seen _ _ _ p) (rest_first (Dash cs k) dash_starts dash_there (entry_goes p x g)))

    pub sequence_no_first : (o : Props) (p : ℕ) → Refused Indented InEntry (p + 1) → Refused (SequenceFrom o) InDashes p
    sequence_no_first o p n = rest_refused (rest_given _ _ _ p) (rest_refused (rest_seen _ _ _ p) (refused_first (Dash cs k) dash_starts dash_there (entry_refused p n)))

    -- no more room
    pub sequence_no_room : (o : Props) (p : ℕ) (E : End) → (Open → ⊥) → Refused (SequenceFrom o) E p
    sequence_no_room o p E n = refused_given _ _ _ p n

    -- a further dash
    pub sequence_more : (x p y : ℕ) → indent cs k x p → DashHere cs p → Goes Indented InEntry (p + 1) Here y → Rest (any DashEntries) InDashes x (any DashEntries) InDashes y
    sequence_more x p y r d g = rest_more (Dash cs k) dash_starts dash_there (p, r, d) (dash_here x) (rest_goes (line_rest _ x p r) (entry_goes p y g))

    pub sequence_no_more : (x p : ℕ) → indent cs k x p → DashHere cs p → Refused Indented InEntry (p + 1) → Refused (any DashEntries) InDashes x
    sequence_no_more x p r d n = refused_more (Dash cs k) dash_starts dash_there (p, r, d) (dash_here x) (rest_refused (line_rest _ x p r) (entry_refused p n))

    -- a line without one; a line further right
    pub sequence_done : (x : ℕ) → Stuck cs x → (Dash cs k x → ⊥) → Goes (any DashEntries) InDashes x Here x
    sequence_done x s n = to_here (Follow cs (k + 1) k) s (goes_done (Dash cs k) dash_starts dash_there n)

    pub sequence_further : (s x p : ℕ) → Right k s x p → Stuck cs x → Refused (any DashEntries) InDashes x
    sequence_further s x p o st = goes_refused (goes_done (Dash cs k) dash_starts dash_there (right_dash k s x p o))
        (λ m (c, (l, n)). right_less (k + 1) k s x p (omega arith) o (subst (Less cs (k + 1)) (comments_none cs x m st c) l))

    -- ---- mappings: `read_entries`, with `read_key` and `read_value`

    abbrev pub Keys : Rule (List Event)
    Keys = (implicit_yaml_key cs Wide handles Open inside block_key ∪ implicit_json_key cs Wide handles Open inside block_key) ◂ chr cs 58

    abbrev pub Values : Rule (List Event)
    Values = inside (block_part (k + 1) block_out) ∪ empty_rest cs Wide handles Open inside

    abbrev pub Pairs : Rule (List Event)
    Pairs = indent cs k ▸ map_entry cs Wide handles Open inside k

    abbrev pub InPairs : End
    InPairs = Over cs (Less cs k)

    -- no ns character just after the colon
    abbrev pub Colon : ℕ → Type 0
    Colon i = Stands cs is_ns i → ⊥

    -- a key ends just after its colon
    key_inside : (i j : ℕ) (v : List Event) → Keys i j v → Inside cs j
    key_inside i j v (m, r, (h, e)) = (m, e, (58, h, nb_colon))

    -- two facts of uniqueness: nothing stands just after a key's colon, and what a key begins with
    module _ (value_starts : (i j : ℕ) (v : List Event) → Inside cs i → Values i j v → Colon i) (key_starts : (i j : ℕ) (es : List Event) → map_entry cs Wide handles Open inside k i j es → KeyHere cs i) where
      pair_starts : Starts Pairs (More (KeyAt cs k) InPairs) (KeyAt cs k)
      pair_starts i j m v (a, r, s) e = (a, r, key_starts a j v s)

      key_there : (j m : ℕ) → KeyAt cs k m → InPairs j m → ⊥
      key_there j m d (c, l) = less_key cs k k m l (omega arith) d

      -- the value, after the key's colon
      pair_value : (E : End) (p x : ℕ) → Goes Keys (At Colon) p (At Colon) x → Rest (map_entry cs Wide handles Open inside k) E p Values E x
      unfolding map_entry
      pair_value E p x f = record { rest = λ j m v (l, ks, ws, key, val, h) e. (j, ws, subst (λ y. Values y j ws) (sym (f.goes l l ks key (refl, value_starts l j ws (key_inside p l ks key) val)).0) val, e) }

      pair_goes : (p x y : ℕ) → Goes Keys (At Colon) p (At Colon) x → Goes Values InDashes x Here y → Goes (map_entry cs Wide handles Open inside k) (More (KeyAt cs k) InPairs) p (More (KeyAt cs k) InPairs) y
      pair_goes p x y f g = to_more (KeyAt cs k) (Less cs k) (Follow cs (k + 1) k) (more_follow k) (rest_goes (pair_value InDashes p x f) g)

      pair_refused : (p x : ℕ) → Goes Keys (At Colon) p (At Colon) x → Refused Values InDashes x → Refused (map_entry cs Wide handles Open inside k) (More (KeyAt cs k) InPairs) p
      pair_refused p x f n = refused_until _ (more_follow k) (rest_refused (pair_value InDashes p x f) n)

      pair_no_key : (E : End) (p : ℕ) → Refused Keys (At Colon) p → Refused (map_entry cs Wide handles Open inside k) E p
      unfolding map_entry
      pair_no_key E p n = record { none = λ j m v (l, ks, ws, key, val, h) e. n.none l l ks key (refl, value_starts l j ws (key_inside p l ks key) val) }

      pair_line : (E : End) (x p : ℕ) → indent cs k x p → Rest Pairs E x (map_entry cs Wide handles Open inside k) E p
      pair_line E x p r = rest_before (indent cs k) _ E (λ i. Unit {0}) x p (λ i j m v r e. tt)
          (λ l s d. let a : l ≡ x + k = indent_place cs k x l s in let b : p ≡ x + k = indent_place cs k x p r in omega (arith, a, b))

      -- from the colon of the first key on
      pub mapping_keyed : (o : Props) (E : End) (p x : ℕ) → Goes Keys (At Colon) p (At Colon) x → Rest (MappingFrom o) E p (Values ⨾ any Pairs) E x
      unfolding map_entry
      mapping_keyed o E p x f = record {
        rest = λ j m v (op, (t, (a, us, vs, (l, ks, ws, key, val, h), more, y), w)) e.
            (j, ws ++ vs, (a, ws, vs, subst (λ z. Values z a ws) (sym (f.goes l l ks key (refl, value_starts l a ws (key_inside p l ks key) val)).0) val, more, refl), e);
      }

      pub mapping_no_key : (o : Props) (E : End) (p : ℕ) → Refused Keys (At Colon) p → Refused (MappingFrom o) E p
      mapping_no_key o E p n = record { none = λ j m v (op, (t, (a, us, vs, u, more, y), w)) e. (pair_no_key (λ z y. Unit {0}) p n).none a a us u tt }

      -- the first value
      pub values_first : (x y : ℕ) → Goes Values InDashes x Here y → Rest (Values ⨾ any Pairs) InPairs x (any Pairs) InPairs y
      values_first x y g = rest_first (KeyAt cs k) pair_starts key_there (to_more (KeyAt cs k) (Less cs k) (Follow cs (k + 1) k) (more_follow k) g)

      pub values_refused : (x : ℕ) → Refused Values InDashes x → Refused (Values ⨾ any Pairs) InPairs x
      values_refused x n = refused_first (KeyAt cs k) pair_starts key_there (refused_until _ (more_follow k) n)

      -- a line where the mapping is not over
      goes_on : (x m : ℕ) → Stuck cs x → (Less cs k x → ⊥) → InPairs x m → ⊥
      goes_on x m s n (c, l) = n (subst (Less cs k) (comments_none cs x m s c) l)

      pub mapping_more : (x p y z : ℕ) → indent cs k x p → Stuck cs x → (Less cs k x → ⊥) → Goes Keys (At Colon) p (At Colon) y → Goes Values InDashes y Here z → Rest (any Pairs) InPairs x (any Pairs) InPairs z
      mapping_more x p y z r s n f g = rest_next (KeyAt cs k) pair_starts key_there (λ m. goes_on x m s n) (rest_goes (pair_line _ x p r) (pair_goes p y z f g))

      -- something in this column that is no key with a value
      pub mapping_no_more : (x p : ℕ) → indent cs k x p → Stuck cs x → (Less cs k x → ⊥) → Refused Keys (At Colon) p → Refused (any Pairs) InPairs x
      mapping_no_more x p r s n f = refused_next (KeyAt cs k) pair_starts key_there (λ m. goes_on x m s n) (rest_refused (pair_line _ x p r) (pair_no_key _ p f))

      pub mapping_no_value : (x p y : ℕ) → indent cs k x p → Stuck cs x → (Less cs k x → ⊥) → Goes Keys (At Colon) p (At Colon) y → Refused Values InDashes y → Refused (any Pairs) InPairs x
      mapping_no_value x p y r s n f g = refused_next (KeyAt cs k) pair_starts key_there (λ m. goes_on x m s n) (rest_refused (pair_line _ x p r) (pair_refused p y f g))

      pub mapping_done : (x : ℕ) → Stuck cs x → (KeyAt cs k x → ⊥) → Goes (any Pairs) InPairs x Here x
      mapping_done x s n = to_here (Less cs k) s (goes_done (KeyAt cs k) pair_starts key_there n)

      pub mapping_further : (s x p : ℕ) → Right k s x p → Stuck cs x → Refused (any Pairs) InPairs x
      mapping_further s x p o st = goes_refused (goes_done (KeyAt cs k) pair_starts key_there (right_key k s x p o))
          (λ m (c, l). right_less k k s x p (omega arith) o (subst (Less cs k) (comments_none cs x m st c) l))
