-- Block sequences, block mappings and compact ones: one reading each, where the nodes in them have one.
use Rattle.std.proofs.Common.{◌≡◌, ℕ, ◌+◌, ◌≤◌, ◌<◌, ◌⊎◌, inl, inr, List, Some, true, refl, sym, ◌∙◌, ap, subst, arith}
use Rattle.std.proofs.lemmas.Bool.{cases_eq}
use Rattle.std.proofs.Math.Nat.{eq-or-lt_of_le}
use Rattle.law_one_reading.specs.Follows as follows
use Rattle.yaml_definitions.specs.grammar.Rules.{Rule, ◌◆◌, ◌▸◌, ◌∪◌, chr, given, some, any_one, Spans, Stands, run, ahead}
use Rattle.yaml_definitions.specs.grammar.Characters.{is_space, is_ns, is_nb, is_break}
use Rattle.yaml_definitions.specs.grammar.Separation.{block_out, block_in, block_key, StartsLine, s-indent as indent, s-l-comments as s_l_comments}
use Rattle.yaml_definitions.specs.grammar.Tags.{Handles}
use Rattle.yaml_definitions.specs.model.Event.{Event}
use Rattle.yaml_definitions.specs.grammar.Events.{Props}
use Rattle.yaml_definitions.specs.grammar.Nodes.{Part, block_part, compact_part, empty_rest, s-l+block-indented as indented, c-l-block-seq-entry as seq_entry, ns-l-block-map-entry as map_entry, ns-s-implicit-yaml-key as implicit_yaml_key, c-s-implicit-json-key as implicit_json_key, l+block-sequence as block_seq, l+block-mapping as block_map, ns-l-compact-sequence as compact_seq, ns-l-compact-mapping as compact_map}
use Rattle.yaml_text.specs.Lines.{Inside}
use Rattle.yaml_text.proofs.Runs.{same_char, run_none}
use Rattle.yaml_scalar.proofs.HeaderLemmas.{hash_no_rest}
use Rattle.yaml_text.proofs.RestLemmas.{from_s_b}
use Rattle.yaml_text.proofs.LineRuns.{indent_run, indent_place, inside_no_line, inside_next}
use Rattle.law_one_reading.proofs.Unique.{unique_within, unique_until, unique_gives, unique_seen, unique_given, unique_after, unique_before, unique_joined, unique_either, unique_some, apart_starts, unique_first, unique_from, unique_from_either, from, from_before, from_joined}
use Rattle.law_one_reading.specs.Readings.{End, At, More, Then, Unique, Apart, Starts, OneWayOn, To}
use Rattle.law_one_reading.proofs.Lines.{no_rest, dash_fresh, stuck_line, less_stuck, comments_same, comments_none, column_same, less_more, less_run, less_column, past_of, past_same, past_no_run, stuck_run, ns_dash, solid_no_space, solid_nb}
use Rattle.law_one_reading.specs.Follows.{Fresh, Comments, Stuck, Less, DashHere, Dash, Past}

nb_colon : is_nb 58 ≡ true
unfolding is_nb is_break
nb_colon = refl

module _ (cs : List ℕ) where
  abbrev Over : (ℕ → Type 0) → End
  Over = follows.Over cs

  abbrev Follow : ℕ → ℕ → ℕ → Type 0
  Follow = follows.Follow cs

  -- where a node of block level begins: after spaces on this line, on another at column col or further, or a sequence at column d
  abbrev pub NodeStart : ℕ → ℕ → ℕ → Type 0
  NodeStart col d i =
      ((q : ℕ) × run cs is_space i q × ((i < q) ⊎ StartsLine cs i) × Fresh cs q)
      ⊎ ((p : ℕ) × (q : ℕ) × Past cs i p × run cs is_space p q × (p + col ≤ q) × Fresh cs q)
      ⊎ ((p : ℕ) × Past cs i p × Dash cs d p)

  abbrev KeyHere : ℕ → Type 0
  KeyHere = follows.KeyHere cs

  abbrev KeyAt : ℕ → ℕ → Type 0
  KeyAt = follows.KeyAt cs

  pub ends_less : (col : ℕ) → OneWayOn (Over (Less cs col))
  ends_less col i m n (c, l) (d, k) = comments_same cs i m n c (less_stuck cs col m l) d (less_stuck cs col n k)

  pub ends_follow : (col d : ℕ) → OneWayOn (Over (Follow col d))
  ends_follow col d i m n (c, l) (e, k) = comments_same cs i m n c (less_stuck cs col m l.0) e (less_stuck cs col n k.0)

  pub dash_less : (k m : ℕ) → Dash cs k m → Less cs (k + 1) m
  dash_less k m (p, r, d) = inr (inr (k, p, omega arith, r, (dash_fresh cs p d).0))

  pub dash_stuck : (k m : ℕ) → Dash cs k m → Stuck cs m
  dash_stuck k m (p, r, d) = stuck_line cs k m p r (dash_fresh cs p d).0

  pub key_dash : (k m : ℕ) → KeyAt k m → Dash cs k m → ⊥
  key_dash k m (p, r, (f, n)) (q, t, d) =
      n (subst (DashHere cs) (sym (column_same cs k k m p q r f.0.0 t (dash_fresh cs q d).0.0).1) d)

  pub less_dash : (c k m : ℕ) → Less cs c m → c ≤ k → Dash cs k m → ⊥
  less_dash c k m l le (p, r, d) = less_column cs c k m p l r le (dash_fresh cs p d)

  pub less_key : (c k m : ℕ) → Less cs c m → c ≤ k → KeyAt k m → ⊥
  less_key c k m l le (p, r, (f, n)) = less_column cs c k m p l r le f

  -- after a sequence of a node
  pub follow_seq : (col d k m : ℕ) → Follow col d m → d ≤ k → col ≤ d + 1 → Follow (k + 1) k m
  follow_seq col d k m (l, n) a b = (less_more cs col (k + 1) m (omega (arith, a, b)) l, go (eq-or-lt_of_le a))
    where
      go : (d ≡ k) ⊎ (d < k) → Dash cs k m → ⊥
      go (inl e) x = n (subst (λ y. Dash cs y m) (sym e) x)
      go (inr lt) x = less_dash col k m l (omega (arith, lt, b)) x

  pub follow_less : (c k m : ℕ) → Less cs c m → c ≤ k → Follow (k + 1) k m
  follow_less c k m l a = (less_more cs c (k + 1) m (omega (arith, a)) l, less_dash c k m l a)

  -- a node is not nothing
  pub start_no_empty : (col d i n : ℕ) → Inside cs i → NodeStart col d i → Past cs i n → Follow col d n → ⊥
  start_no_empty col d i n o (inl (q, r, l, f)) p (x, y) = inside_no_line cs i o (past_no_run cs i n q p r f.0).0
  start_no_empty col d i n o (inr (inl (p, q, a, r, l, f))) b (x, y) =
      let h : p ≡ n = past_same cs i p n a (stuck_run cs p q r f.0) b (less_stuck cs col n x) in
      less_run cs col n q x (subst (λ z. run cs is_space z q) h r) (subst (λ z. z + col ≤ q) h l) f
  start_no_empty col d i n o (inr (inr (p, a, e))) b (x, y) =
      let h : p ≡ n = past_same cs i p n a (dash_stuck d p e) b (less_stuck cs col n x) in
      y (subst (Dash cs d) h e)

  pub past_no_ns : (i m : ℕ) → Inside cs i → Past cs i m → Stands cs is_ns i → ⊥
  past_no_ns i m o (inr (s, c)) t = inside_no_line cs i o s
  past_no_ns i m o (inl (a, b, c)) (x, h, t) = elim (cases_eq x 35) [
    | inl e ↦ hash_no_rest cs i o (h ∙ ap Some e) a b
    | inr n ↦ no_rest cs i i (run_none cs is_space i) ((x, h, t), λ g. n (same_char cs i x 35 h g)) a (from_s_b cs i a b)
  ]

  -- no ns character just after `-` or `:`
  pub start_no_ns : (col d i : ℕ) → Inside cs i → NodeStart col d i → Stands cs is_ns i → ⊥
  start_no_ns col d i o (inl (q, r, inl l, f)) s = solid_no_space cs i s (r.1 i (omega arith) l)
  start_no_ns col d i o (inl (q, r, inr l, f)) s = inside_no_line cs i o l
  start_no_ns col d i o (inr (inl (p, q, a, r, l, f))) s = past_no_ns i p o a s
  start_no_ns col d i o (inr (inr (p, a, e))) s = past_no_ns i p o a s

  module _ (Wide : Type 0) (handles : Handles) (Open : Type 0) (inside : Part → Rule (List Event))
      (node_unique : (col : ℕ) → Unique (inside (block_part col block_in)) (Over (Follow col col)))
      (value_unique : (k : ℕ) → Unique (inside (block_part (k + 1) block_out)) (Over (Follow (k + 1) k)))
      (compact_unique : (k : ℕ) → Unique (inside (compact_part k)) (Over (Less cs k)))
      (node_start : (col i j : ℕ) (es : List Event) → inside (block_part col block_in) i j es → NodeStart col col i)
      (value_start : (k i j : ℕ) (es : List Event) → inside (block_part (k + 1) block_out) i j es → NodeStart (k + 1) k i)
      (compact_start : (k i j : ℕ) (es : List Event) → inside (compact_part k) i j es → Fresh cs i)
      (key_unique : Unique (implicit_yaml_key cs Wide handles Open inside block_key ∪ implicit_json_key cs Wide handles Open inside block_key)
      (Then (chr cs 58) (At (λ i. Stands cs is_ns i → ⊥))))
      (key_start : (i j : ℕ) (es : List Event) → (implicit_yaml_key cs Wide handles Open inside block_key ∪ implicit_json_key cs Wide handles Open inside block_key) i j es → KeyHere i)
      (compact_apart : (l : ℕ) → Apart (from (λ i. Inside cs i) (some (λ m. given (1 ≤ m) (indent cs m ▸ inside (compact_part (l + 1 + m)))))) (Over (Less cs (l + 1)))
      (inside (block_part (l + 1) block_in)) (Over (Follow (l + 1) (l + 1))))
    where
      empty_past : (X : ℕ → Type 0) (i j m : ℕ) (es : List Event) → empty_rest cs Wide handles Open inside i j es → Over X j m → Past cs i m × X m
      empty_past X i j m es (k, (e, f), c) (d, x) = (past_of cs i j m (subst (λ y. s_l_comments cs y j) e c) d, x)

      abbrev Compacts : ℕ → Rule (List Event)
      Compacts k = some (λ m. given (1 ≤ m) (indent cs m ▸ inside (compact_part (k + 1 + m))))

      indent_to : (k : ℕ) (D : ℕ → Type 0) → To (indent cs k) D
      indent_to k D i m n r d s e = let a : m ≡ i + k = indent_place cs k i m r in let b : n ≡ i + k = indent_place cs k i n s in omega (arith, a, b)

      indents_unique : (k : ℕ) {R : Rule (List Event)} {E : End} → Unique R E → Unique (indent cs k ▸ R) E
      indents_unique k f = unique_before (λ i. Unit {0}) (indent_to k _) (λ i j m v r e. tt) f

      compacts_unique : (k : ℕ) → Unique (Compacts k) (Over (Less cs (k + 1)))
      compacts_unique k = unique_some
          (λ a b i j o m n v w (l, (p, r, s)) e (h, (q, t, u)) d.
          (column_same cs a b i p q r (compact_start _ p j v s).0.0 t (compact_start _ q o w u).0.0).0)
          (λ a. unique_given _ (λ l. indents_unique a (unique_until (λ j m (c, x). (c, less_more cs (k + 1) (k + 1 + a) m (omega arith) x)) (compact_unique (k + 1 + a)))))

      empty_unique : (c : ℕ) → Unique (empty_rest cs Wide handles Open inside) (Over (Less cs c))
      empty_unique c = unique_after (unique_gives _ (λ i m n (j, s, (a, l)) (k, t, (b, x)).
          past_same cs i m n (past_of cs i j m s a) (less_stuck cs c m l) (past_of cs i k n t b) (less_stuck cs c n x)))

      to_follow : (c m : ℕ) → Less cs c m → Follow c c m
      to_follow c m l = (l, less_dash c c m l (omega arith))

      indented_unique : (k : ℕ) → Unique (from (Inside cs) (indented cs Wide handles Open inside k)) (Over (Less cs (k + 1)))
      unfolding indented
      indented_unique k = unique_from_either (Inside cs) (unique_from (Inside cs) (compacts_unique k))
          (unique_from_either (Inside cs) (unique_from (Inside cs) (unique_until (λ j m (c, x). (c, to_follow (k + 1) m x)) (node_unique (k + 1)))) (unique_from (Inside cs) (empty_unique (k + 1)))
          (λ i j o m n v w (p, r) e (q, s) d. let (a, x) = empty_past (Less cs (k + 1)) i o n w s d in start_no_empty (k + 1) (k + 1) i n p (node_start (k + 1) i j v r) a (to_follow (k + 1) n x)))
          go
        where
          go : Apart (from (Inside cs) (Compacts k)) (Over (Less cs (k + 1))) (from (Inside cs) (inside (block_part (k + 1) block_in) ∪ empty_rest cs Wide handles Open inside)) (Over (Less cs (k + 1)))
          go i j o m n v w r e (q, inl s) d = compact_apart k i j o m n v w r e s (d.0, to_follow (k + 1) n d.1)
          go i j o m n v w (p, (a, (l, (b, c, t)))) e (q, inr s) d =
              let (y, x) = empty_past (Less cs (k + 1)) i o n w s d in
              inside_no_line cs i p (past_no_run cs i n b y (indent_run cs a i b c) (compact_start _ b j v t).0).0

      -- ---- sequences

      entry_dash : (k i j : ℕ) (es : List Event) → seq_entry cs Wide handles Open inside k i j es → DashHere cs i
      unfolding seq_entry
      entry_dash k i j es (a, (b, (h, e), (f, n)), r) = (h, subst (λ x. Stands cs is_ns x → ⊥) e n)

      dash_to : To (chr cs 45 ◆ ahead (λ i. Stands cs is_ns i → ⊥)) (λ i. Unit {0})
      dash_to i j k (a, (h, e), (f, n)) d (b, (g, x), (y, z)) u = f ∙ e ∙ sym x ∙ sym y

      dash_inside : (i j : ℕ) → (chr cs 45 ◆ ahead (λ i. Stands cs is_ns i → ⊥)) i j → Inside cs j
      dash_inside i j (a, (h, e), (f, n)) = inside_next cs i j (solid_nb cs i (45, h, ns_dash)) (f ∙ e)

      pub seq_entry_unique : (k : ℕ) → Unique (seq_entry cs Wide handles Open inside k) (Over (Less cs (k + 1)))
      unfolding seq_entry
      seq_entry_unique k = unique_within (from_before (Inside cs) (indented cs Wide handles Open inside k) dash_inside)
          (unique_before (λ i. Unit {0}) dash_to (λ i j m v r e. tt) (indented_unique k))

      -- another entry, or the end
      pub more_less : (k j m : ℕ) → More (Dash cs k) (Over (Follow (k + 1) k)) j m → Over (Less cs (k + 1)) j m
      more_less k j m (inl (e, d)) = (Spans.done (sym e), subst (Less cs (k + 1)) e (dash_less k j d))
      more_less k j m (inr (c, (l, n))) = (c, l)

      abbrev Entries : ℕ → Rule (List Event)
      Entries k = indent cs k ▸ seq_entry cs Wide handles Open inside k

      entries_start : (k : ℕ) → Starts (Entries k) (More (Dash cs k) (Over (Follow (k + 1) k))) (Dash cs k)
      entries_start k i j m v (a, r, s) e = (a, r, entry_dash k a j v s)

      dash_here : (k i m : ℕ) → Dash cs k i → Over (Follow (k + 1) k) i m → ⊥
      dash_here k i m d (c, (l, n)) = n (subst (Dash cs k) (sym (comments_none cs i m (dash_stuck k i d) c)) d)

      dash_there : (k j m : ℕ) → Dash cs k m → Over (Follow (k + 1) k) j m → ⊥
      dash_there k j m d (c, (l, n)) = n d

      pub block_seq_unique : (p : Props) (col d : ℕ) → col ≤ d + 1 → Unique (block_seq cs Wide handles Open inside p d) (Over (Follow col d))
      unfolding block_seq
      block_seq_unique p col d h = unique_given Open (λ o. unique_seen _ (unique_some same
          (λ k. unique_given _ (λ le. unique_until (λ j m (c, x). (c, follow_seq col d k m x le h))
          (unique_first (Dash cs k) (entries_start k) (unique_until (more_less k) (indents_unique k (seq_entry_unique k))) (dash_here k) (dash_there k) (ends_follow (k + 1) k)
          (unique_until (more_less k) (indents_unique k (seq_entry_unique k))))))))
        where
          same : (a b i j o m n : ℕ) (v w : List Event) → given (d ≤ a) (any_one (Entries a)) i j v → Over (Follow col d) j m → given (d ≤ b) (any_one (Entries b)) i o w → Over (Follow col d) o n → a ≡ b
          same a b i j o m n v w (l, (x, ys, zs, (y, r, s), t, t2)) e (q, (z, us, vs, (u, f, g), c, c2)) x2 =
              (column_same cs a b i y u r (dash_fresh cs y (entry_dash a y x ys s)).0.0 f (dash_fresh cs u (entry_dash b u z us g)).0.0).0

      pub compact_seq_unique : (k : ℕ) → Unique (compact_seq cs Wide handles Open inside k) (Over (Less cs k))
      unfolding compact_seq
      compact_seq_unique k = unique_given Open (λ o. unique_seen _ (unique_until (λ j m (c, x). (c, follow_less k k m x (omega arith)))
          (unique_first (Dash cs k) (entries_start k) (unique_until (more_less k) (indents_unique k (seq_entry_unique k))) (dash_here k) (dash_there k) (ends_follow (k + 1) k)
          (unique_until (more_less k) (seq_entry_unique k)))))

      -- ---- mappings

      colon_inside : (i j : ℕ) → chr cs 58 i j → Inside cs j
      colon_inside i j (h, e) = inside_next cs i j (58, h, nb_colon) e

      abbrev Keys : Rule (List Event)
      Keys = implicit_yaml_key cs Wide handles Open inside block_key ∪ implicit_json_key cs Wide handles Open inside block_key

      abbrev Values : ℕ → Rule (List Event)
      Values k = inside (block_part (k + 1) block_out) ∪ empty_rest cs Wide handles Open inside

      values_unique : (k : ℕ) → Unique (from (Inside cs) (Values k)) (Over (Follow (k + 1) k))
      values_unique k = unique_from_either (Inside cs) (unique_from (Inside cs) (value_unique k)) (unique_from (Inside cs) (unique_until (λ j m (c, x). (c, x.0)) (empty_unique (k + 1))))
          (λ i j o m n v w (p, r) e (q, s) d. let (a, x) = empty_past (Follow (k + 1) k) i o n w s d in start_no_empty (k + 1) k i n p (value_start k i j v r) a x)

      values_start : (k : ℕ) → Starts (from (Inside cs) (Values k)) (Over (Follow (k + 1) k)) (λ i. Stands cs is_ns i → ⊥)
      values_start k i j m v (p, inl r) e = start_no_ns (k + 1) k i p (value_start k i j v r)
      values_start k i j m v (p, inr r) e = past_no_ns i m p (empty_past (Follow (k + 1) k) i j m v r e).0

      map_entry_start : (k i j : ℕ) (es : List Event) → map_entry cs Wide handles Open inside k i j es → KeyHere i
      unfolding map_entry
      map_entry_start k i j es (a, us, vs, (b, r, c), s, x) = key_start i b us r

      pub map_entry_unique : (k : ℕ) → Unique (map_entry cs Wide handles Open inside k) (Over (Follow (k + 1) k))
      unfolding map_entry
      map_entry_unique k = unique_within (from_joined (Inside cs) (Values k) (λ i j v (b, r, c). colon_inside b j c))
          (unique_joined (λ i. Stands cs is_ns i → ⊥) (unique_after key_unique) (values_start k) (values_unique k))

      pub key_less : (k m : ℕ) → KeyAt k m → Follow (k + 1) k m
      key_less k m (p, r, f) = (inr (inr (k, p, omega arith, r, f.0.0)), key_dash k m (p, r, f))

      pub more_follow : (k j m : ℕ) → More (KeyAt k) (Over (Less cs k)) j m → Over (Follow (k + 1) k) j m
      more_follow k j m (inl (e, d)) = (Spans.done (sym e), subst (Follow (k + 1) k) e (key_less k j d))
      more_follow k j m (inr (c, l)) = (c, follow_less k k m l (omega arith))

      abbrev Pairs : ℕ → Rule (List Event)
      Pairs k = indent cs k ▸ map_entry cs Wide handles Open inside k

      pairs_start : (k : ℕ) → Starts (Pairs k) (More (KeyAt k) (Over (Less cs k))) (KeyAt k)
      pairs_start k i j m v (a, r, s) e = (a, r, map_entry_start k a j v s)

      key_stuck : (k m : ℕ) → KeyAt k m → Stuck cs m
      key_stuck k m (p, r, f) = stuck_line cs k m p r f.0.0

      key_here : (k i m : ℕ) → KeyAt k i → Over (Less cs k) i m → ⊥
      key_here k i m d (c, l) = less_key k k i (subst (Less cs k) (comments_none cs i m (key_stuck k i d) c) l) (omega arith) d

      key_there : (k j m : ℕ) → KeyAt k m → Over (Less cs k) j m → ⊥
      key_there k j m d (c, l) = less_key k k m l (omega arith) d

      pub block_map_unique : (p : Props) (col : ℕ) → Unique (block_map cs Wide handles Open inside p col) (Over (Less cs col))
      unfolding block_map
      block_map_unique p col = unique_given Open (λ o. unique_seen _ (unique_some same
          (λ k. unique_given _ (λ le. unique_until (λ j m (c, x). (c, less_more cs col k m le x))
          (unique_first (KeyAt k) (pairs_start k) (unique_until (more_follow k) (indents_unique k (map_entry_unique k))) (key_here k) (key_there k) (ends_less k)
          (unique_until (more_follow k) (indents_unique k (map_entry_unique k))))))))
        where
          same : (a b i j o m n : ℕ) (v w : List Event) → given (col ≤ a) (any_one (Pairs a)) i j v → Over (Less cs col) j m → given (col ≤ b) (any_one (Pairs b)) i o w → Over (Less cs col) o n → a ≡ b
          same a b i j o m n v w (l, (x, ys, zs, (y, r, s), t, t2)) e (q, (z, us, vs, (u, f, g), c, c2)) x2 =
              (column_same cs a b i y u r (map_entry_start a y x ys s).0.0.0 f (map_entry_start b u z us g).0.0.0).0

      pub compact_map_unique : (k : ℕ) → Unique (compact_map cs Wide handles Open inside k) (Over (Less cs k))
      unfolding compact_map
      compact_map_unique k = unique_given Open (λ o. unique_seen _
          (unique_first (KeyAt k) (pairs_start k) (unique_until (more_follow k) (indents_unique k (map_entry_unique k))) (key_here k) (key_there k) (ends_less k)
          (unique_until (more_follow k) (map_entry_unique k))))

      compact_seq_start : (k i j : ℕ) (es : List Event) → compact_seq cs Wide handles Open inside k i j es → DashHere cs i
      unfolding compact_seq
      compact_seq_start k i j es (o, (v, (a, us, vs, r, s, x), e)) = entry_dash k i a us r

      compact_map_start : (k i j : ℕ) (es : List Event) → compact_map cs Wide handles Open inside k i j es → KeyHere i
      unfolding compact_map
      compact_map_start k i j es (o, (v, (a, us, vs, r, s, x), e)) = map_entry_start k i a us r

      pub compact_part_unique : (k : ℕ) → Unique (compact_seq cs Wide handles Open inside k ∪ compact_map cs Wide handles Open inside k) (Over (Less cs k))
      compact_part_unique k = unique_either (compact_seq_unique k) (compact_map_unique k)
          (apart_starts (DashHere cs) KeyHere (λ i j m v r e. compact_seq_start k i j v r) (λ i j m v r e. compact_map_start k i j v r) (λ i d (f, n). n d))

      pub compact_part_start : (k i j : ℕ) (es : List Event) → (compact_seq cs Wide handles Open inside k ∪ compact_map cs Wide handles Open inside k) i j es → Fresh cs i
      compact_part_start k i j es (inl r) = dash_fresh cs i (compact_seq_start k i j es r)
      compact_part_start k i j es (inr r) = (compact_map_start k i j es r).0
