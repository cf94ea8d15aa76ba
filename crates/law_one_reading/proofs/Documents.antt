-- Documents and streams: a text has one list of events.
use Rattle.std.proofs.Common.{◌≡◌, ◌≢◌, ℕ, ◌+◌, ◌⊎◌, inl, inr, List, [], ◌∷◌, ◌++◌, length, Bool, true, false, Some, refl, sym, ◌∙◌, ap, subst, arith, append_assoc}
use Rattle.std.specs.Prelude.{slice_get}
use Rattle.yaml_definitions.specs.grammar.Rules.{Rule, ◌▸◌, ◌◂◌, ◌∪◌, ◌⨾◌, Any, done, then, Spans, any_one, any_span, optional, gives, run}
use Rattle.yaml_definitions.specs.grammar.Characters.{is_indicator, is_ns, is_nb, is_break, is_white, is_space}
use Rattle.yaml_definitions.specs.grammar.Separation.{flow_out, StartsLine, AtEnd, DocumentMarkOf, DocumentMark, s-l-comments as s_l_comments, l-comment as l_comment}
use Rattle.yaml_definitions.specs.grammar.Tags.{Handles}
use Rattle.yaml_definitions.specs.grammar.Events.{no_props, e-scalar as empty}
use Rattle.yaml_definitions.specs.model.Event.{Event}
use Rattle.yaml_definitions.specs.grammar.Streams.{Piece, document_piece, suffix_piece, stream_of_pieces, document_mark, l-bare-document as bare_document, l-explicit-document as explicit_document, l-directive-document as directive_document, bare_piece, explicit_piece, directive_piece, l-any-document as any_document, l-document-suffix as suffix, l-yaml-stream as stream, ReadsText}
use Rattle.yaml_text.specs.Lines.{Inside, AfterLine}
use Rattle.yaml_text.proofs.Runs.{same_char, run_none}
use Rattle.yaml_text.proofs.LineRuns.{end_stops, indent_place, indent_run}
use Rattle.yaml_text.proofs.RestLemmas.{from_s_b, from_l, blank_after, l_comment_same}
use Rattle.yaml_text.proofs.Classes.{ns_percent}
use Rattle.law_one_reading.proofs.Unique.{unique_seen, unique_bounded, unique_gives, unique_after, unique_before, unique_taking, unique_within, unique_from, unique_from_either, from_before}
use Rattle.law_one_reading.specs.Readings.{End, Unique}
use Rattle.law_one_reading.proofs.Lines.{blank_at_end, run_solid, past_of, past_same, comments_none, stuck_run, stuck_end, stuck_mark, less_stuck, end_no_run, dash_fresh, solid_nb, lines_on, ns_dash}
use Rattle.law_one_reading.specs.Follows.{Solid, Fresh, Comments, Stuck, Less, Dash, Past, Way, Over, Follow}
use Rattle.law_one_reading.proofs.BlockEntries.{NodeStart, start_no_empty}
use Rattle.yaml_scalar.specs.Chains.{plain_head, plain_sign}
use Rattle.yaml_scalar.proofs.PlainLemmas.{no_first_head}
use Rattle.yaml_text.proofs.Breaks.{mark_ns}
use Rattle.yaml_definitions.specs.grammar.Reading.{Reads}
use Rattle.yaml_definitions.specs.model.Means.{StandsFor}
use Rattle.yaml_definitions.proofs.MeansLaws.{stands_one}
use Rattle.law_one_reading.specs.Laws.{OneReading, OneMeaning}
use Rattle.yaml_definitions.specs.model.Limits.{open_limit}
use Rattle.yaml_definitions.proofs.grammar.OneText.{one-text}
use Rattle.law_one_reading.proofs.FlowNodes.{sign_not, kind}
use Rattle.law_one_reading.proofs.BlockNodes.{Begin}
use Rattle.law_one_reading.proofs.BlockLevels.{reads_whole, reads_blocks}
use Rattle.law_one_reading.proofs.Directives.{Percent, directives_unique, directives_start, percent_stuck}

pub ns_dot : is_ns 46 ≡ true
unfolding is_ns is_nb is_break is_white
ns_dot = refl

kind_percent : kind 37 ≡ 0
unfolding kind
kind_percent = refl

sign_percent : plain_sign 37 ≡ false
unfolding plain_sign
sign_percent = refl

head_percent : plain_head 37 ≡ false
unfolding plain_head is_ns is_nb is_break is_white is_indicator
head_percent = refl

module _ (cs : List ℕ) (Wide : Type 0) (room : ℕ) where
  abbrev pub E0 : End
  E0 = Over cs (Follow cs 0 0)

  -- ---- lines

  pub after_comments : {j i : ℕ} → Comments cs i j → AfterLine cs i → AfterLine cs j
  after_comments (Spans.done e) a = subst (AfterLine cs) (sym e) a
  after_comments (Spans.then k r more) a = after_comments more (blank_after cs _ k (from_l cs _ k r))

  after_lines : (i j : ℕ) → s_l_comments cs i j → AfterLine cs j
  unfolding s_l_comments
  after_lines i j (a, inl b, c) = after_comments c (blank_after cs i a (from_s_b cs i a b))
  after_lines i j (a, inr (e, s), c) = after_comments c (inl (subst (StartsLine cs) (sym e) s))

  pub mark_inside : (c i j : ℕ) → is_ns c ≡ true → document_mark cs Wide room c i j → (j ≡ i + 3) × Inside cs j × DocumentMarkOf cs c i
  unfolding document_mark
  mark_inside c i j t (k, (e, m), (x, (a, b), (y, (d, f), (z, (g, h), u)))) =
      (omega (arith, e, b, f, h, u), (y, u ∙ h, solid_nb cs y (c, g, t)), m)

  -- ---- a document after `---`

  pub no_dash : (m : ℕ) → AtEnd cs m ⊎ DocumentMark cs m → Dash cs 0 m → ⊥
  no_dash m (inl e) (p, r, d) = end_no_run cs m p e (indent_run cs 0 m p r) (dash_fresh cs p d).0.0
  no_dash m (inr e) (p, r, d) =
      let f : p ≡ m + 0 = indent_place cs 0 m p r in
      let g : m ≡ p = omega (arith, f) in
      (dash_fresh cs p d).1 (subst (DocumentMark cs) g e)

  pub no_less : (m : ℕ) → AtEnd cs m ⊎ DocumentMark cs m → Less cs 0 m
  no_less m (inl e) = inl e
  no_less m (inr e) = inr (inl e)

  follow_end : (m : ℕ) → AtEnd cs m ⊎ DocumentMark cs m → Follow cs 0 0 m
  follow_end m h = (no_less m h, no_dash m h)

  empty_unique : Unique (gives (empty no_props) ◂ s_l_comments cs) E0
  empty_unique = unique_after (unique_gives _ (λ i m n (j, s, (a, l)) (k, t, (b, x)).
      past_same cs i m n (past_of cs i j m s a) (less_stuck cs 0 m l.0) (past_of cs i k n t b) (less_stuck cs 0 n x.0)))

  bare_unique : (handles : Handles) → Unique (bare_document cs Wide room handles) E0
  unfolding bare_document
  bare_unique handles = unique_bounded _ ((reads_blocks cs Wide handles room).node 0)

  bare_start : (handles : Handles) (i j : ℕ) (v : List Event) → bare_document cs Wide room handles i j v → NodeStart cs 0 0 i
  unfolding bare_document
  bare_start handles i j v (u, r) = (reads_blocks cs Wide handles room).node_start 0 i j v r

  explicit_unique : (handles : Handles) → Unique (explicit_document cs Wide room handles) E0
  unfolding explicit_document
  explicit_unique handles = unique_within (from_before (Inside cs) (bare_document cs Wide room handles ∪ (gives (empty no_props) ◂ s_l_comments cs)) (λ i j r. (mark_inside 45 i j ns_dash r).1))
      (unique_before (λ i. Unit {0}) (λ i j k r x s y. (mark_inside 45 i j ns_dash r).0 ∙ sym (mark_inside 45 i k ns_dash s).0) (λ i j m v r e. tt)
      (unique_from_either (Inside cs) (unique_from (Inside cs) (bare_unique handles)) (unique_from (Inside cs) empty_unique)
      (λ i j k m o v w (p, r) e (q, (x, (a, b), s)) (c, f).
      start_no_empty cs 0 0 i o p (bare_start handles i j v r) (past_of cs i k o (subst (λ z. s_l_comments cs z k) a s) c) f)))

  -- ---- what is left of a stream: fresh says that a bare document may come

  pub data Tail : Bool → ℕ → List Piece → Type 0 where
    over : {fresh : Bool} {i : ℕ} {xs : List Piece} → AtEnd cs i → xs ≡ [] → Tail fresh i xs
    skip : {fresh : Bool} {i : ℕ} {xs : List Piece} → (k : ℕ) → l_comment cs i k → Tail fresh k xs → Tail fresh i xs
    dots : {fresh : Bool} {i : ℕ} {xs : List Piece} → (k : ℕ) (us vs : List Piece) → suffix cs Wide room i k us → Tail true k vs → xs ≡ us ++ vs → Tail fresh i xs
    shown : {fresh : Bool} {i : ℕ} {xs : List Piece} → (k : ℕ) (us vs : List Piece) → explicit_piece cs Wide room i k us → Tail false k vs → xs ≡ us ++ vs → Tail fresh i xs
    bare : {fresh : Bool} {i : ℕ} {xs : List Piece} → (k : ℕ) (us vs : List Piece) → fresh ≡ true → AfterLine cs i → bare_piece cs Wide room i k us → Tail false k vs → xs ≡ us ++ vs → Tail fresh i xs
    directed : {fresh : Bool} {i : ℕ} {xs : List Piece} → (k : ℕ) (us vs : List Piece) → fresh ≡ true → directive_piece cs Wide room i k us → Tail false k vs → xs ≡ us ++ vs → Tail fresh i xs

  -- ---- a stream is such

  abbrev Chunk : Rule (List Piece)
  Chunk = (any_one (suffix cs Wide room) ⨾ (any_span (l_comment cs) ▸ optional (any_document cs Wide room))) ∪ explicit_piece cs Wide room ∪ (l_comment cs ▸ gives [])

  eased_tail : (i : ℕ) (xs : List Piece) → Tail false i xs → Tail true i xs
  eased_tail i xs (over e f) = over e f
  eased_tail i xs (skip k l t) = skip k l (eased_tail k xs t)
  eased_tail i xs (dots k us vs s t e) = dots k us vs s t e
  eased_tail i xs (shown k us vs s t e) = shown k us vs s t e
  eased_tail i xs (bare k us vs f a s t e) = absurd (let z : false ≡ true = f in cc)
  eased_tail i xs (directed k us vs f s t e) = absurd (let z : false ≡ true = f in cc)

  skips : {k i : ℕ} (b : Bool) (xs : List Piece) → Comments cs i k → Tail b k xs → Tail b i xs
  skips b xs (Spans.done e) t = subst (λ z. Tail b z xs) e t
  skips b xs (Spans.then o r more) t = skip o r (skips b xs more t)

  document_tail : (i k : ℕ) (us vs : List Piece) → AfterLine cs i → optional (any_document cs Wide room) i k us → Tail false k vs → Tail true i (us ++ vs)
  unfolding any_document
  document_tail i k us vs a (inl (e, f)) t = subst (λ z. Tail true i (z ++ vs)) (sym f) (eased_tail i vs (subst (λ z. Tail false z vs) e t))
  document_tail i k us vs a (inr (inl r)) t = bare k us vs refl a r t refl
  document_tail i k us vs a (inr (inr (inl r))) t = shown k us vs r t refl
  document_tail i k us vs a (inr (inr (inr r))) t = directed k us vs refl r t refl

  optional_tail : (i k : ℕ) (us vs : List Piece) → AfterLine cs i → (any_span (l_comment cs) ▸ optional (any_document cs Wide room)) i k us → Tail false k vs → Tail true i (us ++ vs)
  optional_tail i k us vs a (p, c, d) t = skips true (us ++ vs) c (document_tail p k us vs (after_comments c a) d t)

  suffix_after : (i j : ℕ) (us : List Piece) → suffix cs Wide room i j us → AfterLine cs j
  unfolding suffix
  suffix_after i j us (k, r, (l, e, s)) = after_lines l j s

  suffixes_tail : {k i : ℕ} {us : List Piece} → Any (suffix cs Wide room) k i us → AfterLine cs i → (j : ℕ) (ws vs : List Piece) →
      (any_span (l_comment cs) ▸ optional (any_document cs Wide room)) k j ws → Tail false j vs → Tail true i (us ++ (ws ++ vs))
  suffixes_tail {k} {i} {us} (done e f) a j ws vs d t =
      subst (λ z. Tail true i (z ++ (ws ++ vs))) (sym f) (subst (λ z. Tail true z (ws ++ vs)) e (optional_tail k j ws vs (subst (AfterLine cs) (sym e) a) d t))
  suffixes_tail {k} {i} {us} (then o as1 bs r more e) a j ws vs d t =
      dots o as1 (bs ++ (ws ++ vs)) r (suffixes_tail more (suffix_after i o as1 r) j ws vs d t) (ap (λ z. z ++ (ws ++ vs)) e ∙ append_assoc as1 bs (ws ++ vs))

  chain_tail : {l i : ℕ} {xs : List Piece} → Any Chunk l i xs → AtEnd cs l → Tail false i xs
  chain_tail {l} {i} (done e f) h = over (subst (AtEnd cs) e h) f
  chain_tail {l} {i} {xs} (then k us vs (inr (inl r)) more e) h = shown k us vs r (chain_tail more h) e
  chain_tail {l} {i} {xs} (then k us vs (inr (inr (m, c, (a, b)))) more e) h =
      skip m c (subst (λ z. Tail false z xs) a (subst (λ z. Tail false k z) (sym (e ∙ ap (λ z. z ++ vs) b)) (chain_tail more h)))
  chain_tail {l} {i} {xs} (then k us vs (inl (m, as1, bs, (o, cs1, ds, r, rest, g), d, f)) more e) h =
      dots o cs1 (ds ++ (bs ++ vs)) r (suffixes_tail rest (suffix_after i o cs1 r) k bs vs d (chain_tail more h))
      (e ∙ ap (λ z. z ++ vs) f ∙ append_assoc as1 bs vs ∙ ap (λ z. z ++ (bs ++ vs)) g ∙ append_assoc cs1 ds (bs ++ vs))

  pub stream_tail : (l : ℕ) (xs : List Piece) → stream cs Wide room 0 l xs → AtEnd cs l → Tail true 0 xs
  unfolding stream StartsLine
  stream_tail l xs (k, us, vs, d, more, e) h = subst (Tail true 0) (sym e) (optional_tail 0 k us vs (inl (inl refl)) d (chain_tail more h))

  -- ---- where it goes on

  pub suffix_mark : (i k : ℕ) (us : List Piece) → suffix cs Wide room i k us → DocumentMarkOf cs 46 i
  unfolding suffix
  suffix_mark i k us (a, r, s) = (mark_inside 46 i a ns_dot r).2

  pub suffix_past : (i k m : ℕ) (us : List Piece) → suffix cs Wide room i k us → Comments cs k m → Past cs (i + 3) m × (us ≡ suffix_piece ∷ [])
  unfolding suffix
  suffix_past i k m us (a, r, (b, (e, f), s)) c =
      (past_of cs (i + 3) k m (subst (λ z. s_l_comments cs z k) (e ∙ (mark_inside 46 i a ns_dot r).0) s) c, f)

  pub explicit_mark : (handles : Handles) (i k : ℕ) (us : List Event) → explicit_document cs Wide room handles i k us → DocumentMarkOf cs 45 i
  unfolding explicit_document
  explicit_mark handles i k us (a, r, s) = (mark_inside 45 i a ns_dash r).2

  pub shown_mark : (i k : ℕ) (us : List Piece) → explicit_piece cs Wide room i k us → DocumentMarkOf cs 45 i
  shown_mark i k us (es, r, e) = explicit_mark [] i k es r

  pub dots_mark_is : (i : ℕ) → DocumentMarkOf cs 46 i → DocumentMark cs i
  unfolding DocumentMark
  dots_mark_is i h = inr h

  pub dashes_mark_is : (i : ℕ) → DocumentMarkOf cs 45 i → DocumentMark cs i
  unfolding DocumentMark
  dashes_mark_is i h = inl h

  pub dots_stuck : (i : ℕ) → DocumentMarkOf cs 46 i → Stuck cs i
  dots_stuck i h = stuck_mark cs i (dots_mark_is i h)

  pub dashes_stuck : (i : ℕ) → DocumentMarkOf cs 45 i → Stuck cs i
  dashes_stuck i h = stuck_mark cs i (dashes_mark_is i h)

  pub directive_percent : (i k : ℕ) (us : List Piece) → directive_piece cs Wide room i k us → Percent cs i
  unfolding directive_document
  directive_percent i k us (es, (a, h, r, s), e) = directives_start cs i a h r

  pub bare_begin : (i k : ℕ) (us : List Piece) → bare_piece cs Wide room i k us → (q : ℕ) × Way cs i q × Fresh cs q × Begin cs q
  unfolding bare_document
  bare_begin i k us (es, (u, r), e) = (reads_whole cs Wide [] room).begin i k es r

  pub lands_false : (k : ℕ) (xs : List Piece) → Tail false k xs → (m : ℕ) × Comments cs k m × Follow cs 0 0 m
  lands_false k xs (over e f) = (k, Spans.done refl, follow_end k (inl e))
  lands_false k xs (skip o r t) = let (m, c, f) = lands_false o xs t in (m, Spans.then o r c, f)
  lands_false k xs (dots o us vs r t e) = (k, Spans.done refl, follow_end k (inr (dots_mark_is k (suffix_mark k o us r))))
  lands_false k xs (shown o us vs r t e) = (k, Spans.done refl, follow_end k (inr (dashes_mark_is k (shown_mark k o us r))))
  lands_false k xs (bare o us vs f a r t e) = absurd (let z : false ≡ true = f in cc)
  lands_false k xs (directed o us vs f r t e) = absurd (let z : false ≡ true = f in cc)

  -- a line's start lands at its content
  way_lands : (k q : ℕ) → AfterLine cs k → Way cs k q → (m : ℕ) × Comments cs k m × Stuck cs m
  way_lands k q a (inl (r, s)) = (k, Spans.done refl, stuck_run cs k q r s)
  way_lands k q (inl st) (inr (p, inl (x, b, c), r, s)) = (p, lines_on cs k x p st b c, stuck_run cs p q r s)
  way_lands k q (inr e) (inr (p, h, r, s)) = (k, Spans.done refl, stuck_end cs k e)
  way_lands k q (inl st) (inr (p, inr (b, c), r, s)) = (p, c, stuck_run cs p q r s)

  pub lands : (b : Bool) (k : ℕ) (xs : List Piece) → Tail b k xs → (m : ℕ) × Comments cs k m × Stuck cs m
  lands b k xs (over e f) = (k, Spans.done refl, stuck_end cs k e)
  lands b k xs (skip o r t) = let (m, c, s) = lands b o xs t in (m, Spans.then o r c, s)
  lands b k xs (dots o us vs r t e) = (k, Spans.done refl, dots_stuck k (suffix_mark k o us r))
  lands b k xs (shown o us vs r t e) = (k, Spans.done refl, dashes_stuck k (shown_mark k o us r))
  lands b k xs (bare o us vs f a r t e) = let (q, w, g, h) = bare_begin k o us r in way_lands k q a w
  lands b k xs (directed o us vs f r t e) = (k, Spans.done refl, percent_stuck cs k (directive_percent k o us r).0)

  -- ---- seen from where it lands

  pub data View (fresh : Bool) (i m : ℕ) (xs : List Piece) : Type 0 where
    v_over : AtEnd cs m → xs ≡ [] → View fresh i m xs
    v_dots : (k : ℕ) (us vs : List Piece) → suffix cs Wide room m k us → Tail true k vs → xs ≡ us ++ vs → View fresh i m xs
    v_shown : (k : ℕ) (us vs : List Piece) → explicit_piece cs Wide room m k us → Tail false k vs → xs ≡ us ++ vs → View fresh i m xs
    v_bare : (h k : ℕ) (us vs : List Piece) → AfterLine cs h → Comments cs h m → bare_piece cs Wide room h k us → Tail false k vs → xs ≡ us ++ vs → View fresh i m xs
    v_directed : (k : ℕ) (us vs : List Piece) → directive_piece cs Wide room m k us → Tail false k vs → xs ≡ us ++ vs → View fresh i m xs

  on_l : (i m k : ℕ) → Comments cs i m → Stuck cs m → l_comment cs i k → Comments cs k m
  on_l i m k (Spans.done e) s r = absurd (s k (subst (λ z. l_comment cs z k) (sym e) r))
  on_l i m k (Spans.then o q more) s r = subst (λ z. Comments cs z m) (l_comment_same cs i o k q r) more

  pub view : (b : Bool) (i m : ℕ) (xs : List Piece) → Tail b i xs → Comments cs i m → Stuck cs m → View b i m xs
  view b i m xs (over e f) c s = v_over (subst (AtEnd cs) (sym (comments_none cs i m (stuck_end cs i e) c)) e) f
  view b i m xs (skip k r t) c s = again (view b k m xs t (on_l i m k c s r) s)
    where
      again : View b k m xs → View b i m xs
      again (v_over e f) = v_over e f
      again (v_dots k us vs r t e) = v_dots k us vs r t e
      again (v_shown k us vs r t e) = v_shown k us vs r t e
      again (v_bare h k us vs a d r t e) = v_bare h k us vs a d r t e
      again (v_directed k us vs r t e) = v_directed k us vs r t e
  view b i m xs (dots k us vs r t e) c s =
      v_dots k us vs (subst (λ z. suffix cs Wide room z k us) (sym (comments_none cs i m (dots_stuck i (suffix_mark i k us r)) c)) r) t e
  view b i m xs (shown k us vs r t e) c s =
      v_shown k us vs (subst (λ z. explicit_piece cs Wide room z k us) (sym (comments_none cs i m (dashes_stuck i (shown_mark i k us r)) c)) r) t e
  view b i m xs (bare k us vs f a r t e) c s = v_bare i k us vs a c r t e
  view b i m xs (directed k us vs f r t e) c s =
      v_directed k us vs (subst (λ z. directive_piece cs Wide room z k us) (sym (comments_none cs i m (percent_stuck cs i (directive_percent i k us r).0) c)) r) t e

  -- ---- what stands where it lands is one of them

  pub marks_apart : (i : ℕ) → DocumentMarkOf cs 45 i → DocumentMarkOf cs 46 i → ⊥
  unfolding DocumentMarkOf
  marks_apart i (s, (j, (k, (h, e), r)), t) (s2, (j2, (k2, (h2, e2), r2)), t2) = let z : 45 ≡ 46 = same_char cs i 45 46 h h2 in omega (arith, z)

  pub mark_end : (c i : ℕ) → DocumentMarkOf cs c i → AtEnd cs i → ⊥
  unfolding DocumentMarkOf
  mark_end c i (s, (j, (k, (h, e), r)), t) f = end_stops cs (λ u. true) i f (c, h, refl)

  pub mark_percent : (c i : ℕ) → c ≢ 37 → DocumentMarkOf cs c i → Percent cs i → ⊥
  unfolding DocumentMarkOf
  mark_percent c i n (s, (j, (k, (h, e), r)), t) (g, u) = n (same_char cs i c 37 h g)

  pub percent_end : (i : ℕ) → Percent cs i → AtEnd cs i → ⊥
  percent_end i (h, s) e = end_stops cs (λ u. true) i e (37, h, refl)

  end_past : (h p q : ℕ) → AtEnd cs h → Past cs h p → run cs is_space p q → Solid cs q → ⊥
  end_past h p q e (inl (a, b, c)) r f =
      let x : a ≡ h = blank_at_end cs h e a (from_s_b cs h a b) in
      let y : p ≡ a = comments_none cs a p (stuck_end cs a (subst (AtEnd cs) (sym x) e)) c in
      end_no_run cs p q (subst (AtEnd cs) (sym (y ∙ x)) e) r f.0
  end_past h p q e (inr (st, c)) r f = let y : p ≡ h = comments_none cs h p (stuck_end cs h e) c in end_no_run cs p q (subst (AtEnd cs) (sym y) e) r f.0

  -- a bare document's first content is not before where it lands
  way_from : (h m q : ℕ) → AfterLine cs h → Comments cs h m → Stuck cs m → Way cs h q → (run cs is_space m q × Solid cs q)
  way_from h m q a c s (inl (r, f)) = let e : m ≡ h = comments_none cs h m (stuck_run cs h q r f) c in (subst (λ z. run cs is_space z q) (sym e) r, f)
  way_from h m q (inr e) c s (inr (p, b, r, f)) = absurd (end_past h p q e b r f)
  way_from h m q (inl st) c s (inr (p, b, r, f)) =
      let e : p ≡ m = past_same cs h p m b (stuck_run cs p q r f) (inr (st, c)) s in (subst (λ z. run cs is_space z q) e r, f)

  -- where a bare document's content is seen from where it lands
  bare_from : (h m k : ℕ) (us : List Piece) → AfterLine cs h → Comments cs h m → Stuck cs m → bare_piece cs Wide room h k us → (q : ℕ) × run cs is_space m q × Fresh cs q × Begin cs q
  bare_from h m k us a c s r = let (q, w, f, b) = bare_begin h k us r in (q, (way_from h m q a c s w).0, f, b)

  pub bare_no_mark : (h m k : ℕ) (us : List Piece) → AfterLine cs h → Comments cs h m → Stuck cs m → bare_piece cs Wide room h k us → DocumentMark cs m → ⊥
  bare_no_mark h m k us a c s r mark =
      let (q, w, f, b) = bare_from h m k us a c s r in
      f.1 (subst (DocumentMark cs) (run_solid cs m m q (run_none cs is_space m) (mark_ns cs m mark) w f.0.0) mark)

  pub bare_no_end : (h m k : ℕ) (us : List Piece) → AfterLine cs h → Comments cs h m → Stuck cs m → bare_piece cs Wide room h k us → AtEnd cs m → ⊥
  bare_no_end h m k us a c s r e = let (q, w, f, b) = bare_from h m k us a c s r in end_no_run cs m q e w f.0.0

  pub bare_no_percent : (h m k : ℕ) (us : List Piece) → AfterLine cs h → Comments cs h m → Stuck cs m → bare_piece cs Wide room h k us → Percent cs m → ⊥
  bare_no_percent h m k us a c s r (p, st) = go (bare_from h m k us a c s r)
    where
      begin : (q : ℕ) → slice_get cs q ≡ Some 37 → Begin cs q → ⊥
      begin q g (inl (k, (x, l, n))) = sign_not k x 37 n (same_char cs q x 37 l g) kind_percent
      begin q g (inr (inl f)) = no_first_head cs flow_out q 37 g sign_percent head_percent f
      begin q g (inr (inr (l, n))) = let z : 45 ≡ 37 = same_char cs q 45 37 l g in omega (arith, z)

      go : (q : ℕ) × run cs is_space m q × Fresh cs q × Begin cs q → ⊥
      go (q, w, f, b) = begin q (subst (λ z. slice_get cs z ≡ Some 37) (run_solid cs m m q (run_none cs is_space m) (37, p, ns_percent) w f.0.0) p) b

  pub line_of : (m : ℕ) → AfterLine cs m → (AtEnd cs m → ⊥) → StartsLine cs m
  line_of m (inl s) n = s
  line_of m (inr e) n = absurd (n e)

  bare_same : (h g m j k n o : ℕ) (us ws : List Piece) → AfterLine cs h → AfterLine cs g → Comments cs h m → Comments cs g m → Stuck cs m →
      bare_piece cs Wide room h j us → E0 j n → bare_piece cs Wide room g k ws → E0 k o → (n ≡ o) × (us ≡ ws)
  unfolding bare_document
  bare_same h g m j k n o us ws a b c d s (es, (u, r), e) x (fs, (v, t), f) y =
      let p = (reads_whole cs Wide [] room).again h g m j k n o es fs
      (line_of h a (λ z. bare_no_end h h j us a (Spans.done refl) (stuck_end cs h z) (es, (u, r), e) z)) (line_of g b (λ z. bare_no_end g g k ws b (Spans.done refl) (stuck_end cs g z) (fs, (v, t), f) z))
      (line_of m (after_comments c a) (λ z. bare_no_end h m j us a c s (es, (u, r), e) z)) c d s r x t y in
      (p.0, e ∙ ap (λ z. document_piece false z ∷ []) p.1 ∙ sym f)

  shown_unique : Unique (explicit_piece cs Wide room) E0
  shown_unique = unique_seen _ (explicit_unique [])

  directed_unique : Unique (directive_piece cs Wide room) E0
  unfolding directive_document
  directed_unique = unique_seen _ (unique_taking (DocumentMarkOf cs 45) (directives_unique cs) (λ handles i j m v r e. explicit_mark handles i j v r) explicit_unique)

  -- ---- one list of pieces

  abbrev Rec : Bool → ℕ → List Piece → Type 0
  Rec b k vs = (k2 : ℕ) (vs2 : List Piece) → Tail b k2 vs2 → (m2 : ℕ) → Comments cs k m2 → Comments cs k2 m2 → Stuck cs m2 → vs ≡ vs2

  joined : (us us2 vs vs2 xs ys : List Piece) → xs ≡ us ++ vs → ys ≡ us2 ++ vs2 → us ≡ us2 → vs ≡ vs2 → xs ≡ ys
  joined us us2 vs vs2 xs ys e f g h = e ∙ ap (λ z. z ++ vs) g ∙ ap (λ z. us2 ++ z) h ∙ sym f

  after_over : (b : Bool) (h m : ℕ) (xs ys : List Piece) → Stuck cs m → AtEnd cs m → xs ≡ [] → View b h m ys → xs ≡ ys
  after_over b h m xs ys s e f (v_over g l) = f ∙ sym l
  after_over b h m xs ys s e f (v_dots k us vs r t g) = absurd (mark_end 46 m (suffix_mark m k us r) e)
  after_over b h m xs ys s e f (v_shown k us vs r t g) = absurd (mark_end 45 m (shown_mark m k us r) e)
  after_over b h m xs ys s e f (v_bare l k us vs a c r t g) = absurd (bare_no_end l m k us a c s r e)
  after_over b h m xs ys s e f (v_directed k us vs r t g) = absurd (percent_end m (directive_percent m k us r) e)

  after_dots : (b : Bool) (h m k : ℕ) (xs ys us vs : List Piece) → Stuck cs m → suffix cs Wide room m k us → Tail true k vs → xs ≡ us ++ vs → Rec true k vs → View b h m ys → xs ≡ ys
  after_dots b h m k xs ys us vs s r t e rec (v_over g l) = absurd (mark_end 46 m (suffix_mark m k us r) g)
  after_dots b h m k xs ys us vs s r t e rec (v_dots k2 us2 vs2 r2 t2 e2) =
      let (n, c, x) = lands true k vs t in
      let (o, d, y) = lands true k2 vs2 t2 in
      let (p, f) = suffix_past m k n us r c in
      let (q, g) = suffix_past m k2 o us2 r2 d in
      joined us us2 vs vs2 xs ys e e2 (f ∙ sym g) (rec k2 vs2 t2 n c (subst (λ z. Comments cs k2 z) (sym (past_same cs (m + 3) n o p x q y)) d) x)
  after_dots b h m k xs ys us vs s r t e rec (v_shown k2 us2 vs2 r2 t2 e2) = absurd (marks_apart m (shown_mark m k2 us2 r2) (suffix_mark m k us r))
  after_dots b h m k xs ys us vs s r t e rec (v_bare l k2 us2 vs2 a c r2 t2 e2) = absurd (bare_no_mark l m k2 us2 a c s r2 (dots_mark_is m (suffix_mark m k us r)))
  after_dots b h m k xs ys us vs s r t e rec (v_directed k2 us2 vs2 r2 t2 e2) = absurd (mark_percent 46 m (λ z. omega (arith, z)) (suffix_mark m k us r) (directive_percent m k2 us2 r2))

  -- after a document, where both go on
  on_both : (k k2 : ℕ) (xs ys us us2 vs vs2 : List Piece) (t : Tail false k vs) (t2 : Tail false k2 vs2) → xs ≡ us ++ vs → ys ≡ us2 ++ vs2 → Rec false k vs →
      (((n o : ℕ) → E0 k n → E0 k2 o → (n ≡ o) × (us ≡ us2))) → xs ≡ ys
  on_both k k2 xs ys us us2 vs vs2 t t2 e e2 rec one =
      let (n, c, x) = lands_false k vs t in
      let (o, d, y) = lands_false k2 vs2 t2 in
      let p = one n o (c, x) (d, y) in
      joined us us2 vs vs2 xs ys e e2 p.1 (rec k2 vs2 t2 n c (subst (λ z. Comments cs k2 z) (sym p.0) d) (less_stuck cs 0 n x.0))

  after_shown : (b : Bool) (h m k : ℕ) (xs ys us vs : List Piece) → Stuck cs m → explicit_piece cs Wide room m k us → Tail false k vs → xs ≡ us ++ vs → Rec false k vs → View b h m ys → xs ≡ ys
  after_shown b h m k xs ys us vs s r t e rec (v_over g l) = absurd (mark_end 45 m (shown_mark m k us r) g)
  after_shown b h m k xs ys us vs s r t e rec (v_dots k2 us2 vs2 r2 t2 e2) = absurd (marks_apart m (shown_mark m k us r) (suffix_mark m k2 us2 r2))
  after_shown b h m k xs ys us vs s r t e rec (v_shown k2 us2 vs2 r2 t2 e2) = on_both k k2 xs ys us us2 vs vs2 t t2 e e2 rec (λ n o x y. shown_unique m k k2 n o us us2 r x r2 y)
  after_shown b h m k xs ys us vs s r t e rec (v_bare l k2 us2 vs2 a c r2 t2 e2) = absurd (bare_no_mark l m k2 us2 a c s r2 (dashes_mark_is m (shown_mark m k us r)))
  after_shown b h m k xs ys us vs s r t e rec (v_directed k2 us2 vs2 r2 t2 e2) = absurd (mark_percent 45 m (λ z. omega (arith, z)) (shown_mark m k us r) (directive_percent m k2 us2 r2))

  after_directed : (b : Bool) (h m k : ℕ) (xs ys us vs : List Piece) → Stuck cs m → directive_piece cs Wide room m k us → Tail false k vs → xs ≡ us ++ vs → Rec false k vs → View b h m ys → xs ≡ ys
  after_directed b h m k xs ys us vs s r t e rec (v_over g l) = absurd (percent_end m (directive_percent m k us r) g)
  after_directed b h m k xs ys us vs s r t e rec (v_dots k2 us2 vs2 r2 t2 e2) = absurd (mark_percent 46 m (λ z. omega (arith, z)) (suffix_mark m k2 us2 r2) (directive_percent m k us r))
  after_directed b h m k xs ys us vs s r t e rec (v_shown k2 us2 vs2 r2 t2 e2) = absurd (mark_percent 45 m (λ z. omega (arith, z)) (shown_mark m k2 us2 r2) (directive_percent m k us r))
  after_directed b h m k xs ys us vs s r t e rec (v_bare l k2 us2 vs2 a c r2 t2 e2) = absurd (bare_no_percent l m k2 us2 a c s r2 (directive_percent m k us r))
  after_directed b h m k xs ys us vs s r t e rec (v_directed k2 us2 vs2 r2 t2 e2) = on_both k k2 xs ys us us2 vs vs2 t t2 e e2 rec (λ n o x y. directed_unique m k k2 n o us us2 r x r2 y)

  after_bare : (b : Bool) (i h m k : ℕ) (xs ys us vs : List Piece) → Stuck cs m → AfterLine cs i → Comments cs i m → bare_piece cs Wide room i k us → Tail false k vs → xs ≡ us ++ vs → Rec false k vs → View b h m ys → xs ≡ ys
  after_bare b i h m k xs ys us vs s a c r t e rec (v_over g l) = absurd (bare_no_end i m k us a c s r g)
  after_bare b i h m k xs ys us vs s a c r t e rec (v_dots k2 us2 vs2 r2 t2 e2) = absurd (bare_no_mark i m k us a c s r (dots_mark_is m (suffix_mark m k2 us2 r2)))
  after_bare b i h m k xs ys us vs s a c r t e rec (v_shown k2 us2 vs2 r2 t2 e2) = absurd (bare_no_mark i m k us a c s r (dashes_mark_is m (shown_mark m k2 us2 r2)))
  after_bare b i h m k xs ys us vs s a c r t e rec (v_bare l k2 us2 vs2 a2 c2 r2 t2 e2) = on_both k k2 xs ys us us2 vs vs2 t t2 e e2 rec (λ n o x y. bare_same i l m k k2 n o us us2 a a2 c c2 s r x r2 y)
  after_bare b i h m k xs ys us vs s a c r t e rec (v_directed k2 us2 vs2 r2 t2 e2) = absurd (bare_no_percent i m k us a c s r (directive_percent m k2 us2 r2))

  tail_same : (b : Bool) (i h m : ℕ) (xs ys : List Piece) → Tail b i xs → Tail b h ys → Comments cs i m → Comments cs h m → Stuck cs m → xs ≡ ys
  tail_same b i h m xs ys (over e f) u c d s = after_over b h m xs ys s (subst (AtEnd cs) (sym (comments_none cs i m (stuck_end cs i e) c)) e) f (view b h m ys u d s)
  tail_same b i h m xs ys (skip k r t) u c d s = tail_same b k h m xs ys t u (on_l i m k c s r) d s
  tail_same b i h m xs ys (dots k us vs r t e) u c d s =
      after_dots b h m k xs ys us vs s (subst (λ z. suffix cs Wide room z k us) (sym (comments_none cs i m (dots_stuck i (suffix_mark i k us r)) c)) r) t e
      (λ k2 vs2 t2 m2 c2 d2 s2. tail_same true k k2 m2 vs vs2 t t2 c2 d2 s2) (view b h m ys u d s)
  tail_same b i h m xs ys (shown k us vs r t e) u c d s =
      after_shown b h m k xs ys us vs s (subst (λ z. explicit_piece cs Wide room z k us) (sym (comments_none cs i m (dashes_stuck i (shown_mark i k us r)) c)) r) t e
      (λ k2 vs2 t2 m2 c2 d2 s2. tail_same false k k2 m2 vs vs2 t t2 c2 d2 s2) (view b h m ys u d s)
  tail_same b i h m xs ys (bare k us vs f a r t e) u c d s =
      after_bare b i h m k xs ys us vs s a c r t e (λ k2 vs2 t2 m2 c2 d2 s2. tail_same false k k2 m2 vs vs2 t t2 c2 d2 s2) (view b h m ys u d s)
  tail_same b i h m xs ys (directed k us vs f r t e) u c d s =
      after_directed b h m k xs ys us vs s (subst (λ z. directive_piece cs Wide room z k us) (sym (comments_none cs i m (percent_stuck cs i (directive_percent i k us r).0) c)) r) t e
      (λ k2 vs2 t2 m2 c2 d2 s2. tail_same false k k2 m2 vs vs2 t t2 c2 d2 s2) (view b h m ys u d s)

  -- a text has one list of pieces, and of events
  pub stream_same : (xs ys : List Piece) → stream cs Wide room 0 (length cs) xs → stream cs Wide room 0 (length cs) ys → xs ≡ ys
  stream_same xs ys r s =
      let t = stream_tail (length cs) xs r refl in
      let u = stream_tail (length cs) ys s refl in
      let (m, c, x) = lands true 0 xs t in
      tail_same true 0 0 m xs ys t u c c x

  pub text_same : (es fs : List Event) → ReadsText cs Wide room es → ReadsText cs Wide room fs → es ≡ fs
  unfolding ReadsText
  text_same es fs (ps, r, e) (qs, s, f) = e ∙ ap stream_of_pieces (stream_same ps qs r s) ∙ sym f

-- bytes are read as one list of events at most
pub one_reading : OneReading
unfolding Reads
one_reading bytes es fs (cs, t, r) (ds, u, s) =
    let e : cs ≡ ds = one-text bytes cs ds t u in
    text_same ds (Unit {0}) open_limit es fs (subst (λ z. ReadsText z (Unit {0}) open_limit es) e r) s

-- and mean one forest at most, since events stand for one
pub one_meaning : OneMeaning
one_meaning bytes f g m n =
    let e : m.events ≡ n.events = one_reading bytes m.events n.events m.reads n.reads in
    stands_one n.events f g (subst (λ z. StandsFor z f) e m.stands) n.stands
