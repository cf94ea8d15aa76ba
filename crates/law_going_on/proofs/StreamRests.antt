-- What is left of a stream, at each place where its reader stands between documents.
use Rattle.std.proofs.Common.{◌≡◌, ℕ, ◌+◌, ◌≤◌, ◌<◌, inl, inr, List, [], ◌∷◌, Bool, true, false, length, refl, sym, ◌∙◌, subst, arith}
use Rattle.yaml_definitions.specs.grammar.Rules.{Rule, Spans, ◌◂◌, ◌∪◌, gives}
use Rattle.yaml_definitions.specs.grammar.Separation.{block_in, StartsLine, AtEnd, DocumentMarkOf, DocumentMark, s-l-comments as s_l_comments}
use Rattle.yaml_definitions.specs.grammar.Tags.{Handles}
use Rattle.yaml_definitions.specs.grammar.Directives.{directives}
use Rattle.yaml_definitions.specs.grammar.Nodes.{block_part, reads}
use Rattle.yaml_definitions.specs.grammar.Events.{no_props, e-scalar as empty}
use Rattle.yaml_definitions.specs.model.Event.{Event}
use Rattle.yaml_definitions.specs.grammar.Streams.{Piece, document_piece, l-bare-document as bare_document, l-explicit-document as explicit_document, l-directive-document as directive_document, l-document-suffix as suffix, ReadsText}
use Rattle.yaml_text.proofs.RestLemmas.{l_comment_onward}
use Rattle.yaml_text.proofs.Repeats.{spans_onward}
use Rattle.law_one_reading.specs.Readings.{End, At}
use Rattle.law_one_reading.proofs.Lines.{ns_dash, past_of, past_same, less_stuck, comments_same, comments_none, stuck_end}
use Rattle.law_one_reading.specs.Follows.{Comments, Stuck, Less, Follow}
use Rattle.law_one_reading.proofs.Directives.{Percent, directives_unique, directives_start}
use Rattle.law_one_reading.proofs.Documents.{Tail, View, v_over, v_dots, v_shown, v_bare, v_directed, E0, stream_tail, view, lands, lands_false, line_of, mark_inside, suffix_mark, suffix_past, shown_mark, directive_percent, after_comments, marks_apart, mark_end, mark_percent, bare_no_mark, bare_no_end, bare_no_percent, dots_mark_is, dashes_mark_is, percent_end}
use Rattle.law_one_reading.proofs.Documents as documents
use Rattle.law_going_on.specs.GoingOn.{Refused, Goes, Rest, Here}
use Rattle.law_going_on.proofs.NodesAgain.{root_again}

module _ (cs : List ℕ) (Wide : Type 0) (room : ℕ) where
  abbrev pub Follows : End
  Follows = E0 cs Wide room

  -- a stream that has been read so far has something left that goes on at m; fresh says that a document without a mark may come
  pub record Left (fresh : Bool) (m : ℕ) : Type 0 where
    pub from_place : ℕ
    pub pieces : List Piece
    pub tail : Tail cs Wide room fresh from_place pieces
    pub comments : Comments cs from_place m
    pub stuck : Stuck cs m

  pub seen_from : {fresh : Bool} {m : ℕ} (l : Left fresh m) → View cs Wide room fresh l.from_place m l.pieces
  seen_from {fresh} {m} l = view cs Wide room fresh l.from_place m l.pieces l.tail l.comments l.stuck

  -- at the beginning
  pub stream_left : (es : List Event) (m : ℕ) → ReadsText cs Wide room es → Comments cs 0 m → Stuck cs m → Left true m
  unfolding ReadsText
  stream_left es m (ps, r, e) c s = record { from_place = 0; pieces = ps; tail = stream_tail cs Wide room (length cs) ps r refl; comments = c; stuck = s }

  -- a reading that ends at k goes on at the line that the comments after it come to
  left_after : (fresh : Bool) (k n m : ℕ) (vs : List Piece) → Tail cs Wide room fresh k vs → Comments cs k m → Stuck cs m → m ≡ n → Left fresh n
  left_after fresh k n m vs t c s e = record { from_place = k; pieces = vs; tail = t; comments = subst (Comments cs k) e c; stuck = subst (Stuck cs) e s }

  -- ---- a suffix (9.1.2)

  dots_left : (fresh : Bool) (m n h : ℕ) (xs : List Piece) → Stuck cs m → DocumentMarkOf cs 46 m → s_l_comments cs (m + 3) n → Stuck cs n → View cs Wide room fresh h m xs → Left true n
  dots_left fresh m n h xs st mark l s (v_over e f) = absurd (mark_end cs Wide room 46 m mark e)
  dots_left fresh m n h xs st mark l s (v_dots k us vs r t e) =
      let (o, c, u) = lands cs Wide room true k vs t in
      left_after true k n o vs t c u (past_same cs (m + 3) o n (suffix_past cs Wide room m k o us r c).0 u (past_of cs (m + 3) n n l (Spans.done refl)) s)
  dots_left fresh m n h xs st mark l s (v_shown k us vs r t e) = absurd (marks_apart cs Wide room m (shown_mark cs Wide room m k us r) mark)
  dots_left fresh m n h xs st mark l s (v_bare g k us vs a c r t e) = absurd (bare_no_mark cs Wide room g m k us a c st r (dots_mark_is cs Wide room m mark))
  dots_left fresh m n h xs st mark l s (v_directed k us vs r t e) = absurd (mark_percent cs Wide room 46 m (λ z. omega (arith, z)) mark (directive_percent cs Wide room m k us r))

  pub left_suffix : {fresh : Bool} (m n : ℕ) → DocumentMarkOf cs 46 m → s_l_comments cs (m + 3) n → Stuck cs n → Left fresh m → Left true n
  left_suffix {fresh} m n mark l s x = dots_left fresh m n x.from_place x.pieces x.stuck mark l s (seen_from x)

  no_dots : (fresh : Bool) (m h : ℕ) (xs : List Piece) → Stuck cs m → DocumentMarkOf cs 46 m → ((j : ℕ) → s_l_comments cs (m + 3) j → ⊥) → View cs Wide room fresh h m xs → ⊥
  unfolding suffix
  no_dots fresh m h xs st mark n (v_over e f) = mark_end cs Wide room 46 m mark e
  no_dots fresh m h xs st mark n (v_dots k us vs (a, d, (b, (e, f), s)) t g) = n k (subst (λ z. s_l_comments cs z k) (e ∙ (mark_inside cs Wide room 46 m a documents.ns_dot d).0) s)
  no_dots fresh m h xs st mark n (v_shown k us vs r t e) = marks_apart cs Wide room m (shown_mark cs Wide room m k us r) mark
  no_dots fresh m h xs st mark n (v_bare g k us vs a c r t e) = bare_no_mark cs Wide room g m k us a c st r (dots_mark_is cs Wide room m mark)
  no_dots fresh m h xs st mark n (v_directed k us vs r t e) = mark_percent cs Wide room 46 m (λ z. omega (arith, z)) mark (directive_percent cs Wide room m k us r)

  -- something else on its line
  pub no_suffix : {fresh : Bool} (m : ℕ) → DocumentMarkOf cs 46 m → ((j : ℕ) → s_l_comments cs (m + 3) j → ⊥) → Left fresh m → ⊥
  no_suffix {fresh} m mark n x = no_dots fresh m x.from_place x.pieces x.stuck mark n (seen_from x)

  -- ---- a document with its mark (9.1.4)

  -- what stands after the mark
  abbrev pub Marked : Handles → Rule (List Event)
  Marked handles = bare_document cs Wide room handles ∪ (gives (empty no_props) ◂ s_l_comments cs)

  -- what is read after it
  explicit_marked : (handles : Handles) (m k : ℕ) (us : List Event) → explicit_document cs Wide room handles m k us → Marked handles (m + 3) k us
  unfolding explicit_document
  explicit_marked handles m k us (a, d, r) = subst (λ z. Marked handles z k us) (mark_inside cs Wide room 45 m a ns_dash d).0 r

  shown_left : (fresh : Bool) (m h : ℕ) (xs : List Piece) → Stuck cs m → DocumentMarkOf cs 45 m → View cs Wide room fresh h m xs →
      (k : ℕ) × (o : ℕ) × (us : List Event) × (vs : List Piece) × Marked [] (m + 3) k us × Follows k o × Tail cs Wide room false k vs
  shown_left fresh m h xs st mark (v_over e f) = absurd (mark_end cs Wide room 45 m mark e)
  shown_left fresh m h xs st mark (v_dots k us vs r t e) = absurd (marks_apart cs Wide room m mark (suffix_mark cs Wide room m k us r))
  shown_left fresh m h xs st mark (v_shown k us vs (es, r, g) t e) = let (o, c, f) = lands_false cs Wide room k vs t in (k, o, es, vs, explicit_marked [] m k es r, (c, f), t)
  shown_left fresh m h xs st mark (v_bare g k us vs a c r t e) = absurd (bare_no_mark cs Wide room g m k us a c st r (dashes_mark_is cs Wide room m mark))
  shown_left fresh m h xs st mark (v_directed k us vs r t e) = absurd (mark_percent cs Wide room 45 m (λ z. omega (arith, z)) mark (directive_percent cs Wide room m k us r))

  follows_stuck : (k o : ℕ) → Follows k o → Stuck cs o
  follows_stuck k o (c, (l, n)) = less_stuck cs 0 o l

  pub left_marked : {fresh : Bool} (m n : ℕ) → DocumentMarkOf cs 45 m → Goes (Marked []) Follows (m + 3) Here n → Left fresh m → Left false n
  left_marked {fresh} m n mark g x =
      let (k, o, us, vs, r, f, t) = shown_left fresh m x.from_place x.pieces x.stuck mark (seen_from x) in
      left_after false k n o vs t f.0 (follows_stuck k o f) (g.goes k o us r f)

  pub no_marked : {fresh : Bool} (m : ℕ) → DocumentMarkOf cs 45 m → Refused (Marked []) Follows (m + 3) → Left fresh m → ⊥
  no_marked {fresh} m mark g x =
      let (k, o, us, vs, r, f, t) = shown_left fresh m x.from_place x.pieces x.stuck mark (seen_from x) in g.none k o us r f

  -- ---- a document after directives (9.1.5)

  -- the directives that were read, up to the document's mark
  pub directed_marked : (m a : ℕ) (hs : Handles) → directives cs m a hs → DocumentMarkOf cs 45 a → Rest (directive_document cs Wide room) Follows m (Marked hs) Follows (a + 3)
  unfolding directive_document
  directed_marked m a hs d mark = record { rest = go }
    where
      go : (j o : ℕ) (us : List Event) → (b : ℕ) × (gs : Handles) × directives cs m b gs × explicit_document cs Wide room gs b j us → Follows j o →
          (k : ℕ) × (vs : List Event) × Marked hs (a + 3) k vs × Follows k o
      go j o us (b, gs, e, r) f =
          let h = directives_unique cs m a b a b hs gs d (refl, mark) e (refl, documents.explicit_mark cs Wide room gs b j us r) in
          (j, us, explicit_marked hs a j us (subst (λ z. explicit_document cs Wide room z a j us) (sym h.1) (subst (λ z. explicit_document cs Wide room gs z j us) (sym h.0) r)), f)

  -- no directives before a mark begin here
  pub no_directives : (m : ℕ) → Refused (directives cs) (At (DocumentMarkOf cs 45)) m → Refused (directive_document cs Wide room) Follows m
  unfolding directive_document
  no_directives m g = record { none = λ j o us (b, gs, e, r) f. g.none b b gs e (refl, documents.explicit_mark cs Wide room gs b j us r) }

  pub no_percent : (m : ℕ) → (Percent cs m → ⊥) → Refused (directive_document cs Wide room) Follows m
  unfolding directive_document
  no_percent m n = record { none = λ j o us (b, gs, e, r) f. n (directives_start cs m b gs e) }

  -- ---- a document without a mark (9.1.3)

  -- after a document, with no suffix between, a mark or the end stands
  pub no_second : (m : ℕ) → (AtEnd cs m → ⊥) → (DocumentMark cs m → ⊥) → Left false m → ⊥
  no_second m e d x = go (lands_false cs Wide room x.from_place x.pieces x.tail)
    where
      held : Less cs 0 m → ⊥
      held (inl f) = e f
      held (inr (inl f)) = d f
      held (inr (inr (t, p, lt, r, f))) = omega (arith, lt)

      go : (n : ℕ) × Comments cs x.from_place n × Follow cs 0 0 n → ⊥
      go (n, c, (l, o)) = held (subst (Less cs 0) (comments_same cs x.from_place n m c (less_stuck cs 0 n l) x.comments x.stuck) l)

  -- where directives begin, no node does
  pub no_bare : (m : ℕ) → Stuck cs m → Percent cs m → Refused (bare_document cs Wide room []) Follows m
  no_bare m s p = record { none = λ j o us r f. bare_no_percent cs Wide room m m j (document_piece false us ∷ []) (inl p.1) (Spans.done refl) s (us, r, refl) p }

  -- a document that no mark parts from what stands before it
  abbrev pub Unparted : Rule (List Event)
  Unparted = bare_document cs Wide room [] ∪ directive_document cs Wide room

  -- content: a document's node from the line that the comments come to, or directives
  unparted_left : (fresh : Bool) (m h : ℕ) (xs : List Piece) → Stuck cs m → (AtEnd cs m → ⊥) → (DocumentMark cs m → ⊥) → View cs Wide room fresh h m xs →
      (k : ℕ) × (o : ℕ) × (us : List Event) × (vs : List Piece) × Unparted m k us × Follows k o × Tail cs Wide room false k vs
  unfolding bare_document
  unparted_left fresh m h xs st en mn (v_over e f) = absurd (en e)
  unparted_left fresh m h xs st en mn (v_dots k us vs r t e) = absurd (mn (dots_mark_is cs Wide room m (suffix_mark cs Wide room m k us r)))
  unparted_left fresh m h xs st en mn (v_shown k us vs r t e) = absurd (mn (dashes_mark_is cs Wide room m (shown_mark cs Wide room m k us r)))
  unparted_left fresh m h xs st en mn (v_directed k us vs (es, r, f) t e) = let (o, d, w) = lands_false cs Wide room k vs t in (k, o, es, vs, inr r, (d, w), t)
  unparted_left fresh m h xs st en mn (v_bare g k us vs a c (es, (u, r), f) t e) =
      let (o, d, w) = lands_false cs Wide room k vs t in
      let le : g ≤ m = spans_onward (λ i j l. let x : i < j = l_comment_onward cs i j l in omega (arith, x)) c in
      let at : StartsLine cs g = line_of cs Wide room g a (λ z. en (subst (AtEnd cs) (sym (comments_none cs g m (stuck_end cs g z) c)) z)) in
      let to : StartsLine cs m = line_of cs Wide room m (after_comments cs Wide room c a) en in
      (k, o, es, vs, inl ((λ x y z. u x (omega (arith, y, le)) z), root_again cs g m (inr (at, c)) st to Wide [] room k es r), (d, w), t)

  pub left_unparted : {fresh : Bool} (m n : ℕ) → (AtEnd cs m → ⊥) → (DocumentMark cs m → ⊥) → Goes Unparted Follows m Here n → Left fresh m → Left false n
  left_unparted {fresh} m n e d g x =
      let (k, o, us, vs, r, f, t) = unparted_left fresh m x.from_place x.pieces x.stuck e d (seen_from x) in
      left_after false k n o vs t f.0 (follows_stuck k o f) (g.goes k o us r f)

  pub no_unparted : {fresh : Bool} (m : ℕ) → (AtEnd cs m → ⊥) → (DocumentMark cs m → ⊥) → Refused Unparted Follows m → Left fresh m → ⊥
  no_unparted {fresh} m e d g x =
      let (k, o, us, vs, r, f, t) = unparted_left fresh m x.from_place x.pieces x.stuck e d (seen_from x) in g.none k o us r f

  -- ---- the document's own clauses

  pub bare_refused : (handles : Handles) (m : ℕ) → Refused (reads cs Wide handles room (block_part 0 block_in)) Follows m → Refused (bare_document cs Wide room handles) Follows m
  unfolding bare_document
  bare_refused handles m g = record { none = λ j o v (u, r) f. g.none j o v r f }
