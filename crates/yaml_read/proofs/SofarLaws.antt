-- How a stream that was read so far goes on, and ends.
use Rattle.std.proofs.Common.{◌≡◌, ℕ, inl, inr, true, false, Bool, List, [], ◌∷◌, ◌++◌, length, refl, sym, ◌∙◌, ap, subst, append_assoc}
use Rattle.std.proofs.lemmas.Bool.{false≢true}
use Rattle.std.proofs.lemmas.List.{append-nil}
use Rattle.yaml_definitions.specs.model.Limits.{open_limit}
use Rattle.yaml_definitions.specs.model.Event.{Event, stream_start, stream_end, document_start, document_end}
use Rattle.yaml_definitions.specs.grammar.Rules.{Rule, ◌▸◌, ◌∪◌, ◌⨾◌, optional, gives, any_one, any_span, Any, Spans, done, then}
use Rattle.yaml_definitions.specs.grammar.Separation.{l-comment as l_comment}
use Rattle.yaml_definitions.specs.grammar.Streams as streams
use Rattle.yaml_definitions.specs.grammar.Streams.{Piece, document_piece, suffix_piece, l-yaml-stream as stream, l-document-suffix as suffix, l-any-document as any_document, l-explicit-document as explicit_document, l-bare-document as bare_document, l-directive-document as directive_document, explicit_piece, piece_events, ends_explicitly, ReadsText}
use Rattle.yaml_read.specs.Sofar.{ends_so, events_so, document_closing, Pieces, MayBeBare, IsSofar}

-- ---- events

ends_last : (ps : List Piece) → ends_so ps false ≡ ends_explicitly ps
unfolding ends_so ends_explicitly
ends_last [] = refl
ends_last (suffix_piece ∷ ps) = refl
ends_last (document_piece explicit es ∷ ps) = refl

events_last : (ps : List Piece) → events_so ps false ≡ piece_events ps
unfolding events_so piece_events
events_last [] = refl
events_last (suffix_piece ∷ ps) = events_last ps
events_last (document_piece explicit es ∷ ps) =
    let e = ends_last ps in let f = events_last ps in
    λ z. document_start explicit ∷ (es ++ (document_end (e z) ∷ f z))

ends_suffix : (ps : List Piece) (next : Bool) → ends_so (ps ++ (suffix_piece ∷ [])) next ≡ ends_so ps true
unfolding ends_so
ends_suffix [] next = refl
ends_suffix (suffix_piece ∷ ps) next = refl
ends_suffix (document_piece explicit es ∷ ps) next = refl

events_suffix : (ps : List Piece) (next : Bool) → events_so (ps ++ (suffix_piece ∷ [])) next ≡ events_so ps true
unfolding events_so
events_suffix [] next = refl
events_suffix (suffix_piece ∷ ps) next = events_suffix ps next
events_suffix (document_piece explicit es ∷ ps) next =
    let e = ends_suffix ps next in let f = events_suffix ps next in
    λ z. document_start explicit ∷ (es ++ (document_end (e z) ∷ f z))

ends_document : (ps : List Piece) (explicit : Bool) (es : List Event) (next : Bool) → ends_so (ps ++ (document_piece explicit es ∷ [])) next ≡ ends_so ps false
unfolding ends_so
ends_document [] explicit es next = refl
ends_document (suffix_piece ∷ ps) explicit es next = refl
ends_document (document_piece other fs ∷ ps) explicit es next = refl

events_document : (ps : List Piece) (explicit : Bool) (es : List Event) (next : Bool) →
    events_so (ps ++ (document_piece explicit es ∷ [])) next ≡ events_so ps false ++ (document_start explicit ∷ (es ++ (document_end next ∷ [])))
unfolding events_so ends_so
events_document [] explicit es next = refl
events_document (suffix_piece ∷ ps) explicit es next = events_document ps explicit es next
events_document (document_piece other fs ∷ ps) explicit es next =
    let e = ends_document ps explicit es next in
    let f = events_document ps explicit es next in
    let more = document_start explicit ∷ (es ++ (document_end next ∷ [])) in
    (λ z. document_start other ∷ (fs ++ (document_end (e z) ∷ f z)))
    ∙ ap (λ x. document_start other ∷ x) (sym (append_assoc fs (document_end (ends_so ps false) ∷ events_so ps false) more))

true_no_false : true ≡ false → ⊥
true_no_false q = false≢true (sym q)

-- ---- chains

any_more : {A : Type 0} {R : Rule (List A)} {k j i : ℕ} {xs ys : List A} → Any R k i xs → R k j ys → Any R j i (xs ++ ys)
any_more {A} {R} {k} {j} {i} {xs} {ys} (done e f) r =
    subst (λ v. Any R j i (v ++ ys)) (sym f) (then j ys [] (subst (λ m. R m j ys) e r) (done refl refl) (sym (append-nil ys)))
any_more {A} {R} {k} {j} {i} {xs} {ys} (then m us vs p rest e) r =
    then m us (vs ++ ys) p (any_more rest r) (ap (λ v. v ++ ys) e ∙ append_assoc us vs ys)

module _ (cs : List ℕ) where
  abbrev Chunk : Rule (List Piece)
  Chunk = (any_one (suffix cs (Unit {0}) open_limit) ⨾ (any_span (l_comment cs) ▸ optional (any_document cs (Unit {0}) open_limit)))
      ∪ explicit_piece cs (Unit {0}) open_limit
      ∪ (l_comment cs ▸ gives [])

  goes_on : (i j : ℕ) (ps qs : List Piece) → Pieces cs i ps → Chunk i j qs → Pieces cs j (ps ++ qs)
  unfolding stream
  goes_on i j ps qs (k, xs, ys, first, rest, e) c = (k, xs, ys ++ qs, first, any_more rest c, ap (λ v. v ++ qs) e ∙ append_assoc xs ys qs)

  first_comments : (i : ℕ) → any_span (l_comment cs) 0 i → Pieces cs i []
  unfolding stream
  first_comments i lines = (i, [], [], (i, lines, inl (refl, refl)), done refl refl, refl)

  first_document : (i j : ℕ) (qs : List Piece) → any_span (l_comment cs) 0 i → any_document cs (Unit {0}) open_limit i j qs → Pieces cs j qs
  unfolding stream
  first_document i j qs lines d = (j, qs, [], (i, lines, inr d), done refl refl, sym (append-nil qs))

  fresh_read : (i : ℕ) (ps : List Piece) → MayBeBare cs i ps → Pieces cs i ps
  fresh_read i ps (inl (lines, e)) = subst (λ v. Pieces cs i v) (sym e) (first_comments i lines)
  fresh_read i ps (inr (k, qs, rs, r, (m, s, lines), e)) =
      subst (λ v. Pieces cs i v) (sym e) (goes_on k i qs rs r (inl (m, rs, [], s, (i, lines, inl (refl, refl)), sym (append-nil rs))))

  fresh_document : (i j : ℕ) (ps qs : List Piece) → MayBeBare cs i ps → any_document cs (Unit {0}) open_limit i j qs → Pieces cs j (ps ++ qs)
  fresh_document i j ps qs (inl (lines, e)) d = subst (λ v. Pieces cs j (v ++ qs)) (sym e) (first_document i j qs lines d)
  fresh_document i j ps qs (inr (k, us, rs, r, (m, s, lines), e)) d =
      subst (λ v. Pieces cs j v) (sym (append_assoc us rs qs) ∙ ap (λ v. v ++ qs) (sym e))
      (goes_on k j us (rs ++ qs) r (inl (m, rs, qs, s, (i, lines, inr d), refl)))

  one_suffix : (i j : ℕ) → suffix cs (Unit {0}) open_limit i j (suffix_piece ∷ []) → any_one (suffix cs (Unit {0}) open_limit) i j (suffix_piece ∷ [])
  one_suffix i j s = (j, suffix_piece ∷ [], [], s, done refl refl, refl)

  -- ---- the stream so far

  pub sofar_start : (i : ℕ) → any_span (l_comment cs) 0 i → IsSofar cs false i (stream_start ∷ [])
  unfolding events_so
  sofar_start i lines = record { pieces = []; read = first_comments i lines; fresh = λ e. inl (lines, refl); events = λ next. refl }

  pub sofar_suffix : (is_open : Bool) (i j : ℕ) (written new : List Event) → IsSofar cs is_open i written →
      suffix cs (Unit {0}) open_limit i j (suffix_piece ∷ []) → new ≡ written ++ document_closing is_open true → IsSofar cs false j new
  sofar_suffix is_open i j written new s r e =
      let fresh : MayBeBare cs j (s.pieces ++ (suffix_piece ∷ [])) = inr (i, s.pieces, suffix_piece ∷ [], s.read, (j, one_suffix i j r, Spans.done refl), refl) in
      record {
        pieces = s.pieces ++ (suffix_piece ∷ []);
        read = fresh_read j _ fresh;
        fresh = λ q. fresh;
        events = λ next. append-nil new ∙ e ∙ s.events true ∙ ap (λ x. stream_start ∷ x) (sym (events_suffix s.pieces next));
      }

  document_events : (is_open : Bool) (ps : List Piece) (explicit : Bool) (es written new : List Event) →
      ((next : Bool) → written ++ document_closing is_open next ≡ stream_start ∷ events_so ps next) →
      new ≡ (written ++ document_closing is_open false) ++ (document_start explicit ∷ es) →
      (next : Bool) → new ++ document_closing true next ≡ stream_start ∷ events_so (ps ++ (document_piece explicit es ∷ [])) next
  document_events is_open ps explicit es written new h e next =
      ap (λ x. x ++ (document_end next ∷ [])) (e ∙ ap (λ x. x ++ (document_start explicit ∷ es)) (h false))
      ∙ ap (λ x. stream_start ∷ x) (append_assoc (events_so ps false) (document_start explicit ∷ es) (document_end next ∷ []) ∙ sym (events_document ps explicit es next))

  pub sofar_explicit : (is_open : Bool) (i j : ℕ) (es written new : List Event) → IsSofar cs is_open i written →
      explicit_document cs (Unit {0}) open_limit [] i j es → new ≡ (written ++ document_closing is_open false) ++ (document_start true ∷ es) → IsSofar cs true j new
  sofar_explicit is_open i j es written new s d e = record {
    pieces = s.pieces ++ (document_piece true es ∷ []);
    read = goes_on i j s.pieces (document_piece true es ∷ []) s.read (inr (inl (es, d, refl)));
    fresh = λ q. absurd (true_no_false q);
    events = document_events is_open s.pieces true es written new s.events e;
  }

  -- a document where none is open
  pub sofar_document : (explicit : Bool) (i j : ℕ) (es written new : List Event) → IsSofar cs false i written →
      any_document cs (Unit {0}) open_limit i j (document_piece explicit es ∷ []) → new ≡ written ++ (document_start explicit ∷ es) → IsSofar cs true j new
  sofar_document explicit i j es written new s d e = record {
    pieces = s.pieces ++ (document_piece explicit es ∷ []);
    read = fresh_document i j s.pieces (document_piece explicit es ∷ []) (s.fresh refl) d;
    fresh = λ q. absurd (true_no_false q);
    events = document_events false s.pieces explicit es written new s.events (e ∙ ap (λ x. x ++ (document_start explicit ∷ es)) (sym (append-nil written)));
  }

  pub sofar_bare : (i j : ℕ) (es written new : List Event) → IsSofar cs false i written →
      bare_document cs (Unit {0}) open_limit [] i j es → new ≡ written ++ (document_start false ∷ es) → IsSofar cs true j new
  unfolding any_document
  sofar_bare i j es written new s d e = sofar_document false i j es written new s (inl (es, d, refl)) e

  pub sofar_directives : (i j : ℕ) (es written new : List Event) → IsSofar cs false i written →
      directive_document cs (Unit {0}) open_limit i j es → new ≡ written ++ (document_start true ∷ es) → IsSofar cs true j new
  unfolding any_document
  sofar_directives i j es written new s d e = sofar_document true i j es written new s (inr (inr (es, d, refl))) e

  pub sofar_end : (is_open : Bool) (i : ℕ) (written new : List Event) → IsSofar cs is_open i written → i ≡ length cs →
      new ≡ (written ++ document_closing is_open false) ++ (stream_end ∷ []) → ReadsText cs (Unit {0}) open_limit new
  unfolding ReadsText streams.stream_of_pieces
  sofar_end is_open i written new s at_end e = (
    s.pieces,
    subst (λ n. Pieces cs n s.pieces) at_end s.read,
    e ∙ ap (λ x. x ++ (stream_end ∷ [])) (s.events false) ∙ ap (λ x. stream_start ∷ (x ++ (stream_end ∷ []))) (events_last s.pieces),
  )
