-- What is left of a stream after each step of its reader, and that a refused step leaves no reading of the text.
use Rattle.std.proofs.Common.{ℕ, ◌⊎◌, inl, inr, List, [], ◌∷◌, Bool, true, false, sym, subst}
use Rattle.yaml_definitions.specs.model.Limits.{open_limit}
use Rattle.yaml_definitions.specs.model.Event.{Event, document_start}
use Rattle.yaml_definitions.specs.grammar.Rules.{◌∪◌}
use Rattle.yaml_definitions.specs.grammar.Separation.{AtEnd, DocumentMark, s-l-comments as s_l_comments}
use Rattle.yaml_definitions.specs.grammar.Streams.{document_mark, l-bare-document as bare_document, l-directive-document as directive_document, ReadsText}
use Rattle.law_one_reading.specs.Follows.{Stuck, Comments}
use Rattle.law_one_reading.proofs.Lines.{ns_dash}
use Rattle.law_one_reading.proofs.Documents.{ns_dot, mark_inside}
use Rattle.law_going_on.specs.GoingOn.{Refused, Goes, Rest, Here}
use Rattle.law_going_on.proofs.GoingOn.{rest_goes, rest_refused, rest_both}
use Rattle.law_going_on.proofs.StreamRests.{Left, stream_left, left_suffix, no_suffix, left_marked, no_marked, left_unparted, no_unparted, no_second}
use Rattle.yaml_block.specs.DocumentCalls.{DocumentEnd, after_mark}
use Rattle.yaml_read.specs.Decided.{HasNoReading}
use Rattle.yaml_read.specs.StreamRules.{opened_by_mark, opened_bare, opened_by_directives}
use Rattle.yaml_read.proofs.DecidedLemmas.{rest_shown}

module _ (cs : List ℕ) where
  -- every reading of the text has this left
  abbrev pub Leaves : Bool → ℕ → Type 0
  Leaves fresh i = (es : List Event) → ReadsText cs (Unit {0}) open_limit es → Left cs (Unit {0}) open_limit fresh i

  pub leaves_start : (i : ℕ) → Comments cs 0 i → Stuck cs i → Leaves true i
  leaves_start i c s es r = stream_left cs (Unit {0}) open_limit es i r c s

  pub leaves_suffix : {fresh : Bool} (i k j : ℕ) → document_mark cs (Unit {0}) open_limit 46 i k → s_l_comments cs k j → Stuck cs j → Leaves fresh i → Leaves true j
  leaves_suffix i k j m c s l es r =
      let x = mark_inside cs (Unit {0}) open_limit 46 i k ns_dot m in
      left_suffix cs (Unit {0}) open_limit i j x.2 (subst (λ z. s_l_comments cs z j) x.0 c) s (l es r)

  pub none_suffix : {fresh : Bool} (i k : ℕ) → document_mark cs (Unit {0}) open_limit 46 i k → ((j : ℕ) → s_l_comments cs k j → ⊥) → Leaves fresh i → HasNoReading cs
  none_suffix i k m n l es r =
      let x = mark_inside cs (Unit {0}) open_limit 46 i k ns_dot m in
      no_suffix cs (Unit {0}) open_limit i x.2 (λ j c. n j (subst (λ z. s_l_comments cs z j) (sym x.0) c)) (l es r)

  shown : (i : ℕ) → Rest (after_mark cs []) (DocumentEnd cs) i (opened_by_mark cs []) (DocumentEnd cs) i
  shown i = rest_shown (λ es. document_start true ∷ es) (after_mark cs []) (DocumentEnd cs) i

  pub leaves_marked : {fresh : Bool} (i k j : ℕ) → document_mark cs (Unit {0}) open_limit 45 i k → Goes (opened_by_mark cs []) (DocumentEnd cs) k Here j → Leaves fresh i → Leaves false j
  leaves_marked i k j m g l es r =
      let x = mark_inside cs (Unit {0}) open_limit 45 i k ns_dash m in
      left_marked cs (Unit {0}) open_limit i j x.2 (subst (λ z. Goes (after_mark cs []) (DocumentEnd cs) z Here j) x.0 (rest_goes (shown k) g)) (l es r)

  pub none_marked : {fresh : Bool} (i k : ℕ) → document_mark cs (Unit {0}) open_limit 45 i k → Refused (opened_by_mark cs []) (DocumentEnd cs) k → Leaves fresh i → HasNoReading cs
  none_marked i k m g l es r =
      let x = mark_inside cs (Unit {0}) open_limit 45 i k ns_dash m in
      no_marked cs (Unit {0}) open_limit i x.2 (subst (λ z. Refused (after_mark cs []) (DocumentEnd cs) z) x.0 (rest_refused (shown k) g)) (l es r)

  unparted : (i : ℕ) → Rest (bare_document cs (Unit {0}) open_limit [] ∪ directive_document cs (Unit {0}) open_limit) (DocumentEnd cs) i (opened_bare cs ∪ opened_by_directives cs) (DocumentEnd cs) i
  unparted i =
      rest_both (rest_shown (λ es. document_start false ∷ es) (bare_document cs (Unit {0}) open_limit []) (DocumentEnd cs) i)
      (rest_shown (λ es. document_start true ∷ es) (directive_document cs (Unit {0}) open_limit) (DocumentEnd cs) i)

  pub leaves_first : {fresh : Bool} (i j : ℕ) → (AtEnd cs i → ⊥) × (DocumentMark cs i → ⊥) → Goes (opened_bare cs ∪ opened_by_directives cs) (DocumentEnd cs) i Here j → Leaves fresh i → Leaves false j
  leaves_first i j n g l es r = left_unparted cs (Unit {0}) open_limit i j n.0 n.1 (rest_goes (unparted i) g) (l es r)

  pub none_first : {fresh : Bool} (i : ℕ) → (AtEnd cs i → ⊥) × (DocumentMark cs i → ⊥) → Refused (opened_bare cs ∪ opened_by_directives cs) (DocumentEnd cs) i → Leaves fresh i → HasNoReading cs
  none_first i n g l es r = no_unparted cs (Unit {0}) open_limit i n.0 n.1 (rest_refused (unparted i) g) (l es r)

  pub none_second : (i : ℕ) → (AtEnd cs i → ⊥) × (DocumentMark cs i → ⊥) → Leaves false i → HasNoReading cs
  none_second i n l es r = no_second cs (Unit {0}) open_limit i n.0 n.1 (l es r)

-- memory, or no reading
pub either : {P A B : Type 0} → (A → B) → P ⊎ A → P ⊎ B
either f (inl h) = inl h
either f (inr n) = inr (f n)
