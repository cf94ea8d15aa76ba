-- What a call decides, passed on; and the decisions of the reader of documents.
use Rattle.std.proofs.Common.{◌≡◌, ◌≢◌, ℕ, ◌+◌, ◌⊎◌, inl, inr, List, [], ◌∷◌, Result, Ok, Err, IfErr, Some, true, false, refl, sym, ◌∙◌, ap, subst, arith}
use Rattle.std.specs.Prelude.{slice_get}
use Rattle.std.specs.Result.{IsErrAnd}
use Rattle.std.proofs.lemmas.Result.{err_from_is_err_and}
use Rattle.yaml_definitions.specs.model.Limits.{open_limit}
use Rattle.yaml_definitions.specs.model.Event.{document_start}
use Rattle.yaml_text.specs.LeafAnswer.{Unread, Only}
use Rattle.yaml_definitions.specs.grammar.Rules.{Rule, ◌⊔◌, ◌∪◌, Begins, chr, seen}
use Rattle.yaml_definitions.specs.grammar.Separation.{StartsLine, DocumentMarkOf, l-comment as l_comment}
use Rattle.yaml_definitions.specs.grammar.Tags.{Handles}
use Rattle.yaml_definitions.specs.grammar.Directives.{directives}
use Rattle.yaml_text.specs.Calls.{read_directives}
use Rattle.yaml_definitions.specs.grammar.Streams.{l-bare-document as bare_document, l-directive-document as directive_document, document_mark}
use Rattle.yaml_text.specs.declared.fault.Fault.{Fault}
use Rattle.yaml_text.specs.declared.fault.Fault.TheVariants as fault
use Rattle.yaml_text.proofs.Runs.{same_char}
use Rattle.yaml_mark.specs.MarkFaults.{DirectivesRefuse}
use Rattle.law_one_reading.specs.Readings.{End, At}
use Rattle.law_one_reading.specs.Follows.{Stuck}
use Rattle.law_one_reading.proofs.Lines.{ns_dash, stuck_mark}
use Rattle.law_one_reading.proofs.Documents.{mark_inside, dashes_mark_is}
use Rattle.law_going_on.specs.GoingOn.{Refused, Rest}
use Rattle.law_going_on.proofs.GoingOn.{rest_goes, rest_refused, rest_rest, rest_seen, rest_left, rest_right}
use Rattle.law_going_on.proofs.StreamRests.{directed_marked, no_directives, no_percent, no_bare}
use Rattle.yaml_layout.specs.NodeAnswer.{Decides}
use Rattle.yaml_block.specs.DocumentCalls.{DocumentEnd, after_mark}
use Rattle.yaml_read.specs.StreamRules.{opened_by_mark, opened_bare, opened_by_directives}

-- what the rest decides
pub decides_rest : {V W X : Type 0} {R : Rule V} {S : Rule W} {E F : End} (G : End) {i x : ℕ} (end : X → ℕ) (r : Result X Fault) → Rest R E i S F x → Decides S F x G end r → Decides R E i G end r
decides_rest G end (Ok a) f d = rest_goes f d
decides_rest G end (Err e) f (inl h) = inl h
decides_rest G end (Err e) f (inr n) = inr (rest_refused f n)

-- at the exit of a `?`
pub if_err : {X : Type 0} (P : Fault → Type 0) (r : Result X Fault) (e : Fault) → IsErrAnd r (λ y. y ≡ e) → P e → IfErr r P
if_err P r e was h =
    let p = err_from_is_err_and r was in
    subst (λ z. IfErr z P) (sym (p.1 ∙ ap Err p.2)) h

pub decides_err : {V X : Type 0} (R : Rule V) (E : End) (i : ℕ) (F : End) (end : X → ℕ) (r : Result X Fault) (e : Fault) →
    IsErrAnd r (λ y. y ≡ e) → (e ≡ fault.OutOfMemory) ⊎ Refused R E i → Decides R E i F end r
decides_err R E i F end r e was h =
    let p = err_from_is_err_and r was in
    subst (λ z. Decides R E i F end z) (sym (p.1 ∙ ap Err p.2)) h

-- a value that is seen, and back
pub rest_shown : {A V : Type 0} (f : A → V) (R : Rule A) (E : End) (i : ℕ) → Rest R E i (seen f R) E i
rest_shown f R E i = record { rest = λ j m v r e. (j, f v, (v, r, refl), e) }

directives_fault : (P : Type 0) (e : Fault) → DirectivesRefuse e P → (e ≡ fault.OutOfMemory) ⊎ P
directives_fault P (fault.Syntax at) p = inr p
directives_fault P (fault.Tab at) p = inr p
directives_fault P (fault.BadDirective at) p = inr p
directives_fault P fault.OutOfMemory p = inl refl
directives_fault P _ p = absurd p

module _ (cs : List ℕ) where
  -- ---- directives before a document's mark

  mark_stops : (j : ℕ) → DocumentMarkOf cs 45 j → Begins (chr cs 37 ⊔ l_comment cs) j → ⊥
  unfolding DocumentMarkOf
  mark_stops j (s, (a, (b, (h, e), r)), t) (k, inl (g, f)) = let z : 45 ≡ 37 = same_char cs j 45 37 h g in omega (arith, z)
  mark_stops j m (k, inr c) = stuck_mark cs j (dashes_mark_is cs (Unit {0}) open_limit j m) k c

  before_mark : (i j : ℕ) (hs : Handles) → directives cs i j hs → DocumentMarkOf cs 45 j → read_directives cs i j hs
  unfolding read_directives
  before_mark i j hs d m = (j, d, (refl, mark_stops j m))

  unread_directives : (i : ℕ) → Unread (read_directives cs) i → Refused (directives cs) (At (DocumentMarkOf cs 45)) i
  unread_directives i n = record { none = λ j o hs d (e, m). n j hs (before_mark i j hs d m) }

  unmarked_directives : (i k : ℕ) (hs : Handles) → Only (read_directives cs) i k hs → (DocumentMarkOf cs 45 k → ⊥) → Refused (directives cs) (At (DocumentMarkOf cs 45)) i
  unmarked_directives i k hs only n = record { none = λ j o gs d (e, m). n (subst (DocumentMarkOf cs 45) (only.only j gs (before_mark i j gs d m)).0 m) }

  -- the handles that were read are those of directives
  directives_are : (i j : ℕ) (hs : Handles) → read_directives cs i j hs → directives cs i j hs
  unfolding read_directives
  directives_are i j hs (k, d, (e, s)) = subst (λ z. directives cs i z hs) (sym e) d

  opened : (i : ℕ) → Rest (opened_by_directives cs) (DocumentEnd cs) i (directive_document cs (Unit {0}) open_limit) (DocumentEnd cs) i
  opened i = rest_seen (λ es. document_start true ∷ es) (directive_document cs (Unit {0}) open_limit) (DocumentEnd cs) i

  pub directed_fault : (i : ℕ) (e : Fault) → DirectivesRefuse e (Unread (read_directives cs) i) → (e ≡ fault.OutOfMemory) ⊎ Refused (opened_by_directives cs) (DocumentEnd cs) i
  directed_fault i e d = go (directives_fault _ e d)
    where
      go : (e ≡ fault.OutOfMemory) ⊎ Unread (read_directives cs) i → (e ≡ fault.OutOfMemory) ⊎ Refused (opened_by_directives cs) (DocumentEnd cs) i
      go (inl h) = inl h
      go (inr n) = inr (rest_refused (opened i) (no_directives cs (Unit {0}) open_limit i (unread_directives i n)))

  pub directed_unmarked : (i k : ℕ) (hs : Handles) → Only (read_directives cs) i k hs → (DocumentMarkOf cs 45 k → ⊥) → Refused (opened_by_directives cs) (DocumentEnd cs) i
  directed_unmarked i k hs only n = rest_refused (opened i) (no_directives cs (Unit {0}) open_limit i (unmarked_directives i k hs only n))

  -- the mark's document is left
  pub directed_rest : (i k a : ℕ) (hs : Handles) → read_directives cs i k hs → document_mark cs (Unit {0}) open_limit 45 k a →
      Rest (opened_by_directives cs) (DocumentEnd cs) i (opened_by_mark cs hs) (DocumentEnd cs) a
  directed_rest i k a hs d m =
      let x = mark_inside cs (Unit {0}) open_limit 45 k a ns_dash m in
      subst (λ z. Rest (opened_by_directives cs) (DocumentEnd cs) i (opened_by_mark cs hs) (DocumentEnd cs) z) (sym x.0)
      (rest_rest (opened i) (rest_rest (directed_marked cs (Unit {0}) open_limit i k hs (directives_are i k hs d) x.2) (rest_shown (λ es. document_start true ∷ es) (after_mark cs hs) (DocumentEnd cs) (k + 3))))

  -- ---- a document that no mark parts from what stands before it

  pub first_directed : (i : ℕ) → StartsLine cs i → Stuck cs i → slice_get cs i ≡ Some 37 → Rest (opened_bare cs ∪ opened_by_directives cs) (DocumentEnd cs) i (opened_by_directives cs) (DocumentEnd cs) i
  first_directed i st s h =
      rest_right (opened_by_directives cs) (rest_refused (rest_seen (λ es. document_start false ∷ es) (bare_document cs (Unit {0}) open_limit []) (DocumentEnd cs) i) (no_bare cs (Unit {0}) open_limit i s (h, st)))

  pub first_bare : (i : ℕ) → slice_get cs i ≢ Some 37 → Rest (opened_bare cs ∪ opened_by_directives cs) (DocumentEnd cs) i (opened_bare cs) (DocumentEnd cs) i
  first_bare i n = rest_left (opened_bare cs) (rest_refused (opened i) (no_percent cs (Unit {0}) open_limit i (λ p. n p.0)))

  -- ---- what stands after the mark

  pub opened_rest : (hs : Handles) (i : ℕ) → Rest (opened_by_mark cs hs) (DocumentEnd cs) i (after_mark cs hs) (DocumentEnd cs) i
  opened_rest hs i = rest_seen (λ es. document_start true ∷ es) (after_mark cs hs) (DocumentEnd cs) i
