-- Spans of lists, which are widened by one path after another.
use Rattle.std.proofs.Common.{◌≡◌, ℕ, zero, suc, ◌+◌, ◌<◌, ◌≤◌, ◌⊎◌, inl, inr, List, [], ◌∷◌, ◌++◌, length, get_or, refl, sym, ◌∙◌, ap, subst, arith}
use Rattle.std.specs.Prelude.{Option, Some, None, IfSome}
use Rattle.std.specs.List.{slice_get}
use Rattle.std.proofs.lemmas.Option.{slice_get-get_or, slice_get_within}
use Rattle.yaml_diff.specs.declared.difference.Step.{Step}
use Rattle.yaml_diff.specs.declared.difference.Difference.{Difference}
use Rattle.yaml_diff.specs.declared.difference.Move.{Move}
use Rattle.yaml_diff.specs.declared.difference.Found.{Found}
use Rattle.review_folds.specs.Lists.{step_from, number_of, IsWider, HasNumber, Notes, NotesMoves, NotesDifferences, IsSpan}
use Rattle.review_folds.specs.declared.lists.Span.{Span}

-- the element that is read at an index
pub at_index : {X : Type 0} (xs : List X) (k : ℕ) (x : X) → k < length xs → x ≡ get_or xs k x → slice_get xs k ≡ Some x
at_index xs k x l e = slice_get-get_or xs k x l ∙ ap Some (sym e)

pub near : (x y : ℕ) → x < y + 1 → (x < y) ⊎ (x ≡ y)
near zero zero g = inr refl
near zero (suc y) g = inl (omega arith)
near (suc x) zero g = absurd (omega (arith, g))
near (suc x) (suc y) g = elim (near x y (omega (arith, g))) [ inl f ↦ inl (omega (arith, f)) | inr f ↦ inr (ap suc f) ]

pub some-is : {X : Type 0} {x y : X} → Some x ≡ Some y → x ≡ y
some-is e = cc

-- ---- spans

pub wider_same : (xs : List Span) → IsWider xs xs
wider_same xs n t h = (t, h, omega arith, omega arith)

pub wider_twice : (xs ys zs : List Span) → IsWider xs ys → IsWider ys zs → IsWider xs zs
wider_twice xs ys zs f g n t h =
    let b = g n t h in
    let a = f n b.0 b.1 in
    (a.0, a.1, omega (arith, a.2, b.2), omega (arith, a.3, b.3))

pub has_still : (old new : List Span) (n k : ℕ) → IsWider old new → HasNumber old n k → HasNumber new n k
has_still old new n k w h t e =
    let s = w n t e in
    let i = h s.0 s.1 in
    (omega (arith, i.0, s.2), omega (arith, i.1, s.3))

none-some : {X : Type 0} {x : X} → None ≡ Some x → ⊥
none-some e = absurd (cc)

pub notes_still : (below : ℕ → Step → Option ℕ) (path : List Step) (k : ℕ) (old new : List Span) → IsWider old new → Notes below path k old → Notes below path k new
notes_still below path k old new w h = record { all = λ list n i e. has_still old new n k w (h.all list n i e) }

-- the path of the stream
pub notes_none : (below : ℕ → Step → Option ℕ) (path : List Step) (k : ℕ) (new : List Span) → path ≡ [] → HasNumber new 0 k → Notes below path k new
notes_none below path k new p h = record { all = λ list n i e. by i.0 list n (sym p ∙ i.1) e }
  where
    by : (front list : List Step) (n : ℕ) → [] ≡ front ++ list → number_of below list ≡ Some n → HasNumber new n k
    by [] list n e q = subst (λ y. HasNumber new y k) (some-is (ap (number_of below) e ∙ q)) h
    by (s ∷ front) list n e q = absurd (cc)

-- a path with a step more
more : (below : ℕ → Step → Option ℕ) (path w : List Step) (s : Step) (k : ℕ) (old new : List Span) → path ≡ s ∷ w → Notes below w k old → IsWider old new → ((n : ℕ) → number_of below (s ∷ w) ≡ Some n → HasNumber new n k) → Notes below path k new
more below path w s k old new p h i here = record { all = λ list n b e. by b.0 list n (sym p ∙ b.1) e }
  where
    tail-is : {x y : Step} {xs ys : List Step} → x ∷ xs ≡ y ∷ ys → xs ≡ ys
    tail-is e = cc

    by : (front list : List Step) (n : ℕ) → s ∷ w ≡ front ++ list → number_of below list ≡ Some n → HasNumber new n k
    by [] list n e q = here n (ap (number_of below) e ∙ q)
    by (x ∷ front) list n e q = has_still old new n k i (h.all list n (front, tail-is e) q)

-- one that has a number, whose list has the new number
pub notes_more : (below : ℕ → Step → Option ℕ) (path w : List Step) (s : Step) (k above list : ℕ) (old new : List Span) → path ≡ s ∷ w → Some above ≡ number_of below w → Some list ≡ below above s → Notes below w k old → IsWider old new → HasNumber new list k → Notes below path k new
notes_more below path w s k above list old new p a b h i has = more below path w s k old new p h i here
  where
    here : (n : ℕ) → number_of below (s ∷ w) ≡ Some n → HasNumber new n k
    here n e = subst (λ y. HasNumber new y k) (some-is (b ∙ ap (step_from below s) a ∙ e)) has

-- and one that has none
pub notes_past : (below : ℕ → Step → Option ℕ) (path w : List Step) (s : Step) (k : ℕ) (spans : List Span) → path ≡ s ∷ w → None ≡ number_of below path → Notes below w k spans → Notes below path k spans
notes_past below path w s k spans p a h = more below path w s k spans spans p h (wider_same spans) (λ n e. absurd (none-some (a ∙ ap (number_of below) p ∙ e)))

-- ---- moves

abbrev pub MovesTo : (ℕ → Step → Option ℕ) → List Move → ℕ → List Span → Type 0
MovesTo below moves end spans = (k : ℕ) (m : Move) → k < end → slice_get moves k ≡ Some m → Notes below m.path.items k spans

pub moves_none : (below : ℕ → Step → Option ℕ) (moves : List Move) (spans : List Span) → MovesTo below moves 0 spans
moves_none below moves spans k m l h = absurd (omega (arith, l))

pub moves_next : (below : ℕ → Step → Option ℕ) (moves : List Move) (i : ℕ) (x : Move) (old new : List Span) → i < length moves → x ≡ get_or moves i x → IsWider old new → Notes below x.path.items i new → MovesTo below moves i old → MovesTo below moves (i + 1) new
moves_next below moves i x old new l e w h before k m q s = elim (near k i q) [
  | inl c ↦ notes_still below m.path.items k old new w (before k m c s)
  | inr c ↦
      let is : m ≡ x = some-is (sym s ∙ ap (slice_get moves) c ∙ at_index moves i x l e) in
      subst (λ z. Notes below z.path.items k new) (sym is) (subst (λ z. Notes below x.path.items z new) (sym c) h)
]

pub moves_all : (below : ℕ → Step → Option ℕ) (moves : List Move) (i : ℕ) (spans : List Span) → length moves ≤ i → MovesTo below moves i spans → NotesMoves below moves spans
moves_all below moves i spans l h k m e = let w = slice_get_within moves k m e in h k m (omega (arith, l, w)) e

-- ---- differences

abbrev pub DifferencesTo : (ℕ → Step → Option ℕ) → List Difference → ℕ → ℕ → List Span → Type 0
DifferencesTo below list number end spans = (k : ℕ) (d : Difference) → k < end → slice_get list k ≡ Some d → Notes below d.path.items number spans

pub differences_none : (below : ℕ → Step → Option ℕ) (list : List Difference) (number : ℕ) (spans : List Span) → DifferencesTo below list number 0 spans
differences_none below list number spans k d l h = absurd (omega (arith, l))

pub differences_next : (below : ℕ → Step → Option ℕ) (list : List Difference) (number i : ℕ) (x : Difference) (old new : List Span) → i < length list → x ≡ get_or list i x → IsWider old new → Notes below x.path.items number new → DifferencesTo below list number i old → DifferencesTo below list number (i + 1) new
differences_next below list number i x old new l e w h before k d q s = elim (near k i q) [
  | inl c ↦ notes_still below d.path.items number old new w (before k d c s)
  | inr c ↦
      let is : d ≡ x = some-is (sym s ∙ ap (slice_get list) c ∙ at_index list i x l e) in
      subst (λ z. Notes below z.path.items number new) (sym is) h
]

pub differences_all : (below : ℕ → Step → Option ℕ) (list : List Difference) (number i : ℕ) (spans : List Span) → length list ≤ i → DifferencesTo below list number i spans → NotesDifferences below list number spans
differences_all below list number i spans l h k d e = let w = slice_get_within list k d e in h k d (omega (arith, l, w)) e

-- both, where the differences are noted behind the moves
pub moves_still : (below : ℕ → Step → Option ℕ) (moves : List Move) (old new : List Span) → IsWider old new → NotesMoves below moves old → NotesMoves below moves new
moves_still below moves old new w h k m e = notes_still below m.path.items k old new w (h k m e)

-- ---- the span of a list

pub span_is : (below : ℕ → Step → Option ℕ) (f : Found) (spans : List Span) (path : List Step) (n : ℕ) (s : Span) → NotesMoves below f.moves.items spans → NotesDifferences below f.list.items (length f.moves.items) spans → Some n ≡ number_of below path → slice_get spans n ≡ Some s → IsSpan f path s
span_is below f spans path n s h g e i = record {
  moves = λ k m a b. (h k m a).all path n b (sym e) s i;
  differences = λ k d a b. ((g k d a).all path n b (sym e) s i).1;
}

pub span_found : (below : ℕ → Step → Option ℕ) (f : Found) (spans : List Span) (path : List Step) (n : ℕ) (r : Option Span) → NotesMoves below f.moves.items spans → NotesDifferences below f.list.items (length f.moves.items) spans → Some n ≡ number_of below path → r ≡ slice_get spans n → IfSome r (IsSpan f path)
span_found below f spans path n None h g e i = tt
span_found below f spans path n (Some s) h g e i = span_is below f spans path n s h g e (sym i)

pub covers : (below : ℕ → Step → Option ℕ) (f : Found) (moves : List Move) (list : List Difference) (n : ℕ) (old new : List Span) → moves ≡ f.moves.items → list ≡ f.list.items → n ≡ length f.moves.items → IsWider old new → NotesMoves below moves old → NotesDifferences below list n new
    → NotesMoves below f.moves.items new × NotesDifferences below f.list.items (length f.moves.items) new
covers below f moves list n old new a b c w h g = (
  subst (λ z. NotesMoves below z new) a (moves_still below moves old new w h),
  subst (λ z. NotesDifferences below f.list.items z new) c (subst (λ z. NotesDifferences below z n new) b g),
)
