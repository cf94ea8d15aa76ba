-- Two admitted forests have one text just where they are as long and their trees are the same, one by one.
-- And the events of a spelling stand for the forest, arranged.
use Rattle.std.proofs.Common.{◌≡◌, ℕ, suc, ◌+◌, true, List, [], ◌∷◌, map, refl, ap, arith, Ok}
use Rattle.std.proofs.lemmas.Str.{encodes_same}
use Rattle.std.specs.Cmp.Lexicographic.{pointwise}
use Rattle.std.specs.Prelude.{encode_utf8_all}
use Rattle.yaml_definitions.specs.model.Tree.{Tree}
use Rattle.yaml_definitions.specs.model.Order.{arranged}
use Rattle.yaml_definitions.specs.model.Same.{same, Keyed}
use Rattle.yaml_definitions.specs.canonical.Walk.{walk, agains}
use Rattle.yaml_definitions.specs.canonical.NodeText.{node_text}
use Rattle.yaml_definitions.specs.canonical.Spell.{short, serial_of_arranged, serial_of, spell, spell_bytes, spelled, document_of}
use Rattle.yaml_definitions.specs.model.Unfold.{trees_from, event_count}
use Rattle.yaml_definitions.specs.model.Proper.{IsProper, AreAdmitted, IsAdmittedTree}
use Rattle.yaml_definitions.specs.model.Means.{StandsFor}
use Rattle.yaml_definitions.specs.Laws.{TextsTell}
use Rattle.yaml_definitions.proofs.Members.{and_both, both_and}
use Rattle.yaml_definitions.proofs.SameLaws.{same_to, same_from}
use Rattle.yaml_definitions.proofs.Arranged.{arranged_neat}
use Rattle.yaml_definitions.proofs.UnfoldLaws.{marks_one, marks_unfold}
use Rattle.yaml_definitions.proofs.CharLaws.{tails}
use Rattle.yaml_definitions.proofs.TextLaws.{IsFine, text_once}
use Rattle.yaml_definitions.proofs.ProperLaws.{proper_arranged, proper_resolves, fine_mark}

fine_marks_of : (t : Tree) → IsProper t → IsFine (serial_of t)
unfolding serial_of
fine_marks_of t h = fine_mark short (agains (walk short (arranged t) [])) (arranged t) [] (proper_arranged t h)

marks_same : (t u : Tree) → IsAdmittedTree t → IsAdmittedTree u → serial_of t ≡ serial_of u → same t u ≡ true
unfolding serial_of
marks_same t u a b e =
    same_from t u (marks_one short (arranged t) (arranged u) (arranged_neat t a.keyed) (arranged_neat u b.keyed)
    (proper_resolves (arranged t) (proper_arranged t a.proper)) (proper_resolves (arranged u) (proper_arranged u b.proper)) e)

same_marks : (t u : Tree) → Keyed t → Keyed u → same t u ≡ true → serial_of t ≡ serial_of u
unfolding serial_of
same_marks t u m n h = ap serial_of_arranged (same_to t u m n h)

same_text : (f g : List Tree) → AreAdmitted f → AreAdmitted g → pointwise same f g ≡ true → spell f ≡ spell g
unfolding spell
same_text [] [] a b h = refl
same_text [] (u ∷ g) a b h = absurd (cc)
same_text (t ∷ f) [] a b h = absurd (cc)
same_text (t ∷ f) (u ∷ g) a b h =
    let p = and_both (same t u) (pointwise same f g) h in
    let e = same_marks t u a.0.keyed b.0.keyed p.0 in
    let i = same_text f g a.1 b.1 p.1 in
    λ z. 45 ∷ 45 ∷ 45 ∷ 32 ∷ node_text (e z) (10 ∷ i z)

text_same : (f g : List Tree) → AreAdmitted f → AreAdmitted g → spell f ≡ spell g → pointwise same f g ≡ true
unfolding spell
text_same [] [] a b h = refl
text_same [] (u ∷ g) a b h = absurd (cc)
text_same (t ∷ f) [] a b h = absurd (cc)
text_same (t ∷ f) (u ∷ g) a b h =
    let p = text_once (serial_of t) (serial_of u) (10 ∷ spell f) (10 ∷ spell g)
    (fine_marks_of t a.0.proper) (fine_marks_of u b.0.proper) (λ d m q. omega arith) (λ d m q. omega arith) (tails (tails (tails (tails h)))) in
    both_and (same t u) (pointwise same f g) (marks_same t u a.0 b.0 p.0) (text_same f g a.1 b.1 (tails p.1))

pub texts_tell : TextsTell
unfolding spell_bytes
texts_tell f g a b = (λ e. text_same f g a.trees b.trees (encodes_same (spell f) (spell g) e), λ h. ap encode_utf8_all (same_text f g a.trees b.trees h))

-- ---- what a spelling means

pub unfold_from : (at : ℕ) (f : List Tree) → AreAdmitted f → trees_from at (map (λ t. document_of (serial_of t)) f) ≡ Ok (map arranged f)
unfolding trees_from serial_of
unfold_from at [] a = refl
unfold_from at (t ∷ f) a =
    let i = marks_unfold short (arranged t) (suc at) (arranged_neat t a.0.keyed) (proper_resolves (arranged t) (proper_arranged t a.0.proper)) in
    let j = unfold_from (suc (suc (at + event_count (serial_of t)))) f a.1 in
    rw (i, j) refl

pub spelled_stands : (f : List Tree) → AreAdmitted f → StandsFor (spelled f) (map arranged f)
unfolding spelled
spelled_stands f a = record { documents = map (λ t. document_of (serial_of t)) f; cut = refl; unfolded = unfold_from 1 f a }
