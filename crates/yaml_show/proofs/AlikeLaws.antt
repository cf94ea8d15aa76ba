-- Streams that mean the same are shown as the same bytes.
use Rattle.std.proofs.Common.{◌≡◌, inl, inr, ℕ, ◌≤◌, List, [], ◌∷◌, length, map, refl, sym, ◌∙◌, ap, subst}
use Rattle.std.specs.Cmp.Lexicographic.{pointwise}
use Rattle.std.specs.Prelude.{encode_utf8_all, Option, Some, None, IfNone}
use Rattle.yaml_definitions.specs.model.Limits.{height_limit, text_limit}
use Rattle.yaml_definitions.specs.model.Tree.{Tree, height}
use Rattle.yaml_definitions.specs.model.Order.{arranged}
use Rattle.yaml_definitions.specs.model.Same.{same, Keyed, Alike}
use Rattle.yaml_definitions.specs.model.Proper.{AreAdmitted, Admitted}
use Rattle.yaml_definitions.specs.model.Sound.{AllProper}
use Rattle.yaml_definitions.specs.model.Means.{Means}
use Rattle.yaml_definitions.specs.canonical.Spell.{spell_bytes}
use Rattle.yaml_definitions.proofs.Members.{and_both, both_and}
use Rattle.yaml_definitions.proofs.MeaningLaws.{meaning_is_proper}
use Rattle.yaml_definitions.proofs.SameLaws.{same_to, same_from}
use Rattle.yaml_spell.specs.Documents.{arranged_bytes, spell_more}
use Rattle.yaml_spell.proofs.DocumentLaws.{arranged_same, spell_whole}
use Rattle.yaml_show.specs.JsonText.{json_text}
use Rattle.yaml_show.specs.Layout.{shown_text}
use Rattle.yaml_show.specs.Sharing.{sharing_shown}
use Rattle.yaml_canon.specs.Claims.{AllOf, MeansAlone, IsCanonicalText}
use Rattle.yaml_show.specs.Alike.{MeanAlike}
use Rattle.yaml_show.specs.Lines.{joined, SameIsJsonAlike}
use Rattle.yaml_show.specs.Shows.{ReadsBack, IsShownText, ShowsBy, SameIsShownAlike, SameIsSharedAlike}

-- ---- documents that are alike

heads : (t u : Tree) (f g : List Tree) → t ∷ f ≡ u ∷ g → t ≡ u
heads t u f g e = cc

tails : (t u : Tree) (f g : List Tree) → t ∷ f ≡ u ∷ g → f ≡ g
tails t u f g e = cc

alike_arranged : (f g : List Tree) → AllOf Keyed f → AllOf Keyed g → Alike f g → map arranged f ≡ map arranged g
alike_arranged [] [] a b h = refl
alike_arranged [] (u ∷ g) a b h = absurd (cc)
alike_arranged (t ∷ f) [] a b h = absurd (cc)
alike_arranged (t ∷ f) (u ∷ g) a b h =
    let p = and_both (same t u) (pointwise same f g) h in
    λ i. same_to t u a.0 b.0 p.0 i ∷ alike_arranged f g a.1 b.1 p.1 i

arranged_alike : (f g : List Tree) → map arranged f ≡ map arranged g → Alike f g
arranged_alike [] [] e = refl
arranged_alike [] (u ∷ g) e = absurd (cc)
arranged_alike (t ∷ f) [] e = absurd (cc)
arranged_alike (t ∷ f) (u ∷ g) e =
    both_and (same t u) (pointwise same f g) (same_from t u (heads (arranged t) (arranged u) (map arranged f) (map arranged g) e)) (arranged_alike f g (tails (arranged t) (arranged u) (map arranged f) (map arranged g) e))

map-itself : (f : List Tree) → map (λ t. t) f ≡ f
map-itself [] = refl
map-itself (t ∷ f) = ap (λ z. t ∷ z) (map-itself f)

arranged_spelled : (f : List Tree) → arranged_bytes (map arranged f) ≡ spell_bytes f
arranged_spelled f = ap encode_utf8_all (arranged_same (λ t. t) f []) ∙ ap (λ z. encode_utf8_all (spell_more z [])) (map-itself f) ∙ spell_whole f

same_spelled : (f g : List Tree) → map arranged f ≡ map arranged g → spell_bytes f ≡ spell_bytes g
same_spelled f g e = sym (arranged_spelled f) ∙ ap arranged_bytes e ∙ arranged_spelled g

-- ---- documents that are admitted

are_admitted : (f : List Tree) → AllProper f → AllOf Keyed f → AllOf (λ t. height t ≤ height_limit) f → AreAdmitted f
are_admitted [] p k l = tt
are_admitted (t ∷ f) p k l = (record { proper = p.0; keyed = k.0; low = l.0 }, are_admitted f p.1 k.1 l.1)

-- what means the same as admitted documents is admitted
admitted_alike : (text : List ℕ) (f g : List Tree) → Admitted f → AllOf Keyed f → MeansAlone text g → Alike f g → Admitted g
admitted_alike text f g a k m h = record {
  trees = are_admitted g (meaning_is_proper text g m.means) m.keyed m.low;
  fits = subst (λ z. length z ≤ text_limit) (same_spelled f g (alike_arranged f g k m.keyed h)) a.fits;
}

-- ---- what is shown

pub when_none : {T P : Type 0} (o : Option T) → o ≡ None → IfNone o P → P
when_none None e h = h
when_none (Some x) e h = absurd (cc)

pub shows_written : (write : List Tree → List ℕ) (bytes text : List ℕ) → MeanAlike bytes text → ((f : List Tree) → Means bytes f → text ≡ write f) → ShowsBy write bytes text
shows_written write bytes text m r =
    let e = r m.meant m.bytes_mean.means in
    record { forest = m.meant; means = m.bytes_mean; shown = inl ((m.shown, subst (λ z. MeansAlone z m.shown) e m.text_means, m.alike), e) }

pub shows_canonical : (write : List Tree → List ℕ) (bytes text : List ℕ) → IsCanonicalText bytes text → ((f g : List Tree) → Admitted f → Admitted g → Means bytes f → Means (write f) g → Alike f g → ⊥) → ShowsBy write bytes text
shows_canonical write bytes text c never =
    record {
      forest = c.forest;
      means = c.accepted;
      shown = inr ((λ r. never c.forest r.0 c.admitted (admitted_alike (write c.forest) c.forest r.0 c.admitted c.accepted.keyed r.1 r.2) c.accepted.means r.1.means r.2), c.spelled);
    }

-- ---- the law

-- of a text that is one of arranged documents
module _ (text_of : List Tree → List ℕ) where
  abbrev write : List Tree → List ℕ
  write f = text_of (map arranged f)

  reads_back : (f g : List Tree) → AllOf Keyed f → AllOf Keyed g → map arranged f ≡ map arranged g → ReadsBack write f → ReadsBack write g
  reads_back f g a b e (h, m, l) = (h, subst (λ z. MeansAlone z h) (ap text_of e) m, arranged_alike g h (sym e ∙ alike_arranged f h a m.keyed l))

  shown_alike : (f g : List Tree) → AllOf Keyed f → AllOf Keyed g → map arranged f ≡ map arranged g → (s t : List ℕ) → IsShownText write f s → IsShownText write g t → s ≡ t
  shown_alike f g a b e s t (inl (p, h)) (inl (q, k)) = h ∙ ap text_of e ∙ sym k
  shown_alike f g a b e s t (inl (p, h)) (inr (q, k)) = absurd (q (reads_back f g a b e p))
  shown_alike f g a b e s t (inr (p, h)) (inl (q, k)) = absurd (p (reads_back g f b a (sym e) q))
  shown_alike f g a b e s t (inr (p, h)) (inr (q, k)) = h ∙ same_spelled f g e ∙ sym k

  same_is_alike : (left right text other : List ℕ) → MeanAlike left right → ShowsBy write left text → ShowsBy write right other → text ≡ other
  same_is_alike left right text other m p q =
      let i : p.forest ≡ m.meant = m.bytes_mean.only p.forest p.means.means in
      let j : q.forest ≡ m.shown = m.text_means.only q.forest q.means.means in
      let e = alike_arranged m.meant m.shown m.bytes_mean.keyed m.text_means.keyed m.alike in
      shown_alike p.forest q.forest p.means.keyed q.means.keyed (ap (map arranged) i ∙ e ∙ ap (map arranged) (sym j)) text other p.shown q.shown

pub same_is_shown_alike : SameIsShownAlike
same_is_shown_alike = same_is_alike shown_text

pub same_is_shared_alike : SameIsSharedAlike
same_is_shared_alike = same_is_alike sharing_shown

pub same_is_json_alike : SameIsJsonAlike
same_is_json_alike left right text other m p q =
    let a = p.theirs m.meant m.bytes_mean.means in
    let b = q.theirs m.shown m.text_means.means in
    let e = alike_arranged m.meant m.shown m.bytes_mean.keyed m.text_means.keyed m.alike in
    p.text_is ∙ ap (joined []) (a.written ∙ ap (map json_text) e ∙ sym b.written) ∙ sym q.text_is
