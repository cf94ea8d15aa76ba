-- Parts of a text that grows at its end.
use Rattle.std.proofs.Common.{◌≡◌, ℕ, List, [], ◌∷◌, ◌++◌, length, map, get_or, refl, sym, ◌∙◌, subst, arith, length-append}
use Rattle.std.specs.List.{All}
use Rattle.std.specs.Str.{IsUtf8}
use Rattle.std.proofs.lemmas.List.{map-append}
use Rattle.std.proofs.lemmas.List.Elements.{All-push, All-tail}
use Rattle.yaml_store.specs.declared.tags.Part.{Part}
use Rattle.yaml_store.specs.TagTexts.{part_of, IsPart}
use Rattle.yaml_store.proofs.Growing.{range-grown, range-new}

module _ (text more : List ℕ) where
  part-grown : (s : Part) → IsPart text s → part_of (text ++ more) s ≡ part_of text s
  part-grown s p = range-grown text more s.start s.end p.0.0 p.0.1

  pub all-grown : (spans : List Part) → All (IsPart text) spans → All (IsPart (text ++ more)) spans
  all-grown spans a k d l =
      let s = get_or spans k d in
      let p = a k d l in
      ((p.0.0, omega (arith, p.0.1, length-append text more)), subst IsUtf8 (sym (part-grown s p)) p.1)

  same-grown : (spans : List Part) → All (IsPart text) spans → map (part_of (text ++ more)) spans ≡ map (part_of text) spans
  same-grown [] a = refl
  same-grown (s ∷ spans) a = λ z. part-grown s (a 0 s (omega arith)) z ∷ same-grown spans (All-tail (IsPart text) s spans a) z

  -- with one more, which is what the text grew by
  module _ (spans : List Part) (s : Part) (a : All (IsPart text) spans) (e : s.start ≡ length text) (q : s.end ≡ length (text ++ more)) where
    is-new : part_of (text ++ more) s ≡ more
    is-new = range-new text more s.start s.end e q

    pub parts-more : IsUtf8 more → All (IsPart (text ++ more)) (spans ++ (s ∷ []))
    parts-more u =
        let l = length-append text more in
        let p : IsPart (text ++ more) s = ((omega (arith, e, q, l), omega (arith, q)), subst IsUtf8 (sym is-new) u) in
        All-push (IsPart (text ++ more)) spans s (all-grown spans a) p

    pub texts-more : map (part_of (text ++ more)) (spans ++ (s ∷ [])) ≡ map (part_of text) spans ++ (more ∷ [])
    texts-more = map-append (part_of (text ++ more)) spans (s ∷ []) ∙ (λ z. same-grown spans a z ++ (is-new z ∷ []))
