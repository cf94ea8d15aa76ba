-- What is found in files in turn.
use Rattle.std.proofs.Common.{◌≡◌, ℕ, ◌+◌, ◌<◌, max, List, [], ◌∷◌, ◌++◌, Option, length, map, drop, get_or, refl, sym, ◌∙◌, ap, subst, arith}
use Rattle.std.proofs.lemmas.List.{append_assoc, append-nil}
use Rattle.review_formats.specs.declared.finding.Finding.{Finding}
use Rattle.review_reports.specs.declared.reports.Kind.{Kind}
use Rattle.review_reports.specs.Pages.{FindsFile, FindsFiles}
use Rattle.review_reports.proofs.ReportLaws.{name_next}

module _ {R : Type 0} (holds : List ℕ → Option (List ℕ)) (remaining : R → Option (List ℕ)) (kind : Kind) (names : List (List ℕ)) (old : R) where
  abbrev Finds : List (List ℕ) → R → R → List Finding → ℕ → Type 0
  Finds ns from to list status = FindsFiles holds remaining kind ns from to list status

  -- what is found in the files that are left stands behind what was found, with the greater status
  abbrev pub GoesOn : List (List ℕ) → R → List Finding → ℕ → Type 0
  GoesOn rest mid list status = (new : R) (more : List Finding) (s : ℕ) → Finds rest mid new more s → Finds names old new (list ++ more) (max status s)

  pub begins : (list : List Finding) → list ≡ [] → GoesOn names old list 0
  begins list n new more s h =
      let e : s ≡ max 0 s = omega arith in
      subst (λ z. Finds names old new (z ++ more) (max 0 s)) (sym n) (subst (Finds names old new more) e h)

  one_more : (name : List ℕ) (rest ns : List (List ℕ)) (mid next : R) (list found both : List Finding) (status first more : ℕ) → ns ≡ name ∷ rest → GoesOn ns mid list status → FindsFile holds remaining kind name mid next found first → both ≡ list ++ found → more ≡ max status first → GoesOn rest next both more
  one_more name rest ns mid next list found both status first more e g h b m new tail s k =
      let up : max status (max first s) ≡ max more s = omega (arith, m) in
      let all : Finds (name ∷ rest) mid new (found ++ tail) (max first s) = (next, found, tail, first, s, h, k, refl, refl) in
      let given = g new (found ++ tail) (max first s) (subst (λ z. Finds z mid new (found ++ tail) (max first s)) (sym e) all) in
      let lists : list ++ (found ++ tail) ≡ both ++ tail = sym (append_assoc list found tail) ∙ ap (λ z. z ++ tail) (sym b) in
      subst (λ z. Finds names old new z (max more s)) lists (subst (Finds names old new (list ++ (found ++ tail))) up given)

  pub all_found : (ns : List (List ℕ)) (new : R) (list : List Finding) (status : ℕ) → ns ≡ [] → GoesOn ns new list status → Finds names old new list status
  all_found ns new list status e g =
      let up : max status 0 ≡ status = omega arith in
      let none : Finds [] new new [] 0 = (refl, refl, refl) in
      subst (λ z. Finds names old new z status) (append-nil list) (subst (Finds names old new (list ++ [])) up (g new [] 0 (subst (λ z. Finds z new new [] 0) (sym e) none)))

  -- the same of the names of a list, by the number of the next one
  pub one_more_at : {X : Type 0} (f : X → List ℕ) (xs : List X) (i : ℕ) (d : X) → i < length xs → (mid next : R) (list found both : List Finding) (status first more : ℕ) → GoesOn (drop i (map f xs)) mid list status → FindsFile holds remaining kind (f (get_or xs i d)) mid next found first → both ≡ list ++ found → more ≡ max status first → GoesOn (drop (i + 1) (map f xs)) next both more
  one_more_at f xs i d within mid next list found both status first more g h b m = one_more (f (get_or xs i d)) (drop (i + 1) (map f xs)) (drop i (map f xs)) mid next list found both status first more (name_next f xs i d within) g h b m
