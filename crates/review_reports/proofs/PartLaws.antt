-- The parts of a page, by the files of two folders in turn.
use Rattle.std.proofs.Common.{◌≡◌, ℕ, ◌+◌, ◌<◌, ◌≤◌, max, List, [], ◌∷◌, ◌++◌, Option, length, drop, get_or, inl, inr, refl, sym, ◌∙◌, ap, subst, arith}
use Rattle.std.proofs.lemmas.List.{append_assoc, append-nil}
use Rattle.std.proofs.Math.ListN.{drop_of_length-le}
use Rattle.yaml_text.specs.declared.fault.Fault.{Fault}
use Rattle.yaml_text.specs.declared.fault.Fault.TheVariants.{WriteFault}
use Rattle.yaml_text.specs.declared.counted.Counted.{Counted}
use Rattle.yaml_command.specs.Printing.{PrintFails}
use Rattle.review_text.proofs.Pieces.{drop_next}
use Rattle.review_patterns.specs.declared.pattern.Pattern.{Pattern}
use Rattle.review_text.specs.declared.options.Diff.{Diff}
use Rattle.review_text.specs.declared.options.Page.{Page}
use Rattle.review_formats.specs.declared.finding.Part.{Part}
use Rattle.review_files.specs.Lines.{TakesLine}
use Rattle.review_files.specs.Statuses.{fault_status}
use Rattle.review_reports.specs.declared.entry.Entry.{Entry}
use Rattle.review_reports.specs.Parts.{IsPartsText}
use Rattle.review_reports.specs.FolderPages.{HasFound, HasPart, FindsParts, WritesParts}

-- the output fails behind a beginning of the text
pub parts_cut : {W : Type 0} (contents : W → Option (List ℕ)) (asked : Diff) (page : Page) (parts : List Part) (out end : Counted W) (text : List ℕ) (found last all : ℕ) (fault : Fault) → IsPartsText asked.left.now asked.right.now page parts text → PrintFails contents out end text fault → last ≡ fault_status fault → all ≡ max found last → WritesParts contents asked page parts out end found all
parts_cut contents asked page parts out end text found last all WriteFault is p l m = inr (inr (inl (text, is, p, m ∙ ap (max found) l)))
parts_cut contents asked page parts out end text found last all _ is p l m = absurd p

module _ {E : Type 0} (holds : List ℕ → Option (List ℕ)) (told : E → Option (List ℕ)) (asked : Diff) (ignored : List Pattern) (page : Page) (entries : List Entry) (before : E) where
  abbrev All : List Entry → List Part → E → E → ℕ → Type 0
  All es parts first last status = FindsParts holds told asked ignored page es parts first last status

  abbrev One : Entry → Part → List ℕ → ℕ → Type 0
  One entry found err status = HasFound holds entry.has asked ignored page entry.name.now found err status

  -- the parts of the files that are left stand behind those that were found, with the greater status
  abbrev pub GoesOn : List Entry → List Part → E → ℕ → Type 0
  GoesOn rest list heard status = (more : List Part) (after : E) (s : ℕ) → All rest more heard after s → All entries (list ++ more) before after (max status s)

  pub begins : (list : List Part) → list ≡ [] → GoesOn entries list before 0
  begins list n more after s h =
      let e : s ≡ max 0 s = omega arith in
      subst (λ z. All entries (z ++ more) before after (max 0 s)) (sym n) (subst (All entries more before after) e h)

  one_more : (entry : Entry) (rest es : List Entry) (list own both : List Part) (found : Part) (err : List ℕ) (heard said : E) (status first more : ℕ) → es ≡ entry ∷ rest → GoesOn es list heard status → One entry found err first → TakesLine told heard said err → HasPart entry.name.now found own → both ≡ list ++ own → more ≡ max status first → GoesOn rest both said more
  one_more entry rest es list own both found err heard said status first more e g h l p b m tail after s k =
      let up : max status (max first s) ≡ max more s = omega (arith, m) in
      let all : All (entry ∷ rest) (own ++ tail) heard after (max first s) = (found, err, own, tail, said, first, s, h, l, p, k, refl, refl) in
      let given = g (own ++ tail) after (max first s) (subst (λ z. All z (own ++ tail) heard after (max first s)) (sym e) all) in
      let lists : list ++ (own ++ tail) ≡ both ++ tail = sym (append_assoc list own tail) ∙ ap (λ z. z ++ tail) (sym b) in
      subst (λ z. All entries z before after (max more s)) lists (subst (All entries (list ++ (own ++ tail)) before after) up given)

  -- none is left
  pub all_found : (i : ℕ) → length entries ≤ i → (list : List Part) (after : E) (status : ℕ) → GoesOn (drop i entries) list after status → All entries list before after status
  all_found i past list after status g =
      let up : max status 0 ≡ status = omega arith in
      let none : All [] [] after after 0 = (refl, refl, refl) in
      let given = g [] after 0 (subst (λ z. All z [] after after 0) (sym (drop_of_length-le entries past)) none) in
      subst (λ z. All entries z before after status) (append-nil list) (subst (All entries (list ++ []) before after) up given)

  -- the same of the next one, by its number
  pub one_more_at : (i : ℕ) (d : Entry) → i < length entries → (list own both : List Part) (found : Part) (err : List ℕ) (heard said : E) (status first more : ℕ) → GoesOn (drop i entries) list heard status → One (get_or entries i d) found err first → TakesLine told heard said err → HasPart (get_or entries i d).name.now found own → both ≡ list ++ own → more ≡ max status first → GoesOn (drop (i + 1) entries) both said more
  one_more_at i d within list own both found err heard said status first more g h l p b m =
      one_more (get_or entries i d) (drop (i + 1) entries) (drop i entries) list own both found err heard said status first more (drop_next entries i d within) g h l p b m
