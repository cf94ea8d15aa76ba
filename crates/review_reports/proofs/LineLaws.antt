-- What is printed of the files of two folders in turn.
use Rattle.std.proofs.Common.{◌≡◌, ℕ, ◌+◌, ◌<◌, ◌≤◌, max, List, [], ◌∷◌, Option, length, drop, get_or, inl, inr, refl, sym, subst, arith}
use Rattle.std.specs.Prelude.{Result, Ok, Err, OnOk, IfOk, IfErr}
use Rattle.std.proofs.Math.ListN.{drop_of_length-le}
use Rattle.yaml_text.specs.declared.fault.Fault.{Fault}
use Rattle.yaml_text.specs.declared.counted.Counted.{Counted}
use Rattle.yaml_text.specs.CountedModel.{faults_of}
use Rattle.yaml_text.specs.Writers.{Printed}
use Rattle.yaml_command.specs.Printing.{PrintFails}
use Rattle.review_text.proofs.Pieces.{drop_next}
use Rattle.review_patterns.specs.declared.pattern.Pattern.{Pattern}
use Rattle.review_text.specs.declared.options.Diff.{Diff}
use Rattle.review_files.specs.Lines.{TakesLine, bare_line}
use Rattle.review_files.specs.Statuses.{fault_status}
use Rattle.review_reports.specs.declared.entry.Entry.{Entry}
use Rattle.review_reports.specs.Printed.{EntryTold, PrintsEntry, CutsEntry, FolderPrints}

module _ {W E : Type 0} (holds : List ℕ → Option (List ℕ)) (contents : W → Option (List ℕ)) (told : E → Option (List ℕ)) (asked : Diff) (ignored : List Pattern) where
  abbrev One : Entry → Counted W → Counted W → E → E → ℕ → Type 0
  One entry start stop first last status = PrintsEntry holds contents told asked ignored entry start stop first last status

  abbrev Cut : Entry → Counted W → Counted W → E → E → Fault → Type 0
  Cut entry start stop first last fault = CutsEntry holds contents told asked ignored entry start stop first last fault

  abbrev All : List Entry → Counted W → Counted W → E → E → ℕ → Type 0
  All es start stop first last status = FolderPrints holds contents told asked ignored es start stop first last status

  -- no call of the output fails at a file that it takes
  pub entry_kept : (entry : Entry) (start stop : Counted W) (first last : E) (status : ℕ) → One entry start stop first last status → faults_of stop ≡ faults_of start
  entry_kept entry start stop first last status (out, err, t, l, p) = p.counted

  -- the output takes what is printed of a file
  pub entry_printed : (entry : Entry) (start stop : Counted W) (first last : E) (out err : List ℕ) (status : ℕ) (r : Result ℕ Fault) → EntryTold holds asked ignored entry out err status → TakesLine told first last err → OnOk r (Printed contents start stop out) → IfOk r (λ s. s ≡ status)
      → IfOk r (One entry start stop first last)
  entry_printed entry start stop first last out err status (Ok s) h l p e = (out, err, subst (EntryTold holds asked ignored entry out err) (sym e) h, l, p)
  entry_printed entry start stop first last out err status (Err fault) h l p e = tt

  -- or it fails
  pub entry_cut : (entry : Entry) (start stop : Counted W) (first last : E) (out err : List ℕ) (status : ℕ) (r : Result ℕ Fault) → EntryTold holds asked ignored entry out err status → TakesLine told first last err → IfErr r (PrintFails contents start stop out) → IfErr r (Cut entry start stop first last)
  entry_cut entry start stop first last out err status (Ok s) h l p = tt
  entry_cut entry start stop first last out err status (Err fault) h l p = inl (out, err, status, h, l, p)

  module _ (entries : List Entry) (old : Counted W) (before : E) where
    -- what becomes of the files that are left becomes of all, with the greater status
    abbrev pub GoesOn : List Entry → Counted W → E → ℕ → Type 0
    GoesOn rest at heard status = (end : Counted W) (after : E) (s : ℕ) → All rest at end heard after s → All entries old end before after (max status s)

    pub begins : GoesOn entries old before 0
    begins end after s h = let e : s ≡ max 0 s = omega arith in subst (All entries old end before after) e h

    one_more : (entry : Entry) (rest es : List Entry) (at behind : Counted W) (heard said : E) (status first more : ℕ) → es ≡ entry ∷ rest → GoesOn es at heard status → One entry at behind heard said first → more ≡ max status first → GoesOn rest behind said more
    one_more entry rest es at behind heard said status first more e g h m end after s k =
        let up : max status (max first s) ≡ max more s = omega (arith, m) in
        let all : All (entry ∷ rest) at end heard after (max first s) = inl (behind, said, first, s, h, k, refl) in
        subst (All entries old end before after) up (g end after (max first s) (subst (λ z. All z at end heard after (max first s)) (sym e) all))

    stops : (entry : Entry) (rest es : List Entry) (at end : Counted W) (heard said after : E) (status last whole : ℕ) (fault : Fault) → es ≡ entry ∷ rest → GoesOn es at heard status → Cut entry at end heard said fault → TakesLine told said after (bare_line fault) → last ≡ fault_status fault → whole ≡ max status last → All entries old end before after whole
    stops entry rest es at end heard said after status last whole fault e g h t l m =
        let cut : All (entry ∷ rest) at end heard after last = inr (said, fault, h, t, l) in
        subst (All entries old end before after) (sym m) (g end after last (subst (λ z. All z at end heard after last) (sym e) cut))

    -- none is left
    pub all_printed : (i : ℕ) → length entries ≤ i → (end : Counted W) (after : E) (status : ℕ) → GoesOn (drop i entries) end after status → All entries old end before after status
    all_printed i past end after status g =
        let up : max status 0 ≡ status = omega arith in
        let none : All [] end end after after 0 = (refl, refl, refl) in
        subst (All entries old end before after) up (g end after 0 (subst (λ z. All z end end after after 0) (sym (drop_of_length-le entries past)) none))

    -- the same of the next one, by its number
    module _ (i : ℕ) (d : Entry) (within : i < length entries) where
      pub one_more_at : (at behind : Counted W) (heard said : E) (status first more : ℕ) → GoesOn (drop i entries) at heard status → One (get_or entries i d) at behind heard said first → more ≡ max status first → GoesOn (drop (i + 1) entries) behind said more
      one_more_at at behind heard said status first more g h m = one_more (get_or entries i d) (drop (i + 1) entries) (drop i entries) at behind heard said status first more (drop_next entries i d within) g h m

      pub stops_at : (at end : Counted W) (heard said after : E) (status last whole : ℕ) (fault : Fault) → GoesOn (drop i entries) at heard status → Cut (get_or entries i d) at end heard said fault → TakesLine told said after (bare_line fault) → last ≡ fault_status fault → whole ≡ max status last → All entries old end before after whole
      stops_at at end heard said after status last whole fault g h t l m = stops (get_or entries i d) (drop (i + 1) entries) (drop i entries) at end heard said after status last whole fault (drop_next entries i d within) g h t l m
