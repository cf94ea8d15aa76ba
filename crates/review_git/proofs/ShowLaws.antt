-- The files of `show` in turn.
use Rattle.std.proofs.Common.{◌≡◌, ℕ, ◌+◌, ◌≤◌, ◌<◌, max, List, [], ◌∷◌, Option, length, map, drop, get_or, inl, inr, refl, sym, ◌∙◌, ap, subst, arith}
use Rattle.std.specs.Prelude.{Result, Ok, Err, IfOk, IfErr, true}
use Rattle.std.proofs.lemmas.List.{length-map, get_or-map}
use Rattle.std.proofs.Math.ListN.{drop_of_length-le}
use Rattle.yaml_text.specs.declared.fault.Fault.{Fault}
use Rattle.yaml_text.specs.declared.counted.Counted.{Counted}
use Rattle.yaml_text.specs.CountedModel.{faults_of}
use Rattle.yaml_command.specs.Printing.{PrintFails}
use Rattle.yaml_show.specs.declared.unshown.Unshown.{Unshown}
use Rattle.review_text.proofs.Pieces.{drop_next}
use Rattle.review_args.specs.declared.words.Show.{Show}
use Rattle.review_files.specs.Lines.{TakesLine, bare_line}
use Rattle.review_files.specs.Named.{ReadsNamed}
use Rattle.review_files.specs.Statuses.{fault_status}
use Rattle.review_git.specs.ShownFiles.{IsText, HasNone, TellsUnshown, PrintsSource, ShowsText, CutsShown, ShowsBytes, CutsBytes, ShowsFile, CutsFile, ShowsFiles}

-- ---- the bytes of a file

module _ {W E : Type 0} (contents : W → Option (List ℕ)) (told : E → Option (List ℕ)) (asked : Show) (name bytes : List ℕ) (out end : Counted W) (before after : E) where
  pub text_shown : (text : List ℕ) (r : Result ℕ Fault) → IsText asked.format bytes text → IfOk r (ShowsText contents told asked name bytes text out end before after) → IfOk r (ShowsBytes contents told asked name bytes out end before after)
  text_shown text (Ok status) t h = inl (text, t, h)
  text_shown text (Err fault) t h = tt

  pub text_cut : (text : List ℕ) (r : Result ℕ Fault) → IsText asked.format bytes text → IfErr r (CutsShown contents told asked name bytes text out end before after) → IfErr r (CutsBytes contents told asked name bytes out end before after)
  text_cut text (Ok status) t h = tt
  text_cut text (Err fault) t h = inl (text, t, h)

  pub none_shown : (why : Unshown) (first : ℕ) (r : Result ℕ Fault) → HasNone asked.format bytes why → TellsUnshown told name bytes why before after first → IfOk r (PrintsSource contents asked.textconv bytes first out end) → IfOk r (ShowsBytes contents told asked name bytes out end before after)
  none_shown why first (Ok status) n t p = inr (why, first, n, t, p)
  none_shown why first (Err fault) n t p = tt

  pub none_cut : (why : Unshown) (first : ℕ) (r : Result ℕ Fault) → HasNone asked.format bytes why → TellsUnshown told name bytes why before after first → IfErr r (λ fault. asked.textconv ≡ true) → IfErr r (PrintFails contents out end bytes) → IfErr r (CutsBytes contents told asked name bytes out end before after)
  none_cut why first (Ok status) n t a p = tt
  none_cut why first (Err fault) n t a p = inr (why, first, n, t, a, p)

-- ---- a file that is read

module _ {R W E : Type 0} (holds : List ℕ → Option (List ℕ)) (remaining : R → Option (List ℕ)) (contents : W → Option (List ℕ)) (told : E → Option (List ℕ)) (asked : Show) (name bytes : List ℕ) (old new : R) (out end : Counted W) (before after : E) (read : ReadsNamed holds remaining name old new bytes) where
  pub file_shown : (r : Result ℕ Fault) → IfOk r (ShowsBytes contents told asked name bytes out end before after) → IfOk r (ShowsFile holds remaining contents told asked name old new out end before after)
  file_shown (Ok status) h = inl (bytes, read, h)
  file_shown (Err fault) h = tt

  pub file_cut : (r : Result ℕ Fault) → IfErr r (CutsBytes contents told asked name bytes out end before after) → IfErr r (CutsFile holds remaining contents told asked name old new out end before after)
  file_cut (Ok status) h = tt
  file_cut (Err fault) h = (bytes, read, h)

-- ---- files in turn

-- the names that are left begin with the next one
name_next : {X : Type 0} (f : X → List ℕ) (xs : List X) (i : ℕ) (d : X) → i < length xs → drop i (map f xs) ≡ f (get_or xs i d) ∷ drop (i + 1) (map f xs)
name_next f xs i d within =
    let k : i < length (map f xs) = omega (arith, length-map xs f, within) in
    drop_next (map f xs) i (f d) k ∙ ap (λ z. z ∷ drop (i + 1) (map f xs)) (get_or-map f xs i d (f d) within)

-- and none is left behind the last
pub none_left : {X : Type 0} (f : X → List ℕ) (xs : List X) (i : ℕ) → length xs ≤ i → drop i (map f xs) ≡ []
none_left f xs i past = drop_of_length-le (map f xs) (omega (arith, length-map xs f, past))

module _ {R W E : Type 0} (holds : List ℕ → Option (List ℕ)) (remaining : R → Option (List ℕ)) (contents : W → Option (List ℕ)) (told : E → Option (List ℕ)) where
  -- no call of the output fails at a file that it takes
  pub shown_kept : (asked : Show) (name : List ℕ) (old new : R) (out end : Counted W) (before after : E) (status : ℕ) → ShowsFile holds remaining contents told asked name old new out end before after status → faults_of end ≡ faults_of out
  shown_kept asked name old new out end before after status (inl (bytes, r, inl (text, i, inl (has_one, t, inl (w, p, s))))) = p.counted
  shown_kept asked name old new out end before after status (inl (bytes, r, inl (text, i, inl (has_one, t, inr (w, e, s))))) = ap faults_of e
  shown_kept asked name old new out end before after status (inl (bytes, r, inl (text, i, inr (t, e)))) = ap faults_of e
  shown_kept asked name old new out end before after status (inl (bytes, r, inr (why, first, n, t, inl (c, p, a)))) = p.counted
  shown_kept asked name old new out end before after status (inl (bytes, r, inr (why, first, n, t, inr (c, e, a)))) = ap faults_of e
  shown_kept asked name old new out end before after status (inr (why, r, t, e)) = ap faults_of e

module _ {R W E : Type 0} (holds : List ℕ → Option (List ℕ)) (remaining : R → Option (List ℕ)) (contents : W → Option (List ℕ)) (told : E → Option (List ℕ)) (asked : Show) (names : List (List ℕ)) (old : R) (out : Counted W) (before : E) where
  abbrev All : List (List ℕ) → R → R → Counted W → Counted W → E → E → ℕ → Type 0
  All ns from to start stop first last status = ShowsFiles holds remaining contents told asked ns from to start stop first last status

  abbrev One : List ℕ → R → R → Counted W → Counted W → E → E → ℕ → Type 0
  One name from to start stop first last status = ShowsFile holds remaining contents told asked name from to start stop first last status

  abbrev Cut : List ℕ → R → R → Counted W → Counted W → E → E → Fault → Type 0
  Cut name from to start stop first last fault = CutsFile holds remaining contents told asked name from to start stop first last fault

  -- what becomes of the files that are left becomes of all, with the greater status
  abbrev pub GoesOn : List (List ℕ) → R → Counted W → E → ℕ → Type 0
  GoesOn rest mid at heard status = (new : R) (end : Counted W) (after : E) (s : ℕ) → All rest mid new at end heard after s → All names old new out end before after (max status s)

  pub begins : GoesOn names old out before 0
  begins new end after s h = let e : s ≡ max 0 s = omega arith in subst (All names old new out end before after) e h

  one_more : (name : List ℕ) (rest ns : List (List ℕ)) (mid next : R) (at behind : Counted W) (heard said : E) (status first more : ℕ)
      → ns ≡ name ∷ rest → GoesOn ns mid at heard status → One name mid next at behind heard said first → more ≡ max status first → GoesOn rest next behind said more
  one_more name rest ns mid next at behind heard said status first more e g h m new end after s k =
      let up : max status (max first s) ≡ max more s = omega (arith, m) in
      let all : All (name ∷ rest) mid new at end heard after (max first s) = inl (next, behind, said, first, s, h, k, refl) in
      subst (All names old new out end before after) up (g new end after (max first s) (subst (λ z. All z mid new at end heard after (max first s)) (sym e) all))

  stops : (name : List ℕ) (rest ns : List (List ℕ)) (mid new : R) (at end : Counted W) (heard said after : E) (status last whole : ℕ) (fault : Fault)
      → ns ≡ name ∷ rest → GoesOn ns mid at heard status → Cut name mid new at end heard said fault → TakesLine told said after (bare_line fault) → last ≡ fault_status fault → whole ≡ max status last → All names old new out end before after whole
  stops name rest ns mid new at end heard said after status last whole fault e g h t l m =
      let cut : All (name ∷ rest) mid new at end heard after last = inr (said, fault, h, t, l) in
      subst (All names old new out end before after) (sym m) (g new end after last (subst (λ z. All z mid new at end heard after last) (sym e) cut))

  pub all_shown : (ns : List (List ℕ)) (new : R) (end : Counted W) (after : E) (status : ℕ) → ns ≡ [] → GoesOn ns new end after status → All names old new out end before after status
  all_shown ns new end after status e g =
      let up : max status 0 ≡ status = omega arith in
      let none : All [] new new end end after after 0 = (refl, refl, refl, refl) in
      subst (All names old new out end before after) up (g new end after 0 (subst (λ z. All z new new end end after after 0) (sym e) none))

  -- the same of the names of a list, by the number of the next one
  module _ {X : Type 0} (f : X → List ℕ) (xs : List X) (i : ℕ) (d : X) (within : i < length xs) where
    pub one_more_at : (mid next : R) (at behind : Counted W) (heard said : E) (status first more : ℕ)
        → GoesOn (drop i (map f xs)) mid at heard status → One (f (get_or xs i d)) mid next at behind heard said first → more ≡ max status first → GoesOn (drop (i + 1) (map f xs)) next behind said more
    one_more_at mid next at behind heard said status first more g h m =
        one_more (f (get_or xs i d)) (drop (i + 1) (map f xs)) (drop i (map f xs)) mid next at behind heard said status first more (name_next f xs i d within) g h m

    pub stops_at : (mid new : R) (at end : Counted W) (heard said after : E) (status last whole : ℕ) (fault : Fault)
        → GoesOn (drop i (map f xs)) mid at heard status → Cut (f (get_or xs i d)) mid new at end heard said fault → TakesLine told said after (bare_line fault) → last ≡ fault_status fault → whole ≡ max status last → All names old new out end before after whole
    stops_at mid new at end heard said after status last whole fault g h t l m =
        stops (f (get_or xs i d)) (drop (i + 1) (map f xs)) (drop i (map f xs)) mid new at end heard said after status last whole fault (name_next f xs i d within) g h t l m
