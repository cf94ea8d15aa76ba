-- The files of `faults` and `warn` in turn.
use Rattle.std.proofs.Common.{◌≡◌, ℕ, ◌+◌, ◌≤◌, ◌<◌, max, List, [], ◌∷◌, Option, length, map, drop, get_or, inl, inr, refl, sym, ◌∙◌, ap, subst, arith}
use Rattle.std.specs.Prelude.{Result, Ok, Err, IfErr}
use Rattle.std.specs.Result.{IsErrAnd}
use Rattle.std.proofs.lemmas.List.{length-map, get_or-map}
use Rattle.std.proofs.Math.ListN.{drop_of_length-le}
use Rattle.yaml_text.specs.declared.fault.Fault.{Fault}
use Rattle.yaml_text.specs.declared.fault.Fault.TheVariants.{WriteFault}
use Rattle.yaml_text.specs.declared.counted.Counted.{Counted}
use Rattle.yaml_command.specs.Printing.{PrintFails}
use Rattle.review_text.proofs.Pieces.{drop_next}
use Rattle.review_text.specs.declared.options.Form.{Form}
use Rattle.review_reports.specs.declared.reports.Kind.{Kind}
use Rattle.review_reports.specs.Reports.{HasText, TellsFile, CutsFile, TellsFiles}

-- the names that are left begin with the next one
pub name_next : {X : Type 0} (f : X → List ℕ) (xs : List X) (i : ℕ) (d : X) → i < length xs → drop i (map f xs) ≡ f (get_or xs i d) ∷ drop (i + 1) (map f xs)
name_next f xs i d within =
    let k : i < length (map f xs) = omega (arith, length-map xs f, within) in
    drop_next (map f xs) i (f d) k ∙ ap (λ z. z ∷ drop (i + 1) (map f xs)) (get_or-map f xs i d (f d) within)

-- and none is left behind the last
pub none_left : {X : Type 0} (f : X → List ℕ) (xs : List X) (i : ℕ) → length xs ≤ i → drop i (map f xs) ≡ []
none_left f xs i past = drop_of_length-le (map f xs) (omega (arith, length-map xs f, past))

-- what holds of an error holds of an answer that is this error
pub at_err : {X : Type 0} (r : Result X Fault) (e : Fault) (P : Fault → Type 0) → IsErrAnd r (λ y. y ≡ e) → P e → IfErr r P
at_err (Ok x) e P h p = tt
at_err (Err y) e P h p = subst P (sym h) p

-- the output fails behind a beginning of a file's text
pub cuts : {R W : Type 0} (holds : List ℕ → Option (List ℕ)) (remaining : R → Option (List ℕ)) (contents : W → Option (List ℕ)) (kind : Kind) (form : Form) (name : List ℕ) (old new : R) (out end : Counted W) (text : List ℕ) (status : ℕ) (fault : Fault)
    → HasText holds remaining kind form name old new text status → PrintFails contents out end text fault → CutsFile holds remaining contents kind form name old new out end fault
cuts holds remaining contents kind form name old new out end text status WriteFault h p = record { text = text; status = status; has = h; broke = p; is = refl }
cuts holds remaining contents kind form name old new out end text status _ h p = absurd p

module _ {R W : Type 0} (holds : List ℕ → Option (List ℕ)) (remaining : R → Option (List ℕ)) (contents : W → Option (List ℕ)) (kind : Kind) (form : Form) (names : List (List ℕ)) (old : R) (out : Counted W) where
  abbrev Tells : List (List ℕ) → R → R → Counted W → Counted W → ℕ → Type 0
  Tells ns from to before after status = TellsFiles holds remaining contents kind form ns from to before after status

  -- what becomes of the files that are left becomes of all, with the greater status
  abbrev pub GoesOn : List (List ℕ) → R → Counted W → ℕ → Type 0
  GoesOn rest mid at status = (new : R) (end : Counted W) (s : ℕ) → Tells rest mid new at end s → Tells names old new out end (max status s)

  pub begins : GoesOn names old out 0
  begins new end s h = let e : s ≡ max 0 s = omega arith in subst (Tells names old new out end) e h

  one_more : (name : List ℕ) (rest ns : List (List ℕ)) (mid next : R) (at behind : Counted W) (status first more : ℕ) → ns ≡ name ∷ rest → GoesOn ns mid at status → TellsFile holds remaining contents kind form name mid next at behind first → more ≡ max status first → GoesOn rest next behind more
  one_more name rest ns mid next at behind status first more e g h m new end s k =
      let up : max status (max first s) ≡ max more s = omega (arith, m) in
      let all : Tells (name ∷ rest) mid new at end (max first s) = inl (next, behind, first, s, h, k, refl) in
      subst (Tells names old new out end) up (g new end (max first s) (subst (λ z. Tells z mid new at end (max first s)) (sym e) all))

  stops : (name : List ℕ) (rest ns : List (List ℕ)) (mid new : R) (at end : Counted W) (status last all : ℕ) → ns ≡ name ∷ rest → GoesOn ns mid at status → CutsFile holds remaining contents kind form name mid new at end WriteFault → last ≡ 3 → all ≡ max status last → Tells names old new out end all
  stops name rest ns mid new at end status last all e g h l m =
      let up : max status 3 ≡ all = omega (arith, l, m) in
      let cut : Tells (name ∷ rest) mid new at end 3 = inr (h, refl) in
      subst (Tells names old new out end) up (g new end 3 (subst (λ z. Tells z mid new at end 3) (sym e) cut))

  pub all_told : (ns : List (List ℕ)) (new : R) (end : Counted W) (status : ℕ) → ns ≡ [] → GoesOn ns new end status → Tells names old new out end status
  all_told ns new end status e g =
      let up : max status 0 ≡ status = omega arith in
      let none : Tells [] new new end end 0 = (refl, refl, refl) in
      subst (Tells names old new out end) up (g new end 0 (subst (λ z. Tells z new new end end 0) (sym e) none))

  -- the same of the names of a list, by the number of the next one
  module _ {X : Type 0} (f : X → List ℕ) (xs : List X) (i : ℕ) (d : X) (within : i < length xs) where
    pub one_more_at : (mid next : R) (at behind : Counted W) (status first more : ℕ) → GoesOn (drop i (map f xs)) mid at status → TellsFile holds remaining contents kind form (f (get_or xs i d)) mid next at behind first → more ≡ max status first → GoesOn (drop (i + 1) (map f xs)) next behind more
    one_more_at mid next at behind status first more g h m = one_more (f (get_or xs i d)) (drop (i + 1) (map f xs)) (drop i (map f xs)) mid next at behind status first more (name_next f xs i d within) g h m

    pub stops_at : (mid new : R) (at end : Counted W) (status last all : ℕ) → GoesOn (drop i (map f xs)) mid at status → CutsFile holds remaining contents kind form (f (get_or xs i d)) mid new at end WriteFault → last ≡ 3 → all ≡ max status last → Tells names old new out end all
    stops_at mid new at end status last all g h l m = stops (f (get_or xs i d)) (drop (i + 1) (map f xs)) (drop i (map f xs)) mid new at end status last all (name_next f xs i d within) g h l m
