-- Streams that mean the same have no line.
use Rattle.std.proofs.Common.{◌≡◌, ℕ, zero, suc, Bool, true, false, cond, ◌&&◌, ◌==◌, List, [], ◌∷◌, ◌++◌, length, take, refl, sym, ◌∙◌, ap, subst, arith, codes}
use Rattle.std.proofs.lemmas.Bool.{eqb-true}
use Rattle.yaml_definitions.proofs.Members.{and_both}
use Rattle.yaml_diff.specs.declared.difference.Difference.{Difference}
use Rattle.yaml_diff.specs.declared.difference.Found.{Found}
use Rattle.review_text.specs.declared.options.Diff.{Diff}
use Rattle.yaml_store_rank.specs.Forests.{Forests}
use Rattle.review_text.specs.declared.options.Form.{Form}
use Rattle.review_text.specs.declared.options.Form.TheVariants as form
use Rattle.review_formats.specs.LeftOut.{is_none, left_out_text}
use Rattle.review_formats.specs.declared.left_out.LeftOut.{LeftOut}
use Rattle.review_lines.specs.Compared.{left_out_of, TellsEach, TellsDifferences, TellsFound, TellsAsked}
use Rattle.review_lines.specs.Lines.{lines_text, rest_object, rest_text}
use Rattle.review_lines.proofs.MoveLaws.{moves_none}
use Rattle.review_lines.specs.declared.lines.Line.{Line}
use Rattle.review_compare.specs.Compared.{DiffLines}

empty_by : {X : Type 0} (xs : List X) → (length xs == 0) ≡ true → xs ≡ []
empty_by [] e = refl
empty_by (x ∷ xs) e = let q = eqb-true (length (x ∷ xs)) 0 e in absurd (omega (arith, q))

-- without differences there is no line
differences_none : (columns : Bool) (g : Forests) (asked : Diff) (ds : List Difference) (ls : List Line) → ds ≡ [] → TellsDifferences columns g asked ds ls → ls ≡ []
differences_none columns g asked [] ls e h = none ls (subst (λ z. TellsEach g asked z ls) (take_none asked.lines) h.each)
  where
    take_none : {X : Type 0} (room : ℕ) → ◌≡◌ {A = List X} (take room []) []
    take_none zero = refl
    take_none (suc room) = refl

    none : (ls : List Line) → TellsEach g asked [] ls → ls ≡ []
    none [] h = refl
    none (l ∷ ls) h = absurd h
differences_none columns g asked (d ∷ ds) ls e h = absurd (cc)

-- what is left out of a list that has all
rest_none : (asked : Form) (l : LeftOut) → l.whole ≡ true → l.differences ≡ 0 → l.moves ≡ 0 → rest_text asked l ≡ []
rest_none asked l w d m = by asked
  where
    none : is_none l ≡ true
    none = ap (λ z. (z && (l.differences == 0)) && (l.moves == 0)) w ∙ ap (λ z. (z == 0) && (l.moves == 0)) d ∙ ap (λ z. z == 0) m

    by : (asked : Form) → rest_text asked l ≡ []
    by form.Line = ap (λ z. cond z [] (codes "... not listed: " ++ (left_out_text l ++ codes "\n"))) none
    by form.Json = ap (λ z. cond z [] (rest_object l)) none

none_found : (g : Forests) (asked : Diff) (f : Found) (text : List ℕ) → f.whole ≡ true → f.list.items ≡ [] → f.moves.items ≡ [] → TellsFound g asked f text → text ≡ []
none_found g asked f text w l m t =
    let lines = differences_none _ g asked f.list.items t.lines l t.differences in
    let moves = moves_none _ g asked f _ t.move_lines t.untold m t.moves in
    let left = left_out_of f t.lines t.untold in
    let none : left.differences ≡ 0 = let n = ap length l in omega (arith, n) in
    t.is
    ∙ ap (λ z. (lines_text asked t.lines ++ lines_text asked t.move_lines) ++ z) (rest_none asked.form left w none moves.1)
    ∙ ap (λ z. (lines_text asked z ++ lines_text asked t.move_lines) ++ []) lines ∙ ap (λ z. ([] ++ lines_text asked z) ++ []) moves.0

none_asked : (n : ℕ) (g : Forests) (asked : Diff) (f : Found) (text : List ℕ) → f.whole ≡ true → f.list.items ≡ [] → f.moves.items ≡ [] → TellsAsked n g asked f text → text ≡ []
none_asked zero g asked f text w l m t = t
none_asked (suc n) g asked f text w l m t = none_found g asked f text w l m t

pub no_lines : (first second text : List ℕ) (asked : Diff) (same : Bool) → asked.stat ≡ false → DiffLines first second asked [] same text → same ≡ true → text ≡ []
no_lines first second text asked same s d e =
    let t = d.tells in
    let f = t.kept in
    let a = and_both (f.whole && (length f.list.items == 0)) (length f.moves.items == 0) (sym t.is_none ∙ e) in
    let b = and_both f.whole (length f.list.items == 0) a.0 in
    none_asked asked.lines d.forests asked f text b.0 (empty_by f.list.items b.1) (empty_by f.moves.items a.1) (t.tells s)
