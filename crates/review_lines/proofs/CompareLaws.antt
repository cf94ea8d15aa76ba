-- The lines of the differences that were found.
use Rattle.std.proofs.Common.{◌≡◌, ℕ, zero, suc, ◌+◌, ◌-◌, ◌<◌, ◌≤◌, ◌==◌, ◌&&◌, ◌||◌, Bool, true, false, cond, List, [], ◌∷◌, ◌++◌, length, take, drop, get_or, refl, sym, ◌∙◌, ap, subst, arith, add-one, drop-cons, max}
use Rattle.std.proofs.Math.ListN.{drop_of_length-le}
use Rattle.std.specs.List.{sum_by}
use Rattle.std.proofs.lemmas.List.{append_assoc, append-nil}
use Rattle.yaml_diff.specs.declared.difference.Difference.{Difference}
use Rattle.review_text.specs.declared.options.Diff.{Diff}
use Rattle.review_formats.specs.declared.left_out.LeftOut.{LeftOut}
use Rattle.review_lines.specs.Lines.{line_text, lines_text, rest_text}
use Rattle.review_lines.specs.Listed.{ListsFound}
use Rattle.review_lines.specs.declared.listed.Listed.{Listed}
use Rattle.review_lines.specs.declared.lines.Line.{Line}
use Rattle.yaml_diff.specs.declared.difference.Found.{Found}
use Rattle.yaml_diff.specs.declared.difference.Move.{Move}
use Rattle.review_folds.specs.Moves.{Groups}
use Rattle.review_folds.specs.declared.moves.Group.{Group}
use Rattle.std.proofs.lemmas.List.{take_more, take_all}
use Rattle.yaml_store_rank.specs.Forests.{Forests}
use Rattle.review_patterns.specs.declared.pattern.Pattern.{Pattern}
use Rattle.review_folds.specs.Ignored.{covers_all, Keeps}
use Rattle.review_folds.proofs.KeptLaws.{outside_none, moves_none}
use Rattle.review_folds.specs.Folds.{Folds}
use Rattle.review_lines.specs.Searched.{least_room, search_room}
use Rattle.review_lines.specs.Compared.{is_line, is_plain, with_lines, left_out_of, TellsOne, TellsEach, TellsDifferences, TellsGroup, TellsGroups, TellsMoves, TellsFound, TellsAsked}

-- ---- lines of differences

-- one difference and its line more
tells_more : (g : Forests) (asked : Diff) (ds : List (Difference × ℕ)) (ls : List Line) (d : Difference × ℕ) (l : Line) → TellsEach g asked ds ls → TellsOne g asked d.0 l → l.count ≡ d.1 → TellsEach g asked (ds ++ (d ∷ [])) (ls ++ (l ∷ []))
tells_more g asked [] [] d l h k n = ((k, n), tt)
tells_more g asked [] (m ∷ ls) d l h k n = absurd h
tells_more g asked (e ∷ ds) [] d l h k n = absurd h
tells_more g asked (e ∷ ds) (m ∷ ls) d l h k n = (h.0, tells_more g asked ds ls d l h.1 k n)

tells_level : (g : Forests) (asked : Diff) (ds : List (Difference × ℕ)) (ls : List Line) → TellsEach g asked ds ls → length ds ≡ length ls
tells_level g asked [] [] h = refl
tells_level g asked [] (m ∷ ls) h = absurd h
tells_level g asked (e ∷ ds) [] h = absurd h
tells_level g asked (e ∷ ds) (m ∷ ls) h = ap suc (tells_level g asked ds ls h.1)

take_none : {X : Type 0} (room : ℕ) → ◌≡◌ {A = List X} (take room []) []
take_none zero = refl
take_none (suc room) = refl

-- one more where there is room, and where there is none
take_next : {X : Type 0} (room : ℕ) (xs : List X) (x : X) → length (take room xs) < room → take room (xs ++ (x ∷ [])) ≡ take room xs ++ (x ∷ [])
take_next zero xs x l = absurd (omega (arith, l))
take_next (suc room) [] x l = ap (λ z. x ∷ z) (take_none room)
take_next (suc room) (y ∷ xs) x l = ap (λ z. y ∷ z) (take_next room xs x (omega (arith, l)))

take_full : {X : Type 0} (room : ℕ) (xs : List X) (x : X) → room ≤ length (take room xs) → take room (xs ++ (x ∷ [])) ≡ take room xs
take_full zero xs x l = refl
take_full (suc room) [] x l = absurd (omega (arith, l))
take_full (suc room) (y ∷ xs) x l = ap (λ z. y ∷ z) (take_full room xs x (omega (arith, l)))

-- one difference more, which has a line, or has none
with_next : (ds : List Difference) (ns : List ℕ) (d : Difference) (n : ℕ) → length ns ≡ length ds → with_lines (ds ++ (d ∷ [])) (ns ++ (n ∷ [])) ≡ with_lines ds ns ++ with_lines (d ∷ []) (n ∷ [])
with_next [] [] d n e = refl
with_next [] (m ∷ ns) d n e = absurd (omega (arith, e))
with_next (x ∷ ds) [] d n e = absurd (omega (arith, e))
with_next (x ∷ ds) (zero ∷ ns) d n e = with_next ds ns d n (omega (arith, e))
with_next (x ∷ ds) (suc m ∷ ns) d n e = ap (λ z. (x, suc m) ∷ z) (with_next ds ns d n (omega (arith, e)))

with_some : (d : Difference) (n : ℕ) → 0 < n → with_lines (d ∷ []) (n ∷ []) ≡ (d, n) ∷ []
with_some d zero l = absurd (omega (arith, l))
with_some d (suc n) l = refl

take_level : {X Y : Type 0} (i : ℕ) (xs : List X) (ys : List Y) → length xs ≡ length ys → length (take i xs) ≡ length (take i ys)
take_level zero xs ys e = refl
take_level (suc i) [] [] e = refl
take_level (suc i) [] (y ∷ ys) e = absurd (omega (arith, e))
take_level (suc i) (x ∷ xs) [] e = absurd (omega (arith, e))
take_level (suc i) (x ∷ xs) (y ∷ ys) e = ap suc (take_level i xs ys (omega (arith, e)))

-- the lines so far, of the differences before a number
abbrev pub TellsBefore : Forests → Diff → List Difference → List ℕ → ℕ → List Line → Type 0
TellsBefore g asked ds ns i ls = TellsEach g asked (take asked.lines (with_lines (take i ds) (take i ns))) ls

module _ (g : Forests) (asked : Diff) (ds : List Difference) (ns : List ℕ) (ls : List Line) (i : ℕ) (d : Difference) (n e : ℕ) (within : i < length ds) (level : length ns ≡ length ds) (at : d ≡ get_or ds i d) (count : n ≡ get_or ns i e) (before : TellsBefore g asked ds ns i ls) where
  abbrev so_far : List (Difference × ℕ)
  so_far = with_lines (take i ds) (take i ns)

  one_more : with_lines (take (i + 1) ds) (take (i + 1) ns) ≡ so_far ++ with_lines (d ∷ []) (n ∷ [])
  one_more =
      ap (λ z. with_lines z (take (i + 1) ns)) (take_more ds i d within ∙ ap (λ z. take i ds ++ (z ∷ [])) (sym at))
      ∙ ap (with_lines (take i ds ++ (d ∷ []))) (take_more ns i e (omega (arith, within, level)) ∙ ap (λ z. take i ns ++ (z ∷ [])) (sym count))
      ∙ with_next (take i ds) (take i ns) d n (take_level i ns ds level)

  full : length (take asked.lines so_far) ≡ length ls
  full = tells_level g asked (take asked.lines so_far) ls before

  pub line_told : (l : Line) (new : List Line) → 0 < n → length ls < asked.lines → TellsOne g asked d l → l.count ≡ n → new ≡ ls ++ (l ∷ []) → TellsBefore g asked ds ns (i + 1) new
  line_told l new some room one counted pushed =
      subst (TellsEach g asked (take asked.lines (with_lines (take (i + 1) ds) (take (i + 1) ns)))) (sym pushed)
      (subst (λ z. TellsEach g asked z (ls ++ (l ∷ []))) (sym (ap (take asked.lines) (one_more ∙ ap (λ z. so_far ++ z) (with_some d n some)) ∙ take_next asked.lines so_far (d, n) (omega (arith, full, room))))
      (tells_more g asked (take asked.lines so_far) ls (d, n) l before one counted))

  pub line_none : n ≡ 0 → TellsBefore g asked ds ns (i + 1) ls
  line_none none = subst (λ z. TellsEach g asked (take asked.lines z) ls) (sym (one_more ∙ ap (λ z. so_far ++ with_lines (d ∷ []) (z ∷ [])) none ∙ append-nil so_far)) before

  pub line_full : 0 < n → asked.lines ≤ length ls → TellsBefore g asked ds ns (i + 1) ls
  line_full some room =
      subst (λ z. TellsEach g asked z ls) (sym (ap (take asked.lines) (one_more ∙ ap (λ z. so_far ++ z) (with_some d n some)) ∙ take_full asked.lines so_far (d, n) (omega (arith, full, room)))) before

pub all_told : (g : Forests) (asked : Diff) (ds : List Difference) (ns : List ℕ) (ls : List Line) (i : ℕ) → length ds ≤ i → length ns ≡ length ds → TellsBefore g asked ds ns i ls → TellsEach g asked (take asked.lines (with_lines ds ns)) ls
all_told g asked ds ns ls i l e h = subst (λ z. TellsEach g asked (take asked.lines (with_lines ds z)) ls) (take_all i ns (omega (arith, l, e))) (subst (λ z. TellsEach g asked (take asked.lines (with_lines z (take i ns))) ls) (take_all i ds l) h)

pub differences_told : (columns folds : Bool) (g : Forests) (asked : Diff) (ds : List Difference) (ns seen : List ℕ) (ls : List Line) → folds ≡ (columns && asked.folds) → Folds folds ds ns → seen ≡ ns → TellsEach g asked (take asked.lines (with_lines ds seen)) ls → TellsDifferences columns g asked ds ls
differences_told columns folds g asked ds ns seen ls f h s e = record {
  counts = ns;
  folds = subst (λ z. Folds z ds ns) f h;
  each = subst (λ z. TellsEach g asked (take asked.lines (with_lines ds z)) ls) s e;
}

-- without differences there is no line
pub differences_none : (columns : Bool) (g : Forests) (asked : Diff) (ds : List Difference) (ls : List Line) → ds ≡ [] → TellsDifferences columns g asked ds ls → ls ≡ []
differences_none columns g asked [] ls e h = none ls (subst (λ z. TellsEach g asked z ls) (take_none asked.lines) h.each)
  where
    none : (ls : List Line) → TellsEach g asked [] ls → ls ≡ []
    none [] h = refl
    none (l ∷ ls) h = absurd h
differences_none columns g asked (d ∷ ds) ls e h = absurd (cc)

-- ---- lines of moves

-- a line for each group of moves
pub groups_more : (labels : Bool) (g : Forests) (asked : Diff) (moves : List Move) (gs : List Group) (ls : List Line) (d : Group) (l : Line) → TellsGroups labels g asked moves gs ls → TellsGroup labels g asked moves d l → TellsGroups labels g asked moves (gs ++ (d ∷ [])) (ls ++ (l ∷ []))
groups_more labels g asked moves [] [] d l h k = (k, tt)
groups_more labels g asked moves [] (m ∷ ls) d l h k = absurd h
groups_more labels g asked moves (e ∷ gs) [] d l h k = absurd h
groups_more labels g asked moves (e ∷ gs) (m ∷ ls) d l h k = (h.0, groups_more labels g asked moves gs ls d l h.1 k)

pub groups_next : (labels : Bool) (g : Forests) (asked : Diff) (moves : List Move) (gs : List Group) (ls new : List Line) (i : ℕ) (d e : Group) (l : Line) → i < length gs → e ≡ get_or gs i d → TellsGroups labels g asked moves (take i gs) ls → TellsGroup labels g asked moves e l → new ≡ ls ++ (l ∷ []) → TellsGroups labels g asked moves (take (i + 1) gs) new
groups_next labels g asked moves gs ls new i d e l m q h k p =
    subst (λ z. TellsGroups labels g asked moves z new) (sym (take_more gs i d m)) (subst (TellsGroups labels g asked moves (take i gs ++ (get_or gs i d ∷ []))) (sym p) (groups_more labels g asked moves (take i gs) ls (get_or gs i d) l h (subst (λ z. TellsGroup labels g asked moves z l) q k)))

pub groups_all : (labels : Bool) (g : Forests) (asked : Diff) (moves : List Move) (gs : List Group) (ls : List Line) (i : ℕ) → length gs ≤ i → TellsGroups labels g asked moves (take i gs) ls → TellsGroups labels g asked moves gs ls
groups_all labels g asked moves gs ls i m h = subst (λ z. TellsGroups labels g asked moves z ls) (take_all i gs m) h

-- so many of the groups
pub first_all : (groups : List Group) (room : ℕ) → length groups ≤ room → groups ≡ take room groups
first_all groups room l = sym (take_all room groups l)

-- the lines of moves, of whose groups a list is seen
pub moves_told : (columns has folds plain : Bool) (g : Forests) (asked : Diff) (f : Found) (groups seen told : List Group) (moves seen_moves : List Move) (ls : List Line) (room untold : ℕ) → has ≡ columns → folds ≡ (columns && asked.folds) → plain ≡ is_plain asked.paths → Groups folds plain f 0 (length f.moves.items) groups → seen ≡ groups
    → moves ≡ f.moves.items → seen_moves ≡ f.moves.items → told ≡ take room seen → TellsGroups has g asked moves told ls → untold ≡ length seen_moves - sum_by (λ group. group.end - group.first) told → TellsMoves columns g asked f room ls untold
moves_told columns has folds plain g asked f groups seen told moves seen_moves ls room untold b c p q s m n t h w = record {
  groups = groups;
  grouped = subst (λ z. Groups z (is_plain asked.paths) f 0 (length f.moves.items) groups) c (subst (λ z. Groups folds z f 0 (length f.moves.items) groups) p q);
  each =
      subst (λ z. TellsGroups columns g asked z (take room groups) ls) m
      (subst (λ z. TellsGroups columns g asked moves z ls) (t ∙ ap (take room) s) (subst (λ z. TellsGroups z g asked moves told ls) b h));
  others = w ∙ ap (λ z. length z - sum_by (λ group. group.end - group.first) told) n ∙ ap (λ z. length f.moves.items - sum_by (λ group. group.end - group.first) z) (t ∙ ap (take room) s);
}

-- where there is no room, or no move
pub moves_untold : (columns folds plain : Bool) (g : Forests) (asked : Diff) (f : Found) (groups seen told : List Group) (seen_moves : List Move) (ls : List Line) (room untold : ℕ) → folds ≡ (columns && asked.folds) → plain ≡ is_plain asked.paths → Groups folds plain f 0 (length f.moves.items) groups → seen ≡ groups
    → seen_moves ≡ f.moves.items → told ≡ take room seen → length told ≡ 0 → ls ≡ [] → untold ≡ length seen_moves - sum_by (λ group. group.end - group.first) told → TellsMoves columns g asked f room ls untold
moves_untold columns folds plain g asked f groups seen told seen_moves ls room untold c p q s n t z e w =
    moves_told columns columns folds plain g asked f groups seen told f.moves.items seen_moves ls room untold refl c p q s refl n t (none told ls z e) w
  where
    none : (gs : List Group) (ls : List Line) → length gs ≡ 0 → ls ≡ [] → TellsGroups columns g asked f.moves.items gs ls
    none [] [] n e = tt
    none [] (l ∷ ls) n e = absurd (cc)
    none (d ∷ gs) ls n e = absurd (omega (arith, n))

-- ---- a list

pub found_listed : (g : Forests) (asked : Diff) (f : Found) (listed : Listed) (seen : List Difference) (lines : List Line) (room untold : ℕ) → seen ≡ f.list.items → lines ≡ listed.lines.items → TellsDifferences true g asked seen lines → room ≡ asked.lines - length lines
    → TellsMoves false g asked f room listed.moves.items untold → listed.left_out ≡ left_out_of f lines untold → listed.same ≡ ((f.whole && (length f.list.items == 0)) && (length f.moves.items == 0)) → ListsFound g asked f listed
found_listed g asked f listed seen lines room untold s k h r m w n = record {
  differences = subst (TellsDifferences true g asked f.list.items) k (subst (λ z. TellsDifferences true g asked z lines) s h);
  untold = untold;
  moves = subst (λ z. TellsMoves false g asked f z listed.moves.items untold) (r ∙ ap (λ z. asked.lines - length z) k) m;
  left_out = w ∙ ap (λ z. left_out_of f z untold) k;
  is_none = n;
}

-- ---- a text

pub found_told : (columns : Bool) (g : Forests) (asked : Diff) (f : Found) (seen : List Difference) (ls ms : List Line) (room untold : ℕ) (o a c e : List ℕ) (l : LeftOut) → columns ≡ is_line asked.form → seen ≡ f.list.items → TellsDifferences columns g asked seen ls → room ≡ asked.lines - length ls
    → TellsMoves columns g asked f room ms untold → o ≡ [] → a ≡ o ++ lines_text asked ls → c ≡ a ++ lines_text asked ms → l ≡ left_out_of f ls untold → e ≡ c ++ rest_text asked.form l → TellsFound g asked f e
found_told columns g asked f seen ls ms room untold o a c e l b s h r m empty put more w rest = record {
  lines = ls;
  differences = subst (λ z. TellsDifferences z g asked f.list.items ls) b (subst (λ z. TellsDifferences columns g asked z ls) s h);
  move_lines = ms;
  untold = untold;
  moves = subst (λ z. TellsMoves z g asked f (asked.lines - length ls) ms untold) b (subst (λ z. TellsMoves columns g asked f z ms untold) r m);
  is =
      rest ∙ ap (λ z. z ++ rest_text asked.form l) (more ∙ ap (λ z. z ++ lines_text asked ms) (put ∙ ap (λ z. z ++ lines_text asked ls) empty))
      ∙ ap (λ z. (lines_text asked ls ++ lines_text asked ms) ++ rest_text asked.form z) w;
}

drop_next : {X : Type 0} (xs : List X) (i : ℕ) (d : X) → i < length xs → drop i xs ≡ get_or xs i d ∷ drop (i + 1) xs
drop_next xs i d l = rw add-one (drop-cons xs i d l)

-- one line more is written
pub lines_next : (f : Diff) (ls : List Line) (i : ℕ) (d : Line) (o a whole : List ℕ) → i < length ls → o ++ lines_text f (drop i ls) ≡ whole → a ≡ o ++ line_text f (get_or ls i d) → a ++ lines_text f (drop (i + 1) ls) ≡ whole
lines_next f ls i d o a whole l h e =
    let r = lines_text f (drop (i + 1) ls) in
    ap (λ z. z ++ r) e ∙ append_assoc o (line_text f (get_or ls i d)) r ∙ ap (λ z. o ++ lines_text f z) (sym (drop_next ls i d l)) ∙ h

pub lines_all : (f : Diff) (ls : List Line) (i : ℕ) (o whole : List ℕ) → length ls ≤ i → o ++ lines_text f (drop i ls) ≡ whole → o ≡ whole
lines_all f ls i o whole l h = sym (append-nil o) ∙ ap (λ z. o ++ lines_text f z) (sym (drop_of_length-le ls l)) ∙ h

-- ---- as many lines as are asked for

pub asked_none : (n : ℕ) (g : Forests) (asked : Diff) (f : Found) (text : List ℕ) → n ≡ 0 → text ≡ [] → TellsAsked n g asked f text
asked_none n g asked f text e h = subst (λ z. TellsAsked z g asked f text) (sym e) h

pub asked_some : (n : ℕ) (g : Forests) (asked : Diff) (f : Found) (text : List ℕ) → (n ≡ 0 → ⊥) → TellsFound g asked f text → TellsAsked n g asked f text
asked_some zero g asked f text l h = absurd (l refl)
asked_some (suc n) g asked f text l h = h

-- ---- differences that are left out

-- without patterns nothing is kept exactly if nothing was found
pub keeps_none : (g : Forests) (ps : List Pattern) (found kept : Found) → ps ≡ [] → Keeps g ps found kept
    → ((kept.whole && (length kept.list.items == 0)) && (length kept.moves.items == 0)) ≡ ((found.whole && (length found.list.items == 0)) && (length found.moves.items == 0))
keeps_none g ps found kept e h =
    ap (λ z. (kept.whole && (length z == 0)) && (length kept.moves.items == 0)) (h.list ∙ outside_none g ps found.list.items e)
    ∙ ap (λ z. (z && (length found.list.items == 0)) && (length kept.moves.items == 0)) (h.whole ∙ ap (λ z. covers_all z || found.whole) e)
    ∙ ap (λ z. (found.whole && (length found.list.items == 0)) && (length z == 0)) (h.moves ∙ moves_none g ps found.moves.items e)

-- there is room for one at least
pub some_room : (g : Forests) (ps : List Pattern) (lines : ℕ) → 0 < search_room g ps lines
some_room g ps lines = at_least (least_room g (cond (length ps == 0) 100000 1000000)) lines (by _ _ (of (length ps == 0)))
  where
    at_least : (n m : ℕ) → 0 < n → 0 < max n m
    at_least n m p = omega (arith, p)

    of : (b : Bool) → 0 < cond b 100000 1000000
    of true = omega arith
    of false = omega arith

    by : (b : Bool) (n : ℕ) → 0 < n → 0 < cond b 10000 n
    by true n p = omega arith
    by false n p = p
