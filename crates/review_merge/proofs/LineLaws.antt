-- Lines that are written piece by piece.
use Rattle.std.proofs.Common.{◌≡◌, ℕ, zero, suc, ◌+◌, ◌<◌, ◌≤◌, List, [], ◌∷◌, ◌++◌, drop, length, get_or, Result, Ok, Err, OnOk, refl, sym, ◌∙◌, ap, subst, arith, add-one, map}
use Rattle.std.specs.List.{flat_map}
use Rattle.std.proofs.Math.Seq.{drop-cons}
use Rattle.std.proofs.Math.ListN.{drop_of_length-le}
use Rattle.std.proofs.lemmas.List.{append_assoc, append-nil}
use Rattle.std.specs.Prelude.{Bool, true, false, Option, Some, None, unwrap_or, String, string_bytes}
use Rattle.std.specs.Option.{option_map}
use Rattle.std.specs.List.{slice_get, enumerate_from}
use Rattle.std.specs.declared.alloc.Global.{Global}
use Rattle.std.proofs.lemmas.Option.{slice_get-map}
use Rattle.std.specs.Borrow.{Bor}
use Rattle.yaml_tree.specs.declared.node.NodeId.{NodeId}
use Rattle.yaml_path.specs.declared.place.Place.{Place}
use Rattle.yaml_diff.specs.declared.difference.Step.{Step}
use Rattle.yaml_conflicts.specs.declared.sides.Conflict.{Conflict}
use Rattle.yaml_store_rank.specs.Forests.{Forests}
use Rattle.yaml_diff.specs.Lines.{way_of}
use Rattle.review_text.specs.PathText.{path_text}
use Rattle.review_merge.specs.Parts.{Values, values_in, budget, ShowsValues}
use Rattle.review_merge.specs.Placed.{Each, Side, IsPlaceOf, IsTold, Tells, View, Views, ViewsAre, HasPlaces, HasSeats, HasAsked}
use Rattle.review_merge.specs.Lines.{result_side, steps_of, nodes_of, line_text, ShowsPlaces, IsLine, IsStyled, AreLines, more_text, IsListText}
use Rattle.review_merge.specs.declared.lines.Style.{Style}
use Rattle.review_merge.specs.declared.print.Print.{Print}
use Rattle.review_merge.specs.declared.told.Seats.{Seats}

pub drop_next : {X : Type 0} (xs : List X) (i : ℕ) (d : X) → i < length xs → drop i xs ≡ get_or xs i d ∷ drop (i + 1) xs
drop_next xs i d l = rw add-one (drop-cons xs i d l)

-- ---- texts of things that are found one after another

module _ {X Y : Type 0} (IsFor : X → Y → Type 0) (f : Y → List ℕ) (whole : List X) (start : List ℕ) where
  -- what is found for the rest goes on to what is found for the whole
  abbrev pub GoesOn : List X → List ℕ → Type 0
  GoesOn left out = (rest : List Y) → Each IsFor left rest → (ys : List Y) × Each IsFor whole ys × (out ++ flat_map f rest ≡ start ++ flat_map f ys)

  pub on_step : (left more : List X) (x : X) (y : Y) (out new : List ℕ) → left ≡ x ∷ more → GoesOn left out → IsFor x y → new ≡ out ++ f y → GoesOn more new
  on_step left more x y out new e h p k rest r =
      let w = h (y ∷ rest) (subst (λ z. Each IsFor z (y ∷ rest)) (sym e) (y, rest, p, r, refl)) in
      (w.0, w.1, ap (λ z. z ++ flat_map f rest) k ∙ append_assoc out (f y) (flat_map f rest) ∙ w.2)

  pub on_done : (left : List X) (out : List ℕ) → left ≡ [] → GoesOn left out → (ys : List Y) × Each IsFor whole ys × (out ≡ start ++ flat_map f ys)
  on_done left out e h =
      let w = h [] (subst (λ z. Each IsFor z []) (sym e) refl) in
      (w.0, w.1, sym (append-nil out) ∙ w.2)

pub on_start : {X Y : Type 0} (IsFor : X → Y → Type 0) (f : Y → List ℕ) (whole : List X) (start : List ℕ) → GoesOn IsFor f whole start whole start
on_start IsFor f whole start rest r = (rest, r, refl)

-- ---- columns

pub flat_step : {X Y : Type 0} (f : X → List Y) (left more : List X) (x : X) (o a whole : List Y) → left ≡ x ∷ more → o ++ flat_map f left ≡ whole → a ≡ o ++ f x → a ++ flat_map f more ≡ whole
flat_step f left more x o a whole e h k = ap (λ z. z ++ flat_map f more) k ∙ append_assoc o (f x) (flat_map f more) ∙ ap (λ z. o ++ flat_map f z) (sym e) ∙ h

pub flat_done : {X Y : Type 0} (f : X → List Y) (left : List X) (o whole : List Y) → left ≡ [] → o ++ flat_map f left ≡ whole → o ≡ whole
flat_done f left o whole e h = sym (append-nil o) ∙ ap (λ z. o ++ flat_map f z) (sym e) ∙ h

pub values_next : (texts : List (Option (String Global))) (i : ℕ) (d : Option (String Global)) → i < length texts
    → enumerate_from i (values_in (drop i texts)) ≡ (i, option_map string_bytes (get_or texts i d)) ∷ enumerate_from (i + 1) (values_in (drop (i + 1) texts))
values_next texts i d l = ap (λ z. enumerate_from i (values_in z)) (drop_next texts i d l)

pub values_end : (texts : List (Option (String Global))) (i : ℕ) → length texts ≤ i → enumerate_from i (values_in (drop i texts)) ≡ []
values_end texts i l = ap (λ z. enumerate_from i (values_in z)) (drop_of_length-le texts l)

pub enum_next : {X : Type 0} (xs : List X) (i : ℕ) (d : X) → i < length xs → enumerate_from i (drop i xs) ≡ (i, get_or xs i d) ∷ enumerate_from (i + 1) (drop (i + 1) xs)
enum_next xs i d l = ap (enumerate_from i) (drop_next xs i d l)

pub enum_end : {X : Type 0} (xs : List X) (i : ℕ) → length xs ≤ i → enumerate_from i (drop i xs) ≡ []
enum_end xs i l = ap (enumerate_from i) (drop_of_length-le xs l)

-- ---- pieces

pub then_more : (o x y p q : List ℕ) → x ≡ o ++ p → y ≡ x ++ q → y ≡ o ++ (p ++ q)
then_more o x y p q e h = h ∙ ap (λ z. z ++ q) e ∙ append_assoc o p q

pub on_ok : {T E P Q : Type 0} (r : Result T E) → (P → Q) → OnOk r P → OnOk r Q
on_ok (Ok x) f a = f a
on_ok (Err e) f a = tt

pub line_put : (o a s v w p e n x1 x2 x3 x4 x5 x6 x7 x8 : List ℕ) → x1 ≡ o ++ a → x2 ≡ x1 ++ s → x3 ≡ x2 ++ 9 ∷ [] → x4 ≡ x3 ++ v → x5 ≡ x4 ++ w → x6 ≡ x5 ++ p → x7 ≡ x6 ++ e → x8 ≡ x7 ++ n
    → x8 ≡ o ++ (a ++ (s ++ ((9 ∷ v) ++ (w ++ (p ++ (e ++ n))))))
line_put o a s v w p e n x1 x2 x3 x4 x5 x6 x7 x8 h1 h2 h3 h4 h5 h6 h7 h8 =
    then_more o x1 x8 a _ h1
    (then_more x1 x2 x8 s _ h2
    (then_more x2 x4 x8 (9 ∷ v) _ (then_more x2 x3 x4 (9 ∷ []) v h3 h4)
    (then_more x4 x5 x8 w _ h5
    (then_more x5 x6 x8 p _ h6 (then_more x6 x7 x8 e n h7 h8)))))

pub streams_put : (o a s b u t r e n x1 x2 x3 x4 x5 x6 x7 x8 x9 : List ℕ) → x1 ≡ o ++ a → x2 ≡ x1 ++ s → x3 ≡ x2 ++ 9 ∷ [] → x4 ≡ x3 ++ b → x5 ≡ x4 ++ u → x6 ≡ x5 ++ t → x7 ≡ x6 ++ r → x8 ≡ x7 ++ e → x9 ≡ x8 ++ n
    → x9 ≡ o ++ (a ++ (s ++ ((9 ∷ []) ++ (b ++ (u ++ (t ++ (r ++ (e ++ n))))))))
streams_put o a s b u t r e n x1 x2 x3 x4 x5 x6 x7 x8 x9 h1 h2 h3 h4 h5 h6 h7 h8 h9 =
    then_more o x1 x9 a _ h1
    (then_more x1 x2 x9 s _ h2
    (then_more x2 x3 x9 (9 ∷ []) _ h3
    (then_more x3 x4 x9 b _ h4
    (then_more x4 x5 x9 u _ h5
    (then_more x5 x6 x9 t _ h6
    (then_more x6 x7 x9 r _ h7 (then_more x7 x8 x9 e n h8 h9)))))))

pub styled_put : {T E : Type 0} (g : Forests) (style : Style) (number : ℕ) (conflict : Conflict) (left after : ℕ) (r : Result T E) (o n path : List ℕ) (values : Values) → path ≡ path_text style.numbered (way_of g (steps_of conflict))
    → ShowsValues g (nodes_of style.given conflict.sides) left after values style.print.whole
    → OnOk r ((places : List (Option Place)) × Tells number style.seats.items places × (n ≡ o ++ line_text style.given style.print.color path values places))
    → OnOk r ((text : List ℕ) × IsStyled g style (number, conflict) left after text × (n ≡ o ++ text))
styled_put g style number conflict left after r o n path values e shows h =
    let told = path_text style.numbered (way_of g (steps_of conflict)) in
    on_ok r (λ w. (
      line_text style.given style.print.color told values w.0,
      record { values = values; places = w.0; shows = shows; tells = w.1; is = refl },
      w.2 ∙ ap (λ z. o ++ line_text style.given style.print.color z values w.0) e,
    )) h

-- ---- lines that leave so many bytes to others

module _ {X : Type 0} (IsText : X → ℕ → ℕ → List ℕ → Type 0) (whole : List X) (all : ℕ) (start : List ℕ) where
  -- lines of the rest go on to lines of the whole
  abbrev pub Continues : List X → ℕ → List ℕ → Type 0
  Continues xs left out = (rest : List ℕ) → AreLines IsText xs left rest → (text : List ℕ) × AreLines IsText whole all text × (out ++ rest ≡ start ++ text)

  pub lines_step : (xs more : List X) (x : X) (left after : ℕ) (one out new : List ℕ) → xs ≡ x ∷ more → Continues xs left out → IsText x left after one → new ≡ out ++ one → Continues more after new
  lines_step xs more x left after one out new e h p k rest r =
      let w = h (one ++ rest) (subst (λ z. AreLines IsText z left (one ++ rest)) (sym e) (after, one, rest, p, r, refl)) in
      (w.0, w.1, ap (λ z. z ++ rest) k ∙ append_assoc out one rest ∙ w.2)

  pub lines_done : (xs : List X) (left : ℕ) (out : List ℕ) → xs ≡ [] → Continues xs left out → (text : List ℕ) × AreLines IsText whole all text × (out ≡ start ++ text)
  lines_done xs left out e h =
      let w = h [] (subst (λ z. AreLines IsText z left []) (sym e) refl) in
      (w.0, w.1, sym (append-nil out) ∙ w.2)

pub lines_start : {X : Type 0} (IsText : X → ℕ → ℕ → List ℕ → Type 0) (whole : List X) (all left : ℕ) (start : List ℕ) → left ≡ all → Continues IsText whole all start whole left start
lines_start IsText whole all left start e rest r = (rest, subst (λ z. AreLines IsText whole z rest) e r, refl)

-- ---- numbers

-- what is known of numbered things, and so of the things
pub lines_of : {X : Type 0} (P : ℕ × X → ℕ → ℕ → List ℕ → Type 0) (Q : X → ℕ → ℕ → List ℕ → Type 0) (xs : List X) (n : ℕ)
    → ((k : ℕ) (x : X) (left after : ℕ) (text : List ℕ) → slice_get xs k ≡ Some x → P (n + k, x) left after text → Q x left after text)
    → (left : ℕ) (text : List ℕ) → AreLines P (enumerate_from n xs) left text → AreLines Q xs left text
lines_of P Q [] n f left text h = h
lines_of {X} P Q (x ∷ xs) n f left text h =
    let e : n ≡ n + 0 = omega arith in (
      h.0,
      h.1,
      h.2,
      f 0 x left h.0 h.1 refl (subst (λ m. P (m, x) left h.0 h.1) e h.3),
      lines_of P Q xs (n + 1) (λ k y l a t s p. f (suc k) y l a t s (let q : n + 1 + k ≡ n + suc k = omega arith in subst (λ m. P (m, y) l a t) q p)) h.0 h.2 h.4,
      h.5,
    )

pub steps_at : (list : List Conflict) (i : ℕ) (d : Conflict) → i < length list → unwrap_or (slice_get (map steps_of list) i) [] ≡ steps_of (get_or list i d)
steps_at [] i d l = absurd (omega (arith, l))
steps_at (x ∷ list) zero d l = refl
steps_at (x ∷ list) (suc i) d l = steps_at list i d (omega (arith, l))

-- ---- places

pub each_then : {X Y Z : Type 0} (A : X → Y → Type 0) (B : Y → Z → Type 0) (C : X → Z → Type 0) → ((x : X) (y : Y) (z : Z) → A x y → B y z → C x z) → (xs : List X) (ys : List Y) (zs : List Z) → Each A xs ys → Each B ys zs → Each C xs zs
each_then A B C f [] ys zs h k = subst (λ z. Each B z zs) h k
each_then A B C f (x ∷ xs) ys zs h k =
    let m = subst (λ w. Each B w zs) h.4 k in
    (m.0, m.1, f x h.0 m.0 h.2 m.2, each_then A B C f xs h.1 m.1 h.3 m.3, m.4)

-- what is told of each view
abbrev pub HasViews : Bool → List (List Step) → List View → List Seats → Type 0
HasViews false paths views seats = seats ≡ []
HasViews true paths views seats = Each (λ view one. HasPlaces paths view one.places.items) views seats

views_of : (g : Forests) (paths : List (List Step)) (sides : List Side) (seats : List Seats) → Each (HasSeats g paths) sides seats → (views : List View) × Each (Views g) sides views × Each (λ view one. HasPlaces paths view one.places.items) views seats
views_of g paths [] seats h = ([], refl, h)
views_of g paths (side ∷ sides) seats h =
    let r = views_of g paths sides h.1 h.3 in
    let v = h.2.0 in
    (v ∷ r.0, (v, r.0, h.2.1, r.1, refl), (h.0, h.1, h.2.2, r.2, h.4))

views_asked : (asked : Bool) (g : Forests) (paths : List (List Step)) (sides : List Side) (seats : List Seats) → HasAsked asked g paths sides seats → (views : List View) × ViewsAre asked g sides views × HasViews asked paths views seats
views_asked false g paths sides seats h = ([], refl, h)
views_asked true g paths sides seats h = views_of g paths sides seats h

places_shown : (asked : Bool) (paths : List (List Step)) (views : List View) (seats : List Seats) (number : ℕ) (path : List Step) (places : List (Option Place)) → HasViews asked paths views seats → slice_get paths number ≡ Some path → Tells number seats places
    → ShowsPlaces asked views path places
places_shown false paths views seats number path places h e t = subst (λ z. Tells number z places) h t
places_shown true paths views seats number path places h e t =
    each_then (λ view one. HasPlaces paths view one.places.items) (λ one place. IsTold one.places.items number place) (IsPlaceOf path) (λ view one place p q. p number path place e q) views seats places h t

-- ---- all lines

module _ (g : Forests) (style : Style) (views : List View) (list : List Conflict) where
  pub styled_are : HasViews style.print.places (map steps_of list) views style.seats.items → (text : List ℕ) → AreLines (IsStyled g style) (enumerate_from 0 list) budget text
      → AreLines (IsLine g style.print style.given style.numbered views) list budget text
  styled_are h = lines_of (IsStyled g style) (IsLine g style.print style.given style.numbered views) list 0 by budget
    where
      by : (k : ℕ) (one : Conflict) (left after : ℕ) (text : List ℕ) → slice_get list k ≡ Some one → IsStyled g style (0 + k, one) left after text → IsLine g style.print style.given style.numbered views one left after text
      by k one left after text e p =
          let q : k ≡ 0 + k = omega arith in
          let there : slice_get (map steps_of list) k ≡ Some (steps_of one) = slice_get-map steps_of list k ∙ ap (option_map steps_of) e in
          record {
            values = p.values;
            places = p.places;
            shows = p.shows;
            stand = places_shown style.print.places (map steps_of list) views style.seats.items (0 + k) (steps_of one) p.places h (subst (λ z. slice_get (map steps_of list) z ≡ Some (steps_of one)) q there) p.tells;
            is = p.is;
          }

module _ (g : Forests) (print : Print) (given numbered : Bool) (sides : List Side) where
  pub list_none : (list : List Conflict) (whole : Bool) (text : List ℕ) → length list ≡ 0 → text ≡ [] → IsListText g print given numbered sides list whole text
  list_none [] whole text e h = h
  list_none (x ∷ list) whole text e h = absurd (omega (arith, e))

  pub list_some : (list : List Conflict) (whole : Bool) (lines text : List ℕ) (views : List View) → ViewsAre print.places g sides views → (length list ≡ 0 → ⊥) → AreLines (IsLine g print given numbered views) list budget lines → text ≡ lines ++ more_text whole → IsListText g print given numbered sides list whole text
  list_some [] whole lines text views v n h e = absurd (n refl)
  list_some (x ∷ list) whole lines text views v n h e = (views, lines, v, h, e)

pub list_told : (g : Forests) (style : Style) (print : Print) (given numbered : Bool) (seats : List Seats) (sides : List Side) (list : List Conflict) (whole : Bool) (lines text : List ℕ) (paths : List (List Step))
    → style.print ≡ print → style.given ≡ given → style.numbered ≡ numbered → style.seats.items ≡ seats → paths ≡ map steps_of list → HasAsked print.places g paths sides seats
    → (length list ≡ 0 → ⊥) → AreLines (IsStyled g style) (enumerate_from 0 list) budget lines → text ≡ lines ++ more_text whole → IsListText g print given numbered sides list whole text
list_told g style print given numbered seats sides list whole lines text paths ep eg en es ea asked n h e =
    let a = subst (λ z. HasAsked z.places g paths sides seats) (sym ep) asked in
    let b = subst (λ z. HasAsked style.print.places g z sides seats) ea a in
    let d = subst (λ z. HasAsked style.print.places g (map steps_of list) sides z) (sym es) b in
    let w = views_asked style.print.places g (map steps_of list) sides style.seats.items d in
    let told = list_some g style.print style.given style.numbered sides list whole lines text w.0 w.1 n (styled_are g style w.0 list w.2 lines h) e in
    subst (λ z. IsListText g z given numbered sides list whole text) ep (subst (λ z. IsListText g style.print z numbered sides list whole text) eg (subst (λ z. IsListText g style.print style.given z sides list whole text) en told))

-- ---- the seats of all sides

pub each_put : {X Y : Type 0} (IsFor : X → Y → Type 0) (p q r : X) (rest : List X) (a b c : Y) (more x0 x1 x2 x3 x4 : List Y) → IsFor p a → IsFor q b → IsFor r c → Each IsFor rest more → x0 ≡ [] → x1 ≡ x0 ++ a ∷ [] → x2 ≡ x1 ++ b ∷ [] → x3 ≡ x2 ++ c ∷ [] → x4 ≡ x3 ++ more
    → Each IsFor (p ∷ q ∷ r ∷ rest) x4
each_put IsFor p q r rest a b c more x0 x1 x2 x3 x4 ha hb hc hm e0 e1 e2 e3 e4 =
    let all : x4 ≡ a ∷ b ∷ c ∷ more = e4 ∙ ap (λ z. z ++ more) (e3 ∙ ap (λ z. z ++ c ∷ []) (e2 ∙ ap (λ z. z ++ b ∷ []) (e1 ∙ ap (λ z. z ++ a ∷ []) e0))) in
    subst (Each IsFor (p ∷ q ∷ r ∷ rest)) (sym all) (a, b ∷ c ∷ more, ha, (b, c ∷ more, hb, (c, more, hc, hm, refl), refl), refl)

pub result_put : {Y : Type 0} (IsFor : Side → Y → Type 0) (roots : List NodeId) (bytes : Option (Bor (List ℕ))) (given : Bor (List ℕ)) (one : Y) (x y : List Y) → bytes ≡ Some given → IsFor (roots, given.now) one → y ≡ x ++ one ∷ []
    → (more : List Y) × Each IsFor (result_side roots (option_map (λ it. it.now) bytes)) more × (y ≡ x ++ more)
result_put IsFor roots None given one x y e h k = absurd cc
result_put IsFor roots (Some it) given one x y e h k = let q : given ≡ it = cc in (one ∷ [], (one, [], subst (λ z. IsFor (roots, z.now) one) q h, refl, refl), k)

pub result_none : {Y : Type 0} (IsFor : Side → Y → Type 0) (roots : List NodeId) (bytes : Option (Bor (List ℕ))) (x : List Y) → bytes ≡ None → (more : List Y) × Each IsFor (result_side roots (option_map (λ it. it.now) bytes)) more × (x ≡ x ++ more)
result_none IsFor roots None x e = ([], refl, sym (append-nil x))
result_none IsFor roots (Some it) x e = absurd cc
