-- The lines of moves.
use Rattle.std.proofs.Common.{◌≡◌, ◌==◌, ◌&&◌, ℕ, zero, suc, ◌≤◌, Bool, true, false, cond, List, [], ◌∷◌, ◌++◌, length, map, take, refl, sym, ◌∙◌, ap, subst, arith}
use Rattle.std.specs.Prelude.{Option, Some, None, Result, Ok, Err, String, IfOk, IfSome, option_map, is_some, codes, string_bytes}
use Rattle.std.specs.declared.alloc.Global.{Global}
use Rattle.std.specs.declared.alloc.AllocError.{AllocError}
use Rattle.std.specs.List.{slice_get, flat_map}
use Rattle.std.proofs.lemmas.Bool.{eqb-true}
use Rattle.std.proofs.lemmas.List.{length-reverse, length-map}
use Rattle.yaml_diff.specs.declared.difference.Found.{Found}
use Rattle.yaml_diff.specs.declared.difference.Move.{Move}
use Rattle.review_text.specs.declared.options.Diff.{Diff}
use Rattle.review_folds.specs.Moves.{Groups}
use Rattle.review_folds.specs.declared.moves.Group.{Group}
use Rattle.review_folds.specs.Labels.{label, AreKeys}
use Rattle.review_folds.specs.declared.keys.Keys.{Keys}
use Rattle.yaml_store_rank.specs.Forests.{Forests}
use Rattle.yaml_path.specs.Ways.{Way}
use Rattle.yaml_path.specs.declared.places.Places.{Places}
use Rattle.yaml_diff.specs.Lines.{way_of, step_of, line_of}
use Rattle.yaml_diff.specs.Moves.{move_line_of, moved_line}
use Rattle.yaml_diff.specs.declared.difference.Step as code
use Rattle.yaml_diff.specs.declared.difference.Step.TheVariants.{Item}
use Rattle.yaml_diff.specs.declared.difference.Difference.{Difference}
use Rattle.review_text.specs.declared.options.Paths.{Paths}
use Rattle.review_text.specs.declared.options.Paths.TheVariants.{Plain, Jq, JsonPointer}
use Rattle.review_text.specs.PathText.{path_text, step_text, bracketed}
use Rattle.review_lines.specs.Compared.{is_numbered, room_of, path_as, TellsMembers, is_plain, list_path, range_of, before_text, range_path, group_text, last_of, IsFirst, TellsGroup, TellsGroups, TellsMoves}
use Rattle.review_lines.specs.declared.lines.Line.{Line}

-- ---- no moves

groups-rise : (folds ranges : Bool) (f : Found) (at end : ℕ) (gs : List Group) → Groups folds ranges f at end gs → at ≤ end
groups-rise folds ranges f at end [] h = omega (arith, h)
groups-rise folds ranges f at end (g ∷ gs) h = let r = groups-rise folds ranges f g.end end gs h.3 in omega (arith, h.0, h.1, r)

no-groups : (folds ranges : Bool) (f : Found) (end : ℕ) (gs : List Group) → end ≡ 0 → Groups folds ranges f 0 end gs → gs ≡ []
no-groups folds ranges f end [] e h = refl
no-groups folds ranges f end (g ∷ gs) e h = let r = groups-rise folds ranges f g.end end gs h.3 in absurd (omega (arith, e, h.0, h.1, r))

no-lines : (labels : Bool) (g : Forests) (asked : Diff) (moves : List Move) (ls : List Line) → TellsGroups labels g asked moves [] ls → ls ≡ []
no-lines labels g asked moves [] h = refl
no-lines labels g asked moves (l ∷ ls) h = absurd h

-- without moves there is no line, and none is left out
pub moves_none : (columns : Bool) (g : Forests) (asked : Diff) (f : Found) (room : ℕ) (ls : List Line) (untold : ℕ) → f.moves.items ≡ [] → TellsMoves columns g asked f room ls untold → (ls ≡ []) × (untold ≡ 0)
moves_none columns g asked f room ls untold m t =
    let none = no-groups (columns && asked.folds) (is_plain asked.paths) f (length f.moves.items) t.groups (ap length m) t.grouped in
    let many = ap length m in (
      no-lines columns g asked f.moves.items ls (subst (λ z. TellsGroups columns g asked f.moves.items z ls) (ap (take room) none ∙ none-taken room) t.each),
      omega (arith, t.others, many),
    )
  where
    none-taken : {X : Type 0} (n : ℕ) → ◌≡◌ {A = List X} (take n []) []
    none-taken zero = refl
    none-taken (suc n) = refl

-- ---- paths

way-length : (g : Forests) (steps : List code.Step) → length (way_of g steps) ≡ length steps
way-length g steps = length-reverse (map (step_of g) steps) ∙ length-map steps (step_of g)

-- the document alone has nothing before the step to an item, where its number is not told
pub before_alone : (g : Forests) (steps : List code.Step) (numbered : Bool) (text : List ℕ) → length steps ≡ 1 → numbered ≡ false → text ≡ [] → text ≡ before_text numbered (way_of g steps)
before_alone g steps numbered text l n e = e ∙ subst (λ z. [] ≡ before_text z (way_of g steps)) (sym n) (by (way_of g steps) (way-length g steps ∙ l))
  where
    by : (w : Way) → length w ≡ 1 → [] ≡ before_text false w
    by [] q = refl
    by (s ∷ []) q = refl
    by (s ∷ t ∷ w) q = absurd (omega (arith, q))

not-alone : (b : Bool) → (b ≡ true → ⊥) → cond b (codes ".") [] ≡ []
not-alone true h = absurd (h refl)
not-alone false h = refl

pub before_path : (g : Forests) (steps : List code.Step) (numbered : Bool) (text : List ℕ) → (length steps ≡ 1 → numbered ≡ false → ⊥) → text ≡ path_text numbered (way_of g steps) → text ≡ before_text numbered (way_of g steps)
before_path g steps numbered text not e = e ∙ by numbered (way_of g steps) (λ q f. not (sym (way-length g steps) ∙ q) f)
  where
    by : (b : Bool) (w : Way) → (length w ≡ 1 → b ≡ false → ⊥) → path_text b w ≡ before_text b w
    by b [] h = refl
    by true (s ∷ w) h = refl
    by false (s ∷ []) h = absurd (h refl refl)
    by false (s ∷ t ∷ w) h = ap (λ z. z ++ flat_map step_text (t ∷ w)) (not-alone (suc (length w) == 0) (λ q. let z = eqb-true (suc (length w)) 0 q in absurd (omega (arith, z))))

pub range_empty : (g : Forests) (steps : List code.Step) (numbered : Bool) (s : code.Step) (z : Places) (before text : List ℕ) → steps ≡ [] → before ≡ before_text numbered (way_of g steps) → text ≡ before ++ range_of s z → text ≡ range_path numbered s z (way_of g steps)
range_empty g steps numbered s z before text e b t =
    t ∙ ap (λ y. y ++ range_of s z) b ∙ subst (λ y. before_text numbered (way_of g y) ++ range_of s z ≡ range_path numbered s z (way_of g y)) (sym e) refl

pub range_some : (g : Forests) (steps : List code.Step) (numbered : Bool) (s : code.Step) (z : Places) (before text : List ℕ) → (steps ≡ [] → ⊥) → before ≡ before_text numbered (way_of g steps) → text ≡ before ++ bracketed (range_of s z) → text ≡ range_path numbered s z (way_of g steps)
range_some g steps numbered s z before text not b t = t ∙ ap (λ y. y ++ bracketed (range_of s z)) b ∙ by steps (way_of g steps) (way-length g steps) not
  where
    by : (xs : List code.Step) (w : Way) → length w ≡ length xs → (xs ≡ [] → ⊥) → before_text numbered w ++ bracketed (range_of s z) ≡ range_path numbered s z w
    by [] w l n = absurd (n refl)
    by (x ∷ xs) [] l n = absurd (omega (arith, l))
    by (x ∷ xs) (t ∷ w) l n = refl

module _ (paths : Paths) (numbered : Bool) (g : Forests) where
  pub list_pasted : (list : List code.Step) (text : List ℕ) → is_plain paths ≡ false → text ≡ path_as paths numbered None None (way_of g list) → text ≡ list_path paths numbered (way_of g list)
  list_pasted list text p e = e ∙ by paths (way_of g list) p
    where
      by : (ps : Paths) (w : Way) → is_plain ps ≡ false → path_as ps numbered None None w ≡ list_path ps numbered w
      by Plain w p = absurd (cc)
      by Jq w p = refl
      by JsonPointer w p = refl

  pub list_inside : (list : List code.Step) (text : List ℕ) → is_plain paths ≡ true → (list ≡ [] → ⊥) → text ≡ path_as paths numbered None None (way_of g list) → text ≡ list_path paths numbered (way_of g list)
  list_inside list text p not e = e ∙ by paths list (way_of g list) p (way-length g list) not
    where
      by : (ps : Paths) (xs : List code.Step) (w : Way) → is_plain ps ≡ true → length w ≡ length xs → (xs ≡ [] → ⊥) → path_as ps numbered None None w ≡ list_path ps numbered w
      by Plain [] w p l n = absurd (n refl)
      by Plain (x ∷ xs) [] p l n = absurd (omega (arith, l))
      by Plain (x ∷ xs) (t ∷ w) p l n = refl
      by Jq xs w p l n = absurd (cc)
      by JsonPointer xs w p l n = absurd (cc)

  pub list_of_all : (list : List code.Step) (text : List ℕ) → is_plain paths ≡ true → list ≡ [] → text ≡ codes "." → text ≡ list_path paths numbered (way_of g list)
  list_of_all list text p l e = e ∙ subst (λ z. codes "." ≡ list_path paths numbered (way_of g z)) (sym l) (by paths p)
    where
      by : (ps : Paths) → is_plain ps ≡ true → codes "." ≡ list_path ps numbered []
      by Plain p = refl
      by Jq p = absurd (cc)
      by JsonPointer p = absurd (cc)

  pub group_none : (whole : Bool) (last : Option Places) (path : List code.Step) (text : List ℕ) → path ≡ [] → text ≡ [] → text ≡ group_text paths numbered g whole last path
  group_none whole last path text p e = e ∙ subst (λ z. [] ≡ group_text paths numbered g whole last z) (sym p) refl

  pub group_whole : (whole : Bool) (last : Option Places) (path list : List code.Step) (s : code.Step) (text : List ℕ) → path ≡ s ∷ list → whole ≡ true → text ≡ list_path paths numbered (way_of g list) → text ≡ group_text paths numbered g whole last path
  group_whole whole last path list s text p w e = e ∙ subst (λ z. list_path paths numbered (way_of g list) ≡ group_text paths numbered g z last path) (sym w) (subst (λ z. list_path paths numbered (way_of g list) ≡ group_text paths numbered g true last z) (sym p) refl)

  pub group_range : (whole : Bool) (z : Places) (path list : List code.Step) (s : code.Step) (text : List ℕ) → path ≡ s ∷ list → whole ≡ false → text ≡ range_path numbered s z (way_of g list) → text ≡ group_text paths numbered g whole (Some z) path
  group_range whole z path list s text p w e = e ∙ subst (λ y. range_path numbered s z (way_of g list) ≡ group_text paths numbered g y (Some z) path) (sym w) (subst (λ y. range_path numbered s z (way_of g list) ≡ group_text paths numbered g false (Some z) y) (sym p) refl)

  pub group_one : (whole : Bool) (path list : List code.Step) (s : code.Step) (text : List ℕ) → path ≡ s ∷ list → whole ≡ false → text ≡ path_as paths numbered None None (way_of g path) → text ≡ group_text paths numbered g whole None path
  group_one whole path list s text p w e = e ∙ subst (λ y. path_as paths numbered None None (way_of g path) ≡ group_text paths numbered g y None path) (sym w) (subst (λ y. path_as paths numbered None None (way_of g y) ≡ group_text paths numbered g false None y) (sym p) refl)

-- ---- the first move of a group

some-none : {X : Type 0} {x : X} → None ≡ Some x → ⊥
some-none e = absurd (cc)

some-is : {X : Type 0} {x y : X} → Some x ≡ Some y → x ≡ y
some-is e = cc

pub first_none : (moves : List Move) (group : Group) (d : Difference) → None ≡ slice_get moves group.first → IsFirst moves group d
first_none moves group d n = record { is = λ m e. absurd (some-none (n ∙ e)) }

pub first_some : (moves : List Move) (group : Group) (x : Move) (d : Difference) → Some x ≡ slice_get moves group.first → d.path.items ≡ Item x.places ∷ x.path.items → d.left ≡ None → d.right ≡ None → IsFirst moves group d
first_some moves group x d s p l r = record { is = λ m e. pair ∙ ap (λ z. moved_line (move_line_of z)) (some-is (s ∙ e)) }
  where
    pair : line_of d ≡ moved_line (move_line_of x)
    pair = ap (λ z. (z, (d.left, d.right))) p ∙ ap (λ z. (Item x.places ∷ x.path.items, (z, d.right))) l ∙ ap (λ z. (Item x.places ∷ x.path.items, (None, z))) r

pub group_told : (labels : Bool) (g : Forests) (asked : Diff) (moves : List Move) (group : Group) (d : Difference) (seen again : List code.Step) (last : Option Places) (l : Line) → IsFirst moves group d → seen ≡ d.path.items → again ≡ d.path.items → last ≡ last_of moves group
    → string_bytes l.path ≡ group_text asked.paths (is_numbered g) g group.whole last seen → l.left ≡ None → l.right ≡ None → l.changes ≡ None → option_map string_bytes l.label ≡ cond labels (label g (room_of asked.whole) group again) None
    → TellsMembers asked.form g d l.members → l.count ≡ 1 → TellsGroup labels g asked moves group l
group_told labels g asked moves group d seen again last l f s t z p a b c k m n = record {
  first = d;
  is_first = f;
  path = p ∙ ap (group_text asked.paths (is_numbered g) g group.whole last) s ∙ ap (λ y. group_text asked.paths (is_numbered g) g group.whole y d.path.items) z;
  no_left = a;
  no_right = b;
  no_changes = c;
  labelled = k ∙ ap (λ y. cond labels (label g (room_of asked.whole) group y) None) t;
  members = m;
  one = n;
}

-- ---- labels

-- a group has a label exactly where there are keys
pub label_some : (g : Forests) (keys : Option Keys) (k : Keys) (room shown : ℕ) (group : Group) (path : List code.Step) (r : Result (Option (String Global)) AllocError) → keys ≡ Some k → IfSome keys (AreKeys g) → shown ≡ room → IfOk r (λ told. AreKeys g k → option_map string_bytes told ≡ label g shown group path)
    → IfOk r (λ told. option_map string_bytes told ≡ cond (is_some keys) (label g room group path) None)
label_some g keys k room shown group path (Ok told) e a m h =
    h (subst (λ z. IfSome z (AreKeys g)) e a) ∙ ap (λ z. label g z group path) m ∙ sym (ap (λ z. cond (is_some z) (label g room group path) None) e)
label_some g keys k room shown group path (Err fault) e a m h = tt

pub label_none : (g : Forests) (keys : Option Keys) (room : ℕ) (group : Group) (path : List code.Step) → keys ≡ None → None ≡ cond (is_some keys) (label g room group path) None
label_none g keys room group path e = sym (ap (λ z. cond (is_some z) (label g room group path) None) e)
