-- Hunks that are written one after another.
use Rattle.std.proofs.Common.{arith, ◌≡◌, ◌||◌, ℕ, ◌+◌, ◌<◌, ◌≤◌, Bool, true, false, List, [], ◌∷◌, ◌++◌, drop, take, length, get_or, refl, sym, ◌∙◌, ap, subst, add-one}
use Rattle.std.specs.List.{flat_map, list_any}
use Rattle.std.proofs.Math.Seq.{drop-cons}
use Rattle.std.proofs.Math.ListN.{drop_of_length-le}
use Rattle.std.proofs.lemmas.List.{append_assoc, append-nil, take-take, take-append-drop, take_all}
use Rattle.std.proofs.lemmas.List.Folds.{list_any_more, list_any-append}
use Rattle.yaml_unified.specs.Script.{is_change}
use Rattle.yaml_unified.specs.declared.script.Edit.{Edit}
use Rattle.yaml_unified.specs.Unified.{lefts, rights, hunk_text, Framed, AreHunks, hunk, no_hunk, PutsHunk, PutsHunks}

drop_next : {X : Type 0} (xs : List X) (i : ℕ) (d : X) → i < length xs → drop i xs ≡ get_or xs i d ∷ drop (i + 1) xs
drop_next xs i d l = rw add-one (drop-cons xs i d l)

pub flat_next : {X : Type 0} (f : X → List ℕ) (xs : List X) (i : ℕ) (d : X) (o a whole : List ℕ) → i < length xs → o ++ flat_map f (drop i xs) ≡ whole → a ≡ o ++ f (get_or xs i d) → a ++ flat_map f (drop (i + 1) xs) ≡ whole
flat_next f xs i d o a whole l h e =
    let r = flat_map f (drop (i + 1) xs) in
    ap (λ z. z ++ r) e ∙ append_assoc o (f (get_or xs i d)) r ∙ ap (λ z. o ++ flat_map f z) (sym (drop_next xs i d l)) ∙ h

pub flat_all : {X : Type 0} (f : X → List ℕ) (xs : List X) (i : ℕ) (o whole : List ℕ) → length xs ≤ i → o ++ flat_map f (drop i xs) ≡ whole → o ≡ whole
flat_all f xs i o whole l h = sym (append-nil o) ∙ ap (λ z. o ++ flat_map f z) (sym (drop_of_length-le xs l)) ∙ h

neither : (a b : Bool) → (a || b) ≡ false → a ≡ false
neither false b h = refl
neither true b h = h

-- no change is in a part of edits without one
none_before : (xs ys : List Edit) → list_any is_change (xs ++ ys) ≡ false → list_any is_change xs ≡ false
none_before xs ys h = neither (list_any is_change xs) (list_any is_change ys) (sym (list_any-append is_change xs ys) ∙ h)

pub kept_part : (es : List Edit) (m n : ℕ) → m ≤ n → list_any is_change (take n es) ≡ false → list_any is_change (take m es) ≡ false
kept_part es m n l h = none_before (take m es) (drop m (take n es)) (ap (list_any is_change) (ap (λ z. z ++ drop m (take n es)) (sym (take-take m n es l)) ∙ take-append-drop m (take n es)) ∙ h)

-- edits in three parts: those before two places, and those behind them
in_three : (es a b c d : List Edit) (m n : ℕ) → a ≡ take m es → b ≡ drop m es → c ≡ take n b → d ≡ drop n b → es ≡ a ++ (c ++ d)
in_three es a b c d m n e f g h = sym (ap (λ z. a ++ z) (ap (λ z. z ++ d) g ∙ ap (λ z. take n b ++ z) h ∙ take-append-drop n b ∙ f) ∙ ap (λ z. z ++ drop m es) e ∙ take-append-drop m es)

-- a hunk that is written of the second part, where no change is in the first
pub hunk_put : (context : ℕ) (es a b c d : List Edit) (m n change l r lefts_of rights_of : ℕ) (old new : List ℕ) → a ≡ take m es → b ≡ drop m es → c ≡ take n b → d ≡ drop n b → m ≤ change → length a + length b ≡ length es → length d < length b
    → list_any is_change (take change es) ≡ false → Framed context a c d → lefts_of ≡ lefts c → rights_of ≡ rights c → new ≡ old ++ hunk_text (l + length a) (r + length a) c
    → PutsHunk context es l r d (l + length a + lefts_of) (r + length a + rights_of) old new
hunk_put context es a b c d m n change l r lefts_of rights_of old new e f g h k len shorter none framed left right text =
    record {
      skipped = a;
      shown = c;
      whole = in_three es a b c d m n e f g h;
      kept = subst (λ z. list_any is_change z ≡ false) (sym e) (kept_part es m change k none);
      framed = framed;
      text = text;
      left = ap (λ z. l + length a + z) left;
      right = ap (λ z. r + length a + z) right;
      shorter = omega (arith, len, shorter);
    }

-- the hunks of what is left come behind one that is written
pub hunk_more : (context : ℕ) (edits rest whole : List Edit) (l r l_next r_next : ℕ) (start old new : List ℕ) → PutsHunk context edits l r rest l_next r_next old new
    → ((t : List ℕ) → AreHunks context l r edits t → PutsHunks context whole start (old ++ t)) → (t : List ℕ) → AreHunks context l_next r_next rest t → PutsHunks context whole start (new ++ t)
hunk_more context edits rest whole l r l_next r_next start old new p so_far t h =
    let text = hunk_text (l + length p.skipped) (r + length p.skipped) p.shown in
    let there : AreHunks context (l + length p.skipped + lefts p.shown) (r + length p.skipped + rights p.shown) rest t = subst (λ z. AreHunks context z (r + length p.skipped + rights p.shown) rest t) p.left (subst (λ z. AreHunks context l_next z rest t) p.right h) in
    let all : AreHunks context l r edits (text ++ t) = subst (λ z. AreHunks context l r z (text ++ t)) (sym p.whole) (hunk p.skipped p.shown p.kept p.framed there) in
    subst (PutsHunks context whole start) (sym (ap (λ z. z ++ t) p.text ∙ append_assoc old text t)) (so_far (text ++ t) all)

-- nothing is left to be written
pub hunks_end : (context : ℕ) (edits whole : List Edit) (l r : ℕ) (start out : List ℕ) → list_any is_change edits ≡ false
    → ((t : List ℕ) → AreHunks context l r edits t → PutsHunks context whole start (out ++ t)) → PutsHunks context whole start out
hunks_end context edits whole l r start out none so_far = subst (PutsHunks context whole start) (append-nil out) (so_far [] (no_hunk none))

pub hunks_start : (context : ℕ) (whole : List Edit) (start t : List ℕ) → AreHunks context 1 1 whole t → PutsHunks context whole start (start ++ t)
hunks_start context whole start t h = record { hunks = t; text = refl; are = h }

-- ---- a search for the first change

pub kept_next : (es : List Edit) (k : ℕ) (d : Edit) → k < length es → list_any is_change (take k es) ≡ false → is_change (get_or es k d) ≡ false → list_any is_change (take (k + 1) es) ≡ false
kept_next es k d l h e = list_any_more is_change es k d l ∙ ap (λ z. z || is_change (get_or es k d)) h ∙ e

pub change_next : (es : List Edit) (k : ℕ) (d : Edit) → k < length es → list_any is_change (take k es) ≡ false → is_change (get_or es k d) ≡ true → list_any is_change (take (k + 1) es) ≡ true
change_next es k d l h e = list_any_more is_change es k d l ∙ ap (λ z. z || is_change (get_or es k d)) h ∙ e

pub kept_all : (es : List Edit) (k : ℕ) → length es ≤ k → list_any is_change (take k es) ≡ false → list_any is_change es ≡ false
kept_all es k l h = ap (list_any is_change) (sym (take_all k es l)) ∙ h
