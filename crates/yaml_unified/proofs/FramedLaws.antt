-- Rows of kept lines, and the kept lines around the changes of a hunk.
use Rattle.std.proofs.Common.{arith, ◌≡◌, ◌||◌, ℕ, ◌+◌, ◌-◌, ◌*◌, ◌<◌, ◌≤◌, Bool, true, false, List, [], drop, take, length, min, inl, inr, refl, sym, ◌∙◌, ap, subst}
use Rattle.std.specs.List.{list_any}
use Rattle.std.proofs.lemmas.Bool.{cases_lt}
use Rattle.std.proofs.lemmas.List.{take-take, take-append-drop, take_min, drop-take, drop-drop, drop_all, drop_min, length-take, length-drop}
use Rattle.std.proofs.lemmas.List.Folds.{list_any-append}
use Rattle.yaml_unified.specs.Script.{is_change}
use Rattle.yaml_unified.specs.declared.script.Edit.{Edit}
use Rattle.yaml_unified.specs.Unified.{IsFirstChange, BeginsHunk, EndsHunk, Framed}
use Rattle.yaml_unified.proofs.UnifiedLaws.{kept_part}

-- ---- rows of edits

-- a list without a change, or with one, in two parts
in_parts : (es : List Edit) (n : ℕ) → (list_any is_change (take n es) || list_any is_change (drop n es)) ≡ list_any is_change es
in_parts es n = sym (list_any-append is_change (take n es) (drop n es)) ∙ ap (list_any is_change) (take-append-drop n es)

second : (a b : Bool) → (a || b) ≡ false → b ≡ false
second false b h = h
second true b h = cc

kept_behind : (es : List Edit) (n : ℕ) → list_any is_change es ≡ false → list_any is_change (drop n es) ≡ false
kept_behind es n h = second (list_any is_change (take n es)) (list_any is_change (drop n es)) (in_parts es n ∙ h)

changed_behind : (es : List Edit) (n : ℕ) → list_any is_change (take n es) ≡ false → list_any is_change es ≡ true → list_any is_change (drop n es) ≡ true
changed_behind es n h e = ap (λ z. z || list_any is_change (drop n es)) (sym h) ∙ in_parts es n ∙ e

-- the n edits behind m others
row_changed : (es : List Edit) (m n : ℕ) → list_any is_change (take m es) ≡ false → list_any is_change (take (m + n) es) ≡ true → list_any is_change (take n (drop m es)) ≡ true
row_changed es m n h e = ap (list_any is_change) (sym (drop-take m n es)) ∙ changed_behind (take (m + n) es) m (ap (list_any is_change) (take-take m (m + n) es (omega arith)) ∙ h) e

row_kept : (es : List Edit) (j m a n : ℕ) → a + n ≤ m → list_any is_change (take m (drop j es)) ≡ false → list_any is_change (take n (drop (j + a) es)) ≡ false
row_kept es j m a n l h = ap (λ z. list_any is_change (take n z)) (sym (drop-drop a j es)) ∙ ap (list_any is_change) (sym (drop-take a n (drop j es))) ∙ kept_behind (take (a + n) (drop j es)) a (kept_part (drop j es) (a + n) m l h)

-- a row that stands within another one
kept_within : (es : List Edit) (j m k n : ℕ) → j ≤ k → k + n ≤ j + m → list_any is_change (take m (drop j es)) ≡ false → list_any is_change (take n (drop k es)) ≡ false
kept_within es j m k n l u h =
    let same : j + (k - j) ≡ k = omega arith in
    subst (λ z. list_any is_change (take n (drop z es)) ≡ false) same (row_kept es j m (k - j) n (omega arith) h)

not_kept : (a b : Bool) → (a ≡ false → b ≡ false) → b ≡ true → a ≡ true
not_kept true b f h = refl
not_kept false b f h = sym (f refl) ∙ h

changed_within : (es : List Edit) (j m k n : ℕ) → j ≤ k → k + n ≤ j + m → list_any is_change (take n (drop k es)) ≡ true → list_any is_change (take m (drop j es)) ≡ true
changed_within es j m k n l u h = not_kept (list_any is_change (take m (drop j es))) (list_any is_change (take n (drop k es))) (kept_within es j m k n l u) h

-- a row that stands among the first n edits
row_shown : (es : List Edit) (n k m : ℕ) → k + m ≤ n → list_any is_change (take m (drop k es)) ≡ true → list_any is_change (take m (drop k (take n es))) ≡ true
row_shown es n k m l h =
    let parts : n ≡ k + (n - k) = omega arith in
    ap (λ z. list_any is_change (take m (drop k (take z es)))) parts ∙ ap (λ z. list_any is_change (take m z)) (drop-take k (n - k) es) ∙ ap (list_any is_change) (take-take m (n - k) (drop k es) (omega arith)) ∙ h

-- ---- the first change

-- behind edits that stand before it
pub first_behind : (es : List Edit) (m place : ℕ) → m ≤ place → IsFirstChange es place → IsFirstChange (drop m es) (place - m)
first_behind es m place l f =
    let next : place + 1 ≡ m + (place - m + 1) = omega arith in
    record {
      within = omega (arith, f.within, length-drop m es);
      before = kept_within es 0 place m (place - m) (omega arith) (omega arith) f.before;
      change = row_changed es m (place - m + 1) (kept_part es m place l f.before) (subst (λ z. list_any is_change (take z es) ≡ true) next f.change);
    }

-- among the edits up to a place behind it
first_front : (es : List Edit) (n place : ℕ) → place < n → IsFirstChange es place → IsFirstChange (take n es) place
first_front es n place l f =
    record {
      within = omega (arith, f.within, length-take n es);
      before = ap (list_any is_change) (take-take place n es (omega arith)) ∙ f.before;
      change = ap (list_any is_change) (take-take (place + 1) n es (omega arith)) ∙ f.change;
    }

-- the first change of the n first edits is that of all of them
first_whole : (es : List Edit) (n place : ℕ) → IsFirstChange (take n es) place → IsFirstChange es place
first_whole es n place f =
    let low : place < n = omega (arith, f.within, length-take n es) in
    record {
      within = omega (arith, f.within, length-take n es);
      before = ap (list_any is_change) (sym (take-take place n es (omega arith))) ∙ f.before;
      change = ap (list_any is_change) (sym (take-take (place + 1) n es (omega arith))) ∙ f.change;
    }

first_is_change : (es : List Edit) (place : ℕ) → IsFirstChange es place → list_any is_change (take 1 (drop place es)) ≡ true
first_is_change es place f = row_changed es place 1 f.before f.change

-- ---- the end of a hunk

-- From the first change to another one no more than twice `context` kept lines follow one another.
pub record Reaches (context first : ℕ) (es : List Edit) (last : ℕ) : Type 0 where
  pub within : last < length es
  pub from : first ≤ last
  pub change : list_any is_change (take 1 (drop last es)) ≡ true
  pub near : (k : ℕ) → k + 2 * context < last → list_any is_change (take (2 * context + 1) (drop k es)) ≡ true

pub reaches_first : (es : List Edit) (context first : ℕ) → first ≤ context → IsFirstChange es first → Reaches context first es first
reaches_first es context first l f =
    record {
      within = f.within;
      from = omega arith;
      change = first_is_change es first f;
      near = λ k h. absurd (omega (arith, h, l));
    }

pub reaches_next : (es : List Edit) (context first last next : ℕ) → Reaches context first es last → IsFirstChange (take (2 * context + 1) (drop (last + 1) es)) next → Reaches context first es (last + (next + 1))
reaches_next es context first last next r f =
    let behind = drop (last + 1) es in
    let low : next < 2 * context + 1 = omega (arith, f.within, length-take (2 * context + 1) behind) in
    let place : last + 1 + next ≡ last + (next + 1) = omega arith in
    let is = first_whole behind (2 * context + 1) next f in
    record {
      within = omega (arith, is.within, length-drop (last + 1) es);
      from = omega (arith, r.from);
      change = subst (λ z. list_any is_change (take 1 z) ≡ true) (drop-drop next (last + 1) es ∙ ap (λ z. drop z es) place) (first_is_change behind next is);
      near = λ k h. elim (cases_lt (k + 2 * context) last) [
        | inl before ↦ r.near k before
        | inr after ↦ changed_within es k (2 * context + 1) last 1 (omega (arith, h, low)) (omega (arith, after)) r.change
      ];
    }

-- no change is near behind it
ends_at : (es : List Edit) (context first last : ℕ) → Reaches context first es last → list_any is_change (take (2 * context + 1) (drop (last + 1) es)) ≡ false → EndsHunk context (take (last + context + 1) es) (drop (last + context + 1) es)
ends_at es context first last r h =
    let n : ℕ = last + context + 1 in
    let shown : take n es ≡ take (last + (context + 1)) es = ap (λ z. take z es) (omega arith) in
    let shown_next : take n es ≡ take (last + 1 + context) es = ap (λ z. take z es) (omega arith) in
    record {
      last = last;
      is_last = record {
        within = omega (arith, r.within, length-take n es);
        change = ap (λ z. list_any is_change (drop last z)) shown ∙ ap (list_any is_change) (drop-take last (context + 1) es) ∙ changed_within es last (context + 1) last 1 (omega arith) (omega arith) r.change;
        behind = ap (λ z. list_any is_change (drop (last + 1) z)) shown_next ∙ ap (list_any is_change) (drop-take (last + 1) context es) ∙ kept_part (drop (last + 1) es) context (2 * context + 1) (omega arith) h;
      };
      most = omega (arith, length-take n es);
      full = λ l. drop_all n es (omega (arith, l, length-take n es));
      near = λ k l. row_shown es n k (2 * context + 1) (omega (arith, l)) (r.near k l);
      apart = kept_within es (last + 1) (2 * context + 1) n (context + 1) (omega arith) (omega arith) h;
    }

pub ends_hunk : (es : List Edit) (context first last n : ℕ) → Reaches context first es last → list_any is_change (take (2 * context + 1) (drop (last + 1) es)) ≡ false → n ≡ min (last + context + 1) (length es) → EndsHunk context (take n es) (drop n es)
ends_hunk es context first last n r h e =
    let front : take n es ≡ take (last + context + 1) es = ap (λ z. take z es) e ∙ take_min (last + context + 1) es in
    let back : drop n es ≡ drop (last + context + 1) es = ap (λ z. drop z es) e ∙ drop_min (last + context + 1) es in
    subst (λ z. EndsHunk context z (drop n es)) (sym front) (subst (λ z. EndsHunk context (take (last + context + 1) es) z) (sym back) (ends_at es context first last r h))

-- ---- a hunk with its kept lines

begins_hunk : (es : List Edit) (context place m n : ℕ) → m ≡ place - context → place - m < n → IsFirstChange es place → BeginsHunk context (take m es) (take n (drop m es))
begins_hunk es context place m n e l f =
    record {
      first = place - m;
      is_first = first_front (drop m es) n (place - m) l (first_behind es m place (omega arith) f);
      most = omega arith;
      full = λ h. let none : 0 ≡ m = omega (arith, h, e) in subst (λ z. take z es ≡ []) none refl;
    }

pub framed : (es a b c d : List Edit) (context place m n : ℕ) → a ≡ take m es → b ≡ drop m es → c ≡ take n b → d ≡ drop n b → m ≡ place - context → place - m < n → IsFirstChange es place → EndsHunk context (take n b) (drop n b) → Framed context a c d
framed es a b c d context place m n ea eb ec ed e l f ends =
    record {
      begins = subst (λ z. BeginsHunk context z c) (sym ea) (subst (BeginsHunk context (take m es)) (sym (ec ∙ ap (take n) eb)) (begins_hunk es context place m n e l f));
      ends = subst (λ z. EndsHunk context z d) (sym ec) (subst (EndsHunk context (take n b)) (sym ed) ends);
    }
