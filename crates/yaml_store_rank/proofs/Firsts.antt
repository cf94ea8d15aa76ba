-- The first node of each rank.
use Rattle.std.proofs.Common.{◌≡◌, inl, inr, ℕ, zero, suc, ◌+◌, ◌<◌, ◌≤◌, List, [], ◌∷◌, ◌++◌, length, slice_index, refl, sym, ◌∙◌, ap, subst, arith, length-append}
use Rattle.std.specs.Prelude.{Some}
use Rattle.std.specs.List.{slice_get}
use Rattle.yaml_definitions.specs.model.Tree.{Tree}
use Rattle.yaml_tree.proofs.Lists.{get-more, push-get}
use Rattle.yaml_tree.specs.Numbered.{AgreeBy}
use Rattle.yaml_tree.proofs.Numbering.{Numbering, Goes, more, at-new, keeps, finished, get-within}
use Rattle.yaml_store_rank.specs.KeyModel.{Key, key_cmp, Keys, Rises}
use Rattle.yaml_store_rank.specs.LevelModel.{Told, NumberedOn}

-- What is noted once the keys before `end` are numbered, of which the last has the rank `rank`.
pub record Firsts (keys : Keys) (end rank : ℕ) (ranks before now : List ℕ) : Type 0 where
  pub none : end ≡ 0 → length now ≡ length before
  pub some : 0 < end → length now ≡ suc rank
  pub small : length now < 4294967296
  pub kept : (r i : ℕ) → slice_get before r ≡ Some i → slice_get now r ≡ Some i
  pub told : (a : ℕ → Tree) → AgreeBy key_cmp a keys → Rises keys → (r i : ℕ) → length before ≤ r → slice_get now r ≡ Some i → Told keys end ranks r i

pub firsts-none : (keys : Keys) (rank : ℕ) (ranks before : List ℕ) → length before < 4294967296 → Firsts keys 0 rank ranks before before
firsts-none keys rank ranks before l = record {
  none = λ e. refl;
  some = λ h. absurd (omega arith);
  small = l;
  kept = λ r i e. e;
  told = λ a agree rises r i h e. let w = get-within before r i e in absurd (omega arith);
}

module _ (old before was : List ℕ) (keys : Keys) (k rank new : ℕ) (ranks : List ℕ) (x : Key × ℕ) (there : slice_get keys k ≡ Some x) (within : x.1 < length old) (numbered : Numbering key_cmp old (length before) keys k rank ranks) (firsts : Firsts keys k rank ranks before was)
    (goes : Goes key_cmp old (length before) keys k rank new ranks x there within numbered) where
  abbrev next : List ℕ
  next = more key_cmp old (length before) keys k rank new ranks x there within numbered

  still : (a : ℕ → Tree) → AgreeBy key_cmp a keys → Rises keys → (r i : ℕ) → length before ≤ r → slice_get was r ≡ Some i → Told keys (k + 1) next r i
  still a agree rises r i l e =
      let t = firsts.told a agree rises r i l e in
      let q = keeps key_cmp old (length before) keys k rank new ranks x there within numbered goes a agree rises t.0 t.1 t.2 t.3 in
      (t.0, t.1, omega (arith, t.2), t.3, t.4, (ap (slice_index next) (sym t.4) ∙ q) ∙ (ap (slice_index ranks) t.4 ∙ t.5))

  pub firsts-same : 0 < k → new ≡ rank → Firsts keys (k + 1) new next before was
  firsts-same h e = record {
    none = λ z. absurd (omega arith);
    some = λ z. let s = firsts.some h in omega arith;
    small = firsts.small;
    kept = firsts.kept;
    told = still;
  }

  pub firsts-more : (now : List ℕ) → new ≡ length was → new < 4294967295 → now ≡ was ++ (x.1 ∷ []) → Firsts keys (k + 1) new next before now
  firsts-more now e l q = record {
    none = λ z. absurd (omega arith);
    some = λ z. omega (arith, e, ap length q, length-append was (x.1 ∷ []));
    small = omega (arith, e, l, ap length q, length-append was (x.1 ∷ []));
    kept = λ r i h. subst (λ z. slice_get z r ≡ Some i) (sym q) (get-more was (x.1 ∷ []) r i (firsts.kept r i h));
    told = λ a agree rises r i h w. elim (push-get was x.1 i r (subst (λ z. slice_get z r ≡ Some i) q w)) [
      | inl u ↦ still a agree rises r i h u
      | inr u ↦ (k, x, omega arith, there, sym u.1, (ap (slice_index next) u.1 ∙ at-new key_cmp old (length before) keys k rank new ranks x there within numbered) ∙ (e ∙ sym u.0))
    ];
  }

pub numbered-on : (keys : Keys) (old ranks before now : List ℕ) (end rank : ℕ) → Numbering key_cmp old (length before) keys end rank ranks → Firsts keys end rank ranks before now → length keys ≤ end → NumberedOn keys old ranks before now
numbered-on keys old ranks before now end rank n f l = record {
  long = n.long;
  others = n.others;
  grown = grown end refl;
  small = f.small;
  kept = f.kept;
  in_order = λ a agree rises. record {
    numbered = finished key_cmp old (length before) keys end rank ranks n l a agree rises;
    below = λ k x e.
        let w = get-within keys k x e in
        let h : k < end = omega arith in
        let u = n.upto a agree rises k x h e in
        let s = f.some (omega arith) in
        omega arith;
    told = λ r i h e.
        let t = f.told a agree rises r i h e in
        (t.0, t.1, get-within keys t.0 t.1 t.3, t.3, t.4, t.5);
  };
}
  where
    grown : (m : ℕ) → m ≡ end → length before ≤ length now
    grown zero e = let z = f.none (sym e) in omega arith
    grown (suc m) e = let s = f.some (omega arith) in let w = n.low in omega arith
