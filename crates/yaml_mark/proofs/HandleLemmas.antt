-- Looking handles up.
use Rattle.std.proofs.Common.{◌≡◌, ℕ, List, [], ◌∷◌, ◌++◌, Bool, true, false, Option, Some, None, Bor, cond, map, refl, sym, ◌∙◌, ap, subst}
use Rattle.std.proofs.lemmas.List.{append-nil}
use Rattle.std.specs.Prelude.{bytes_eq, codes, is_some, ◌==◌, ◌||◌}
use Rattle.std.specs.List.{list_any}
use Rattle.std.specs.Option.{option_map, option_or}
use Rattle.std.specs.Map.{lookup, update}
use Rattle.std.specs.Cmp.Lexicographic.{bytes_decides, nat_list_eq_equiv}
use Rattle.yaml_definitions.specs.grammar.Tags.{Handles, default_handles, prefix_of, percent_decode}
use Rattle.yaml_mark.specs.Prefixes.{IsWhole, StandFor}
use Rattle.yaml_mark.proofs.DecodeLemmas.{kept_first}

-- a binding of the code as a plain one
abbrev pub plain : Bor (List ℕ) × Bor (List ℕ) → List ℕ × List ℕ
plain b = (b.0.now, b.1.now)

-- in one list, or else in another
pub lookup_or : (p : List ℕ → Bool) (xs ys : Handles) → lookup p (xs ++ ys) ≡ option_or (lookup p xs) (lookup p ys)
lookup_or p [] ys = refl
lookup_or p (x ∷ xs) ys = pick (p x.0) (lookup_or p xs ys)
  where
    pick : (t : Bool) → lookup p (xs ++ ys) ≡ option_or (lookup p xs) (lookup p ys) →
        cond t (Some x.1) (lookup p (xs ++ ys)) ≡ option_or (cond t (Some x.1) (lookup p xs)) (lookup p ys)
    pick true e = refl
    pick false e = e

or_seen : {A B : Type 0} (f : A → B) (x y : Option A) → option_map f (option_or x y) ≡ option_or (option_map f x) (option_map f y)
or_seen {A} {B} f None y = refl
or_seen {A} {B} f (Some a) y = refl

in_both : {A : Type 0} {a b c d : Option A} → a ≡ b → c ≡ d → option_or a c ≡ option_or b d
in_both {A} {a} {b} {c} {d} e f = ap (λ x. option_or x c) e ∙ ap (option_or b) f

or_none : {A : Type 0} (x : Option A) → option_or x None ≡ x
or_none {A} None = refl
or_none {A} (Some a) = refl

-- ---- bytes that stand for prefixes

pub stand_or : (a b p q : Option (List ℕ)) → StandFor a p → StandFor b q → StandFor (option_or a b) (option_or p q)
stand_or a b p q e f = λ s. or_seen (λ x. x ++ percent_decode s) a b ∙ in_both (e s) (f s) ∙ sym (or_seen (λ x. percent_decode (x ++ s)) p q)

kept_all : (p s : List ℕ) → list_any (λ b. b == 37) p ≡ false → percent_decode (p ++ s) ≡ p ++ percent_decode s
kept_all [] s h = refl
kept_all (b ∷ p) s h = pick (b == 37) refl h (kept_all p s)
  where
    pick : (t : Bool) → (b == 37) ≡ t → (t || list_any (λ b. b == 37) p) ≡ false → (list_any (λ b. b == 37) p ≡ false → percent_decode (p ++ s) ≡ p ++ percent_decode s) → percent_decode (b ∷ (p ++ s)) ≡ b ∷ (p ++ percent_decode s)
    pick true e k rec = let z : true ≡ false = k in absurd (cc)
    pick false e k rec = kept_first b (p ++ s) (λ f. let z : false ≡ true = sym e ∙ ap (λ x. x == 37) f in cc) ∙ ap (λ z. b ∷ z) (rec k)

pub no_escape : (p : List ℕ) → list_any (λ b. b == 37) p ≡ false → percent_decode p ≡ p
unfolding percent_decode
no_escape p h = ap percent_decode (sym (append-nil p)) ∙ kept_all p [] h ∙ append-nil p

-- a prefix without escapes stands for itself
pub plain_stands : (p : List ℕ) → list_any (λ b. b == 37) p ≡ false → StandFor (Some p) (Some p)
plain_stands p h = λ s. ap Some (sym (kept_all p s h))

pub default_primary : (h b : List ℕ) → b ≡ codes "!" → bytes_eq h (codes "!") ≡ true → StandFor (Some b) (lookup (bytes_eq h) default_handles)
unfolding default_handles
default_primary h b e t =
    let same : lookup (bytes_eq h) default_handles ≡ Some (codes "!") = rw t refl in
    subst (λ z. StandFor (Some z) (lookup (bytes_eq h) default_handles)) (sym e) (subst (StandFor (Some (codes "!"))) (sym same) (plain_stands (codes "!") refl))

pub default_secondary : (h b : List ℕ) → b ≡ codes "tag:yaml.org,2002:" → bytes_eq h (codes "!") ≡ false → bytes_eq h (codes "!!") ≡ true → StandFor (Some b) (lookup (bytes_eq h) default_handles)
unfolding default_handles
default_secondary h b e f t =
    let same : lookup (bytes_eq h) default_handles ≡ Some (codes "tag:yaml.org,2002:") = rw (f, t) refl in
    subst (λ z. StandFor (Some z) (lookup (bytes_eq h) default_handles)) (sym e) (subst (StandFor (Some (codes "tag:yaml.org,2002:"))) (sym same) (plain_stands (codes "tag:yaml.org,2002:") refl))

pub prefix_none : (hs : Handles) (h : List ℕ) (b : Option (List ℕ)) → hs ≡ [] → StandFor b (lookup (bytes_eq h) default_handles) → StandFor b (prefix_of hs h)
unfolding prefix_of
prefix_none hs h b e f = subst (λ x. StandFor b (lookup (bytes_eq h) (x ++ default_handles))) (sym e) f

pub prefix_or : (bs hs : Handles) (h : List ℕ) → hs ≡ bs → option_or (lookup (bytes_eq h) bs) (lookup (bytes_eq h) default_handles) ≡ prefix_of hs h
unfolding prefix_of
prefix_or bs hs h e = sym (lookup_or (bytes_eq h) bs default_handles) ∙ ap (λ x. lookup (bytes_eq h) (x ++ default_handles)) (sym e)

-- what directives bind, or else the default
pub prefix_both : {A : Type 0} (g : A → List ℕ) (bs hs : Handles) (h : List ℕ) (a b r : Option A) → r ≡ option_or a b → hs ≡ bs → StandFor (option_map g a) (lookup (bytes_eq h) bs) →
    StandFor (option_map g b) (lookup (bytes_eq h) default_handles) → StandFor (option_map g r) (prefix_of hs h)
prefix_both {A} g bs hs h a b r e f x y = λ s.
    ap (option_map (λ z. z ++ percent_decode s)) (ap (option_map g) e ∙ or_seen g a b) ∙ stand_or _ _ _ _ x y s ∙ ap (option_map (λ p. percent_decode (p ++ s))) (prefix_or bs hs h f)

lookup_end : (p : List ℕ → Bool) (bs : List (Bor (List ℕ) × Bor (List ℕ))) (h x : Bor (List ℕ)) → lookup p (map plain (bs ++ (h, x) ∷ [])) ≡ option_or (lookup p (map plain bs)) (cond (p h.now) (Some x.now) None)
lookup_end p [] h x = refl
lookup_end p (b ∷ bs) h x = pick (p b.0.now) (lookup_end p bs h x)
  where
    pick : (t : Bool) → lookup p (map plain (bs ++ (h, x) ∷ [])) ≡ option_or (lookup p (map plain bs)) (cond (p h.now) (Some x.now) None) →
        cond t (Some b.1.now) (lookup p (map plain (bs ++ (h, x) ∷ []))) ≡ option_or (cond t (Some b.1.now) (lookup p (map plain bs))) (cond (p h.now) (Some x.now) None)
    pick true e = refl
    pick false e = e

-- one more binding, of a handle that is not bound
pub found_more : {B : Type 0} (f : B → List ℕ) (bs : List (Bor (List ℕ) × Bor (List ℕ))) (h x : Bor (List ℕ)) (b : B) (g k : List ℕ → Option B) → f b ≡ percent_decode x.now → IsWhole x.now →
    ((q : List ℕ) → StandFor (option_map f (g q)) (lookup (bytes_eq q) (map plain bs))) → lookup (bytes_eq h.now) (map plain bs) ≡ None →
    ((q : List ℕ) → k q ≡ update bytes_eq g h.now (Some b) q) → (q : List ℕ) → StandFor (option_map f (k q)) (lookup (bytes_eq q) (map plain (bs ++ (h, x) ∷ [])))
found_more {B} f bs h x b g k bytes whole found free put q =
    subst (λ o. StandFor (option_map f o) (lookup (bytes_eq q) (map plain (bs ++ (h, x) ∷ [])))) (sym (put q))
    (subst (StandFor (option_map f (cond (bytes_eq h.now q) (Some b) (g q)))) (sym (lookup_end (bytes_eq q) bs h x)) (pick (bytes_eq h.now q) refl))
  where
    pick : (t : Bool) → bytes_eq h.now q ≡ t → StandFor (option_map f (cond t (Some b) (g q))) (option_or (lookup (bytes_eq q) (map plain bs)) (cond (bytes_eq q h.now) (Some x.now) None))
    pick true e =
        let there : lookup (bytes_eq q) (map plain bs) ≡ None = subst (λ w. lookup (bytes_eq w) (map plain bs) ≡ None) ((bytes_decides h.now q).0 e) free in
        let itself : bytes_eq q h.now ≡ true = nat_list_eq_equiv.symm q h.now ∙ e in
        subst (StandFor (Some (f b))) (sym (in_both there (ap (λ t. cond t (Some x.now) None) itself))) (λ s. ap Some (ap (λ z. z ++ percent_decode s) bytes ∙ sym (whole s)))
    pick false e =
        let other : bytes_eq q h.now ≡ false = nat_list_eq_equiv.symm q h.now ∙ e in
        subst (StandFor (option_map f (g q))) (sym (ap (option_or (lookup (bytes_eq q) (map plain bs))) (ap (λ t. cond t (Some x.now) None) other) ∙ or_none _)) (found q)

-- ---- whether there is one

kept_some : {A B : Type 0} (f : A → B) (o : Option A) → is_some (option_map f o) ≡ is_some o
kept_some {A} {B} f None = refl
kept_some {A} {B} f (Some a) = refl

pub some_alike : {A : Type 0} (f : A → List ℕ) (o : Option A) (x : Option (List ℕ)) → StandFor (option_map f o) x → is_some x ≡ is_some o
some_alike {A} f o x e = sym (kept_some (λ p. percent_decode (p ++ [])) x) ∙ ap is_some (sym (e [])) ∙ kept_some (λ b. b ++ percent_decode []) (option_map f o) ∙ kept_some f o

pub none_there : (x : Option (List ℕ)) → is_some x ≡ false → x ≡ None
none_there None t = refl
none_there (Some p) t = let z : true ≡ false = t in absurd (cc)

pub no_stand : (x : Option (List ℕ)) → StandFor None x → x ≡ None
no_stand None e = refl
no_stand (Some p) e = let z : ◌≡◌ {A = Option (List ℕ)} None (Some (percent_decode (p ++ []))) = e [] in absurd (cc)
