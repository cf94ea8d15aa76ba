-- A document's directives, one after another: from a place one list at most.
use Rattle.std.proofs.Common.{◌≡◌, ◌≢◌, ℕ, ◌+◌, ◌⊎◌, inl, inr, List, [], ◌∷◌, ◌++◌, Bool, true, false, not, Some, cond, refl, sym, ◌∙◌, ap, subst, arith, append_assoc}
use Rattle.std.specs.Prelude.{slice_get, bytes_eq, ◌||◌, ◌&&◌, is_some}
use Rattle.std.specs.List.{list_any}
use Rattle.std.specs.Map.{lookup}
use Rattle.std.specs.Cmp.Lexicographic.{nat_list_eq_equiv}
use Rattle.std.proofs.lemmas.List.{append-nil}
use Rattle.yaml_text.specs.LeafAnswer.{Only}
use Rattle.yaml_text.specs.Calls.{read_directives}
use Rattle.yaml_text.specs.LeafAnswer.{Unread}
use Rattle.yaml_definitions.specs.grammar.Rules.{Rule, Any, ◌⊔◌, Begins, chr}
use Rattle.yaml_definitions.specs.grammar.Characters.{is_space}
use Rattle.yaml_definitions.specs.grammar.Separation.{StartsLine, AtEnd, l-comment as l_comment}
use Rattle.yaml_definitions.specs.grammar.Tags.{Handles}
use Rattle.yaml_definitions.specs.grammar.Directives.{Directive, version, reserved, binding, bindings, excludes, is_consistent, l-directive as directive, directives, ns-yaml-directive as yaml_directive, ns-tag-directive as tag_directive, ns-reserved-directive as reserved_directive}
use Rattle.yaml_text.proofs.Runs.{same_char, run_none}
use Rattle.yaml_text.proofs.LineRuns.{end_stops}
use Rattle.yaml_text.proofs.RestLemmas.{from_l, no_blank}
use Rattle.yaml_mark.specs.DirectiveParts.{body, whole_directive, is_repeated, WholeRepeats}
use Rattle.yaml_mark.proofs.CommentLemmas.{Stuck}
use Rattle.yaml_text.proofs.Classes.{ns_percent, solid_nb, solid_no_space}
use Rattle.yaml_mark.proofs.BodyLemmas.{directive_parts}

-- ---- no two alike

any_later : (p : Directive → Bool) (ds ws : List Directive) (d : Directive) → p d ≡ true → list_any p (ds ++ d ∷ ws) ≡ true
any_later p [] ws d h = rw h refl
any_later p (x ∷ ds) ws d h = pick (p x) (any_later p ds ws d h)
  where
    pick : (t : Bool) → list_any p (ds ++ d ∷ ws) ≡ true → (t || list_any p (ds ++ d ∷ ws)) ≡ true
    pick true e = refl
    pick false e = e

any_end : (p : Directive → Bool) (ds : List Directive) (d : Directive) → p d ≡ false → list_any p (ds ++ d ∷ []) ≡ list_any p ds
any_end p [] d h = rw h refl
any_end p (x ∷ ds) d h = ap (λ t. p x || t) (any_end p ds d h)

pub clash_dead : (ds ws : List Directive) (d : Directive) → list_any (λ e. excludes e d) ds ≡ true → is_consistent (ds ++ d ∷ ws) ≡ true → ⊥
unfolding is_consistent
clash_dead [] ws d h c = let z : false ≡ true = h in cc
clash_dead (x ∷ ds) ws d h c = pick (excludes x d) refl h (clash_dead ds ws d)
  where
    both : (a b : Bool) → (not a && b) ≡ true → (a ≡ false) × (b ≡ true)
    both false b e = (refl, e)
    both true b e = let z : false ≡ true = e in absurd (cc)

    pick : (t : Bool) → excludes x d ≡ t → (t || list_any (λ e. excludes e d) ds) ≡ true → (list_any (λ e. excludes e d) ds ≡ true → is_consistent (ds ++ d ∷ ws) ≡ true → ⊥) → ⊥
    pick true e k rec = let z : true ≡ false = sym (any_later (excludes x) ds ws d e) ∙ (both _ _ c).0 in cc
    pick false e k rec = rec k (both _ _ c).1

pub consistent_more : (ds : List Directive) (d : Directive) → is_consistent ds ≡ true → list_any (λ e. excludes e d) ds ≡ false → is_consistent (ds ++ d ∷ []) ≡ true
unfolding is_consistent
consistent_more [] d h n = refl
consistent_more (x ∷ ds) d h n = pick (excludes x d) refl n (list_any (excludes x) ds) refl h (consistent_more ds d)
  where
    pick : (t : Bool) → excludes x d ≡ t → (t || list_any (λ e. excludes e d) ds) ≡ false → (s : Bool) → list_any (excludes x) ds ≡ s → (not s && is_consistent ds) ≡ true →
        (is_consistent ds ≡ true → list_any (λ e. excludes e d) ds ≡ false → is_consistent (ds ++ d ∷ []) ≡ true) → (not (list_any (excludes x) (ds ++ d ∷ [])) && is_consistent (ds ++ d ∷ [])) ≡ true
    pick true e k s f c rec = let z : true ≡ false = k in absurd (cc)
    pick false e k true f c rec = let z : false ≡ true = c in absurd (cc)
    pick false e k false f c rec = let y = any_end (excludes x) ds d e ∙ f in let z = rec c k in rw (y, z) refl

pub bindings_more : (ds : List Directive) (d : Directive) → bindings (ds ++ d ∷ []) ≡ bindings ds ++ bindings (d ∷ [])
unfolding bindings
bindings_more [] d = refl
bindings_more (version ∷ ds) d = bindings_more ds d
bindings_more (reserved ∷ ds) d = bindings_more ds d
bindings_more (binding h p ∷ ds) d = ap (λ z. (h, p) ∷ z) (bindings_more ds d)

-- a handle that is bound already
pub bound_clashes : (h p : List ℕ) (ds : List Directive) → list_any (λ e. excludes e (binding h p)) ds ≡ is_some (lookup (bytes_eq h) (bindings ds))
unfolding bindings excludes
bound_clashes h p [] = refl
bound_clashes h p (version ∷ ds) = bound_clashes h p ds
bound_clashes h p (reserved ∷ ds) = bound_clashes h p ds
bound_clashes h p (binding g m ∷ ds) = ap (λ t. t || list_any (λ e. excludes e (binding h p)) ds) (nat_list_eq_equiv.symm g h) ∙ pick (bytes_eq h g) (bound_clashes h p ds)
  where
    pick : (t : Bool) → list_any (λ e. excludes e (binding h p)) ds ≡ is_some (lookup (bytes_eq h) (bindings ds)) →
        (t || list_any (λ e. excludes e (binding h p)) ds) ≡ is_some (cond t (Some m) (lookup (bytes_eq h) (bindings ds)))
    pick true e = refl
    pick false e = e

-- a directive that is repeated clashes with one of those before it
pub repeated_clashes : (ds : List Directive) (d : Directive) (v : Bool) (hs : Handles) → v ≡ list_any (λ e. excludes e version) ds → bindings ds ≡ hs → is_repeated v hs d ≡ true → list_any (λ e. excludes e d) ds ≡ true
repeated_clashes ds version v hs e b t = sym e ∙ t
repeated_clashes ds reserved v hs e b t = let z : false ≡ true = t in absurd (cc)
repeated_clashes ds (binding h p) v hs e b t = bound_clashes h p ds ∙ ap (λ z. is_some (lookup (bytes_eq h) z)) b ∙ t

reserved_apart : (ds : List Directive) → list_any (λ e. excludes e reserved) ds ≡ false
unfolding excludes
reserved_apart [] = refl
reserved_apart (version ∷ ds) = reserved_apart ds
reserved_apart (reserved ∷ ds) = reserved_apart ds
reserved_apart (binding h p ∷ ds) = reserved_apart ds

version_alike : excludes version version ≡ true
unfolding excludes
version_alike = refl

binding_apart : (h p : List ℕ) → excludes (binding h p) version ≡ false
unfolding excludes
binding_apart h p = refl

reserved_version : excludes reserved version ≡ false
unfolding excludes
reserved_version = refl

version_bindings : bindings (version ∷ []) ≡ []
unfolding bindings
version_bindings = refl

reserved_bindings : bindings (reserved ∷ []) ≡ []
unfolding bindings
reserved_bindings = refl

binding_bindings : (h p : List ℕ) → bindings (binding h p ∷ []) ≡ (h, p) ∷ []
unfolding bindings
binding_bindings h p = refl

no_bindings : bindings [] ≡ []
unfolding bindings
no_bindings = refl

consistent_nil : is_consistent [] ≡ true
unfolding is_consistent
consistent_nil = refl

-- one more at the end
any_snoc : {A : Type 0} {R : Rule (List A)} {k j i : ℕ} {xs ys : List A} → Any R k i xs → R k j ys → Any R j i (xs ++ ys)
any_snoc {A} {R} {k} {j} {i} {xs} {ys} (Any.done e f) r =
    subst (λ v. Any R j i (v ++ ys)) (sym f) (Any.then j ys [] (subst (λ m. R m j ys) e r) (Any.done refl refl) (sym (append-nil ys)))
any_snoc {A} {R} {k} {j} {i} {xs} {ys} (Any.then m us vs p rest e) r =
    Any.then m us (vs ++ ys) p (any_snoc rest r) (ap (λ v. v ++ ys) e ∙ append_assoc us vs ys)

module _ (cs : List ℕ) where
  abbrev Stop : ℕ → Type 0
  Stop k = Begins (chr cs 37 ⊔ l_comment cs) k → ⊥

  abbrev Directives : ℕ → ℕ → List Directive → Type 0
  Directives i j ds = Any (directive cs) j i ds

  -- each reading that ends where no directive and no comment line begins goes on from this line
  abbrev Goes : ℕ → ℕ → List Directive → Type 0
  Goes at line ds = (k : ℕ) (vs : List Directive) → Directives at k vs → Stop k → (ws : List Directive) × (vs ≡ ds ++ ws) × Directives line k ws

  -- how far the directives from `at` on are read
  pub record Read (at line : ℕ) (has_version : Bool) (handles : Handles) : Type 0 where
    pub ds : List Directive
    pub chain : Directives at line ds
    pub consistent : is_consistent ds ≡ true
    pub goes : Goes at line ds
    pub version_is : has_version ≡ list_any (λ e. excludes e version) ds
    pub handles_are : bindings ds ≡ handles

  pub percent_stuck : (i : ℕ) → slice_get cs i ≡ Some 37 → Stuck cs i
  percent_stuck i h j c =
      no_blank cs i i (run_none cs is_space i) (solid_no_space cs i (37, h, ns_percent)) (λ g. let e : 37 ≡ 35 = same_char cs i 37 35 h g in omega (arith, e)) (solid_nb cs i (37, h, ns_percent)) j (from_l cs i j c)

  body_percent : (i f : ℕ) (d : Directive) → body cs i f d → slice_get cs i ≡ Some 37
  unfolding body yaml_directive tag_directive reserved_directive
  body_percent i f d (inl (a, (x, (b, (h, e), z), y), g)) = h
  body_percent i f d (inr (inl (a, (x, (b, (h, e), z), y), g))) = h
  body_percent i f d (inr (inr (a, (h, e), r))) = h

  directive_percent : (i j : ℕ) (v : List Directive) → directive cs i j v → slice_get cs i ≡ Some 37
  directive_percent i j v r = let (f, d, b, e, c) = directive_parts cs i j v r in body_percent i f d b

  next_stuck : {k m : ℕ} {ws : List Directive} → Directives m k ws → Stop k → Stuck cs m
  next_stuck {k} {m} {ws} (Any.done e f) s j c = s (j, inr (subst (λ z. l_comment cs z j) (sym e) c))
  next_stuck {k} {m} {ws} (Any.then n ys zs r more e) s j c = percent_stuck m (directive_percent m n ys r) j c

  percent_stops : (k i : ℕ) → k ≡ i → slice_get cs i ≡ Some 37 → Stop k → ⊥
  percent_stops k i e h s = s (k + 1, inl (ap (slice_get cs) e ∙ h, refl))

  step : (line next k : ℕ) (d : Directive) (ws : List Directive) → slice_get cs line ≡ Some 37 → Only (whole_directive cs) line next (d ∷ []) → Directives line k ws → Stop k →
      (zs : List Directive) × (ws ≡ d ∷ zs) × Directives next k zs
  unfolding whole_directive
  step line next k d ws h only (Any.done e f) s = absurd (percent_stops k line e h s)
  step line next k d ws h only (Any.then m ys zs r more e) s =
      let (a, b) = only.only m ys (m, r, (refl, next_stuck more s)) in
      (zs, e ∙ ap (λ z. z ++ zs) b, subst (λ z. Directives z k zs) a more)

  whole_stuck : (i j : ℕ) (v : List Directive) → whole_directive cs i j v → Stuck cs j
  unfolding whole_directive
  whole_stuck i j v (k, r, (e, s)) = subst (Stuck cs) (sym e) s

  pub whole_is : (i j : ℕ) (v : List Directive) → whole_directive cs i j v → directive cs i j v
  unfolding whole_directive
  whole_is i j v (k, r, (e, s)) = subst (λ z. directive cs i z v) (sym e) r

  pub only_stuck : (i j : ℕ) (v : List Directive) → Only (whole_directive cs) i j v → Stuck cs j
  only_stuck i j v o = whole_stuck i j v o.is

  -- the same with the value that the code knows
  pub only_of : (i j : ℕ) (d g : Directive) → d ≡ g → Only (whole_directive cs) i j (d ∷ []) → Only (whole_directive cs) i j (g ∷ [])
  only_of i j d g e o = subst (λ z. Only (whole_directive cs) i j (z ∷ [])) e o

  chain_more : {at line next : ℕ} {ds : List Directive} (d : Directive) → Directives at line ds → directive cs line next (d ∷ []) → Directives at next (ds ++ d ∷ [])
  chain_more {at} {line} {next} {ds} d c r = any_snoc c r

  pub starts : (at : ℕ) → Read at at false []
  starts at = record {
    ds = [];
    chain = Any.done refl refl;
    consistent = consistent_nil;
    goes = λ k vs r s. (vs, refl, r);
    version_is = refl;
    handles_are = no_bindings;
  }

  goes_more : (at line next : ℕ) (ds : List Directive) (d : Directive) → Goes at line ds → slice_get cs line ≡ Some 37 → Only (whole_directive cs) line next (d ∷ []) → Goes at next (ds ++ d ∷ [])
  goes_more at line next ds d g h o k vs r s =
      let (ws, e, q) = g k vs r s in
      let (zs, f, t) = step line next k d ws h o q s in
      (zs, e ∙ ap (λ z. ds ++ z) f ∙ sym (append_assoc ds (d ∷ []) zs), t)

  pub more_version : (at line next : ℕ) (v : Bool) (hs : Handles) → v ≡ false → Read at line v hs → slice_get cs line ≡ Some 37 → Only (whole_directive cs) line next (version ∷ []) → Read at next true hs
  more_version at line next v hs n r h o = record {
    ds = r.ds ++ version ∷ [];
    chain = chain_more version r.chain (whole_is line next _ o.is);
    consistent = consistent_more r.ds version r.consistent (sym r.version_is ∙ n);
    goes = goes_more at line next r.ds version r.goes h o;
    version_is = sym (any_later (λ e. excludes e version) r.ds [] version version_alike);
    handles_are = bindings_more r.ds version ∙ ap (λ z. bindings r.ds ++ z) version_bindings ∙ append-nil (bindings r.ds) ∙ r.handles_are;
  }

  pub more_reserved : (at line next : ℕ) (v : Bool) (hs : Handles) → Read at line v hs → slice_get cs line ≡ Some 37 → Only (whole_directive cs) line next (reserved ∷ []) → Read at next v hs
  more_reserved at line next v hs r h o = record {
    ds = r.ds ++ reserved ∷ [];
    chain = chain_more reserved r.chain (whole_is line next _ o.is);
    consistent = consistent_more r.ds reserved r.consistent (reserved_apart r.ds);
    goes = goes_more at line next r.ds reserved r.goes h o;
    version_is = r.version_is ∙ sym (any_end (λ e. excludes e version) r.ds reserved reserved_version);
    handles_are = bindings_more r.ds reserved ∙ ap (λ z. bindings r.ds ++ z) reserved_bindings ∙ append-nil (bindings r.ds) ∙ r.handles_are;
  }

  pub more_binding : (at line next : ℕ) (v : Bool) (hs more : Handles) (h p : List ℕ) → is_some (lookup (bytes_eq h) hs) ≡ false → more ≡ hs ++ (h, p) ∷ [] → Read at line v hs → slice_get cs line ≡ Some 37 →
      Only (whole_directive cs) line next (binding h p ∷ []) → Read at next v more
  more_binding at line next v hs more h p free e r c o = record {
    ds = r.ds ++ binding h p ∷ [];
    chain = chain_more (binding h p) r.chain (whole_is line next _ o.is);
    consistent = consistent_more r.ds (binding h p) r.consistent (bound_clashes h p r.ds ∙ ap (λ z. is_some (lookup (bytes_eq h) z)) r.handles_are ∙ free);
    goes = goes_more at line next r.ds (binding h p) r.goes c o;
    version_is = r.version_is ∙ sym (any_end (λ e. excludes e version) r.ds (binding h p) (binding_apart h p));
    handles_are = bindings_more r.ds (binding h p) ∙ ap (λ z. bindings r.ds ++ z) (binding_bindings h p) ∙ ap (λ z. z ++ (h, p) ∷ []) r.handles_are ∙ sym e;
  }

  -- ---- the whole

  parts : (i j : ℕ) (v : Handles) → read_directives cs i j v → (ds : List Directive) × Directives i j ds × Stop j × (is_consistent ds ≡ true) × (v ≡ bindings ds)
  unfolding read_directives directives
  parts i j v (k, (ds, (ok, (m, us, vs, r, more, e)), f), (q, s)) =
      (ds, subst (λ z. Directives i z ds) (sym q) (Any.then m us vs r more e), subst Stop (sym q) s, ok, f)

  whole_read : (i j : ℕ) (ds : List Directive) → Directives i j ds → (j ≡ i → ⊥) → Stop j → is_consistent ds ≡ true → read_directives cs i j (bindings ds)
  unfolding read_directives directives
  whole_read i j ds (Any.done e f) n s ok = absurd (n e)
  whole_read i j ds (Any.then m us vs r more e) n s ok = (j, (ds, (ok, (m, us, vs, r, more, e)), refl), (refl, s))

  pub ends_read : (at line : ℕ) (v : Bool) (hs : Handles) → Read at line v hs → slice_get cs at ≡ Some 37 → slice_get cs line ≢ Some 37 → Stuck cs line → Only (read_directives cs) at line hs
  ends_read at line v hs r p n stuck = record {
    is = subst (read_directives cs at line) r.handles_are (whole_read at line r.ds r.chain (λ e. n (ap (slice_get cs) e ∙ p)) stop r.consistent);
    only = λ k w q. let (ds, c, s, ok, f) = parts at k w q in let (ws, e, t) = r.goes k ds c s in go k w ds ws e f t;
  }
    where
      stop : Stop line
      stop (m, inl (h, e)) = n h
      stop (m, inr c) = stuck m c

      go : (k : ℕ) (w : Handles) (ds ws : List Directive) → ds ≡ r.ds ++ ws → w ≡ bindings ds → Directives line k ws → (k ≡ line) × (w ≡ hs)
      go k w ds ws e f (Any.done g h) = (g, f ∙ ap bindings (e ∙ ap (λ z. r.ds ++ z) h ∙ append-nil r.ds) ∙ r.handles_are)
      go k w ds ws e f (Any.then m ys zs u more g) = absurd (n (directive_percent line m ys u))

  pub refused_read : (at line : ℕ) (v : Bool) (hs : Handles) → Read at line v hs → slice_get cs line ≡ Some 37 → WholeRepeats cs v hs line → Unread (read_directives cs) at
  unfolding whole_directive
  refused_read at line v hs r h repeats k w q =
      let (ds, c, s, ok, f) = parts at k w q in let (ws, e, t) = r.goes k ds c s in go k s ws (ap is_consistent (sym e) ∙ ok) t
    where
      go : (k : ℕ) → Stop k → (ws : List Directive) → is_consistent (r.ds ++ ws) ≡ true → Directives line k ws → ⊥
      go k s ws ok (Any.done g f) = percent_stops k line g h s
      go k s ws ok (Any.then m ys zs u more g) =
          let (f, d, b, y, c) = directive_parts cs line m ys u in
          let clash = repeated_clashes r.ds d v hs r.version_is r.handles_are (repeats m d (m, subst (directive cs line m) y u, (refl, next_stuck more s))) in
          clash_dead r.ds zs d clash (ap (λ z. is_consistent (r.ds ++ z)) (sym (g ∙ ap (λ z. z ++ zs) y)) ∙ ok)

  -- where a line starts, unless the text ends
  pub line_here : (i c : ℕ) → slice_get cs i ≡ Some c → StartsLine cs i ⊎ AtEnd cs i → StartsLine cs i
  line_here i c h (inl s) = s
  line_here i c h (inr e) = absurd (end_stops cs (λ d. true) i e (c, h, refl))
