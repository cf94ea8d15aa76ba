-- Keys that came, one by one.
use Rattle.std.proofs.Common.{◌≡◌, ◌⊎◌, inl, inr, ℕ, ◌+◌, ◌<◌, Bool, true, false, cond, List, [], ◌∷◌, ◌++◌, take, refl, sym, ◌∙◌, ap, subst, arith}
use Rattle.std.specs.Prelude.{Option, Some, None, is_some, option_map, bytes_eq, find, slice_get}
use Rattle.std.specs.Borrow.{Bor}
use Rattle.std.specs.BTreeMap.{BTreeMap, get}
use Rattle.std.specs.Cmp.Lexicographic.{slice_cmp}
use Rattle.std.specs.Ordering.{is_eq, nat_cmp}
use Rattle.std.proofs.Math.Nat.{eq-or-lt_of_le}
use Rattle.std.proofs.lemmas.List.{take_more, reverse-append}
use Rattle.std.proofs.lemmas.Map.Text.{is_eq-slice_cmp}
use Rattle.std.proofs.lemmas.Option.{slice_get_within, get_or_from_slice_get}
use Rattle.yaml_definitions.specs.model.Event.{Event, stream_start, stream_end, document_start, document_end, sequence_start, sequence_end, mapping_start, mapping_end, scalar_event, alias_event}
use Rattle.review_faults.proofs.FormLaws.{key-eq, key-same}
use Rattle.review_faults.specs.contracts.keys.KeyOrd.TheImpl.{ghosts}
use Rattle.review_faults.specs.Keys.{is_name, named, node_of, key_at, IsFirst}
use Rattle.review_faults.specs.Labels.{anchor_of}
use Rattle.review_faults.specs.Seen.{forms_of, AreForms, HoldsNames, HoldsKeys}
use Rattle.review_faults.specs.declared.keys.Forms.{Forms}
use Rattle.review_faults.specs.declared.keys.Key.{Key}
use Rattle.review_faults.specs.declared.keys.Reader.{Reader}
use Rattle.review_faults.specs.declared.keys.Seen.{Seen}

is-none : (o : Option ℕ) → is_some o ≡ false → o ≡ None
is-none None e = refl
is-none (Some i) e = absurd (cc)

some-of : (o : Option ℕ) → is_some o ≡ true → (i : ℕ) × (o ≡ Some i)
some-of None e = absurd (cc)
some-of (Some i) e = (i, refl)

module _ (reader : Reader) (events : List Event) (n : ℕ) where
  -- one more event, at which the key does not begin
  past : (key : Key) (o : Option ℕ) → (key_at reader events n ≡ Some key → ⊥) → IsFirst reader events key n o → IsFirst reader events key (n + 1) o
  past key None not h = λ j l e. by j (eq-or-lt_of_le (omega (arith, l))) e
    where
      by : (j : ℕ) → (j ≡ n) ⊎ (j < n) → key_at reader events j ≡ Some key → ⊥
      by j (inl s) e = not (subst (λ z. key_at reader events z ≡ Some key) s e)
      by j (inr m) e = h j m e
  past key (Some i) not (l, e, h) = (omega (arith, l), e, h)

  -- where it came before
  kept : (key : Key) (i : ℕ) → IsFirst reader events key n (Some i) → IsFirst reader events key (n + 1) (Some i)
  kept key i (l, e, h) = (omega (arith, l), e, h)

  -- where it is the first
  here : (key : Key) → key_at reader events n ≡ Some key → IsFirst reader events key n None → IsFirst reader events key (n + 1) (Some n)
  here key e h = (omega arith, e, h)

  -- no key begins
  pub none_taken : (seen : Seen) → key_at reader events n ≡ None → HoldsKeys ghosts.cmp reader events n seen → HoldsKeys ghosts.cmp reader events (n + 1) seen
  none_taken seen e h = λ q. past q (get ghosts.cmp seen.firsts q) (λ s. absurd (cc)) (h q)

  -- the key that begins came before
  pub known_taken : (seen : Seen) (key : Key) → key_at reader events n ≡ Some key → is_some (get ghosts.cmp seen.firsts key) ≡ true → HoldsKeys ghosts.cmp reader events n seen → HoldsKeys ghosts.cmp reader events (n + 1) seen
  known_taken seen key e k h = λ q. by q (get ghosts.cmp seen.firsts q) refl (h q)
    where
      by : (q : Key) (o : Option ℕ) → get ghosts.cmp seen.firsts q ≡ o → IsFirst reader events q n o → IsFirst reader events q (n + 1) o
      by q (Some j) g f = kept q j f
      by q None g f = let one = some-of (get ghosts.cmp seen.firsts key) k in past q None (λ s. let r = one.1 in absurd (cc)) f

  -- the key that begins is new
  pub new_taken : (old new : Seen) (key : Key) → key_at reader events n ≡ Some key → is_some (get ghosts.cmp old.firsts key) ≡ false
      → ((q : Key) → get ghosts.cmp new.firsts q ≡ cond (is_eq (ghosts.cmp key q)) (Some n) (get ghosts.cmp old.firsts q)) → HoldsKeys ghosts.cmp reader events n old → HoldsKeys ghosts.cmp reader events (n + 1) new
  new_taken old new key e k u h = λ q. subst (IsFirst reader events q (n + 1)) (sym (u q)) (by q (is_eq (ghosts.cmp key q)) refl)
    where
      by : (q : Key) (b : Bool) → is_eq (ghosts.cmp key q) ≡ b → IsFirst reader events q (n + 1) (cond b (Some n) (get ghosts.cmp old.firsts q))
      by q true t = subst (λ z. IsFirst reader events z (n + 1) (Some n)) (key-eq key q t) (here key e (subst (IsFirst reader events key n) (is-none (get ghosts.cmp old.firsts key) k) (h key)))
      by q false t = past q (get ghosts.cmp old.firsts q) (λ s. let same = key-same key in absurd (cc)) (h q)

-- ---- the nodes with anchors

take-next : {X : Type 0} (s : List X) (k : ℕ) (x : X) → slice_get s k ≡ Some x → take (k + 1) s ≡ take k s ++ (x ∷ [])
take-next s k x e = take_more s k x (slice_get_within s k x e) ∙ ap (λ z. take k s ++ (z ∷ [])) (get_or_from_slice_get s k x x e)

named-more : (before : List Event) (e : Event) (name : List ℕ) → named (before ++ (e ∷ [])) name ≡ cond (is_name name (anchor_of e)) (Some e) (named before name)
named-more before e name = ap (find (λ e. is_name name (anchor_of e))) (reverse-append before (e ∷ []))

-- an event with an anchor begins a node of its own
own-node : (before : List Event) (e : Event) (name : List ℕ) → anchor_of e ≡ Some name → node_of before (Some e) ≡ Some e
own-node before stream_start name a = refl
own-node before stream_end name a = refl
own-node before sequence_end name a = refl
own-node before mapping_end name a = refl
own-node before (document_start explicit) name a = refl
own-node before (document_end explicit) name a = refl
own-node before (sequence_start flow b t) name a = refl
own-node before (mapping_start flow b t) name a = refl
own-node before (scalar_event b t y x) name a = refl
own-node before (alias_event own) name a = absurd (cc)

module _ (events : List Event) (n : ℕ) (e : Event) (at : slice_get events n ≡ Some e) where
  -- no anchor
  pub bare_taken : (names : BTreeMap (Bor (List ℕ)) Forms) → anchor_of e ≡ None → HoldsNames (take n events) names → HoldsNames (take (n + 1) events) names
  bare_taken names a h = λ q.
      h q ∙ ap (option_map (λ e. forms_of (Some e)))
      (sym (ap (λ z. named z q.now) (take-next events n e at) ∙ named-more (take n events) e q.now ∙ ap (λ z. cond (is_name q.now z) (Some e) (named (take n events) q.now)) a))

  pub named_taken : (old new : BTreeMap (Bor (List ℕ)) Forms) (name : Bor (List ℕ)) (forms : Forms) → anchor_of e ≡ Some name.now → AreForms (take n events) e forms
      → ((q : Bor (List ℕ)) → get (λ x y. slice_cmp nat_cmp x.now y.now) new q ≡ cond (is_eq (slice_cmp nat_cmp name.now q.now)) (Some forms) (get (λ x y. slice_cmp nat_cmp x.now y.now) old q))
      → HoldsNames (take n events) old → HoldsNames (take (n + 1) events) new
  named_taken old new name forms a f u h = λ q.
      let own : forms ≡ forms_of (Some e) = f ∙ ap forms_of (own-node (take n events) e name.now a) in
      let next : named (take (n + 1) events) q.now ≡ cond (bytes_eq name.now q.now) (Some e) (named (take n events) q.now) =
      ap (λ z. named z q.now) (take-next events n e at) ∙ named-more (take n events) e q.now ∙ ap (λ z. cond (is_name q.now z) (Some e) (named (take n events) q.now)) a in
      u q ∙ ap (λ b. cond b (Some forms) (get (λ x y. slice_cmp nat_cmp x.now y.now) old q)) (is_eq-slice_cmp name.now q.now)
      ∙ ap (λ z. cond (bytes_eq name.now q.now) (Some forms) z) (h q) ∙ ap (λ z. cond (bytes_eq name.now q.now) (Some z) (option_map (λ e. forms_of (Some e)) (named (take n events) q.now))) own
      ∙ by (bytes_eq name.now q.now) (named (take n events) q.now) ∙ ap (option_map (λ e. forms_of (Some e))) (sym next)
    where
      by : (b : Bool) (o : Option Event) → cond b (Some (forms_of (Some e))) (option_map (λ e. forms_of (Some e)) o) ≡ option_map (λ e. forms_of (Some e)) (cond b (Some e) o)
      by true o = refl
      by false o = refl
