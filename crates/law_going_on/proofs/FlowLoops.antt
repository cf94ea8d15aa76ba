-- The loop of a reader of items or entries by commas: what is left after each, and when the bracket closes.
use Rattle.std.proofs.Common.{◌≡◌, ◌≢◌, ℕ, ◌+◌, ◌⊎◌, inl, inr, List, true, Some, ◌++◌, refl, sym, ◌∙◌, subst, arith}
use Rattle.std.specs.Prelude.{slice_get}
use Rattle.yaml_definitions.specs.grammar.Rules.{Span, Rule, ◌◆◌, ◌◂◌, ◌⨾◌, any, Any, done, then, chr, maybe, optional}
use Rattle.yaml_definitions.specs.grammar.Characters.{is_ns, is_nb, is_break, is_white}
use Rattle.yaml_definitions.specs.grammar.Separation.{Ctx, s-separate as separate}
use Rattle.yaml_definitions.specs.model.Event.{Event}
use Rattle.yaml_text.proofs.Runs.{same_char}
use Rattle.law_one_reading.specs.Readings.{End, At}
use Rattle.law_going_on.specs.GoingOn.{Refused, Goes, Rest, Here}
use Rattle.law_going_on.proofs.GoingOn.{goes_refused}
use Rattle.law_one_reading.proofs.Lines.{char_fresh}
use Rattle.law_one_reading.specs.Follows.{Solid, Fresh, Closes}
use Rattle.law_one_reading.proofs.FlowEntries.{PartHere, closes_solid}

ns_comma : is_ns 44 ≡ true
unfolding is_ns is_nb is_break is_white
ns_comma = refl

ns_bracket : is_ns 93 ≡ true
unfolding is_ns is_nb is_break is_white
ns_bracket = refl

ns_brace : is_ns 125 ≡ true
unfolding is_ns is_nb is_break is_white
ns_brace = refl

module _ (cs : List ℕ) where
  pub closes_fresh : (q : ℕ) → Closes cs q → Fresh cs q
  closes_fresh q (inl h) = char_fresh cs q 44 h ns_comma (λ e. omega (arith, e)) (λ e. omega (arith, e)) (λ e. omega (arith, e))
  closes_fresh q (inr (inl h)) = char_fresh cs q 93 h ns_bracket (λ e. omega (arith, e)) (λ e. omega (arith, e)) (λ e. omega (arith, e))
  closes_fresh q (inr (inr h)) = char_fresh cs q 125 h ns_brace (λ e. omega (arith, e)) (λ e. omega (arith, e)) (λ e. omega (arith, e))

module _ (cs : List ℕ) (n : ℕ) (c : Ctx) (I : Rule (List Event)) (start : (i j : ℕ) (v : List Event) → I i j v → PartHere cs i)
    (close : ℕ) (shut : (q : ℕ) → slice_get cs q ≡ Some close → Closes cs q) (no_comma : close ≢ 44) where
  abbrev pub OptionalSeparation : Span
  OptionalSeparation = maybe (separate cs n c)

  abbrev pub Part1 : Rule (List Event)
  Part1 = (I ◂ OptionalSeparation) ◂ (chr cs 44 ◆ OptionalSeparation)

  abbrev pub Parted : Rule (List Event)
  Parted = any Part1 ⨾ optional (I ◂ OptionalSeparation)

  -- after separation a comma or a closing bracket
  abbrev pub InParts : End
  InParts j m = OptionalSeparation j m × Closes cs m

  abbrev pub Close : ℕ → Type 0
  Close q = slice_get cs q ≡ Some close

  -- what separation from k leads to: content at x alone; none
  abbrev pub To : ℕ → ℕ → Type 0
  To k x = (q : ℕ) → OptionalSeparation k q → Solid cs q → q ≡ x

  abbrev pub Nowhere : ℕ → Type 0
  Nowhere k = (q : ℕ) → OptionalSeparation k q → Fresh cs q → ⊥

  part_to : (a b m : ℕ) → To a b → InParts a m → m ≡ b
  part_to a b m to (s, h) = to m s (closes_solid cs m h)

  solid : (k j i : ℕ) (us vs : List Event) → Any Part1 k i us → optional (I ◂ OptionalSeparation) k j vs → Close j → Fresh cs i
  solid k j i us vs (done e f) (inl (g, h)) x = subst (Fresh cs) (g ∙ e) (closes_fresh cs j (shut j x))
  solid k j i us vs (done e f) (inr (a, r, s)) x = subst (Fresh cs) e (start k a vs r).0
  solid k j i us vs (then p ws ts (b, (a, r, s), t) more f) l x = (start i a ws r).0

  -- what every reading that goes on is: the bracket here, or an item and the bracket, or an item and a comma and more
  data Seen (x j : ℕ) : Type 0 where
    closed : j ≡ x → Seen x j
    last : (a : ℕ) (v : List Event) → I x a v → InParts a j → Seen x j
    more : (a b p : ℕ) (v w : List Event) → I x a v → InParts a b → slice_get cs b ≡ Some 44 → OptionalSeparation (b + 1) p → Fresh cs p → Parted p j w → Seen x j

  seen_last : (k j x : ℕ) (vs : List Event) → k ≡ x → optional (I ◂ OptionalSeparation) k j vs → Close j → Seen x j
  seen_last k j x vs a (inl (e, f)) d = closed (e ∙ a)
  seen_last k j x vs a (inr (o, r, s)) d = last o vs (subst (λ z. I z o vs) a r) (s, shut j d)

  seen : (x j : ℕ) (v : List Event) → Parted x j v → Close j → Seen x j
  seen x j v (k, us, vs, done a b, l, h) d = seen_last k j x vs a l d
  seen x j v (k, us, vs, then p ws ts (b, (a, r, s), (o, (g, f), t)) rest y, l, h) d =
      more a b p ws (ts ++ vs) r (s, inl g) g (subst (λ z. OptionalSeparation z p) f t) (solid k j p ts vs rest l d) (k, ts, vs, rest, l, refl)

  -- the parts begin with content, or with the bracket
  pub parts_start : (i j : ℕ) (v : List Event) → Parted i j v → Close j → PartHere cs i ⊎ Close i
  parts_start i j v r h = go (seen i j v r h)
    where
      go : Seen i j → PartHere cs i ⊎ Close i
      go (closed e) = inr (subst Close e h)
      go (last a w s t) = inl (start i a w s)
      go (more a b p w u s e f g t rest) = inl (start i a w s)

  -- the bracket here
  pub parts_closed : (x : ℕ) → Close x → Goes Parted (At Close) x Here x
  parts_closed x d = record { goes = λ j m v r (e, h). sym e ∙ go j (seen x j v r h) }
    where
      go : (j : ℕ) → Seen x j → j ≡ x
      go j (closed e) = e
      go j (last a v r s) = absurd ((start x a v r).1 (shut x d))
      go j (more a b p v w r s f g t rest) = absurd ((start x a v r).1 (shut x d))

  -- an item that ends at y, and after separation the bracket at q
  pub parts_last : (x y q : ℕ) → (Close x → ⊥) → Goes I InParts x InParts y → To y q → Close q → Goes Parted (At Close) x Here q
  parts_last x y q o g to d = record { goes = λ j m v r (e, h). sym e ∙ go j h (seen x j v r h) }
    where
      go : (j : ℕ) → Close j → Seen x j → j ≡ q
      go j h (closed e) = absurd (o (subst Close e h))
      go j h (last a v r s) = part_to y q j to (g.goes a j v r s)
      go j h (more a b p v w r s f t u rest) =
          absurd (no_comma (same_char cs q close 44 d (subst (λ z. slice_get cs z ≡ Some 44) (part_to y q b to (g.goes a b v r s)) f)))

  -- an item that ends at y, after separation a comma at q, and after separation more at z
  pub parts_more : (x y q z : ℕ) → (Close x → ⊥) → Goes I InParts x InParts y → To y q → slice_get cs q ≡ Some 44 → To (q + 1) z → Rest Parted (At Close) x Parted (At Close) z
  parts_more x y q z o g to d on = record { rest = λ j m v r e. go j m e (seen x j v r e.1) }
    where
      go : (j m : ℕ) → At Close j m → Seen x j → (k : ℕ) × (v : List Event) × Parted z k v × At Close k m
      go j m h (closed e) = absurd (o (subst Close e h.1))
      go j m h (last a v r s) = absurd (no_comma (same_char cs q close 44 (subst Close (part_to y q j to (g.goes a j v r s)) h.1) d))
      go j m h (more a b p v w r s f t u rest) =
          let e : b ≡ q = part_to y q b to (g.goes a b v r s) in
          let l : p ≡ z = on p (subst (λ i. OptionalSeparation (i + 1) p) e t) u.0 in
          (j, w, subst (λ i. Parted i j w) l rest, h)

  -- nothing to go on with after the comma
  pub parts_no_more : (x y q : ℕ) → (Close x → ⊥) → Goes I InParts x InParts y → To y q → slice_get cs q ≡ Some 44 → Nowhere (q + 1) → Refused Parted (At Close) x
  parts_no_more x y q o g to d none = record { none = λ j m v r (e, h). go j h (seen x j v r h) }
    where
      go : (j : ℕ) → Close j → Seen x j → ⊥
      go j h (closed e) = o (subst Close e h)
      go j h (last a v r s) = no_comma (same_char cs q close 44 (subst Close (part_to y q j to (g.goes a j v r s)) h) d)
      go j h (more a b p v w r s f t u rest) = let e : b ≡ q = part_to y q b to (g.goes a b v r s) in none p (subst (λ i. OptionalSeparation (i + 1) p) e t) u

  -- no item here
  pub parts_refused : (x : ℕ) → (Close x → ⊥) → Refused I InParts x → Refused Parted (At Close) x
  parts_refused x o n = record { none = λ j m v r (e, h). go j h (seen x j v r h) }
    where
      go : (j : ℕ) → Close j → Seen x j → ⊥
      go j h (closed e) = o (subst Close e h)
      go j h (last a v r s) = n.none a j v r s
      go j h (more a b p v w r s f t u rest) = n.none a b v r s

  -- neither a comma nor the bracket after it
  pub parts_unclosed : (x y q : ℕ) → (Close x → ⊥) → Goes I InParts x InParts y → To y q → (Close q → ⊥) → (slice_get cs q ≡ Some 44 → ⊥) → Refused Parted (At Close) x
  parts_unclosed x y q o g to d n = record { none = λ j m v r (e, h). go j h (seen x j v r h) }
    where
      go : (j : ℕ) → Close j → Seen x j → ⊥
      go j h (closed e) = o (subst Close e h)
      go j h (last a v r s) = d (subst Close (part_to y q j to (g.goes a j v r s)) h)
      go j h (more a b p v w r s f t u rest) = n (subst (λ z. slice_get cs z ≡ Some 44) (part_to y q b to (g.goes a b v r s)) f)

  -- nothing to go on with after it
  pub parts_no_way : (x y : ℕ) → (Close x → ⊥) → Goes I InParts x InParts y → Nowhere y → Refused Parted (At Close) x
  parts_no_way x y o g none = parts_refused x o (goes_refused g (λ m (s, h). none m s (closes_fresh cs m h)))
