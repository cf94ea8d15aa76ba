-- Block scalars: by the sign that they begin with one of the two kinds is left, whatever their properties.
use Rattle.std.proofs.Common.{◌≡◌, ℕ, inl, inr, List, Bool, true, false, Some, refl, sym, ◌∙◌, subst, arith}
use Rattle.std.specs.Prelude.{slice_get}
use Rattle.yaml_text.specs.LeafAnswer.{Unread, FurthestAlone}
use Rattle.yaml_definitions.specs.model.Event.{Event}
use Rattle.yaml_definitions.specs.grammar.Rules.{Stands}
use Rattle.yaml_definitions.specs.grammar.Characters.{is_space}
use Rattle.yaml_definitions.specs.grammar.Events.{Props, no_props}
use Rattle.yaml_definitions.specs.grammar.BlockScalars.{c-l+literal as literal, c-l+folded as folded}
use Rattle.yaml_text.proofs.Runs.{same_char, run_same}
use Rattle.yaml_scalar.specs.BlockModel.{styled}
use Rattle.law_one_reading.specs.Readings.{End}
use Rattle.law_one_reading.specs.Follows.{Stuck}
use Rattle.law_one_reading.proofs.FlowNodes.{Kind, Sign, kind_fresh}
use Rattle.law_one_reading.proofs.Lines.{solid_no_space}
use Rattle.law_going_on.specs.GoingOn.{Refused, Goes, Here}
use Rattle.law_going_on.proofs.BlockScalars.{furthest_stuck, block_scalar_goes}
use Rattle.yaml_block.specs.BlockRules.{block_scalar_rest}
use Rattle.yaml_block.specs.BlockEnds.{AfterScalar, IsStyleSign}
use Rattle.yaml_block.specs.OuterRules.{Follows}

module _ (cs : List ℕ) where
  -- ---- the sign

  pub sign_kind : (i : ℕ) → IsStyleSign cs i → Kind cs 4 i
  sign_kind i (inl h) = (124, h, Sign.bar 124 refl)
  sign_kind i (inr h) = (62, h, Sign.greater 62 refl)

  pub kind_sign : (i : ℕ) → Kind cs 4 i → IsStyleSign cs i
  kind_sign i (c, h, s) = go 4 c refl s h
    where
      four : {A : Type 0} (k : ℕ) → (k ≡ 4 → ⊥) → k ≡ 4 → A
      four k n e = absurd (n e)

      go : (k c : ℕ) → k ≡ 4 → Sign k c → slice_get cs i ≡ Some c → IsStyleSign cs i
      go _ c e (Sign.bang d f) h = let z : 1 ≡ 4 = e in absurd (omega (arith, z))
      go _ c e (Sign.and d f) h = let z : 1 ≡ 4 = e in absurd (omega (arith, z))
      go _ c e (Sign.star d f) h = let z : 2 ≡ 4 = e in absurd (omega (arith, z))
      go _ c e (Sign.quotes d f) h = let z : 3 ≡ 4 = e in absurd (omega (arith, z))
      go _ c e (Sign.quote d f) h = let z : 3 ≡ 4 = e in absurd (omega (arith, z))
      go _ c e (Sign.bracket d f) h = let z : 3 ≡ 4 = e in absurd (omega (arith, z))
      go _ c e (Sign.brace d f) h = let z : 3 ≡ 4 = e in absurd (omega (arith, z))
      go _ c e (Sign.bar d f) h = inl (subst (λ x. slice_get cs i ≡ Some x) f h)
      go _ c e (Sign.greater d f) h = inr (subst (λ x. slice_get cs i ≡ Some x) f h)

  -- content begins at one place after own properties
  pub follows_same : (i e n m : ℕ) (p : Props) → Follows cs i e n p → Follows cs i e m p → ((p ≡ no_props → ⊥) → Stands cs is_space m → ⊥) → IsStyleSign cs n → n ≡ m
  follows_same i e n m p (inl (a, b)) (inl (c, d)) f s = b ∙ sym d
  follows_same i e n m p (inl (a, b)) (inr (c, d, l)) f s = absurd (c a)
  follows_same i e n m p (inr (a, b, k)) (inl (c, d)) f s = absurd (a c)
  follows_same i e n m p (inr (a, b, k)) (inr (c, d, l)) f s = run_same cs is_space e n m b d (solid_no_space cs n (kind_fresh cs 4 n (sign_kind n s)).0.0) (f c)

  -- ---- one of the two

  folded_no_bar : (col i j : ℕ) (v : List ℕ) → slice_get cs i ≡ Some 124 → folded cs col i j v → ⊥
  unfolding folded
  folded_no_bar col i j v h (k, (g, e), r) = let x : 124 ≡ 62 = same_char cs i 124 62 h g in omega (arith, x)

  literal_no_greater : (col i j : ℕ) (v : List ℕ) → slice_get cs i ≡ Some 62 → literal cs col i j v → ⊥
  unfolding literal
  literal_no_greater col i j v h (k, (g, e), r) = let x : 62 ≡ 124 = same_char cs i 62 124 h g in omega (arith, x)

  module _ (p : Props) (col i : ℕ) (E : End) where
    pub literal_refused : slice_get cs i ≡ Some 124 → Unread (literal cs col) i → Refused (block_scalar_rest cs p col) E i
    literal_refused h n = record { none = go }
      where
        go : (j m : ℕ) (v : List Event) → block_scalar_rest cs p col i j v → E j m → ⊥
        go j m v (inl (t, r, e)) f = n j t r
        go j m v (inr (t, r, e)) f = folded_no_bar col i j t h r

    pub folded_refused : slice_get cs i ≡ Some 62 → Unread (folded cs col) i → Refused (block_scalar_rest cs p col) E i
    folded_refused h n = record { none = go }
      where
        go : (j m : ℕ) (v : List Event) → block_scalar_rest cs p col i j v → E j m → ⊥
        go j m v (inl (t, r, e)) f = literal_no_greater col i j t h r
        go j m v (inr (t, r, e)) f = n j t r

  -- the line after the furthest
  pub scalar_stuck : (f : Bool) (col i x : ℕ) (v : List ℕ) → FurthestAlone (styled cs f col) i x v → Stuck cs x
  scalar_stuck f col i x v r = furthest_stuck cs f col i x v r.is r.furthest

  whole : (f : Bool) (col i x : ℕ) (v : List ℕ) → FurthestAlone (styled cs f col) i x v → Goes (styled cs f col) (AfterScalar cs) i Here x
  whole f col i x v r = block_scalar_goes cs f col (Stuck cs) (λ m s. s) i x v r.is r.furthest

  pub literal_goes : (p : Props) (col i x : ℕ) (v : List ℕ) → slice_get cs i ≡ Some 124 → FurthestAlone (literal cs col) i x v → Goes (block_scalar_rest cs p col) (AfterScalar cs) i Here x
  literal_goes p col i x v h r = record { goes = go }
    where
      go : (j m : ℕ) (w : List Event) → block_scalar_rest cs p col i j w → AfterScalar cs j m → m ≡ x
      go j m w (inl (t, s, e)) f = (whole false col i x v r).goes j m t s f
      go j m w (inr (t, s, e)) f = absurd (folded_no_bar col i j t h s)

  pub folded_goes : (p : Props) (col i x : ℕ) (v : List ℕ) → slice_get cs i ≡ Some 62 → FurthestAlone (folded cs col) i x v → Goes (block_scalar_rest cs p col) (AfterScalar cs) i Here x
  folded_goes p col i x v h r = record { goes = go }
    where
      go : (j m : ℕ) (w : List Event) → block_scalar_rest cs p col i j w → AfterScalar cs j m → m ≡ x
      go j m w (inl (t, s, e)) f = absurd (literal_no_greater col i j t h s)
      go j m w (inr (t, s, e)) f = (whole true col i x v r).goes j m t s f

  -- ---- with other properties

  other_props : (p q : Props) (col i j : ℕ) (v : List Event) → block_scalar_rest cs p col i j v → (w : List Event) × block_scalar_rest cs q col i j w
  other_props p q col i j v (inl (t, r, e)) = (_, inl (t, r, refl))
  other_props p q col i j v (inr (t, r, e)) = (_, inr (t, r, refl))

  pub props_goes : (p q : Props) (col i : ℕ) (E F : End) (x : ℕ) → Goes (block_scalar_rest cs q col) E i F x → Goes (block_scalar_rest cs p col) E i F x
  props_goes p q col i E F x g = record { goes = λ j m v r e. let (w, s) = other_props p q col i j v r in g.goes j m w s e }

  pub props_refused : (p q : Props) (col i : ℕ) (E : End) → Refused (block_scalar_rest cs q col) E i → Refused (block_scalar_rest cs p col) E i
  props_refused p q col i E n = record { none = λ j m v r e. let (w, s) = other_props p q col i j v r in n.none j m w s e }
