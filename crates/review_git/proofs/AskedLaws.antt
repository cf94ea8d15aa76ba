-- Words by their places, and what an option before them asks for.
use Rattle.std.proofs.Common.{◌≡◌, inl, inr, ℕ, ◌<◌, ◌≤◌, Bool, List, [], ◌∷◌, Option, Some, None, length, map, slice_index_or, MatchOption, Bor, sym, ◌∙◌, ap, subst, arith}
use Rattle.std.proofs.lemmas.List.{nil_from_length}
use Rattle.review_git.specs.declared.asked.Side.{Side}
use Rattle.review_git.specs.declared.asked.GitAsked.{GitAsked}
use Rattle.review_git.specs.declared.asked.Style.{Style}
use Rattle.review_git.specs.declared.asked.Style.TheVariants.{Differences}
use Rattle.review_git.specs.Asked.{side_words, AsksPlainly, IsGitAsked, style_of}

side_is : (side : Side) (a b c : List ℕ) (more : List (List ℕ)) → (side.file.now ≡ a) × (side.hash.now ≡ b) × (side.mode.now ≡ c) → a ∷ b ∷ c ∷ more ≡ side_words side more
side_is side a b c more h = sym (ap (λ z. z ∷ side.hash.now ∷ side.mode.now ∷ more) h.0 ∙ (ap (λ z. a ∷ z ∷ side.mode.now ∷ more) h.1 ∙ ap (λ z. a ∷ b ∷ z ∷ more) h.2))

both_sides : (left right : Side) (p a b c e f g : List ℕ) (more : List (List ℕ)) → (left.file.now ≡ a) × (left.hash.now ≡ b) × (left.mode.now ≡ c) → (right.file.now ≡ e) × (right.hash.now ≡ f) × (right.mode.now ≡ g)
    → p ∷ a ∷ b ∷ c ∷ e ∷ f ∷ g ∷ more ≡ p ∷ side_words left (side_words right more)
both_sides left right p a b c e f g more one other = ap (λ z. p ∷ z) (ap (λ z. a ∷ b ∷ c ∷ z) (side_is right e f g more other) ∙ side_is left a b c (side_words right more) one)

pub seven : (ws : List (Bor (List ℕ))) (d : Bor (List ℕ)) (left right : Side) → 7 ≤ length ws → length ws < 8
    → (left.file.now ≡ (slice_index_or ws 1 d).now) × (left.hash.now ≡ (slice_index_or ws 2 d).now) × (left.mode.now ≡ (slice_index_or ws 3 d).now) → (right.file.now ≡ (slice_index_or ws 4 d).now) × (right.hash.now ≡ (slice_index_or ws 5 d).now) × (right.mode.now ≡ (slice_index_or ws 6 d).now)
    → map (λ s. s.now) ws ≡ (slice_index_or ws 0 d).now ∷ side_words left (side_words right [])
seven [] d left right lo up one other = absurd (omega (arith, lo))
seven (a ∷ []) d left right lo up one other = absurd (omega (arith, lo))
seven (a ∷ b ∷ []) d left right lo up one other = absurd (omega (arith, lo))
seven (a ∷ b ∷ c ∷ []) d left right lo up one other = absurd (omega (arith, lo))
seven (a ∷ b ∷ c ∷ e ∷ []) d left right lo up one other = absurd (omega (arith, lo))
seven (a ∷ b ∷ c ∷ e ∷ f ∷ []) d left right lo up one other = absurd (omega (arith, lo))
seven (a ∷ b ∷ c ∷ e ∷ f ∷ g ∷ []) d left right lo up one other = absurd (omega (arith, lo))
seven (a ∷ b ∷ c ∷ e ∷ f ∷ g ∷ h ∷ []) d left right lo up one other = both_sides left right a.now b.now c.now e.now f.now g.now h.now [] one other
seven (a ∷ b ∷ c ∷ e ∷ f ∷ g ∷ h ∷ i ∷ more) d left right lo up one other = absurd (omega (arith, up))

pub nine : (ws : List (Bor (List ℕ))) (d : Bor (List ℕ)) (left right : Side) → 9 ≤ length ws → length ws < 10
    → (left.file.now ≡ (slice_index_or ws 1 d).now) × (left.hash.now ≡ (slice_index_or ws 2 d).now) × (left.mode.now ≡ (slice_index_or ws 3 d).now) → (right.file.now ≡ (slice_index_or ws 4 d).now) × (right.hash.now ≡ (slice_index_or ws 5 d).now) × (right.mode.now ≡ (slice_index_or ws 6 d).now)
    → map (λ s. s.now) ws ≡ (slice_index_or ws 0 d).now ∷ side_words left (side_words right ((slice_index_or ws 7 d).now ∷ (slice_index_or ws 8 d).now ∷ []))
nine [] d left right lo up one other = absurd (omega (arith, lo))
nine (a ∷ []) d left right lo up one other = absurd (omega (arith, lo))
nine (a ∷ b ∷ []) d left right lo up one other = absurd (omega (arith, lo))
nine (a ∷ b ∷ c ∷ []) d left right lo up one other = absurd (omega (arith, lo))
nine (a ∷ b ∷ c ∷ e ∷ []) d left right lo up one other = absurd (omega (arith, lo))
nine (a ∷ b ∷ c ∷ e ∷ f ∷ []) d left right lo up one other = absurd (omega (arith, lo))
nine (a ∷ b ∷ c ∷ e ∷ f ∷ g ∷ []) d left right lo up one other = absurd (omega (arith, lo))
nine (a ∷ b ∷ c ∷ e ∷ f ∷ g ∷ h ∷ []) d left right lo up one other = absurd (omega (arith, lo))
nine (a ∷ b ∷ c ∷ e ∷ f ∷ g ∷ h ∷ i ∷ []) d left right lo up one other = absurd (omega (arith, lo))
nine (a ∷ b ∷ c ∷ e ∷ f ∷ g ∷ h ∷ i ∷ j ∷ []) d left right lo up one other = both_sides left right a.now b.now c.now e.now f.now g.now h.now (i.now ∷ j.now ∷ []) one other
nine (a ∷ b ∷ c ∷ e ∷ f ∷ g ∷ h ∷ i ∷ j ∷ k ∷ more) d left right lo up one other = absurd (omega (arith, up))

-- what an option asks for, if the words alone ask for nothing
module _ (given : List (Bor (List ℕ))) (is_color : Bool) where
  abbrev pub words : List (List ℕ)
  words = map (λ s. s.now) given

  abbrev pub AskNothing : Type 0
  AskNothing = (asked : GitAsked) → AsksPlainly (Differences is_color) words asked → ⊥

  pub none_of_no_words : length given ≡ 0 → AskNothing → (asked : GitAsked) → IsGitAsked words is_color asked → ⊥
  none_of_no_words l none asked (inl h) = none asked h
  none_of_no_words l none asked (inr h) = let e : h.0 ∷ h.1 ≡ [] = sym h.3 ∙ ap (map (λ s. s.now)) (nil_from_length given l) in absurd (cc)

  module _ (first : Bor (List ℕ)) (rest : List (Bor (List ℕ))) (w : given ≡ first ∷ rest) where
    pub none_of_no_option : style_of is_color first.now ≡ None → AskNothing → (asked : GitAsked) → IsGitAsked words is_color asked → ⊥
    none_of_no_option s none asked (inl h) = none asked h
    none_of_no_option s none asked (inr h) =
        let e : h.0 ∷ h.1 ≡ first.now ∷ map (λ s. s.now) rest = sym h.3 ∙ ap (map (λ s. s.now)) w in
        let o : h.0 ≡ first.now = cc in
        let t : Some h.2 ≡ None = sym h.4 ∙ ap (style_of is_color) o ∙ s in
        absurd (cc)

    none_of_rest : (style : Style) → style_of is_color first.now ≡ Some style → AskNothing → ((asked : GitAsked) → AsksPlainly style (map (λ s. s.now) rest) asked → ⊥) → (asked : GitAsked) → IsGitAsked words is_color asked → ⊥
    none_of_rest style s none no_rest asked (inl h) = none asked h
    none_of_rest style s none no_rest asked (inr h) =
        let e : h.0 ∷ h.1 ≡ first.now ∷ map (λ s. s.now) rest = sym h.3 ∙ ap (map (λ s. s.now)) w in
        let o : h.0 ≡ first.now = cc in
        let r : h.1 ≡ map (λ s. s.now) rest = cc in
        let t : Some h.2 ≡ Some style = sym h.4 ∙ ap (style_of is_color) o ∙ s in
        let same : h.2 ≡ style = cc in
        no_rest asked (subst (λ z. AsksPlainly style z asked) r (subst (λ z. AsksPlainly z h.1 asked) same h.5))

    pub by_option : (style : Style) (answer : Option GitAsked) → style_of is_color first.now ≡ Some style → AskNothing
        → MatchOption answer ((asked : GitAsked) → AsksPlainly style (map (λ s. s.now) rest) asked → ⊥) (AsksPlainly style (map (λ s. s.now) rest))
        → MatchOption answer ((asked : GitAsked) → IsGitAsked words is_color asked → ⊥) (IsGitAsked words is_color)
    by_option style None s none h = none_of_rest style s none h
    by_option style (Some asked) s none h = inr (first.now, map (λ s. s.now) rest, style, ap (map (λ s. s.now)) w, s, h)
