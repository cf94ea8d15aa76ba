-- Two sides that mean admitted forests are compared, or refused for want of memory alone.
use Rattle.std.proofs.Common.{◌≡◌, ℕ, Bool, true, List, ◌++◌, sym, ◌∙◌, subst}
use Rattle.std.specs.Prelude.{◌↔◌, Result, Ok, Err, IfOk, IfErr, MatchResult}
use Rattle.yaml_definitions.specs.model.Tree.{Tree}
use Rattle.yaml_definitions.specs.model.Same.{Keyed, Alike}
use Rattle.yaml_definitions.specs.model.Proper.{Admitted}
use Rattle.yaml_definitions.specs.model.Means.{Means}
use Rattle.yaml_definitions.specs.model.Serial.{Document}
use Rattle.yaml_text.specs.declared.fault.Fault.{Fault}
use Rattle.yaml_text.specs.declared.fault.Fault.TheVariants as faults
use Rattle.yaml_definitions.proofs.Law.{texts_tell}
use Rattle.yaml_tree.specs.Closing.{stream_trees}
use Rattle.yaml_text.specs.declared.side.Side.{Side}
use Rattle.yaml_text.specs.declared.side.Side.TheVariants.{Left, Right}
use Rattle.yaml_canon.specs.Claims.{IsRead}
use Rattle.yaml_canon.specs.Comparing.{Compares, ComparerRefuses, HasEqualKeys}
use Rattle.yaml_canon.specs.Accepting.{IsSpelling, IsMemory, TellsTexts}
use Rattle.yaml_canon.proofs.AcceptLaws.{all-append, keyed-none, nodes-keyed, memory, spelling-means}

abbrev Answer : Type 0
Answer = Result Bool (Side × Fault)

-- the answer is whether the forests are alike, or memory was refused
abbrev Tells : Answer → List Tree → List Tree → Type 0
Tells r f g = MatchResult r (λ answer. (answer ≡ true) ↔ Alike f g) (λ refusal. IsMemory refusal.1)

module _ (left right : List ℕ) (f g : List Tree) (a : Admitted f) (b : Admitted g) (m : Means left f) (n : Means right g) where
  no-equal-keys : (ds es : List Document) (side : Side) (k i j : ℕ) → IsRead left ds → IsRead right es → HasEqualKeys ds es side (faults.EqualKeys k i j) → ⊥
  no-equal-keys ds es side k i j p q h =
      let both = h.equal in
      let lefts = stream_trees ds both.lefts in
      let rights = stream_trees es both.rights in
      keyed-none (lefts ++ rights) h.node h.i h.j (all-append Keyed lefts rights (nodes-keyed left f a m ds both.lefts p both.first_unfolded) (nodes-keyed right g b n es both.rights q both.second_unfolded)) both.repeats

  -- whatever `same` may refuse of these sides is want of memory
  pub both-memory : (side : Side) (fault : Fault) → ComparerRefuses left right side fault → IsMemory fault
  both-memory Left (faults.EqualKeys k i j) (ds, es, p, q, h) = absurd (no-equal-keys ds es Left k i j p q h)
  both-memory Right (faults.EqualKeys k i j) (ds, es, p, q, h) = absurd (no-equal-keys ds es Right k i j p q h)
  both-memory Left faults.TextTooLong h = absurd h
  both-memory Right faults.TextTooLong h = absurd h
  both-memory Left fault h = memory left f a m fault h
  both-memory Right fault h = memory right g b n fault h.0

  pub both-tell : (answer : Bool) → Compares left right answer → (answer ≡ true) ↔ Alike f g
  both-tell answer c = let p = c.first_accepted.only f m in let q = c.second_accepted.only g n in subst (λ z. (answer ≡ true) ↔ Alike z g) (sym p) (subst (λ z. (answer ≡ true) ↔ Alike c.first z) (sym q) c.tells)

-- where both sides have a canonical text, the answer tells whether they are one
pub tells-texts : (left right : List ℕ) (answer : Bool) → Compares left right answer → TellsTexts left right answer
tells-texts left right answer c text other x y =
    let p = x.accepted.only c.first c.first_accepted.means in
    let q = y.accepted.only c.second c.second_accepted.means in
    let t : (answer ≡ true) ↔ Alike x.forest y.forest = subst (λ z. (answer ≡ true) ↔ Alike z y.forest) p (subst (λ z. (answer ≡ true) ↔ Alike c.first z) q c.tells) in
    let u = x.tells y.forest y.admitted in
    (λ e. sym (u.1 (t.0 e)) ∙ sym y.spelled, λ e. t.1 (u.0 (sym y.spelled ∙ sym e)))

-- ---- an answer

module _ (left right : List ℕ) where
  abbrev Compared : Answer → Type 0
  Compared r = (f g : List Tree) → Admitted f → Admitted g → Means left f → Means right g → Tells r f g

  pub compared : (r : Answer) → IfOk r (Compares left right) → IfErr r (λ refusal. ComparerRefuses left right refusal.0 refusal.1) → Compared r
  compared (Ok answer) o e f g a b m n = both-tell left right f g a b m n answer o
  compared (Err refusal) o e f g a b m n = both-memory left right f g a b m n refusal.0 refusal.1 e

  swapped : (r : Answer) (f g u w : List Tree) → Alike u w ↔ Alike f g → Tells r u w → Tells r f g
  swapped (Ok answer) f g u w h t = (λ e. h.0 (t.0 e), λ e. t.1 (h.1 e))
  swapped (Err refusal) f g u w h t = t

  -- two spellings
  pub compared-spellings : (r : Answer) → Compared r → (f g : List Tree) → Admitted f → Admitted g → IsSpelling left f → IsSpelling right g → Tells r f g
  compared-spellings r h f g a b s t =
      let u = spelling-means left f a s in
      let w = spelling-means right g b t in
      let x = texts_tell u.forest w.forest u.admitted w.admitted in
      let y = texts_tell f g a b in
      swapped r f g u.forest w.forest
      (λ e. y.0 (sym u.text ∙ x.1 e ∙ w.text), λ e. x.0 (u.text ∙ y.1 e ∙ sym w.text))
      (h u.forest w.forest u.admitted w.admitted u.means w.means)
