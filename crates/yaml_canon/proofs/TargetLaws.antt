-- From trees whose text was put into a target to the bytes that mean them.
use Rattle.std.proofs.Common.{◌≡◌, ℕ, ◌≤◌, List, length, refl, sym, subst}
use Rattle.std.specs.Prelude.{Result, Ok, Err, IfOk}
use Rattle.yaml_definitions.specs.model.Limits.{text_limit}
use Rattle.yaml_definitions.specs.model.Tree.{Tree}
use Rattle.yaml_text.specs.declared.fault.Fault.{Fault}
use Rattle.yaml_text.specs.declared.fault.Fault.TheVariants.{TextTooLong, OutOfMemory, WriteFault}
use Rattle.yaml_spell.specs.Documents.{arranged_bytes, RefusesArranged}
use Rattle.yaml_canon.specs.Claims.{IsArranged, CanonicalRefuses}
use Rattle.yaml_canon.specs.FaultPlaces.{TellsPlace}
use Rattle.yaml_canon.specs.Targets.{PutsArranged, ArrangedFails, PutsCanonical, PutFails}
use Rattle.yaml_canon.proofs.ClaimLaws.{text_arranged, refused_arranged}
use Rattle.yaml_canon.proofs.PlacedLaws.{arranged_elsewhere}

pub if_is : {T E : Type 0} {P Q : T → Type 0} (r : Result T E) → IfOk r P → ((x : T) → P x → Q x) → IfOk r Q
if_is (Ok x) h f = f x h
if_is (Err e) h f = h

pub canonical_put : {T A : Type 0} (took : T → List ℕ → T → A → Type 0) (bytes : List ℕ) (ts : List Tree) (o u : T) (answer : A) → IsArranged bytes ts → PutsArranged took ts o u answer → PutsCanonical took bytes o u answer
canonical_put {T} {A} took bytes ts o u answer a p = record { text = arranged_bytes ts; canonical = text_arranged bytes (arranged_bytes ts) ts a refl p.fits; put = p.put }

module _ {T : Type 0} (broke : T → List ℕ → T → Type 0) where
  -- the trees' text is too long, or memory was refused, and the target is as it was
  pub left_arranged : (ts : List Tree) (o u : T) (fault : Fault) → u ≡ o → RefusesArranged ts fault → ArrangedFails broke ts o u fault
  left_arranged ts o u TextTooLong e h = record { refused = h; untouched = e }
  left_arranged ts o u OutOfMemory e h = record { refused = h; untouched = e }
  left_arranged ts o u _ e h = absurd h

  pub broken_arranged : (ts : List Tree) (o u : T) (fault : Fault) → length (arranged_bytes ts) ≤ text_limit → broke o (arranged_bytes ts) u → fault ≡ WriteFault → ArrangedFails broke ts o u fault
  broken_arranged ts o u fault l b e = subst (ArrangedFails broke ts o u) (sym e) (record { fits = l; broken = b })

  -- the bytes are refused, and the target is as it was
  pub refused_put : (bytes : List ℕ) (o : T) (fault : Fault) → CanonicalRefuses bytes fault → PutFails broke bytes o o fault
  refused_put bytes o WriteFault h = absurd h
  refused_put bytes o _ h = record { refused = h; untouched = refl }

  refused_later : (bytes : List ℕ) (ts : List Tree) (o u : T) (fault : Fault) → IsArranged bytes ts → RefusesArranged ts fault → u ≡ o → PutFails broke bytes o u fault
  refused_later bytes ts o u fault a h e = subst (λ z. PutFails broke bytes o z fault) (sym e) (refused_put bytes o fault (refused_arranged bytes ts fault a h))

  pub canonical_not_put : (bytes : List ℕ) (ts : List Tree) (o u : T) (fault : Fault) → IsArranged bytes ts → ArrangedFails broke ts o u fault → PutFails broke bytes o u fault
  canonical_not_put bytes ts o u WriteFault a h = record { text = arranged_bytes ts; canonical = text_arranged bytes (arranged_bytes ts) ts a refl h.fits; broken = h.broken }
  canonical_not_put bytes ts o u fault a h = refused_later bytes ts o u fault a h.refused h.untouched

  -- no place is told of it
  pub not_put_elsewhere : (bytes : List ℕ) (ts : List Tree) (o u : T) (fault : Fault) → ArrangedFails broke ts o u fault → TellsPlace bytes fault
  not_put_elsewhere bytes ts o u WriteFault h = tt
  not_put_elsewhere bytes ts o u fault h = arranged_elsewhere bytes ts fault h.refused

-- where no writing fails, the bytes are refused
pub never_broken : {T : Type 0} (bytes : List ℕ) (o u : T) (fault : Fault) → PutFails (λ _ _ _. ⊥) bytes o u fault → CanonicalRefuses bytes fault
never_broken {T} bytes o u WriteFault h = absurd h.broken
never_broken {T} bytes o u fault h = h.refused
