-- What is printed of a merge.
use Rattle.std.proofs.Common.{◌≡◌, ℕ, zero, suc, Bool, true, false, cond, List, [], refl, sym, subst}
use Rattle.std.specs.Prelude.{Option, Some, None}
use Rattle.std.specs.Borrow.{Bor}
use Rattle.std.specs.Option.{is_some, option_map}
use Rattle.yaml_conflicts.specs.declared.streams.Outcome.{Outcome}
use Rattle.yaml_conflicts.specs.declared.streams.Roots.{Roots}
use Rattle.yaml_store_rank.specs.Forests.{Forests}
use Rattle.review_merge.specs.Lines.{sides_of, sides_in, IsOutcomeText}
use Rattle.review_merge.specs.Merges.{IsAskedText, HasSources}
use Rattle.review_merge.specs.declared.lines.Sources.{Sources}
use Rattle.review_merge.specs.declared.merge.Bytes.{Bytes}
use Rattle.review_merge.specs.declared.print.Print.{Print}

pub asked_none : (lines : ℕ) (is : Type 0) (text : List ℕ) → lines ≡ 0 → text ≡ [] → IsAskedText lines is text
asked_none lines is text e h = subst (λ z. IsAskedText z is text) (sym e) h

pub asked_some : (lines : ℕ) (is : Type 0) (text : List ℕ) → (lines ≡ 0 → ⊥) → is → IsAskedText lines is text
asked_some zero is text n h = absurd (n refl)
asked_some (suc lines) is text n h = h

given_is : (o : Option (Bor (List ℕ))) (given : Bool) (x : List ℕ) → option_map (λ it. it.now) o ≡ cond given (Some x) None → is_some o ≡ given
given_is None false x e = refl
given_is None true x e = absurd cc
given_is (Some b) true x e = refl
given_is (Some b) false x e = absurd cc

pub sources_told : (bytes : Bytes) (given : Bool) (sources : Sources) (g : Forests) (print : Print) (roots : Roots) (outcome : Outcome) (text : List ℕ) → HasSources bytes given sources
    → IsAskedText print.lines (IsOutcomeText g print (is_some sources.result) roots (sides_in roots sources) outcome text) text
    → IsAskedText print.lines (IsOutcomeText g print given roots (sides_of roots bytes.base.items bytes.ours.items bytes.theirs.items (cond given (Some bytes.result.items) None)) outcome text) text
sources_told bytes given sources g print roots outcome text h t =
    let sides : sides_in roots sources ≡ sides_of roots bytes.base.items bytes.ours.items bytes.theirs.items (cond given (Some bytes.result.items) None) = λ i. sides_of roots (h.base i) (h.ours i) (h.theirs i) (h.result i) in
    subst (λ z. IsAskedText print.lines (IsOutcomeText g print given roots z outcome text) text) sides
    (subst (λ z. IsAskedText print.lines (IsOutcomeText g print z roots (sides_in roots sources) outcome text) text) (given_is sources.result given bytes.result.items h.result) t)
