-- What is refused in a part is refused in the whole.
use Rattle.std.proofs.Common.{◌≡◌, Result, Err, sym, ap, ◌∙◌, subst}
use Rattle.std.specs.Result.{IsErrAnd}
use Rattle.std.proofs.lemmas.Result.{err_from_is_err_and}
use Rattle.yaml_events.specs.LineAnswer.{Parses, RefusesPart}
use Rattle.yaml_events.specs.declared.fault.LineFault.{LineFault}
use Rattle.yaml_events.specs.declared.fault.LineFault.TheVariants.{NoEvent, OutOfMemory}

refuses_for : (e : LineFault) {A B : Type 0} (P : A → Type 0) (Q : B → Type 0) → RefusesPart e P → ((b : B) → Q b → (a : A) × P a) → RefusesPart e Q
refuses_for NoEvent P Q h f = λ b q. let p = f b q in h p.0 p.1
refuses_for OutOfMemory P Q h f = tt

refused : {T A : Type 0} (Is Expected : A → Type 0) (view : T → A) (e : LineFault) → RefusesPart e Expected → Parses Is Expected view (Err e)
refused Is Expected view NoEvent h = h
refused Is Expected view OutOfMemory h = tt

pub refusal : {T A : Type 0} (Is Expected : A → Type 0) (view : T → A) (e : LineFault) → Parses Is Expected view (Err e) → RefusesPart e Expected
refusal Is Expected view NoEvent h = h
refusal Is Expected view OutOfMemory h = tt

-- A part's refusal is passed on: wherever the whole may be expected, so may the part.
pub passed_on : {T U A B : Type 0} (Is Expected : A → Type 0) (view : T → A) (Part Wanted : B → Type 0) (of_part : U → B) (r : Result T LineFault) (e : LineFault)
    → IsErrAnd r (λ x. x ≡ e) → Parses Part Wanted of_part (Err e) → ((a : A) → Expected a → (b : B) × Wanted b) → Parses Is Expected view r
passed_on Is Expected view Part Wanted of_part r e was p f =
    let q = err_from_is_err_and r was in
    subst (Parses Is Expected view) (sym (q.1 ∙ ap Err q.2)) (refused Is Expected view e (refuses_for e Wanted Expected (refusal Part Wanted of_part e p) f))
