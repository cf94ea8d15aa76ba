use Rattle.std.proofs.Common.{◌≡◌, ◌+◌, ◌<◌, ◌∙◌, arith, ap}
use Rattle.yaml_tree_builder.specs.declared.firsts.Firsts.{Firsts}
use Rattle.yaml_tree_builder.proofs.FirstsLaws.{counted-more}
use Rattle.yaml_tree_builder.proofs.firsts.Firsts.note.Goals as goal
use Rattle.yaml_tree_builder.proofs.firsts.Firsts.note.Goals.{then-len+in_ok-push, else-len}

pub returns : goal.returns
returns c = λ before after closed t h k l.
    let old = c.args.self.now in
    let new : Firsts = record { numbers = c.if-len.self.numbers; closed = c.in-Some.closed } in
    let more : new.closed ≡ c.if-len.self.closed + 1 = c.in-Some.ensures.1 in
    let few : new.closed < 4294967296 = omega (arith, c.in-Some.ensures.0, c.in-Some.ensures.1) in
    elim c.if-len.branch [
      | then-len+in_ok-push w ↦ counted-more before after closed t old new c.args.len h k l (λ m. ap (λ (f : Firsts). f.numbers.items) w.self-is ∙ w.in_ok-push.ensures.items) (λ m. absurd (omega (arith, w.if-len, c.len.ensures, old.numbers.ok.0))) (more ∙ ap (λ (f : Firsts). f.closed + 1) w.self-is) few
      | else-len w ↦ counted-more before after closed t old new c.args.len h k l (λ m. absurd (omega (arith, w.if-len, c.len.ensures, old.numbers.ok.0))) (λ m. ap (λ (f : Firsts). f.numbers.items) w.self-is) (more ∙ ap (λ (f : Firsts). f.closed + 1) w.self-is) few
    ]
