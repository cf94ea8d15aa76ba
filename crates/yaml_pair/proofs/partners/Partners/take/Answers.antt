use Rattle.std.proofs.Common.{◌≡◌, refl, subst}
use Rattle.std.specs.Prelude.{Some, None}
use Rattle.std.specs.List.{slice_get}
use Rattle.yaml_pair.proofs.JoinLaws.{takes-keeps}
use Rattle.yaml_pair.proofs.partners.Partners.take.Goals as goal

pub returns-then-is_free-2-clause-keeps : goal.returns-then-is_free-2-clause-keeps
returns-then-is_free-2-clause-keeps c =
    let left = subst (λ z. slice_get z c.args.left ≡ Some None) c.deref.ensures.value (c.is_free.ensures.0 c.if-is_free.true) in
    let right = subst (λ z. slice_get z c.args.right ≡ Some None) c.deref-then-is_free.ensures.value (c.is_free-then-is_free.ensures.0 c.if-is_free-2.true) in
    takes-keeps c.args.self.now _ c.args.left c.args.right left right (record { lefts = refl; rights = refl })
