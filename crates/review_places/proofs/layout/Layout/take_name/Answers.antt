use Rattle.std.proofs.Common.{ap}
use Rattle.review_places.proofs.LayoutLaws.{named-stand}
use Rattle.review_places.proofs.layout.Layout.take_name.Goals as goal

pub returns-in-Alias-clause-stands : goal.returns-in-Alias-clause-stands
returns-in-Alias-clause-stands c =
    λ s x t. named-stand s c.args.at _ c.args.self.now c.set_number.new.self x t c.set_number.ensures.nodes (ap (λ v. v.items) c.set_number.ensures.firsts) (ap (λ v. v.items) c.set_number.ensures.parts) (ap (λ v. v.items) c.set_number.ensures.aliases)
