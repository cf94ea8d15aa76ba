use Rattle.std.proofs.Common.{◌≡◌, nat_lt, ◌∙◌}
use Rattle.yaml_definitions.specs.canonical.Spell.{short}
use Rattle.yaml_spell.specs.NamesView.{given_of}
use Rattle.yaml_spell.specs.Walked.{opening_of, begun_unless_short}
use Rattle.yaml_spell.proofs.ShortWalk.{short_told}
use Rattle.yaml_spell.proofs.opening.open_node.Goals as goal

pub returns-clause-opening : goal.returns-clause-opening
returns-clause-opening g c =
    let v = c.args.view.now in
    let t = g.V.RankedNodes.tree v (g.V.RankedNodes.number c.args.id) in
    let b : nat_lt 0 c.short_len-short.result ≡ short t = short_told t _ c.short_len-short.ensures.is in
    let k : c.rank.result ≡ g.V.RankedNodes.rank v t = c.rank.ensures.is in
    c.start.ensures.opening ∙ (λ z. opening_of (b z) (k z) (given_of c.args.names.now))

pub returns-clause-given : goal.returns-clause-given
returns-clause-given g c =
    let v = c.args.view.now in
    let t = g.V.RankedNodes.tree v (g.V.RankedNodes.number c.args.id) in
    let b : nat_lt 0 c.short_len-short.result ≡ short t = short_told t _ c.short_len-short.ensures.is in
    let k : c.rank.result ≡ g.V.RankedNodes.rank v t = c.rank.ensures.is in
    c.start.ensures.given ∙ (λ z. begun_unless_short (b z) (k z) (given_of c.args.names.now))
