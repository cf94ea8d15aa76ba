use Rattle.std.proofs.Common.{◌≡◌, true, false, ◌&&◌, sym, ◌∙◌, ap}
use Rattle.std.specs.Prelude.{bytes_eq}
use Rattle.yaml_definitions.specs.model.Tag.{str_tag, core_tag}
use Rattle.yaml_pair.proofs.TreeLaws.{is-text, no-text}
use Rattle.yaml_pair.proofs.nodes.is_text.Goals as goal

pub returns-then-eq : goal.returns-then-eq
unfolding core_tag
returns-then-eq c = λ l.
    let text = c.args.text.now in
    let content = c.in-Scalar.content.now in
    let a : bytes_eq str_tag c.in-Some.node.tag.now ≡ true = sym c.eq.ensures ∙ c.if-eq.true in
    c.eq-then-eq.ensures ∙ ap (λ z. z && bytes_eq text content) (sym a) ∙ is-text c.args.forests.now c.laws.ensures c.args.id.0 c.in-Some.node c.in-Some.ensures c.in-Scalar.content str_tag text c.in-Scalar.is

pub returns-else-eq : goal.returns-else-eq
unfolding core_tag
returns-else-eq c = λ l.
    let text = c.args.text.now in
    let content = c.in-Scalar.content.now in
    let a : bytes_eq str_tag c.in-Some.node.tag.now ≡ false = sym c.eq.ensures ∙ c.if-eq.false in
    c.if-eq.false ∙ ap (λ z. z && bytes_eq text content) (sym a) ∙ is-text c.args.forests.now c.laws.ensures c.args.id.0 c.in-Some.node c.in-Some.ensures c.in-Scalar.content str_tag text c.in-Scalar.is

pub returns-in_default : goal.returns-in_default
returns-in_default c = λ l. no-text c.args.forests.now c.laws.ensures c.args.id.0 c.in-Some.node c.in-Some.ensures c.in_default.not-Scalar str_tag c.args.text.now
