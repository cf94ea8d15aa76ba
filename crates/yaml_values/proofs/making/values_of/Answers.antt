use Rattle.std.proofs.Common.{◌≡◌, ◌+◌, length, refl, sym, subst, arith}
use Rattle.std.specs.String.{string_bytes}
use Rattle.yaml_tree.specs.View.{inside_tree}
use Rattle.yaml_tree.specs.Shown.{inside_shown}
use Rattle.yaml_store_rank.specs.Walked.{walked_tree}
use Rattle.yaml_values.specs.Making.{AreMade}
use Rattle.yaml_values.proofs.ValueLaws.{made-more, denotes}
use Rattle.yaml_values.proofs.making.values_of.Goals as goal

pub loop-number-preserved : goal.loop-number-preserved
loop-number-preserved c =
    let r = c.args.ranked.now in
    let n = c.loop-number.number in
    let tag = c.node-shown.result.tag.now in
    let inside = inside_shown (λ i. i) c.node-shown.result.inside in
    let made = subst (λ k. walked_tree r k ≡ inside_tree (walked_tree r) tag inside) c.in_ok-id.ensures c.node-shown.ensures.tree in
    subst (λ vs. AreMade r c.args.roots.now c.put_value.new.parts.items (string_bytes c.put_value.new.texts) vs (n + 1)) (sym c.in_ok-push.ensures.items)
    (made-more r c.args.roots.now c.loop-number.parts.items c.put_value.new.parts.items (string_bytes c.loop-number.texts) (string_bytes c.put_value.new.texts) c.loop-number.values.items n tag inside c.in_ok-put_value.field-0 c.loop-number.invariant c.in_ok-put_value.ensures made)

pub returns : goal.returns
returns c =
    let r = c.args.ranked.now in
    let many : c.len-number-end.result ≡ length r.first.items = c.len-number-end.ensures in
    denotes r c.args.roots.now c.loop-number.parts.items (string_bytes c.loop-number.texts) c.loop-number.values.items c.loop-number.number (length c.args.roots.now) c.loop-number.invariant (omega (arith, c.loop-number-test.false, many)) refl c.requires.roots
