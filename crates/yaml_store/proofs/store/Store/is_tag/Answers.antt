use Rattle.std.proofs.Common.{rules, ◌≡◌, [], sym, ◌∙◌, ap, arith}
use Rattle.std.specs.Prelude.{Some}
use Rattle.yaml_tree.proofs.Numbering.{get-there}
use Rattle.yaml_store.proofs.store.Store.is_tag.Goals as goal

pub returns-then-number-len : goal.returns-then-number-len
returns-then-number-len c = λ yes.
    let tags = c.args.self.now.tags in
    let same : c.get.result.now ≡ c.args.tag.now = search rules in
    get-there tags c.args.number [] (omega (arith, c.if-number-len.true, c.len.ensures)) ∙ ap Some (sym c.get.ensures ∙ same)
