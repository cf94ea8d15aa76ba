use Rattle.std.proofs.Common.{◌*◌, ◌+◌, ◌++◌, ℕ, [], ◌∷◌, get_or, take, sym, ◌∙◌, ap, arith, append_assoc}
use Rattle.yaml_tree.specs.ComposerSteps.{paired}
use Rattle.yaml_store.proofs.Parts.{paired-more, paired-all}
use Rattle.yaml_store.proofs.store.push_entries.Goals as goal

pub loop-place-preserved : goal.loop-place-preserved
loop-place-preserved c =
    let k = c.loop-place.place in
    let parts = c.args.parts.now in
    let old = c.args.entries.now.items in
    let pair : ℕ × ℕ = (get_or parts (2 * k) 0, get_or parts (2 * k + 1) 0) in
    c.in_ok-push.ensures.items ∙ (ap (λ z. z ++ (pair ∷ [])) c.loop-place.invariant ∙ (append_assoc old (paired (take (2 * k) parts)) (pair ∷ []) ∙ ap (λ z. old ++ z) (sym (paired-more parts k 0 (omega (arith, c.loop-place-test.true))))))

pub returns : goal.returns
returns c =
    let old = c.args.entries.now.items in
    c.loop-place.invariant ∙ ap (λ z. old ++ z) (paired-all c.args.parts.now c.loop-place.place (omega (arith, c.loop-place-test.false)))
