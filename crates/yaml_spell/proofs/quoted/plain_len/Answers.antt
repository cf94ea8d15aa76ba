use Rattle.std.proofs.Common.{ℕ, ◌<◌, length, get_or, subst, refl}
use Rattle.std.specs.Str.{IsCharBoundary}
use Rattle.yaml_spell.specs.Quoted.{Plain}
use Rattle.yaml_spell.proofs.QuotedLaws.{plain_front, other_border}
use Rattle.yaml_spell.proofs.quoted.plain_len.Goals as goal

border : (c : goal.After-front_len) → IsCharBoundary c.as_bytes.result.now c.front_len.result
border c = other_border c.as_bytes.result.now c.front_len.result c.front_len.ensures.len (λ l. (c.front_len.ensures.next l).1 refl)

pub returns-clause-border : goal.returns-clause-border
returns-clause-border c = subst (λ z. IsCharBoundary z c.front_len.result) c.as_bytes.ensures.value (border c)

pub returns-clause-spelled : goal.returns-clause-spelled
returns-clause-spelled c =
    plain_front c.args.text.now c.front_len.result c.utf8.text (returns-clause-border c)
    (subst (λ z. (k : ℕ) → k < c.front_len.result → Plain (get_or z k 0)) c.as_bytes.ensures.value (λ k l. (c.front_len.ensures.front k l).0 refl))
