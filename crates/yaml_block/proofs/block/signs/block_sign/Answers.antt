use Rattle.std.proofs.Common.{◌≡◌, inl, inr, subst}
use Rattle.yaml_text.specs.Source.{text_of, place_of}
use Rattle.yaml_sink.specs.PropertyRules.{props_of}
use Rattle.yaml_block.specs.BlockEnds.{IsStyleSign}
use Rattle.yaml_block.proofs.ScalarDecisions.{follows_same}
use Rattle.yaml_block.proofs.block.signs.block_sign.Goals as goal

pub returns-in-None-accept-2-clause-none : goal.returns-in-None-accept-2-clause-none
returns-in-None-accept-2-clause-none c = λ n f sign.
    let s = c.args.source.now in
    let cs = text_of s in
    let same : n ≡ place_of s c.in-Some.first = follows_same cs _ _ n _ (props_of c.args.head.now.own) f c.in-Some.ensures.follows c.in-Some.ensures.furthest sign in
    one (subst (IsStyleSign cs) same sign)
  where
    one : IsStyleSign (text_of c.args.source.now) (place_of c.args.source.now c.in-Some.first) → ⊥
    one (inl h) = c.in-None-accept.ensures.none h
    one (inr h) = c.in-None-accept-2.ensures.none h
