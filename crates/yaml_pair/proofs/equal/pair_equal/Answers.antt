use Rattle.std.proofs.Common.{length, sym, ◌∙◌, ap, subst}
use Rattle.yaml_pair.specs.Named.{OnlyFree, AreRanks, AreCounts}
use Rattle.yaml_pair.proofs.EqualLaws.{counts-free, has-equal}
use Rattle.yaml_pair.proofs.ListLaws.{ok-then}
use Rattle.yaml_pair.proofs.equal.pair_equal.Goals as goal

pub join-requires-clause-lefts : goal.join-requires-clause-lefts
join-requires-clause-lefts c = subst (λ z. OnlyFree z c.args.partners.now.lefts.items) (sym c.deref-3.ensures.value)
    (counts-free c.deref.result.now c.in_ok-left.left.items c.args.partners.now.lefts.items (length c.args.lefts.now) c.in_ok-left.ensures.ok (ap length c.deref.ensures.value ∙ c.in_ok-ranks_of.ensures.ok.0) c.requires.none.left)

pub join-requires-clause-rights : goal.join-requires-clause-rights
join-requires-clause-rights c = subst (λ z. OnlyFree z c.args.partners.now.rights.items) (sym c.deref-4.ensures.value)
    (counts-free c.deref-2.result.now c.in_ok-right.right.items c.args.partners.now.rights.items (length c.args.rights.now) c.in_ok-right.ensures.ok (ap length c.deref-2.ensures.value ∙ c.in_ok-ranks_of-2.ensures.ok.0) c.requires.none.right)

pub returns : goal.returns
returns c = record {
  ok = (
      let g = c.args.forests.now in
      let ls = c.args.lefts.now in
      let rs = c.args.rights.now in
      let rl = c.deref.result.now in
      let rr = c.deref-2.result.now in
      ok-then c.join.result _ _ (λ jn within.
      has-equal g c.laws.ensures ls rs within c.args.partners.now c.join.new.partners c.requires.none rl rr
      (subst (AreRanks g ls) (sym c.deref.ensures.value) c.in_ok-ranks_of.ensures.ok) (subst (AreRanks g rs) (sym c.deref-2.ensures.value) c.in_ok-ranks_of-2.ensures.ok)
      c.deref-3.result.now c.deref-4.result.now
      (subst (λ z. AreCounts rl z (length rl)) (sym c.deref-3.ensures.value) c.in_ok-left.ensures.ok) (subst (λ z. AreCounts rr z (length rr)) (sym c.deref-4.ensures.value) c.in_ok-right.ensures.ok) jn)
      c.join.ensures.ok);
}
