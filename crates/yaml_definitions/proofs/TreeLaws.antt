-- The order of trees, and trees that are the same, in the words of the laws.
use Rattle.std.proofs.Common.{◌≡◌, inl, inr, subst}
use Rattle.std.specs.declared.cmp.Ordering.{Ordering}
use Rattle.std.specs.declared.cmp.Ordering.TheVariants.{Less, Equal, Greater}
use Rattle.std.specs.Ordering.{MatchOrdering}
use Rattle.std.proofs.lemmas.Cmp.{tied_itself}
use Rattle.yaml_definitions.specs.model.Order.{tree_cmp, arranged, Before}
use Rattle.yaml_definitions.specs.model.Same.{Same}
use Rattle.yaml_definitions.proofs.Equivalence.{same_refl, same_sym, same_trans}
use Rattle.yaml_definitions.specs.Laws.{OrderIsTotal, OrderTells, ExactlyOne, BeforeOrSame, BeforeGoesOn, SameToItself, SameEitherWay, SameGoesOn, SameIsArranged}
use Rattle.yaml_definitions.proofs.OrderLaws.{tree_cmp-total, tree_same}
use Rattle.yaml_definitions.proofs.SameLaws as laws

pub order_is_total : OrderIsTotal
order_is_total = tree_cmp-total

pub order_tells : OrderTells
order_tells t u = (tree_same t u, λ e. subst (λ z. tree_cmp t z ≡ Equal) e (tied_itself tree_cmp-total t))

pub before_or_same : BeforeOrSame
before_or_same t u m n = by (tree_cmp (arranged t) (arranged u)) (laws.before_or_same t u m n)
  where
    by : (r : Ordering) → MatchOrdering r (Before t u × (¬ Same t u) × (¬ Before u t)) (Same t u × (¬ Before t u) × (¬ Before u t)) (Before u t × (¬ Same t u) × (¬ Before t u))
        → ExactlyOne (Before t u) (Same t u) (Before u t)
    by Less h = inl (h.0, h.1, h.2)
    by Equal h = inr (inl (h.1, h.0, h.2))
    by Greater h = inr (inr (h.2, h.1, h.0))

pub before_goes_on : BeforeGoesOn
before_goes_on t u v a b = tree_cmp-total.trans (arranged t) (arranged u) (arranged v) a b

pub same_to_itself : SameToItself
same_to_itself = same_refl

pub same_either_way : SameEitherWay
same_either_way = same_sym

pub same_goes_on : SameGoesOn
same_goes_on = same_trans

pub same_is_arranged : SameIsArranged
same_is_arranged = laws.same_exact
