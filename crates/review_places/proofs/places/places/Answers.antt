use Rattle.std.proofs.Common.{◌≡◌, ◌++◌, ◌∷◌, [], map, take, sym, ◌∙◌, ap, subst, arith, rules}
use Rattle.std.specs.List.Sorted.{IsPermutation}
use Rattle.std.proofs.lemmas.List.{map-append, take_more, take_all}
use Rattle.std.specs.List.{All, Contains}
use Rattle.std.specs.Prelude.{slice_index_or}
use Rattle.std.proofs.lemmas.List.Elements.{All-contains_itself, All-same, All-push}
use Rattle.std.proofs.lemmas.List.Sorted.{All-permutation, IsPermutation-map, IsPermutation-trans, IsNonDecreasingBy-from_sort_by_key}
use Rattle.review_places.specs.Told.{IsTold}
use Rattle.review_places.proofs.places.places.Goals as goal

pub offsets-preserved : goal.offsets-preserved
offsets-preserved c =
    let v = c.offsets.invariant in
    let given = c.args.offsets.items in
    let told = IsTold c.args.text.now given in
    let sorted = c.deref-offset-items.result.now in
    let all : All (Contains given) sorted = subst (All (Contains given)) (sym c.deref-offset-items.ensures.value) (All-permutation (Contains given) given c.sort_unstable.new.self.items c.sort_unstable.ensures.permutation (All-contains_itself given)) in
    let item = slice_index_or sorted c.offsets.offset-index (0, 0) in
    record {
      told = All-same told c.push.new.self.items _ c.in_ok-push.ensures.items (All-push told c.offsets.list.items _ v.told (record {
        offset = item.0;
        given = all c.offsets.offset-index (0, 0) (omega (arith, c.offsets-test.true));
        at = c.min-to.result;
        is = λ l. omega (arith, l, c.min-to.ensures);
        placed = c.go_on-place.ensures;
      }));
      here = c.go_on-place.ensures;
      numbers =
          ap (map (λ t. t.0)) c.in_ok-push.ensures.items ∙ map-append (λ t. t.0) c.offsets.list.items _ ∙ ap (λ z. z ++ (item.1 ∷ [])) v.numbers
          ∙ sym (ap (map (λ g. g.1)) (take_more sorted c.offsets.offset-index (0, 0) (omega (arith, c.offsets-test.true))) ∙ map-append (λ g. g.1) (take c.offsets.offset-index sorted) (item ∷ []));
      within = omega (arith, c.min-to.ensures);
    }

pub returns-clause-ok : goal.returns-clause-ok
returns-clause-ok c = All-permutation (IsTold c.args.text.now c.args.offsets.items) c.offsets.list.items c.sort_unstable_by_key.new.self.items c.sort_unstable_by_key.ensures.permutation c.offsets.invariant.told

pub returns-clause-numbers : goal.returns-clause-numbers
returns-clause-numbers c =
    let given = c.args.offsets.items in
    let ordered = c.sort_unstable.new.self.items in
    let list = c.offsets.list.items in
    let final = c.sort_unstable_by_key.new.self.items in
    let all = take_all c.offsets.offset-index c.deref-offset-items.result.now (omega (arith, c.offsets-test.false)) ∙ c.deref-offset-items.ensures.value in
    let e : map (λ t. t.0) list ≡ map (λ g. g.1) ordered = c.offsets.invariant.numbers ∙ ap (map (λ g. g.1)) all in
    IsPermutation-trans (map (λ g. g.1) given) (map (λ g. g.1) ordered) (map (λ t. t.0) final) (IsPermutation-map (λ g. g.1) given ordered c.sort_unstable.ensures.permutation)
    (subst (λ z. IsPermutation z (map (λ t. t.0) final)) e (IsPermutation-map (λ t. t.0) list final c.sort_unstable_by_key.ensures.permutation))

pub returns-clause-rising : goal.returns-clause-rising
returns-clause-rising c = IsNonDecreasingBy-from_sort_by_key (λ t. t.0) _ c.sort_unstable_by_key.ensures.sorted (λ a r q k. search rules)
