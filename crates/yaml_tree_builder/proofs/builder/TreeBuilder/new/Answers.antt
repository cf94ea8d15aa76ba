use Rattle.std.proofs.Common.{◌≡◌, [], sym, ◌∙◌, subst}
use Rattle.yaml_store.specs.StoreGrows.{tags_of, trees_of}
use Rattle.yaml_tree_builder.specs.FirstsModel.{Counted}
use Rattle.yaml_tree_builder.proofs.BuilderLaws.{keeping-none}
use Rattle.yaml_tree_builder.proofs.FirstsLaws.{same-trees}
use Rattle.yaml_tree_builder.proofs.builder.TreeBuilder.new.Goals as goal

pub returns : goal.returns
returns c =
    let s = c.new-2.new.store in
    let before = c.in_ok-store.store in
    let g = c.in_ok-store.ensures.good in
    let kept = c.in_ok-core.ensures.kept g in
    let none : trees_of s ≡ [] = same-trees before s kept c.in_ok-core.ensures.nodes ∙ c.in_ok-store.ensures.empty in
    record {
      good = record { store = kept.good; core = c.in_ok-core.ensures.core g };
      names = c.new-3.ensures;
      keeping =
          keeping-none (tags_of s) (trees_of s) c.new-4.result.items c.new-5.result.items c.new-6.result.items c.new-4.ensures.items c.new-5.ensures.items c.new-6.ensures.items;
      counted = subst (λ ts. Counted ts c.new-7.result []) (sym none) c.new-7.ensures;
    }
