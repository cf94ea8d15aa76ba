use Rattle.std.proofs.Common.{◌≡◌, sym, ◌∙◌, refl, arith, Some, None}
use Rattle.yaml_tree.specs.Anchors.{place_named}
use Rattle.yaml_graph.proofs.ComposerLaws.{alias-undefined, alias-within, alias-cyclic, alias-added}
use Rattle.yaml_graph.proofs.composer.Composer.alias.Goals as goal

pub returns-in_default : goal.returns-in_default
returns-in_default c = λ s h.
    let e : place_named c.args.self.now.names c.args.name.now ≡ None = sym c.get.ensures.value ∙ (sym c.copied.ensures ∙ c.in_default.is) in
    alias-undefined c.args.at c.args.name.now c.args.self.now s h e

pub index-requires : goal.index-requires
index-requires c =
    let self = c.args.self.now in
    let e : place_named self.names c.args.name.now ≡ Some c.in-Some.place = sym c.get.ensures.value ∙ (sym c.copied.ensures ∙ c.in-Some.is) in
    omega (arith, alias-within c.args.at c.args.name.now self c.requires.0 c.requires.1 c.in-Some.place e, self.anchored.ok.0)

pub returns-in_default-index : goal.returns-in_default-index
returns-in_default-index c = λ s h.
    let e : place_named c.args.self.now.names c.args.name.now ≡ Some c.in-Some.place = sym c.get.ensures.value ∙ (sym c.copied.ensures ∙ c.in-Some.is) in
    alias-cyclic c.args.at c.args.name.now c.args.self.now s h c.in-Some.place e c.index.result.now c.index.ensures c.in_default-index.is

pub returns : goal.returns
returns c = λ s h.
    let e : place_named c.args.self.now.names c.args.name.now ≡ Some c.in-Some.place = sym c.get.ensures.value ∙ (sym c.copied.ensures ∙ c.in-Some.is) in
    alias-added c.args.at c.args.name.now c.args.self.now s h c.in-Some.place e c.index.result.now c.index.ensures c.in-Some-index.node c.in-Some-index.is _ refl refl refl refl refl c.in_ok-push.ensures.items
