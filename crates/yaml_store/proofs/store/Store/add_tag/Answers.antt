use Rattle.std.proofs.Common.{◌≡◌, [], ◌∷◌, length, ◌∙◌, ap, sym, subst}
use Rattle.std.specs.Prelude.{Some}
use Rattle.std.specs.List.{slice_get}
use Rattle.yaml_tree.proofs.Lists.{get-end}
use Rattle.yaml_store.specs.StoreGrows.{tags_of}
use Rattle.yaml_store.proofs.StoreLaws.{tagged}
use Rattle.yaml_store.specs.TextModel.{text_of}
use Rattle.yaml_store.proofs.store.Store.add_tag.Goals as goal

pub returns-clause-kept : goal.returns-clause-kept
returns-clause-kept c = λ good.
    let s = c.args.self.now in
    let t = tagged (tags_of s) c.push.new.self c.args.tag.now (text_of s.text) s.items.items s.entries.items s.nodes.items good c.in_ok-number.ensures.pushed in
    record { good = t.sound; more_tags = c.args.tag.now ∷ []; tags = t.tags; more = []; trees = t.trees }

pub returns-clause-is : goal.returns-clause-is
returns-clause-is c =
    let tags = tags_of c.args.self.now in
    let last = ap (λ z. slice_get z (length tags)) c.in_ok-number.ensures.pushed ∙ get-end tags c.args.tag.now in
    subst (λ i. slice_get c.push.new.self i ≡ Some c.args.tag.now) (sym c.in_ok-number.ensures.number) last
