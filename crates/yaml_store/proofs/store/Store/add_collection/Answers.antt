use Rattle.std.proofs.Common.{sym, subst}
use Rattle.std.specs.Prelude.{IfOk}
use Rattle.yaml_tree.specs.ComposerSteps.{collection_from}
use Rattle.yaml_store.specs.StoreModel.{tag_at, parts_at, is_mapping}
use Rattle.yaml_store.specs.StoreGrows.{Stands, tags_of, trees_of}
use Rattle.yaml_store.proofs.store.Store.add_collection.Goals as goal

pub returns-in-Sequence-clause-stands : goal.returns-in-Sequence-clause-stands
returns-in-Sequence-clause-stands c = λ fits.
    let s = c.args.self.now in
    subst (λ k. IfOk c.add_sequence.result (λ i. Stands c.add_sequence.new.self i (collection_from (is_mapping k) (tag_at (tags_of s) c.args.tag) (parts_at (trees_of s) c.args.parts.now)))) (sym c.in-Sequence.is) (c.add_sequence.ensures.stands fits)

pub returns-in-Mapping-clause-stands : goal.returns-in-Mapping-clause-stands
returns-in-Mapping-clause-stands c = λ fits.
    let s = c.args.self.now in
    subst (λ k. IfOk c.add_mapping.result (λ i. Stands c.add_mapping.new.self i (collection_from (is_mapping k) (tag_at (tags_of s) c.args.tag) (parts_at (trees_of s) c.args.parts.now)))) (sym c.in-Mapping.is) (c.add_mapping.ensures.stands fits)
