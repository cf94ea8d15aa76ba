use Rattle.std.proofs.Common.{length, subst, slice_index}
use Rattle.yaml_store.specs.StoreModel.{PartsWithin}
use Rattle.yaml_store_rank.proofs.Settling.{sequence-settled, mapping-told}
use Rattle.yaml_store_rank.proofs.settle.settle_one.Goals as goal

pub returns-in-Sequence : goal.returns-in-Sequence
returns-in-Sequence c =
    let is = c.args.items.now in
    let es = c.args.entries.now in
    let w = c.requires.within in
    sequence-settled (slice_index c.args.ranks.now) is es c.args.place c.in-Sequence.span c.in-Sequence.is (subst (PartsWithin (length is) (length es)) c.in-Sequence.is w) c.overwrite.new.items c.overwrite.ensures

pub returns-in-Mapping : goal.returns-in-Mapping
returns-in-Mapping c =
    let is = c.args.items.now in
    let es = c.args.entries.now in
    let w = c.requires.within in
    mapping-told (slice_index c.args.ranks.now) is es c.args.place c.in-Mapping.span c.in-Mapping.is (subst (PartsWithin (length is) (length es)) c.in-Mapping.is w) c.overwrite_entries.new.entries c.arrange.new.entries c.overwrite_entries.ensures c.arrange.result c.arrange.ensures
