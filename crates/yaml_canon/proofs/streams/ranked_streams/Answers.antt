use Rattle.std.proofs.Common.{◌∷◌, map}
use Rattle.yaml_store_composer.specs.KeeperModel.{Composes}
use Rattle.yaml_canon.specs.declared.streams.Ends.{Ends}
use Rattle.yaml_canon.proofs.StreamEnds.{none-reached}
use Rattle.yaml_canon.proofs.streams.ranked_streams.Goals as goal

pub ranked_of-requires : goal.ranked_of-requires
ranked_of-requires c =
    let first = c.args.first.now in
    let ends : Ends = record { documents = c.new-2.result; events = c.new-3.result } in
    let r = c.in_ok-composing.ensures first c.in-Ok.ensures.source (none-reached Composes c.in-Ok-new.empty ends c.new-2.ensures.items c.new-3.ensures.items c.in-Ok-new.ensures) in
    (first ∷ map (λ it. it.now) c.args.others.now, r.holds_are)

pub returns-in-Ok-ranked_of : goal.returns-in-Ok-ranked_of
returns-in-Ok-ranked_of c =
    let first = c.args.first.now in
    let ends : Ends = record { documents = c.new-2.result; events = c.new-3.result } in
    let r = c.in_ok-composing.ensures first c.in-Ok.ensures.source (none-reached Composes c.in-Ok-new.empty ends c.new-2.ensures.items c.new-3.ensures.items c.in-Ok-new.ensures) in
    record { shows = c.in-Ok-ranked_of.ensures (first ∷ map (λ it. it.now) c.args.others.now) r.holds_are }
