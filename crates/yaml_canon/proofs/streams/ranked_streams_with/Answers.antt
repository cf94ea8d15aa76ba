use Rattle.std.proofs.Common.{◌∷◌, map}
use Rattle.yaml_canon.specs.declared.streams.Ends.{Ends}
use Rattle.yaml_canon.proofs.StreamEnds.{none-beside, composer-holds, keeps-streams}
use Rattle.yaml_canon.proofs.streams.ranked_streams_with.Goals as goal

pub ranked_of-requires : goal.ranked_of-requires
ranked_of-requires g c =
    let first = c.args.first.now in
    let all = first ∷ map (λ it. it.now) c.args.others.now in
    let tee = c.in_ok-composing.field-0 in
    let ends : Ends = record { documents = c.new-2.result; events = c.new-3.result } in
    let r = c.in_ok-composing.ensures first c.in-Ok.ensures.source (none-beside g.K.Keeper.holds c.in-Ok-new.empty c.args.keeper ends c.new-2.ensures.items c.new-3.ensures.items c.in-Ok-new.ensures c.requires) in
    (all, composer-holds g.K.Keeper.holds all tee c.put_streams.new.ends.documents.items r.holds_are)

pub returns-in-Ok-ranked_of-clause-shows : goal.returns-in-Ok-ranked_of-clause-shows
returns-in-Ok-ranked_of-clause-shows g c =
    let first = c.args.first.now in
    let all = first ∷ map (λ it. it.now) c.args.others.now in
    let tee = c.in_ok-composing.field-0 in
    let ends : Ends = record { documents = c.new-2.result; events = c.new-3.result } in
    let r = c.in_ok-composing.ensures first c.in-Ok.ensures.source (none-beside g.K.Keeper.holds c.in-Ok-new.empty c.args.keeper ends c.new-2.ensures.items c.new-3.ensures.items c.in-Ok-new.ensures c.requires) in
    c.in-Ok-ranked_of.ensures all (composer-holds g.K.Keeper.holds all tee c.put_streams.new.ends.documents.items r.holds_are)

pub returns-in-Ok-ranked_of-clause-kept : goal.returns-in-Ok-ranked_of-clause-kept
returns-in-Ok-ranked_of-clause-kept g c =
    let first = c.args.first.now in
    let all = first ∷ map (λ it. it.now) c.args.others.now in
    let tee = c.in_ok-composing.field-0 in
    let ends : Ends = record { documents = c.new-2.result; events = c.new-3.result } in
    let r = c.in_ok-composing.ensures first c.in-Ok.ensures.source (none-beside g.K.Keeper.holds c.in-Ok-new.empty c.args.keeper ends c.new-2.ensures.items c.new-3.ensures.items c.in-Ok-new.ensures c.requires) in
    keeps-streams g.K.Keeper.holds all tee c.put_streams.new.ends r
