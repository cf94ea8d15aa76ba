use Rattle.yaml_canon.specs.declared.streams.Ends.{Ends}
use Rattle.yaml_canon.proofs.StreamEnds.{reached-behind}
use Rattle.yaml_canon.proofs.streams.put_source.Goals as goal

pub returns : goal.returns
returns g c = λ bytes s before r.
    let ends : Ends = record { documents = c.push.new.self; events = c.push-2.new.self } in
    reached-behind g.K.Keeper.holds before bytes c.args.keeper c.in_ok-kept.kept c.count_documents.new.self c.args.ends.now ends c.in_ok-documents.documents c.mark.result r (c.in_ok-kept.ensures.takes bytes s) c.in_ok-documents.ensures.count c.in_ok-documents.ensures.keeps c.mark.ensures
    c.in_ok-push.ensures.items c.in_ok-push-2.ensures.items
