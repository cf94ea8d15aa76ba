use Rattle.std.proofs.Common.{arith}
use Rattle.yaml_definitions.specs.model.Serial.{stream_events}
use Rattle.yaml_tree_builder.specs.Reached.{all_events}
use Rattle.yaml_store_composer.proofs.DueLaws.{tells-all}
use Rattle.yaml_store_composer.proofs.pending.PendingProperties.documents.Goals as goal

pub returns-clause-count : goal.returns-clause-count
returns-clause-count c = λ ds t.
    let mid = c.go_on.new.self in
    c.documents.ensures.count ds (tells-all mid.judged mid.ended mid.opens.items mid.early (stream_events ds) c.in_ok-go_on.ensures.none (omega (arith, c.len.ensures, mid.opens.ok.0, c.if-len-gt0.false)) (c.in_ok-go_on.ensures.tells (stream_events ds) t))

pub returns-clause-streams : goal.returns-clause-streams
returns-clause-streams c = λ dss t.
    let mid = c.go_on.new.self in
    let all = all_events dss in
    c.documents.ensures.streams dss (tells-all mid.judged mid.ended mid.opens.items mid.early all c.in_ok-go_on.ensures.none (omega (arith, c.len.ensures, mid.opens.ok.0, c.if-len-gt0.false)) (c.in_ok-go_on.ensures.tells all t))

pub returns-clause-refused : goal.returns-clause-refused
returns-clause-refused c = λ ds t.
    let mid = c.go_on.new.self in
    c.documents.ensures.refused ds (tells-all mid.judged mid.ended mid.opens.items mid.early (stream_events ds) c.in_ok-go_on.ensures.none (omega (arith, c.len.ensures, mid.opens.ok.0, c.if-len-gt0.false)) (c.in_ok-go_on.ensures.tells (stream_events ds) t))
