use Rattle.std.proofs.Common.{arith}
use Rattle.yaml_definitions.specs.model.Event.{document_start}
use Rattle.yaml_store_composer.proofs.DueLaws.{tells-outside}
use Rattle.yaml_store_composer.proofs.pending.PendingProperties.document.Goals as goal

pub returns : goal.returns
returns c = λ explicit.
    let mid = c.go_on.new.self in
    record {
      is = λ log t.
          tells-outside mid.judged c.document.new.self mid.ended mid.opens.items mid.early (document_start explicit) c.in_ok-go_on.ensures.none (omega (arith, c.len.ensures, mid.opens.ok.0, c.if-len-gt0.false)) (c.in_ok-document.ensures explicit) log (c.in_ok-go_on.ensures.tells log t);
    }
