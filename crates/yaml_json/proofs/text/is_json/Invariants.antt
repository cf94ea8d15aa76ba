use Rattle.yaml_json.specs.Json.{IsJson}
use Rattle.yaml_json.specs.Reading.{GoesOn, left}
use Rattle.yaml_json.proofs.text.is_json.Given as goal

abbrev pub invariant-values : goal.invariant-values
invariant-values l =
    record {
      reads : GoesOn l.around.items l.next → IsJson l.fn.text;
      only : IsJson l.fn.text → GoesOn l.around.items l.next;
    }

abbrev pub decreases-values : goal.decreases-values
decreases-values l = left l.next
