use Rattle.yaml_json.proofs.Collections.{text_read}
use Rattle.yaml_json.proofs.Lengths.{goes_smaller}
use Rattle.yaml_json.proofs.OneEnd.{text_read_only}
use Rattle.yaml_json.proofs.text.is_json.Goals as goal

pub values-init : goal.values-init
values-init c =
    record {
      reads = text_read _ _ _ c.new-around.ensures.items c.as_bytes-bytes.ensures.value;
      only = text_read_only _ _ _ c.new-around.ensures.items c.as_bytes-bytes.ensures.value;
    }

pub values-smaller : goal.values-smaller
values-smaller c = goes_smaller _ _ c.in_ok-next.ensures.less c.in-Value.is
