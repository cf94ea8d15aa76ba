use Rattle.std.proofs.Common.{◌++◌, codes, string_bytes, ◌∙◌, ap, append_assoc}
use Rattle.yaml_text.specs.EventModel.{event_of}
use Rattle.review_faults.specs.EventSpots.{advice, at_line, key_name}
use Rattle.review_faults.specs.Labels.{node_of}
use Rattle.review_faults.proofs.equal_keys.equal_key_words.Goals as goal

pub returns : goal.returns
returns c = record {
  ok = (
      let label = node_of (event_of c.args.event.now) in
      let name = key_name label in
      let middle = codes " is in this mapping already" in
      let line = at_line c.args.first in
      let end = advice c.args.around label in
      let named = c.in_ok-put_name.ensures.ok ∙ ap (λ z. z ++ name) c.new-out.ensures.bytes in
      let placed = c.in_ok-put_line.ensures.ok ∙ ap (λ z. z ++ line) (c.in_ok-push_str.ensures.bytes ∙ ap (λ z. z ++ middle) named) in
      c.in_ok-push_str-2.ensures.bytes ∙ ap (λ z. string_bytes c.put_line.new.out ++ z) c.advice.ensures ∙ ap (λ z. z ++ end) placed
      ∙ append_assoc (name ++ middle) line end ∙ append_assoc name middle (line ++ end));
}
