use Rattle.std.proofs.Common.{◌++◌, Some, codes, string_bytes, ◌∙◌, ap, append_assoc}
use Rattle.review_faults.specs.Labels.{label_of}
use Rattle.review_faults.specs.Says.{label_text}
use Rattle.review_faults.proofs.equal_keys.put_quoted.Goals as goal

pub returns : goal.returns
returns c = record {
  ok = (
      let text = label_text (Some (label_of c.args.label)) in
      let out = string_bytes c.args.out.now in
      let mark = codes "`" in
      c.in_ok-push_str-2.ensures.bytes ∙ ap (λ z. z ++ mark) (c.in_ok-put_label.ensures.ok ∙ ap (λ z. z ++ text) c.in_ok-push_str.ensures.bytes)
      ∙ append_assoc (out ++ mark) text mark ∙ append_assoc out mark (text ++ mark));
}
