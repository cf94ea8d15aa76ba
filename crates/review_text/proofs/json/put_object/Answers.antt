use Rattle.std.proofs.Common.{◌++◌, codes, string_bytes, ◌∙◌, ap, append_assoc}
use Rattle.review_text.specs.Objects.{said_data}
use Rattle.review_text.proofs.LineLaws.{said_float, object_put}
use Rattle.review_text.proofs.json.put_object.Goals as goal

pub returns : goal.returns
returns c = record {
  ok = (
      let h = c.in_ok-push_str.ensures.bytes ∙ ap (λ z. z ++ codes "\n") c.in_ok-put_json.ensures.ok ∙ append_assoc (string_bytes c.args.out.now) _ (codes "\n") in
      object_put (λ m. (m.0.now, said_data m.1)) (λ m. said_float m.1) c.args.members.now _ _ _ _ c.in_ok-object_of.ensures.ok c.in_ok-line.ensures.text (rw c.as_str.ensures.value at h));
}
