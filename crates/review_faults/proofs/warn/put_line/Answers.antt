use Rattle.std.proofs.Common.{◌++◌, ◌∙◌, ap}
use Rattle.std.specs.String.{string_bytes}
use Rattle.review_text.specs.Shown.{front}
use Rattle.review_text.specs.Terminal.{terminal}
use Rattle.review_text.proofs.Pieces.{six_put}
use Rattle.review_faults.proofs.warn.put_line.Goals as goal

pub returns : goal.returns
returns c = record {
  ok = (
      let shown = c.in_ok-put_shown.ensures.ok ∙ ap (λ z. string_bytes c.push_str.new.self ++ terminal z) (c.front.ensures ∙ ap (front 60) c.deref.ensures) in
      let said = c.in_ok-push_str-3.ensures.bytes ∙ ap (λ z. string_bytes c.push_str-2.new.self ++ z) c.deref-2.ensures in
      six_put _ _ _ _ _ _ _ _ _ _ _ _ _ c.in_ok-put_head.ensures.ok c.in_ok-push_str.ensures.bytes shown c.in_ok-push_str-2.ensures.bytes said c.in_ok-push_str-4.ensures.bytes);
}
