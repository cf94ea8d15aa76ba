use Rattle.std.proofs.Common.{◌++◌, ◌∙◌, ap}
use Rattle.std.specs.Prelude.{codes}
use Rattle.std.specs.String.{string_bytes}
use Rattle.review_formats.proofs.PieceLaws.{then_ok}
use Rattle.review_html.specs.Headings.{mark_text, name_text, rule_text}
use Rattle.review_html.proofs.heading.put_heading.Goals as goal

pub returns : goal.returns
returns c = record {
  ok = (
      let one = c.args.finding.now in
      let r = c.put_rule.result in
      let first = string_bytes c.push_str.new.self in
      let second = string_bytes c.push_str-2.new.self in
      let third = string_bytes c.push_str-3.new.self in
      let named = string_bytes c.put_name.new.out in
      let last = string_bytes c.push_str-4.new.self in
      let end = string_bytes c.put_rule.new.out in
      let behind_name = codes "</code>" ++ rule_text one in
      let behind_mark = codes "</span> <code>" ++ (name_text one ++ behind_name) in
      then_ok r (string_bytes c.args.out.now) first end (codes "<span class=\"mark\">") (mark_text one ++ behind_mark) c.in_ok-push_str.ensures.bytes
      (then_ok r first second end (mark_text one) behind_mark (c.in_ok-push_str-2.ensures.bytes ∙ ap (λ z. first ++ z) c.mark_of.ensures)
      (then_ok r second third end (codes "</span> <code>") (name_text one ++ behind_name) c.in_ok-push_str-3.ensures.bytes
      (then_ok r third named end (name_text one) behind_name c.in_ok-put_name.ensures.ok
      (then_ok r named last end (codes "</code>") (rule_text one) c.in_ok-push_str-4.ensures.bytes c.put_rule.ensures.ok)))));
}
