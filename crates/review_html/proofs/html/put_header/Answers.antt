use Rattle.std.proofs.Common.{◌++◌, ◌∙◌, ap, length}
use Rattle.std.specs.Prelude.{codes}
use Rattle.std.specs.String.{string_bytes}
use Rattle.review_formats.specs.Findings.{count_of}
use Rattle.review_formats.proofs.PieceLaws.{two_put}
use Rattle.review_html.specs.Html.{header_names, count_text, more_text}
use Rattle.review_html.proofs.html.put_header.Goals as goal

pub returns : goal.returns
returns c = record {
  ok = (
      let found = c.args.found.now in
      let parts = found.parts.items in
      let a = string_bytes c.push_str.new.self in
      let b = string_bytes c.push_str-2.new.self in
      let d = string_bytes c.push_str-3.new.self in
      let e = string_bytes c.put_header_names.new.out in
      let f = string_bytes c.put_count.new.out in
      let g = string_bytes c.put_more.new.out in
      let end = string_bytes c.push_str-4.new.self in
      let r6 = codes "</header>\n" in
      let r5 = more_text parts ++ r6 in
      let r4 = count_text (count_of parts) (length parts) ++ r5 in
      let r3 = header_names found.names ++ r4 in
      let r2 = codes "</h1>\n" ++ r3 in
      two_put (string_bytes c.args.out.now) a end (codes "<header><h1>yamlreview ") (found.command.now ++ r2) c.in_ok-push_str.ensures.bytes
      (two_put a b end found.command.now r2 c.in_ok-push_str-2.ensures.bytes
      (two_put b d end (codes "</h1>\n") r3 c.in_ok-push_str-3.ensures.bytes
      (two_put d e end (header_names found.names) r4 c.in_ok-put_header_names.ensures.ok
      (two_put e f end (count_text (count_of parts) (length parts)) r5 (c.in_ok-put_count.ensures.ok ∙ ap (λ z. e ++ count_text z c.part_count.result) c.count.ensures ∙ ap (λ z. e ++ count_text (count_of parts) z) c.part_count.ensures)
      (two_put f g end (more_text parts) r6 c.in_ok-put_more.ensures.ok c.in_ok-push_str-4.ensures.bytes))))));
}
