use Rattle.std.specs.String.{string_bytes}
use Rattle.review_html.proofs.TextLaws.{page_put}
use Rattle.review_html.proofs.html.html_text.Goals as goal

pub returns : goal.returns
returns c = record {
  ok = (
      page_put c.args.found.now (string_bytes c.new-out.result) (string_bytes c.push_str.new.self) (string_bytes c.put_title.new.out) (string_bytes c.push_str-2.new.self) (string_bytes c.push_str-3.new.self)
      (string_bytes c.put_header.new.out) (string_bytes c.put_links.new.out) (string_bytes c.push_str-4.new.self) (string_bytes c.put_parts.new.out) (string_bytes c.push_str-5.new.self)
      c.new-out.ensures.bytes c.in_ok-push_str.ensures.bytes c.in_ok-put_title.ensures.ok c.in_ok-push_str-2.ensures.bytes c.in_ok-push_str-3.ensures.bytes c.in_ok-put_header.ensures.ok
      (rw c.deref.ensures.value at c.in_ok-put_links.ensures.ok) c.in_ok-push_str-4.ensures.bytes (rw c.deref-2.ensures.value at c.in_ok-put_parts.ensures.ok) c.in_ok-push_str-5.ensures.bytes);
}
