use Rattle.std.specs.String.{string_bytes}
use Rattle.review_html.proofs.TextLaws.{files_put}
use Rattle.review_html.proofs.lines.put_files.Goals as goal

pub returns : goal.returns
returns c = record {
  ok = (
      rw c.in-Some.is
      (files_put c.args.number c.args.part.now.list.items c.args.before c.in-Some.left c.in-Some.right (string_bytes c.args.out.now) (string_bytes c.push_str.new.self) (string_bytes c.put_lines.new.out) (string_bytes c.put_lines-2.new.out) (string_bytes c.push_str-2.new.self)
      c.in_ok-push_str.ensures.bytes (rw (c.left_of.ensures, c.deref.ensures.value) at c.in_ok-put_lines.ensures.ok) (rw (c.right_of.ensures, c.deref-2.ensures.value) at c.in_ok-put_lines-2.ensures.ok) c.in_ok-push_str-2.ensures.bytes));
}
