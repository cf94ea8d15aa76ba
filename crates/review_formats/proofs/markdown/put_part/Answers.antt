use Rattle.std.proofs.Common.{true, false, ◌++◌, ◌∙◌, ap}
use Rattle.std.specs.List.{flat_map}
use Rattle.std.specs.String.{string_bytes}
use Rattle.review_formats.specs.Markdown.{name_text, table_text, changes_text}
use Rattle.review_formats.proofs.PieceLaws.{then_ok}
use Rattle.review_formats.proofs.markdown.put_part.Goals as goal

pub returns : goal.returns
returns c = record {
  ok = (
      let list = c.args.part.now.list.items in
      let result = c.put_all_changes.result in
      let start = string_bytes c.args.out.now in
      let named = string_bytes c.put_name.new.out in
      let first = string_bytes c.put_table.new.out in
      let second = string_bytes c.put_table-2.new.out in
      let end = string_bytes c.put_all_changes.new.out in
      then_ok result start named end (name_text c.args.part.now.name) (table_text true list ++ (table_text false list ++ flat_map changes_text list)) c.in_ok-put_name.ensures.ok
      (then_ok result named first end (table_text true list) (table_text false list ++ flat_map changes_text list) (c.in_ok-put_table.ensures.ok ∙ ap (λ z. named ++ table_text true z) c.deref.ensures.value)
      (then_ok result first second end (table_text false list) (flat_map changes_text list) (c.in_ok-put_table-2.ensures.ok ∙ ap (λ z. first ++ table_text false z) c.deref-2.ensures.value)
      (rw c.deref-3.ensures.value at c.put_all_changes.ensures.ok))));
}
