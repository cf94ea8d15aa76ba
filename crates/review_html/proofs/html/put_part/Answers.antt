use Rattle.review_html.proofs.TextLaws.{on_ok, part_put}
use Rattle.review_html.proofs.html.put_part.Goals as goal

pub returns : goal.returns
returns c = record {
  ok = (
      on_ok c.put_files.result (part_put c.args.number c.args.before c.number_of-side_number.result c.args.part.now c.deref.result.now _ _ _ _ c.number_of-side_number.ensures c.deref.ensures.value c.in_ok-put_file_front.ensures.ok c.in_ok-put_sections.ensures.ok)
      c.put_files.ensures.ok);
}
