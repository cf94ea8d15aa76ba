use Rattle.review_formats.proofs.markdown.put_more.Goals as goal

pub returns : goal.returns
returns c = record { ok = (rw c.left_out.ensures at c.put_between.ensures.ok) }
