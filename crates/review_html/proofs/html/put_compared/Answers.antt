use Rattle.review_html.proofs.html.put_compared.Goals as goal

pub returns : goal.returns
returns c = record { ok = (rw (c.text.ensures, c.text-2.ensures) at c.put_pieces.ensures.ok) }
