use Rattle.review_faults.proofs.SpotLaws.{told_cause}
use Rattle.review_faults.proofs.spots.words_at.Goals as goal

pub returns-in-None : goal.returns-in-None
returns-in-None c = record { ok = (told_cause c.args.text.now c.args.fault c.args.at c.args.own c.words_of.result c.in-None.is c.words_of.ensures.line c.words_of.ensures.limit c.words_of.ensures.hint) }
