use Rattle.review_paths.proofs.LeadLaws.{pointers_lead}
use Rattle.review_paths.proofs.laws.pointers_lead.Goals as goal

pub returns : goal.returns
returns c = pointers_lead
