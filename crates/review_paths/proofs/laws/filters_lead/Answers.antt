use Rattle.review_paths.proofs.LeadLaws.{filters_lead}
use Rattle.review_paths.proofs.laws.filters_lead.Goals as goal

pub returns : goal.returns
returns c = filters_lead
