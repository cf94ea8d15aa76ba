use Rattle.law_store_keys.proofs.Refusals.{refused-is-first, first-is-refused, refuses-first, composed-nodes, composed-count, joined-nodes}
use Rattle.law_store_keys.proofs.laws.graphs_refuse_first_repeat.Goals as goal

pub returns-clause-graph : goal.returns-clause-graph
returns-clause-graph c = λ g n i j. (refused-is-first g n i j, first-is-refused g n i j)

pub returns-clause-stream : goal.returns-clause-stream
returns-clause-stream c = λ ds ts g u composed. refuses-first g _ (composed-nodes ds ts g u composed)

pub returns-clause-joined : goal.returns-clause-joined
returns-clause-joined c = λ ds es ts us a b both u w composed other joined. refuses-first both _ (joined-nodes ds es ts us a b both u w composed other joined)

pub returns-clause-count : goal.returns-clause-count
returns-clause-count c = composed-count
