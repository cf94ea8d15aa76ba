use Rattle.yaml_conflicts.proofs.StreamLaws.{StreamWalked}
use Rattle.yaml_conflicts.proofs.streams.of_documents.Given as goal

abbrev pub invariant-loop-place : goal.invariant-loop-place
invariant-loop-place l = StreamWalked l.forests l.given l.roots l.place l.found
