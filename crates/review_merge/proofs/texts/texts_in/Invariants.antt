use Rattle.std.proofs.Common.{◌≡◌, take}
use Rattle.review_merge.specs.Parts.{values_in, node_texts}
use Rattle.review_merge.proofs.texts.texts_in.Given as goal

abbrev pub invariant-nodes : goal.invariant-nodes
invariant-nodes l = values_in l.texts.items ≡ node_texts l.forests l.room (take l.node-index l.nodes)
