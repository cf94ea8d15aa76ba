use Rattle.yaml_pair.proofs.partners.note.Goals as goal

pub returns : goal.returns
returns c = record { ok = (λ q. c.in_ok-insert.ensures.updates.0 q) }
