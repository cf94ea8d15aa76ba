use Rattle.yaml_canon.proofs.PlaceLaws.{placed-answer, placed-spelling}
use Rattle.yaml_canon.proofs.placing.canonical_into.Goals as goal

pub returns-clause-accepts : goal.returns-clause-accepts
returns-clause-accepts c =
    placed-answer c.args.bytes.now c.args.room.now c.place_canonical.new.room c.place_canonical.result c.place_canonical.ensures.text c.place_canonical.ensures.refused

pub returns-clause-spelling : goal.returns-clause-spelling
returns-clause-spelling c =
    placed-spelling c.args.bytes.now c.args.room.now c.place_canonical.new.room c.place_canonical.result (returns-clause-accepts c)
