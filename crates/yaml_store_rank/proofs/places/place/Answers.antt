use Rattle.std.proofs.Common.{get_or}
use Rattle.std.proofs.lemmas.Map.Lookups.{exact_bytes}
use Rattle.yaml_tree.proofs.Numbering.{get-there}
use Rattle.yaml_tree.proofs.TagLaws.{never-missed}
use Rattle.yaml_store_rank.proofs.places.place.Goals as goal

pub returns-in-Ok-clause-at : goal.returns-in-Ok-clause-at
returns-in-Ok-clause-at c =
    let tags = c.args.ordered.now in
    let t = get_or tags c.in-Ok.place c.args.tag in
    (t, get-there tags c.in-Ok.place c.args.tag c.in-Ok.ensures.bound, exact_bytes t.now c.args.tag.now (c.in-Ok.ensures.ok c.args.tag))

pub returns-in-Err-clause-at : goal.returns-in-Err-clause-at
returns-in-Err-clause-at c = absurd (never-missed c.args.ordered.now c.requires.rise c.args.tag c.requires.among c.in-Err.place c.in-Err.ensures.position)

pub returns-in-Err-clause-within : goal.returns-in-Err-clause-within
returns-in-Err-clause-within c = absurd (never-missed c.args.ordered.now c.requires.rise c.args.tag c.requires.among c.in-Err.place c.in-Err.ensures.position)
