use Rattle.std.proofs.Common.{◌≡◌, subst, rules}
use Rattle.yaml_text.specs.Gathering.{Gathers, GatherFails}
use Rattle.yaml_canon.specs.FaultPlaces.{TellsPlace}
use Rattle.yaml_spell.proofs.PieceLaws.{if_err}
use Rattle.yaml_canon.proofs.PlacedLaws.{gather_elsewhere, read_place}
use Rattle.yaml_canon.proofs.run.run_canonical.Goals as goal

pub returns-in_err-bytes-clause-placed : goal.returns-in_err-bytes-clause-placed
returns-in_err-bytes-clause-placed g c =
    let f = gather_elsewhere g.R.Read.remaining c.args.input.now c.gather.new.input c.in_err-bytes.field-0.0
    (subst (λ n. GatherFails g.R.Read.remaining c.args.input.now c.gather.new.input n c.in_err-bytes.field-0.0) c.text_limit.ensures c.in_err-bytes.ensures.err) in
    search (rules, f)

pub returns-clause-placed : goal.returns-clause-placed
returns-clause-placed g c =
    let gathers = subst (λ n. Gathers g.R.Read.remaining c.args.input.now c.gather.new.input n c.in_ok-bytes.bytes.items) c.text_limit.ensures c.in_ok-bytes.ensures.ok in
    let same : c.deref.result.now ≡ c.in_ok-bytes.bytes.items = search rules in
    if_err c.write_canonical.result c.write_canonical.ensures.placed (λ fault h. read_place g.R.Read.remaining c.args.input.now c.gather.new.input c.in_ok-bytes.bytes.items fault gathers (subst (λ z. TellsPlace z fault) same h))
