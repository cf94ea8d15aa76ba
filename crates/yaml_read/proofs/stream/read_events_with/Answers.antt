use Rattle.std.proofs.Common.{sym, ◌∙◌, subst}
use Rattle.yaml_definitions.specs.model.Limits.{open_limit}
use Rattle.yaml_text.specs.Source.{text_of}
use Rattle.yaml_definitions.specs.grammar.Streams.{ReadsText}
use Rattle.yaml_read.proofs.StreamLemmas.{all_beside}
use Rattle.yaml_read.proofs.stream.read_events_with.Goals as goal

pub returns-in_ok-events-in-Both-clause-ok : goal.returns-in_ok-events-in-Both-clause-ok
returns-in_ok-events-in-Both-clause-ok g c =
    let n = c.in_ok-read_into.ensures.ok in
    let h = all_beside g.K.Keeper.holds (record { list = c.new.result; keeper = c.args.keeper }) c.in-Both.both c.read_into.new.out n.0 c.new.ensures c.requires c.in-Both.is n.1 in
    subst (ReadsText (text_of c.args.source.now) (Unit {0}) open_limit) (sym (c.in_ok-events-in-Both.ensures.ok n.0 h.list)) n.2

pub returns-in_ok-events-in-Both-clause-only : goal.returns-in_ok-events-in-Both-clause-only
returns-in_ok-events-in-Both-clause-only g c =
    let n = c.in_ok-read_into.ensures.ok in
    let h = all_beside g.K.Keeper.holds (record { list = c.new.result; keeper = c.args.keeper }) c.in-Both.both c.read_into.new.out n.0 c.new.ensures c.requires c.in-Both.is n.1 in
    λ fs r. n.3 fs r ∙ sym (c.in_ok-events-in-Both.ensures.ok n.0 h.list)

pub returns-in_ok-events-in-Both-clause-kept : goal.returns-in_ok-events-in-Both-clause-kept
returns-in_ok-events-in-Both-clause-kept g c =
    let n = c.in_ok-read_into.ensures.ok in
    let h = all_beside g.K.Keeper.holds (record { list = c.new.result; keeper = c.args.keeper }) c.in-Both.both c.read_into.new.out n.0 c.new.ensures c.requires c.in-Both.is n.1 in
    subst (g.K.Keeper.holds c.in-Both.both.keeper) (sym (c.in_ok-events-in-Both.ensures.ok n.0 h.list)) h.keeper
