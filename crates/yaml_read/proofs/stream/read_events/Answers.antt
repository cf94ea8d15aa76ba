use Rattle.std.proofs.Common.{◌≡◌, map, sym}
use Rattle.yaml_definitions.specs.model.Limits.{open_limit}
use Rattle.yaml_text.specs.EventModel.{event_of}
use Rattle.yaml_text.specs.Source.{text_of}
use Rattle.yaml_definitions.specs.grammar.Streams.{ReadsText}
use Rattle.yaml_definitions.specs.canonical.Spell.{spelled}
use Rattle.yaml_definitions.specs.canonical.Block.{blocked}
use Rattle.yaml_read.specs.Decided.{IsAlone}
use Rattle.yaml_read.proofs.StreamLemmas.{all_listed, if_made, made_or_wanting}
use Rattle.yaml_read.proofs.SpelledLemmas.{spelling_reads, block_reads, read_or_memory}
use Rattle.yaml_read.proofs.stream.read_events.Goals as goal

pub returns-in-Listed-clause-ok : goal.returns-in-Listed-clause-ok
returns-in-Listed-clause-ok c =
    let n = c.in_ok-read_into.ensures.ok in
    let held = all_listed c.new.result c.in-Listed.list c.read_into.new.out n.0 c.new.ensures c.in-Listed.is n.1 in
    if_made c.in-Listed.list n.0 held (ReadsText (text_of c.args.source.now) (Unit {0}) open_limit) c.settle.result c.settle.ensures.ok n.2

pub returns-in-Listed-clause-only : goal.returns-in-Listed-clause-only
returns-in-Listed-clause-only c =
    let n = c.in_ok-read_into.ensures.ok in
    let held = all_listed c.new.result c.in-Listed.list c.read_into.new.out n.0 c.new.ensures c.in-Listed.is n.1 in
    if_made c.in-Listed.list n.0 held (IsAlone (text_of c.args.source.now)) c.settle.result c.settle.ensures.ok n.3

pub returns-in-Listed-clause-spelling : goal.returns-in-Listed-clause-spelling
returns-in-Listed-clause-spelling c =
    let n = c.in_ok-read_into.ensures.ok in
    let held = all_listed c.new.result c.in-Listed.list c.read_into.new.out n.0 c.new.ensures c.in-Listed.is n.1 in
    λ f a t. made_or_wanting c.in-Listed.list n.0 held (spelled f) c.settle.result c.settle.ensures.ok c.settle.ensures.err (sym (n.3 (spelled f) (spelling_reads (text_of c.args.source.now) f a t)))

pub returns-in-Listed-clause-block : goal.returns-in-Listed-clause-block
returns-in-Listed-clause-block c =
    let n = c.in_ok-read_into.ensures.ok in
    let held = all_listed c.new.result c.in-Listed.list c.read_into.new.out n.0 c.new.ensures c.in-Listed.is n.1 in
    λ f a k l t. made_or_wanting c.in-Listed.list n.0 held (blocked f) c.settle.result c.settle.ensures.ok c.settle.ensures.err (sym (n.3 (blocked f) (block_reads (text_of c.args.source.now) f a k l t)))

pub returns-in_err-read_into-clause-spelling : goal.returns-in_err-read_into-clause-spelling
returns-in_err-read_into-clause-spelling c =
    let cs = text_of c.args.source.now in
    λ f a t. read_or_memory cs (λ events. map event_of events.items ≡ spelled f) c.from_residual.result _ (spelled f) c.from_residual.ensures.1 c.in_err-read_into.ensures.decides (spelling_reads cs f a t)

pub returns-in_err-read_into-clause-block : goal.returns-in_err-read_into-clause-block
returns-in_err-read_into-clause-block c =
    let cs = text_of c.args.source.now in
    λ f a k l t. read_or_memory cs (λ events. map event_of events.items ≡ blocked f) c.from_residual.result _ (blocked f) c.from_residual.ensures.1 c.in_err-read_into.ensures.decides (block_reads cs f a k l t)
