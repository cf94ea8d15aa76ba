use Rattle.std.proofs.Common.{inl, inr}
use Rattle.yaml_definitions.specs.grammar.Rules.{◌∪◌}
use Rattle.yaml_sink.specs.SinkModel.{holds_of}
use Rattle.yaml_layout.proofs.AnswerLemmas.{appends_by}
use Rattle.yaml_read.specs.StreamRules.{opened_bare, opened_by_directives}
use Rattle.law_going_on.specs.GoingOn.{Here}
use Rattle.yaml_text.specs.Source.{text_of, place_of}
use Rattle.yaml_read.proofs.DecidedLemmas.{decides_rest, first_directed, first_bare}
use Rattle.yaml_read.proofs.stream.read_first.Goals as goal

pub returns-in-Some-clause-reads : goal.returns-in-Some-clause-reads
returns-in-Some-clause-reads g c =
    let s = c.args.source.now in
    let cs = text_of s in
    let i = place_of s c.args.line.start in
    appends_by (λ _. opened_by_directives cs) (λ _. opened_bare cs ∪ opened_by_directives cs) i i (λ line. place_of s line.start) (holds_of g.K.Keeper.holds) _ _ c.read_directed.result (λ x es r. inr r) c.read_directed.ensures.reads

pub returns-in-None-clause-reads : goal.returns-in-None-clause-reads
returns-in-None-clause-reads g c =
    let s = c.args.source.now in
    let cs = text_of s in
    let i = place_of s c.args.line.start in
    appends_by (λ _. opened_bare cs) (λ _. opened_bare cs ∪ opened_by_directives cs) i i (λ line. place_of s line.start) (holds_of g.K.Keeper.holds) _ _ c.read_unmarked.result (λ x es r. inl r) c.read_unmarked.ensures.reads

pub returns-in-Some-clause-decides : goal.returns-in-Some-clause-decides
returns-in-Some-clause-decides g c =
    let s = c.args.source.now in
    decides_rest Here (λ line. place_of s line.start) c.read_directed.result (first_directed (text_of s) _ c.requires.start c.requires.line.stuck c.in-Some.ensures.some.is) c.read_directed.ensures.decides

pub returns-in-None-clause-decides : goal.returns-in-None-clause-decides
returns-in-None-clause-decides g c =
    let s = c.args.source.now in
    decides_rest Here (λ line. place_of s line.start) c.read_unmarked.result (first_bare (text_of s) _ c.in-None.ensures.none) c.read_unmarked.ensures.decides
