use Rattle.yaml_text.specs.Source.{text_of, place_of}
use Rattle.yaml_layout.specs.declared.line.Line.{Line}
use Rattle.yaml_read.specs.StreamRules.{opened_by_directives}
use Rattle.yaml_sink.specs.SinkModel.{holds_of}
use Rattle.yaml_layout.proofs.AnswerLemmas.{appends_err}
use Rattle.yaml_mark.specs.HandlesModel.{bindings_of}
use Rattle.yaml_read.proofs.StreamLemmas.{directed, directives_refusal}
use Rattle.std.proofs.Common.{inr}
use Rattle.law_going_on.specs.GoingOn.{Here}
use Rattle.law_going_on.proofs.GoingOn.{rest_goes, rest_refused}
use Rattle.yaml_block.specs.DocumentCalls.{DocumentEnd}
use Rattle.yaml_read.proofs.DecidedLemmas.{decides_err, directed_fault, directed_unmarked, directed_rest}
use Rattle.yaml_read.proofs.LeftLemmas.{either}
use Rattle.yaml_read.proofs.stream.read_directed.Goals as goal

pub returns-in_err-handles-clause-reads : goal.returns-in_err-handles-clause-reads
returns-in_err-handles-clause-reads g c =
    let cs = text_of c.args.source.now in
    appends_err {X = Line} (λ _. opened_by_directives cs) (place_of c.args.source.now c.args.at) (λ line. place_of c.args.source.now line.start) (holds_of g.K.Keeper.holds) _ _ _ _ c.from_residual.ensures.1 (directives_refusal _ _ c.in_err-handles.ensures.refused)

pub returns-clause-reads : goal.returns-clause-reads
returns-clause-reads g c =
    let cs = text_of c.args.source.now in
    let n = c.in_ok-line-in-Some.ensures.reads in
    (n.0, n.1, directed cs (bindings_of c.in_ok-handles.handles) _ _ _ _ n.0 c.in_ok-handles.ensures.only.is c.in-Some.ensures.some.mark n.2)

pub returns-in_err-handles-clause-decides : goal.returns-in_err-handles-clause-decides
returns-in_err-handles-clause-decides g c =
    let s = c.args.source.now in
    let cs = text_of s in
    decides_err {X = Line} (opened_by_directives cs) (DocumentEnd cs) (place_of s c.args.at) Here (λ line. place_of s line.start) _ _ c.from_residual.ensures.1
    (directed_fault cs _ _ c.in_err-handles.ensures.refused)

pub returns-in-None-clause-decides : goal.returns-in-None-clause-decides
returns-in-None-clause-decides g c =
    inr (directed_unmarked (text_of c.args.source.now) _ _ _ c.in_ok-handles.ensures.only c.in-None.ensures.none)

pub returns-in_err-line-in-Some-clause-decides : goal.returns-in_err-line-in-Some-clause-decides
returns-in_err-line-in-Some-clause-decides g c =
    let s = c.args.source.now in
    let cs = text_of s in
    decides_err {X = Line} (opened_by_directives cs) (DocumentEnd cs) (place_of s c.args.at) Here (λ line. place_of s line.start) _ _ c.from_residual-in_err-line-in-Some.ensures.1
    (either (rest_refused (directed_rest cs _ _ _ (bindings_of c.in_ok-handles.handles) c.in_ok-handles.ensures.only.is c.in-Some.ensures.some.mark)) c.in_err-line-in-Some.ensures.decides)

pub returns-clause-decides : goal.returns-clause-decides
returns-clause-decides g c =
    rest_goes (directed_rest (text_of c.args.source.now) _ _ _ (bindings_of c.in_ok-handles.handles) c.in_ok-handles.ensures.only.is c.in-Some.ensures.some.mark) c.in_ok-line-in-Some.ensures.decides
