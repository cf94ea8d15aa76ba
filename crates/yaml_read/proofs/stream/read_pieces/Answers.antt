use Rattle.std.proofs.Common.{◌≡◌, [], ◌∷◌, ◌++◌, refl, sym, ap, subst, true, false, not, ◌⊎◌, inl, inr}
use Rattle.std.proofs.lemmas.Bool.{false≢true}
use Rattle.yaml_definitions.specs.model.Event.{stream_start}
use Rattle.yaml_text.specs.Source.{text_of, place_of}
use Rattle.yaml_layout.proofs.AnswerLemmas.{puts_on, puts_none}
use Rattle.yaml_read.specs.Sofar.{document_closing, IsSofar}
use Rattle.yaml_read.proofs.SofarLaws.{sofar_start, sofar_suffix, sofar_explicit, sofar_bare, sofar_directives, sofar_end}
use Rattle.yaml_read.proofs.StreamLemmas.{mark_suffix, mark_explicit, after_comments}
use Rattle.yaml_text.specs.declared.fault.Fault.TheVariants.{OutOfMemory}
use Rattle.yaml_read.specs.Decided.{HasNoReading}
use Rattle.yaml_read.proofs.DecidedLemmas.{if_err}
use Rattle.yaml_read.proofs.LeftLemmas.{Leaves, either, leaves_start, leaves_suffix, none_suffix, leaves_marked, none_marked, leaves_first, none_first, none_second}
use Rattle.yaml_read.proofs.stream.read_pieces.Goals as goal

pub pieces-init : goal.pieces-init
pieces-init g c =
    let cs = text_of c.args.source.now in (
      ([], puts_none _, sofar_start cs _ c.first_line-line.ensures.comments),
      c.first_line-line.ensures.line,
      λ q. c.first_line-line.ensures.after,
      leaves_start cs _ c.first_line-line.ensures.comments c.first_line-line.ensures.line.stuck,
    )

pub returns-in-End-clause-ok : goal.returns-in-End-clause-ok
returns-in-End-clause-ok g c =
    let v = c.pieces.invariant.0 in
    let last = document_closing c.pieces.is_open false in
    (v.0 ++ last, puts_on c.args.out.now c.pieces.out _ v.0 last v.1 c.in_ok-close-in-End.ensures.ok, sofar_end (text_of c.args.source.now) c.pieces.is_open _ (stream_start ∷ v.0) _ v.2 c.in-End.ensures refl)

pub pieces-preserved-in-Suffix : goal.pieces-preserved-in-Suffix
pieces-preserved-in-Suffix g c =
    let cs = text_of c.args.source.now in
    let v = c.pieces.invariant.0 in
    let n = c.in_ok-line-in-Suffix.ensures in
    let last = document_closing c.pieces.is_open true in (
      (
        v.0 ++ last,
        puts_on c.args.out.now c.pieces.out _ v.0 last v.1 c.in_ok-close-in-Suffix.ensures.ok,
        sofar_suffix cs c.pieces.is_open _ _ (stream_start ∷ v.0) _ v.2 (mark_suffix cs _ _ _ c.in-Suffix.ensures.mark n.comments) refl,
      ),
      n.line,
      λ q. after_comments cs _ _ n.comments,
      leaves_suffix cs _ _ _ c.in-Suffix.ensures.mark n.comments n.line.stuck c.pieces.invariant.3,
    )

pub pieces-preserved-in-Explicit : goal.pieces-preserved-in-Explicit
pieces-preserved-in-Explicit g c =
    let cs = text_of c.args.source.now in
    let v = c.pieces.invariant.0 in
    let n = c.in_ok-line-in-Explicit.ensures in
    let d = mark_explicit cs [] _ _ _ n.reads.0 c.in-Explicit.ensures.mark n.reads.2 in
    let last = document_closing c.pieces.is_open false in (
      (
        (v.0 ++ last) ++ n.reads.0,
        puts_on c.args.out.now c.close-in-Explicit.new.out _ (v.0 ++ last) n.reads.0 (puts_on c.args.out.now c.pieces.out _ v.0 last v.1 c.in_ok-close-in-Explicit.ensures.ok) n.reads.1,
        sofar_explicit cs c.pieces.is_open _ _ d.0 (stream_start ∷ v.0) _ v.2 d.1 (ap (λ x. stream_start ∷ ((v.0 ++ last) ++ x)) d.2),
      ),
      n.line,
      λ q. absurd (false≢true (sym q)),
      leaves_marked cs _ _ _ c.in-Explicit.ensures.mark n.decides c.pieces.invariant.3,
    )

pub pieces-preserved : goal.pieces-preserved
pieces-preserved g c =
    let cs = text_of c.args.source.now in
    let v = c.pieces.invariant.0 in
    let n = c.in_ok-line-in-Content.ensures in
    let sofar = subst (λ b. IsSofar cs b (place_of c.args.source.now c.pieces.line.start) (stream_start ∷ v.0)) c.if-is_open.false v.2 in (
      (
        v.0 ++ n.reads.0,
        puts_on c.args.out.now c.pieces.out _ v.0 n.reads.0 v.1 n.reads.1,
        elim n.reads.2 [
          | inl d ↦ sofar_bare cs _ _ d.0 (stream_start ∷ v.0) _ sofar d.1 (ap (λ x. stream_start ∷ (v.0 ++ x)) d.2)
          | inr d ↦ sofar_directives cs _ _ d.0 (stream_start ∷ v.0) _ sofar d.1 (ap (λ x. stream_start ∷ (v.0 ++ x)) d.2)
        ],
      ),
      n.line,
      λ q. absurd (false≢true (sym q)),
      leaves_first cs _ _ c.in-Content.ensures n.decides c.pieces.invariant.3,
    )

pub returns-in_err-line-in-Suffix-clause-decides : goal.returns-in_err-line-in-Suffix-clause-decides
returns-in_err-line-in-Suffix-clause-decides g c =
    let cs = text_of c.args.source.now in
    if_err (λ e. (e ≡ OutOfMemory) ⊎ HasNoReading cs) _ _ c.from_residual-in_err-line-in-Suffix.ensures.1
    (inr (none_suffix cs _ _ c.in-Suffix.ensures.mark c.in_err-line-in-Suffix.ensures.none c.pieces.invariant.3))

pub returns-in_err-line-in-Explicit-clause-decides : goal.returns-in_err-line-in-Explicit-clause-decides
returns-in_err-line-in-Explicit-clause-decides g c =
    let cs = text_of c.args.source.now in
    if_err (λ e. (e ≡ OutOfMemory) ⊎ HasNoReading cs) _ _ c.from_residual-in_err-line-in-Explicit.ensures.1
    (either (λ n. none_marked cs _ _ c.in-Explicit.ensures.mark n c.pieces.invariant.3) c.in_err-line-in-Explicit.ensures.decides)

pub returns-then-is_open-clause-decides : goal.returns-then-is_open-clause-decides
returns-then-is_open-clause-decides g c =
    let cs = text_of c.args.source.now in
    inr (none_second cs _ c.in-Content.ensures (subst (λ b. Leaves cs (not b) (place_of c.args.source.now c.pieces.line.start)) c.if-is_open.true c.pieces.invariant.3))

pub returns-in_err-line-in-Content-clause-decides : goal.returns-in_err-line-in-Content-clause-decides
returns-in_err-line-in-Content-clause-decides g c =
    let cs = text_of c.args.source.now in
    if_err (λ e. (e ≡ OutOfMemory) ⊎ HasNoReading cs) _ _ c.from_residual-in_err-line-in-Content.ensures.1
    (either (λ n. none_first cs _ c.in-Content.ensures n c.pieces.invariant.3) c.in_err-line-in-Content.ensures.decides)
