use Rattle.std.proofs.Common.{◌≡◌, ◌∙◌, ℕ, take, length, ap, subst, arith, rules}
use Rattle.std.proofs.Math.Seq.{take-length}
use Rattle.std.specs.Prelude.{flat_map}
use Rattle.yaml_spell.specs.Writers.{Sent, CutOff}
use Rattle.yaml_command.proofs.LineLaws.{cut_at_piece}
use Rattle.yaml_command.proofs.line.send_pieces.Goals as goal

pub returns-in_err-write_whole-clause-err : goal.returns-in_err-write_whole-clause-err
returns-in_err-write_whole-clause-err g c =
    let f = cut_at_piece g.E.Write.contents (λ piece. piece.now) c.args.pieces.now c.pieces.piece-index _ c.args.err.now c.pieces.err c.write_whole.new.out c.in_err-write_whole.field-0.0 c.requires c.pieces-test.true c.pieces.invariant
    (subst (λ z. CutOff g.E.Write.contents c.pieces.err c.write_whole.new.out z c.in_err-write_whole.field-0.0) c.as_bytes.ensures.value c.in_err-write_whole.ensures.err) in
    search (rules, f)

pub returns-clause-ok : goal.returns-clause-ok
returns-clause-ok g c =
    let xs = c.args.pieces.now in
    let end : c.pieces.piece-index ≡ length xs = omega (arith, c.pieces-test.false, c.pieces.auto.piece-index-end) in
    let all : flat_map (λ piece. piece.now) (take c.pieces.piece-index xs) ≡ flat_map (λ piece. piece.now) xs = ap (λ n. flat_map (λ piece. piece.now) (take n xs)) end ∙ ap (flat_map (λ piece. piece.now)) (take-length xs) in
    subst (Sent g.E.Write.contents c.args.err.now c.pieces.err) all c.pieces.invariant
