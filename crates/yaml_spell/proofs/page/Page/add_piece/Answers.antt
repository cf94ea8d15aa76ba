use Rattle.std.proofs.Common.{◌++◌, sym, ap, subst, ◌∙◌, rules}
use Rattle.yaml_spell.specs.Stops.{fault_of}
use Rattle.yaml_spell.specs.Pieces.{Misses}
use Rattle.yaml_spell.specs.Pages.{PageHolds, PageStops}
use Rattle.yaml_spell.specs.Quoted.{next_text, piece_text}
use Rattle.yaml_spell.proofs.PieceLaws.{if_err, misses_more, misses_later}
use Rattle.yaml_spell.proofs.page.Page.add_piece.Goals as goal

pub returns-in_err-add-clause-err : goal.returns-in_err-add-clause-err
returns-in_err-add-clause-err g c =
    let p = c.args.piece.now in
    let m = misses_more (PageHolds g.W.Write.contents) (PageStops g.W.Write.contents) c.args.self.now c.args.out.now c.add.new.out (fault_of c.in_err-add.field-0.0) c.as_bytes.result.now (next_text p.next) (piece_text p) c.in_err-add.ensures.err
    (ap (λ z. z ++ next_text p.next) c.as_bytes.ensures.value) in
    search (rules, m)

pub returns-clause-err : goal.returns-clause-err
returns-clause-err g c =
    let holds = PageHolds g.W.Write.contents in
    let stops = PageStops g.W.Write.contents in
    let p = c.args.piece.now in
    if_err c.add-2.result c.add-2.ensures.err (λ stop h.
    subst (Misses holds stops c.args.self.now c.args.out.now c.add-2.new.out (fault_of stop)) ((λ i. c.as_bytes.ensures.value i ++ c.spelled_char-len.ensures.text i) ∙ ap (λ z. p.run.now ++ next_text z) (sym c.in-Some.is))
    (misses_later holds stops c.args.self.now c.args.out.now c.add.new.self c.add.new.out c.add-2.new.out (fault_of stop) c.as_bytes.result.now _ c.in_ok-add.ensures.ok h))
