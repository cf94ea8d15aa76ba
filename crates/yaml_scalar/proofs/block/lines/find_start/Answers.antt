use Rattle.std.proofs.Common.{◌+◌, inl, arith, subst, sym}
use Rattle.yaml_text.specs.Source.{text_of, place_of}
use Rattle.yaml_text.proofs.LineRuns.{after_uncut}
use Rattle.yaml_text.proofs.Breaks.{starts_line}
use Rattle.yaml_text.proofs.Tests.{on_true_at, on_false_at}
use Rattle.yaml_scalar.proofs.StartLemmas.{Searched, search_start, search_more, no_space_at, found_end, found_mark, found_less, found_line, not_found, solid_line, solid_end, searched_empty}
use Rattle.yaml_scalar.proofs.block.lines.find_start.Goals as goal
use Rattle.yaml_scalar.proofs.block.lines.find_start.Goals.{then-stands_mark-via-then-stands_mark, then-stands_mark-via-else-stands_mark+then-width-col}

pub lines-init : goal.lines-init
lines-init c = record {
  border = c.requires.border;
  onward = omega arith;
  after = c.requires.after;
  searched = search_start (text_of c.args.source.now) c.args.col (place_of c.args.source.now c.args.at);
}

pub lines-preserved : goal.lines-preserved
lines-preserved c =
    let cs = text_of c.args.source.now in
    let v = c.lines.invariant in
    let s = c.skip_spaces-width.ensures in
    let b = c.in-Some.ensures in
    record {
      border = b.border;
      onward = omega (arith, v.onward, s.onward, b.onward);
      after = inl (starts_line cs _ _ b.some);
      searched = subst (λ m. Searched cs c.args.col (place_of c.args.source.now c.args.at) (place_of c.args.source.now c.in-Some.to) m (c.lines.empty + 1)) (sym c.max-longest.ensures)
          (search_more cs _ _ _ _ _ _ _ _ v.searched s.spaces (after_uncut cs _ v.after) b.some);
    }

pub returns-in-None-next-clause-indentation : goal.returns-in-None-next-clause-indentation
returns-in-None-next-clause-indentation c =
    found_end (text_of c.args.source.now) _ _ _ _ _ _ _ _ c.lines.invariant.searched c.skip_spaces-width.ensures.spaces c.in-None-next.ensures.end c.max.ensures

pub returns-in-None-next-clause-empty : goal.returns-in-None-next-clause-empty
returns-in-None-next-clause-empty c =
    searched_empty (text_of c.args.source.now) _ _ _ _ _ _ c.lines.invariant.searched (omega (arith, c.max.ensures))

pub returns-in-None-next-clause-ready : goal.returns-in-None-next-clause-ready
returns-in-None-next-clause-ready c =
    solid_end (text_of c.args.source.now) _ _ _ _ c.skip_spaces-width.ensures.spaces (omega (arith, c.max.ensures)) c.in-None-next.ensures.end

pub returns-then-stands_mark-clause-empty : goal.returns-then-stands_mark-clause-empty
returns-then-stands_mark-clause-empty c =
    searched_empty (text_of c.args.source.now) _ _ _ _ _ _ c.lines.invariant.searched (omega arith)

pub returns-then-stands_mark-clause-ready : goal.returns-then-stands_mark-clause-ready
returns-then-stands_mark-clause-ready c =
    let cs = text_of c.args.source.now in
    let s = c.skip_spaces-width.ensures in
    solid_line cs _ _ _ _ s.spaces (no_space_at cs _ _ c.in-Some-next.ensures.some.is s.furthest c.in-None.ensures.none)

pub returns-then-width-longest-clause-none : goal.returns-then-width-longest-clause-none
returns-then-width-longest-clause-none c =
    let cs = text_of c.args.source.now in
    let s = c.skip_spaces-width.ensures in
    not_found cs _ _ _ _ _ _ _ c.lines.invariant.searched s.spaces c.if-width-col.false c.if-width-longest.true
    (no_space_at cs _ _ c.in-Some-next.ensures.some.is s.furthest c.in-None.ensures.none) (on_false_at c.stands_mark.result c.if-stands_mark.false c.stands_mark.ensures.no)

pub returns-in-Some-next-clause-indentation : goal.returns-in-Some-next-clause-indentation
returns-in-Some-next-clause-indentation c =
    let cs = text_of c.args.source.now in
    let s = c.skip_spaces-width.ensures in
    found_line cs _ _ _ _ _ _ _ c.lines.invariant.searched s.spaces c.if-width-col.false c.if-width-longest.false
    (no_space_at cs _ _ c.in-Some-next.ensures.some.is s.furthest c.in-None.ensures.none) (on_false_at c.stands_mark.result c.if-stands_mark.false c.stands_mark.ensures.no)

pub returns-in-Some-next-clause-empty : goal.returns-in-Some-next-clause-empty
returns-in-Some-next-clause-empty c =
    searched_empty (text_of c.args.source.now) _ _ _ _ _ _ c.lines.invariant.searched c.if-width-longest.false

pub returns-in-Some-next-clause-ready : goal.returns-in-Some-next-clause-ready
returns-in-Some-next-clause-ready c =
    let cs = text_of c.args.source.now in
    let s = c.skip_spaces-width.ensures in
    solid_line cs _ _ _ _ s.spaces (no_space_at cs _ _ c.in-Some-next.ensures.some.is s.furthest c.in-None.ensures.none)

pub returns-then-stands_mark-clause-indentation : goal.returns-then-stands_mark-clause-indentation
returns-then-stands_mark-clause-indentation c =
    let cs = text_of c.args.source.now in
    let s = c.skip_spaces-width.ensures in
    let v = c.lines.invariant.searched in
    elim c.then-stands_mark.branch [
      | then-stands_mark-via-then-stands_mark w ↦
          found_mark cs _ _ _ _ _ v (on_true_at c.stands_mark.result w.if-stands_mark.true c.stands_mark.ensures.yes)
      | then-stands_mark-via-else-stands_mark+then-width-col w ↦
          found_less cs _ _ _ _ _ _ _ v s.spaces w.if-width-col.true
          (no_space_at cs _ _ c.in-Some-next.ensures.some.is s.furthest c.in-None.ensures.none) (on_false_at c.stands_mark.result w.if-stands_mark.false c.stands_mark.ensures.no)
    ]
