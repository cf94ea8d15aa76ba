use Rattle.std.proofs.Common.{sym}
use Rattle.yaml_text.specs.Source.{text_of}
use Rattle.yaml_scalar.proofs.EscapeLemmas.{count_few, escape_short, escape_long, no_escape_mark, no_escape_end, no_escape_here, no_escape_count}
use Rattle.yaml_scalar.proofs.escape.read_escape.Goals as goal

pub read_numbered-requires-clause-few : goal.read_numbered-requires-clause-few
read_numbered-requires-clause-few c = count_few _ _ (sym c.in-Some-digit_count.ensures)

pub returns-in-None-clause-none : goal.returns-in-None-clause-none
returns-in-None-clause-none c = no_escape_mark (text_of c.args.source.now) _ c.in-None.ensures.none

pub returns-in-None-next-clause-none : goal.returns-in-None-next-clause-none
returns-in-None-next-clause-none c = no_escape_end (text_of c.args.source.now) _ _ c.in-Some.ensures.some.next c.in-None-next.ensures.none

pub returns-in-Some-short_escape-clause-some : goal.returns-in-Some-short_escape-clause-some
returns-in-Some-short_escape-clause-some c =
    let m = c.in-Some.ensures.some in
    let s = c.in-Some-next.ensures.some in
    escape_short (text_of c.args.source.now) _ _ _ _ _ m.is m.next s.is (sym c.in-Some-short_escape.ensures) s.next

pub returns-in-None-digit_count-clause-none : goal.returns-in-None-digit_count-clause-none
returns-in-None-digit_count-clause-none c =
    let m = c.in-Some.ensures.some in
    let s = c.in-Some-next.ensures.some in
    no_escape_count (text_of c.args.source.now) _ _ _ m.next s.is (sym c.in-None-short_escape.ensures) (sym c.in-None-digit_count.ensures)

pub returns-in-None-read_numbered-clause-none : goal.returns-in-None-read_numbered-clause-none
returns-in-None-read_numbered-clause-none c =
    let m = c.in-Some.ensures.some in
    let s = c.in-Some-next.ensures.some in
    no_escape_here (text_of c.args.source.now) _ _ _ _ _ m.next s.is s.next (sym c.in-None-short_escape.ensures) (sym c.in-Some-digit_count.ensures) c.in-None-read_numbered.ensures.none

pub returns-in-Some-read_numbered-clause-some : goal.returns-in-Some-read_numbered-clause-some
returns-in-Some-read_numbered-clause-some c =
    let m = c.in-Some.ensures.some in
    let s = c.in-Some-next.ensures.some in
    escape_long (text_of c.args.source.now) _ _ _ _ _ _ _ m.is m.next s.is (sym c.in-Some-digit_count.ensures) s.next c.in-Some-read_numbered.ensures.some
