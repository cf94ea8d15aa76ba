use Rattle.std.proofs.Common.{◌++◌, ◌∙◌, map, ap}
use Rattle.std.specs.String.{string_bytes}
use Rattle.std.specs.Option.{is_some}
use Rattle.review_merge.specs.Lines.{is_numbered, sides_in, more_text}
use Rattle.review_merge.proofs.LineLaws.{list_none, list_told}
use Rattle.review_merge.proofs.lines.list_text.Goals as goal

pub returns-then-list-eq0 : goal.returns-then-list-eq0
returns-then-list-eq0 c = list_none c.args.forests.now c.args.print (is_some c.args.sources.result) (is_numbered c.args.roots.now) (sides_in c.args.roots.now c.args.sources) c.args.list.now c.args.whole (string_bytes c.new-out.result) c.if-list-eq0.true c.new-out.ensures.bytes

pub returns : goal.returns
returns c =
    let s = c.style_of-style.ensures in
    let w = c.in_ok-put_lines.ensures.ok in
    list_told c.args.forests.now c.style_of-style.result c.args.print (is_some c.args.sources.result) (is_numbered c.args.roots.now) c.in_ok-seats.seats.items (sides_in c.args.roots.now c.args.sources) c.args.list.now c.args.whole w.0 (string_bytes c.put_more.new.out) (map (λ path. path.items) c.deref.result.now)
    s.print (s.given ∙ c.is_some-given.ensures) (s.numbered ∙ c.is_numbered.ensures) s.seats (ap (map (λ path. path.items)) c.deref.ensures.value ∙ c.in_ok-paths.ensures.ok) c.in_ok-seats.ensures c.if-list-eq0.false w.1
    (c.in_ok-put_more.ensures.ok ∙ ap (λ z. z ++ more_text c.args.whole) (w.2 ∙ ap (λ z. z ++ w.0) c.new-out.ensures.bytes))
