use Rattle.std.proofs.Common.{◌++◌, codes}
use Rattle.review_files.proofs.LineLaws.{takes_front, takes_more}
use Rattle.review_files.proofs.telling.put_message.Goals as goal

pub returns-then-not-put_piece : goal.returns-then-not-put_piece
returns-then-not-put_piece g c = takes_front g.E.Write.contents c.args.err.now c.put_piece.new.err (codes "yamlreview: ") (c.args.message.now ++ codes "\n") c.put_piece.ensures.some

pub returns-then-not-put_piece-2 : goal.returns-then-not-put_piece-2
returns-then-not-put_piece-2 g c =
    let told = g.E.Write.contents in
    let mid = c.put_piece.new.err in
    let new = c.put_piece-2.new.err in
    takes_more told c.args.err.now mid new (codes "yamlreview: ") (c.args.message.now ++ codes "\n") (c.put_piece.ensures.whole c.if-not-put_piece.false) (takes_front told mid new c.args.message.now (codes "\n") c.put_piece-2.ensures.some)

pub returns : goal.returns
returns g c =
    let told = g.E.Write.contents in
    let mid = c.put_piece.new.err in
    let next = c.put_piece-2.new.err in
    let new = c.put_piece-3.new.err in
    takes_more told c.args.err.now mid new (codes "yamlreview: ") (c.args.message.now ++ codes "\n") (c.put_piece.ensures.whole c.if-not-put_piece.false)
    (takes_more told mid next new c.args.message.now (codes "\n") (c.put_piece-2.ensures.whole c.if-not-put_piece-2.false) c.put_piece-3.ensures.some)
