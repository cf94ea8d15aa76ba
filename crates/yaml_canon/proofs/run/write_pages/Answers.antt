use Rattle.std.proofs.Common.{map, rules}
use Rattle.yaml_spell.specs.Documents.{arranged_bytes}
use Rattle.yaml_spell.specs.RankedNodes.{tree_of}
use Rattle.yaml_canon.proofs.RunLaws.{all_but_a_page, all_sent, printed, unflushed, broken_within, broken_at_the_end}
use Rattle.yaml_canon.proofs.run.write_pages.Goals as goal

pub returns-in_err-write_ranked-clause-broken : goal.returns-in_err-write_ranked-clause-broken
returns-in_err-write_ranked-clause-broken g c =
    let ts = map (tree_of g.V.RankedNodes.tree g.V.RankedNodes.number c.args.view.now) c.args.roots.now in
    let b = broken_within g.W.Write.contents c.new-page.result c.args.out.now c.write_ranked.new.out c.in_err-write_ranked.field-0.0 ts c.requires.few c.new-page.ensures c.in_err-write_ranked.ensures.err in
    let b0 = b.0 in
    search (rules, b0)

pub returns-in_err-write_ranked-clause-err : goal.returns-in_err-write_ranked-clause-err
returns-in_err-write_ranked-clause-err g c =
    let ts = map (tree_of g.V.RankedNodes.tree g.V.RankedNodes.number c.args.view.now) c.args.roots.now in
    let b = broken_within g.W.Write.contents c.new-page.result c.args.out.now c.write_ranked.new.out c.in_err-write_ranked.field-0.0 ts c.requires.few c.new-page.ensures c.in_err-write_ranked.ensures.err in
    let b1 = b.1 in
    search (rules, b1)

pub returns-in_err-send-clause-broken : goal.returns-in_err-send-clause-broken
returns-in_err-send-clause-broken g c =
    let ts = map (tree_of g.V.RankedNodes.tree g.V.RankedNodes.number c.args.view.now) c.args.roots.now in
    let h = all_but_a_page g.W.Write.contents c.new-page.result c.write_ranked.new.sink c.args.out.now c.write_ranked.new.out ts c.new-page.ensures c.in_ok-write_ranked.ensures.ok in
    let b = broken_at_the_end g.W.Write.contents c.write_ranked.new.sink c.args.out.now c.write_ranked.new.out c.send.new.out c.in_err-send.field-0.0 (arranged_bytes ts) c.requires.few h c.in_err-send.ensures.err in
    search (rules, b)

pub returns-in-Ok-clause-ok : goal.returns-in-Ok-clause-ok
returns-in-Ok-clause-ok g c =
    let ts = map (tree_of g.V.RankedNodes.tree g.V.RankedNodes.number c.args.view.now) c.args.roots.now in
    let h = all_but_a_page g.W.Write.contents c.new-page.result c.write_ranked.new.sink c.args.out.now c.write_ranked.new.out ts c.new-page.ensures c.in_ok-write_ranked.ensures.ok in
    let s = all_sent g.W.Write.contents c.write_ranked.new.sink c.args.out.now c.write_ranked.new.out c.send.new.out (arranged_bytes ts) h c.in_ok-send.ensures.ok in
    printed g.W.Write.contents c.args.out.now c.send.new.out c.flush.new.self (arranged_bytes ts) s c.in-Ok.ensures.bytes c.in-Ok.ensures.faults c.in-Ok.ensures.flushed

pub returns-in-Err-clause-broken : goal.returns-in-Err-clause-broken
returns-in-Err-clause-broken g c =
    let ts = map (tree_of g.V.RankedNodes.tree g.V.RankedNodes.number c.args.view.now) c.args.roots.now in
    let h = all_but_a_page g.W.Write.contents c.new-page.result c.write_ranked.new.sink c.args.out.now c.write_ranked.new.out ts c.new-page.ensures c.in_ok-write_ranked.ensures.ok in
    let s = all_sent g.W.Write.contents c.write_ranked.new.sink c.args.out.now c.write_ranked.new.out c.send.new.out (arranged_bytes ts) h c.in_ok-send.ensures.ok in
    unflushed g.W.Write.contents c.args.out.now c.send.new.out c.flush.new.self (arranged_bytes ts) c.requires.few s c.in-Err.ensures.bytes c.in-Err.ensures.faults
