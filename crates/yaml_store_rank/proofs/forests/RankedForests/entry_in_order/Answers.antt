use Rattle.std.proofs.Common.{arith}
use Rattle.yaml_store_rank.proofs.ForestLaws.{mapping-from, entry-there, entry-shown}
use Rattle.yaml_store_rank.proofs.forests.RankedForests.entry_in_order.Goals as goal

pub index-requires-3 : goal.index-requires-3
index-requires-3 c =
    let v = c.self.inside in
    let f = c.args.self.now in
    let i = c.args.mapping.0 in
    let n = c.index.result.now in
    let k = c.args.place in
    let w = c.index-2.result.now in
    let at = mapping-from v c.self.invariant f c.self.view_is i c.requires.mapping n c.index.ensures k c.requires.place in
    omega (arith, entry-there v c.self.invariant f c.self.view_is i c.requires.mapping n c.index.ensures n.span at k c.requires.place w w c.index-2.ensures, v.entries.ok.0)

pub returns : goal.returns
returns c =
    let v = c.self.inside in
    let f = c.args.self.now in
    let i = c.args.mapping.0 in
    let n = c.index.result.now in
    let k = c.args.place in
    let w = c.index-2.result.now in
    let r = c.index-3.result.now in
    let at = mapping-from v c.self.invariant f c.self.view_is i c.requires.mapping n c.index.ensures k c.requires.place in
    entry-shown v c.self.invariant f c.self.view_is i c.requires.mapping n c.index.ensures n.span at k c.requires.place w w c.index-2.ensures r r c.index-3.ensures
