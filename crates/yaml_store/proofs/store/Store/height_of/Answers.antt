use Rattle.std.proofs.Common.{◌≡◌, length, Some, refl, sym, ap, subst, arith}
use Rattle.std.specs.List.{slice_get}
use Rattle.std.proofs.lemmas.Bool.{ltb-true, ltb-false}
use Rattle.std.proofs.lemmas.Option.{slice_get_read, slice_get_within}
use Rattle.yaml_store.specs.StoreGrows.{tags_of, trees_of}
use Rattle.yaml_store.proofs.Growing.{high-at, trees-count}
use Rattle.yaml_store.specs.TextModel.{text_of}
use Rattle.yaml_store.proofs.store.Store.height_of.Goals as goal

pub returns-in_err-node : goal.returns-in_err-node
returns-in_err-node c = λ t good e.
    let s = c.args.self.now in
    let count = trees-count s.nodes.items (text_of s.text) s.items.items s.entries.items (tags_of s) in
    let out = ltb-false c.args.id (length c.deref.result.now) (sym c.in_err-node.ensures.lookup.0) in
    absurd (omega (arith, slice_get_within (trees_of s) c.args.id t e, count, out, c.deref.ensures.len))

pub returns : goal.returns
returns c = λ t good e.
    let s = c.args.self.now in
    let n = c.in_ok-node.node.now in
    let there : slice_get s.nodes.items c.args.id ≡ Some n =
    subst (λ z. slice_get z c.args.id ≡ Some n) c.deref.ensures.value (slice_get_read c.deref.result.now (length c.deref.result.now) c.args.id n refl (ltb-true c.args.id (length c.deref.result.now) (sym c.in_ok-node.ensures.lookup.0)) c.in_ok-node.ensures.lookup.1) in
    ap Some (high-at s good c.args.id n there t e)
