use Rattle.std.proofs.Common.{◌<◌, length, sym, subst}
use Rattle.std.specs.List.{All}
use Rattle.yaml_store_rank.specs.Forests.{AreEnds}
use Rattle.yaml_store_rank.specs.Written.{ShowsStore}
use Rattle.yaml_store_composer.specs.KeeperModel.{Composes}
use Rattle.yaml_canon.proofs.RootRanks.{roots-below}
use Rattle.yaml_canon.proofs.StreamEnds.{streams-rooted, streams-end, streams-shown}
use Rattle.yaml_canon.proofs.TargetLaws.{if_is}
use Rattle.yaml_canon.proofs.streams.ranked_of.Goals as goal

pub rank_written-requires-clause-good : goal.rank_written-requires-clause-good
rank_written-requires-clause-good c = let h = c.requires.1 in (c.in_ok-store.ensures.streams h.documents h.held).good

pub rank_written-requires-clause-low : goal.rank_written-requires-clause-low
rank_written-requires-clause-low c = let h = c.requires.1 in (c.in_ok-store.ensures.streams h.documents h.held).level

pub rank_written-requires-clause-roots : goal.rank_written-requires-clause-roots
rank_written-requires-clause-roots c =
    let f = c.in_ok-store.field-0 in
    let h = c.requires.1 in
    let are = c.in_ok-store.ensures.streams h.documents h.held in
    subst (All (λ i. i < length f.store.nodes.items)) (sym c.deref.ensures.value) (roots-below are.trees_are f (streams-rooted Composes c.requires.0 c.args.composing c.args.ends.items h f are))

pub rank_written-requires-clause-ends : goal.rank_written-requires-clause-ends
rank_written-requires-clause-ends c =
    let h = c.requires.1 in
    let are = c.in_ok-store.ensures.streams h.documents h.held in
    subst (λ z. AreEnds (length z) 0 c.args.ends.items) (sym c.deref.ensures.value) (streams-end Composes c.requires.0 c.args.composing c.args.ends.items h c.in_ok-store.field-0 are)

pub returns : goal.returns
returns c = λ sources h.
    let f = c.in_ok-store.field-0 in
    let are = c.in_ok-store.ensures.streams h.documents h.held in
    if_is c.rank_written.result c.rank_written.ensures.ok (λ g s. streams-shown Composes sources c.args.composing c.args.ends.items h f are g (subst (λ z. ShowsStore f.store z c.args.ends.items g) c.deref.ensures.value s))
