use Rattle.std.proofs.Common.{sym, ◌∙◌, subst}
use Rattle.yaml_diff.specs.Lines.{tree_of}
use Rattle.yaml_conflicts.specs.Keys.{Adds, Stands}
use Rattle.yaml_conflicts.proofs.KeyLaws.{adds-none, adds-more, stands-last}
use Rattle.yaml_conflicts.proofs.keys.add_key.Goals as goal

pub returns-then-is_had-clause-adds : goal.returns-then-is_had-clause-adds
returns-then-is_had-clause-adds c = adds-none c.args.forests.now c.args.keys.now.items c.requires.keys

pub returns-then-is_had-clause-stands : goal.returns-then-is_had-clause-stands
returns-then-is_had-clause-stands c = c.requires.covers (tree_of c.args.forests.now c.args.key) (sym c.is_had.ensures ∙ c.if-is_had.true)

pub returns-clause-adds : goal.returns-clause-adds
returns-clause-adds c =
    let g = c.args.forests.now in
    let old = c.args.keys.now.items in
    subst (Adds g old) (sym c.in_ok-push.ensures.items) (adds-more g old old c.args.key c.requires.key (adds-none g old c.requires.keys))

pub returns-clause-stands : goal.returns-clause-stands
returns-clause-stands c =
    let g = c.args.forests.now in
    subst (λ z. Stands g z (tree_of g c.args.key)) (sym c.in_ok-push.ensures.items) (stands-last g c.args.keys.now.items c.args.key)
