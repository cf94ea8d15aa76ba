use Rattle.std.proofs.Common.{◌≡◌, ◌==◌, length, map, drop, arith, sym, ◌∙◌, subst, lit<}
use Rattle.std.specs.Prelude.{Some}
use Rattle.std.specs.List.{slice_split}
use Rattle.std.proofs.lemmas.List.{length_push}
use Rattle.std.proofs.lemmas.Iterator.Splits.{YieldsList-from_str_split}
use Rattle.std.proofs.lemmas.Iterator.Consumers.{YieldsList-turn, YieldsList-end}
use Rattle.yaml_store_rank.specs.Forests.{tree}
use Rattle.yaml_path.specs.Path.{reach}
use Rattle.yaml_pair.specs.Names.{to_key, found_at}
use Rattle.yaml_pair.proofs.TreeLaws.{lead-step, lead-stop, lead-end}
use Rattle.yaml_pair.proofs.names.found_at.Goals as goal

pub returns-in_err-node : goal.returns-in_err-node
returns-in_err-node c = λ l.
    let t = YieldsList-turn (YieldsList-from_str_split 46 c.args.path.now (lit< tt) (cc) (cc) (cc)) c.loop-key.yielded _ c.loop-key.yielded_by _ _ c.in-Some.key c.in-Some.is c.next.ensures.steps in
    let g = c.args.forests.now in
    let keys = slice_split (λ b. b == 46) c.args.path.now in
    let at = c.loop-key.invariant l in
    let v = c.in_err-node.ensures at.0 in
    rw c.from_residual.ensures (record { is = sym (lead-stop (tree g c.loop-key.node.0) keys (length c.loop-key.yielded) c.in-Some.key.now t v.is) ∙ at.1; within = tt })

pub loop-key-preserved : goal.loop-key-preserved
loop-key-preserved c = λ l.
    let t = YieldsList-turn (YieldsList-from_str_split 46 c.args.path.now (lit< tt) (cc) (cc) (cc)) c.loop-key.yielded _ c.loop-key.yielded_by _ _ c.in-Some.key c.in-Some.is c.next.ensures.steps in
    let g = c.args.forests.now in
    let keys = slice_split (λ b. b == 46) c.args.path.now in
    let at = c.loop-key.invariant l in
    let v = c.in_ok-node.ensures at.0 in (
      v.within,
      subst (λ z. reach (Some (tree g c.in_ok-node.node.0)) (map to_key (drop z keys)) ≡ found_at (tree g c.args.item.0) c.args.path.now) (sym (length_push c.loop-key.yielded c.in-Some.key))
          (lead-step (tree g c.loop-key.node.0) keys (length c.loop-key.yielded) (tree g c.in_ok-node.node.0) c.in-Some.key.now t v.is ∙ at.1),
    )

pub returns : goal.returns
returns c = λ l.
    let t = YieldsList-end (YieldsList-from_str_split 46 c.args.path.now (lit< tt) (cc) (cc) (cc)) c.loop-key.yielded _ c.loop-key.yielded_by _ _ c.in-None.is c.next.ensures.steps in
    let g = c.args.forests.now in
    let keys = slice_split (λ b. b == 46) c.args.path.now in
    let at = c.loop-key.invariant l in
    record { is = sym (lead-end (tree g c.loop-key.node.0) keys (length c.loop-key.yielded) (omega (arith, t.1))) ∙ at.1; within = at.0 }
