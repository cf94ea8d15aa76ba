use Rattle.std.proofs.Common.{◌≡◌, ◌+◌, ◌≤◌, length, sym, subst, arith}
use Rattle.std.specs.Prelude.{None}
use Rattle.std.specs.BTreeMap.{get}
use Rattle.std.proofs.lemmas.Option.{slice_get-get_or}
use Rattle.yaml_pair.specs.Named.{is_one, name_cmp, JoinsTo}
use Rattle.yaml_pair.proofs.NameLaws.{name_laws}
use Rattle.yaml_pair.proofs.PlaceLaws.{partner-lone, partner-none}
use Rattle.yaml_pair.proofs.JoinLaws.{join-skip, join-take, left-free, right-free}
use Rattle.yaml_pair.proofs.partners.join.Goals as goal
use Rattle.yaml_pair.proofs.partners.join.Goals.{in-Some, in_default}

pub loop-left-preserved : goal.loop-left-preserved
loop-left-preserved c =
    let ls = c.args.lefts.now in
    let rs = c.args.rights.now in
    let old = c.args.partners.now in
    let cur = c.loop-left.partners in
    let i = c.loop-left.left in
    let l = get name_cmp c.in_ok-left_places.left_places in
    let r = get name_cmp c.in_ok-right_places.right_places in
    let there = slice_get-get_or ls i None c.loop-left-test.true in
    elim c.match-partner_in.branch [
      | in-Some w ↦
          let x = partner-lone is_one name_laws ls rs i w.in-Some.right l r _ there c.in_ok-left_places.ensures.ok c.in_ok-right_places.ensures.ok w.in-Some.ensures in
          let takes = w.take.ensures.takes (left-free ls rs old c.requires.lefts c.requires.rights i w.in-Some.right cur x c.loop-left.invariant) (right-free ls rs old c.requires.lefts c.requires.rights i w.in-Some.right cur x c.loop-left.invariant) in
          subst (λ z. JoinsTo ls rs (i + 1) old z) (sym w.partners-is) (join-take ls rs old c.requires.lefts c.requires.rights i w.in-Some.right cur w.take.new.self x c.loop-left.invariant takes)
      | in_default w ↦
          subst (λ z. JoinsTo ls rs (i + 1) old z) (sym w.partners-is)
          (join-skip ls rs old i cur (λ k x. partner-none is_one name_laws ls rs i k l r _ there c.in_ok-left_places.ensures.ok c.in_ok-right_places.ensures.ok w.in_default.ensures x) c.loop-left.invariant)
    ]

pub returns : goal.returns
returns c = record {
  ok = (
      let le : c.loop-left.left ≤ length c.args.lefts.now = c.loop-left.auto.left-end in
      let same : c.loop-left.left ≡ length c.args.lefts.now = omega (arith, le, c.loop-left-test.false) in
      subst (λ z. JoinsTo c.args.lefts.now c.args.rights.now z c.args.partners.now c.loop-left.partners) same c.loop-left.invariant);
}
