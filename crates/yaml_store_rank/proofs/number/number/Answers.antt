use Rattle.std.proofs.Common.{◌≡◌, subst, ℕ, ◌+◌, ◌-◌, ◌<◌, true, false, length, get_or, sym, ◌∙◌, ap, inl, inr, arith}
use Rattle.std.specs.Prelude.{Some}
use Rattle.std.specs.List.{slice_get}
use Rattle.std.proofs.lemmas.List.{length-map}
use Rattle.yaml_tree.proofs.Lists.{get-map}
use Rattle.yaml_tree.proofs.Numbering.{Goes, more, get-there, numbering-more}
use Rattle.yaml_store_rank.specs.declared.slot.Slot.{Slot}
use Rattle.yaml_store_rank.specs.KeyModel.{Key, Keys, key_cmp}
use Rattle.yaml_store_rank.specs.SlotModel.{keyed, keys_of}
use Rattle.yaml_store_rank.proofs.Firsts.{Firsts, firsts-same, firsts-more, numbered-on}
use Rattle.yaml_store_rank.proofs.SlotLaws.{slots-tested}
use Rattle.yaml_store_rank.proofs.number.number.Goals as goal
use Rattle.yaml_store_rank.proofs.number.number.Goals.{then-place-eq0+in_ok-rank, then-place-eq0-via-then-place-eq0, then-place-eq0-via-else-place-eq0+then-is_below, else-place-eq0+else-is_below}

abbrev none : Slot
none = record { high = 0; low = 0; head = 0; number = 0 }

pub loop-place-preserved : goal.loop-place-preserved
loop-place-preserved c =
    let lists = c.args.lists.now in
    let slots = c.args.slots.now in
    let keys : Keys = keys_of lists slots in
    let old = c.args.ranks.now in
    let before = c.args.first.now.items in
    let was = c.loop-place.first.items in
    let k = c.loop-place.place in
    let rank = c.loop-place.rank in
    let new = c.if-place-eq0.rank in
    let y : Slot = get_or slots k none in
    let x : Key × ℕ = keyed lists y in
    let there : slice_get keys k ≡ Some x = get-map (keyed lists) slots k y (get-there slots k none c.loop-place-test.true) in
    let within : x.1 < length old = c.requires.within k none c.loop-place-test.true in
    let numbered = c.loop-place.invariant.0 in
    let firsts = c.loop-place.invariant.1 in
    elim c.if-place-eq0.branch [
      | then-place-eq0+in_ok-rank w ↦
          let e : new ≡ length was = w.rank-is ∙ w.in_ok-rank.ensures.rank in
          let small = w.in_ok-rank.ensures.small in
          let goes : Goes key_cmp old (length before) keys k rank new c.loop-place.ranks x there within numbered = elim w.then-place-eq0.branch [
            | then-place-eq0-via-then-place-eq0 v ↦ (let z = v.if-place-eq0.true in let f = firsts.none z in let r = numbered.first z in inl (omega arith, λ h. absurd (omega arith)))
            | then-place-eq0-via-else-place-eq0+then-is_below v ↦
                (let some : 0 < k = omega (arith, v.if-place-eq0.false) in
                let f = firsts.some some in
                let r = numbered.high some in
                inr (some, (omega arith, omega arith), λ p h. slots-tested lists slots (k - 1) _ p y v.is_below.result true h v.is_below.ensures v.if-is_below.true))
          ] in
          (numbering-more key_cmp old (length before) keys k rank new c.loop-place.ranks x there within numbered goes, firsts-more old before was keys k rank new c.loop-place.ranks x there within numbered firsts goes c.if-place-eq0.first.items e (let q = w.rank-is in omega arith) (ap (λ z. z.items) w.first-is ∙ w.in_ok-rank.ensures.noted))
      | else-place-eq0+else-is_below w ↦
          let some : 0 < k = omega (arith, w.if-place-eq0.false) in
          let goes : Goes key_cmp old (length before) keys k rank new c.loop-place.ranks x there within numbered = inl (w.rank-is, λ z p h. slots-tested lists slots (k - 1) _ p y w.is_below.result false h w.is_below.ensures w.if-is_below.false) in
          (numbering-more key_cmp old (length before) keys k rank new c.loop-place.ranks x there within numbered goes, subst (λ z. Firsts keys (k + 1) new (more key_cmp old (length before) keys k rank new c.loop-place.ranks x there within numbered) before z) (ap (λ z. z.items) (sym w.first-is)) (firsts-same old before was keys k rank new c.loop-place.ranks x there within numbered firsts goes some w.rank-is))
    ]

pub returns : goal.returns
returns c =
    let slots = c.args.slots.now in
    record { ok = numbered-on (keys_of c.args.lists.now slots) c.args.ranks.now c.loop-place.ranks c.args.first.now.items c.loop-place.first.items c.loop-place.place c.loop-place.rank c.loop-place.invariant.0 c.loop-place.invariant.1 (omega (arith, c.loop-place-test.false, length-map slots (keyed c.args.lists.now))) }
