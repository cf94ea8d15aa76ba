use Rattle.std.proofs.Common.{◌≡◌, ◌<◌, ◌+◌, ℕ, List, [], length, get_or, ap, subst, arith}
use Rattle.yaml_definitions.specs.canonical.TagText.{spell_byte, encoded}
use Rattle.yaml_events.proofs.Lengths.{encoded_one_more, whole}
use Rattle.yaml_events.proofs.measure.encoded_len.Goals as goal

pub overflow_add-len : goal.overflow_add-len
overflow_add-len c =
    let v = c.encode.invariant in
    let i : c.encode.byte-index < length c.args.tag.now = omega (arith, c.encode-test.true, ap length c.as_bytes-byte-items.ensures.value) in
    omega (arith, v.low, v.small, i, c.more_in_tag-len.ensures.few)

pub encode-preserved : goal.encode-preserved
encode-preserved c =
    let v = c.encode.invariant in
    let text : List ℕ = c.args.tag.now in
    let i : c.encode.byte-index < length c.args.tag.now = omega (arith, c.encode-test.true, ap length c.as_bytes-byte-items.ensures.value) in
    let m = encoded_one_more text c.encode.byte-index i in
    let same : get_or c.as_bytes-byte-items.result.now c.encode.byte-index 0 ≡ get_or text c.encode.byte-index 0 = ap (λ xs. get_or xs c.encode.byte-index 0) c.as_bytes-byte-items.ensures.value in
    let more = subst (λ b. c.more_in_tag-len.result + 1 ≡ length (spell_byte b)) same c.more_in_tag-len.ensures.more in
    record {
      counted = omega (arith, v.counted, m, more);
      low = omega (arith, v.low, c.more_in_tag-len.ensures.few);
      small = v.small;
    }

pub returns-clause-len : goal.returns-clause-len
returns-clause-len c =
    let v = c.encode.invariant in
    let end : c.encode.byte-index ≡ length c.args.tag.now = omega (arith, c.encode-test.false, c.encode.auto.byte-index-end, ap length c.as_bytes-byte-items.ensures.value) in
    let all = ap length (ap (λ z. encoded z []) (whole c.args.tag.now c.encode.byte-index end)) in
    omega (arith, v.counted, end, all)

pub returns-clause-small : goal.returns-clause-small
returns-clause-small c =
    let v = c.encode.invariant in
    let end : c.encode.byte-index ≡ length c.args.tag.now = omega (arith, c.encode-test.false, c.encode.auto.byte-index-end, ap length c.as_bytes-byte-items.ensures.value) in
    omega (arith, v.low, v.small, end)
