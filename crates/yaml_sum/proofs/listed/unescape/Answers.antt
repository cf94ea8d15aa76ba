use Rattle.std.proofs.Common.{◌∙◌, sym, arith}
use Rattle.std.proofs.lemmas.Bool.{ne_eqb}
use Rattle.yaml_sum.proofs.ListedLaws.{name_start, plain_step, escape_step}
use Rattle.yaml_sum.proofs.listed.unescape.Goals as goal

pub bytes-init : goal.bytes-init
bytes-init c = record { so_far = name_start c.args.name.now _ c.clear.ensures.items; within = omega arith }

pub bytes-preserved-then-name-at-ne92 : goal.bytes-preserved-then-name-at-ne92
bytes-preserved-then-name-at-ne92 c = record {
  so_far = plain_step c.args.name.now c.bytes.plain.items _ c.bytes.at 0 c.bytes-test.true (ne_eqb _ 92 c.if-name-at-ne92.true) c.in_ok-push.ensures.ok c.bytes.invariant.so_far;
  within = omega (arith, c.bytes-test.true);
}

pub bytes-preserved : goal.bytes-preserved
bytes-preserved c = record {
  so_far = escape_step c.args.name.now c.bytes.plain.items _ c.bytes.at 0 c.in-Some.byte c.bytes-test.true (omega (arith, c.bytes-test.true, c.if-at-name.false)) c.if-name-at-ne92.false (sym c.escaped.ensures ∙ c.in-Some.is) c.in_ok-push-2.ensures.ok c.bytes.invariant.so_far;
  within = omega (arith, c.bytes-test.true, c.if-at-name.false);
}
