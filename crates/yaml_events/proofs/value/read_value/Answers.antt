use Rattle.std.proofs.Common.{◌≡◌, ◌<◌, ◌≤◌, ℕ, ◌+◌, length, List, sym, ap, ◌∙◌, subst, arith, get_or}
use Rattle.std.specs.Str.{IsCharBoundary}
use Rattle.std.specs.String.{string_bytes}
use Rattle.std.proofs.lemmas.List.{append-nil}
use Rattle.std.proofs.lemmas.Str.{IsCharBoundary-start, IsCharBoundary-after_ascii, IsUtf8-string_bytes}
use Rattle.yaml_definitions.specs.model.EventText.{value_text}
use Rattle.yaml_events.proofs.ValueReading.{IsReading, some_case, none_case, reading_same, refused_escape, refused_byte, refused_end, reading_escape, reading_mark, reading_on, read_whole, read_parts}
use Rattle.yaml_events.proofs.value.read_value.Goals as goal
use Rattle.yaml_events.proofs.value.read_value.Goals.{then-escaped+in-Some+in_ok-push, else-escaped+then-byte-eq92+in_ok-push_str, else-escaped+else-byte-eq92+else-is_some}

pub read-init : goal.read-init
read-init c = record {
  run = omega arith;
  border = IsCharBoundary-start c.args.value.now c.utf8.value;
  reads = (ap value_text (append-nil (string_bytes c.new-out.result) ∙ c.new-out.ensures.bytes), λ e. c.new-out.ensures.bytes);
}

pub returns-in_default-clause-reads : goal.returns-in_default-clause-reads
returns-in_default-clause-reads c = λ a.
    let text : List ℕ = c.args.value.now in
    let at : ℕ = c.read.at in
    let within : at < length text = omega (arith, c.read-test.true, c.as_bytes-byte-items.ensures.len) in
    let same : get_or c.as_bytes-byte-items.result.now at 0 ≡ get_or text at 0 = ap (λ xs. get_or xs at 0) c.as_bytes-byte-items.ensures.value in
    refused_escape text (string_bytes c.read.out) a at c.read.run _ within same c.in_default.ensures (subst (λ z. IsReading z text at c.read.run (string_bytes c.read.out)) c.if-escaped.true c.read.invariant.reads)

pub returns-then-is_some-clause-reads : goal.returns-then-is_some-clause-reads
returns-then-is_some-clause-reads c = λ a.
    let text : List ℕ = c.args.value.now in
    let at : ℕ = c.read.at in
    let within : at < length text = omega (arith, c.read-test.true, c.as_bytes-byte-items.ensures.len) in
    let same : get_or c.as_bytes-byte-items.result.now at 0 ≡ get_or text at 0 = ap (λ xs. get_or xs at 0) c.as_bytes-byte-items.ensures.value in
    refused_byte text (string_bytes c.read.out) a at c.read.run _ within same c.if-byte-eq92.false (some_case c.escape_of.result _ _ c.escape_of.ensures (sym c.if-is_some.ensures)).1.2 (subst (λ z. IsReading z text at c.read.run (string_bytes c.read.out)) c.if-escaped.false c.read.invariant.reads)

pub read-preserved : goal.read-preserved
read-preserved c =
    let text : List ℕ = c.args.value.now in
    let at : ℕ = c.read.at in
    let h = c.read.invariant in
    let within : at < length text = omega (arith, c.read-test.true, c.as_bytes-byte-items.ensures.len) in
    let same : get_or c.as_bytes-byte-items.result.now at 0 ≡ get_or text at 0 = ap (λ xs. get_or xs at 0) c.as_bytes-byte-items.ensures.value in
    elim c.if-escaped.branch [
      | then-escaped+in-Some+in_ok-push w ↦
          let s = w.in-Some.ensures in
          record {
            run = omega (arith, w.run-is);
            border = subst (IsCharBoundary text) (sym w.run-is) (IsCharBoundary-after_ascii text at c.utf8.value within (omega (arith, same, s.1)));
            reads = reading_same text (at + 1) _ _ _ _ _ _ w.escaped-is w.run-is w.out-is
                (reading_escape text (string_bytes c.read.out) _ _ at c.read.run _ _ within same s.0 (w.push.ensures.ascii s.2) w.in_ok-push.ensures.bytes
                (subst (λ z. IsReading z text at c.read.run (string_bytes c.read.out)) w.if-escaped.true h.reads));
          }
      | else-escaped+then-byte-eq92+in_ok-push_str w ↦
          record {
            run = omega (arith, w.run-is, h.run);
            border = subst (IsCharBoundary text) (sym w.run-is) h.border;
            reads = reading_same text (at + 1) _ _ _ _ _ _ w.escaped-is w.run-is w.out-is
                (reading_mark text (string_bytes c.read.out) _ _ at c.read.run c.read.run _ within same w.if-byte-eq92.true w.range.ensures.value w.in_ok-push_str.ensures.bytes
                (subst (λ z. IsReading z text at c.read.run (string_bytes c.read.out)) w.if-escaped.false h.reads));
          }
      | else-escaped+else-byte-eq92+else-is_some w ↦
          record {
            run = omega (arith, w.run-is, h.run);
            border = subst (IsCharBoundary text) (sym w.run-is) h.border;
            reads = reading_same text (at + 1) _ _ _ _ _ _ (w.escaped-is ∙ w.if-escaped.false) w.run-is w.out-is
                (reading_on text (string_bytes c.read.out) at c.read.run _ h.run within same (none_case w.escape_of.result _ _ w.escape_of.ensures (sym w.if-is_some.ensures))
                (subst (λ z. IsReading z text at c.read.run (string_bytes c.read.out)) w.if-escaped.false h.reads));
          }
    ]

pub returns-then-escaped-2-clause-reads : goal.returns-then-escaped-2-clause-reads
returns-then-escaped-2-clause-reads c = λ a.
    let text : List ℕ = c.args.value.now in
    let all : length text ≤ c.read.at = omega (arith, c.read-test.false, c.as_bytes-byte-items.ensures.len) in
    refused_end text (string_bytes c.read.out) a c.read.at c.read.run all (subst (λ z. IsReading z text c.read.at c.read.run (string_bytes c.read.out)) c.if-escaped-2.true c.read.invariant.reads)

pub returns-then-run-eq0-clause-reads : goal.returns-then-run-eq0-clause-reads
returns-then-run-eq0-clause-reads c =
    let text : List ℕ = c.args.value.now in
    let all : length text ≤ c.read.at = omega (arith, c.read-test.false, c.as_bytes-byte-items.ensures.len) in
    read_whole text (string_bytes c.read.out) c.read.at c.read.run all c.if-run-eq0.true (subst (λ z. IsReading z text c.read.at c.read.run (string_bytes c.read.out)) c.if-escaped-2.false c.read.invariant.reads)

pub returns-clause-reads : goal.returns-clause-reads
returns-clause-reads c =
    let text : List ℕ = c.args.value.now in
    let all : length text ≤ c.read.at = omega (arith, c.read-test.false, c.as_bytes-byte-items.ensures.len) in
    read_parts text (string_bytes c.read.out) _ _ c.read.at c.read.run all c.range_from.ensures.value c.in_ok-push_str-2.ensures.bytes
    (subst (λ z. IsReading z text c.read.at c.read.run (string_bytes c.read.out)) c.if-escaped-2.false c.read.invariant.reads)

pub returns-clause-utf8 : goal.returns-clause-utf8
returns-clause-utf8 c = IsUtf8-string_bytes c.push_str-2.new.self
