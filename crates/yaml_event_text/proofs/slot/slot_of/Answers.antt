use Rattle.std.proofs.Common.{arith}
use Rattle.yaml_event_text.specs.Slots.{IsScalarLine}
use Rattle.yaml_event_text.proofs.SlotLaws.{closed}
use Rattle.yaml_event_text.proofs.slot.slot_of.Goals.{else-byte-eq61-via-then-byte-eq61+else-byte-eq86, else-byte-eq61-via-else-byte-eq61}
use Rattle.yaml_event_text.proofs.slot.slot_of.Goals as goal

pub returns : goal.returns
returns c = closed c.args.text.now no_value (c.if-is_start_line.ensures.no)
  where
    no_value : IsScalarLine c.args.text.now → ⊥
    no_value q =
        elim c.else-byte-eq61.branch [
          | else-byte-eq61-via-then-byte-eq61+else-byte-eq86 w ↦ (let f = w.if-byte-eq86.false in absurd (omega (arith, f, w.byte-then-byte-eq61.ensures, q.1)))
          | else-byte-eq61-via-else-byte-eq61 w ↦ (let f = w.if-byte-eq61.false in absurd (omega (arith, f, c.byte.ensures, q.0)))
        ]
