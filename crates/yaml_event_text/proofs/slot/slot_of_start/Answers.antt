use Rattle.std.proofs.Common.{sym, ◌∙◌, arith}
use Rattle.yaml_event_text.proofs.SlotLaws.{block_room, flow_room}
use Rattle.yaml_event_text.proofs.slot.slot_of_start.Goals as goal

pub returns-then-byte-eq10 : goal.returns-then-byte-eq10
returns-then-byte-eq10 c = block_room c.args.text.now c.requires (sym c.byte.ensures ∙ c.if-byte-eq10.true)

pub returns-then-byte-eq10-2 : goal.returns-then-byte-eq10-2
returns-then-byte-eq10-2 c =
    flow_room c.args.text.now c.requires
    (λ q. absurd (let f = c.if-byte-eq10.false in omega (arith, f, c.byte.ensures, q)))
    (λ q. absurd (let f = c.if-mark-eq38.false in omega (arith, f, c.byte-mark.ensures, q)))
    (λ q. absurd (let f = c.if-mark-eq60.false in omega (arith, f, c.byte-mark.ensures, q)))
    (sym c.byte-2.ensures ∙ c.if-byte-eq10-2.true)
