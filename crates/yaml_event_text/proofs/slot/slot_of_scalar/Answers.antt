use Rattle.std.proofs.Common.{arith}
use Rattle.yaml_event_text.proofs.SlotLaws.{scalar_room}
use Rattle.yaml_event_text.proofs.slot.slot_of_scalar.Goals as goal

pub returns : goal.returns
returns c = scalar_room c.args.text.now c.requires (λ q. absurd (let f = c.if-sign-eq38.false in omega (arith, f, c.byte-sign.ensures, q))) (λ q. absurd (let f = c.if-sign-eq60.false in omega (arith, f, c.byte-sign.ensures, q)))
