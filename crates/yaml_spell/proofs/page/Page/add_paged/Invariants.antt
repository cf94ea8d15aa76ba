use Rattle.std.proofs.Common.{◌-◌, ◌≤◌, length, take}
use Rattle.yaml_spell.specs.Pieces.{TakesPiece}
use Rattle.yaml_spell.specs.Pages.{PageHolds}
use Rattle.yaml_spell.proofs.page.Page.add_paged.Given as goal

abbrev pub invariant-add : goal.invariant-add
invariant-add g l = TakesPiece (PageHolds g.W.Write.contents) l.initial.self l.initial.out l.self l.out (take l.at l.piece) × (l.at ≤ length l.piece)

abbrev pub decreases-add : goal.decreases-add
decreases-add g l = length l.piece - l.at
