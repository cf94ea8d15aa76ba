use Rattle.std.proofs.Common.{length}
use denote.Shadow.{shadow}
use denote.Text.{Utf8}
use Rattle.yaml_spell.specs.Pages.{PageHolds}
use Rattle.yaml_spell.proofs.SpelledLaws.{Spelled}
use Rattle.yaml_spell.proofs.page.Page.add_pieces.Given as goal

abbrev pub invariant-spell : goal.invariant-spell
invariant-spell g l = Spelled (PageHolds g.W.Write.contents) l.fn.self l.fn.out l.self l.out l.content l.rest × shadow (Utf8 l.rest)

abbrev pub decreases-spell : goal.decreases-spell
decreases-spell g l = length l.rest
