-- Where any reading goes on, the one that ends furthest does; and how deep readings are.
use Rattle.std.specs.Prelude.{◌≡◌, ℕ, ◌≤◌, List, Bool}
use Rattle.yaml_definitions.specs.model.Event.{Event}
use Rattle.yaml_definitions.specs.grammar.Rules.{furthest}
use Rattle.yaml_definitions.specs.grammar.Separation.{Ctx, flow_in, flow_out}
use Rattle.yaml_definitions.specs.grammar.FlowScalars.{ns-plain as plain, c-single-quoted as single, c-double-quoted as double}
use Rattle.yaml_definitions.specs.grammar.BlockScalars.{c-l+literal as literal, c-l+folded as folded}
use Rattle.yaml_definitions.specs.grammar.Laws.{Profile}
use Rattle.yaml_definitions.specs.grammar.Tags.{Handles}
use Rattle.yaml_definitions.specs.grammar.Nodes.{Part, reads}
use Rattle.law_one_reading.specs.Readings.{At}
use Rattle.law_one_reading.specs.Follows.{Stuck, Over, EndsNode}
use Rattle.law_going_on.specs.GoingOn.{Goes, Here}
use Rattle.law_going_on.specs.FlowEnds.{EndsYaml}
use Rattle.law_going_on.specs.Depth.{peak}

-- At block level a plain scalar is followed by the rest of a line and what is less indented, or by a key's colon.
abbrev pub PlainGoesOn : Type 0
PlainGoesOn = (cs : List ℕ) (col d i x : ℕ) (w : List ℕ) → furthest (plain cs col flow_out) i x w → Goes (plain cs col flow_out) (At (EndsNode cs col d)) i (At (EndsNode cs col d)) x

-- Between brackets it is followed by separation, and a comma, a bracket or a key's colon.
abbrev pub PlainInFlowGoesOn : Type 0
PlainInFlowGoesOn = (cs : List ℕ) (n i x : ℕ) (w : List ℕ) → furthest (plain cs n flow_in) i x w → Goes (plain cs n flow_in) (At (EndsYaml cs n)) i (At (EndsYaml cs n)) x

-- A quoted scalar has one end, whatever follows it.
abbrev pub SingleEnds : Type 0
SingleEnds = (cs : List ℕ) (n : ℕ) (c : Ctx) (i j k : ℕ) (v w : List ℕ) → single cs n c i j v → single cs n c i k w → j ≡ k

abbrev pub DoubleEnds : Type 0
DoubleEnds = (cs : List ℕ) (n : ℕ) (c : Ctx) (i j k : ℕ) (v w : List ℕ) → double cs n c i j v → double cs n c i k w → j ≡ k

-- After a block scalar the text goes on where its furthest reading ends, whatever line follows that is no comment.
abbrev pub LiteralGoesOn : Type 0
LiteralGoesOn = (cs : List ℕ) (col i x : ℕ) (w : List ℕ) → furthest (literal cs col) i x w → Goes (literal cs col) (Over cs (Stuck cs)) i Here x

abbrev pub FoldedGoesOn : Type 0
FoldedGoesOn = (cs : List ℕ) (col i x : ℕ) (w : List ℕ) → furthest (folded cs col) i x w → Goes (folded cs col) (Over cs (Stuck cs)) i Here x

-- No more collections are open at one place of a reading than there was room for.
abbrev pub ReadingsFit : Type 0
ReadingsFit = (cs : List ℕ) (wide : Bool) (handles : Handles) (room : ℕ) (p : Part) (i j : ℕ) (es : List Event) → reads cs (Profile wide) handles room p i j es → peak 0 es ≤ room
