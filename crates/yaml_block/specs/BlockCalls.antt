-- Block nodes and their parts at a level: where they begin and end, by which rule they are read, and what is decided of them (YAML 1.2.2, 8.2).
use Rattle.std.specs.Prelude.{◌≡◌, ◌⊎◌, ◌++◌, ℕ, ◌+◌, ◌-◌, ◌<◌, ◌≤◌, List, [], ◌∷◌, Result, Ok, Err, Option, Some, None, MatchOption}
use Rattle.std.specs.Char.{is_ascii_alphanumeric}
use Rattle.yaml_definitions.specs.model.Event.{Event, mapping_end}
use Rattle.yaml_definitions.specs.grammar.Rules.{Rule, Stands, gives}
use Rattle.yaml_definitions.specs.grammar.Separation.{flow_out, block_key, block_in, s-l-comments as s_l_comments, AtEnd, DocumentMark}
use Rattle.yaml_definitions.specs.grammar.Events.{Props}
use Rattle.yaml_definitions.specs.grammar.Nodes.{wide}
use Rattle.yaml_text.specs.Lines.{AfterLine, Inside}
use Rattle.yaml_text.specs.Source.{text_of, place_of, IsBorder}
use Rattle.yaml_text.specs.EventModel.{context_of}
use Rattle.yaml_text.specs.declared.chars.Chars.{Chars}
use Rattle.yaml_text.specs.declared.context.Ctx.TheVariants.{FlowOut, BlockOut, BlockIn}
use Rattle.yaml_text.specs.declared.fault.Fault.{Fault}
use Rattle.yaml_text.specs.declared.fault.Fault.TheVariants.{OutOfMemory}
use Rattle.yaml_mark.specs.HandlesModel.{handles_of}
use Rattle.yaml_sink.specs.PropertyRules.{props_of, SomeProperties, Disjoint}
use Rattle.yaml_sink.specs.declared.properties.Properties.{Properties}
use Rattle.law_one_reading.specs.Readings.{End}
use Rattle.law_one_reading.specs.Follows.{Fresh, DashHere}
use Rattle.law_going_on.specs.GoingOn.{Refused, Goes, Rest, Here}
use Rattle.yaml_layout.specs.NodeAnswer.{Appends, Decides}
use Rattle.yaml_layout.specs.PropertyDecisions.{LineGoesOn, IsOnly}
use Rattle.yaml_layout.specs.PropertyPlaces.{StandFrom}
use Rattle.yaml_layout.specs.Keys.{ColonAfter}
use Rattle.yaml_layout.specs.Lines.{IsLine, IsDash, IsBlock}
use Rattle.yaml_layout.specs.NodeLevels.{StartsWith}
use Rattle.yaml_layout.specs.declared.level.Level.{Level}
use Rattle.yaml_layout.specs.declared.line.Line.{Line}
use Rattle.yaml_layout.specs.declared.properties.Head.{Head}
use Rattle.yaml_block.specs.BlockRules.{least_dash, node_rest, line_rest, value_rest, entry_rest, key_rest, entries_rest, sequence_with}
use Rattle.yaml_block.specs.BlockEnds.{AfterNode, AfterEntry, AfterSequence, AfterMapping, AfterColon, NoneIn, IsFurther, SignIs, IsStyleSign}
use Rattle.yaml_block.specs.KeyFits.{FitsAgain, NoneBelow}
use Rattle.yaml_block.specs.OuterRules.{Outer, Above, Follows, MayBear, column_of}
use Rattle.yaml_block.specs.declared.block.signs.Block.{Block}
use Rattle.yaml_block.specs.declared.block.signs.Below.{Below}
use Rattle.yaml_block.specs.declared.block.signs.Below.TheVariants as below
use Rattle.yaml_block.specs.declared.block.signs.Sign.{Sign}
use Rattle.yaml_block.specs.declared.block.signs.Indicator.{Indicator}
use Rattle.yaml_block.specs.declared.block.nodes.Site.{Site}
use Rattle.yaml_block.specs.declared.block.nodes.Opened.{Opened}
use Rattle.yaml_block.specs.declared.block.nodes.Opened.TheVariants.{Whole, Mapping, Sequence}
use Rattle.yaml_block.specs.declared.block.keys.Begun.{Begun}

-- the level of the flow nodes that stand at a block level
abbrev pub flow_level : Level → Level
flow_level level = record { handles = level.handles; least = level.least; context = FlowOut; room = level.room }

-- ---- where they begin

module _ (source : Chars) where
  -- in this column or further right
  pub record StartsIn (column at : ℕ) : Type 0 where
    pub border : IsBorder source at
    pub low : column ≤ at

  -- a block scalar
  pub record StartsScalar (col at : ℕ) (block : Block) : Type 0 where
    pub border : IsBorder source at
    pub low : col ≤ at
    pub sign : SignIs (text_of source) (place_of source at) block

  -- a sequence, with its first dash
  pub record StartsSequence (first : Indicator) : Type 0 where
    pub border : IsBorder source first.at
    pub dash : IsDash source first.at first.after
    pub low : first.column ≤ first.at

  -- the line of a collection's next entry, if it has one
  pub record StartsEntryLine (next : Line) : Type 0 where
    pub line : IsLine source next
    pub after : AfterLine (text_of source) (place_of source next.start)

module _ (source : Chars) (level : Level) where
  -- what stands in a collection of this level and column, after the dash or the colon that ends at a border
  pub record StartsInside (column at : ℕ) : Type 0 where
    pub border : IsBorder source at
    pub low : column < at
    pub inside : Inside (text_of source) (place_of source at)
    pub some : 0 < level.room

  -- the same at the level of what stands in the collection, a sequence
  pub record StartsEntry (column at : ℕ) : Type 0 where
    pub border : IsBorder source at
    pub low : column < at
    pub inside : Inside (text_of source) (place_of source at)
    pub least : level.least ≡ column + 1
    pub block : context_of level.context ≡ block_in

  -- a value, after its colon or mark
  pub record StartsBlockValue (at : ℕ) : Type 0 where
    pub border : IsBorder source at
    pub low : level.least ≤ at
    pub block : IsBlock (context_of level.context)
    pub inside : Inside (text_of source) (place_of source at) ⊎ (level.least ≡ 0)

  -- a value that begins with a letter or a digit
  pub record StartsWord (at : ℕ) : Type 0 where
    pub border : IsBorder source at
    pub low : level.least ≤ at
    pub block : IsBlock (context_of level.context)
    pub word : Stands (text_of source) is_ascii_alphanumeric (place_of source at)

  -- a line below a parent
  pub record StartsBelow (next : Line) : Type 0 where
    pub line : IsLine source next
    pub low : level.least ≤ next.start
    pub block : IsBlock (context_of level.context)
    pub after : AfterLine (text_of source) (place_of source next.start)

  -- a line below a node's properties
  pub record StartsUnder (next : Line) (head : Head) : Type 0 where
    pub line : IsLine source next
    pub border : IsBorder source head.at
    pub low : level.least ≤ head.at
    pub order : head.at ≤ next.start
    pub block : IsBlock (context_of level.context)
    pub marks : SomeProperties (text_of source) (handles_of level.handles) level.least flow_out (place_of source head.at) (place_of source head.end) (props_of head.own)
    pub comments : s_l_comments (text_of source) (place_of source head.end) (place_of source next.start)
    pub after : AfterLine (text_of source) (place_of source next.start)
    pub above : Above (text_of source) (handles_of level.handles) level.least (place_of source head.at) (place_of source head.end) (props_of head.own)

  -- a flow node that was read and is a key
  pub record IsFirstKey (head : Head) (begun : Begun) : Type 0 where
    pub starts : StartsWith source (flow_level level) head
    pub stop : IsBorder source begun.node.end
    pub goes_on : LineGoesOn (text_of source) (place_of source head.end) (props_of head.own)
    pub key : IsOnly (text_of source) (handles_of level.handles) level.room level.least flow_out (place_of source head.at) begun.node.kind (place_of source begun.node.end)

  -- it was put down again where it opened as many collections as may be open in the mapping's place, and opens fewer now
  abbrev pub ReadsFirstKey : {S : Type 0} → Head → Begun → (S → List Event → Type 0) → S → S → Type 0
  ReadsFirstKey head begun holds before after =
      FitsAgain (text_of source) (handles_of level.handles) level.least (props_of head.own) (place_of source head.end) (place_of source head.at) (place_of source begun.node.end) begun.node.deep begun.node.kind level.room holds begun.start before after

  -- memory is refused, or no flow node that opens fewer goes on there
  abbrev pub NoKeyFits : Head → Fault → Type 0
  NoKeyFits head fault = (fault ≡ OutOfMemory) ⊎ NoneBelow (text_of source) (handles_of level.handles) level.room level.least (place_of source head.at)

-- a node, whose first character stands at a border, with its outer properties
module _ (source : Chars) (site : Site) (outer : Properties) where
  pub record StartsBlockNode (at : ℕ) : Type 0 where
    pub border : IsBorder source at
    pub start : IsBorder source site.from
    pub order : site.from ≤ at
    pub low : site.level.now.least ≤ site.from
    pub block : IsBlock (context_of site.level.now.context)
    pub column : MatchOption site.column (Unit {0}) (λ k. k ≤ at)
    pub wide : MatchOption site.column (Unit {0}) (λ k. site.level.now.least ≤ k)
    pub above : Outer (text_of source) (handles_of site.level.now.handles) site.level.now.least site.column (place_of source site.from) (place_of source at) (props_of outer)

  -- with its own properties too, after which its line goes on
  pub record StartsDressed (head : Head) : Type 0 where
    pub node : StartsBlockNode head.at
    pub own : StandFrom source site.level.now.handles 0 block_key head.at head.end head.own
    pub goes_on : LineGoesOn (text_of source) (place_of source head.end) (props_of head.own)

-- ---- where they end

module _ (source : Chars) where
  -- at the start of a line, here or further on
  pub record EndsLine (at : ℕ) (next : Line) : Type 0 where
    pub line : IsLine source next
    pub onward : at ≤ next.start
    pub after : AfterLine (text_of source) (place_of source next.start)

  -- a key, after its colon
  pub record EndsKey (at after : ℕ) : Type 0 where
    pub border : IsBorder source after
    pub onward : at < after

  -- a node that is no key, and may have the properties
  pub record EndsNode (head : Head) (outer : Properties) (end : ℕ) (next : Line) : Type 0 where
    pub line : IsLine source next
    pub onward : end ≤ next.start
    pub comments : s_l_comments (text_of source) (place_of source end) (place_of source next.start)
    pub after : AfterLine (text_of source) (place_of source next.start)
    pub apart : Disjoint (props_of outer) (props_of head.own)
    pub bears : MayBear (text_of source) (place_of source head.at) (props_of outer)

-- ---- what stands there

module _ (source : Chars) where
  -- a collection's next entry begins in this column of the line
  pub record IsNext (line : Line) (k : ℕ) : Type 0 where
    pub column : line.column ≡ k
    pub some : AtEnd (text_of source) (place_of source line.start) → ⊥
    pub no_mark : DocumentMark (text_of source) (place_of source line.start) → ⊥

  -- with its dash
  pub record IsNextDash (line : Line) (k after : ℕ) : Type 0 where
    pub column : line.column ≡ k
    pub dash : IsDash source line.first after

  -- content that is no dash, indented enough
  pub record NodeBelow (level : Level) (line : Line) : Type 0 where
    pub no_dash : DashHere (text_of source) (place_of source line.first) → ⊥
    pub far : level.least ≤ line.column
    pub some : AtEnd (text_of source) (place_of source line.start) → ⊥
    pub no_mark : DocumentMark (text_of source) (place_of source line.start) → ⊥

  -- what begins on a line below a parent: nothing, since there is no content, or a dash or other content too far to the left; a sequence, with the border after its dash; or another node
  module _ (level : Level) (line : Line) where
    abbrev pub IsBelow : Below → Type 0
    IsBelow below.Nothing =
        (Fresh (text_of source) (place_of source line.first) → ⊥)
        ⊎ (DashHere (text_of source) (place_of source line.first) × (line.column < least_dash level.least (context_of level.context)))
        ⊎ ((DashHere (text_of source) (place_of source line.first) → ⊥) × (line.column < level.least))
    IsBelow (below.Sequence after) = IsDash source line.first after × (least_dash level.least (context_of level.context) ≤ line.column)
    IsBelow below.Node = NodeBelow level line

  -- what a block scalar begins with, after the node's own properties
  pub record IsSign (head : Head) (found : Sign) : Type 0 where
    pub border : IsBorder source found.at
    pub onward : head.at ≤ found.at
    pub follows : Follows (text_of source) (place_of source head.at) (place_of source head.end) (place_of source found.at) (props_of head.own)
    pub sign : SignIs (text_of source) (place_of source found.at) found.block

  -- nothing that a block scalar begins with
  abbrev pub NoSign : Head → Type 0
  NoSign head = (n : ℕ) → Follows (text_of source) (place_of source head.at) (place_of source head.end) n (props_of head.own) → IsStyleSign (text_of source) n → ⊥

  -- the colon, with the border after it, that makes a node a mapping's first key, and the mapping's column
  pub record IsFirstColon (at end : ℕ) (column : Option ℕ) (k after : ℕ) : Type 0 where
    pub some : column ≡ Some k
    pub border : IsBorder source after
    pub further : end < after
    pub colon : ColonAfter (text_of source) (place_of source at) (place_of source end) (place_of source after)

-- ---- by which rule they are read

abbrev pub RuleAt : Type 1
RuleAt = Chars → Level → Rule (List Event)

abbrev pub value_rule : RuleAt
value_rule source level = value_rest (text_of source) wide (handles_of level.handles) level.room level.least (context_of level.context)

abbrev pub line_rule : RuleAt
line_rule source level = line_rest (text_of source) wide (handles_of level.handles) level.room level.least (context_of level.context)

abbrev pub key_rule : RuleAt
key_rule source level = key_rest (text_of source) wide (handles_of level.handles) level.room

-- a node whose mapping may stand in this column without properties, if in any
abbrev pub node_rule : Option ℕ → RuleAt
node_rule column source level = node_rest (text_of source) wide (handles_of level.handles) level.room level.least (context_of level.context) column

abbrev pub site_rule : Site → Properties → RuleAt
site_rule site outer = node_rule (column_of (props_of outer) site.column)

abbrev pub sequence_rule : Props → ℕ → RuleAt
sequence_rule p k source level = sequence_with (text_of source) wide (handles_of level.handles) p level.room k

-- what stands in a sequence or a mapping of this column, in which one collection less may be opened
abbrev pub entry_rule : ℕ → RuleAt
entry_rule k source level = entry_rest (text_of source) wide (handles_of level.handles) (level.room - 1) k

-- the same at the level of what stands in the entry
abbrev pub inner_rule : ℕ → RuleAt
inner_rule k source level = entry_rest (text_of source) wide (handles_of level.handles) level.room k

abbrev pub entries_rule : ℕ → RuleAt
entries_rule k source level = entries_rest (text_of source) wide (handles_of level.handles) (level.room - 1) k

-- the same with the mapping's end
abbrev pub closed_rule : ℕ → RuleAt
closed_rule k source level i j es = (vs : List Event) × (es ≡ vs ++ (mapping_end ∷ [])) × entries_rule k source level i j vs

-- ---- what is read, from `at` on, up to a line or a key's end

abbrev pub ReadsLine : {S : Type 0} → RuleAt → Chars → Level → ℕ → (S → List Event → Type 0) → S → S → Result Line Fault → Type 0
ReadsLine R source level at holds old new result = Appends (λ _. R source level) (place_of source at) (λ line. place_of source line.start) holds old new result

abbrev pub ReadsKey : {S : Type 0} → Chars → Level → ℕ → (S → List Event → Type 0) → S → S → Result ℕ Fault → Type 0
ReadsKey source level at holds old new result = Appends (λ _. key_rule source level) (place_of source at) (place_of source) holds old new result

-- ---- what is decided, from `at` on

module _ (source : Chars) (level : Level) (at : ℕ) where
  abbrev pub DecidesLine : Rule (List Event) → End → Result Line Fault → Type 0
  DecidesLine R E result = Decides R E (place_of source at) Here (λ line. place_of source line.start) result

  -- a node, or what may stand in its place
  abbrev pub DecidesBlockNode : RuleAt → Result Line Fault → Type 0
  DecidesBlockNode R = DecidesLine (R source level) (AfterNode (text_of source) level.least (context_of level.context))

  abbrev pub DecidesSequence : Props → ℕ → Result Line Fault → Type 0
  DecidesSequence p k = DecidesLine (sequence_rule p k source level) (AfterSequence (text_of source) k)

  abbrev pub DecidesEntry : ℕ → Result Line Fault → Type 0
  DecidesEntry k = DecidesLine (entry_rule k source level) (AfterEntry (text_of source) k)

  abbrev pub DecidesEntries : ℕ → Result Line Fault → Type 0
  DecidesEntries k = DecidesLine (entries_rule k source level) (AfterMapping (text_of source) k)

  abbrev pub DecidesKey : Result ℕ Fault → Type 0
  DecidesKey result = Decides (key_rule source level) (AfterColon (text_of source)) (place_of source at) Here (place_of source) result

-- the key of a mapping's next entry, which begins in column k of a line
module _ (source : Chars) (level : Level) (line : Line) (k : ℕ) where
  abbrev pub DecidesNextKey : Result (Option ℕ) Fault → Type 0
  DecidesNextKey (Ok (Some after)) = EndsKey source line.first after × IsNext source line k × Goes (key_rule source level) (AfterColon (text_of source)) (place_of source line.first) Here (place_of source after)
  DecidesNextKey (Ok None) = NoneIn source line k
  DecidesNextKey (Err e) = (e ≡ OutOfMemory) ⊎ IsFurther source line k ⊎ (IsNext source line k × Refused (key_rule source level) (AfterColon (text_of source)) (place_of source line.first))

-- the level of what stands in the entries of a sequence in this column, and after the colons of a mapping
abbrev pub entry_level : Level → ℕ → Level
entry_level level k = record { handles = level.handles; least = k + 1; context = BlockIn; room = level.room - 1 }

abbrev pub entries_level : Level → ℕ → Level
entries_level level k = record { handles = level.handles; least = k + 1; context = BlockOut; room = level.room - 1 }

-- ---- a node of which the start was read

-- where what is left of it begins
abbrev pub opened_at : Opened → ℕ
opened_at (Whole line) = line.start
opened_at (Mapping k after) = after
opened_at (Sequence first p) = first.at

-- by which rule the rest is read, with its events and as what decides it
abbrev pub rest_rule : Opened → RuleAt
rest_rule (Whole line) source level = gives []
rest_rule (Mapping k after) source level = closed_rule k source level
rest_rule (Sequence first p) source level = sequence_rule (props_of p) first.column source level

abbrev pub left_rule : Opened → RuleAt
left_rule (Whole line) source level = gives []
left_rule (Mapping k after) source level = entries_rule k source level
left_rule (Sequence first p) source level = sequence_rule (props_of p) first.column source level

abbrev pub rest_end : Opened → List ℕ → End
rest_end (Whole line) cs = Here
rest_end (Mapping k after) cs = AfterMapping cs k
rest_end (Sequence first p) cs = AfterSequence cs first.column

-- the first events of a reading, which those of the rest complete
abbrev pub begins : Rule (List Event) → Rule (List Event) → Rule (List Event)
begins R S i a es = (j : ℕ) (vs : List Event) → S a j vs → R i j (es ++ vs)

module _ (source : Chars) (level : Level) where
  abbrev pub StartsOpened : Opened → Type 0
  StartsOpened (Whole line) = EndsLine source line.start line
  StartsOpened (Mapping k after) = StartsInside source level k after
  StartsOpened (Sequence first p) = StartsSequence source first

  pub record EndsOpened (at : ℕ) (found : Opened) : Type 0 where
    pub starts : StartsOpened found
    pub onward : at ≤ opened_at found

  abbrev pub DecidesRest : Opened → Result Line Fault → Type 0
  DecidesRest found = Decides (left_rule found source level) (rest_end found (text_of source)) (place_of source (opened_at found)) Here (λ line. place_of source line.start)

abbrev pub ReadsOpened : {S : Type 0} → RuleAt → Chars → Level → ℕ → (S → List Event → Type 0) → S → S → Result Opened Fault → Type 0
ReadsOpened R source level at holds old new result = Appends (λ found. begins (R source level) (rest_rule found source level)) (place_of source at) (λ found. place_of source (opened_at found)) holds old new result

module _ (source : Chars) (level : Level) (at : ℕ) where
  abbrev pub DecidesOpened : Rule (List Event) → End → Result Opened Fault → Type 0
  DecidesOpened R E (Ok found) = Rest R E (place_of source at) (left_rule found source level) (rest_end found (text_of source)) (place_of source (opened_at found))
  DecidesOpened R E (Err e) = (e ≡ OutOfMemory) ⊎ Refused R E (place_of source at)

  abbrev pub DecidesOpenedNode : RuleAt → Result Opened Fault → Type 0
  DecidesOpenedNode R = DecidesOpened (R source level) (AfterNode (text_of source) level.least (context_of level.context))
