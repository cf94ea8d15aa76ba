-- Flow nodes at a level: where they begin and end, by which rule they are read, and what is decided of them (YAML 1.2.2, 7.4 and 7.5).
use Rattle.std.specs.Prelude.{◌≡◌, ◌≤◌, ◌<◌, ℕ, List, Result, Option}
use Rattle.yaml_definitions.specs.model.Event.{Event}
use Rattle.yaml_definitions.specs.grammar.Rules.{Rule}
use Rattle.yaml_definitions.specs.grammar.Nodes.{wide}
use Rattle.yaml_text.specs.Source.{text_of, place_of, IsBorder}
use Rattle.yaml_text.specs.EventModel.{context_of}
use Rattle.yaml_text.specs.declared.chars.Chars.{Chars}
use Rattle.yaml_text.specs.declared.fault.Fault.{Fault}
use Rattle.yaml_mark.specs.HandlesModel.{handles_of}
use Rattle.yaml_sink.specs.PropertyRules.{props_of, Own}
use Rattle.yaml_layout.specs.NodeAnswer.{Appends, Perhaps}
use Rattle.yaml_layout.specs.PropertyDecisions.{AllProperties, DecidesNode}
use Rattle.yaml_layout.specs.NodeDecisions.{DecidesPlain}
use Rattle.yaml_layout.specs.NodeRules.{flow_from, content_from, Bare}
use Rattle.yaml_layout.specs.declared.level.Level.{Level}
use Rattle.yaml_layout.specs.declared.properties.Head.{Head}
use Rattle.yaml_layout.specs.declared.flow.FlowNode.{FlowNode}

-- ---- where they begin

module _ (source : Chars) (level : Level) where
  -- a node
  pub record StartsNode (at : ℕ) : Type 0 where
    pub border : IsBorder source at
    pub low : level.least ≤ at

  -- a node that begins with its own properties, all that stand there
  pub record StartsWith (head : Head) : Type 0 where
    pub border : IsBorder source head.at
    pub end : IsBorder source head.end
    pub order : head.at ≤ head.end
    pub own : Own (text_of source) (handles_of level.handles) level.least (context_of level.context) (place_of source head.at) (place_of source head.end) (props_of head.own)
    pub all : AllProperties (text_of source) (handles_of level.handles) level.least (context_of level.context) (place_of source head.at) (place_of source head.end) (props_of head.own)
    pub low : level.least ≤ head.at

  -- ---- where they end

  -- at a border here or further on; no more collections are open in it than there is room for
  pub record Ends (at end deep : ℕ) : Type 0 where
    pub border : IsBorder source end
    pub onward : at ≤ end
    pub within : deep ≤ level.room

-- further on, and no collection is open in it
pub record EndsAlone (source : Chars) (at : ℕ) (node : FlowNode) : Type 0 where
  pub border : IsBorder source node.end
  pub onward : at < node.end
  pub within : node.deep ≡ 0

-- ---- by which rule they are read

abbrev pub RuleOfNode : Type 1
RuleOfNode = Chars → Level → FlowNode → Rule (List Event)

abbrev pub node_rule : RuleOfNode
node_rule source level node = flow_from (text_of source) wide (handles_of level.handles) node.deep node.kind level.least (context_of level.context)

abbrev pub content_rule : RuleOfNode
content_rule source level node = content_from (text_of source) wide (handles_of level.handles) node.deep node.kind level.least (context_of level.context)

abbrev pub bare_rule : Head → RuleOfNode
bare_rule head source level node = Bare (text_of source) wide (handles_of level.handles) node.deep node.kind level.least (context_of level.context) (props_of head.own) (place_of source head.end)

-- ---- what is read, from `at` on

abbrev pub ReadsNode : {S : Type 0} → RuleOfNode → Chars → Level → ℕ → (S → List Event → Type 0) → S → S → Result FlowNode Fault → Type 0
ReadsNode R source level at holds old new result = Appends (R source level) (place_of source at) (λ node. place_of source node.end) holds old new result

-- if anything is
abbrev pub FindsNode : {S : Type 0} → RuleOfNode → Chars → Level → ℕ → (S → List Event → Type 0) → S → S → Result (Option FlowNode) Fault → Type 0
FindsNode R source level at holds old new result = Perhaps (R source level) (place_of source at) (λ node. place_of source node.end) holds old new result

-- ---- what is decided, from `at` on

module _ (source : Chars) (level : Level) (at : ℕ) where
  abbrev pub DecidesNodeAt : Result FlowNode Fault → Type 0
  DecidesNodeAt result = DecidesNode (text_of source) (handles_of level.handles) level.room level.least (context_of level.context) (place_of source at) (λ node. place_of source node.end) result

  abbrev pub DecidesPlainAt : Result (Option FlowNode) Fault → Type 0
  DecidesPlainAt result = DecidesPlain (text_of source) level.least (context_of level.context) (place_of source at) (λ node. place_of source node.end) result
