-- A node that begins with a letter or a digit: it is a plain scalar, and has no properties.
use Rattle.std.proofs.Common.{◌≡◌, ◌≢◌, ℕ, inl, inr, List, Ok, Option, Some, None, false, refl}
use Rattle.std.specs.Prelude.{slice_get}
use Rattle.std.specs.Char.{is_ascii_alphanumeric}
use Rattle.yaml_definitions.specs.grammar.Rules.{Stands}
use Rattle.yaml_definitions.specs.grammar.Separation.{Ctx}
use Rattle.yaml_definitions.specs.grammar.Tags.{Handles}
use Rattle.yaml_text.proofs.Runs.{no_stand}
use Rattle.yaml_layout.specs.PropertyDecisions.{IsProperty, IsOnly, IsRefused}
use Rattle.yaml_layout.specs.NodeDecisions.{DecidesPlain}
use Rattle.yaml_layout.specs.NodeRules.{NoOpening}
use Rattle.yaml_layout.specs.declared.flow.Kind.TheVariants.{Yaml, Json}
use Rattle.yaml_layout.specs.declared.flow.FlowNode.{FlowNode}
use Rattle.yaml_layout.proofs.PlainDecisions.{plain_content, bare_only, bare_refused, content_some, content_none}

module _ (cs : List ℕ) (i : ℕ) (word : Stands cs is_ascii_alphanumeric i) where
  pub word_not : (c : ℕ) → is_ascii_alphanumeric c ≡ false → slice_get cs i ≢ Some c
  word_not c f h = no_stand cs is_ascii_alphanumeric i c h f word

  pub word_no_property : IsProperty cs i → ⊥
  word_no_property (inl h) = word_not 33 refl h
  word_no_property (inr h) = word_not 38 refl h

  no_opening : NoOpening cs i
  no_opening = (word_not 91 refl, word_not 123 refl, word_not 39 refl, word_not 34 refl)

  module _ (handles : Handles) (room n : ℕ) (c : Ctx) (end : FlowNode → ℕ) (found : Option FlowNode) (decides : DecidesPlain cs n c i end (Ok found)) where
    pub word_only : (node : FlowNode) → found ≡ Some node → IsOnly cs handles room n c i node.kind (end node)
    word_only node e =
        bare_only cs handles room n c i (end node) node.kind word_no_property (word_not 42 refl) (content_some cs handles room n c i end found node e (plain_content cs handles room n c i end (Ok found) no_opening decides))

    pub word_refused : found ≡ None → IsRefused cs handles room n c i Yaml × IsRefused cs handles room n c i Json
    word_refused e =
        bare_refused cs handles room n c i word_no_property (word_not 42 refl) (content_none cs handles room n c i end found e (plain_content cs handles room n c i end (Ok found) no_opening decides))
