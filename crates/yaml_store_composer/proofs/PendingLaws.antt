-- Kinds of collections, and what begins and ends them.
use Rattle.std.proofs.Common.{◌≡◌, refl, ◌∙◌, ap}
use Rattle.std.specs.Prelude.{Bool, Option, Some, None}
use Rattle.yaml_definitions.specs.model.Event.{Event, Anchor, WrittenTag}
use Rattle.yaml_definitions.specs.grammar.Events.{Props, no_props}
use Rattle.yaml_sink.specs.PropertyRules.{with_props}
use Rattle.yaml_sink.specs.SinkModel as sink
use Rattle.yaml_sink.specs.declared.sink.Collection.{Collection}
use Rattle.yaml_sink.specs.declared.sink.Collection.TheVariants as read
use Rattle.yaml_tree_builder.specs.TagModel.{kind_in}
use Rattle.yaml_store.specs.declared.nodes.Collection as store
use Rattle.yaml_store.specs.declared.nodes.Collection.TheVariants as kinds
use Rattle.yaml_tree_builder.specs.BuilderModel.{start_of, end_of}
use Rattle.yaml_store_composer.specs.PendingModel.{IsStartIn}
use Rattle.yaml_store_composer.specs.declared.pending.Above.{Above}

pub started : (k : Collection) (flow : Bool) (p : Props) → start_of (kind_in k) flow p.anchor p.tag ≡ with_props p (sink.start_of k flow)
started read.Sequence flow p = refl
started read.Mapping flow p = refl

pub started-again : (k : Collection) (flow : Bool) (p q : Props) → with_props p (with_props q (sink.start_of k flow)) ≡ with_props p (sink.start_of k flow)
started-again read.Sequence flow p q = refl
started-again read.Mapping flow p q = refl

pub bare : (k : Collection) (flow : Bool) → with_props no_props (sink.start_of k flow) ≡ sink.start_of k flow
bare read.Sequence flow = refl
bare read.Mapping flow = refl

pub ended : (k : Collection) → end_of (kind_in k) ≡ sink.end_of k
ended read.Sequence = refl
ended read.Mapping = refl

-- a collection's start with other properties
pub start-with : (k : store.Collection) (flow : Bool) (a : Anchor) (g : WrittenTag) (p : Props) → with_props p (start_of k flow a g) ≡ start_of k flow p.anchor p.tag
start-with kinds.Sequence flow a g p = refl
start-with kinds.Mapping flow a g p = refl

pub start-in-with : (w : Option Above) (e : Event) (p : Props) → IsStartIn w e → IsStartIn w (with_props p e)
start-in-with None e p s = tt
start-in-with (Some above) e p s = record { flow = s.flow; anchor = p.anchor; tag = p.tag; is = ap (with_props p) s.is ∙ start-with above.kind s.flow s.anchor s.tag p }
