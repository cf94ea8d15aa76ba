-- What the code's events, styles and contexts are as plain values.
use Rattle.std.specs.Prelude.{◌≡◌, ◌++◌, List, map}
use Rattle.std.specs.Option.{option_map}
use Rattle.std.specs.Cow.{cow_str_bytes}
use Rattle.yaml_definitions.specs.model.Event.{Event, Style, WrittenTag, untagged, non_specific, full, stream_start, stream_end, document_start, document_end, sequence_start, sequence_end, mapping_start, mapping_end, scalar_event, alias_event}
use Rattle.yaml_definitions.specs.model.Event as plain
use Rattle.yaml_definitions.specs.grammar.Separation.{Ctx, block_out, block_in, flow_out, flow_in, block_key, flow_key}
use Rattle.yaml_text.specs.declared.event.Event as code
use Rattle.yaml_text.specs.declared.event.Event.TheVariants as events
use Rattle.yaml_text.specs.declared.event.EventTag as code_tag
use Rattle.yaml_text.specs.declared.event.EventTag.TheVariants as tags
use Rattle.yaml_text.specs.declared.event.Style as code_style
use Rattle.yaml_text.specs.declared.event.Style.TheVariants as styles
use Rattle.yaml_text.specs.declared.context.Ctx as code_context
use Rattle.yaml_text.specs.declared.context.Ctx.TheVariants as contexts

abbrev pub style_of : code_style.Style → Style
style_of styles.Plain = plain.plain
style_of styles.Single = plain.single
style_of styles.Double = plain.double
style_of styles.Literal = plain.literal
style_of styles.Folded = plain.folded

abbrev pub written_of : code_tag.EventTag → WrittenTag
written_of tags.None = untagged
written_of tags.NonSpecific = non_specific
written_of (tags.Full tag) = full (cow_str_bytes tag)

abbrev pub event_of : code.Event → Event
event_of events.StreamStart = stream_start
event_of events.StreamEnd = stream_end
event_of (events.DocumentStart explicit) = document_start explicit
event_of (events.DocumentEnd explicit) = document_end explicit
event_of (events.SequenceStart flow anchor tag) = sequence_start flow (option_map cow_str_bytes anchor) (written_of tag)
event_of events.SequenceEnd = sequence_end
event_of (events.MappingStart flow anchor tag) = mapping_start flow (option_map cow_str_bytes anchor) (written_of tag)
event_of events.MappingEnd = mapping_end
event_of (events.Scalar anchor tag style text) = scalar_event (option_map cow_str_bytes anchor) (written_of tag) (style_of style) (cow_str_bytes text)
event_of (events.Alias name) = alias_event (cow_str_bytes name)

abbrev pub context_of : code_context.Ctx → Ctx
context_of contexts.BlockOut = block_out
context_of contexts.BlockIn = block_in
context_of contexts.FlowOut = flow_out
context_of contexts.FlowIn = flow_in
context_of contexts.BlockKey = block_key
context_of contexts.FlowKey = flow_key

-- the new list is the old one with these events at its end
abbrev pub Adds : List code.Event → List Event → List code.Event → Type 0
Adds old es new = map event_of new ≡ map event_of old ++ es
