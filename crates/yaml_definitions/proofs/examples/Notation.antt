-- Event text: worked examples, computed.
use Rattle.std.proofs.Common.{◌≡◌, true, false, List, [], ◌∷◌, ◌++◌, refl}
use Rattle.std.specs.Prelude.{codes}
use Rattle.std.specs.declared.option.Option.TheVariants.{None, Some}
use Rattle.yaml_definitions.specs.model.Event.{plain, single, double, literal, folded, untagged, non_specific, full, Event, stream_start, stream_end, document_start, document_end, sequence_start, sequence_end, mapping_start, scalar_event, alias_event}
use Rattle.yaml_definitions.specs.model.Tag.{core_tag, int_tag}
use Rattle.yaml_definitions.specs.canonical.TagText.{spell_byte}
use Rattle.yaml_definitions.specs.grammar.Characters.{is_uri, is_word}
use Rattle.yaml_definitions.specs.model.EventText.{value_byte, event_line, events_text}

-- A stream of one document, `- &a !!int 1` and `- *a`: properties before the value, and an alias.
numbered : List Event
unfolding core_tag
numbered = stream_start ∷ document_start false ∷ sequence_start false None untagged ∷ scalar_event (Some (codes "a")) (full int_tag) plain (codes "1") ∷ alias_event (codes "a") ∷ sequence_end ∷ document_end false ∷ stream_end ∷ []

properties_stand_before_the_value : events_text numbered ≡ codes "+STR\n+DOC\n+SEQ\n=VAL &a <tag:yaml.org,2002:int> :1\n=ALI *a\n-SEQ\n-DOC\n-STR\n"
unfolding numbered events_text event_line value_byte spell_byte is_uri is_word core_tag
properties_stand_before_the_value = refl

-- A document with both marks, `---` and `...`, and a literal scalar whose LF is escaped.
marked : List Event
marked = stream_start ∷ document_start true ∷ scalar_event None untagged literal (codes "a\n") ∷ document_end true ∷ stream_end ∷ []

marks_and_line_feed_are_told : events_text marked ≡ codes "+STR\n+DOC ---\n=VAL |a\\n\n-DOC ...\n-STR\n"
unfolding marked events_text event_line value_byte
marks_and_line_feed_are_told = refl

-- A flow collection's mark stands before its properties.
flow_before_properties : event_line (mapping_start true (Some (codes "m")) non_specific) ≡ codes "+MAP {} &m <!>"
unfolding event_line
flow_before_properties = refl

flow_sequence : event_line (sequence_start true None (full (codes "!x"))) ≡ codes "+SEQ [] <!x>"
unfolding event_line spell_byte is_uri is_word
flow_sequence = refl

-- A tag's bytes that are no URI characters, and the percent sign, are percent-encoded.
tag_is_encoded : event_line (scalar_event None (full (37 ∷ 195 ∷ 169 ∷ [])) single []) ≡ codes "=VAL <%25%C3%A9> '"
unfolding event_line value_byte spell_byte is_uri is_word
tag_is_encoded = refl

-- The backslash and four controls of a value are escaped, and all else stands as itself, an escape character too.
value_is_escaped : event_line (scalar_event None untagged double (92 ∷ 10 ∷ 9 ∷ 13 ∷ 8 ∷ 27 ∷ 34 ∷ [])) ≡ codes "=VAL \"\\\\\\n\\t\\r\\b" ++ (27 ∷ 34 ∷ [])
unfolding event_line value_byte
value_is_escaped = refl

folded_mark : event_line (scalar_event None untagged folded (codes " >")) ≡ codes "=VAL > >"
unfolding event_line value_byte
folded_mark = refl
