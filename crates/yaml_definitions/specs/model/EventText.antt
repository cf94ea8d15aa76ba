-- The text of events, in yaml-test-suite's notation: a line of bytes for each event, ended by LF.
use Rattle.std.specs.Prelude.{◌≡◌, ℕ, Bool, true, cond, ◌==◌, if◌then◌else◌, List, [], ◌∷◌, ◌++◌, codes}
use Rattle.std.specs.List.{All}
use Rattle.std.specs.Str.{is_utf8}
use Rattle.std.specs.declared.option.Option.TheVariants.{None, Some}
use Rattle.yaml_definitions.specs.model.Event.{Style, plain, single, double, literal, folded, WrittenTag, untagged, non_specific, full, Anchor, Event, stream_start, stream_end, document_start, document_end, sequence_start, sequence_end, mapping_start, mapping_end, scalar_event, alias_event}
use Rattle.yaml_definitions.specs.model.Sound.{SoundTag, IsAnchor, SoundAnchor}
use Rattle.yaml_definitions.specs.canonical.TagText.{encoded}

-- ---- the lines

-- a byte of a value: the backslash, LF, tab, CR and x08 are escaped
unfoldable pub value_byte : ℕ → List ℕ
value_byte b =
    if b == 92 then codes "\\\\"
    else if b == 10 then codes "\\n"
    else if b == 9 then codes "\\t"
    else if b == 13 then codes "\\r"
    else if b == 8 then codes "\\b"
    else b ∷ []

abbrev pub value_text : List ℕ → List ℕ
value_text [] = []
value_text (b ∷ bs) = value_byte b ++ value_text bs

abbrev pub style_text : Style → List ℕ
style_text plain = codes " :"
style_text single = codes " '"
style_text double = codes " \""
style_text literal = codes " |"
style_text folded = codes " >"

abbrev pub anchor_part : Anchor → List ℕ
anchor_part None = []
anchor_part (Some name) = codes " &" ++ name

-- percent-encoded, as in canonical text
abbrev pub tag_part : WrittenTag → List ℕ
tag_part untagged = []
tag_part non_specific = codes " <!>"
tag_part (full g) = codes " <" ++ encoded g (codes ">")

abbrev pub flag_text : Bool → List ℕ → List ℕ
flag_text flag text = cond flag text []

-- without its LF
unfoldable pub event_line : Event → List ℕ
event_line stream_start = codes "+STR"
event_line stream_end = codes "-STR"
event_line (document_start explicit) = codes "+DOC" ++ flag_text explicit (codes " ---")
event_line (document_end explicit) = codes "-DOC" ++ flag_text explicit (codes " ...")
event_line (sequence_start flow a g) = codes "+SEQ" ++ (flag_text flow (codes " []") ++ (anchor_part a ++ tag_part g))
event_line sequence_end = codes "-SEQ"
event_line (mapping_start flow a g) = codes "+MAP" ++ (flag_text flow (codes " {}") ++ (anchor_part a ++ tag_part g))
event_line mapping_end = codes "-MAP"
event_line (scalar_event a g style x) = codes "=VAL" ++ (anchor_part a ++ (tag_part g ++ (style_text style ++ value_text x)))
event_line (alias_event name) = codes "=ALI *" ++ name

unfoldable pub events_text : List Event → List ℕ
events_text [] = []
events_text (e ∷ es) = event_line e ++ (10 ∷ events_text es)

-- ---- the events that have a text

-- names are of anchor characters, full tags are tags, and texts are UTF-8
abbrev pub IsSound : Event → Type 0
IsSound (sequence_start flow a g) = SoundAnchor a × SoundTag g
IsSound (mapping_start flow a g) = SoundAnchor a × SoundTag g
IsSound (scalar_event a g style x) = SoundAnchor a × SoundTag g × (is_utf8 x ≡ true)
IsSound (alias_event name) = IsAnchor name
IsSound _ = Unit {0}

-- The bytes are the lines of these events, one after the other.
pub record EventText (bytes : List ℕ) (events : List Event) : Type 0 where
  pub sound : All IsSound events
  pub lines : bytes ≡ events_text events
