-- What a warning shows of an event.
use Rattle.std.specs.Prelude.{◌==◌, ◌&&◌, ◌||◌, ℕ, Bool, nat_le, List, [], ◌++◌, Option, Some, None, codes, bytes_eq}
use Rattle.std.specs.Borrow.{Bor}
use Rattle.std.specs.List.{list_any}
use Rattle.yaml_definitions.specs.model.Event.{Event, Anchor, scalar_event, alias_event, sequence_start, mapping_start}
use Rattle.review_faults.specs.declared.label.Label.{Label as CodeLabel}

-- a sign, if there is one, and what is behind it
pub record Label : Type 0 where
  pub mark : List ℕ
  pub text : List ℕ

abbrev pub whole : Label → List ℕ
whole label = label.mark ++ label.text

-- it is one of these words
abbrev pub is_among : List (Bor (List ℕ)) → Label → Bool
is_among words label = list_any (λ word. bytes_eq word.now (whole label)) words

-- `[A-Za-z0-9_-]`, of which PyYAML, libyaml and yaml.v3 make names
abbrev pub is_name_byte : ℕ → Bool
is_name_byte c = (nat_le 65 c && nat_le c 90) || ((nat_le 97 c && nat_le c 122) || ((nat_le 48 c && nat_le c 57) || (c == 45 || c == 95)))

-- the anchor of the node that begins at an event
abbrev pub anchor_of : Event → Anchor
anchor_of (scalar_event a t style text) = a
anchor_of (sequence_start flow a t) = a
anchor_of (mapping_start flow a t) = a
anchor_of _ = None

abbrev pub alias_of : Event → Option Label
alias_of (alias_event name) = Some (record { mark = codes "*"; text = name })
alias_of _ = None

abbrev pub anchor_or : Anchor → Option Label → Option Label
anchor_or (Some name) or = Some (record { mark = codes "&"; text = name })
anchor_or None or = or

-- the name of an anchor or an alias, with its sign
abbrev pub name_of : Event → Option Label
name_of e = anchor_or (anchor_of e) (alias_of e)

-- the text of a scalar, or the name of an alias with its sign
abbrev pub node_of : Event → Option Label
node_of (scalar_event a t style text) = Some (record { mark = []; text = text })
node_of e = alias_of e

-- what the code has of it
abbrev pub label_of : CodeLabel → Label
label_of label = record { mark = label.mark.now; text = label.text.now }
