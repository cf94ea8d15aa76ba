-- Why an event is warned of, and what the warning shows of it.
use Rattle.std.specs.Prelude.{◌≡◌, ◌==◌, ◌&&◌, ◌||◌, ℕ, Bool, false, cond, bytes_eq, List, [], ◌∷◌, Option, Some, None, option_map, codes}
use Rattle.std.specs.Borrow.{Bor}
use Rattle.std.specs.List.{list_all}
use Rattle.yaml_definitions.specs.model.Event.{Event, untagged, full, plain, scalar_event}
use Rattle.yaml_definitions.specs.model.Tag.{int_tag}
use Rattle.review_text.specs.Yaml11.{new_kind, older_of, IsOlder}
use Rattle.review_text.specs.declared.yaml11.Older.{Older}
use Rattle.review_text.specs.declared.yaml11.Older.TheVariants as olders
use Rattle.review_faults.specs.Labels.{Label, is_name_byte, name_of, node_of, is_among}
use Rattle.review_faults.specs.Slips.{slip_in}
use Rattle.review_faults.specs.declared.cause.Cause.{Cause}
use Rattle.review_faults.specs.declared.cause.Cause.TheVariants as causes
use Rattle.review_faults.specs.declared.keys.Reader.{Reader}
use Rattle.review_faults.specs.declared.slip.Around.{Around}

-- ---- names

-- another byte is in the name of an anchor or alias
abbrev pub odd_label : Option Label → Option Cause
odd_label None = None
odd_label (Some label) = cond (list_all is_name_byte label.text) None (Some causes.Name)

abbrev pub name_cause : Event → Option Cause
name_cause e = odd_label (name_of e)

-- ---- indicators

abbrev pub begins_indicator : List ℕ → Bool
begins_indicator [] = false
begins_indicator (c ∷ x) = c == 63 || c == 58

-- a plain scalar in a flow collection begins with `?` or `:`
abbrev pub indicator_cause : Bool → Event → Option Cause
indicator_cause is_in_flow (scalar_event anchor tag plain x) = cond (is_in_flow && begins_indicator x) (Some causes.Indicator) None
indicator_cause is_in_flow _ = None

-- ---- keys

-- a key is equal, for a reader, to one that begins at another event, if it is
abbrev pub equal_cause : Reader → Option ℕ → Option Cause
equal_cause reader None = None
equal_cause reader (Some first) = Some (causes.Equal reader first)

-- ---- YAML 1.1

-- the text of a plain scalar without a tag
abbrev pub plain_text : Event → Option (List ℕ)
plain_text (scalar_event anchor untagged plain text) = Some text
plain_text _ = None

-- What YAML 1.1 makes of this text, if it reads it otherwise, as a key or as no key.
abbrev pub IsOlderCause : Bool → List ℕ → Option Cause → Type 0
IsOlderCause is_key text None = IsOlder (older_of text is_key) (new_kind text) None
IsOlderCause is_key text (Some (causes.Older older)) = IsOlder (older_of text is_key) (new_kind text) (Some older)
IsOlderCause is_key text (Some _) = ⊥

abbrev pub TellsOlder : Bool → Option (List ℕ) → Option Cause → Type 0
TellsOlder is_key None told = told ≡ None
TellsOlder is_key (Some text) told = IsOlderCause is_key text told

-- ---- ints with a tag

abbrev pub octal_cause : Option Older → Option Cause
octal_cause (Some olders.Octal) = Some (causes.Older olders.Octal)
octal_cause _ = None

-- a scalar with the tag of ints, of which YAML 1.1 reads the digits by base 8
abbrev pub tagged_cause : Event → Option Cause
tagged_cause (scalar_event anchor (full tag) style text) = cond (bytes_eq tag int_tag) (octal_cause (older_of text false)) None
tagged_cause _ = None

-- ---- slips

-- of the text of a plain scalar without a tag
abbrev pub slip_cause : Around → Option (List ℕ) → Option Cause
slip_cause around None = None
slip_cause around (Some text) = option_map (λ slip. causes.Slip slip) (slip_in around text)

-- ---- what a warning is called where findings have rules

abbrev pub cause_rule : Cause → List ℕ
cause_rule causes.Name = codes "anchor-name"
cause_rule causes.Indicator = codes "flow-indicator"
cause_rule (causes.Equal reader first) = codes "equal-key"
cause_rule (causes.Older older) = codes "yaml-1.1"
cause_rule (causes.Slip slip) = codes "slip"

-- ---- what is shown

-- a name, or else the node
abbrev pub shown_label : Cause → Event → Option Label
shown_label causes.Name e = name_of e
shown_label causes.Indicator e = node_of e
shown_label (causes.Equal reader first) e = node_of e
shown_label (causes.Older older) e = node_of e
shown_label (causes.Slip slip) e = node_of e

abbrev pub is_among_if : List (Bor (List ℕ)) → Option Label → Bool
is_among_if words None = false
is_among_if words (Some label) = is_among words label

-- what would be shown is one of the words that are not warned of
abbrev pub is_allowed : List (Bor (List ℕ)) → Cause → Event → Bool
is_allowed allowed cause e = is_among_if allowed (shown_label cause e)
