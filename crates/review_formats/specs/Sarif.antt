-- Logs of SARIF 2.1.0. Members of an object stand in the order of their keys.
use Rattle.std.specs.Prelude.{ℕ, Bool, true, ◌&&◌, ◌||◌, ◌==◌, nat_le, cond, map, List, [], ◌∷◌, ◌++◌, Option, Some, None, String, codes, string_bytes, bytes_eq}
use Rattle.std.specs.declared.alloc.Global.{Global}
use Rattle.std.specs.List.{flat_map, list_any}
use Rattle.percent_encoding.specs.Percent.{percent_encode_byte}
use Rattle.serde_json.specs.Data.{Data, Members, boolean, number, unsigned, string, array, object, item, no_items, member, no_members}
use Rattle.serde_json.specs.View.{items_of}
use Rattle.serde_json.specs.Written.{compact_text}
use Rattle.yaml_path.specs.declared.place.Place.{Place}
use Rattle.review_formats.specs.Findings.{left_out_of}
use Rattle.review_formats.specs.LeftOut.{is_none, left_out_text}
use Rattle.review_formats.specs.declared.finding.Finding.{Finding}
use Rattle.review_formats.specs.declared.finding.Findings.{Findings}
use Rattle.review_formats.specs.declared.finding.Level.{Level}
use Rattle.review_formats.specs.declared.finding.Level.TheVariants.{Error, Warning, Note}
use Rattle.review_formats.specs.declared.finding.Part.{Part}
use Rattle.review_formats.specs.declared.left_out.LeftOut.{LeftOut}

-- ---- where something is found

-- what stands in a URI as itself: the unreserved characters of RFC 3986, `[A-Za-z0-9-._~]`, and `/`
abbrev pub is_kept : ℕ → Bool
is_kept b =
    (nat_le 48 b && nat_le b 57) || ((nat_le 65 b && nat_le b 90) || ((nat_le 97 b && nat_le b 122)
    || ((b == 45) || ((b == 46) || ((b == 95) || ((b == 126) || (b == 47)))))))

abbrev pub uri_byte : ℕ → List ℕ
uri_byte b = cond (is_kept b) (b ∷ []) (percent_encode_byte b)

-- the URI of a file, relative to where the program runs
abbrev pub uri_text : List ℕ → List ℕ
uri_text name = flat_map uri_byte name

abbrev pub count_data : ℕ → Data
count_data n = number (unsigned n)

abbrev pub region_data : Place → Data
region_data place = object (member (codes "startColumn") (count_data place.column) (member (codes "startLine") (count_data place.line) no_members))

abbrev pub artifact_data : List ℕ → Data
artifact_data name = object (member (codes "uri") (string (uri_text name)) no_members)

-- the file, with the line and the column if they are known
abbrev pub physical_data : List ℕ → Option Place → Data
physical_data name None = object (member (codes "artifactLocation") (artifact_data name) no_members)
physical_data name (Some place) = object (member (codes "artifactLocation") (artifact_data name) (member (codes "region") (region_data place) no_members))

abbrev pub logical_data : List ℕ → Data
logical_data path = array (item (object (member (codes "fullyQualifiedName") (string path) no_members)) no_items)

-- the same, with the path of the node if there is one
abbrev pub location_data : List ℕ → Option Place → Option (String Global) → Data
location_data name place None = object (member (codes "physicalLocation") (physical_data name place) no_members)
location_data name place (Some path) = object (member (codes "logicalLocations") (logical_data (string_bytes path)) (member (codes "physicalLocation") (physical_data name place) no_members))

-- ---- what is found

abbrev pub level_word : Level → List ℕ
level_word Error = codes "error"
level_word Warning = codes "warning"
level_word Note = codes "note"

-- the path, if there is one, before what is said
abbrev pub path_front : Option (String Global) → List ℕ
path_front None = []
path_front (Some path) = string_bytes path ++ codes ": "

abbrev pub message_data : Finding → Data
message_data one = object (member (codes "text") (string (path_front one.path ++ string_bytes one.message)) no_members)

abbrev pub result_data : Finding → Data
result_data one =
    object (member (codes "level") (string (level_word one.level))
    (member (codes "locations") (array (item (location_data (string_bytes one.file) one.place one.path) no_items))
    (member (codes "message") (message_data one) (member (codes "ruleId") (string one.rule.now) no_members))))

abbrev pub part_results : Part → List Data
part_results part = map result_data part.list.items

-- ---- the rules of what is found, each once, in the order in which they come first

abbrev pub with_rule : List (List ℕ) → List ℕ → List (List ℕ)
with_rule rules rule = cond (list_any (λ one. bytes_eq one rule) rules) rules (rules ++ rule ∷ [])

abbrev pub with_findings : List (List ℕ) → List Finding → List (List ℕ)
with_findings rules [] = rules
with_findings rules (one ∷ ones) = with_findings (with_rule rules one.rule.now) ones

abbrev pub part_findings : Part → List Finding
part_findings part = part.list.items

abbrev pub rule_data : List ℕ → Data
rule_data rule = object (member (codes "id") (string rule) no_members)

abbrev pub rules_data : List Part → List Data
rules_data parts = map rule_data (with_findings [] (flat_map part_findings parts))

-- ---- the log

abbrev pub program_version : List ℕ
program_version = codes "1.1.0"

abbrev pub tool_data : List Part → Data
tool_data parts =
    object (member (codes "driver")
    (object (member (codes "name") (string (codes "yamlreview")) (member (codes "rules") (array (items_of (rules_data parts))) (member (codes "version") (string program_version) no_members))))
    no_members)

-- what the program says of the run: what is not listed
abbrev pub note_data : LeftOut → Data
note_data l =
    object (member (codes "level") (string (codes "note"))
    (member (codes "message") (object (member (codes "text") (string (codes "Not listed: " ++ left_out_text l)) no_members)) no_members))

abbrev pub invocations_data : LeftOut → Data
invocations_data l =
    array (item (object (member (codes "executionSuccessful") (boolean true)
    (member (codes "toolExecutionNotifications") (array (item (note_data l) no_items)) no_members))) no_items)

-- this member, if something is not listed
abbrev pub with_invocations : LeftOut → Members → Members
with_invocations l members = cond (is_none l) members (member (codes "invocations") (invocations_data l) members)

abbrev pub run_data : List Part → Data
run_data parts =
    object (member (codes "columnKind") (string (codes "unicodeCodePoints"))
    (with_invocations (left_out_of parts)
    (member (codes "results") (array (items_of (flat_map part_results parts))) (member (codes "tool") (tool_data parts) no_members))))

abbrev pub log_data : List Part → Data
log_data parts =
    object (member (codes "$schema") (string (codes "https://json.schemastore.org/sarif-2.1.0.json"))
    (member (codes "runs") (array (item (run_data parts) no_items)) (member (codes "version") (string (codes "2.1.0")) no_members)))

-- one line
abbrev pub sarif_text : Findings → List ℕ
sarif_text found = compact_text (log_data found.parts.items) ++ codes "\n"
