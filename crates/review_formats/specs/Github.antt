-- Commands of GitHub's workflows, of which each is one line: `::COMMAND file=FILE,line=LINE,col=COLUMN,title=TITLE::MESSAGE`.
use Rattle.std.specs.Prelude.{ℕ, List, [], ◌++◌, Option, Some, None, String, codes, string_bytes}
use Rattle.std.specs.declared.alloc.Global.{Global}
use Rattle.std.specs.List.{flat_map}
use Rattle.std.specs.Fmt.{decimal}
use Rattle.yaml_path.specs.declared.place.Place.{Place}
use Rattle.review_formats.specs.Escaped.{escaped}
use Rattle.review_formats.specs.Findings.{left_out_of}
use Rattle.review_formats.specs.LeftOut.{between_text}
use Rattle.review_formats.specs.declared.escape.Escape.TheVariants.{Message, Property}
use Rattle.review_formats.specs.declared.finding.Finding.{Finding}
use Rattle.review_formats.specs.declared.finding.Findings.{Findings}
use Rattle.review_formats.specs.declared.finding.Level.{Level}
use Rattle.review_formats.specs.declared.finding.Level.TheVariants.{Error, Warning, Note}
use Rattle.review_formats.specs.declared.finding.Part.{Part}

-- the command of a level, up to the name of the file
abbrev pub command_text : Level → List ℕ
command_text Error = codes "::error file="
command_text Warning = codes "::warning file="
command_text Note = codes "::notice file="

-- the line and the column, if they are known
abbrev pub place_text : Option Place → List ℕ
place_text None = []
place_text (Some place) = codes ",line=" ++ (decimal place.line ++ (codes ",col=" ++ decimal place.column))

abbrev pub head_text : Finding → List ℕ
head_text one = command_text one.level ++ escaped Property (string_bytes one.file)

abbrev pub title_text : List ℕ → List ℕ
title_text rule = codes ",title=yamlreview " ++ (escaped Property rule ++ codes "::")

-- the path, if there is one, before what is said
abbrev pub path_text : Option (String Global) → List ℕ
path_text None = []
path_text (Some path) = escaped Message (string_bytes path) ++ codes ": "

abbrev pub message_text : Finding → List ℕ
message_text one = path_text one.path ++ (escaped Message (string_bytes one.message) ++ codes "\n")

-- the command of a finding
abbrev pub finding_line : Finding → List ℕ
finding_line one = head_text one ++ (place_text one.place ++ (title_text one.rule.now ++ message_text one))

abbrev pub part_lines : Part → List ℕ
part_lines part = flat_map finding_line part.list.items

-- what is not listed, if there is something
abbrev pub more_text : Findings → List ℕ
more_text found = between_text (codes "::notice title=yamlreview::Not listed: ") (codes "\n") (left_out_of found.parts.items)

-- the commands of all findings in turn
abbrev pub github_text : Findings → List ℕ
github_text found = flat_map part_lines found.parts.items ++ more_text found
