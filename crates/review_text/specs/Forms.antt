-- What each form has in common for all that is listed.
use Rattle.std.specs.Prelude.{ℕ, List, codes}
use Rattle.review_text.specs.declared.options.Form.{Form}
use Rattle.review_text.specs.declared.options.Form.TheVariants as forms

-- the line which says that there are more
abbrev pub more_text : Form → List ℕ
more_text forms.Line = codes "...\n"
more_text forms.Json = codes "{\"kind\":\"more\"}\n"
