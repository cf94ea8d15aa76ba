-- The lines of differences as JSON.
use Rattle.std.specs.Prelude.{◌≡◌, ℕ, Bool, true, false, List, []}
use Rattle.review_text.specs.declared.options.Form.TheVariants.{Json}
use Rattle.review_text.specs.declared.options.Paths.TheVariants.{Plain}
use Rattle.review_text.specs.declared.options.Diff.{Diff}
use Rattle.review_compare.specs.Compared.{DiffLines}

-- So many lines are asked for, in JSON, with places, and else with nothing that an option asks for.
pub record AsksJson (lines : ℕ) (asked : Diff) : Type 0 where
  pub form : asked.form ≡ Json
  pub lines_are : asked.lines ≡ lines
  pub places : asked.places ≡ true
  pub cut : asked.whole ≡ false
  pub no_changes : asked.context ≡ 0
  pub plain : asked.color ≡ false
  pub each : asked.stat ≡ false
  pub by_rules : asked.by_position ≡ false
  pub no_keys : asked.by.now ≡ []
  pub unfolded : asked.folds ≡ false
  pub plain_paths : asked.paths ≡ Plain

-- The text is the lines of JSON of the differences of two streams of these bytes, of at most so many; and whether there are none.
pub record JsonLines (left right : List ℕ) (lines : ℕ) (none : Bool) (text : List ℕ) : Type 0 where
  pub asked : Diff
  pub asks : AsksJson lines asked
  pub are : DiffLines left right asked [] none text
