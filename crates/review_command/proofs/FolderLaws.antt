-- How a comparison of two folders ends.
use Rattle.std.proofs.Common.{◌≡◌, ℕ, List, Option, Some, None, inl, inr}
use Rattle.std.specs.Prelude.{◌≤◌}
use Rattle.yaml_text.specs.CountedModel.{inner_of, faults_of}
use Rattle.yaml_text.specs.declared.counted.Counted.{Counted}
use Rattle.review_patterns.specs.declared.pattern.Pattern.{Pattern}
use Rattle.review_text.specs.declared.options.Diff.{Diff}
use Rattle.review_text.specs.declared.options.Page.{Page}
use Rattle.review_reports.specs.FolderPages.{FolderShows}
use Rattle.review_reports.specs.Printed.{FolderPrints}
use Rattle.review_reports.specs.declared.entry.Entry.{Entry}
use Rattle.review_command.specs.Commands.{unknown, FoldersEnd}

module _ {W E : Type 0} (contents : W → Option (List ℕ)) (told : E → Option (List ℕ)) where
  pub folders_cut : (asked : Diff) (ignored : List Pattern) (page : Option Page) (out : W) (status : ℕ) → 2 ≤ status → FoldersEnd contents told asked ignored page out status
  folders_cut asked ignored None out status l = inr l
  folders_cut asked ignored (Some page) out status l = inr l

  pub folders_printed : (asked : Diff) (ignored : List Pattern) (page : Option Page) (out : W) (entries : List Entry) (old new : Counted W) (before after : E) (status : ℕ) → page ≡ None
      → inner_of old ≡ out → faults_of old ≡ 0 → FolderPrints unknown contents told asked ignored entries old new before after status → FoldersEnd contents told asked ignored page out status
  folders_printed asked ignored None out entries old new before after status e w n p = inl (record {
    entries = entries;
    old = old;
    new = new;
    before = before;
    after = after;
    writer = w;
    no_write = n;
    prints = p;
  })
  folders_printed asked ignored (Some page) out entries old new before after status e w n p = absurd (cc)

  pub folders_shown : (asked : Diff) (ignored : List Pattern) (given : Option Page) (page : Page) (out : W) (entries : List Entry) (old new : Counted W) (before : E) (status : ℕ) → given ≡ Some page
      → inner_of old ≡ out → faults_of old ≡ 0 → FolderShows unknown contents told asked ignored page entries old new before status → FoldersEnd contents told asked ignored given out status
  folders_shown asked ignored None page out entries old new before status e w n s = absurd (cc)
  folders_shown asked ignored (Some p) page out entries old new before status e w n s = inl (record {
    entries = entries;
    old = old;
    new = new;
    before = before;
    writer = w;
    no_write = n;
    shows = let q : page ≡ p = cc in rw q at s;
  })
