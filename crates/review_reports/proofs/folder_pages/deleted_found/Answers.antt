use Rattle.std.proofs.Common.{[], ◌∷◌, ◌++◌, refl, ◌∙◌, ap, subst, string_bytes}
use Rattle.review_reports.specs.FolderPages.{IsList}
use Rattle.review_reports.proofs.folder_pages.deleted_found.Goals as goal

pub returns : goal.returns
returns g c = record {
  ok = (
      let one = c.in_ok-alone.field-0 in
      let listed = c.in_ok-push.ensures.items ∙ ap (λ z. z ++ (one ∷ [])) c.new-list.ensures.items in
      record {
        path = string_bytes c.in_ok-path.path;
        is_path = c.in_ok-path.ensures.ok;
        one = one;
        alone = rw c.as_str-2.ensures.value at c.in_ok-alone.ensures.ok;
        list = subst (λ z. IsList z c.part_with.result) listed c.part_with.ensures;
        untold = c.new.ensures.bytes;
        differs = refl;
      });
}
