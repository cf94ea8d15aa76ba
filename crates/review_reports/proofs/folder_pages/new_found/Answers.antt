use Rattle.std.proofs.Common.{◌≡◌, [], ◌∷◌, ◌++◌, sym, ◌∙◌, ap, subst, string_bytes}
use Rattle.review_formats.specs.declared.finding.Sign.TheVariants as signs
use Rattle.review_files.specs.declared.rejected.Named.{Named}
use Rattle.review_reports.specs.FolderPages.{IsAlone, IsList}
use Rattle.review_reports.proofs.StatusLaws.{new_told}
use Rattle.review_reports.proofs.folder_pages.new_found.Goals as goal

pub returns-clause-ok : goal.returns-clause-ok
returns-clause-ok g c =
    let file : Named = record { name = c.as_str-2.result; answer = record { ref_ptr = c.as_str-2.result.ref_ptr; now = c.read_file-answer.result } } in
    let told = c.in_ok-status.ensures.ok in
    let one = c.in_ok-alone.field-0 in
    let faults = c.in_ok-faults.faults.items in
    let is : string_bytes c.put_rejection.new.out ≡ told.0 = told.1 ∙ ap (λ z. z ++ told.0) c.new-err.ensures.bytes in
    let listed = c.in_ok-append.ensures.items ∙ ap (λ z. z ++ faults) (c.in_ok-push.ensures.items ∙ ap (λ z. z ++ (one ∷ [])) c.new-list.ensures.items) in
    record {
      told = new_told (g.S.Shelf.holds c.args.shelf.now) c.args.asked.now c.args.name.now file _ c.as_str.result.now told.0 _ c.in_ok-status.status _ is c.in_ok-path.ensures.ok c.as_str-2.ensures.value c.as_str.ensures.value c.read_file-answer.ensures.ok c.read_file-answer.ensures.err told.2 c.greater.ensures;
      one = one;
      alone = subst (λ z. IsAlone c.args.page signs.Right z one) (c.as_str-3.ensures.value ∙ sym c.as_str-2.ensures.value) c.in_ok-alone.ensures.ok;
      faults = faults;
      of = c.in_ok-faults.ensures.ok;
      list = subst (λ z. IsList z c.part_with.result) listed c.part_with.ensures;
    }
