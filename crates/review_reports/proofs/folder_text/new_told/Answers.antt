use Rattle.std.proofs.Common.{◌≡◌, ◌++◌, ◌∙◌, ap, string_bytes}
use Rattle.review_files.specs.declared.rejected.Named.{Named}
use Rattle.review_reports.proofs.StatusLaws.{new_told}
use Rattle.review_reports.proofs.folder_text.new_told.Goals as goal

pub returns-clause-told : goal.returns-clause-told
returns-clause-told g c =
    let file : Named = record { name = c.as_str-2.result; answer = record { ref_ptr = c.as_str-2.result.ref_ptr; now = c.read_file-answer.result } } in
    let told = c.in_ok-status.ensures.ok in
    let is : string_bytes c.put_rejection.new.out ≡ told.0 = told.1 ∙ ap (λ z. z ++ told.0) c.new-err.ensures.bytes in
    new_told (g.S.Shelf.holds c.args.shelf.now) c.args.asked.now c.args.name.now file _ c.as_str.result.now told.0 _ c.in_ok-status.status _ is c.in_ok-path.ensures.ok c.as_str-2.ensures.value c.as_str.ensures.value c.read_file-answer.ensures.ok c.read_file-answer.ensures.err told.2 c.greater.ensures
