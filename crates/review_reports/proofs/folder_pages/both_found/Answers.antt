use Rattle.std.proofs.Common.{◌≡◌, ◌++◌, inl, inr, refl, ◌∙◌, ap, string_bytes, sym}
use Rattle.review_reports.proofs.StatusLaws.{answers_differ, are_equal, read_is, left_unread, right_unread, not_read, not_compared, list_compared, shown_as}
use Rattle.review_reports.proofs.folder_pages.both_found.Goals.{in_default-via-in-Ok+in_default, in_default-via-in_default}
use Rattle.review_reports.proofs.folder_pages.both_found.Goals as goal

pub returns-in_default-clause-ok : goal.returns-in_default-clause-ok
returns-in_default-clause-ok g c =
    let left = string_bytes c.in_ok-left_path.left_path in
    let right = string_bytes c.in_ok-right_path.right_path in
    let told = c.in_ok-status.ensures.ok in
    let found = c.in_ok-part.ensures.ok in
    let is : string_bytes c.put_rejections.new.out ≡ told.0 = told.1 ∙ ap (λ z. z ++ told.0) c.new-err.ensures.bytes in
    let h = not_read (g.S.Shelf.holds c.args.shelf.now) left right c.as_str.result.now c.as_str-2.result.now c.as_str.ensures.value c.as_str-2.ensures.value c.args.asked.now.form _ _ told.0 _ c.in_ok-status.status is c.as_str-3.ensures.value c.as_str-4.ensures.value c.read_file-left.ensures.ok c.read_file-left.ensures.err c.read_file-right.ensures.ok c.read_file-right.ensures.err told.2
    (elim c.in_default.branch [
      | in_default-via-in-Ok+in_default w ↦ right_unread c.read_file-left.result c.read_file-right.result w.in_default.field-0-1 w.in_default.is-1
      | in_default-via-in_default w ↦ left_unread c.read_file-left.result c.read_file-right.result w.in_default.field-0-0 w.in_default.is-0
    ]) in
    (left, right, c.in_ok-left_path.ensures.ok, c.in_ok-right_path.ensures.ok, inr (inr (record { rejected = h; first = found.0; second = found.1; of_left = found.2; of_right = found.3; list = found.4 })))

pub returns-in-Ok-clause-ok : goal.returns-in-Ok-clause-ok
returns-in-Ok-clause-ok g c =
    let left = string_bytes c.in_ok-left_path.left_path in
    let right = string_bytes c.in_ok-right_path.right_path in
    let h = list_compared (g.S.Shelf.holds c.args.shelf.now) left right c.as_str.result.now c.as_str-2.result.now c.as_str.ensures.value c.as_str-2.ensures.value c.args.asked.now c.args.ignored.now c.in-Ok-Ok.one.items c.in-Ok-Ok.other.items _
    (read_is (g.S.Shelf.holds c.args.shelf.now c.as_str.result.now) c.read_file-left.result c.in-Ok-Ok.one c.in-Ok-Ok.is-0 c.read_file-left.ensures.ok)
    (read_is (g.S.Shelf.holds c.args.shelf.now c.as_str-2.result.now) c.read_file-right.result c.in-Ok-Ok.other c.in-Ok-Ok.is-1 c.read_file-right.ensures.ok)
    (λ e. c.are_equal.ensures.differ c.if-are_equal.false (c.as_slice.ensures.value ∙ e ∙ sym c.as_slice-2.ensures.value))
    c.in-Ok.listed (rw c.deref-2.ensures.value at (rw c.deref.ensures.value at c.in-Ok.ensures.same)) (rw c.deref-2.ensures.value at (rw c.deref.ensures.value at c.in-Ok.ensures.lists)) c.status_of.ensures in
    let list = rw c.as_str-4.ensures.value at (rw c.as_str-3.ensures.value at c.in_ok-list_found-in-Ok.ensures.ok) in
    let shown = shown_as c.args.page c.as_str-3.result.now left c.deref-in-Ok.result.now c.in-Ok-Ok.one.items c.as_str-4.result.now right c.deref-in-Ok-2.result.now c.in-Ok-Ok.other.items c.in_ok-lines_shown-in-Ok.field-0 c.as_str-3.ensures.value c.deref-in-Ok.ensures.value c.as_str-4.ensures.value c.deref-in-Ok-2.ensures.value c.in_ok-lines_shown-in-Ok.ensures.ok in
    (left, right, c.in_ok-left_path.ensures.ok, c.in_ok-right_path.ensures.ok, inr (inl (record { compared = h; list = list; shown = shown; left_out = refl }, c.new-err.ensures.bytes)))

pub returns-clause-ok : goal.returns-clause-ok
returns-clause-ok g c =
    let left = string_bytes c.in_ok-left_path.left_path in
    let right = string_bytes c.in_ok-right_path.right_path in
    let told = c.in_ok-status-in-Err.ensures.ok in
    let found = c.in_ok-part-in-Err.ensures.ok in
    let is : string_bytes c.put_not_compared.new.out ≡ told.0 = told.1 ∙ ap (λ z. z ++ told.0) c.new-err.ensures.bytes in
    let h = not_compared (g.S.Shelf.holds c.args.shelf.now) left right c.as_str.result.now c.as_str-2.result.now c.as_str.ensures.value c.as_str-2.ensures.value c.args.asked.now.form _ _ told.0 _ c.in_ok-status-in-Err.status is c.as_str-3.ensures.value c.as_str-4.ensures.value c.read_file-left.ensures.ok c.read_file-left.ensures.err c.read_file-right.ensures.ok c.read_file-right.ensures.err (answers_differ _ _ c.in-Ok-Ok.one c.in-Ok-Ok.other c.in-Ok-Ok.is-0 c.in-Ok-Ok.is-1 (λ e. c.are_equal.ensures.differ c.if-are_equal.false (c.as_slice.ensures.value ∙ e ∙ sym c.as_slice-2.ensures.value))) c.in-Err.side told.2 in
    (left, right, c.in_ok-left_path.ensures.ok, c.in_ok-right_path.ensures.ok, inr (inr (record { rejected = h; first = found.0; second = found.1; of_left = found.2; of_right = found.3; list = found.4 })))

pub returns-then-are_equal-clause-ok : goal.returns-then-are_equal-clause-ok
returns-then-are_equal-clause-ok g c =
    let left = string_bytes c.in_ok-left_path.left_path in
    let right = string_bytes c.in_ok-right_path.right_path in
    let h = are_equal (g.S.Shelf.holds c.args.shelf.now) left right c.as_str.result.now c.as_str-2.result.now c.as_str.ensures.value c.as_str-2.ensures.value c.in-Ok-Ok.one.items c.in-Ok-Ok.other.items _
    (read_is (g.S.Shelf.holds c.args.shelf.now c.as_str.result.now) c.read_file-left.result c.in-Ok-Ok.one c.in-Ok-Ok.is-0 c.read_file-left.ensures.ok)
    (read_is (g.S.Shelf.holds c.args.shelf.now c.as_str-2.result.now) c.read_file-right.result c.in-Ok-Ok.other c.in-Ok-Ok.is-1 c.read_file-right.ensures.ok)
    (sym c.as_slice.ensures.value ∙ c.are_equal.ensures.same c.if-are_equal.true ∙ c.as_slice-2.ensures.value) c.nothing.ensures.2 in
    (left, right, c.in_ok-left_path.ensures.ok, c.in_ok-right_path.ensures.ok, inl (h, c.nothing.ensures.0, c.nothing.ensures.1))
