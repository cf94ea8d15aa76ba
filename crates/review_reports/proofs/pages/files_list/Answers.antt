use Rattle.std.proofs.Common.{Bor, List, ℕ, map, drop, arith}
use Rattle.review_reports.proofs.ReportLaws.{none_left}
use Rattle.review_reports.proofs.PageLaws.{one_more_at, all_found}
use Rattle.review_reports.proofs.pages.files_list.Goals as goal

pub files-preserved : goal.files-preserved
files-preserved g c =
    let xs = c.args.files.now in
    let names : List (List ℕ) = map {A = Bor (List ℕ)} {B = List ℕ} (λ s. s.now) xs in
    one_more_at (g.S.Shelf.holds c.args.shelf.now) g.R.Read.remaining c.args.kind names c.args.input.now {X = Bor (List ℕ)} (λ s. s.now) xs c.files.name-index _ (omega (arith, c.files-test.true))
    c.files.input c.file_list-more.new.input c.files.list.items c.file_list-more.result.0.items _ c.files.status _ _ c.files.invariant c.file_list-more.ensures c.in_ok-add.ensures.ok c.greater-status.ensures

pub returns : goal.returns
returns g c = record {
  ok = (
      let xs = c.args.files.now in
      let names : List (List ℕ) = map {A = Bor (List ℕ)} {B = List ℕ} (λ s. s.now) xs in
      let none = none_left {X = Bor (List ℕ)} (λ s. s.now) xs c.files.name-index (omega (arith, c.files-test.false)) in
      all_found (g.S.Shelf.holds c.args.shelf.now) g.R.Read.remaining c.args.kind names c.args.input.now (drop c.files.name-index names) c.files.input c.files.list.items c.files.status none c.files.invariant);
}
