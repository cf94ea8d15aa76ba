use Rattle.std.proofs.Common.{Bor, List, ℕ, map, drop, refl, ◌∙◌, ap, subst, arith}
use Rattle.review_files.specs.Statuses.{fault_status}
use Rattle.review_reports.specs.Reports.{TellsFiles}
use Rattle.review_reports.proofs.ReportLaws.{none_left, one_more_at, stops_at, all_told}
use Rattle.review_reports.proofs.reports.reports.Goals as goal

pub returns-in-Err : goal.returns-in-Err
returns-in-Err g c =
    let xs = c.as_slice-files.result.now in
    let names : List (List ℕ) = map {A = Bor (List ℕ)} {B = List ℕ} (λ s. s.now) xs in
    let h = c.in-Err.ensures.cut in
    let told = stops_at (g.S.Shelf.holds c.args.shelf.now) g.R.Read.remaining g.W.Write.contents c.args.kind c.args.asked.now.form names c.args.input.now c.args.out.now {X = Bor (List ℕ)} (λ s. s.now) xs c.files.name-index _ c.files-test.true
    c.files.input c.report.new.input c.files.out c.report.new.out c.files.status _ _ c.files.invariant.on (record { text = h.text; status = h.status; has = h.has; broke = h.broke; is = refl }) (c.tell_bare.ensures.status ∙ ap fault_status h.is) c.greater.ensures in
    record {
      tells =
          subst
          (λ z. TellsFiles (g.S.Shelf.holds c.args.shelf.now) g.R.Read.remaining g.W.Write.contents c.args.kind c.args.asked.now.form (map {A = Bor (List ℕ)} {B = List ℕ} (λ s. s.now) z) c.args.input.now c.report.new.input c.args.out.now c.report.new.out c.greater.result)
          c.as_slice-files.ensures.value told;
    }

pub files-preserved : goal.files-preserved
files-preserved g c =
    let xs = c.as_slice-files.result.now in
    let names : List (List ℕ) = map {A = Bor (List ℕ)} {B = List ℕ} (λ s. s.now) xs in
    let kept = c.in-Ok.ensures.kept in
    let few = c.files.invariant.few in
    record {
      few = omega (arith, kept, few);
      on = one_more_at (g.S.Shelf.holds c.args.shelf.now) g.R.Read.remaining g.W.Write.contents c.args.kind c.args.asked.now.form names c.args.input.now c.args.out.now {X = Bor (List ℕ)} (λ s. s.now) xs c.files.name-index _ c.files-test.true
          c.files.input c.report.new.input c.files.out c.report.new.out c.files.status _ _ c.files.invariant.on c.in-Ok.ensures.ok c.greater-status.ensures;
    }

pub returns : goal.returns
returns g c =
    let xs = c.as_slice-files.result.now in
    let names : List (List ℕ) = map {A = Bor (List ℕ)} {B = List ℕ} (λ s. s.now) xs in
    let none = none_left {X = Bor (List ℕ)} (λ s. s.now) xs c.files.name-index (omega (arith, c.files-test.false)) in
    let told = all_told (g.S.Shelf.holds c.args.shelf.now) g.R.Read.remaining g.W.Write.contents c.args.kind c.args.asked.now.form names c.args.input.now c.args.out.now (drop c.files.name-index names) c.files.input c.files.out c.files.status none c.files.invariant.on in
    record {
      tells =
          subst
          (λ z. TellsFiles (g.S.Shelf.holds c.args.shelf.now) g.R.Read.remaining g.W.Write.contents c.args.kind c.args.asked.now.form (map {A = Bor (List ℕ)} {B = List ℕ} (λ s. s.now) z) c.args.input.now c.files.input c.args.out.now c.files.out c.files.status)
          c.as_slice-files.ensures.value told;
    }
