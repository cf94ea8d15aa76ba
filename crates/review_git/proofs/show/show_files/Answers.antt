use Rattle.std.proofs.Common.{Bor, List, ℕ, map, drop, subst, arith}
use Rattle.review_git.specs.ShownFiles.{ShowsFiles}
use Rattle.review_git.proofs.ShowLaws.{none_left, shown_kept, one_more_at, stops_at, all_shown}
use Rattle.review_git.proofs.show.show_files.Goals as goal

pub returns-in-Err : goal.returns-in-Err
returns-in-Err g c =
    let xs = c.as_slice-files.result.now in
    let names : List (List ℕ) = map {A = Bor (List ℕ)} {B = List ℕ} (λ s. s.now) xs in
    let shown = stops_at (g.S.Shelf.holds c.args.shelf.now) g.R.Read.remaining g.W.Write.contents g.E.Write.contents c.args.asked.now names c.args.input.now c.args.out.now c.args.err.now {X = Bor (List ℕ)} (λ s. s.now) xs c.files.name-index _ c.files-test.true
    c.files.input c.show_file.new.input c.files.out c.show_file.new.out c.files.err c.show_file.new.err c.tell_bare.new.err c.files.status _ _ _ c.files.invariant.on c.in-Err.ensures.cut c.tell_bare.ensures.told c.tell_bare.ensures.status c.greater.ensures in
    record {
      shows =
          subst
          (λ z. ShowsFiles (g.S.Shelf.holds c.args.shelf.now) g.R.Read.remaining g.W.Write.contents g.E.Write.contents c.args.asked.now (map {A = Bor (List ℕ)} {B = List ℕ} (λ s. s.now) z) c.args.input.now c.show_file.new.input c.args.out.now c.show_file.new.out c.args.err.now c.tell_bare.new.err c.greater.result)
          c.as_slice-files.ensures.value shown;
    }

pub files-preserved : goal.files-preserved
files-preserved g c =
    let xs = c.as_slice-files.result.now in
    let names : List (List ℕ) = map {A = Bor (List ℕ)} {B = List ℕ} (λ s. s.now) xs in
    let kept = shown_kept (g.S.Shelf.holds c.args.shelf.now) g.R.Read.remaining g.W.Write.contents g.E.Write.contents c.args.asked.now _ c.files.input c.show_file.new.input c.files.out c.show_file.new.out c.files.err c.show_file.new.err _ c.in-Ok.ensures.ok in
    let few = c.files.invariant.few in
    record {
      few = omega (arith, kept, few);
      on = one_more_at (g.S.Shelf.holds c.args.shelf.now) g.R.Read.remaining g.W.Write.contents g.E.Write.contents c.args.asked.now names c.args.input.now c.args.out.now c.args.err.now {X = Bor (List ℕ)} (λ s. s.now) xs c.files.name-index _ c.files-test.true
          c.files.input c.show_file.new.input c.files.out c.show_file.new.out c.files.err c.show_file.new.err c.files.status _ _ c.files.invariant.on c.in-Ok.ensures.ok c.greater-status.ensures;
    }

pub returns : goal.returns
returns g c =
    let xs = c.as_slice-files.result.now in
    let names : List (List ℕ) = map {A = Bor (List ℕ)} {B = List ℕ} (λ s. s.now) xs in
    let none = none_left {X = Bor (List ℕ)} (λ s. s.now) xs c.files.name-index (omega (arith, c.files-test.false)) in
    let shown = all_shown (g.S.Shelf.holds c.args.shelf.now) g.R.Read.remaining g.W.Write.contents g.E.Write.contents c.args.asked.now names c.args.input.now c.args.out.now c.args.err.now (drop c.files.name-index names) c.files.input c.files.out c.files.err c.files.status none c.files.invariant.on in
    record {
      shows =
          subst
          (λ z. ShowsFiles (g.S.Shelf.holds c.args.shelf.now) g.R.Read.remaining g.W.Write.contents g.E.Write.contents c.args.asked.now (map {A = Bor (List ℕ)} {B = List ℕ} (λ s. s.now) z) c.args.input.now c.files.input c.args.out.now c.files.out c.args.err.now c.files.err c.files.status)
          c.as_slice-files.ensures.value shown;
    }
