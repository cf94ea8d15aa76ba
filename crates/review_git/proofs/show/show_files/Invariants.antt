use Rattle.std.proofs.Common.{Bor, List, ℕ, ◌<◌, ◌-◌, ◌^◌, map, drop}
use Rattle.yaml_text.specs.CountedModel.{faults_of}
use Rattle.review_git.proofs.ShowLaws.{GoesOn}
use Rattle.review_git.proofs.show.show_files.Given as goal

abbrev pub invariant-files : goal.invariant-files
invariant-files g l =
    let names : List (List ℕ) = map {A = Bor (List ℕ)} {B = List ℕ} (λ s. s.now) l.files in
    record {
      few : faults_of l.out < 2 ^ 64 - 1;
      on : GoesOn (g.S.Shelf.holds l.shelf) g.R.Read.remaining g.W.Write.contents g.E.Write.contents l.asked names l.initial.input l.initial.out l.initial.err (drop l.name-index names) l.input l.out l.err l.status;
    }
