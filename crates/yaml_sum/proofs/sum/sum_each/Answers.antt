use Rattle.std.proofs.Common.{Bor, List, ℕ, ◌≡◌, length, map, rules, arith}
use Rattle.yaml_sum.proofs.SumLaws.{mapped, sums_more, sums_cut, sums_all, sums_unflushed}
use Rattle.yaml_sum.proofs.sum.sum_each.Goals as goal

pub returns-in_err-status-clause-cut : goal.returns-in_err-status-clause-cut
returns-in_err-status-clause-cut g c =
    let b = sums_cut (g.S.Shelf.holds c.args.shelf.now) g.R.Read.remaining g.W.Write.contents g.E.Write.contents {X = Bor (List ℕ)} (λ s. s.now) c.args.names.now c.names.name-index _ c.args.input.now c.names.input c.sum_file.new.input c.args.out.now c.names.out c.sum_file.new.out c.args.err.now c.names.err c.sum_file.new.err
    c.names.worst c.in_err-status.field-0.0 c.requires c.names-test.true c.names.invariant c.in_err-status.ensures.cut in
    search (rules, b)

pub names-preserved : goal.names-preserved
names-preserved g c =
    sums_more (g.S.Shelf.holds c.args.shelf.now) g.R.Read.remaining g.W.Write.contents g.E.Write.contents {X = Bor (List ℕ)} (λ s. s.now) c.args.names.now c.names.name-index _ c.args.input.now c.names.input c.sum_file.new.input c.args.out.now c.names.out c.sum_file.new.out c.args.err.now c.names.err c.sum_file.new.err
    c.names.worst c.in_ok-status.status _ c.names-test.true c.names.invariant c.in_ok-status.ensures.ok c.greater-worst.ensures

pub returns-in_err-write_out-clause-cut : goal.returns-in_err-write_out-clause-cut
returns-in_err-write_out-clause-cut g c =
    let names : List (List ℕ) = map {A = Bor (List ℕ)} {B = List ℕ} (λ s. s.now) c.args.names.now in
    let at : c.names.name-index ≡ length c.args.names.now = omega (arith, c.names-test.false, c.names.auto.name-index-end) in
    let end : c.names.name-index ≡ length names = mapped {X = Bor (List ℕ)} (λ s. s.now) c.args.names.now c.names.name-index at in
    let b = sums_unflushed (g.S.Shelf.holds c.args.shelf.now) g.R.Read.remaining g.W.Write.contents g.E.Write.contents names c.names.name-index c.args.input.now c.names.input c.args.out.now c.names.out c.write_out.new.out c.args.err.now c.names.err c.names.worst
    c.in_err-write_out.field-0.0 end c.names.invariant c.in_err-write_out.ensures.err in
    search (rules, b)

pub returns-clause-ok : goal.returns-clause-ok
returns-clause-ok g c =
    let names : List (List ℕ) = map {A = Bor (List ℕ)} {B = List ℕ} (λ s. s.now) c.args.names.now in
    let at : c.names.name-index ≡ length c.args.names.now = omega (arith, c.names-test.false, c.names.auto.name-index-end) in
    let end : c.names.name-index ≡ length names = mapped {X = Bor (List ℕ)} (λ s. s.now) c.args.names.now c.names.name-index at in
    sums_all (g.S.Shelf.holds c.args.shelf.now) g.R.Read.remaining g.W.Write.contents g.E.Write.contents names c.names.name-index c.args.input.now c.names.input c.args.out.now c.names.out c.write_out.new.out c.args.err.now c.names.err c.names.worst end c.names.invariant
    c.in_ok-write_out.ensures.ok
