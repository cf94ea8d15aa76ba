use Rattle.std.proofs.Common.{ap}
use Rattle.std.specs.BTreeMap.{is_at}
use Rattle.std.specs.Cmp.Lexicographic.{slice_cmp}
use Rattle.std.specs.Map.{lookup}
use Rattle.std.specs.Ordering.{nat_cmp}
use Rattle.review_faults.specs.declared.keys.Reader.TheVariants as readers
use Rattle.review_faults.proofs.keys.Keys.new.Goals as goal

pub returns : goal.returns
returns c = λ events. record {
  names = λ q. ap (lookup (is_at (λ k. slice_cmp nat_cmp q.now k.now))) c.new.ensures.empty;
  python = c.new-2.ensures readers.Python events;
  script = c.new-3.ensures readers.JavaScript events;
}
