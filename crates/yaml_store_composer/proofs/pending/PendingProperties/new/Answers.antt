use Rattle.std.proofs.Common.{refl}
use Rattle.std.specs.Prelude.{None}
use Rattle.yaml_store_composer.proofs.DueLaws.{tells-none}
use Rattle.yaml_store_composer.proofs.pending.PendingProperties.new.Goals as goal

pub returns : goal.returns
returns c = tells-none c.in_ok-judged.judged None c.new-2.result.items refl c.new-2.ensures.items c.in_ok-judged.ensures
