use Rattle.std.proofs.Common.{refl, ◌∷◌, [], ◌++◌, ◌∙◌, ap, subst}
use Rattle.yaml_definitions.specs.grammar.Events.{no_props}
use Rattle.yaml_sink.specs.SinkModel.{start_of}
use Rattle.yaml_store_composer.specs.PendingModel.{Tells}
use Rattle.yaml_store_composer.proofs.PendingLaws.{bare}
use Rattle.yaml_store_composer.proofs.KeeperLaws.{puts-waiting, puts-numbered}
use Rattle.yaml_store_composer.proofs.keeper.Composing.put_start.Goals as goal

pub returns-in_default : goal.returns-in_default
returns-in_default c = puts-waiting c.args.self.now c.make_room.new.self _ (start_of c.args.collection c.args.flow) c.in_ok-make_room.ensures refl refl refl (c.in_ok-put.ensures ∙ ap (λ e. e ∷ []) (bare c.args.collection c.args.flow))

pub returns-in_default-replace : goal.returns-in_default-replace
returns-in_default-replace c =
    let e = start_of c.args.collection c.args.flow in
    puts-numbered c.args.self.now c.make_room.new.self _ e c.in_ok-make_room.ensures refl
    (λ log l t. subst (λ z. Tells c.begin_due.new.self (log ++ (z ∷ []))) (bare c.args.collection c.args.flow) (c.in_ok-begin_due.ensures c.args.flow no_props log l t)) refl c.in_ok-make_room.ensures.none

pub returns : goal.returns
returns c =
    let e = start_of c.args.collection c.args.flow in
    puts-numbered c.args.self.now c.make_room.new.self _ e c.in_ok-make_room.ensures refl
    (λ log l t. subst (λ z. Tells c.begin_below.new.self (log ++ (z ∷ []))) (bare c.args.collection c.args.flow) (c.in_ok-begin_below.ensures c.args.flow no_props log l t)) refl c.in_ok-make_room.ensures.none
