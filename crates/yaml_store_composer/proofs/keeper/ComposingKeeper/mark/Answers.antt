use Rattle.yaml_store_composer.proofs.keeper.ComposingKeeper.mark.Goals as goal

pub returns : goal.returns
returns c = record { is = λ log h. h.count }
