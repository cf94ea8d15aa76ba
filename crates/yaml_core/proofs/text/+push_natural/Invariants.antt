use Rattle.yaml_core.proofs.text.+push_natural.Given as goal

abbrev pub decreases-push_natural : goal.decreases-push_natural
decreases-push_natural l = l.number
