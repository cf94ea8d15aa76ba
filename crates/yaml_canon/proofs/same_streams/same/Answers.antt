use Rattle.yaml_spell.proofs.PieceLaws.{if_err, if_one}
use Rattle.yaml_canon.proofs.AcceptBoth.{tells-texts, compared, compared-spellings}
use Rattle.yaml_canon.proofs.SideLaws.{no-left, no-right}
use Rattle.yaml_canon.proofs.same_streams.same.Goals as goal

pub returns-clause-texts : goal.returns-clause-texts
returns-clause-texts c = if_one c.have_same_ranks.result c.have_same_ranks.ensures.answer (λ answer h. tells-texts c.args.left.now c.args.right.now answer h)

pub returns-clause-refused : goal.returns-clause-refused
returns-clause-refused c = if_err c.have_same_ranks.result c.have_same_ranks.ensures.why (λ r h. h.refused)

pub returns-clause-accepts : goal.returns-clause-accepts
returns-clause-accepts c = compared c.args.left.now c.args.right.now c.have_same_ranks.result c.have_same_ranks.ensures.answer (returns-clause-refused c)

pub returns-clause-spellings : goal.returns-clause-spellings
returns-clause-spellings c = compared-spellings c.args.left.now c.args.right.now c.have_same_ranks.result (returns-clause-accepts c)

pub returns-clause-no_left_text : goal.returns-clause-no_left_text
returns-clause-no_left_text c = no-left c.args.left.now c.args.right.now c.have_same_ranks.result c.have_same_ranks.ensures.answer c.have_same_ranks.ensures.why

pub returns-clause-no_right_text : goal.returns-clause-no_right_text
returns-clause-no_right_text c = no-right c.args.left.now c.args.right.now c.have_same_ranks.result c.have_same_ranks.ensures.answer c.have_same_ranks.ensures.why

pub returns-clause-placed : goal.returns-clause-placed
returns-clause-placed c = if_err c.have_same_ranks.result c.have_same_ranks.ensures.why (λ r h. h.placed)
