use Rattle.std.proofs.Common.{◌≡◌, arith, ap, rules, ◌∙◌}
use Rattle.serde_json.specs.Data.{object}
use Rattle.serde_json.specs.View.{view, members_view}
use Rattle.serde_json.specs.declared.value.Value.{Object, the_lemmas}
use Rattle.review_text.specs.Objects.{said_data}
use Rattle.review_text.proofs.LineLaws.{members_next, members_all}
use Rattle.review_text.proofs.json.object_of.Goals as goal

pub loop-member-preserved : goal.loop-member-preserved
loop-member-preserved c = members_next (λ m. (m.0.now, said_data m.1)) c.args.members.now c.loop-member.member-index _ _ _ _ _ (omega arith) c.loop-member.invariant c.in_ok-put.ensures.ok c.in_ok-value_of.ensures.ok

pub returns : goal.returns
returns c = record {
  ok = (
      let seen : view (Object c.loop-member.object) ≡ object (members_view c.loop-member.object.entries) = search (rules, the_lemmas) in
      seen ∙ ap object (members_all (λ m. (m.0.now, said_data m.1)) c.args.members.now c.loop-member.member-index _ _ (omega arith) c.loop-member.invariant));
}
