use Rattle.std.proofs.Common.{◌≡◌, drop, map}
use Rattle.serde_json.specs.Data.{no_members}
use Rattle.serde_json.specs.View.{members_view}
use Rattle.review_text.specs.Objects.{said_data, with_members}
use Rattle.review_text.proofs.json.object_of.Given as goal

abbrev pub invariant-loop-member : goal.invariant-loop-member
invariant-loop-member l = with_members (map (λ m. (m.0.now, said_data m.1)) (drop l.member-index l.members)) (members_view l.object.entries) ≡ with_members (map (λ m. (m.0.now, said_data m.1)) l.members) no_members
