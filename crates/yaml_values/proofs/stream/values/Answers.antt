use Rattle.std.proofs.Common.{rules, ◌<◌, length, map, sym, subst}
use Rattle.std.specs.List.{All}
use Rattle.std.specs.String.{string_bytes}
use Rattle.yaml_store_rank.specs.Walked.{walked_tree}
use Rattle.yaml_values.specs.Denotes.{Denotes}
use Rattle.yaml_values.proofs.StreamLaws.{values_of_ranks, values_accepted}
use Rattle.yaml_values.proofs.stream.values.Goals as goal

pub values_of-requires-clause-stands : goal.values_of-requires-clause-stands
values_of-requires-clause-stands c = c.in_ok-forest.ensures.ranks.rooted.ranked

pub values_of-requires-clause-roots : goal.values_of-requires-clause-roots
values_of-requires-clause-roots c = subst (All (λ r. r < length c.in_ok-forest.forest.ranked.first.items)) (sym c.deref.ensures.value) c.in_ok-forest.ensures.ranks.rooted.within

pub returns-in-Ok-clause-values : goal.returns-in-Ok-clause-values
returns-in-Ok-clause-values c =
    let f = c.in_ok-forest.forest in
    let v = c.in-Ok.values in
    values_of_ranks c.args.bytes.now f v c.in_ok-forest.ensures.ranks (subst (λ z. Denotes v.values.items v.parts.items (string_bytes v.texts) v.documents (map (walked_tree f.ranked) z)) c.deref.ensures.value c.in-Ok.ensures)

pub returns-in-Ok-clause-accepts : goal.returns-in-Ok-clause-accepts
returns-in-Ok-clause-accepts c = λ f a m. values_accepted c.args.bytes.now f c.in-Ok.values (returns-in-Ok-clause-values c) m

pub returns-in_err-forest-clause-refused : goal.returns-in_err-forest-clause-refused
returns-in_err-forest-clause-refused c =
    let told = c.in_err-forest.ensures.why.refused in
    search (rules, told)

pub returns-in_err-forest-clause-accepts : goal.returns-in_err-forest-clause-accepts
returns-in_err-forest-clause-accepts c = λ f a m.
    let told = c.nothing_else_is_refused.ensures.meaning c.args.bytes.now f c.in_err-forest.field-0.0 a m c.in_err-forest.ensures.why.refused in
    search (rules, told)
