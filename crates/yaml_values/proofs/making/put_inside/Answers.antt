use Rattle.std.proofs.Common.{ap}
use Rattle.std.specs.String.{string_bytes}
use Rattle.yaml_tree.specs.Shown.{inside_shown}
use Rattle.yaml_values.proofs.ValueLaws.{makes-mapping}
use Rattle.yaml_values.proofs.making.put_inside.Goals as goal

pub returns-in_ok-put_entries-in-Mapping : goal.returns-in_ok-put_entries-in-Mapping
returns-in_ok-put_entries-in-Mapping c = makes-mapping (string_bytes c.args.texts.now) c.args.parts.now.items c.put_entries.new.parts.items c.args.number c.args.shown.now.tag.now c.in-Mapping.entries.now (inside_shown (λ r. r) c.args.shown.now.inside) c.in_ok-put_entries-in-Mapping.field-0 (ap (inside_shown (λ r. r)) c.in-Mapping.is) c.in_ok-put_entries-in-Mapping.ensures c.if-not-are_entries_below.ensures
