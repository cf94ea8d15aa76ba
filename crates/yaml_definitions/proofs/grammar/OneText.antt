-- Bytes are one text at most.
use Rattle.std.proofs.Common.{sym, ◌∙◌}
use Rattle.std.proofs.lemmas.Str.{encodes_same}
use Rattle.yaml_definitions.specs.grammar.Laws.{OneText}

pub one-text : OneText
one-text bytes cs ds t u = encodes_same cs ds (sym t.decodes ∙ u.decodes)
