use Rattle.yaml_definitions.specs.grammar.Laws.{Profile}
use Rattle.yaml_definitions.proofs.grammar.Forward.{on_s_l_comments, on_separate, fwd_tag, fwd_anchor, fwd_alias, fwd_properties, fwd_plain, fwd_single, fwd_double, fwd_literal, fwd_folded, fwd_directives, fwd_reads, fwd_stream}
use Rattle.yaml_definitions.proofs.grammar_laws.readings_go_on.Goals as goal

pub returns : goal.returns
returns c cs = record {
  comments = on_s_l_comments cs;
  separation = on_separate cs;
  tag = fwd_tag cs;
  anchor = fwd_anchor cs;
  alias = fwd_alias cs;
  properties = fwd_properties cs;
  plain = fwd_plain cs;
  single = fwd_single cs;
  double = fwd_double cs;
  literal = fwd_literal cs;
  folded = fwd_folded cs;
  directives = fwd_directives cs;
  node = λ wide. fwd_reads cs (Profile wide);
  stream = λ wide. fwd_stream cs (Profile wide);
}
