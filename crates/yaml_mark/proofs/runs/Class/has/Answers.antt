use Rattle.std.proofs.Common.{ap, sym, ◌∙◌}
use Rattle.yaml_mark.specs.Classes.{class_of}
use Rattle.yaml_mark.proofs.ClassLemmas.{word_tag}
use Rattle.yaml_mark.proofs.runs.Class.has.Goals as goal

pub returns-then-is_word : goal.returns-then-is_word
returns-then-is_word c = c.if-is_word.true ∙ sym (ap (λ k. class_of k c.args.c) c.in-Tag.is ∙ word_tag c.args.c (sym c.is_word-in-Tag.ensures ∙ c.if-is_word.true))
