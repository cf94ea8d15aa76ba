-- What each call on comments, directives and properties answers: the value and the end of a reading from its place. Where there is none it refuses.
use Rattle.std.specs.Prelude.{ℕ, List}
use Rattle.yaml_definitions.specs.grammar.Rules.{Span, Rule, ◌⊔◌, ◌◂◌, ◌∪◌, furthest_span, chr, ahead, Begins}
use Rattle.yaml_definitions.specs.grammar.Separation.{s-l-comments as s_l_comments, l-comment as l_comment}
use Rattle.yaml_definitions.specs.grammar.Tags.{Handles, c-ns-tag-property as tag, c-ns-anchor-property as anchor, c-ns-alias-node as alias}
use Rattle.yaml_definitions.specs.grammar.Directives.{directives}
use Rattle.yaml_definitions.specs.model.Event.{WrittenTag}

module _ (cs : List ℕ) where
  unfoldable pub skip_comments : Span
  skip_comments = furthest_span (s_l_comments cs)

  -- up to the first line that neither begins with `%` nor is an `l-comment`
  unfoldable pub read_directives : Rule Handles
  read_directives = directives cs ◂ ahead (λ j. (Begins (chr cs 37 ⊔ l_comment cs) j → ⊥))

  unfoldable pub read_tag : Handles → Rule WrittenTag
  read_tag handles = tag cs handles

  unfoldable pub read_name : Rule (List ℕ)
  read_name = anchor cs ∪ alias cs
