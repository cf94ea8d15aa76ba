-- Directives (YAML 1.2.2, 6.8).
use Rattle.std.specs.Prelude.{◌≡◌, ℕ, List, [], ◌∷◌, Bool, true, false, not, ◌&&◌, ◌||◌, codes, bytes_eq}
use Rattle.std.specs.List.{list_any}
use Rattle.yaml_definitions.specs.grammar.Rules.{Rule, ◌◆◌, ◌▸◌, ◌◂◌, ◌∪◌, gives, any_one, any_span, chr, word, some_run, whole_run, copied, ahead, with_value, seen, where_value}
use Rattle.yaml_definitions.specs.grammar.Characters.{is_ns, is_space, c-directive}
use Rattle.yaml_definitions.specs.grammar.Separation.{s-l-comments, StartsLine}
use Rattle.yaml_definitions.specs.grammar.Tags.{Handles, c-tag-handle, ns-tag-prefix}

-- no production: what a directive says
pub data Directive : Type 0 where
  version reserved : Directive
  binding : List ℕ → List ℕ → Directive

-- no production: the handles that directives bind, with their prefixes
unfoldable pub bindings : List Directive → Handles
bindings [] = []
bindings (version ∷ ds) = bindings ds
bindings (reserved ∷ ds) = bindings ds
bindings (binding handle prefix ∷ ds) = (handle, prefix) ∷ bindings ds

-- no production: the two may not both stand before a document (6.8.1, 6.8.2)
unfoldable pub excludes : Directive → Directive → Bool
excludes version version = true
excludes (binding handle prefix) (binding other more) = bytes_eq handle other
excludes _ _ = false

-- no production: at most one version, and one binding for a handle
unfoldable pub is_consistent : List Directive → Bool
is_consistent [] = true
is_consistent (d ∷ ds) = not (list_any (excludes d) ds) && is_consistent ds

-- no production: the names of the two directives that are not reserved
unfoldable pub is_known : List ℕ → Bool
is_known name = bytes_eq name (codes "YAML") || bytes_eq name (codes "TAG")

module _ (cs : List ℕ) where
  -- [86] ns-yaml-directive (6.8.1), with its `%`; of [87] ns-yaml-version 1.2 alone
  unfoldable pub ns-yaml-directive : Rule Directive
  ns-yaml-directive = (word cs (codes "%YAML") ◆ some_run cs is_space ◆ word cs (codes "1.2")) ▸ gives version

  -- [88] ns-tag-directive (6.8.2), with its `%`
  unfoldable pub ns-tag-directive : Rule Directive
  ns-tag-directive = (word cs (codes "%TAG") ◆ some_run cs is_space) ▸ with_value (c-tag-handle cs) (λ handle.
      some_run cs is_space ▸ seen (λ prefix. binding handle prefix) (ns-tag-prefix cs))

  -- [83] ns-reserved-directive (6.8), with its `%`: [84] ns-directive-name, and [85] ns-directive-parameter any number of times
  unfoldable pub ns-reserved-directive : Rule Directive
  ns-reserved-directive = chr cs c-directive ▸ seen (λ name. reserved) (where_value (λ name. is_known name ≡ false) (copied cs (whole_run cs is_ns)))
      ◂ any_span (some_run cs is_space ◆ some_run cs is_ns)

  -- [82] l-directive (6.8)
  unfoldable pub l-directive : Rule (List Directive)
  l-directive = ahead (StartsLine cs) ▸ seen (λ d. d ∷ []) (ns-yaml-directive ∪ ns-tag-directive ∪ ns-reserved-directive) ◂ s-l-comments cs

  -- no production: the directives of [209] l-directive-document (9.1.5); the comment lines between them are in `l-directive`
  unfoldable pub directives : Rule Handles
  directives = seen bindings (where_value (λ ds. is_consistent ds ≡ true) (any_one l-directive))
