-- How a walk in writing order changes what is known of each rank, and the serialization tree that it writes.
use Rattle.std.specs.Prelude.{ℕ, zero, suc, Bool, true, cond, ◌++◌, List, [], ◌∷◌}
use Rattle.std.specs.Str.{chars}
use Rattle.yaml_definitions.specs.canonical.NodeText.{quoted, items_text, pairs_text}
use Rattle.std.specs.declared.option.Option.TheVariants.{None, Some}
use Rattle.yaml_definitions.specs.model.Tree.{Tree, Trees, Pairs, scalar, sequence, mapping, end, item, done, entry}
use Rattle.yaml_definitions.specs.canonical.Spell.{short}
use Rattle.yaml_definitions.specs.model.Event.{Anchor, double}
use Rattle.yaml_definitions.specs.canonical.Serialize.{anchor_name}
use Rattle.yaml_definitions.specs.model.Serial.{SerialNode, SerialNodes, SerialPairs, alias_at, scalar_at, sequence_at, mapping_at, end_serial, item_serial, done_serial, entry_serial}
use Rattle.yaml_definitions.specs.canonical.TagText.{tag_text, written_tag}
use Rattle.yaml_spell.specs.declared.names.State.{State}
use Rattle.yaml_spell.specs.declared.names.State.TheVariants.{Unseen}
use Rattle.yaml_spell.specs.declared.names.Opening.{Opening}
use Rattle.yaml_spell.specs.declared.names.Opening.TheVariants.{Plain, Anchored, Alias}
use Rattle.yaml_spell.specs.NamesView.{RankStates, Given, met_at, opening, rank_begun}

-- the first node of a rank is entered
abbrev pub entered : State → RankStates → RankStates → RankStates
entered Unseen outside inside = inside
entered _ outside inside = outside

-- a short node begins plainly and is not noted
abbrev pub opening_of : Bool → ℕ → Given → Opening
opening_of is_short rank given = cond is_short Plain (opening given.1 (given.0 rank))

abbrev pub begun_unless_short : Bool → ℕ → Given → Given
begun_unless_short is_short rank given = cond is_short given (rank_begun rank given)

-- nothing stands inside an alias
abbrev pub after : Opening → Given → Given → Given
after (Alias number) outside inside = outside
after _ outside inside = inside

abbrev pub anchor_in : Opening → Anchor
anchor_in (Anchored number) = Some (anchor_name number)
anchor_in _ = None

abbrev pub begun : Opening → SerialNode → SerialNode
begun (Alias number) m = alias_at (anchor_name number)
begun _ m = m

-- what stands before the entry at this place
abbrev pub separator : ℕ → List ℕ
separator zero = []
separator (suc i) = 44 ∷ 32 ∷ []

-- `rank` gives the rank of each tree.
module _ (rank : Tree → ℕ) where
  -- the first pass: which ranks are met, and which come again
  abbrev pub noted : Tree → RankStates → (RankStates → RankStates) → RankStates
  noted t m inside = cond (short t) m (entered (m (rank t)) (met_at (rank t) m) (inside (met_at (rank t) m)))

  unfoldable mutual
    pub noticed : Tree → RankStates → RankStates
    noticed (scalar g x) m = noted (scalar g x) m (λ n. n)
    noticed (sequence g ts) m = noted (sequence g ts) m (noticed_all ts)
    noticed (mapping g ps) m = noted (mapping g ps) m (noticed_pairs ps)

    pub noticed_all : Trees → RankStates → RankStates
    noticed_all end m = m
    noticed_all (item t ts) m = noticed_all ts (noticed t m)

    pub noticed_pairs : Pairs → RankStates → RankStates
    noticed_pairs done m = m
    noticed_pairs (entry k v ps) m = noticed_pairs ps (noticed v (noticed k m))

  abbrev pub start : Tree → Given → Opening
  start t p = opening_of (short t) (rank t) p

  abbrev pub started : Tree → Given → Given
  started t p = begun_unless_short (short t) (rank t) p

  -- the second pass: what is known after a tree, and its serialization tree
  unfoldable mutual
    pub given : Tree → Given → Given
    given (scalar g x) p = started (scalar g x) p
    given (sequence g ts) p = after (start (sequence g ts) p) (started (sequence g ts) p) (given_all ts (started (sequence g ts) p))
    given (mapping g ps) p = after (start (mapping g ps) p) (started (mapping g ps) p) (given_pairs ps (started (mapping g ps) p))

    pub given_all : Trees → Given → Given
    given_all end p = p
    given_all (item t ts) p = given_all ts (given t p)

    pub given_pairs : Pairs → Given → Given
    given_pairs done p = p
    given_pairs (entry k v ps) p = given_pairs ps (given v (given k p))

  unfoldable mutual
    pub written : Tree → Given → SerialNode
    written (scalar g x) p = begun (start (scalar g x) p) (scalar_at (anchor_in (start (scalar g x) p)) (written_tag 0 g) double x)
    written (sequence g ts) p = begun (start (sequence g ts) p) (sequence_at (anchor_in (start (sequence g ts) p)) (written_tag 1 g) true (written_all ts (started (sequence g ts) p)))
    written (mapping g ps) p = begun (start (mapping g ps) p) (mapping_at (anchor_in (start (mapping g ps) p)) (written_tag 2 g) true (written_pairs ps (started (mapping g ps) p)))

    pub written_all : Trees → Given → SerialNodes
    written_all end p = end_serial
    written_all (item t ts) p = item_serial (written t p) (written_all ts (given t p))

    pub written_pairs : Pairs → Given → SerialPairs
    written_pairs done p = done_serial
    written_pairs (entry k v ps) p = entry_serial (written k p) (written v (given k p)) (written_pairs ps (given v (given k p)))

  -- the text of a node behind its anchor, and what is known after it
  abbrev pub behind_anchor : Tree → Given → List ℕ → List ℕ
  behind_anchor (scalar g x) p more = tag_text (written_tag 0 g) ++ (34 ∷ quoted (chars x) more)
  behind_anchor (sequence g ts) p more = tag_text (written_tag 1 g) ++ (91 ∷ items_text [] (written_all ts p) more)
  behind_anchor (mapping g ps) p more = tag_text (written_tag 2 g) ++ (123 ∷ pairs_text [] (written_pairs ps p) more)

  abbrev pub given_inside : Tree → Given → Given
  given_inside (scalar g x) p = p
  given_inside (sequence g ts) p = given_all ts p
  given_inside (mapping g ps) p = given_pairs ps p
