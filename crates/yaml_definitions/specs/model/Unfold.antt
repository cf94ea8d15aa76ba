-- Documents unfolded: aliases put in place, scalars taken by the core schema.
use Rattle.std.specs.Prelude.{ℕ, suc, ◌+◌, cond, ◌++◌, List, [], ◌∷◌, length, set, Result, Ok, Err}
use Rattle.std.specs.declared.option.Option.{Option}
use Rattle.std.specs.declared.option.Option.TheVariants.{None, Some}
use Rattle.yaml_definitions.specs.model.Tree.{Tree, Trees, Pairs, scalar, sequence, mapping, end, item, done, entry, a_sequence, a_mapping}
use Rattle.std.specs.Prelude.{bytes_eq}
use Rattle.yaml_definitions.specs.model.Event.{Anchor}
use Rattle.yaml_definitions.specs.model.Serial.{SerialNode, SerialNodes, SerialPairs, alias_at, scalar_at, sequence_at, mapping_at, end_serial, item_serial, done_serial, entry_serial, flat, Document}
use Rattle.yaml_definitions.specs.model.Core.{Cause, undefined_alias, cyclic_alias, resolve, collection_tag}

-- what was found, or the first refusal: its cause, and its event's number
abbrev pub Outcome : Type 0 → Type 0
Outcome A = Result A (Cause × ℕ)

abbrev pub and_then : {X Y : Type 0} → Outcome X → (X → Outcome Y) → Outcome Y
and_then (Err e) f = Err e
and_then (Ok x) f = f x

abbrev pub placed : {X : Type 0} → ℕ → Result X Cause → Outcome X
placed at (Ok x) = Ok x
placed at (Err cause) = Err (cause, at)

abbrev pub or_else : {X : Type 0} → Option X → Option X → Option X
or_else None o = o
or_else (Some x) o = Some x

-- each anchor that was met, in order, with its node once that is whole
abbrev pub Table : Type 0
Table = List (List ℕ × Option Tree)

abbrev pub opened : Anchor → Table → Table
opened None e = e
opened (Some name) e = e ++ ((name, None) ∷ [])

-- the table once the node whose anchor stands at this place is whole
abbrev pub closed : Anchor → ℕ → Tree → Table → Table
closed None i t e = e
closed (Some name) i t e = set e i (name, Some t)

-- what stands at the last anchor of this name: no anchor, an open node or a tree
unfoldable pub last_named : List ℕ → Table → Option (Option Tree)
last_named name [] = None
last_named name (o ∷ e) = or_else (last_named name e) (cond (bytes_eq o.0 name) (Some o.1) None)

abbrev pub tree_named : Option (Option Tree) → Result Tree Cause
tree_named None = Err undefined_alias
tree_named (Some None) = Err cyclic_alias
tree_named (Some (Some t)) = Ok t

-- how many events it has
abbrev pub event_count : SerialNode → ℕ
event_count m = length (flat m [])

-- The last number is that of the first event.
unfoldable mutual
  pub unfold_node : SerialNode → Table → ℕ → Outcome (Tree × Table)
  unfold_node (alias_at name) e at = and_then (placed at (tree_named (last_named name e))) (λ t. Ok (t, e))
  unfold_node (scalar_at a g y x) e at =
      and_then (placed at (resolve g y x)) (λ r. Ok (scalar r.0 r.1, closed a (length e) (scalar r.0 r.1) (opened a e)))
  unfold_node (sequence_at a g b ts) e at =
      and_then (placed at (collection_tag a_sequence g)) (λ h. and_then (unfold_all ts (opened a e) (suc at)) (λ r. Ok (sequence h r.0, closed a (length e) (sequence h r.0) r.1)))
  unfold_node (mapping_at a g b ps) e at =
      and_then (placed at (collection_tag a_mapping g)) (λ h. and_then (unfold_pairs ps (opened a e) (suc at)) (λ r. Ok (mapping h r.0, closed a (length e) (mapping h r.0) r.1)))

  pub unfold_all : SerialNodes → Table → ℕ → Outcome (Trees × Table)
  unfold_all end_serial e at = Ok (end, e)
  unfold_all (item_serial t ts) e at = and_then (unfold_node t e at) (λ r. and_then (unfold_all ts r.1 (at + event_count t)) (λ s. Ok (item r.0 s.0, s.1)))

  pub unfold_pairs : SerialPairs → Table → ℕ → Outcome (Pairs × Table)
  unfold_pairs done_serial e at = Ok (done, e)
  unfold_pairs (entry_serial k v ps) e at =
      and_then (unfold_node k e at) (λ r. and_then (unfold_node v r.1 (at + event_count k)) (λ s.
      and_then (unfold_pairs ps s.1 (at + event_count k + event_count v)) (λ u. Ok (entry r.0 s.0 u.0, u.1))))

-- The trees of a stream's documents; the number is that of the first document's start.
unfoldable pub trees_from : ℕ → List Document → Outcome (List Tree)
trees_from at [] = Ok []
trees_from at (d ∷ ds) =
    and_then (unfold_node d.root [] (suc at)) (λ r. and_then (trees_from (suc (suc (at + event_count d.root))) ds) (λ f. Ok (r.0 ∷ f)))

-- Event 0 is the stream's start.
abbrev pub trees_of : List Document → Outcome (List Tree)
trees_of ds = trees_from 1 ds
