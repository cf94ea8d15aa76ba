-- What the composer's end says of the documents.
use Rattle.std.proofs.Common.{Result, Ok, Err, ◌≡◌, List, subst, sym, ◌∙◌}
use Rattle.std.specs.Prelude.{MatchResult}
use Rattle.yaml_definitions.specs.model.Limits.{height_limit}
use Rattle.yaml_definitions.specs.model.Serial.{Document}
use Rattle.yaml_definitions.specs.model.Unfold.{trees_of}
use Rattle.yaml_text.specs.declared.fault.Fault.{Fault}
use Rattle.yaml_text.specs.declared.fault.Fault.TheVariants as faults
use Rattle.yaml_tree.specs.Closing.{stream_trees}
use Rattle.yaml_tree.specs.Refused.{RefusesStream}
use Rattle.yaml_graph.specs.Composed.{Composed}
use Rattle.yaml_tree.proofs.ClosingLaws.{low-stream}
use Rattle.yaml_tree.specs.ComposerSteps.{State}
use Rattle.yaml_graph.specs.Finished.{Finishes, RefusesHeight}
use Rattle.yaml_tree.specs.TreeLists.{AreLow}
use Rattle.yaml_graph.specs.declared.graph.Graph.{Graph}
use Rattle.yaml_tree.proofs.LowLaws.{all-low, low-each}

module _ (ds : List Document) (s : State) (unfolded : trees_of ds ≡ Ok s.inner) (all : s.done ≡ stream_trees ds s.inner) where
  -- no node is too high where no document is
  pub nodes-low : AreLow s.inner → AreLow s.done
  nodes-low low = subst AreLow (sym all) (all-low height_limit (stream_trees ds s.inner) (low-stream ds s.inner height_limit (low-each height_limit s.inner low)))

  refuses : (f : Fault) → RefusesHeight s.inner f → RefusesStream ds f
  refuses (faults.TooHigh number) h = record { trees = s.inner; unfolded = unfolded; tree = h.tree; is = h.is; high = h.high; before = h.before }
  refuses _ h = absurd h

  pub finished : (r : Result Graph Fault) → MatchResult r (Finishes s) (RefusesHeight s.inner) → MatchResult r (Composed ds) (RefusesStream ds)
  finished (Ok g) h = record { trees = s.inner; unfolded = unfolded; low = h.low; roots = h.roots; nodes = h.nodes ∙ all }
  finished (Err f) h = refuses f h
