-- What a call of the composer answers.
use Rattle.std.proofs.Common.{Result, Ok, Err, ◌≡◌, ◌<◌, ℕ, suc, Bool, true, List, [], ◌∷◌, refl, sym, ◌∙◌, ap, subst, arith}
use Rattle.std.specs.Prelude.{Option, Some, IfOk, IfErr, MatchResult}
use Rattle.std.specs.List.{All}
use Rattle.std.proofs.lemmas.List.Elements.{All-nil, All-cons}
use Rattle.std.specs.Cow.{cow_str_bytes}
use Rattle.yaml_definitions.specs.model.Unfold.{Outcome, and_then}
use Rattle.yaml_definitions.specs.model.Tree.{Tree, mapping}
use Rattle.yaml_text.specs.declared.fault.Fault.{Fault}
use Rattle.yaml_text.specs.declared.fault.Fault.TheVariants as faults
use Rattle.yaml_tree.specs.TreeLists.{pairs, tree_at}
use Rattle.yaml_graph.specs.GraphModel.{Entries, trees_at, entries_at, kind_tree, trees_in}
use Rattle.yaml_tree.specs.ComposerSteps.{State, paired, whole, collection_ended, collection_from}
use Rattle.yaml_tree.specs.ComposerSteps as machine
use Rattle.yaml_tree.specs.Refused.{RefusesUnfolding}
use Rattle.yaml_tree.specs.Anchors.{Names}
use Rattle.yaml_graph.specs.ComposerModel.{AllStand, Collects, Holds, Reached}
use Rattle.yaml_graph.specs.declared.composer.Composer.{Composer}
use Rattle.yaml_graph.specs.declared.composer.Open.{Open}
use Rattle.yaml_graph.specs.declared.node.Node.{Node}
use Rattle.yaml_tree.specs.declared.node.NodeId.{NodeId}
use Rattle.yaml_graph.specs.declared.node.NodeKind.{NodeKind}
use Rattle.yaml_graph.proofs.ComposerLaws.{Leaves, trees-at}

-- a refusal is that of all that follows
refuses-err : {X : Type 0} (f : Fault) (e : Outcome X) → RefusesUnfolding e f → {Y : Type 0} → (k : X → Outcome Y) → RefusesUnfolding (and_then e k) f
refuses-err (faults.UndefinedAlias n) o h k = ap (λ z. and_then z k) h
refuses-err (faults.CyclicAlias n) o h k = ap (λ z. and_then z k) h
refuses-err (faults.WrongKind n) o h k = ap (λ z. and_then z k) h
refuses-err (faults.BadContent n) o h k = ap (λ z. and_then z k) h
refuses-err (faults.IntRange n) o h k = ap (λ z. and_then z k) h
refuses-err (faults.FloatRange n) o h k = ap (λ z. and_then z k) h
refuses-err faults.OutOfMemory o h k = tt
refuses-err _ o h k = absurd h

pub refuses-then : {X Y : Type 0} (o : Outcome X) (k : X → Outcome Y) (f : Fault) → RefusesUnfolding o f → RefusesUnfolding (and_then o k) f
refuses-then o k f h = refuses-err f o h k

-- a call that can only want memory
pub answered : (r : Result (Unit {0}) Fault) (c : Composer) (t : State) (found : Outcome State) → found ≡ Ok t → IfOk r (λ _. Holds c t) → IfErr r (λ fault. fault ≡ faults.OutOfMemory) → MatchResult r (λ _. Reached found c) (RefusesUnfolding found)
answered (Ok v) c t found e h k = record { state = t; is = e; holds = h }
answered (Err f) c t found e h k = subst (λ z. RefusesUnfolding found z) (sym k) tt

pub answered-reached : (r : Result (Unit {0}) Fault) (c : Composer) (found : Outcome State) → IfOk r (λ _. Reached found c) → IfErr r (λ fault. fault ≡ faults.OutOfMemory) → MatchResult r (λ _. Reached found c) (RefusesUnfolding found)
answered-reached (Ok u) c found h k = h
answered-reached (Err f) c found h k = subst (λ z. RefusesUnfolding found z) (sym k) tt

pub answered-same : (r : Result (Unit {0}) Fault) (c : Composer) (found o : Outcome State) → found ≡ o → MatchResult r (λ _. Reached o c) (RefusesUnfolding o) → MatchResult r (λ _. Reached found c) (RefusesUnfolding found)
answered-same r c found o e h = subst (λ w. MatchResult r (λ _. Reached w c) (RefusesUnfolding w)) (sym e) h

-- ---- a collection ends

-- both numbers of each pair
pairs-below : (k : ℕ) (places : List NodeId) → All (λ i. i.0 < k) places → All (λ p. (p.0.0 < k) × (p.1.0 < k)) (paired places)
pairs-below k [] h = All-nil (λ p. (p.0.0 < k) × (p.1.0 < k))
pairs-below k (i ∷ []) h = All-nil (λ p. (p.0.0 < k) × (p.1.0 < k))
pairs-below k (i ∷ (j ∷ places)) h =
    All-cons (λ p. (p.0.0 < k) × (p.1.0 < k)) (i, j) (paired places) (h 0 i (omega arith), h 1 i (omega arith)) (pairs-below k places (λ m d l. h (suc (suc m)) d (omega arith)))

paired-at : (ts : List Tree) (places : List NodeId) → entries_at ts (paired places) ≡ paired (trees_at ts places)
paired-at ts [] = refl
paired-at ts (i ∷ []) = refl
paired-at ts (i ∷ (j ∷ places)) = ap (λ ps. (tree_at ts i.0, tree_at ts j.0) ∷ ps) (paired-at ts places)

pub entries-below : (k : ℕ) (places : List NodeId) (entries : Entries) → All (λ i. i.0 < k) places → entries ≡ paired places → All (λ p. (p.0.0 < k) × (p.1.0 < k)) entries
entries-below k places entries h q = subst (All (λ p. (p.0.0 < k) × (p.1.0 < k))) (sym q) (pairs-below k places h)

pub entries-tree : (ts : List Tree) (places : List NodeId) (entries : Entries) → entries ≡ paired places → (g : List ℕ) → mapping g (pairs (entries_at ts entries)) ≡ collection_from true g (trees_at ts places)
entries-tree ts places entries q g = ap (λ ps. mapping g (pairs ps)) (ap (entries_at ts) q ∙ paired-at ts places)

-- the state that the innermost collection leaves
abbrev pub rest_of : State → machine.Open → List machine.Open → State
rest_of s p ps = record { inner = p.before; outer = ps; table = s.table; done = s.done }

pub leave-found : (ns : List Node) (hs : List ℕ) (m : Names) (anchored : List (Option NodeId)) (os : List Open) (o : Open) (s : State) (l : Leaves ns hs m anchored os o s) (mapped : Bool) (kind : NodeKind) (places : List NodeId)
    → Collects ns mapped places kind → AllStand (trees_in ns) places s.inner → (found : Outcome State) → collection_ended mapped s s.outer ≡ Some found → (c : Composer)
    → Holds c (whole l.frame.anchor l.frame.slot (kind_tree (trees_in ns) (cow_str_bytes o.tag) kind) (rest_of s l.frame l.frames)) → Reached found c
leave-found ns hs m anchored os o s l mapped kind places k h found e c p =
    let rest = rest_of s l.frame l.frames in
    let t : State = whole l.frame.anchor l.frame.slot (collection_from mapped l.frame.tag s.inner) rest in
    let q : Some found ≡ Some (Ok t) = sym e ∙ ap (collection_ended mapped s) l.outer in
    let tree : kind_tree (trees_in ns) (cow_str_bytes o.tag) kind ≡ collection_from mapped l.frame.tag s.inner =
    k.tree (cow_str_bytes o.tag) ∙ (λ z. collection_from mapped (l.stands.tag z) (trees-at (trees_in ns) places s.inner h z)) in
    record { state = t; is = cc; holds = subst (λ x. Holds c (whole l.frame.anchor l.frame.slot x rest)) tree p }
