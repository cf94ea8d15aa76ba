use Rattle.std.proofs.Common.{Global, ◌≡◌, ◌<◌, ◌++◌, ◌∷◌, [], length, subst, sym, List}
use Rattle.std.specs.Prelude.{Vec}
use Rattle.std.specs.List.{All}
use Rattle.yaml_tree.specs.ComposerSteps.{State}
use Rattle.yaml_graph.specs.ComposerModel.{is_mapping, Collects, Held, Holds}
use Rattle.yaml_graph.specs.declared.composer.Composer.{Composer}
use Rattle.yaml_graph.specs.declared.composer.Open.{Open}
use Rattle.yaml_tree.specs.declared.node.NodeId.{NodeId}
use Rattle.yaml_graph.proofs.ComposerLaws.{Leaves, held-leave, places-below, placed-within}
use Rattle.yaml_graph.proofs.CallLaws.{rest_of, leave-found}
use Rattle.yaml_graph.proofs.composer.Composer.leave.Goals as goal

-- what is left once the innermost collection is taken off
left-by : (c : Composer) (os : List Open) (o : Open) (s : State) → c.outer.items ≡ os ++ (o ∷ []) → Holds c s → Leaves c.nodes.items c.heights.items c.names c.anchored.items os o s
left-by c os o s e h =
    held-leave c.nodes.items c.heights.items c.names c.anchored.items os o c.inner.items s (subst (λ z. Held c.nodes.items c.heights.items c.names c.anchored.items z c.inner.items s) e h)

parts-below : (c : Composer) (s : State) (parts : Vec NodeId Global) → parts ≡ c.inner → Holds c s → All (λ i. i.0 < length c.nodes.items) parts.items
parts-below c s parts e h = subst (λ z. All (λ i. i.0 < length c.nodes.items) z.items) (sym e) (places-below c.nodes.items c.inner.items s.inner h.inside)

pub add-requires-clause-below : goal.add-requires-clause-below
add-requires-clause-below c =
    let self = c.args.self.now in
    (c.in_ok-kind.ensures.ok self.nodes.items (parts-below self c.requires.0 c.replace-parts.result c.replace-parts.ensures.value c.requires.1)).below

pub add-requires-clause-within : goal.add-requires-clause-within
add-requires-clause-within c =
    let self = c.args.self.now in
    let gone = c.in-Some.open in
    let s = c.requires.0 in
    let l = left-by self c.pop.new.self.items gone s c.in-Some.ensures.items c.requires.1 in
    placed-within self.nodes.items self.heights.items self.names self.anchored.items c.pop.new.self.items gone.before.items (rest_of s l.frame l.frames) l.held gone.place l.frame.anchor l.frame.slot l.stands.place

pub add-requires-clause-held : goal.add-requires-clause-held
add-requires-clause-held c =
    let self = c.args.self.now in
    let s = c.requires.0 in
    let l = left-by self c.pop.new.self.items c.in-Some.open s c.in-Some.ensures.items c.requires.1 in
    (rest_of s l.frame l.frames, subst (λ z. Held self.nodes.items self.heights.items self.names self.anchored.items c.pop.new.self.items z.items (rest_of s l.frame l.frames)) (sym c.replace-parts.ensures.after) l.held)

pub returns-in_ok-add-clause-ok : goal.returns-in_ok-add-clause-ok
returns-in_ok-add-clause-ok c = λ s h found e.
    let self = c.args.self.now in
    let gone = c.in-Some.open in
    let kind = c.in_ok-kind.kind in
    let l = left-by self c.pop.new.self.items gone s c.in-Some.ensures.items h in
    let rest = rest_of s l.frame l.frames in
    let collects = subst (λ z. Collects self.nodes.items (is_mapping c.args.collection) z.items kind) c.replace-parts.ensures.value (c.in_ok-kind.ensures.ok self.nodes.items (parts-below self s c.replace-parts.result c.replace-parts.ensures.value h)) in
    leave-found self.nodes.items self.heights.items self.names self.anchored.items c.pop.new.self.items gone s l (is_mapping c.args.collection) kind self.inner.items collects h.inside found e c.add.new.self
    (c.in_ok-add.ensures.ok rest (subst (λ z. Held self.nodes.items self.heights.items self.names self.anchored.items c.pop.new.self.items z.items rest) (sym c.replace-parts.ensures.after) l.held) l.frame.anchor l.frame.slot l.stands.place)
