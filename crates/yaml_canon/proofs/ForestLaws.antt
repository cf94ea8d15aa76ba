-- From what a reader put down to the documents that bytes are read as.
use Rattle.std.proofs.Common.{◌≡◌, ℕ, List, [], ◌∷◌, ◌++◌, refl, sym, ◌∙◌, ap, subst, Ok}
use Rattle.std.specs.Prelude.{Result, Err, IfOk}
use Rattle.std.proofs.lemmas.Option.{get_or_from_slice_get}
use Rattle.yaml_definitions.specs.model.Tree.{Tree, scalar}
use Rattle.yaml_definitions.specs.model.Means.{Means}
use Rattle.yaml_definitions.specs.model.Limits.{open_limit}
use Rattle.yaml_definitions.specs.model.Event.{Event}
use Rattle.yaml_definitions.specs.model.Text.{Text}
use Rattle.yaml_text.specs.declared.fault.Fault.{Fault}
use Rattle.yaml_definitions.specs.model.Serial.{Document, stream_events}
use Rattle.yaml_definitions.specs.model.Unfold.{trees_of as trees_unfolded}
use Rattle.yaml_definitions.specs.grammar.Reading.{Reads}
use Rattle.yaml_definitions.specs.grammar.Streams.{ReadsText}
use Rattle.yaml_definitions.proofs.grammar.Documents.{readings_are_documents}
use Rattle.yaml_sink.specs.Held.{Puts}
use Rattle.yaml_sink.specs.SinkModel.{holds_of}
use Rattle.yaml_sink.specs.declared.sink.Sink.{Sink}
use Rattle.yaml_sink.specs.declared.sink.Sink.TheVariants.{Kept}
use Rattle.yaml_store.specs.StoreModel.{parts_at}
use Rattle.yaml_store.specs.StoreGrows.{trees_of}
use Rattle.yaml_tree_builder.specs.BuilderModel.{AllAt}
use Rattle.yaml_tree_builder.specs.declared.builder.Forest.{Forest}
use Rattle.yaml_canon.specs.Read.{Takes, HasForest, root_trees}

-- what is put into a sink that is a keeper
pub puts-kept : {K : Type 0} (holds : K → List Event → Type 0) (first last : K) (out : Sink K) (es : List Event) → out ≡ Kept last → Puts (holds_of holds) (Kept first) es out → Puts holds first es last
puts-kept holds first last out es is p = record {
  is = λ log h.
      let held : holds_of holds (Kept last) (log ++ es) = subst (λ v. holds_of holds v (log ++ es)) is (p.is log h) in
      held;
}

-- the roots stand for these trees
pub roots-are : (ts : List Tree) (roots : List ℕ) (us : List Tree) → AllAt ts roots us → parts_at ts roots ≡ us
roots-are ts [] [] h = refl
roots-are ts (i ∷ roots) (u ∷ us) h = λ z. get_or_from_slice_get ts i u (scalar [] []) h.0 z ∷ roots-are ts roots us h.1 z
roots-are ts [] (u ∷ us) h = absurd h
roots-are ts (i ∷ roots) [] h = absurd h

-- the bytes mean what their documents unfold to
pub means-trees : (bytes : List ℕ) (ds : List Document) (ts : List Tree) → Reads bytes (stream_events ds) → trees_unfolded ds ≡ Ok ts → Means bytes ts
means-trees bytes ds ts r u = record { events = stream_events ds; reads = r; stands = record { documents = ds; cut = refl; unfolded = u } }

-- what the bytes mean
pub meant : (bytes : List ℕ) (f : Forest) → HasForest bytes f → Means bytes (root_trees f)
meant bytes f h = means-trees bytes h.documents (root_trees f) h.read (h.forest.unfolded ∙ ap Ok (sym (roots-are (trees_of f.store) f.roots.items h.forest.trees_are h.forest.roots)))

-- the events of a reading are those of documents
pub takes : {K : Type 0} (holds : K → List Event → Type 0) (bytes cs : List ℕ) (before after : K) (es : List Event) → Text bytes cs → ReadsText cs (Unit {0}) open_limit es → Puts holds before es after → Takes holds bytes before after
unfolding Reads
takes holds bytes cs before after es t r p =
    let d = readings_are_documents bytes es (cs, t, r) in
    record { documents = d.0; read = subst (Reads bytes) d.1 (cs, t, r); puts = subst (λ z. Puts holds before z after) d.1 p }

-- what reading answers
pub if_takes : {K : Type 0} (holds : K → List Event → Type 0) (bytes cs : List ℕ) (before : K) → Text bytes cs → (r : Result K Fault) → IfOk r (λ after. (es : List Event) × ReadsText cs (Unit {0}) open_limit es × Puts holds before es after) → IfOk r (Takes holds bytes before)
if_takes holds bytes cs before t (Ok after) h = takes holds bytes cs before after h.0 t h.1 h.2
if_takes holds bytes cs before t (Err fault) h = tt
