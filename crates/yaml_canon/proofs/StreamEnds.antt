-- Streams that are read one behind the other, and where each ends.
use Rattle.std.proofs.Common.{◌≡◌, ℕ, ◌+◌, ◌-◌, ◌<◌, ◌≤◌, List, [], ◌∷◌, ◌++◌, length, length-append, map, take, drop, get_or, refl, sym, ◌∙◌, ap, subst, arith, Ok}
use Rattle.std.specs.List.{flat_map, slice_range}
use Rattle.std.proofs.Math.Seq.{take-append_seam, drop-append_seam}
use Rattle.std.proofs.lemmas.List.{append-nil, append_assoc, take_more, map-append, take-map, drop-map, length-map}
use Rattle.yaml_definitions.specs.model.Tree.{Tree}
use Rattle.yaml_definitions.specs.model.Event.{Event}
use Rattle.yaml_definitions.specs.model.Means.{Means}
use Rattle.yaml_definitions.specs.model.Serial.{Document, stream_events}
use Rattle.yaml_definitions.specs.model.Unfold.{trees_of as trees_unfolded}
use Rattle.yaml_definitions.specs.grammar.Reading.{Reads}
use Rattle.yaml_sink.specs.Held.{Counts, Keeps}
use Rattle.yaml_tree.specs.TreeLists.{tree_at}
use Rattle.yaml_tree.specs.Insides.{trees_held}
use Rattle.yaml_store.specs.StoreModel.{parts_at}
use Rattle.yaml_store.specs.StoreGrows.{trees_of}
use Rattle.yaml_store_rank.specs.Forests.{Forests, tree, cut_from, AreEnds}
use Rattle.yaml_store_rank.specs.Written.{ShowsStore}
use Rattle.yaml_tree_builder.specs.Reached.{AllUnfold, all_trees, all_events, HaveDocuments}
use Rattle.yaml_tree_builder.specs.BuilderModel.{AreStreams}
use Rattle.yaml_tree_builder.specs.declared.builder.Forest.{Forest}
use Rattle.yaml_store_composer.specs.KeeperModel.{Composes}
use Rattle.yaml_store_composer.specs.declared.keeper.Composing.{Composing}
use Rattle.yaml_canon.specs.Read.{Takes, HasRoots}
use Rattle.yaml_canon.specs.Tee.{TeeHolds, AllRead, ends_from, KeepsStreams}
use Rattle.yaml_canon.specs.Streams.{EndThere, HoldsStreams, Reached}
use Rattle.yaml_canon.specs.Written.{AllMean, ShowsStreams}
use Rattle.yaml_canon.specs.declared.streams.Ends.{Ends}
use Rattle.yaml_canon.specs.declared.tee.Tee.{Tee}
use Rattle.yaml_canon.proofs.ForestLaws.{roots-are, means-trees}

-- ---- lists one behind the other

-- how much is in all lists
abbrev size : {X : Type 0} → List (List X) → ℕ
size [] = 0
size (xs ∷ xss) = length xs + size xss

ends-behind : {X : Type 0} (start : ℕ) (xss : List (List X)) (xs : List X) (all : ℕ) → all ≡ start + size (xss ++ (xs ∷ [])) → ends_from start (xss ++ (xs ∷ [])) ≡ ends_from start xss ++ (all ∷ [])
ends-behind start [] xs all h = ap (λ n. n ∷ []) (omega (arith, h))
ends-behind start (ys ∷ xss) xs all h = ap (λ ns. (start + length ys) ∷ ns) (ends-behind (start + length ys) xss xs all (omega (arith, h)))

are-ends : {X : Type 0} (xss : List (List X)) (start most : ℕ) → start + size xss ≤ most → AreEnds most start (ends_from start xss)
are-ends [] start most h = tt
are-ends (xs ∷ xss) start most h = (omega arith, omega (arith, h), are-ends xss (start + length xs) most (omega (arith, h)))

-- lists that are taken one by one behind others
pub one-behind : {X : Type 0} (v : X → List ℕ) (front : List (List ℕ)) (xs : List X) (i : ℕ) (d : X) → i < length xs → (front ++ map v (take i xs)) ++ (v (get_or xs i d) ∷ []) ≡ front ++ map v (take (i + 1) xs)
one-behind v front xs i d l = append_assoc front (map v (take i xs)) (v (get_or xs i d) ∷ []) ∙ ap (λ z. front ++ z) (sym (ap (map v) (take_more xs i d l) ∙ map-append v (take i xs) (get_or xs i d ∷ [])))

-- ---- documents

size-trees : (tss : List (List Tree)) → length (all_trees tss) ≡ size tss
size-trees [] = refl
size-trees (ts ∷ tss) = length-append ts (all_trees tss) ∙ ap (λ n. length ts + n) (size-trees tss)

size-events : (dss : List (List Document)) → length (all_events dss) ≡ size (map stream_events dss)
size-events [] = refl
size-events (ds ∷ dss) = length-append (stream_events ds) (all_events dss) ∙ ap (λ n. length (stream_events ds) + n) (size-events dss)

events-behind : (dss : List (List Document)) (ds : List Document) → all_events (dss ++ (ds ∷ [])) ≡ all_events dss ++ stream_events ds
events-behind [] ds = append-nil (stream_events ds)
events-behind (d ∷ dss) ds = ap (λ es. stream_events d ++ es) (events-behind dss ds) ∙ sym (append_assoc (stream_events d) (all_events dss) (stream_events ds))

events-joined : (dss : List (List Document)) → all_events dss ≡ flat_map (λ es. es) (map stream_events dss)
events-joined [] = refl
events-joined (ds ∷ dss) = ap (λ es. stream_events ds ++ es) (events-joined dss)

read-behind : (sources : List (List ℕ)) (ess : List (List Event)) (bytes : List ℕ) (es : List Event) → AllRead sources ess → Reads bytes es → AllRead (sources ++ (bytes ∷ [])) (ess ++ (es ∷ []))
read-behind [] [] bytes es a r = (r, tt)
read-behind (s ∷ sources) (x ∷ ess) bytes es a r = (a.0, read-behind sources ess bytes es a.1 r)
read-behind [] (x ∷ ess) bytes es a r = absurd a
read-behind (s ∷ sources) [] bytes es a r = absurd a

-- the trees of streams, the last apart
record LastApart (dss : List (List Document)) (tss : List (List Tree)) : Type 0 where
  before : List (List Tree)
  last : List Tree
  is : tss ≡ before ++ (last ∷ [])
  unfolded : AllUnfold dss before

last-apart : (dss : List (List Document)) (ds : List Document) (tss : List (List Tree)) → AllUnfold (dss ++ (ds ∷ [])) tss → LastApart dss tss
last-apart [] ds (ts ∷ []) a = record { before = []; last = ts; is = refl; unfolded = tt }
last-apart [] ds (ts ∷ us ∷ tss) a = absurd a.1
last-apart [] ds [] a = absurd a
last-apart (d ∷ dss) ds (ts ∷ tss) a =
    let r = last-apart dss ds tss a.1 in
    record { before = ts ∷ r.before; last = r.last; is = ap (λ z. ts ∷ z) r.is; unfolded = (a.0, r.unfolded) }
last-apart (d ∷ dss) ds [] a = absurd a

unfold-same : (dss : List (List Document)) (tss uss : List (List Tree)) → AllUnfold dss tss → AllUnfold dss uss → tss ≡ uss
unfold-same [] [] [] a b = refl
unfold-same (ds ∷ dss) (ts ∷ tss) (us ∷ uss) a b =
    let e : Ok ts ≡ Ok us = sym a.0 ∙ b.0 in
    let t : ts ≡ us = cc in
    let r = unfold-same dss tss uss a.1 b.1 in
    λ z. t z ∷ r z
unfold-same [] (ts ∷ tss) uss a b = absurd a
unfold-same [] [] (us ∷ uss) a b = absurd b
unfold-same (ds ∷ dss) [] uss a b = absurd a
unfold-same (ds ∷ dss) (ts ∷ tss) [] a b = absurd b

end-behind : (dss : List (List Document)) (ds : List Document) (ends : List ℕ) (count : ℕ) → EndThere dss ends → HaveDocuments (dss ++ (ds ∷ [])) count → EndThere (dss ++ (ds ∷ [])) (ends ++ (count ∷ []))
end-behind dss ds ends count e h =
    let a = last-apart dss ds h.forests h.unfolded in
    let same = unfold-same dss e.forests a.before e.unfolded a.unfolded in
    let all = h.count_is ∙ (size-trees h.forests ∙ ap size a.is) in
    record {
      forests = h.forests;
      unfolded = h.unfolded;
      ends_are = ap (λ ns. ns ++ (count ∷ [])) (e.ends_are ∙ ap (ends_from 0) same) ∙ (sym (ends-behind 0 a.before a.last count (omega (arith, all))) ∙ ap (ends_from 0) (sym a.is));
    }

module _ {K : Type 0} (holds : K → List Event → Type 0) where
  -- nothing is read yet
  pub none-reached : (keeper : K) (ends : Ends) → ends.documents.items ≡ [] → ends.events.items ≡ [] → holds keeper [] → Reached holds [] keeper ends
  none-reached keeper ends d e h = record {
    holds_are = record { documents = []; read = tt; held = h; ends_are = record { forests = []; unfolded = tt; ends_are = d } };
    events = e;
  }

  -- bytes are read behind others
  pub reached-behind : (sources : List (List ℕ)) (bytes : List ℕ) (first middle last : K) (old new : Ends) (count mark : ℕ) → Reached holds sources first old → Takes holds bytes first middle → ((dss : List (List Document)) → holds middle (all_events dss) → HaveDocuments dss count) → Keeps holds middle last → Counts holds last mark → new.documents.items ≡ old.documents.items ++ (count ∷ []) → new.events.items ≡ old.events.items ++ (mark ∷ []) → Reached holds (sources ++ (bytes ∷ [])) last new
  reached-behind sources bytes first middle last old new count mark r t have keeps counts d e =
      let h = r.holds_are in
      let dss = h.documents ++ (t.documents ∷ []) in
      let events = events-behind h.documents t.documents in
      let maps : map stream_events dss ≡ map stream_events h.documents ++ (stream_events t.documents ∷ []) = map-append stream_events h.documents (t.documents ∷ []) in
      let held : holds middle (all_events dss) = subst (holds middle) (sym events) (t.puts.is (all_events h.documents) h.held) in
      let kept = keeps.is (all_events dss) held in
      let all = counts.is (all_events dss) kept ∙ (size-events dss ∙ ap size maps) in
      record {
        holds_are = record {
          documents = dss;
          read = subst (AllRead (sources ++ (bytes ∷ []))) (sym maps) (read-behind sources (map stream_events h.documents) bytes (stream_events t.documents) h.read t.read);
          held = kept;
          ends_are = subst (EndThere dss) (sym d) (end-behind h.documents t.documents old.documents.items count h.ends_are (have dss held));
        };
        events = e ∙ (ap (λ ns. ns ++ (mark ∷ [])) r.events ∙ (sym (ends-behind 0 (map stream_events h.documents) (stream_events t.documents) mark (omega (arith, all))) ∙ ap (ends_from 0) (sym maps)));
      }

-- ---- beside another keeper

module _ {K : Type 0} (holds : K → List Event → Type 0) where
  -- nothing is read yet
  pub none-beside : (composing : Composing) (keeper : K) (ends : Ends) → ends.documents.items ≡ [] → ends.events.items ≡ [] → Composes composing [] → holds keeper [] → Reached (TeeHolds Composes holds) [] (record { first = composing; second = keeper }) ends
  none-beside composing keeper ends d e h k = none-reached (TeeHolds Composes holds) (record { first = composing; second = keeper }) ends d e (record { first_holds = h; second_holds = k })

  -- what the composer holds
  pub composer-holds : (sources : List (List ℕ)) (tee : Tee Composing K) (ends : List ℕ) → HoldsStreams (TeeHolds Composes holds) sources tee ends → HoldsStreams Composes sources tee.first ends
  composer-holds sources tee ends h = record { documents = h.documents; read = h.read; held = h.held.first_holds; ends_are = h.ends_are }

  -- what the other holds
  pub keeps-streams : (sources : List (List ℕ)) (tee : Tee Composing K) (ends : Ends) → Reached (TeeHolds Composes holds) sources tee ends → KeepsStreams holds sources tee.second ends.events.items
  keeps-streams sources tee ends r =
      let h = r.holds_are in
      record { events = map stream_events h.documents; read = h.read; held = subst (holds tee.second) (events-joined h.documents) h.held.second_holds; ends_are = r.events }

-- ---- what is shown of them

-- the roots that reach from one end to the next stand for what the bytes mean
all-mean : (f : Forests) (sources : List (List ℕ)) (dss : List (List Document)) (tss : List (List Tree)) (roots : List ℕ) (front : List Tree) (start : ℕ) → start ≡ length front → AllRead sources (map stream_events dss) → AllUnfold dss tss → map (tree f) roots ≡ front ++ all_trees tss → AllMean f sources (cut_from roots start (ends_from start tss))
all-mean f [] [] [] roots front start s r u e = tt
all-mean f (bytes ∷ sources) (ds ∷ dss) (ts ∷ tss) roots front start s r u e =
    let T = tree f in
    let rest = all_trees tss in
    let n : (start + length ts) - start ≡ length ts = omega arith in
    let cut : map T (slice_range roots start (start + length ts)) ≡ ts =
    sym (take-map T (start + length ts - start) (drop start roots))
    ∙ (ap (take (start + length ts - start)) (sym (drop-map T start roots) ∙ ap (drop start) e)
    ∙ (ap (λ k. take (start + length ts - start) (drop k (front ++ (ts ++ rest)))) s
    ∙ (ap (take (start + length ts - start)) (drop-append_seam front (ts ++ rest))
    ∙ (ap (λ k. take k (ts ++ rest)) n ∙ take-append_seam ts rest)))) in (
      subst (Means bytes) (sym cut) (means-trees bytes ds ts r.0 u.0),
      all-mean f sources dss tss roots (front ++ ts) (start + length ts) (ap (λ k. k + length ts) s ∙ sym (length-append front ts)) r.1 u.1 (e ∙ sym (append_assoc front ts rest)),
    )
all-mean f (bytes ∷ sources) [] tss roots front start s r u e = absurd r
all-mean f [] (ds ∷ dss) tss roots front start s r u e = absurd r
all-mean f [] [] (ts ∷ tss) roots front start s r u e = absurd u
all-mean f (bytes ∷ sources) (ds ∷ dss) [] roots front start s r u e = absurd u

module _ {K : Type 0} (holds : K → List Event → Type 0) (sources : List (List ℕ)) (keeper : K) (ends : List ℕ) (h : HoldsStreams holds sources keeper ends) (f : Forest) (are : AreStreams h.documents f) where
  pub streams-rooted : HasRoots are.trees_are f
  streams-rooted = record { good = are.good; level = are.level; roots = are.roots }

  abbrev tss : List (List Tree)
  tss = h.ends_are.forests

  same : are.trees_are ≡ all_trees tss
  same = are.unfolded.is ∙ ap all_trees (unfold-same h.documents are.unfolded.forests tss are.unfolded.unfolded h.ends_are.unfolded)

  abbrev rooted : List Tree
  rooted = parts_at (trees_of f.store) f.roots.items

  rooted-are : rooted ≡ all_trees tss
  rooted-are = roots-are (trees_of f.store) f.roots.items are.trees_are are.roots ∙ same

  -- the ends cut the roots
  pub streams-end : AreEnds (length f.roots.items) 0 ends
  streams-end =
      let long = sym (length-map f.roots.items (tree_at (trees_of f.store))) ∙ (ap length rooted-are ∙ size-trees tss) in
      subst (AreEnds (length f.roots.items) 0) (sym h.ends_are.ends_are) (are-ends tss 0 (length f.roots.items) (omega (arith, long)))

  pub streams-shown : (g : Forests) → ShowsStore f.store f.roots.items ends g → ShowsStreams sources g
  streams-shown g s =
      let trees : map (tree g) f.roots.items ≡ rooted = ap (λ ns. map (λ i. tree_at (trees_held ns) i) f.roots.items) s.nodes in
      let cut = s.streams ∙ ap (cut_from f.roots.items 0) h.ends_are.ends_are in
      subst (AllMean g sources) (sym cut) (all-mean g sources h.documents tss f.roots.items [] 0 refl h.read h.ends_are.unfolded (trees ∙ rooted-are))
