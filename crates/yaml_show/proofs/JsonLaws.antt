-- JSON, piece by piece.
use Rattle.std.proofs.Common.{◌≡◌, ℕ, ◌+◌, ◌≤◌, Bool, true, false, ◌&&◌, List, [], ◌∷◌, ◌++◌, length, map, drop, refl, sym, ◌∙◌, ap, ap₂, subst, add-one, ◌-◌, arith}
use Rattle.std.specs.Prelude.{bytes_eq, codes}
use Rattle.std.specs.List.{list_all}
use Rattle.std.proofs.Math.ListN.{drop_of_length-le}
use Rattle.std.proofs.lemmas.List.{append_assoc, append-nil, map-append, length-append}
use Rattle.yaml_definitions.specs.model.Tag.{str_tag, seq_tag, map_tag}
use Rattle.yaml_definitions.specs.model.Tree.{Tree, Trees, Pairs, scalar, sequence, mapping}
use Rattle.yaml_tree.specs.TreeLists.{trees, pairs}
use Rattle.yaml_show_scalar.specs.Escapes.{quoted}
use Rattle.yaml_show_scalar.specs.declared.escapes.Language.TheVariants.{Json}
use Rattle.yaml_show_scalar.specs.Stops.{Stops}
use Rattle.yaml_show_scalar.specs.declared.stop.Stop.{Stop}
use Rattle.yaml_show_scalar.specs.declared.stop.Stop.TheVariants.{TooLong, OutOfMemory}
use Rattle.yaml_show_scalar.proofs.StopLaws.{stops_longer}
use Rattle.yaml_spell.specs.Walked.{separator}
use Rattle.yaml_show.specs.JsonText.{json_scalar, json_key, json_text, json_items, json_entries, line_document, line_stream}
use Rattle.yaml_show.specs.JsonTrees.{scalar_has_json, key_has_json, has_json, items_have_json, entries_have_json, Says, Lacks, Overruns}
use Rattle.yaml_show.specs.declared.unwritten.Unwritten.{Unwritten}
use Rattle.yaml_show.specs.declared.unwritten.Unwritten.TheVariants.{Stopped, NoJson}

-- ---- errors

pub stop_lacks : (has : Bool) (stop : Stop) (why : Unwritten) → why ≡ Stopped stop → Lacks has why
stop_lacks has stop why e = subst (Lacks has) (sym e) tt

lacks_more : (a b : Bool) (why : Unwritten) → (a ≡ false → b ≡ false) → Lacks a why → Lacks b why
lacks_more a b (Stopped stop) f h = tt
lacks_more a b NoJson f h = f h

pub stop_overruns : (limit : ℕ) (text : List ℕ) (stop : Stop) (why : Unwritten) → why ≡ Stopped stop → Stops limit text stop → Overruns limit text why
stop_overruns limit text stop why e h = subst (Overruns limit text) (sym e) h

pub overruns_longer : (limit limit' : ℕ) (text rest whole : List ℕ) (why : Unwritten) → limit' ≡ limit → whole ≡ text ++ rest → Overruns limit' text why → Overruns limit whole why
overruns_longer limit limit' text rest whole (Stopped stop) l e h = stops_longer limit limit' text rest whole stop l e h
overruns_longer limit limit' text rest whole NoJson l e h = tt

-- ---- a tree by its kind

module _ (t : Tree) (limit : ℕ) (old : List ℕ) (why : Unwritten) (g : List ℕ) where
  pub key_overruns : (x : List ℕ) → t ≡ scalar g x → Overruns limit (old ++ (quoted Json x ++ codes ": ")) why → Overruns limit (old ++ json_key t) why
  unfolding json_key
  key_overruns x e h = subst (λ z. Overruns limit (old ++ json_key z) why) (sym e) h

  pub scalar_overruns : (x : List ℕ) → t ≡ scalar g x → Overruns limit (old ++ json_scalar g x) why → Overruns limit (old ++ json_text t) why
  unfolding json_text
  scalar_overruns x e h = subst (λ z. Overruns limit (old ++ json_text z) why) (sym e) h

  pub sequence_overruns : (ts : Trees) → t ≡ sequence g ts → Overruns limit (old ++ (91 ∷ json_items [] ts)) why → Overruns limit (old ++ json_text t) why
  unfolding json_text
  sequence_overruns ts e h = subst (λ z. Overruns limit (old ++ json_text z) why) (sym e) h

  pub mapping_overruns : (ps : Pairs) → t ≡ mapping g ps → Overruns limit (old ++ (123 ∷ json_entries [] ps)) why → Overruns limit (old ++ json_text t) why
  unfolding json_text
  mapping_overruns ps e h = subst (λ z. Overruns limit (old ++ json_text z) why) (sym e) h

pub key_says : (t : Tree) (g x old new : List ℕ) → t ≡ scalar g x → Says (bytes_eq g str_tag) (quoted Json x ++ codes ": ") old new → Says (key_has_json t) (json_key t) old new
unfolding json_key
key_says t g x old new e h = subst (λ z. Says (key_has_json z) (json_key z) old new) (sym e) h

pub key_lacks : (t : Tree) (g x : List ℕ) (why : Unwritten) → t ≡ scalar g x → Lacks (bytes_eq g str_tag) why → Lacks (key_has_json t) why
key_lacks t g x why e h = subst (λ z. Lacks (key_has_json z) why) (sym e) h

pub sequence_is_no_key : (t : Tree) (g : List ℕ) (ts : Trees) → t ≡ sequence g ts → key_has_json t ≡ false
sequence_is_no_key t g ts e = ap key_has_json e

pub mapping_is_no_key : (t : Tree) (g : List ℕ) (ps : Pairs) → t ≡ mapping g ps → key_has_json t ≡ false
mapping_is_no_key t g ps e = ap key_has_json e

pub scalar_says : (t : Tree) (g x old new : List ℕ) → t ≡ scalar g x → Says (scalar_has_json g x) (json_scalar g x) old new → Says (has_json t) (json_text t) old new
unfolding json_text
scalar_says t g x old new e h = subst (λ z. Says (has_json z) (json_text z) old new) (sym e) h

pub scalar_lacks : (t : Tree) (g x : List ℕ) (why : Unwritten) → t ≡ scalar g x → Lacks (scalar_has_json g x) why → Lacks (has_json t) why
scalar_lacks t g x why e h = subst (λ z. Lacks (has_json z) why) (sym e) h

module _ (t : Tree) (g : List ℕ) (ts : Trees) (e : t ≡ sequence g ts) where
  pub sequence_says : (old new : List ℕ) → bytes_eq g seq_tag ≡ true → Says (items_have_json ts) (91 ∷ json_items [] ts) old new → Says (has_json t) (json_text t) old new
  unfolding json_text
  sequence_says old new k h = subst (λ z. Says (has_json z) (json_text z) old new) (sym e) (h.0, ap₂ ◌&&◌ k h.1)

  pub sequence_lacks : (why : Unwritten) → bytes_eq g seq_tag ≡ true → Lacks (items_have_json ts) why → Lacks (has_json t) why
  sequence_lacks why k h = subst (λ z. Lacks (has_json z) why) (sym e) (subst (λ b. Lacks (b && items_have_json ts) why) (sym k) h)

  pub other_sequence : bytes_eq g seq_tag ≡ false → has_json t ≡ false
  other_sequence k = ap has_json e ∙ ap (λ b. b && items_have_json ts) k

module _ (t : Tree) (g : List ℕ) (ps : Pairs) (e : t ≡ mapping g ps) where
  pub mapping_says : (old new : List ℕ) → bytes_eq g map_tag ≡ true → Says (entries_have_json ps) (123 ∷ json_entries [] ps) old new → Says (has_json t) (json_text t) old new
  unfolding json_text
  mapping_says old new k h = subst (λ z. Says (has_json z) (json_text z) old new) (sym e) (h.0, ap₂ ◌&&◌ k h.1)

  pub mapping_lacks : (why : Unwritten) → bytes_eq g map_tag ≡ true → Lacks (entries_have_json ps) why → Lacks (has_json t) why
  mapping_lacks why k h = subst (λ z. Lacks (has_json z) why) (sym e) (subst (λ b. Lacks (b && entries_have_json ps) why) (sym k) h)

  pub other_mapping : bytes_eq g map_tag ≡ false → has_json t ≡ false
  other_mapping k = ap has_json e ∙ ap (λ b. b && entries_have_json ps) k

-- ---- items and entries

two : (w a b r : List ℕ) → ((w ++ a) ++ b) ++ r ≡ w ++ (a ++ (b ++ r))
two w a b r = simp append_assoc

three : (w a b c r : List ℕ) → (((w ++ a) ++ b) ++ c) ++ r ≡ w ++ (a ++ (b ++ (c ++ r)))
three w a b c r = simp append_assoc

module _ {X : Type 0} (f : X → Tree) (xs : List X) where
  -- From a place on: what is left of the items is still to be written, and JSON has all items if it has these.
  abbrev pub ItemsAt : ℕ → List ℕ → List ℕ → Type 0
  ItemsAt i old o =
      (o ++ json_items (separator i) (trees (map f (drop i xs))) ≡ old ++ (91 ∷ json_items [] (trees (map f xs))))
      × (items_have_json (trees (map f (drop i xs))) ≡ items_have_json (trees (map f xs)))

  module _ (i : ℕ) (d : X) (old w : List ℕ) (l : drop i xs ≡ d ∷ drop (i + 1) xs) (h : ItemsAt i old w) where
    pub items_step : (s o : List ℕ) → s ≡ w ++ separator i → Says (has_json (f d)) (json_text (f d)) s o → ItemsAt (i + 1) old o
    unfolding json_text
    items_step s o e k =
        let r : List ℕ = json_items (44 ∷ 32 ∷ []) (trees (map f (drop (i + 1) xs))) in
        let more : Bool = items_have_json (trees (map f (drop (i + 1) xs))) in (
          ap (λ z. o ++ json_items (separator z) (trees (map f (drop (i + 1) xs)))) (add-one i)
              ∙ ap (λ z. z ++ r) (k.0 ∙ ap (λ z. z ++ json_text (f d)) e)
              ∙ two w (separator i) (json_text (f d)) r
              ∙ ap (λ z. w ++ json_items (separator i) (trees (map f z))) (sym l) ∙ h.0,
          sym (ap (λ z. z && more) k.1) ∙ ap (λ z. items_have_json (trees (map f z))) (sym l) ∙ h.1,
        )

    -- what is written with this item, and what is left then
    pub item_within : (s : List ℕ) → s ≡ w ++ separator i → old ++ (91 ∷ json_items [] (trees (map f xs))) ≡ (s ++ json_text (f d)) ++ json_items (44 ∷ 32 ∷ []) (trees (map f (drop (i + 1) xs)))
    unfolding json_text
    item_within s e =
        let r : List ℕ = json_items (44 ∷ 32 ∷ []) (trees (map f (drop (i + 1) xs))) in
        sym h.0 ∙ ap (λ z. w ++ json_items (separator i) (trees (map f z))) l ∙ sym (two w (separator i) (json_text (f d)) r) ∙ ap (λ z. (z ++ json_text (f d)) ++ r) (sym e)

    pub item_lacks : (why : Unwritten) → Lacks (has_json (f d)) why → Lacks (items_have_json (trees (map f xs))) why
    item_lacks why k =
        let more : Bool = items_have_json (trees (map f (drop (i + 1) xs))) in
        lacks_more (has_json (f d)) (items_have_json (trees (map f xs))) why (λ e. sym h.1 ∙ ap (λ z. items_have_json (trees (map f z))) l ∙ ap (λ z. z && more) e) k

  pub items_end : (i : ℕ) (old w o : List ℕ) → length xs ≤ i → ItemsAt i old w → o ≡ w ++ (93 ∷ []) → Says (items_have_json (trees (map f xs))) (91 ∷ json_items [] (trees (map f xs))) old o
  unfolding json_text
  items_end i old w o l h e = (
    e ∙ ap (λ z. w ++ json_items (separator i) (trees (map f z))) (sym (drop_of_length-le xs l)) ∙ h.0,
    sym h.1 ∙ ap (λ z. items_have_json (trees (map f z))) (drop_of_length-le xs l),
  )

module _ {X : Type 0} (f : X → Tree × Tree) (xs : List X) where
  -- From a place on: what is left of the entries is still to be written, and JSON has all entries if it has these.
  abbrev pub EntriesAt : ℕ → List ℕ → List ℕ → Type 0
  EntriesAt i old o =
      (o ++ json_entries (separator i) (pairs (map f (drop i xs))) ≡ old ++ (123 ∷ json_entries [] (pairs (map f xs))))
      × (entries_have_json (pairs (map f (drop i xs))) ≡ entries_have_json (pairs (map f xs)))

  module _ (i : ℕ) (d : X) (old w : List ℕ) (l : drop i xs ≡ d ∷ drop (i + 1) xs) (h : EntriesAt i old w) where
    pub entries_step : (s k o : List ℕ) → s ≡ w ++ separator i → Says (key_has_json (f d).0) (json_key (f d).0) s k → Says (has_json (f d).1) (json_text (f d).1) k o → EntriesAt (i + 1) old o
    unfolding json_text
    entries_step s k o e j q =
        let r : List ℕ = json_entries (44 ∷ 32 ∷ []) (pairs (map f (drop (i + 1) xs))) in
        let more : Bool = entries_have_json (pairs (map f (drop (i + 1) xs))) in (
          ap (λ z. o ++ json_entries (separator z) (pairs (map f (drop (i + 1) xs)))) (add-one i)
              ∙ ap (λ z. z ++ r) (q.0 ∙ ap (λ z. z ++ json_text (f d).1) (j.0 ∙ ap (λ z. z ++ json_key (f d).0) e))
              ∙ three w (separator i) (json_key (f d).0) (json_text (f d).1) r
              ∙ ap (λ z. w ++ json_entries (separator i) (pairs (map f z))) (sym l) ∙ h.0,
          sym (ap₂ (λ a b. a && (b && more)) j.1 q.1) ∙ ap (λ z. entries_have_json (pairs (map f z))) (sym l) ∙ h.1,
        )

    -- what is written with this entry, and what is left then
    pub entry_within : (s k : List ℕ) → s ≡ w ++ separator i → k ≡ s ++ json_key (f d).0
        → old ++ (123 ∷ json_entries [] (pairs (map f xs))) ≡ (k ++ json_text (f d).1) ++ json_entries (44 ∷ 32 ∷ []) (pairs (map f (drop (i + 1) xs)))
    unfolding json_text
    entry_within s k e j =
        let r : List ℕ = json_entries (44 ∷ 32 ∷ []) (pairs (map f (drop (i + 1) xs))) in
        sym h.0 ∙ ap (λ z. w ++ json_entries (separator i) (pairs (map f z))) l ∙ sym (three w (separator i) (json_key (f d).0) (json_text (f d).1) r)
        ∙ ap (λ z. (z ++ json_text (f d).1) ++ r) (sym (j ∙ ap (λ z. z ++ json_key (f d).0) e))

    -- the same with its key
    pub key_within : (s : List ℕ) → s ≡ w ++ separator i
        → old ++ (123 ∷ json_entries [] (pairs (map f xs))) ≡ (s ++ json_key (f d).0) ++ (json_text (f d).1 ++ json_entries (44 ∷ 32 ∷ []) (pairs (map f (drop (i + 1) xs))))
    key_within s e =
        entry_within s (s ++ json_key (f d).0) e refl ∙ append_assoc (s ++ json_key (f d).0) (json_text (f d).1) (json_entries (44 ∷ 32 ∷ []) (pairs (map f (drop (i + 1) xs))))

    pub key_of_entry_lacks : (why : Unwritten) → Lacks (key_has_json (f d).0) why → Lacks (entries_have_json (pairs (map f xs))) why
    key_of_entry_lacks why k =
        let more : Bool = has_json (f d).1 && entries_have_json (pairs (map f (drop (i + 1) xs))) in
        lacks_more (key_has_json (f d).0) (entries_have_json (pairs (map f xs))) why (λ e. sym h.1 ∙ ap (λ z. entries_have_json (pairs (map f z))) l ∙ ap (λ z. z && more) e) k

    pub value_of_entry_lacks : (why : Unwritten) → key_has_json (f d).0 ≡ true → Lacks (has_json (f d).1) why → Lacks (entries_have_json (pairs (map f xs))) why
    value_of_entry_lacks why j k =
        let more : Bool = entries_have_json (pairs (map f (drop (i + 1) xs))) in
        lacks_more (has_json (f d).1) (entries_have_json (pairs (map f xs))) why (λ e. sym h.1 ∙ ap (λ z. entries_have_json (pairs (map f z))) l ∙ ap₂ (λ a b. a && (b && more)) j e) k

  pub entries_end : (i : ℕ) (old w o : List ℕ) → length xs ≤ i → EntriesAt i old w → o ≡ w ++ (125 ∷ []) → Says (entries_have_json (pairs (map f xs))) (123 ∷ json_entries [] (pairs (map f xs))) old o
  unfolding json_text
  entries_end i old w o l h e = (
    e ∙ ap (λ z. w ++ json_entries (separator i) (pairs (map f z))) (sym (drop_of_length-le xs l)) ∙ h.0,
    sym h.1 ∙ ap (λ z. entries_have_json (pairs (map f z))) (drop_of_length-le xs l),
  )

-- ---- lines

module _ {S X : Type 0} (h : S → List ℕ) (f : X → Tree) (xs : List X) where
  -- From a place on: the lines of what is left are still to be written, and JSON has all documents if it has these.
  abbrev pub LinesAt : ℕ → List S → Type 0
  LinesAt i lines = (map h lines ++ map json_text (map f (drop i xs)) ≡ map json_text (map f xs)) × (list_all has_json (map f (drop i xs)) ≡ list_all has_json (map f xs))

  module _ (i : ℕ) (d : X) (old : List S) (l : drop i xs ≡ d ∷ drop (i + 1) xs) (e : LinesAt i old) where
    pub line_step : (new : List S) (s : S) (w : List ℕ) → new ≡ old ++ (s ∷ []) → w ≡ [] → Says (has_json (f d)) (json_text (f d)) w (h s) → LinesAt (i + 1) new
    line_step new s w k n j =
        let r : List (List ℕ) = map json_text (map f (drop (i + 1) xs)) in
        let more : Bool = list_all has_json (map f (drop (i + 1) xs)) in (
          ap (λ z. map h z ++ r) k ∙ ap (λ z. z ++ r) (map-append h old (s ∷ [])) ∙ append_assoc (map h old) (h s ∷ []) r
              ∙ ap (λ z. map h old ++ (z ∷ r)) (j.0 ∙ ap (λ z. z ++ json_text (f d)) n) ∙ ap (λ z. map h old ++ map json_text (map f z)) (sym l) ∙ e.0,
          sym (ap (λ z. z && more) j.1) ∙ ap (λ z. list_all has_json (map f z)) (sym l) ∙ e.1,
        )

    pub line_lacks : (why : Unwritten) → Lacks (has_json (f d)) why → Lacks (list_all has_json (map f xs)) why
    line_lacks why k =
        let more : Bool = list_all has_json (map f (drop (i + 1) xs)) in
        lacks_more (has_json (f d)) (list_all has_json (map f xs)) why (λ n. sym e.1 ∙ ap (λ z. list_all has_json (map f z)) l ∙ ap (λ z. z && more) n) k

  pub lines_end : (i : ℕ) (old : List S) → length xs ≤ i → LinesAt i old → (map h old ≡ map json_text (map f xs)) × (list_all has_json (map f xs) ≡ true)
  lines_end i old l e = (
    sym (append-nil (map h old)) ∙ ap (λ z. map h old ++ map json_text (map f z)) (sym (drop_of_length-le xs l)) ∙ e.0,
    sym e.1 ∙ ap (λ z. list_all has_json (map f z)) (drop_of_length-le xs l),
  )

-- ---- the length of the lines

module _ {X : Type 0} (f : X → Tree) (xs : List X) (i : ℕ) (d : X) (l : drop i xs ≡ d ∷ drop (i + 1) xs) where
  line_more : length (line_stream (map f (drop i xs))) ≡ 5 + length (json_text (f d)) + length (line_stream (map f (drop (i + 1) xs)))
  line_more =
      let r : List ℕ = line_stream (map f (drop (i + 1) xs)) in
      let whole : length (line_stream (map f (drop i xs))) ≡ length (line_document (f d) ++ r) = ap (λ z. length (line_stream (map f z))) l in
      omega (arith, whole, length-append (line_document (f d)) r, length-append (json_text (f d)) (10 ∷ []))

  -- From a place on: no more of the limit is left than the documents before it leave.
  pub room_next : (limit left after : ℕ) (text : List ℕ) → limit + length (line_stream (map f (drop i xs))) ≤ left + length (line_stream (map f xs)) → after ≡ (left - length text) - 5 → text ≡ json_text (f d)
      → limit + length (line_stream (map f (drop (i + 1) xs))) ≤ after + length (line_stream (map f xs))
  room_next limit left after text h a e = omega (arith, h, a, line_more, ap length e)

  pub line_overruns : (limit left left' : ℕ) (w : List ℕ) (why : Unwritten) → limit + length (line_stream (map f (drop i xs))) ≤ left + length (line_stream (map f xs)) → left' ≡ left → w ≡ []
      → Overruns left' (w ++ json_text (f d)) why → Overruns limit (line_stream (map f xs)) why
  line_overruns limit left left' w (Stopped TooLong) h k e o = omega (arith, h, k, o, line_more, ap (λ z. length (z ++ json_text (f d))) e)
  line_overruns limit left left' w (Stopped OutOfMemory) h k e o = tt
  line_overruns limit left left' w NoJson h k e o = tt
