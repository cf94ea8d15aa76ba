-- The code's marks are those of the definition.
use Rattle.std.proofs.Common.{◌≡◌, Bool, true, false, not, cond, ◌&&◌, List, [], ◌∷◌, ◌++◌, refl, sym, ◌∙◌, ap, subst}
use Rattle.std.proofs.lemmas.List.{append_assoc, append-nil}
use Rattle.std.proofs.lemmas.List.Elements.{filter-append}
use Rattle.std.specs.List.{filter}
use Rattle.yaml_definitions.specs.model.Tree.{Tree, Trees, Pairs, scalar, sequence, mapping, end, item, done, entry}
use Rattle.yaml_definitions.specs.canonical.Walk.{Place, first, again, firsts, agains, is_again, walk, walk_trees, walk_pairs}
use Rattle.yaml_definitions.specs.model.Event.{double}
use Rattle.yaml_definitions.specs.model.Serial.{alias_at, scalar_at, sequence_at, mapping_at, item_serial, entry_serial}
use Rattle.yaml_definitions.specs.canonical.TagText.{written_tag}
use Rattle.yaml_definitions.specs.canonical.Serialize.{is_anchored, anchored, anchor_of, alias_of, serialize, serialize_all, serialize_pairs}
use Rattle.yaml_definitions.specs.canonical.Spell.{short, serial_of_arranged}
use Rattle.yaml_definitions.proofs.UnfoldLaws.{firsts-append, agains-append}
use Rattle.yaml_spell.specs.Anchored.{has, alias_to, anchor_at, enrolled, noted, noted_all, noted_pairs, serialized, serialized_all, serialized_pairs}
use Rattle.yaml_spell.specs.Repeats.{repeats}
use Rattle.yaml_definitions.proofs.Equivalence.{short_like}
use Rattle.yaml_spell.proofs.Anchors.{Every, every_parts, of_has, has_itself, has_filter, has_like, IsLong, agains_long, repeats_are}

cond_both : {X : Type 0} (c : Bool) (x z y w : X) → (c ≡ true → x ≡ z) → (c ≡ false → y ≡ w) → cond c x y ≡ cond c z w
cond_both true x z y w f g = f refl
cond_both false x z y w f g = g refl

and_same : (a l h : Bool) → (a ≡ true → l ≡ true) → ((l && h) ≡ true → a ≡ true) → (a && h) ≡ (l && h)
and_same true l h f g = ap (λ z. z && h) (sym (f refl))
and_same false true true f g = g refl
and_same false true false f g = refl
and_same false false h f g = refl

-- a node that repeats is one of those that do
again_in : (P : Tree → Type 0) (c : Bool) (t : Tree) (w : List Place) → Every P (agains (cond c (again t ∷ []) (first t ∷ w))) → c ≡ true → P t
again_in P true t w h e = h.0
again_in P false t w h e = absurd (cc)

-- and where it does not repeat, so are those inside it
inside_in : (P : Tree → Type 0) (c : Bool) (t : Tree) (w : List Place) → Every P (agains (cond c (again t ∷ []) (first t ∷ w))) → c ≡ false → Every P (agains w)
inside_in P true t w h e = absurd (cc)
inside_in P false t w h e = h

-- the anchored ones among the nodes up to the end of one
noted_case : (q : Tree → Bool) (c : Bool) (t : Tree) (b n : List Tree) (w : List Place) → (c ≡ false → n ≡ filter q ((b ++ (t ∷ [])) ++ firsts w)) → cond c (filter q b) n ≡ filter q (b ++ firsts (cond c (again t ∷ []) (first t ∷ w)))
noted_case q true t b n w e = ap (filter q) (sym (append-nil b))
noted_case q false t b n w e = e refl ∙ ap (filter q) (append_assoc b (t ∷ []) (firsts w))

module _ (r : List Tree) (all_long : Every IsLong r) where
  abbrev InR : Tree → Type 0
  InR t = has r t ≡ true

  -- the nodes up to this one have been seen exactly if it is in the list of the anchored ones
  seen_is : (t : Tree) (b : List Tree) → (is_again short t b ≡ true → InR t) → has (anchored r b) t ≡ is_again short t b
  seen_is t b f =
      has_filter t (is_anchored r) b (λ x i. has_like r t x i)
      ∙ and_same (is_anchored r t) (not (short t)) (has b t) (λ a. ap not (of_has IsLong t r (λ x i l. short_like t x i ∙ l) all_long a)) f

  enrolled_is : (t : Tree) (b : List Tree) → enrolled r t (anchored r b) ≡ anchored r (b ++ (t ∷ []))
  enrolled_is t b = by (is_anchored r t) ∙ sym (filter-append (is_anchored r) b (t ∷ []))
    where
      by : (c : Bool) → cond c (anchored r b ++ (t ∷ [])) (anchored r b) ≡ anchored r b ++ cond c (t ∷ []) []
      by true = refl
      by false = sym (append-nil (anchored r b))

  abbrev Marks : Tree → List Tree → Type 0
  Marks t b = (serialized r t (anchored r b) ≡ serialize short r t b) × (noted r t (anchored r b) ≡ anchored r (b ++ firsts (walk short t b)))

  mutual
    unfolding serialized noted serialize walk

    pub marks : (t : Tree) (b : List Tree) → Every InR (agains (walk short t b)) → Marks t b
    marks (scalar a x) b i =
        let t : Tree = scalar a x in
        let w : List Tree = anchored r b in
        let c : Bool = is_again short t b in
        let s = seen_is t b (again_in InR c t [] i) in (
          ap (λ z. cond z (alias_to t w) (scalar_at (anchor_at r t w) (written_tag 0 a) double x)) s
              ∙ cond_both c (alias_to t w) (alias_at (alias_of r t b)) (scalar_at (anchor_at r t w) (written_tag 0 a) double x) (scalar_at (anchor_of r t b) (written_tag 0 a) double x)
              (λ _. refl) (λ _. refl),
          ap (λ z. cond z w (enrolled r t w)) s ∙ noted_case (is_anchored r) c t b (enrolled r t w) [] (λ _. enrolled_is t b ∙ ap (anchored r) (sym (append-nil (b ++ (t ∷ []))))),
        )
    marks (sequence a ts) b i =
        let t : Tree = sequence a ts in
        let w : List Tree = anchored r b in
        let c : Bool = is_again short t b in
        let d : List Tree = b ++ (t ∷ []) in
        let v : List Place = walk_trees short ts d in
        let s = seen_is t b (again_in InR c t v i) in
        let e = enrolled_is t b in
        let inside = λ (f : c ≡ false). marks_trees ts d (inside_in InR c t v i f) in (
          ap (λ z. cond z (alias_to t w) (sequence_at (anchor_at r t w) (written_tag 1 a) true (serialized_all r ts (enrolled r t w)))) s
              ∙ cond_both c (alias_to t w) (alias_at (alias_of r t b)) (sequence_at (anchor_at r t w) (written_tag 1 a) true (serialized_all r ts (enrolled r t w))) (sequence_at (anchor_of r t b) (written_tag 1 a) true (serialize_all short r ts d))
              (λ _. refl)
              (λ f. ap (λ z. sequence_at (anchor_of r t b) (written_tag 1 a) true z) (ap (serialized_all r ts) e ∙ (inside f).0)),
          ap (λ z. cond z w (noted_all r ts (enrolled r t w))) s ∙ noted_case (is_anchored r) c t b (noted_all r ts (enrolled r t w)) v (λ f. ap (noted_all r ts) e ∙ (inside f).1),
        )
    marks (mapping a ps) b i =
        let t : Tree = mapping a ps in
        let w : List Tree = anchored r b in
        let c : Bool = is_again short t b in
        let d : List Tree = b ++ (t ∷ []) in
        let v : List Place = walk_pairs short ps d in
        let s = seen_is t b (again_in InR c t v i) in
        let e = enrolled_is t b in
        let inside = λ (f : c ≡ false). marks_pairs ps d (inside_in InR c t v i f) in (
          ap (λ z. cond z (alias_to t w) (mapping_at (anchor_at r t w) (written_tag 2 a) true (serialized_pairs r ps (enrolled r t w)))) s
              ∙ cond_both c (alias_to t w) (alias_at (alias_of r t b)) (mapping_at (anchor_at r t w) (written_tag 2 a) true (serialized_pairs r ps (enrolled r t w))) (mapping_at (anchor_of r t b) (written_tag 2 a) true (serialize_pairs short r ps d))
              (λ _. refl)
              (λ f. ap (λ z. mapping_at (anchor_of r t b) (written_tag 2 a) true z) (ap (serialized_pairs r ps) e ∙ (inside f).0)),
          ap (λ z. cond z w (noted_pairs r ps (enrolled r t w))) s ∙ noted_case (is_anchored r) c t b (noted_pairs r ps (enrolled r t w)) v (λ f. ap (noted_pairs r ps) e ∙ (inside f).1),
        )

    marks_trees : (ts : Trees) (b : List Tree) → Every InR (agains (walk_trees short ts b))
        → (serialized_all r ts (anchored r b) ≡ serialize_all short r ts b) × (noted_all r ts (anchored r b) ≡ anchored r (b ++ firsts (walk_trees short ts b)))
    marks_trees end b i = (refl, ap (anchored r) (sym (append-nil b)))
    marks_trees (item t ts) b i =
        let f : List Tree = firsts (walk short t b) in
        let c : List Tree = b ++ f in
        let v : List Place = walk_trees short ts c in
        let p = every_parts InR (agains (walk short t b)) (agains v) (subst (Every InR) (agains-append (walk short t b) v) i) in
        let h = marks t b p.0 in
        let k = marks_trees ts c p.1 in (
          ap (λ z. item_serial z (serialized_all r ts (noted r t (anchored r b)))) h.0 ∙ ap (λ z. item_serial (serialize short r t b) z) (ap (serialized_all r ts) h.1 ∙ k.0),
          ap (noted_all r ts) h.1 ∙ k.1 ∙ ap (anchored r) (append_assoc b f (firsts v) ∙ ap (λ z. b ++ z) (sym (firsts-append (walk short t b) v))),
        )

    marks_pairs : (ps : Pairs) (b : List Tree) → Every InR (agains (walk_pairs short ps b))
        → (serialized_pairs r ps (anchored r b) ≡ serialize_pairs short r ps b) × (noted_pairs r ps (anchored r b) ≡ anchored r (b ++ firsts (walk_pairs short ps b)))
    marks_pairs done b i = (refl, ap (anchored r) (sym (append-nil b)))
    marks_pairs (entry k v ps) b i =
        let f : List Tree = firsts (walk short k b) in
        let c : List Tree = b ++ f in
        let g : List Tree = firsts (walk short v c) in
        let d : List Tree = c ++ g in
        let w : List Place = walk_pairs short ps d in
        let p = every_parts InR (agains (walk short k b)) (agains (walk short v c ++ w)) (subst (Every InR) (agains-append (walk short k b) (walk short v c ++ w)) i) in
        let q = every_parts InR (agains (walk short v c)) (agains w) (subst (Every InR) (agains-append (walk short v c) w) p.1) in
        let h = marks k b p.0 in
        let j = marks v c q.0 in
        let l = marks_pairs ps d q.1 in
        let after : noted r v (noted r k (anchored r b)) ≡ anchored r d = ap (noted r v) h.1 ∙ j.1 in
        let two : firsts (walk short k b ++ (walk short v c ++ w)) ≡ f ++ (g ++ firsts w) = firsts-append (walk short k b) (walk short v c ++ w) ∙ ap (λ z. f ++ z) (firsts-append (walk short v c) w) in (
          ap (λ z. entry_serial z (serialized r v (noted r k (anchored r b))) (serialized_pairs r ps (noted r v (noted r k (anchored r b))))) h.0
              ∙ ap (λ z. entry_serial (serialize short r k b) z (serialized_pairs r ps (noted r v (noted r k (anchored r b))))) (ap (serialized r v) h.1 ∙ j.0)
              ∙ ap (λ z. entry_serial (serialize short r k b) (serialize short r v c) z) (ap (serialized_pairs r ps) after ∙ l.0),
          ap (noted_pairs r ps) after ∙ l.1 ∙ ap (anchored r) (append_assoc c g (firsts w) ∙ append_assoc b f (g ++ firsts w) ∙ ap (λ z. b ++ z) (sym two)),
        )

pub marked_is : (t : Tree) → serialized (repeats t []) t [] ≡ serial_of_arranged t
marked_is t =
    let r : List Tree = agains (walk short t []) in
    ap (λ z. serialized z t []) (repeats_are t) ∙ (marks r (agains_long t []) t [] (has_itself r)).0
