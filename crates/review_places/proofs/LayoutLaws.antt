-- What a layout holds, as one more node is whole.
use Rattle.std.proofs.Common.{◌≡◌, ◌⊎◌, inl, inr, ◌<◌, ◌≢◌, ℕ, ◌+◌, List, [], ◌∷◌, ◌++◌, length, set, refl, sym, ◌∙◌, ap, subst, arith, length-append, zero, suc, cond, append_assoc, append-nil}
use Rattle.std.specs.Prelude.{Some, option_and_then}
use Rattle.std.specs.List.{slice_get}
use Rattle.std.proofs.lemmas.Option.{option_and_then_some}
use Rattle.std.proofs.lemmas.List.{length-set}
use Rattle.std.proofs.Math.Seq.{take-append_seam, drop-append_seam, take-length}
use Rattle.std.specs.Prelude.{take, drop}
use Rattle.review_places.specs.declared.layout.Layout.{Layout}
use Rattle.review_places.specs.declared.layout.Open.{Open}
use Rattle.review_places.specs.declared.trace.Shape.{Shape}
use Rattle.review_places.specs.declared.trace.Shape.TheVariants.{Scalar, Alias, Opens, Closes, Other}
use Rattle.review_places.specs.Nodes.{Nodes, Open as OpenNodes, ground, nothing, is_alias, aliases_from}
use Rattle.review_places.specs.Layout.{part_event, node_numbers, alias_events, IsNumbered, Holds, IsWhole, Stands, IsLayout}
use Rattle.review_places.proofs.NodeLaws.{open-other, open-alias, open-scalar, open-opens, open-within, open-closes, open-none}
use Rattle.yaml_tree.proofs.Lists.{get-more, get-end, push-get}
use Rattle.yaml_tree.proofs.Numbering.{get-within}
use Rattle.review_places.proofs.Lists.{set-here, set-there, get-behind}

more-parts : (firsts parts fs ps : List ℕ) (n k p : ℕ) → option_and_then (λ first. slice_get parts (first + k)) (slice_get firsts n) ≡ Some p
    → option_and_then (λ first. slice_get (parts ++ ps) (first + k)) (slice_get (firsts ++ fs) n) ≡ Some p
more-parts firsts parts fs ps n k p h =
    option_and_then_some (λ first. slice_get parts (first + k)) (slice_get firsts n) p h
    (λ first a b. ap (option_and_then (λ z. slice_get (parts ++ ps) (z + k))) (get-more firsts fs n first a) ∙ get-more parts ps (first + k) p b)

new-parts : (firsts parts ps : List ℕ) (k p : ℕ) → slice_get ps k ≡ Some p → option_and_then (λ first. slice_get (parts ++ ps) (first + k)) (slice_get (firsts ++ (length parts ∷ [])) (length firsts)) ≡ Some p
new-parts firsts parts ps k p h = ap (option_and_then (λ z. slice_get (parts ++ ps) (z + k))) (get-end firsts (length parts)) ∙ get-behind parts ps k ∙ h

pub one-whole : (a b : Layout) (event : ℕ) (ps : List ℕ) (ds : List (ℕ × List ℕ)) → Holds a ds → IsWhole event ps a b → event < length (node_numbers a) → ((k e : ℕ) (qs : List ℕ) → slice_get ds k ≡ Some (e, qs) → e ≢ event) → Holds b (ds ++ ((event, ps) ∷ []))
one-whole a b event ps ds h w l new = record {
  count = ap length w.firsts ∙ (let g = h.count in omega (arith, g, length-append a.firsts.items (length a.parts.items ∷ []), length-append ds ((event, ps) ∷ [])));
  each = λ n e qs g. by n e qs (push-get ds (event, ps) (e, qs) n g);
}
  where
    place : (n k : ℕ) → part_event b n k ≡ option_and_then (λ first. slice_get (a.parts.items ++ ps) (first + k)) (slice_get (a.firsts.items ++ (length a.parts.items ∷ [])) n)
    place n k = ap (λ z. option_and_then (λ first. slice_get z (first + k)) (slice_get b.firsts.items n)) w.parts ∙ ap (λ z. option_and_then (λ first. slice_get (a.parts.items ++ ps) (first + k)) (slice_get z n)) w.firsts

    by : (n e : ℕ) (qs : List ℕ) → (slice_get ds n ≡ Some (e, qs)) ⊎ ((n ≡ length ds) × (◌≡◌ {A = ℕ × List ℕ} (e, qs) (event, ps))) → IsNumbered b n e qs
    by n e qs (inl g) =
        let o = h.each n e qs g in
        record {
          node = ap (λ z. slice_get z e) w.nodes ∙ set-there (node_numbers a) event e (length a.firsts.items) (new n e qs g) ∙ o.node;
          parts = λ k p x. place n k ∙ more-parts a.firsts.items a.parts.items (length a.parts.items ∷ []) ps n k p (o.parts k p x);
        }
    by n e qs (inr g) =
        let m : n ≡ length a.firsts.items = g.0 ∙ sym h.count in
        let x : e ≡ event = ap (λ z. z.0) g.1 in
        let y : qs ≡ ps = ap (λ z. z.1) g.1 in
        record {
          node = ap (λ z. slice_get z e) w.nodes ∙ ap (slice_get (set (node_numbers a) event (length a.firsts.items))) x ∙ set-here (node_numbers a) event (length a.firsts.items) l ∙ ap Some (sym m);
          parts = λ k p z. place n k ∙ ap (λ v. option_and_then (λ first. slice_get (a.parts.items ++ ps) (first + k)) (slice_get (a.firsts.items ++ (length a.parts.items ∷ [])) v)) m ∙ new-parts a.firsts.items a.parts.items ps k p (subst (λ v. slice_get v k ≡ Some p) y z);
        }

-- a change of nothing but the numbers at places where no node is
pub still-holds : (a b : Layout) (ds : List (ℕ × List ℕ)) → Holds a ds → b.firsts.items ≡ a.firsts.items → b.parts.items ≡ a.parts.items → ((k e : ℕ) (ps : List ℕ) → slice_get ds k ≡ Some (e, ps) → slice_get (node_numbers b) e ≡ slice_get (node_numbers a) e) → Holds b ds
still-holds a b ds h f p n = record {
  count = ap length f ∙ h.count;
  each = λ k e ps g. (let o = h.each k e ps g in record {
    node = n k e ps g ∙ o.node;
    parts = λ j q x. ap (λ z. option_and_then (λ first. slice_get z (first + j)) (slice_get b.firsts.items k)) p ∙ ap (λ z. option_and_then (λ first. slice_get a.parts.items (first + j)) (slice_get z k)) f ∙ o.parts j q x;
  });
}

-- ---- aliases

aliases-more : (i : ℕ) (s : List Shape) (x : Shape) → aliases_from i (s ++ (x ∷ [])) ≡ aliases_from i s ++ cond (is_alias x) ((i + length s) ∷ []) []
aliases-more i [] x = append-nil (cond (is_alias x) (i ∷ []) []) ∙ ap (λ k. cond (is_alias x) (k ∷ []) []) (let e : i ≡ i + 0 = omega arith in e)
aliases-more i (y ∷ s) x =
    let e : (i + 1) + length s ≡ i + suc (length s) = omega arith in
    ap (λ z. cond (is_alias y) (i ∷ []) [] ++ z) (aliases-more (i + 1) s x ∙ ap (λ k. aliases_from (i + 1) s ++ cond (is_alias x) (k ∷ []) []) e) ∙ sym (append_assoc (cond (is_alias y) (i ∷ []) []) (aliases_from (i + 1) s) (cond (is_alias x) ((i + suc (length s)) ∷ []) []))

take-next : (s : List Shape) (k : ℕ) (x : Shape) → slice_get s k ≡ Some x → take (suc k) s ≡ take k s ++ (x ∷ [])
take-next [] k x h = absurd (cc)
take-next (y ∷ s) zero x h = let e : y ≡ x = cc in ap (λ z. z ∷ []) e
take-next (y ∷ s) (suc k) x h = ap (λ z. y ∷ z) (take-next s k x h)

take-counts : (s : List Shape) (k : ℕ) (x : Shape) → slice_get s k ≡ Some x → length (take k s) ≡ k
take-counts [] k x h = absurd (cc)
take-counts (y ∷ s) zero x h = refl
take-counts (y ∷ s) (suc k) x h = ap suc (take-counts s k x h)

aliases-next : (s : List Shape) (k : ℕ) (x : Shape) (old : List ℕ) → slice_get s k ≡ Some x → old ≡ aliases_from 0 (take k s) → old ++ cond (is_alias x) (k ∷ []) [] ≡ aliases_from 0 (take (k + 1) s)
aliases-next s k x old h e =
    let n : k ≡ 0 + length (take k s) = (let c = take-counts s k x h in omega (arith, c)) in
    let m : k + 1 ≡ suc k = omega arith in
    ap (λ z. z ++ cond (is_alias x) (k ∷ []) []) e ∙ ap (λ j. aliases_from 0 (take k s) ++ cond (is_alias x) (j ∷ []) []) n ∙ sym (aliases-more 0 (take k s) x)
    ∙ ap (aliases_from 0) (sym (ap (λ j. take j s) m ∙ take-next s k x h))

module _ (s : List Shape) (at : ℕ) (a b : Layout) (x y : Open) where
  pub scalar-stands : slice_get s at ≡ Some Scalar → Stands s at a x → IsWhole at [] a b → y.outer.items ≡ x.outer.items → y.nodes.items ≡ x.nodes.items ++ (at ∷ []) → Stands s (at + 1) b y
  scalar-stands g t w o n = record {
    ds = t.ds ++ ((at, []) ∷ []);
    nodes = subst (λ z. OpenNodes s (at + 1) z y.nodes.items (t.ds ++ ((at, []) ∷ []))) (sym o) (subst (λ z. OpenNodes s (at + 1) x.outer.items z (t.ds ++ ((at, []) ∷ []))) (sym n) (open-scalar s at x.outer.items x.nodes.items t.ds g t.nodes));
    holds =
        one-whole a b at [] t.ds t.holds w (let l = get-within s at Scalar g in let m = t.slots in omega (arith, l, m))
        (λ k e qs h. (λ f. let l = open-within s at x.outer.items x.nodes.items t.ds t.nodes k e qs h in omega (arith, l, f)));
    slots = ap length w.nodes ∙ length-set (node_numbers a) at (length a.firsts.items) ∙ t.slots;
    aliases = w.aliases ∙ sym (append-nil (alias_events a)) ∙ aliases-next s at Scalar (alias_events a) g t.aliases;
  }

  pub alias-stands : slice_get s at ≡ Some Alias → Stands s at a x → alias_events b ≡ alias_events a ++ (at ∷ []) → b.firsts.items ≡ a.firsts.items → b.parts.items ≡ a.parts.items → node_numbers b ≡ node_numbers a → y.outer.items ≡ x.outer.items → y.nodes.items ≡ x.nodes.items ++ (at ∷ []) → Stands s (at + 1) b y
  alias-stands g t l f p m o n = record {
    ds = t.ds;
    nodes = subst (λ z. OpenNodes s (at + 1) z y.nodes.items t.ds) (sym o) (subst (λ z. OpenNodes s (at + 1) x.outer.items z t.ds) (sym n) (open-alias s at x.outer.items x.nodes.items t.ds g t.nodes));
    holds = still-holds a b t.ds t.holds f p (λ k e qs h. ap (λ z. slice_get z e) m);
    slots = ap length m ∙ t.slots;
    aliases = l ∙ aliases-next s at Alias (alias_events a) g t.aliases;
  }

  pub opens-stands : slice_get s at ≡ Some Opens → Stands s at a x → b ≡ a → y.outer.items ≡ x.outer.items ++ ((at, length x.nodes.items) ∷ []) → y.nodes.items ≡ x.nodes.items → Stands s (at + 1) b y
  opens-stands g t same o n = record {
    ds = t.ds;
    nodes = subst (λ z. OpenNodes s (at + 1) z y.nodes.items t.ds) (sym o) (subst (λ z. OpenNodes s (at + 1) (x.outer.items ++ ((at, length x.nodes.items) ∷ [])) z t.ds) (sym n) (open-opens s at x.outer.items x.nodes.items t.ds g t.nodes));
    holds = subst (λ z. Holds z t.ds) (sym same) t.holds;
    slots = ap (λ z. length (node_numbers z)) same ∙ t.slots;
    aliases = ap alias_events same ∙ sym (append-nil (alias_events a)) ∙ aliases-next s at Opens (alias_events a) g t.aliases;
  }

  pub other-stands : slice_get s at ≡ Some Other → Stands s at a x → b ≡ a → y ≡ x → Stands s (at + 1) b y
  other-stands g t same alike = record {
    ds = t.ds;
    nodes = subst (λ z. OpenNodes s (at + 1) z.outer.items z.nodes.items t.ds) (sym alike) (open-other s at x.outer.items x.nodes.items t.ds g t.nodes);
    holds = subst (λ z. Holds z t.ds) (sym same) t.holds;
    slots = ap (λ z. length (node_numbers z)) same ∙ t.slots;
    aliases = ap alias_events same ∙ sym (append-nil (alias_events a)) ∙ aliases-next s at Other (alias_events a) g t.aliases;
  }

  closes-stands : (event before : ℕ) → slice_get s at ≡ Some Closes → Stands s at a x → x.outer.items ≡ y.outer.items ++ ((event, before) ∷ []) → IsWhole event (drop before x.nodes.items) a b → y.nodes.items ≡ take before x.nodes.items ++ (event ∷ []) → Stands s (at + 1) b y
  closes-stands event before g t o w n =
      let q = open-closes s at x.outer.items x.nodes.items t.ds t.nodes g y.outer.items event before o in
      let front : take before x.nodes.items ≡ q.before = ap (λ k. take k x.nodes.items) q.count ∙ ap (take (length q.before)) q.split ∙ take-append_seam q.before q.parts in
      let rest : drop before x.nodes.items ≡ q.parts = ap (λ k. drop k x.nodes.items) q.count ∙ ap (drop (length q.before)) q.split ∙ drop-append_seam q.before q.parts in
      let now : y.nodes.items ≡ q.before ++ (event ∷ []) = n ∙ ap (λ z. z ++ (event ∷ [])) front in
      record {
        ds = t.ds ++ ((event, q.parts) ∷ []);
        nodes = subst (λ z. OpenNodes s (at + 1) y.outer.items z (t.ds ++ ((event, q.parts) ∷ []))) (sym now) q.around;
        holds = one-whole a b event q.parts t.ds t.holds (subst (λ z. IsWhole event z a b) rest w) (let l = get-within s at Closes g in let m = t.slots in let k = q.low in omega (arith, l, m, k)) q.new;
        slots = ap length w.nodes ∙ length-set (node_numbers a) event (length a.firsts.items) ∙ t.slots;
        aliases = w.aliases ∙ sym (append-nil (alias_events a)) ∙ aliases-next s at Closes (alias_events a) g t.aliases;
      }

  pub closed-stands : (last : ℕ × ℕ) → slice_get s at ≡ Some Closes → Stands s at a x → x.outer.items ≡ y.outer.items ++ (last ∷ []) → IsWhole last.0 (drop last.1 x.nodes.items) a b → y.nodes.items ≡ take last.1 x.nodes.items ++ (last.0 ∷ []) → Stands s (at + 1) b y
  closed-stands (event, before) = closes-stands event before

-- no event yet
pub first-stands : (s : List Shape) (a : Layout) (x : Open) → a.firsts.items ≡ [] → length (node_numbers a) ≡ length s → alias_events a ≡ [] → x.outer.items ≡ [] → x.nodes.items ≡ [] → Stands s 0 a x
first-stands s a x f l v o n = record {
  ds = [];
  nodes = subst (λ z. OpenNodes s 0 z x.nodes.items []) (sym o) (subst (λ z. OpenNodes s 0 [] z []) (sym n) (ground nothing));
  holds = record { count = ap length f; each = λ k e ps h. absurd (cc) };
  slots = l;
  aliases = v;
}

-- all events, and no collection is open
pub all-stand : (s : List Shape) (at : ℕ) (a b : Layout) (x : Open) → Stands s at a x → at ≡ length s → x.outer.items ≡ [] → b.firsts.items ≡ a.firsts.items → b.parts.items ≡ a.parts.items → node_numbers b ≡ node_numbers a → alias_events b ≡ alias_events a → b.roots.items ≡ x.nodes.items → IsLayout s b
all-stand s at a b x t e o f p m v r =
    let h = still-holds a b t.ds t.holds f p (λ k e qs h. ap (λ z. slice_get z e) m) in
    record {
      ds = t.ds;
      nodes = subst (λ z. Nodes s 0 (length s) z t.ds) (sym r) (subst (λ z. Nodes s 0 z x.nodes.items t.ds) e (open-none s at x.outer.items x.nodes.items t.ds t.nodes o));
      numbered = h.each;
      aliases = v ∙ t.aliases ∙ ap (aliases_from 0) (ap (λ k. take k s) e ∙ take-length s);
    }

-- a number at the event that comes next
pub named-stand : (s : List Shape) (at v : ℕ) (a b : Layout) (x : Open) → Stands s at a x → node_numbers b ≡ set (node_numbers a) at v → b.firsts.items ≡ a.firsts.items → b.parts.items ≡ a.parts.items → alias_events b ≡ alias_events a → Stands s at b x
named-stand s at v a b x t m f p l = record {
  ds = t.ds;
  nodes = t.nodes;
  holds = still-holds a b t.ds t.holds f p (λ k e ps h. ap (λ z. slice_get z e) m ∙ set-there (node_numbers a) at e v (λ q. let l = open-within s at x.outer.items x.nodes.items t.ds t.nodes k e ps h in omega (arith, l, q)));
  slots = ap length m ∙ length-set (node_numbers a) at v ∙ t.slots;
  aliases = l ∙ t.aliases;
}
