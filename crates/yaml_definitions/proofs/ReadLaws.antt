-- What is read is proper: trees unfolded from marks whose tags and texts are sound.
use Rattle.std.proofs.Common.{◌≡◌, ℕ, zero, suc, ◌+◌, true, false, cond, Option, Some, None, Result, Ok, Err, List, [], ◌∷◌, length, set, refl, ap, subst}
use Rattle.std.proofs.lemmas.Bool.{cond_both}
use Rattle.std.specs.Str.{is_utf8}
use lib.Pointwise.{bytes_decides}
use Rattle.yaml_definitions.specs.model.Tree.{Tree, Trees, Pairs, scalar, sequence, mapping, end, item, done, entry}
use Rattle.std.specs.Prelude.{bytes_eq}
use Rattle.yaml_definitions.specs.model.Event.{Anchor, Style, WrittenTag, untagged, non_specific, full}
use Rattle.yaml_definitions.specs.model.Serial.{SerialNode, SerialNodes, SerialPairs, alias_at, scalar_at, sequence_at, mapping_at, end_serial, item_serial, done_serial, entry_serial}
use Rattle.yaml_definitions.specs.model.Tag.{default_tag, is_core}
use Rattle.yaml_definitions.specs.model.Core.{Cause, wrong_kind, resolve, collection_tag}
use Rattle.yaml_definitions.specs.model.Unfold.{Outcome, Table, opened, closed, last_named, tree_named, placed, and_then, or_else, event_count, unfold_node, unfold_all, unfold_pairs}
use Rattle.yaml_definitions.specs.model.Proper.{IsProper, AreProper, ArePairsProper}
use Rattle.yaml_definitions.specs.model.Tag.{IsTag}
use Rattle.yaml_definitions.specs.model.Sound.{SoundTag, Sound, AllSound, PairsSound}
use Rattle.yaml_definitions.proofs.ResolveLaws.{resolved_again}

-- ---- the table

abbrev OnTree : Option Tree → Type 0
OnTree None = Unit {0}
OnTree (Some t) = IsProper t

abbrev TableProper : Table → Type 0
TableProper [] = Unit {0}
TableProper (o ∷ e) = OnTree o.1 × TableProper e

abbrev OnNamed : Option (Option Tree) → Type 0
OnNamed None = Unit {0}
OnNamed (Some o) = OnTree o

open_proper : (a : Anchor) (e : Table) → TableProper e → TableProper (opened a e)
open_proper None e h = h
open_proper (Some n) [] h = (tt, tt)
open_proper (Some n) (o ∷ e) h = (h.0, open_proper (Some n) e h.1)

set_proper : (e : Table) (i : ℕ) (n : List ℕ) (t : Tree) → TableProper e → IsProper t → TableProper (set e i (n, Some t))
set_proper [] i n t h p = tt
set_proper (o ∷ e) zero n t h p = (p, h.1)
set_proper (o ∷ e) (suc i) n t h p = (h.0, set_proper e i n t h.1 p)

close_proper : (a : Anchor) (i : ℕ) (t : Tree) (e : Table) → TableProper e → IsProper t → TableProper (closed a i t e)
close_proper None i t e h p = h
close_proper (Some n) i t e h p = set_proper e i n t h p

either_named : (a b : Option (Option Tree)) → OnNamed a → OnNamed b → OnNamed (or_else a b)
either_named None b h k = k
either_named (Some o) b h k = h

named_proper : (n : List ℕ) (e : Table) → TableProper e → OnNamed (last_named n e)
unfolding last_named
named_proper n [] h = tt
named_proper n (o ∷ e) h =
    let one : OnTree o.1 = h.0 in
    either_named (last_named n e) (cond (bytes_eq o.0 n) (Some o.1) None) (named_proper n e h.1)
    (elim (bytes_eq o.0 n) as (λ b. OnNamed (cond b (Some o.1) None)) [ true ↦ one | false ↦ tt ])

-- ---- outcomes

pub ok_one : {X E : Type 0} (x y : X) → ◌≡◌ {A = Result X E} (Ok x) (Ok y) → x ≡ y
ok_one x y e = cc

pub bind : {X Y : Type 0} (o : Outcome X) (k : X → Outcome Y) (z : Y) → and_then o k ≡ Ok z → (x : X) × (o ≡ Ok x) × (k x ≡ Ok z)
bind (Ok x) k z e = (x, refl, e)
bind (Err c) k z e = absurd (cc)

pub unplaced : {X : Type 0} (at : ℕ) (r : Result X Cause) (x : X) → placed at r ≡ Ok x → r ≡ Ok x
unplaced at (Ok y) x e = ap (λ t. Ok t) (ok_one y x e)
unplaced at (Err c) x e = absurd (cc)

tree_is : (o : Option (Option Tree)) (t : Tree) → OnNamed o → tree_named o ≡ Ok t → IsProper t
tree_is None t h e = absurd (cc)
tree_is (Some None) t h e = absurd (cc)
tree_is (Some (Some u)) t h e = subst IsProper (ok_one u t e) h

-- a collection's tag stays
collection_again : (k : ℕ) (w : WrittenTag) (h : List ℕ) → IsTag (default_tag k) → SoundTag w → collection_tag k w ≡ Ok h → IsTag h × (collection_tag k (full h) ≡ Ok h)
unfolding collection_tag
collection_again k untagged h d s e =
    let q = ok_one (default_tag k) h e in
    subst (λ z. IsTag z × (collection_tag k (full z) ≡ Ok z)) q (d, rw ((bytes_decides (default_tag k) (default_tag k)).1 refl) refl)
collection_again k non_specific h d s e =
    let q = ok_one (default_tag k) h e in
    subst (λ z. IsTag z × (collection_tag k (full z) ≡ Ok z)) q (d, rw ((bytes_decides (default_tag k) (default_tag k)).1 refl) refl)
collection_again k (full g) h d s e =
    let q : g ≡ h = cond_both (bytes_eq g (default_tag k)) _ _ (λ (r : Result (List ℕ) Cause). r ≡ Ok h → g ≡ h) (λ b f. ok_one g h f)
    (λ b. cond_both (is_core g) _ _ (λ (r : Result (List ℕ) Cause). r ≡ Ok h → g ≡ h) (λ c f. absurd (let x : ◌≡◌ {A = Result (List ℕ) Cause} (Err wrong_kind) (Ok h) = f in cc)) (λ c f. ok_one g h f)) e in
    (subst IsTag q s, subst (λ z. collection_tag k (full z) ≡ Ok h) q e)

-- `sound`: what resolving gives has a tag and UTF-8
module _ (seq_is : IsTag (default_tag 1)) (map_is : IsTag (default_tag 2))
    (sound : (w : WrittenTag) (y : Style) (x g z : List ℕ) → SoundTag w → is_utf8 x ≡ true → resolve w y x ≡ Ok (g, z) → IsTag g × (is_utf8 z ≡ true)) where
  abbrev Good : Tree × Table → Type 0
  Good z = IsProper z.0 × TableProper z.1

  mutual
    unfolding unfold_node IsProper

    pub unfold_proper : (m : SerialNode) (e : Table) (at : ℕ) (z : Tree × Table) → Sound m → TableProper e → unfold_node m e at ≡ Ok z → Good z
    unfold_proper (alias_at n) e at z s h q =
        let b = bind (placed at (tree_named (last_named n e))) (λ t. Ok (t, e)) z q in
        subst Good (ok_one (b.0, e) z b.2) (tree_is (last_named n e) b.0 (named_proper n e h) (unplaced at (tree_named (last_named n e)) b.0 b.1), h)
    unfold_proper (scalar_at a g y x) e at z s h q =
        let b = bind (placed at (resolve g y x)) _ z q in
        let r = unplaced at (resolve g y x) b.0 b.1 in
        let p = sound g y x b.0.0 b.0.1 s.1 s.2 r in
        let t : IsProper (scalar b.0.0 b.0.1) = (p.0, p.1, resolved_again g y x b.0.0 b.0.1 r) in
        subst Good (ok_one _ z b.2) (t, close_proper a (length e) (scalar b.0.0 b.0.1) (opened a e) (open_proper a e h) t)
    unfold_proper (sequence_at a g f ts) e at z s h q =
        let b = bind (placed at (collection_tag 1 g)) _ z q in
        let r = collection_again 1 g b.0 seq_is s.1 (unplaced at (collection_tag 1 g) b.0 b.1) in
        let c = bind (unfold_all ts (opened a e) (suc at)) _ z b.2 in
        let i = items_proper ts (opened a e) (suc at) c.0 s.2 (open_proper a e h) c.1 in
        let t : IsProper (sequence b.0 c.0.0) = (r.0, r.1, i.0) in
        subst Good (ok_one _ z c.2) (t, close_proper a (length e) (sequence b.0 c.0.0) c.0.1 i.1 t)
    unfold_proper (mapping_at a g f ps) e at z s h q =
        let b = bind (placed at (collection_tag 2 g)) _ z q in
        let r = collection_again 2 g b.0 map_is s.1 (unplaced at (collection_tag 2 g) b.0 b.1) in
        let c = bind (unfold_pairs ps (opened a e) (suc at)) _ z b.2 in
        let i = pairs_proper ps (opened a e) (suc at) c.0 s.2 (open_proper a e h) c.1 in
        let t : IsProper (mapping b.0 c.0.0) = (r.0, r.1, i.0) in
        subst Good (ok_one _ z c.2) (t, close_proper a (length e) (mapping b.0 c.0.0) c.0.1 i.1 t)

    items_proper : (ts : SerialNodes) (e : Table) (at : ℕ) (z : Trees × Table) → AllSound ts → TableProper e → unfold_all ts e at ≡ Ok z → AreProper z.0 × TableProper z.1
    items_proper end_serial e at z s h q = subst (λ w. AreProper w.0 × TableProper w.1) (ok_one (end, e) z q) (tt, h)
    items_proper (item_serial t ts) e at z s h q =
        let b = bind (unfold_node t e at) _ z q in
        let i = unfold_proper t e at b.0 s.0 h b.1 in
        let c = bind (unfold_all ts b.0.1 (at + event_count t)) _ z b.2 in
        let j = items_proper ts b.0.1 (at + event_count t) c.0 s.1 i.1 c.1 in
        subst (λ w. AreProper w.0 × TableProper w.1) (ok_one (item b.0.0 c.0.0, c.0.1) z c.2) ((i.0, j.0), j.1)

    pairs_proper : (ps : SerialPairs) (e : Table) (at : ℕ) (z : Pairs × Table) → PairsSound ps → TableProper e → unfold_pairs ps e at ≡ Ok z → ArePairsProper z.0 × TableProper z.1
    pairs_proper done_serial e at z s h q = subst (λ w. ArePairsProper w.0 × TableProper w.1) (ok_one (done, e) z q) (tt, h)
    pairs_proper (entry_serial k v ps) e at z s h q =
        let b = bind (unfold_node k e at) _ z q in
        let i = unfold_proper k e at b.0 s.0 h b.1 in
        let c = bind (unfold_node v b.0.1 (at + event_count k)) _ z b.2 in
        let j = unfold_proper v b.0.1 (at + event_count k) c.0 s.1 i.1 c.1 in
        let d = bind (unfold_pairs ps c.0.1 (at + event_count k + event_count v)) _ z c.2 in
        let l = pairs_proper ps c.0.1 (at + event_count k + event_count v) d.0 s.2 j.1 d.1 in
        subst (λ w. ArePairsProper w.0 × TableProper w.1) (ok_one (entry b.0.0 c.0.0 d.0.0, d.0.1) z d.2) ((i.0, j.0, l.0), l.1)
