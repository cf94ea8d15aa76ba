-- The canonical text of a forest against its documents.
use Rattle.std.proofs.Common.{sym, ◌≡◌, ℕ, suc, ◌+◌, ◌*◌, ◌≤◌, true, Ok, List, [], ◌∷◌, map, length, subst, arith}
use Rattle.std.specs.Str.{is_utf8}
use Rattle.yaml_definitions.specs.model.Limits.{text_limit}
use Rattle.yaml_definitions.specs.model.Tree.{Tree}
use Rattle.yaml_definitions.specs.model.Tag.{IsTag}
use Rattle.yaml_definitions.specs.model.Event.{Event, Style, WrittenTag, stream_end, document_start, document_end}
use Rattle.yaml_definitions.specs.model.Serial.{flat, Document, documents_events, stream_events}
use Rattle.yaml_definitions.specs.model.Core.{resolve}
use Rattle.yaml_definitions.specs.model.Order.{arranged}
use Rattle.yaml_definitions.specs.canonical.Walk.{walk, agains}
use Rattle.yaml_definitions.specs.canonical.Serialize.{serialize}
use Rattle.yaml_definitions.specs.canonical.NodeText.{node_text}
use Rattle.yaml_definitions.specs.canonical.Spell.{short, serial_of, spell, spell_bytes}
use Rattle.yaml_definitions.specs.model.Unfold.{unfold_node, trees_from, event_count}
use Rattle.yaml_definitions.specs.model.Proper.{AreAdmitted}
use Rattle.yaml_definitions.proofs.ReadLaws.{ok_one, bind}
use Rattle.law_length.specs.Sizes.{texts_bytes, CanonicalIsBounded, MeaningIsBounded}
use Rattle.law_length.proofs.Walks.{walk_weight}
use Rattle.law_length.proofs.Weights.{bytes, tag_bytes, content_bytes, own, arranged_inside, own_all_arranged}
use Rattle.law_length.proofs.Pools.{budget, allowed, allowed_flat, unfold_pool}
use Rattle.law_length.proofs.Texts.{bytes-join, node_light, firsts_low, frame}

document_allowed : (d : Document) (more : List Event) → allowed (document_start d.starts ∷ flat d.root (document_end d.ends ∷ more)) ≡ 6800 + budget d.root + allowed more
unfolding allowed texts_bytes
document_allowed d more = omega (arith, allowed_flat d.root (document_end d.ends ∷ more))

module _ (tag_light : (k : ℕ) (g : List ℕ) → IsTag g → tag_bytes k g ≤ 3100)
    (text_light : (w : WrittenTag) (y : Style) (x g z : List ℕ) → is_utf8 z ≡ true → resolve w y x ≡ Ok (g, z) → content_bytes z ≤ 4 * length x + 200) where
  abbrev Bounded : List Document → List Event → List Tree → Type 0
  Bounded ds more f = AreAdmitted f → bytes (spell f) ≤ text_limit → bytes (spell f) + allowed more ≤ allowed (documents_events ds more)

  forest_light : (ds : List Document) (f : List Tree) (at : ℕ) (more : List Event) → trees_from at ds ≡ Ok f → Bounded ds more f
  unfolding trees_from spell serial_of
  forest_light [] f at more q = subst (Bounded [] more) (ok_one [] f q) (λ a l. omega (arith, frame.2))
  forest_light (d ∷ ds) f at more q =
      let b = bind (unfold_node d.root [] (suc at)) _ f q in
      let c = bind (trees_from (suc (suc (at + event_count d.root))) ds) _ f b.2 in
      subst (Bounded (d ∷ ds) more) (ok_one (b.0.0 ∷ c.0) f c.2)
      (λ a l.
      let pool = unfold_pool tag_light text_light d.root [] (suc at) b.0 [] tt b.1 a.0.proper in
      let t = arranged b.0.0 in
      let r = agains (walk short t []) in
      let rest = spell c.0 in
      let line = node_text (serialize short r t []) (10 ∷ rest) in
      let front : bytes (45 ∷ 45 ∷ 45 ∷ 32 ∷ line) ≡ 4 + bytes line = omega (arith, bytes-join (45 ∷ 45 ∷ 45 ∷ 32 ∷ []) line, frame.0) in
      let tail : bytes (10 ∷ rest) ≡ 1 + bytes rest = omega (arith, bytes-join (10 ∷ []) rest, frame.1) in
      let few = firsts_low r t [] (10 ∷ rest) in
      let weight = walk_weight short own (map arranged pool.more) t (arranged_inside pool.more b.0.0 pool.holds.0) in
      omega (
        arith,
        front,
        tail,
        node_light r t [] (10 ∷ rest) (omega (arith, few, front, l)),
        weight,
        own_all_arranged pool.more,
        pool.light,
        document_allowed d (documents_events ds more),
        forest_light ds c.0 (suc (suc (at + event_count d.root))) more c.1 a.1 (omega (arith, few, front, tail, l)),
      ))

  pub bounded : CanonicalIsBounded
  unfolding stream_events spell_bytes allowed texts_bytes bytes
  bounded ds f q a = omega (arith, forest_light ds f 1 (stream_end ∷ []) q a.trees a.fits)

  pub meaning_bounded : MeaningIsBounded
  meaning_bounded bytes f m a = subst (λ es. length (spell_bytes f) ≤ 4 * texts_bytes es + 4096 * length es) (sym m.stands.cut) (bounded m.stands.documents f m.stands.unfolded a)
