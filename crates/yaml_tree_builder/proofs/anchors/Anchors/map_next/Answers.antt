use Rattle.std.proofs.Common.{◌≡◌, ◌+◌, cond, bytes_eq, ℕ, List, arith, ap, ◌∙◌, Some}
use Rattle.std.specs.String.{string_bytes}
use Rattle.std.specs.BTreeMap.{get_by_text}
use Rattle.std.proofs.lemmas.Map.Text.{btree_map_updates_text}
use Rattle.yaml_tree_builder.proofs.AnchorLaws.{maps-next}
use Rattle.yaml_tree_builder.proofs.anchors.Anchors.map_next.Goals as goal

pub returns-clause-names : goal.returns-clause-names
returns-clause-names c = λ names h.
    let s = c.args.self.now in
    let x = c.in-Some-name.name.now in
    let new = c.insert.new.self in
    let u : (y : List ℕ) → get_by_text new y ≡ cond (bytes_eq x y) (Some s.mapped) (get_by_text s.places y) = λ y.
    btree_map_updates_text (string_bytes c.in_ok-key.key) s.places new (Some s.mapped) c.in_ok-insert.ensures.updates y ∙ ap (λ b. cond (bytes_eq b y) (Some s.mapped) (get_by_text s.places y)) c.in_ok-key.ensures.ok in
    let n : c.in-Some.next ≡ s.mapped + 1 = omega (arith, c.in-Some.ensures.0) in
    record { texts = h.texts; sees = h.sees; maps = maps-next (get_by_text s.places) (get_by_text new) s.mapped c.in-Some.next names x n (c.in-Some-name.ensures names h) u h.maps }
