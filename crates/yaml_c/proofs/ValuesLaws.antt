-- Values that stand at the front of rooms.
use Rattle.std.proofs.Common.{◌≡◌, ℕ, List, length, map, take, drop, sym, ◌∙◌, ap, subst}
use Rattle.std.proofs.Math.Seq.{take-append_seam}
use Rattle.std.specs.String.{string_bytes}
use Rattle.yaml_definitions.specs.model.Tree.{Tree}
use Rattle.yaml_definitions.specs.model.Order.{arranged}
use Rattle.yaml_values.specs.declared.value.Value.{Value}
use Rattle.yaml_values.specs.declared.making.Values.{Values}
use Rattle.yaml_values.specs.Denotes.{Denotes}
use Rattle.yaml_values.specs.ValuesOf.{AreValues}
use Rattle.yaml_c.specs.declared.values.Lengths.{Lengths}
use Rattle.yaml_c.specs.Values.{lengths_of, IsAtFront, AreAtFront}

front-is : {X : Type 0} (xs old new : List X) (n : ℕ) → n ≡ length xs → IsAtFront xs old new → take n new ≡ xs
front-is xs old new n e f = (λ z. take (e z) (f z)) ∙ take-append_seam xs (drop (length xs) old)

-- the same list by another name
pub front_of : {X : Type 0} (xs ys old new : List X) → xs ≡ ys → IsAtFront xs old new → IsAtFront ys old new
front_of xs ys old new e f = subst (λ z. IsAtFront z old new) e f

-- what is at the front stands for the trees
pub front_denotes : (f : List Tree) (made : Values) (n : Lengths) (values_old values_new : List Value) (parts_old parts_new texts_old texts_new : List ℕ) → AreValues f made → n ≡ lengths_of made → AreAtFront made values_old values_new parts_old parts_new texts_old texts_new → Denotes (take n.values values_new) (take n.parts parts_new) (take n.texts texts_new) n.documents (map arranged f)
front_denotes f made n vo vn po pn to tn h e g =
    let a = front-is made.values.items vo vn n.values (ap (λ m. m.values) e) g.values in
    let b = front-is made.parts.items po pn n.parts (ap (λ m. m.parts) e) g.parts in
    let c = front-is (string_bytes made.texts) to tn n.texts (ap (λ m. m.texts) e) g.texts in
    subst (λ x. Denotes x (take n.parts pn) (take n.texts tn) n.documents (map arranged f)) (sym a)
    (subst (λ x. Denotes made.values.items x (take n.texts tn) n.documents (map arranged f)) (sym b)
    (subst (λ x. Denotes made.values.items made.parts.items x n.documents (map arranged f)) (sym c)
    (subst (λ x. Denotes made.values.items made.parts.items (string_bytes made.texts) x (map arranged f)) (sym (ap (λ m. m.documents) e)) h)))
