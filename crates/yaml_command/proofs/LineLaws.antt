-- What a writer has of a line, piece by piece.
use Rattle.std.proofs.Common.{◌≡◌, inl, inr, ℕ, ◌+◌, ◌-◌, ◌^◌, ◌<◌, List, [], ◌∷◌, ◌++◌, Option, take, drop, length, get_or, sym, ◌∙◌, ap, subst, arith, append_assoc, take-append-drop}
use Rattle.std.specs.Prelude.{Result, Ok, Err, OnOk, IfErr, flat_map}
use Rattle.std.proofs.lemmas.List.{append-nil, take_more}
use Rattle.std.proofs.lemmas.Grind.{flat_map-append}
use Rattle.yaml_text.specs.CountedModel.{faults_of}
use Rattle.yaml_text.specs.declared.fault.Fault.{Fault}
use Rattle.yaml_text.specs.declared.fault.Fault.TheVariants.{WriteFault}
use Rattle.yaml_text.specs.declared.counted.Counted.{Counted}
use Rattle.yaml_spell.specs.Writers.{Sent, CutOff}
use Rattle.yaml_text.specs.Writers.{Printed}
use Rattle.yaml_command.specs.Printing.{PrintFails}
use Rattle.yaml_command.specs.Refusals.{line_text, Told}
use Rattle.yaml_command.specs.declared.refusal.Refusal.{Refusal}
use Rattle.yaml_command.proofs.PageLaws.{begins, one_higher}

-- ---- pieces behind one another

piece_more : {X : Type 0} (f : X → List ℕ) (xs : List X) (i : ℕ) (d : X) → i < length xs → flat_map f (take (i + 1) xs) ≡ flat_map f (take i xs) ++ f (get_or xs i d)
piece_more f xs i d h = ap (flat_map f) (take_more xs i d h) ∙ flat_map-append f (take i xs) (get_or xs i d ∷ []) ∙ ap (λ z. flat_map f (take i xs) ++ z) (append-nil (f (get_or xs i d)))

pieces_cut : {X : Type 0} (f : X → List ℕ) (xs : List X) (i : ℕ) (d : X) → i < length xs → flat_map f xs ≡ flat_map f (take i xs) ++ (f (get_or xs i d) ++ flat_map f (drop (i + 1) xs))
pieces_cut f xs i d h =
    ap (flat_map f) (sym (take-append-drop (i + 1) xs)) ∙ flat_map-append f (take (i + 1) xs) (drop (i + 1) xs)
    ∙ ap (λ z. z ++ flat_map f (drop (i + 1) xs)) (piece_more f xs i d h) ∙ append_assoc (flat_map f (take i xs)) (f (get_or xs i d)) (flat_map f (drop (i + 1) xs))

module _ {W : Type 0} (contents : W → Option (List ℕ)) where
  module _ {X : Type 0} (f : X → List ℕ) (xs : List X) (i : ℕ) (d : X) where
    -- the writer fails at a piece
    pub cut_at_piece : (o u v : Counted W) (fault : Fault) → faults_of o < 2 ^ 64 - 1 → i < length xs → Sent contents o u (flat_map f (take i xs)) → CutOff contents u v (f (get_or xs i d)) fault → PrintFails contents o v (flat_map f xs) fault
    cut_at_piece o u v fault few h s k =
        let b = begins contents o u v (flat_map f (take i xs)) (f (get_or xs i d)) (flat_map f (drop (i + 1) xs)) (flat_map f xs) k.count s k.took (pieces_cut f xs i d h) in
        subst (PrintFails contents o v (flat_map f xs)) (sym k.is) (record { count = b.0; took = b.1; counted = k.counted ∙ one_higher (faults_of o) (faults_of u) few s.counted })

-- ---- the line of a refusal

pub told : {E : Type 0} (contents : E → Option (List ℕ)) (old new : Counted E) (refusal : Refusal) (r : Result (Unit {0}) Fault) → OnOk r (Printed contents old new (line_text refusal)) → IfErr r (PrintFails contents old new (line_text refusal)) → Told contents old new refusal
told contents old new refusal (Ok done) p q = inl p
told contents old new refusal (Err WriteFault) p q = inr q
told contents old new refusal (Err _) p q = absurd q
