-- What is known of ranks, as one of them changes.
use Rattle.std.proofs.Common.{◌≡◌, ◌≢◌, ℕ, ◌<◌, Bool, true, false, cond, ◌==◌, List, length, refl, ◌∙◌, ap, arith, get_or-set_other, get_or-set_same}
use Rattle.std.specs.Prelude.{slice_set}
use Rattle.std.specs.List.{slice_index_or}
use Rattle.std.proofs.lemmas.Bool.Decides.{nat_tests}
use Rattle.std.proofs.lemmas.Bool.{eqb-true}
use Rattle.yaml_spell.specs.declared.names.Known.{Known}
use Rattle.yaml_spell.specs.declared.names.State.TheVariants.{Unseen}
use Rattle.yaml_spell.specs.declared.names.Names.{Names}
use Rattle.yaml_spell.specs.Known.{state_of}
use Rattle.yaml_spell.specs.NamesView.{ranks_in, unknown, stamped_state, put, NamesNone}
use Rattle.yaml_spell.specs.RankedNodes.{Ready}

itself : (d : ℕ) → (d == d) ≡ true
itself d = grind (arith, nat_tests)

other : (q r : ℕ) → (q == r) ≡ false → q ≡ r → ⊥
other q r e h = grind (arith, nat_tests)

pub table_set : (ks : List Known) (d rank m : ℕ) → rank < length ks → (λ (q : ℕ). stamped_state d (slice_index_or (slice_set ks rank (record { document = d; mark = m })) q unknown)) ≡ put rank (state_of m) (λ q. stamped_state d (slice_index_or ks q unknown))
table_set ks d rank m l = λ z q. by q (q == rank) refl z
  where
    k : Known
    k = record { document = d; mark = m }

    by : (q : ℕ) (b : Bool) → (q == rank) ≡ b → stamped_state d (slice_index_or (slice_set ks rank k) q unknown) ≡ cond b (state_of m) (stamped_state d (slice_index_or ks q unknown))
    by q true e =
        let same : q ≡ rank = eqb-true q rank e in
        ap (λ j. stamped_state d (slice_index_or (slice_set ks rank k) j unknown)) same ∙ ap (stamped_state d) (rw get_or-set_same refl) ∙ ap (λ b. cond b (state_of m) Unseen) (itself d)
    by q false e = let ne : q ≢ rank = other q rank e in ap (stamped_state d) (rw get_or-set_other refl)

-- ---- what stays as it was

pub none_then : {a b c : Names} → NamesNone b c → NamesNone a b → NamesNone a c
none_then h k = record { long = h.long ∙ k.long; count = h.count ∙ k.count }

pub still : {V : Type 0} {stands : V → Type 0} {count : V → ℕ} {v : V} {m : Names} (n : Names) → Ready stands count v m → ranks_in n ≡ ranks_in m → Ready stands count v n
still n h e = record { ranked = h.ranked; long = e ∙ h.long }
