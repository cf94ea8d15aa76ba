-- Drafts, piece by piece.
use Rattle.std.proofs.Common.{◌≡◌, ℕ, true, false, List, [], ◌++◌, refl, sym, ◌∙◌, ap, subst}
use Rattle.std.specs.Prelude.{Result, Ok, Err, OnOk, IfErr, Option, Some, None, is_some}
use Rattle.std.specs.Result.{result_err}
use Rattle.std.proofs.lemmas.List.{append_assoc, append-nil}
use Rattle.yaml_show_scalar.specs.Stops.{limit_of, Stops}
use Rattle.yaml_show_scalar.specs.Texts.{written}
use Rattle.yaml_show_scalar.specs.declared.output.Out.{Out}
use Rattle.yaml_show_scalar.specs.declared.stop.Stop.{Stop}
use Rattle.yaml_show_scalar.proofs.StopLaws.{stops_longer}
use Rattle.yaml_show.specs.declared.draft.Draft.{Draft}
use Rattle.yaml_show.specs.Drafts.{HoldsBy, out_of, stop_of, Holds, Adds, Forgone}

-- ---- one piece

kept : (limit : ℕ) (a b : Out) (s u : Option Stop) (r : Result (Unit {0}) Stop) (piece text : List ℕ) → is_some s ≡ false → u ≡ result_err r → limit_of b ≡ limit_of a → OnOk r (written b ≡ written a ++ piece)
    → IfErr r (Stops (limit_of a) (written a ++ piece)) → HoldsBy limit a s text → HoldsBy limit b u (text ++ piece)
kept limit a b (Some stop) u r piece text n e l o i h = absurd (cc)
kept limit a b None u (Ok x) piece text n e l o i h = subst (λ z. HoldsBy limit b z (text ++ piece)) (sym e) (l ∙ h.0, o ∙ ap (λ z. z ++ piece) h.1)
kept limit a b None u (Err stop) piece text n e l o i h =
    subst (λ z. HoldsBy limit b z (text ++ piece)) (sym e) (λ more. stops_longer limit (limit_of a) (written a ++ piece) more ((text ++ piece) ++ more) stop h.0 (ap (λ z. (z ++ piece) ++ more) (sym h.1)) i)

-- a piece that is written, or not
pub adds_kept : (d e : Draft) (r : Result (Unit {0}) Stop) (piece : List ℕ) → is_some (stop_of d) ≡ false → stop_of e ≡ result_err r → limit_of (out_of e) ≡ limit_of (out_of d) → OnOk r (written (out_of e) ≡ written (out_of d) ++ piece)
    → IfErr r (Stops (limit_of (out_of d)) (written (out_of d) ++ piece)) → Adds d e piece
adds_kept d e r piece n k l o i = record { is = λ limit text h. kept limit (out_of d) (out_of e) (stop_of d) (stop_of e) r piece text n k l o i h }

still : (limit : ℕ) (a : Out) (s : Option Stop) (piece text : List ℕ) → is_some s ≡ true → HoldsBy limit a s text → HoldsBy limit a s (text ++ piece)
still limit a None piece text n h = absurd (cc)
still limit a (Some stop) piece text n h = λ more. subst (λ z. Stops limit z stop) (sym (append_assoc text piece more)) (h (piece ++ more))

-- once it has stopped
pub adds_stopped : (d : Draft) (piece : List ℕ) → is_some (stop_of d) ≡ true → Adds d d piece
adds_stopped d piece n = record { is = λ limit text h. still limit (out_of d) (stop_of d) piece text n h }

-- ---- the text in the end

whole : (limit : ℕ) (a : Out) (s : Option Stop) (text : List ℕ) → s ≡ None → HoldsBy limit a s text → written a ≡ text
whole limit a None text e h = h.1
whole limit a (Some stop) text e h = absurd (cc)

pub finished : (d : Draft) → stop_of d ≡ None → (limit : ℕ) (text : List ℕ) → Holds limit d text → written (out_of d) ≡ text
finished d e limit text h = whole limit (out_of d) (stop_of d) text e h

broken : (limit : ℕ) (a : Out) (s : Option Stop) (stop : Stop) (text : List ℕ) → s ≡ Some stop → HoldsBy limit a s text → Stops limit text stop
broken limit a None stop text e h = absurd (cc)
broken limit a (Some other) stop text e h = let q : other ≡ stop = cc in subst (Stops limit text) q (subst (λ z. Stops limit z other) (append-nil text) (h []))

pub unfinished : (d : Draft) (stop : Stop) → stop_of d ≡ Some stop → (limit : ℕ) (text : List ℕ) → Holds limit d text → Stops limit text stop
unfinished d stop e limit text h = broken limit (out_of d) (stop_of d) stop text e h

-- ---- pieces one after another

pub adds_none : (d : Draft) → Adds d d []
adds_none d = record { is = λ limit text h. subst (Holds limit d) (sym (append-nil text)) h }

pub adds_then : (d e f : Draft) (a b : List ℕ) → Adds d e a → Adds e f b → Adds d f (a ++ b)
adds_then d e f a b h k = record { is = λ limit text p. subst (Holds limit f) (append_assoc text a b) (k.is limit (text ++ a) (h.is limit text p)) }

pub adds_as : (d e : Draft) (a b : List ℕ) → a ≡ b → Adds d e a → Adds d e b
adds_as d e a b q h = subst (Adds d e) q h

pub adds_three : (c d e f : Draft) (x y z : List ℕ) → Adds c d x → Adds d e y → Adds e f z → Adds c f (x ++ (y ++ z))
adds_three c d e f x y z h k m = adds_then c d f x (y ++ z) h (adds_then d e f y z k m)

-- whatever it is
pub adds_forgone : (d e : Draft) (piece : List ℕ) → Forgone e → Adds d e piece
adds_forgone d e piece h = record { is = λ limit text p. h.is limit (text ++ piece) }

-- ---- what is left of a text

pub record Left (d e : Draft) (rest whole : List ℕ) : Type 0 where
  pub front : List ℕ
  pub adds : Adds d e front
  pub is : front ++ rest ≡ whole

pub left_none : (d : Draft) (text : List ℕ) → Left d d text text
left_none d text = record { front = []; adds = adds_none d; is = refl }

pub left_as : (d e : Draft) (a b text : List ℕ) → a ≡ b → Left d e a text → Left d e b text
left_as d e a b text q h = subst (λ z. Left d e z text) q h

pub left_next : (d e f : Draft) (a rest text : List ℕ) → Left d e (a ++ rest) text → Adds e f a → Left d f rest text
left_next d e f a rest text h k = record { front = h.front ++ a; adds = adds_then d e f h.front a h.adds k; is = append_assoc h.front a rest ∙ h.is }

pub left_last : (d e f : Draft) (a text : List ℕ) → Left d e a text → Adds e f a → Adds d f text
left_last d e f a text h k = adds_as d f (h.front ++ a) text h.is (adds_then d e f h.front a h.adds k)

pub left_end : (d e : Draft) (text : List ℕ) → Left d e [] text → Adds d e text
left_end d e text h = adds_as d e h.front text (sym (append-nil h.front) ∙ h.is) h.adds
