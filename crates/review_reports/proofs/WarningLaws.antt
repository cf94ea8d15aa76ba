-- Warnings that are listed as far as they are asked for.
use Rattle.std.proofs.Common.{◌≡◌, ℕ, zero, suc, ◌+◌, ◌<◌, true, false, not, ◌&&◌, ◌==◌, nat_le, cond, List, [], ◌∷◌, ◌++◌, length, take, get_or, refl, sym, ◌∙◌, ap, subst, arith}
use Rattle.std.specs.Borrow.{Bor}
use Rattle.std.proofs.lemmas.Bool.{eqb-true, ne_eqb}
use Rattle.std.proofs.lemmas.List.{take_more}
use Rattle.review_text.specs.declared.options.Form.{Form}
use Rattle.review_args.specs.declared.words.Warn.{Warn}
use Rattle.review_formats.specs.declared.finding.Finding.{Finding}
use Rattle.review_faults.proofs.WarnLaws.{none_told}
use Rattle.review_faults.specs.Warned.{ListsFirst, ListsWarnings, warnings_text}
use Rattle.review_faults.specs.declared.cause.Cause.{Cause}
use Rattle.review_faults.specs.declared.warn.Warning.{Warning}
use Rattle.review_faults.specs.declared.warn.Warnings.{Warnings}
use Rattle.review_reports.specs.Reports.{room_for, AddsWarnings}
use Rattle.review_reports.specs.Pages.{IsFoundWarning, AreFoundWarnings, FindsWarnings}

-- ---- how many

some_room : (lines : ℕ) → (room : ℕ) × (room_for lines ≡ suc room)
some_room zero = (0, refl)
some_room (suc n) = (n, ap (λ z. cond z 1 (suc n)) (ne_eqb (suc n) 0 (λ e. omega arith)))

-- no warning is listed exactly if there is none
is_none : (bytes : List ℕ) (allowed : List (Bor (List ℕ))) (all : List (ℕ × Cause)) (lines : ℕ) (list : List Warning) → ListsFirst bytes allowed all (room_for lines) list → (length list == 0) ≡ (length all == 0)
is_none bytes allowed all lines list h =
    let r = some_room lines in
    none_told bytes allowed all r.0 list (subst (λ n. ListsFirst bytes allowed all n list) r.1 h)

none_asked : (bytes : List ℕ) (allowed : List (Bor (List ℕ))) (all : List (ℕ × Cause)) (room lines : ℕ) (list : List Warning) → (lines == 0) ≡ true → ListsFirst bytes allowed all room list → ListsFirst bytes allowed all lines []
none_asked bytes allowed all room zero list z h = record { events = h.events; reads = h.reads; trace = h.trace; warned = h.warned; are = refl }
none_asked bytes allowed all room (suc n) list z h = let q = eqb-true (suc n) 0 z in absurd (omega (arith, q))

room_is : (lines : ℕ) → (lines == 0) ≡ false → room_for lines ≡ lines
room_is lines e = ap (λ z. cond z 1 lines) e

-- ---- as lines

module _ (w : Warn) (name bytes : List ℕ) (warnings : Warnings) (status : ℕ) (h : ListsWarnings bytes w.allowed.items (room_for w.lines) warnings) (s : status ≡ cond (w.is_strict && not (length warnings.list.items == 0)) 1 0) where
  answers : status ≡ cond (w.is_strict && not (length h.all == 0)) 1 0
  answers = s ∙ ap (λ z. cond (w.is_strict && not z) 1 0) (is_none bytes w.allowed.items h.all w.lines warnings.list.items h.first)

  pub no_lines : (form : Form) (text : List ℕ) → (w.lines == 0) ≡ true → text ≡ [] → AddsWarnings w form name bytes text status
  no_lines form text z t =
      record {
        all = h.all;
        list = [];
        first = none_asked bytes w.allowed.items h.all (room_for w.lines) w.lines warnings.list.items z h.first;
        printed = t ∙ ap (λ b. cond b [] (warnings_text form name [] (nat_le (length h.all) w.lines))) (sym z);
        answered = answers;
      }

  asked : (w.lines == 0) ≡ false → ListsFirst bytes w.allowed.items h.all w.lines warnings.list.items
  asked z = subst (λ n. ListsFirst bytes w.allowed.items h.all n warnings.list.items) (room_is w.lines z) h.first

  pub some_lines : (form : Form) (text : List ℕ) → (w.lines == 0) ≡ false → text ≡ warnings_text form name warnings.list.items warnings.whole → AddsWarnings w form name bytes text status
  some_lines form text z t =
      record {
        all = h.all;
        list = warnings.list.items;
        first = asked z;
        printed =
            t ∙ ap (warnings_text form name warnings.list.items) (h.whole ∙ ap (nat_le (length h.all)) (room_is w.lines z))
            ∙ ap (λ b. cond b [] (warnings_text form name warnings.list.items (nat_le (length h.all) w.lines))) (sym z);
        answered = answers;
      }

  -- ---- as they are found

  pub none_listed : (list : List Finding) → (w.lines == 0) ≡ true → list ≡ [] → FindsWarnings w name bytes list status
  none_listed list z l =
      record {
        all = h.all;
        warnings = [];
        first = none_asked bytes w.allowed.items h.all (room_for w.lines) w.lines warnings.list.items z h.first;
        found = l;
        answered = answers;
      }

  pub some_listed : (list : List Finding) → (w.lines == 0) ≡ false → AreFoundWarnings name warnings.list.items list → FindsWarnings w name bytes list status
  some_listed list z f =
      record {
        all = h.all;
        warnings = warnings.list.items;
        first = asked z;
        found = f;
        answered = answers;
      }

are_more : (name : List ℕ) (ws : List Warning) (list : List Finding) (w : Warning) (one : Finding) → AreFoundWarnings name ws list → IsFoundWarning name w one → AreFoundWarnings name (ws ++ (w ∷ [])) (list ++ (one ∷ []))
are_more name [] list w one h f = (one, [], f, refl, ap (λ z. z ++ (one ∷ [])) h)
are_more name (v ∷ ws) list w one (first, rest, g, r, e) f = (first, rest ++ (one ∷ []), g, are_more name ws rest w one r f, ap (λ z. z ++ (one ∷ [])) e)

found_more : (name : List ℕ) (ws more : List Warning) (list new : List Finding) (w : Warning) (one : Finding) → more ≡ ws ++ (w ∷ []) → new ≡ list ++ (one ∷ []) → AreFoundWarnings name ws list → IsFoundWarning name w one → AreFoundWarnings name more new
found_more name ws more list new w one m n h f =
    subst (λ z. AreFoundWarnings name z new) (sym m) (subst (AreFoundWarnings name (ws ++ (w ∷ []))) (sym n) (are_more name ws list w one h f))

-- the same of the warnings of a list, by the number of the next one
pub found_next : (name : List ℕ) (ws : List Warning) (i : ℕ) (d : Warning) (list new : List Finding) (one : Finding) → i < length ws → new ≡ list ++ (one ∷ []) → IsFoundWarning name (get_or ws i d) one → AreFoundWarnings name (take i ws) list → AreFoundWarnings name (take (i + 1) ws) new
found_next name ws i d list new one l n f h = found_more name (take i ws) (take (i + 1) ws) list new (get_or ws i d) one (take_more ws i d l) n h f
