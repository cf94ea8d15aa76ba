-- What a page and its writer hold, step by step.
use Rattle.std.proofs.Common.{◌≡◌, ℕ, ◌+◌, ◌-◌, ◌<◌, ◌≤◌, min, set, List, [], ◌∷◌, ◌++◌, Option, length, take, drop, sym, ◌∙◌, ap, subst, arith, suc, zero-add, take-add, take-append-drop}
use Rattle.std.proofs.lemmas.List.{append_assoc, append-nil, length-set, take_more_set}
use Rattle.std.proofs.lemmas.Grind.{common_steps}
use Rattle.std.proofs.lemmas.Slice.{take-put_mid, overwrites}
use borrow.Rule.Slice.PartMut.{put_mid}
use Rattle.std.specs.Io.KnownBytes.{Appends}
use Rattle.yaml_text.specs.declared.fault.Fault.{Fault}
use Rattle.yaml_text.specs.declared.counted.Counted.{Counted}
use Rattle.yaml_text.specs.Count.{one_more}
use Rattle.yaml_text.specs.CountedModel.{inner_of}
use Rattle.yaml_spell.specs.declared.page.Page.{Page}
use Rattle.yaml_spell.specs.Pieces.{Began, TakesPiece, Misses}
use Rattle.yaml_spell.specs.Pages.{page_bytes, page_len, PageHolds, PageStops}
use Rattle.yaml_spell.specs.Writers.{Sent, CutOff}
use Rattle.yaml_spell.proofs.Streams.{appends_more}
use Rattle.yaml_spell.proofs.PieceLaws.{adds_then, misses_more, misses_later}

-- what is still to be written goes out
take_past : (xs ys : List ℕ) (k : ℕ) → take (length xs + k) (xs ++ ys) ≡ xs ++ take k ys
take_past [] ys k = ap (λ n. take n ys) (zero-add k)
take_past (x ∷ xs) ys k =
    let e : suc (length xs) + k ≡ suc (length xs + k) = omega arith in
    ap (λ n. take n (x ∷ (xs ++ ys))) e ∙ ap (λ z. x ∷ z) (take_past xs ys k)

pub same_slice : (xs : List ℕ) (i n : ℕ) → take (i + n - i) (drop i xs) ≡ take n (drop i xs)
same_slice xs i n = let e : i + n - i ≡ n = omega arith in ap (λ m. take m (drop i xs)) e

take_within : (xs ys : List ℕ) (k : ℕ) → (n : ℕ) × (take n (xs ++ ys) ≡ take k xs)
take_within xs ys k = (min k (length xs), grind (arith, common_steps))

-- bytes between quotes, put behind a place
pub quotes_put : (xs ys content : List ℕ) (i : ℕ) → ys ≡ content → i + length content + 2 ≤ length xs
    → take (i + 1 + length content + 1) (set (put_mid (i + 1) (i + 1 + length content - (i + 1)) (set xs i 34) ys) (i + 1 + length content) 34) ≡ take i xs ++ (34 ∷ (content ++ (34 ∷ [])))
quotes_put xs ys content i e l =
    let n = length content in
    let first = set xs i 34 in
    let some : length ys ≡ n = ap length e in
    let long : length first ≡ length xs = length-set xs i 34 in
    let middle = put_mid (i + 1) (i + 1 + n - (i + 1)) first ys in
    let whole : i + 1 + n < length middle = grind (arith, common_steps, overwrites) in
    take_more_set middle (i + 1 + n) 34 whole
    ∙ ap (λ z. z ++ (34 ∷ [])) (take-put_mid (i + 1) (i + 1 + n - (i + 1)) first ys (i + 1 + n) (omega (arith, some)) (omega (arith, long, l)) ∙ (λ j. take_more_set xs i 34 (omega (arith, l)) j ++ e j))
    ∙ append_assoc (take i xs ++ (34 ∷ [])) content (34 ∷ []) ∙ append_assoc (take i xs) (34 ∷ []) (content ++ (34 ∷ []))

module _ {W : Type 0} (contents : W → Option (List ℕ)) where
  pub held_sent : (p q : Page) (o u : Counted W) (b : Began) (xs : List ℕ) → PageHolds contents p o b xs → Sent contents o u (page_bytes p) → page_len q ≡ 0 → PageHolds contents q u b xs
  held_sent p q o u b xs h s e = record {
    front = xs;
    sent = subst (Appends b.held (contents (inner_of u))) (sym h.is) (appends_more _ _ _ h.front (page_bytes p) h.sent s.took);
    is = sym (append-nil xs) ∙ ap (λ n. xs ++ take n q.bytes) (sym e);
    counted = s.counted ∙ h.counted;
  }

  -- the writer fails in what is still to be written
  pub held_cut : (p : Page) (o u : Counted W) (b : Began) (fault : Fault) (xs more : List ℕ) → PageHolds contents p o b xs → CutOff contents o u (page_bytes p) fault → PageStops contents u b fault (xs ++ more)
  held_cut p o u b fault xs more h s =
      let w = take_within (page_bytes p) more s.count in
      let e : take (length h.front + w.0) (xs ++ more) ≡ h.front ++ take s.count (page_bytes p) =
      ap (λ z. take (length h.front + w.0) z) (ap (λ z. z ++ more) h.is ∙ append_assoc h.front (page_bytes p) more) ∙ take_past h.front (page_bytes p ++ more) w.0 ∙ ap (λ z. h.front ++ z) w.1 in
      record {
        is = s.is;
        count = length h.front + w.0;
        sent = subst (Appends b.held (contents (inner_of u))) (sym e) (appends_more _ _ _ h.front (take s.count (page_bytes p)) h.sent s.took);
        counted = s.counted ∙ ap one_more h.counted;
      }

  -- the page grows
  pub held_more : (p q : Page) (o : Counted W) (b : Began) (xs piece : List ℕ) → PageHolds contents p o b xs → page_bytes q ≡ page_bytes p ++ piece → PageHolds contents q o b (xs ++ piece)
  held_more p q o b xs piece h e = record {
    front = h.front;
    sent = h.sent;
    is = ap (λ z. z ++ piece) h.is ∙ append_assoc h.front (page_bytes p) piece ∙ ap (λ z. h.front ++ z) (sym e);
    counted = h.counted;
  }

  abbrev Holds : Page → Counted W → Began → List ℕ → Type 0
  Holds = PageHolds contents

  abbrev Stops : Counted W → Began → Fault → List ℕ → Type 0
  Stops = PageStops contents

  pub adds_sent : (p q : Page) (o u : Counted W) → Sent contents o u (page_bytes p) → page_len q ≡ 0 → TakesPiece Holds p o q u []
  adds_sent p q o u s e = record { is = λ b xs h. subst (Holds q u b) (sym (append-nil xs)) (held_sent p q o u b xs h s e) }

  pub misses_sent : (p : Page) (o u : Counted W) (fault : Fault) → CutOff contents o u (page_bytes p) fault → Misses Holds Stops p o u fault []
  misses_sent p o u fault s = record { is = λ b xs more h. held_cut p o u b fault xs more h s }

  pub adds_filled : (p q : Page) (o : Counted W) (piece : List ℕ) → page_bytes q ≡ page_bytes p ++ piece → TakesPiece Holds p o q o piece
  adds_filled p q o piece e = record { is = λ b xs h. held_more p q o b xs piece h e }

  -- one more piece of a text
  pub adds_piece : (p q r t : Page) (o u w : Counted W) (xs part : List ℕ) (i n : ℕ) → TakesPiece Holds p o q u (take i xs) → TakesPiece Holds q u r w [] → part ≡ take n (drop i xs) → page_bytes t ≡ page_bytes r ++ part → TakesPiece Holds p o t w (take (i + n) xs)
  adds_piece p q r t o u w xs part i n h k e f =
      let a = adds_then Holds p o q u r w (take i xs) [] h k in
      let b = adds_then Holds p o r w t w (take i xs ++ []) part a (adds_filled r t w part f) in
      subst (TakesPiece Holds p o t w) (ap (λ z. z ++ part) (append-nil (take i xs)) ∙ ap (λ z. take i xs ++ z) e ∙ sym (take-add i n xs)) b

  pub misses_piece : (p q : Page) (o u w : Counted W) (fault : Fault) (xs : List ℕ) (i : ℕ) → TakesPiece Holds p o q u (take i xs) → Misses Holds Stops q u w fault [] → Misses Holds Stops p o w fault xs
  misses_piece p q o u w fault xs i h k =
      misses_more Holds Stops p o w fault (take i xs ++ []) (drop i xs) xs (misses_later Holds Stops p o q u w fault (take i xs) [] h k)
      (ap (λ z. z ++ drop i xs) (append-nil (take i xs)) ∙ take-append-drop i xs)
