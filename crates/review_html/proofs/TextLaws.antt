-- Texts, one behind the other, of which one more is written.
use Rattle.std.proofs.Common.{◌≡◌, ◌<◌, ◌≤◌, ℕ, ◌+◌, ◌-◌, ◌^◌, List, [], ◌∷◌, ◌++◌, map, drop, length, get_or, refl, sym, ◌∙◌, ap, subst}
use Rattle.std.specs.Prelude.{min, Some, Result, Ok, Err, OnOk, codes, string_bytes}
use Rattle.std.specs.Borrow.{Bor}
use Rattle.std.specs.List.{flat_map, enumerate_from}
use Rattle.std.proofs.Math.ListN.{drop_of_length-le}
use Rattle.std.proofs.lemmas.List.{append_assoc, append-nil, map_push}
use Rattle.review_formats.proofs.PieceLaws.{drop_next, two_put, three_put, four_put}
use Rattle.review_formats.specs.Escaped.{escaped}
use Rattle.review_formats.specs.declared.escape.Escape.TheVariants.{Html}
use Rattle.review_formats.specs.declared.finding.Finding.{Finding}
use Rattle.review_formats.specs.declared.finding.Findings.{Findings}
use Rattle.review_formats.specs.declared.finding.Part.{Part}
use Rattle.review_formats.specs.declared.finding.Shown.{Shown}
use Rattle.review_html.specs.Headings.{file_front}
use Rattle.review_html.specs.Html.{title_text, header_text, links_text, numbered, number_by, sections_text, IsPartText, page_text, IsHtml}
use Rattle.review_html.specs.Lines.{file_lines, ShowsLine, ShowsLines, ShowsFiles}
use Rattle.review_html.specs.Marks.{AreMarks}
use Rattle.review_html.specs.Sides.{left_of, right_of}
use Rattle.review_html.specs.Texts.{AreTexts}
use Rattle.review_html.specs.declared.side.Side.{Side}
use Rattle.review_html.specs.declared.style.TheConstants.{HEAD, STYLE}

-- ---- known texts

pub flat_step : {X Y : Type 0} (f : X → List Y) (left more : List X) (x : X) (o a whole : List Y) → left ≡ x ∷ more → o ++ flat_map f left ≡ whole → a ≡ o ++ f x → a ++ flat_map f more ≡ whole
flat_step f left more x o a whole e h k = ap (λ z. z ++ flat_map f more) k ∙ append_assoc o (f x) (flat_map f more) ∙ ap (λ z. o ++ flat_map f z) (sym e) ∙ h

pub flat_done : {X Y : Type 0} (f : X → List Y) (left : List X) (o whole : List Y) → left ≡ [] → o ++ flat_map f left ≡ whole → o ≡ whole
flat_done f left o whole e h = sym (append-nil o) ∙ ap (λ z. o ++ flat_map f z) (sym e) ∙ h

-- ---- texts of which something is known

module _ {X : Type 0} (IsText : X → List ℕ → Type 0) (whole : List X) (start : List ℕ) where
  -- what is left goes on to a text of the whole
  abbrev pub GoesOn : List X → List ℕ → Type 0
  GoesOn left out = (rest : List ℕ) → AreTexts IsText left rest → (text : List ℕ) × AreTexts IsText whole text × (out ++ rest ≡ start ++ text)

  pub on_step : (left more : List X) (x : X) (one out new : List ℕ) → left ≡ x ∷ more → GoesOn left out → IsText x one → new ≡ out ++ one → GoesOn more new
  on_step left more x one out new e h p k rest r =
      let w = h (one ++ rest) (subst (λ z. AreTexts IsText z (one ++ rest)) (sym e) (one, rest, p, r, refl)) in
      (w.0, w.1, ap (λ z. z ++ rest) k ∙ append_assoc out one rest ∙ w.2)

  pub on_done : (left : List X) (out : List ℕ) → left ≡ [] → GoesOn left out → (text : List ℕ) × AreTexts IsText whole text × (out ≡ start ++ text)
  on_done left out e h =
      let w = h [] (subst (λ z. AreTexts IsText z []) (sym e) refl) in
      (w.0, w.1, sym (append-nil out) ∙ w.2)

pub on_start : {X : Type 0} (IsText : X → List ℕ → Type 0) (whole : List X) (start : List ℕ) → GoesOn IsText whole start whole start
on_start IsText whole start rest r = (rest, r, refl)

-- ---- what is left

pub enum_next : {X : Type 0} (xs : List X) (n m i : ℕ) (d : X) → m ≡ n + 1 → i < length xs → enumerate_from n (drop i xs) ≡ (n, get_or xs i d) ∷ enumerate_from m (drop (i + 1) xs)
enum_next xs n m i d e l = ap (enumerate_from n) (drop_next xs i d l) ∙ ap (λ z. (n, get_or xs i d) ∷ enumerate_from z (drop (i + 1) xs)) (sym e)

pub enum_done : {X : Type 0} (xs : List X) (n i : ℕ) → length xs ≤ i → enumerate_from n (drop i xs) ≡ []
enum_done xs n i l = ap (enumerate_from n) (drop_of_length-le xs l)

pub parts_next : (parts : List Part) (n m before later i : ℕ) (d : Part) → m ≡ n + 1 → later ≡ min (before + length (get_or parts i d).list.items) (2 ^ 64 - 1) → i < length parts
    → numbered n before (drop i parts) ≡ (n, before, get_or parts i d) ∷ numbered m later (drop (i + 1) parts)
parts_next parts n m before later i d e h l =
    ap (numbered n before) (drop_next parts i d l)
    ∙ ap (λ z. (n, before, get_or parts i d) ∷ numbered z (min (before + length (get_or parts i d).list.items) (2 ^ 64 - 1)) (drop (i + 1) parts)) (sym e)
    ∙ ap (λ z. (n, before, get_or parts i d) ∷ numbered m z (drop (i + 1) parts)) (sym h)

pub parts_done : (parts : List Part) (n before i : ℕ) → length parts ≤ i → numbered n before (drop i parts) ≡ []
parts_done parts n before i l = ap (numbered n before) (drop_of_length-le parts l)

pub lines_next : (xs : List (Bor (List ℕ))) (n m i : ℕ) (d : Bor (List ℕ)) → m ≡ n + 1 → i < length xs
    → enumerate_from n (map {A = Bor (List ℕ)} {B = List ℕ} (λ one. one.now) (drop i xs)) ≡ (n, (get_or xs i d).now) ∷ enumerate_from m (map {A = Bor (List ℕ)} {B = List ℕ} (λ one. one.now) (drop (i + 1) xs))
lines_next xs n m i d e l =
    ap (λ z. enumerate_from n (map {A = Bor (List ℕ)} {B = List ℕ} (λ one. one.now) z)) (drop_next xs i d l)
    ∙ ap (λ z. (n, (get_or xs i d).now) ∷ enumerate_from z (map {A = Bor (List ℕ)} {B = List ℕ} (λ one. one.now) (drop (i + 1) xs))) (sym e)

pub lines_done : (xs : List (Bor (List ℕ))) (n i : ℕ) → length xs ≤ i → enumerate_from n (map {A = Bor (List ℕ)} {B = List ℕ} (λ one. one.now) (drop i xs)) ≡ []
lines_done xs n i l = ap (λ z. enumerate_from n (map {A = Bor (List ℕ)} {B = List ℕ} (λ one. one.now) z)) (drop_of_length-le xs l)

-- ---- lines that are split off

pub push_step : (items next start yielded : List (Bor (List ℕ))) (x : Bor (List ℕ)) → map {A = Bor (List ℕ)} {B = List ℕ} (λ one. one.now) items ≡ map {A = Bor (List ℕ)} {B = List ℕ} (λ one. one.now) start ++ map {A = Bor (List ℕ)} {B = List ℕ} (λ one. one.now) yielded
    → next ≡ items ++ x ∷ [] → map {A = Bor (List ℕ)} {B = List ℕ} (λ one. one.now) next ≡ map {A = Bor (List ℕ)} {B = List ℕ} (λ one. one.now) start ++ map {A = Bor (List ℕ)} {B = List ℕ} (λ one. one.now) (yielded ++ x ∷ [])
push_step items next start yielded x h e =
    let now = λ (one : Bor (List ℕ)). one.now in
    ap (map now) e ∙ map_push now items x ∙ ap (λ z. z ++ x.now ∷ []) h ∙ append_assoc (map now start) (map now yielded) (x.now ∷ []) ∙ ap (λ z. map now start ++ z) (sym (map_push now yielded x))

pub parts_step : {Y : Type 0} (f : List ℕ → List Y) (yielded : List (Bor (List ℕ))) (x : Bor (List ℕ)) (a b : List Y) → a ≡ flat_map f (map {A = Bor (List ℕ)} {B = List ℕ} (λ one. one.now) yielded) → b ≡ a ++ f x.now → b ≡ flat_map f (map {A = Bor (List ℕ)} {B = List ℕ} (λ one. one.now) (yielded ++ x ∷ []))
parts_step f yielded x a b h k = k ∙ ap (λ z. z ++ f x.now) h ∙ sym (flat_pushed yielded)
  where
    flat_pushed : (ys : List (Bor (List ℕ))) → flat_map f (map {A = Bor (List ℕ)} {B = List ℕ} (λ one. one.now) (ys ++ x ∷ [])) ≡ flat_map f (map {A = Bor (List ℕ)} {B = List ℕ} (λ one. one.now) ys) ++ f x.now
    flat_pushed [] = append-nil (f x.now)
    flat_pushed (y ∷ ys) = ap (λ z. f y.now ++ z) (flat_pushed ys) ∙ sym (append_assoc (f y.now) (flat_map f (map {A = Bor (List ℕ)} {B = List ℕ} (λ one. one.now) ys)) (f x.now))

-- ---- a whole of which a part is known by what it shows

pub on_ok : {X E A B : Type 0} (r : Result X E) → (A → B) → OnOk r A → OnOk r B
on_ok (Ok x) f a = f a
on_ok (Err e) f a = tt

pub lines_put : (side : Side) (list : List Finding) (before : ℕ) (shown : Shown) (lines : List (List ℕ)) (marks : List ℕ) (o a b e : List ℕ) → lines ≡ file_lines (string_bytes shown.text) → AreMarks side before list (length lines) marks
    → a ≡ o ++ (codes "<div><h2><code>" ++ (escaped Html (string_bytes shown.name) ++ codes "</code></h2>\n<ol class=\"lines\">\n"))
    → ((text : List ℕ) × AreTexts (ShowsLine side marks) (enumerate_from 0 lines) text × (b ≡ a ++ text)) → e ≡ b ++ codes "</ol></div>\n"
    → (text : List ℕ) × ShowsLines side list before shown text × (e ≡ o ++ text)
lines_put side list before shown lines marks o a b e hl hm ha w he =
    let name = escaped Html (string_bytes shown.name) in
    let begin = codes "<div><h2><code>" in
    let begun = codes "</code></h2>\n<ol class=\"lines\">\n" in
    let end = codes "</ol></div>\n" in (
      begin ++ (name ++ (begun ++ (w.0 ++ end))),
      (marks, subst (λ z. AreMarks side before list (length z) marks) hl hm, w.0, subst (λ z. AreTexts (ShowsLine side marks) (enumerate_from 0 z) w.0) hl w.1, refl),
      three_put o a b e (begin ++ (name ++ begun)) w.0 end ha w.2 he ∙ ap (λ z. o ++ (begin ++ z)) (append_assoc name begun (w.0 ++ end)),
    )

pub files_put : (number : ℕ) (list : List Finding) (before : ℕ) (left right : Shown) (o a b d e : List ℕ) → a ≡ o ++ codes "<section class=\"files\"><div class=\"both\">\n"
    → ((text : List ℕ) × ShowsLines (left_of number) list before left text × (b ≡ a ++ text)) → ((text : List ℕ) × ShowsLines (right_of number) list before right text × (d ≡ b ++ text)) → e ≡ d ++ codes "</div></section>\n"
    → (text : List ℕ) × ShowsFiles number list before (Some (left, right)) text × (e ≡ o ++ text)
files_put number list before left right o a b d e ha v w he =
    let begin = codes "<section class=\"files\"><div class=\"both\">\n" in
    let end = codes "</div></section>\n" in (
      begin ++ (v.0 ++ (w.0 ++ end)),
      (v.0, w.0, v.1, w.1, refl),
      four_put o a b d e begin v.0 w.0 end ha v.2 w.2 he,
    )

pub part_put : (number before n : ℕ) (part : Part) (list : List Finding) (o a b e : List ℕ) → n ≡ number_by number part.name → list ≡ part.list.items
    → a ≡ o ++ file_front number part.name → b ≡ a ++ sections_text n before list → ((text : List ℕ) × ShowsFiles n part.list.items before part.shown text × (e ≡ b ++ text))
    → (text : List ℕ) × IsPartText (number, before, part) text × (e ≡ o ++ text)
part_put number before n part list o a b e hn hl ha hb w =
    let m = number_by number part.name in
    let front = file_front number part.name in
    let sections = sections_text m before part.list.items in (
      front ++ (sections ++ w.0),
      (w.0, subst (λ z. ShowsFiles z part.list.items before part.shown w.0) hn w.1, refl),
      three_put o a b e front sections w.0 ha (hb ∙ ap (λ z. a ++ sections_text z before list) hn ∙ ap (λ z. a ++ sections_text m before z) hl) w.2,
    )

pub page_put : (found : Findings) (a b d e f g h i j k : List ℕ) → a ≡ [] → b ≡ a ++ HEAD.now → d ≡ b ++ title_text found → e ≡ d ++ STYLE.now → f ≡ e ++ codes "</style>\n</head>\n<body>\n" → g ≡ f ++ header_text found
    → h ≡ g ++ links_text found.parts.items → i ≡ h ++ codes "<main>\n" → ((text : List ℕ) × AreTexts IsPartText (numbered 1 0 found.parts.items) text × (j ≡ i ++ text)) → k ≡ j ++ codes "</main>\n</body>\n</html>\n" → IsHtml found k
page_put found a b d e f g h i j k p0 p1 p2 p3 p4 p5 p6 p7 w p9 =
    let end = codes "</main>\n</body>\n</html>\n" in
    let r8 = w.0 ++ end in
    let r7 = codes "<main>\n" ++ r8 in
    let r6 = links_text found.parts.items ++ r7 in
    let r5 = header_text found ++ r6 in
    let r4 = codes "</style>\n</head>\n<body>\n" ++ r5 in
    let r3 = STYLE.now ++ r4 in
    let r2 = title_text found ++ r3 in (
      w.0,
      w.1,
      two_put a b k HEAD.now r2 p1 (two_put b d k (title_text found) r3 p2 (two_put d e k STYLE.now r4 p3 (two_put e f k (codes "</style>\n</head>\n<body>\n") r5 p4 (two_put f g k (header_text found) r6 p5
          (two_put g h k (links_text found.parts.items) r7 p6 (two_put h i k (codes "<main>\n") r8 p7 (two_put i j k w.0 end w.2 p9)))))))
          ∙ ap (λ z. z ++ page_text found w.0) p0,
    )
