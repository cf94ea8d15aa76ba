-- Short nodes, which a sink that counts takes unseen.
use Rattle.std.proofs.Common.{◌≡◌, ℕ, suc, ◌+◌, ◌<◌, ◌≤◌, Bool, true, false, cond, nat_lt, List, [], ◌∷◌, ◌++◌, length, refl, sym, ◌∙◌, ap, arith}
use Rattle.std.proofs.lemmas.Bool.Decides.{nat_tests}
use Rattle.std.proofs.lemmas.List.{append_assoc, length-append}
use Rattle.std.proofs.lemmas.Str.{encodes-append}
use Rattle.std.specs.Str.{encode_utf8_all, chars}
use Rattle.yaml_text.specs.declared.fault.Fault.{Fault}
use Rattle.yaml_definitions.specs.model.Tree.{Tree, scalar, sequence, mapping, end, item, done, entry}
use Rattle.yaml_definitions.specs.model.Event.{double}
use Rattle.yaml_definitions.specs.model.Serial.{scalar_at, sequence_at, mapping_at, end_serial, done_serial}
use Rattle.yaml_definitions.specs.canonical.NodeText.{node_text, quoted}
use Rattle.yaml_definitions.specs.canonical.Spell.{short, text_len}
use Rattle.yaml_definitions.specs.canonical.TagText.{tag_text, written_tag}
use Rattle.yaml_scalar.specs.Spelling.{quoted_bytes, spelled_chars}
use Rattle.yaml_scalar.proofs.SpellingLemmas.{spelled_is, quoted_more}
use Rattle.yaml_spell.specs.NamesView.{Given}
use Rattle.yaml_spell.specs.Pieces.{Began, Counts, Puts, Exceeds, Fails}
use Rattle.yaml_spell.specs.ShortNodes.{bare, short_len}
use Rattle.yaml_spell.specs.Walked.{after, anchor_in, begun, opening_of, begun_unless_short, given, written}
use Rattle.yaml_spell.proofs.PieceLaws.{puts_as, puts_piece, fails_as, fails_piece}
use Rattle.yaml_spell.proofs.WalkLaws.{two_square, two_curly}

-- ---- a short node has some bytes

some_bytes : (tag more : List ℕ) → 0 < length (encode_utf8_all more) → 0 < length (encode_utf8_all (tag ++ more))
some_bytes tag more l =
    let e : length (encode_utf8_all (tag ++ more)) ≡ length (encode_utf8_all tag) + length (encode_utf8_all more) = ap length (encodes-append tag more) ∙ length-append (encode_utf8_all tag) (encode_utf8_all more) in
    omega (arith, e, l)

bare_some : (t : Tree) → 0 < text_len (bare t)
unfolding text_len node_text
bare_some (scalar g x) = some_bytes (tag_text (written_tag 0 g)) (34 ∷ quoted (chars x) []) (let k : length (quoted_bytes x) ≡ suc (length (spelled_chars x ++ (34 ∷ []))) = ap length (spelled_is x) in omega (arith, k))
bare_some (sequence g ts) = some_bytes (tag_text (written_tag 1 g)) (91 ∷ 93 ∷ []) (let k = two_square in omega (arith, k))
bare_some (mapping g ps) = some_bytes (tag_text (written_tag 2 g)) (123 ∷ 125 ∷ []) (let k = two_curly in omega (arith, k))

positive : (n : ℕ) → 0 < n → nat_lt 0 n ≡ true
positive n l = grind (arith, nat_tests)

-- so its length tells whether it is short
pub short_told : (t : Tree) (n : ℕ) → n ≡ short_len t → nat_lt 0 n ≡ short t
short_told t n e = ap (nat_lt 0) e ∙ by (short t)
  where
    by : (b : Bool) → nat_lt 0 (cond b (text_len (bare t)) 0) ≡ b
    by true = positive (text_len (bare t)) (bare_some t)
    by false = refl

pub short_from : (t : Tree) (n : ℕ) → n ≡ short_len t → 0 < n → short t ≡ true
short_from t n e l = sym (short_told t n e) ∙ positive n l

pub long_from : (t : Tree) (n : ℕ) → n ≡ short_len t → n ≤ 0 → short t ≡ false
long_from t n e l = sym (short_told t n e) ∙ none n l
  where
    none : (m : ℕ) → m ≤ 0 → nat_lt 0 m ≡ false
    none m h = grind (arith, nat_tests)

-- ---- what is written of it

bare_more : (t : Tree) (more : List ℕ) → node_text (bare t) [] ++ more ≡ node_text (bare t) more
unfolding node_text
bare_more (scalar g x) more = append_assoc (tag_text (written_tag 0 g)) (34 ∷ quoted (chars x) []) more ∙ ap (λ z. tag_text (written_tag 0 g) ++ (34 ∷ z)) (sym (quoted_more (chars x) more))
bare_more (sequence g ts) more = append_assoc (tag_text (written_tag 1 g)) (91 ∷ 93 ∷ []) more
bare_more (mapping g ps) more = append_assoc (tag_text (written_tag 2 g)) (123 ∷ 125 ∷ []) more

module _ (rank : Tree → ℕ) where
  short_written : (t : Tree) (p : Given) → short t ≡ true → written rank t p ≡ bare t
  unfolding written short
  short_written (scalar g x) p e = ap (λ b. begun (opening_of b (rank (scalar g x)) p) (scalar_at (anchor_in (opening_of b (rank (scalar g x)) p)) (written_tag 0 g) double x)) e
  short_written (sequence g end) p e = ap (λ b. begun (opening_of b (rank (sequence g end)) p) (sequence_at (anchor_in (opening_of b (rank (sequence g end)) p)) (written_tag 1 g) true end_serial)) e
  short_written (sequence g (item t ts)) p e = absurd (let z : false ≡ true = e in cc)
  short_written (mapping g done) p e = ap (λ b. begun (opening_of b (rank (mapping g done)) p) (mapping_at (anchor_in (opening_of b (rank (mapping g done)) p)) (written_tag 2 g) true done_serial)) e
  short_written (mapping g (entry k v ps)) p e = absurd (let z : false ≡ true = e in cc)

  -- and no name is given
  pub short_given : (t : Tree) (p : Given) → short t ≡ true → p ≡ given rank t p
  unfolding given short
  short_given (scalar g x) p e = sym (ap (λ b. begun_unless_short b (rank (scalar g x)) p) e)
  short_given (sequence g end) p e = sym (ap (λ b. after (opening_of b (rank (sequence g end)) p) (begun_unless_short b (rank (sequence g end)) p) (begun_unless_short b (rank (sequence g end)) p)) e)
  short_given (sequence g (item t ts)) p e = absurd (let z : false ≡ true = e in cc)
  short_given (mapping g done) p e = sym (ap (λ b. after (opening_of b (rank (mapping g done)) p) (begun_unless_short b (rank (mapping g done)) p) (begun_unless_short b (rank (mapping g done)) p)) e)
  short_given (mapping g (entry k v ps)) p e = absurd (let z : false ≡ true = e in cc)

  module _ {S O : Type 0} (holds : S → O → Began → List ℕ → Type 0) (stops : O → Began → Fault → List ℕ → Type 0) (t : Tree) (p : Given) (n : ℕ) (e : short t ≡ true) (f : n ≡ short_len t) where
    abbrev text : List ℕ
    text = node_text (bare t) []

    long : length (encode_utf8_all text) ≡ n
    unfolding text_len
    long = sym (f ∙ ap (λ b. cond b (text_len (bare t)) 0) e)

    whole : (more : List ℕ) → text ++ more ≡ node_text (written rank t p) more
    whole more = bare_more t more ∙ ap (λ m. node_text m more) (sym (short_written t p e))

    pub counted_written : (s : S) (o : O) (u : S) (w : O) → Counts holds s o u w n → Puts holds s o u w (node_text (written rank t p))
    counted_written s o u w h = puts_as holds s o u w (λ more. text ++ more) (node_text (written rank t p)) (puts_piece holds s o u w (encode_utf8_all text) text (h.is (encode_utf8_all text) long) refl) whole

    pub counted_unwritten : (s : S) (o w : O) (fault : Fault) → Exceeds holds stops s o w fault n → Fails holds stops s o w fault (node_text (written rank t p))
    counted_unwritten s o w fault h = fails_as holds stops s o w fault (λ more. text ++ more) (node_text (written rank t p)) (fails_piece holds stops s o w fault (encode_utf8_all text) text (h.is (encode_utf8_all text) long) refl) whole
