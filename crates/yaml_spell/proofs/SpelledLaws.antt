-- A content's spelling, which is given piece by piece to a sink.
use Rattle.std.proofs.Common.{◌≡◌, ℕ, List, [], ◌∷◌, ◌++◌, refl, sym, ◌∙◌, ap, subst}
use Rattle.std.proofs.lemmas.List.{append_assoc, append-nil}
use Rattle.std.specs.Str.{encode_utf8_all}
use Rattle.std.specs.Prelude.{flat_map}
use Rattle.std.proofs.lemmas.Str.{chars-nil}
use Rattle.yaml_definitions.specs.canonical.CharText.{spell_char}
use Rattle.yaml_text.specs.declared.fault.Fault.{Fault}
use Rattle.yaml_scalar.specs.Spelling.{quoted_bytes, spelled_chars}
use Rattle.yaml_scalar.proofs.SpellingLemmas.{spelled_is}
use Rattle.yaml_spell.specs.Pieces.{Began, TakesPiece, Misses}
use Rattle.yaml_spell.proofs.PieceLaws.{adds_then, misses_more, misses_later}

module _ {S O : Type 0} (holds : S → O → Began → List ℕ → Type 0) where
  -- A content's spelling is taken but for that of the rest and the closing quote.
  pub record Spelled (p : S) (o : O) (q : S) (u : O) (content rest : List ℕ) : Type 0 where
    pub taken : List ℕ
    pub adds : TakesPiece holds p o q u taken
    pub left : taken ++ (spelled_chars rest ++ (34 ∷ [])) ≡ quoted_bytes content

  pub spelled_first : (p q : S) (o u : O) (content : List ℕ) → TakesPiece holds p o q u (34 ∷ []) → Spelled p o q u content content
  spelled_first p q o u content h = record { taken = 34 ∷ []; adds = h; left = sym (spelled_is content) }

  -- ---- a content that is written as it is

  pub quoted_taken : (p q r s : S) (o u w x : O) (text : List ℕ) → TakesPiece holds p o q u (34 ∷ []) → TakesPiece holds q u r w text → TakesPiece holds r w s x (34 ∷ []) → TakesPiece holds p o s x (34 ∷ (text ++ (34 ∷ [])))
  quoted_taken p q r s o u w x text h k m = adds_then holds p o r w s x (34 ∷ text) (34 ∷ []) (adds_then holds p o q u r w (34 ∷ []) text h k) m

  pub quoted_unopened : (stops : O → Began → Fault → List ℕ → Type 0) (p : S) (o w : O) (fault : Fault) (text : List ℕ) → Misses holds stops p o w fault (34 ∷ []) → Misses holds stops p o w fault (34 ∷ (text ++ (34 ∷ [])))
  quoted_unopened stops p o w fault text h = misses_more holds stops p o w fault (34 ∷ []) (text ++ (34 ∷ [])) (34 ∷ (text ++ (34 ∷ []))) h refl

  pub quoted_broken : (stops : O → Began → Fault → List ℕ → Type 0) (p q : S) (o u w : O) (fault : Fault) (text : List ℕ) → TakesPiece holds p o q u (34 ∷ []) → Misses holds stops q u w fault text → Misses holds stops p o w fault (34 ∷ (text ++ (34 ∷ [])))
  quoted_broken stops p q o u w fault text h k = misses_more holds stops p o w fault (34 ∷ text) (34 ∷ []) (34 ∷ (text ++ (34 ∷ []))) (misses_later holds stops p o q u w fault (34 ∷ []) text h k) refl

  pub quoted_unclosed : (stops : O → Began → Fault → List ℕ → Type 0) (p q r : S) (o u w x : O) (fault : Fault) (text : List ℕ) → TakesPiece holds p o q u (34 ∷ []) → TakesPiece holds q u r w text → Misses holds stops r w x fault (34 ∷ []) → Misses holds stops p o x fault (34 ∷ (text ++ (34 ∷ [])))
  quoted_unclosed stops p q r o u w x fault text h k m = misses_later holds stops p o r w x fault (34 ∷ text) (34 ∷ []) (adds_then holds p o q u r w (34 ∷ []) text h k) m

  -- ---- piece by piece

  pieced : (taken content rest after piece : List ℕ) → taken ++ (spelled_chars rest ++ (34 ∷ [])) ≡ quoted_bytes content → spelled_chars rest ≡ piece ++ spelled_chars after → (taken ++ piece) ++ (spelled_chars after ++ (34 ∷ [])) ≡ quoted_bytes content
  pieced taken content rest after piece h f =
      append_assoc taken piece (spelled_chars after ++ (34 ∷ [])) ∙ ap (λ z. taken ++ z) (sym (append_assoc piece (spelled_chars after) (34 ∷ [])) ∙ ap (λ z. z ++ (34 ∷ [])) (sym f)) ∙ h

  pub spelled_next : (p q r : S) (o u w : O) (content rest after piece : List ℕ) → Spelled p o q u content rest → spelled_chars rest ≡ piece ++ spelled_chars after → TakesPiece holds q u r w piece → Spelled p o r w content after
  spelled_next p q r o u w content rest after piece s f h = record {
    taken = s.taken ++ piece;
    adds = adds_then holds p o q u r w s.taken piece s.adds h;
    left = pieced s.taken content rest after piece s.left f;
  }

  pub spelled_missed : (stops : O → Began → Fault → List ℕ → Type 0) (p q : S) (o u w : O) (fault : Fault) (content rest after piece : List ℕ) → Spelled p o q u content rest → spelled_chars rest ≡ piece ++ spelled_chars after → Misses holds stops q u w fault piece → Misses holds stops p o w fault (quoted_bytes content)
  spelled_missed stops p q o u w fault content rest after piece s f h =
      misses_more holds stops p o w fault (s.taken ++ piece) (spelled_chars after ++ (34 ∷ [])) (quoted_bytes content) (misses_later holds stops p o q u w fault s.taken piece s.adds h) (pieced s.taken content rest after piece s.left f)

  -- the first quote, or the last one, is not taken
  pub spelled_unopened : (stops : O → Began → Fault → List ℕ → Type 0) (p : S) (o w : O) (fault : Fault) (content : List ℕ) → Misses holds stops p o w fault (34 ∷ []) → Misses holds stops p o w fault (quoted_bytes content)
  spelled_unopened stops p o w fault content h = misses_more holds stops p o w fault (34 ∷ []) (spelled_chars content ++ (34 ∷ [])) (quoted_bytes content) h (sym (spelled_is content))

  all_spelled : (taken content rest : List ℕ) → taken ++ (spelled_chars rest ++ (34 ∷ [])) ≡ quoted_bytes content → rest ≡ [] → taken ++ (34 ∷ []) ≡ quoted_bytes content
  all_spelled taken content rest h e = ap (λ z. taken ++ (z ++ (34 ∷ []))) (sym (ap spelled_chars e ∙ ap (λ z. encode_utf8_all (flat_map spell_char z)) chars-nil)) ∙ h

  pub spelled_last : (p q r : S) (o u w : O) (content rest : List ℕ) → Spelled p o q u content rest → rest ≡ [] → TakesPiece holds q u r w (34 ∷ []) → TakesPiece holds p o r w (quoted_bytes content)
  spelled_last p q r o u w content rest s e h = subst (TakesPiece holds p o r w) (all_spelled s.taken content rest s.left e) (adds_then holds p o q u r w s.taken (34 ∷ []) s.adds h)

  pub spelled_unclosed : (stops : O → Began → Fault → List ℕ → Type 0) (p q : S) (o u w : O) (fault : Fault) (content rest : List ℕ) → Spelled p o q u content rest → rest ≡ [] → Misses holds stops q u w fault (34 ∷ []) → Misses holds stops p o w fault (quoted_bytes content)
  spelled_unclosed stops p q o u w fault content rest s e h =
      misses_more holds stops p o w fault (s.taken ++ (34 ∷ [])) [] (quoted_bytes content) (misses_later holds stops p o q u w fault s.taken (34 ∷ []) s.adds h) (append-nil (s.taken ++ (34 ∷ [])) ∙ all_spelled s.taken content rest s.left e)
