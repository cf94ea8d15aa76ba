-- What stands behind the prefix of a tag, and what is said of a node whose tag is not for it.
use Rattle.std.proofs.Common.{◌≡◌, ◌==◌, ℕ, true, false, cond, List, length, drop, ◌++◌, sym, ◌∙◌, ap}
use Rattle.std.specs.Prelude.{None, eqb, nat_lt, codes, bytes_eq}
use Rattle.std.specs.List.{starts_with}
use Rattle.std.specs.Str.Pattern.{FindsTextPrefix, StripsPrefix}
use Rattle.std.proofs.lemmas.Str.Pattern.{starts_text}
use Rattle.yaml_definitions.specs.model.Tag.{seq_tag, map_tag}
use Rattle.review_text.specs.Shown.{front}
use Rattle.review_text.specs.Terminal.{terminal}
use Rattle.review_text.specs.TagWords.{content_shown, kind_words, content_words, scalar_words}
use Rattle.review_text.proofs.Pieces.{then_more}

pub name_behind : (front tag name : List ℕ) → StripsPrefix (FindsTextPrefix front) tag name → name ≡ cond (starts_with eqb tag front) (drop (length front) tag) tag
name_behind front tag name h = h.2 ∙ ap (λ n. drop n tag) h.1.0 ∙ ap (λ b. cond b (drop (length front) tag) tag) (starts_text true front tag (h.0, h.1, rw h.1.0 h.1.2))

pub name_whole : (front tag : List ℕ) → FindsTextPrefix front tag None → tag ≡ cond (starts_with eqb tag front) (drop (length front) tag) tag
name_whole front tag h = ap (λ b. cond b (drop (length front) tag) tag) (starts_text false front tag h)

-- ---- a text between backticks

pub content_put : (text shown mark o x1 x2 x3 : List ℕ) → (length text == 0) ≡ false → shown ≡ front 60 text → mark ≡ cond (nat_lt (length shown) (length text)) (codes "...`") (codes "`") → x1 ≡ o ++ codes "`" → x2 ≡ x1 ++ terminal shown → x3 ≡ x2 ++ mark → x3 ≡ o ++ content_shown text
content_put text shown mark o x1 x2 x3 n s m h1 h2 h3 =
    let tick = codes "`" in
    then_more o x1 x3 tick (terminal shown ++ mark) h1 (then_more x1 x2 x3 (terminal shown) mark h2 h3)
    ∙ ap (λ z. o ++ (tick ++ (terminal shown ++ z))) m
    ∙ ap (λ z. o ++ (tick ++ (terminal z ++ cond (nat_lt (length z) (length text)) (codes "...`") tick))) s
    ∙ ap (λ b. o ++ cond b (codes "an empty text") (tick ++ (terminal (front 60 text) ++ cond (nat_lt (length (front 60 text)) (length text)) (codes "...`") tick))) (sym n)

-- ---- a scalar, by what its tag is for

pub of_sequences : (tag text o x : List ℕ) → true ≡ bytes_eq tag seq_tag → x ≡ o ++ kind_words tag (codes "scalar") → x ≡ o ++ scalar_words tag text
of_sequences tag text o x e h =
    let k = kind_words tag (codes "scalar") in
    h ∙ ap (λ b. o ++ cond b k (cond (bytes_eq tag map_tag) k (content_words tag text))) e

pub of_mappings : (tag text o x : List ℕ) → false ≡ bytes_eq tag seq_tag → true ≡ bytes_eq tag map_tag → x ≡ o ++ kind_words tag (codes "scalar") → x ≡ o ++ scalar_words tag text
of_mappings tag text o x d e h =
    let k = kind_words tag (codes "scalar") in
    h ∙ ap (λ b. o ++ cond b k (content_words tag text)) e ∙ ap (λ b. o ++ cond b k (cond (bytes_eq tag map_tag) k (content_words tag text))) d

pub of_scalars : (tag text o x : List ℕ) → false ≡ bytes_eq tag seq_tag → false ≡ bytes_eq tag map_tag → x ≡ o ++ content_words tag text → x ≡ o ++ scalar_words tag text
of_scalars tag text o x d e h =
    let k = kind_words tag (codes "scalar") in
    h ∙ ap (λ b. o ++ cond b k (content_words tag text)) e ∙ ap (λ b. o ++ cond b k (cond (bytes_eq tag map_tag) k (content_words tag text))) d
