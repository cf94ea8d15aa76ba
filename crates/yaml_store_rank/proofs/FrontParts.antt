-- The first fifteen bytes of a text, from its first eight and the next eight.
use Rattle.std.proofs.Common.{◌≡◌, ℕ, ◌+◌, ◌*◌, ◌/◌, ◌<◌, ◌≤◌, min, List, drop, length, slice_index, sym, ◌∙◌, subst, arith}
use Rattle.std.proofs.lemmas.List.{get_or-drop, at_drop_all}
use Rattle.yaml_tree.specs.PrefixModel.{front, IsPrefix}
use Rattle.yaml_store_rank.specs.NumberKeys.{joined}

-- the next eight bytes, with zeros for those that it lacks
pub next-none : (text : List ℕ) → length text ≤ 8 → front 8 (drop 8 text) ≡ 0
next-none text l = at_drop_all (front 8) text 8 l

at-next : (text : List ℕ) (k : ℕ) → slice_index (drop 8 text) k ≡ slice_index text (8 + k)
at-next text k = get_or-drop 8 text k 0

fifteen : (text : List ℕ) → front 15 text ≡ front 8 text * 72057594037927936 + front 7 (drop 8 text)
fifteen text = omega (arith, at-next text 0, at-next text 1, at-next text 2, at-next text 3, at-next text 4, at-next text 5, at-next text 6)

-- a number without its last byte
without-last : (n f b : ℕ) → n ≡ f * 256 + b → b < 256 → n / 256 * 256 ≡ f * 256
without-last n f b e l = omega arith

halves : (whole high next m : ℕ) → whole ≡ high * 72057594037927936 + next → joined high (next * 256 + m) ≡ whole * 256 + m
halves whole high next m e = omega arith

pub prefix-of : (text : List ℕ) (high next : ℕ) → ((k : ℕ) → slice_index text k < 256) → high ≡ front 8 text → next ≡ front 8 (drop 8 text) → IsPrefix text (joined high (next / 256 * 256 + min (length text) 16))
prefix-of text high next small e f =
    let low : next / 256 * 256 ≡ front 7 (drop 8 text) * 256 = without-last next (front 7 (drop 8 text)) (slice_index (drop 8 text) 7) f (subst (λ b. b < 256) (sym (at-next text 7)) (small 15)) in
    record {
      is = (λ z. joined (e z) (low z + min (length text) 16)) ∙ halves (front 15 text) (front 8 text) (front 7 (drop 8 text)) (min (length text) 16) (fifteen text);
      bytes = small;
    }
