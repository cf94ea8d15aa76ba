-- Names: from a place one at most.
use Rattle.std.proofs.Common.{◌≡◌, ◌≢◌, ℕ, ◌+◌, ◌<◌, ◌⊎◌, inl, inr, List, Some, sym, ◌∙◌, ap, subst, arith}
use Rattle.std.specs.Prelude.{slice_get, slice_range}
use Rattle.yaml_text.specs.LeafAnswer.{Only}
use Rattle.yaml_definitions.specs.grammar.Rules.{run, Stands}
use Rattle.yaml_definitions.specs.grammar.Tags.{ns-anchor-name as name, c-ns-anchor-property as anchor, c-ns-alias-node as alias, is_name}
use Rattle.yaml_text.specs.Calls.{read_name}
use Rattle.yaml_text.specs.LeafAnswer.{Unread}
use Rattle.yaml_mark.specs.Parts.{sign}
use Rattle.yaml_text.proofs.TagRuns.{name_same}

module _ (cs : List ℕ) where
  pub sign_char : (i j c : ℕ) → (c ≡ 38) ⊎ (c ≡ 42) → slice_get cs i ≡ Some c → j ≡ i + 1 → sign cs i j
  unfolding sign
  sign_char i j c (inl s) h e = inl (h ∙ ap Some s, e)
  sign_char i j c (inr s) h e = inr (h ∙ ap Some s, e)

  pub no_sign : (i : ℕ) → slice_get cs i ≢ Some 38 → slice_get cs i ≢ Some 42 → (j : ℕ) → sign cs i j → ⊥
  unfolding sign
  no_sign i a b j (inl (h, e)) = a h
  no_sign i a b j (inr (h, e)) = b h

  -- what both rules say
  parts : (i j : ℕ) (x : List ℕ) → read_name cs i j x → (k : ℕ) × sign cs i k × name cs k j x
  unfolding read_name anchor alias sign
  parts i j x (inl (k, h, r)) = (k, inl h, r)
  parts i j x (inr (k, h, r)) = (k, inr h, r)

  whole : (i k j : ℕ) (x : List ℕ) → sign cs i k → name cs k j x → read_name cs i j x
  unfolding read_name anchor alias sign
  whole i k j x (inl h) r = inl (k, h, r)
  whole i k j x (inr h) r = inr (k, h, r)

  sign_next : (i k : ℕ) → sign cs i k → k ≡ i + 1
  unfolding sign
  sign_next i k (inl (h, e)) = e
  sign_next i k (inr (h, e)) = e

  name_some : (k j : ℕ) (x : List ℕ) → name cs k j x → (k < j) × Stands cs is_name k
  unfolding name
  name_some k j x ((r, l, n), e) = (l, r.1 k (omega arith) l)

  name_is : (k j : ℕ) (x : List ℕ) → run cs is_name k j → k < j → (Stands cs is_name j → ⊥) → x ≡ slice_range cs k j → name cs k j x
  unfolding name
  name_is k j x r l n e = ((r, l, n), e)

  pub name_only : (i k j : ℕ) (x : List ℕ) → sign cs i k → run cs is_name k j → k < j → (Stands cs is_name j → ⊥) → x ≡ slice_range cs k j → Only (read_name cs) i j x
  name_only i k j x s r l n e = record {
    is = whole i k j x s (name_is k j x r l n e);
    only = λ m y q. let (o, t, u) = parts i m y q in
        name_same cs k m j y x (subst (λ z. name cs z m y) (sign_next i o t ∙ sym (sign_next i k s)) u) (name_is k j x r l n e);
  }

  pub no_name_here : (i : ℕ) → ((j : ℕ) → sign cs i j → ⊥) → Unread (read_name cs) i
  no_name_here i none j x q = let (o, t, u) = parts i j x q in none o t

  pub no_name_after : (i k : ℕ) → sign cs i k → (Stands cs is_name k → ⊥) → Unread (read_name cs) i
  no_name_after i k s n j x q = let (o, t, u) = parts i j x q in
      n (subst (Stands cs is_name) (sign_next i o t ∙ sym (sign_next i k s)) (name_some o j x u).1)
