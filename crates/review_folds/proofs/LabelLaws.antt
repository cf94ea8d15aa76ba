-- Labels.
use Rattle.std.proofs.Common.{◌≡◌, ℕ, zero, suc, List, [], ◌∷◌, ◌++◌, refl, sym, ◌∙◌, ap, subst, append-nil}
use Rattle.std.specs.Prelude.{Option, Some, None, codes}
use Rattle.std.specs.Fmt.{decimal}
use Rattle.yaml_definitions.specs.model.Tree.{Tree}
use Rattle.yaml_diff.specs.declared.difference.Step.{Step}
use Rattle.review_text.specs.Shown.{shown}
use Rattle.review_text.specs.NodeText.{text_of}
use Rattle.review_folds.specs.Labels.{Name, words_of, others_text, called, name_of, item_label}

pub words_none : (list : List Step) (text : List ℕ) → list ≡ [] → text ≡ codes " documents" → text ≡ words_of list
words_none [] text e h = h
words_none (s ∷ list) text e h = absurd (cc)

pub words_some : (list : List Step) (text : List ℕ) → (list ≡ [] → ⊥) → text ≡ codes " items" → text ≡ words_of list
words_some [] text n h = absurd (n refl)
words_some (s ∷ list) text n h = h

pub others_none : (n : ℕ) (o : List ℕ) → n ≡ 0 → o ≡ o ++ others_text n
others_none n o e = subst (λ z. o ≡ o ++ others_text z) (sym e) (sym (append-nil o))

pub others_some : (n : ℕ) (o b : List ℕ) → (n ≡ 0 → ⊥) → b ≡ o ++ (codes " and " ++ (decimal n ++ codes " more")) → b ≡ o ++ others_text n
others_some zero o b h e = absurd (h refl)
others_some (suc n) o b h e = e

-- ---- what an item is called

pub named_put : (room : ℕ) (t v : Tree) (o a text words : List ℕ) (n : Option Name) → Some (words, v) ≡ n → text ≡ shown room (text_of v) → a ≡ o ++ (words ++ (codes " " ++ (text ++ []))) → a ≡ o ++ called room t n
named_put room t v o a text words n s e h = h ∙ ap (λ z. o ++ (words ++ (codes " " ++ z))) (append-nil text ∙ e) ∙ ap (λ z. o ++ called room t z) s

pub own_put : (room : ℕ) (t : Tree) (o a text : List ℕ) (n : Option Name) → None ≡ n → text ≡ shown room (text_of t) → a ≡ o ++ text → a ≡ o ++ called room t n
own_put room t o a text n s e h = h ∙ ap (λ z. o ++ z) e ∙ ap (λ z. o ++ called room t z) s

pub labelled : (room others : ℕ) (t : Tree) (o a b : List ℕ) → o ≡ [] → a ≡ o ++ called room t (name_of (Some t)) → b ≡ a ++ others_text others → Some b ≡ item_label room others (Some t)
labelled room others t o a b e h k = ap Some (k ∙ ap (λ z. z ++ others_text others) (h ∙ ap (λ z. z ++ called room t (name_of (Some t))) e))
