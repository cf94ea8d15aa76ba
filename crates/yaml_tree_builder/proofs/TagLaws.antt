-- Tags by number, and the tags and contents of nodes that carry no tag.
use Rattle.std.proofs.Common.{◌≡◌, ℕ, List, true, ◌||◌, refl, sym, ◌∙◌, ap, subst}
use Rattle.std.specs.Prelude.{Option, Some, None, Ok, bytes_eq, is_some}
use Rattle.std.proofs.lemmas.Bool.{cond_both}
use Rattle.std.specs.List.{slice_get}
use Rattle.yaml_definitions.specs.model.Tag.{null_tag, bool_tag, int_tag, float_tag, str_tag, seq_tag, map_tag, default_tag}
use Rattle.yaml_definitions.specs.model.Event.{untagged, plain}
use Rattle.yaml_definitions.specs.model.Core.{Value, Resolved, null_of, float_of, by_pattern, by_table, by_tag, resolve, collection_tag}
use Rattle.yaml_text.specs.EventModel.{written_of}
use Rattle.yaml_text.specs.declared.event.EventTag.{EventTag}
use Rattle.yaml_text.specs.declared.event.EventTag.TheVariants as tags
use Rattle.yaml_tree.proofs.Lists.{get-more}
use Rattle.yaml_core.specs.Form.{form_kind, form_of}
use Rattle.yaml_core.specs.Kind.{kind_tag, of_kind, use_of}
use Rattle.yaml_core.specs.Values.{HasValues}
use Rattle.yaml_core.specs.declared.kind.PlainKind.{PlainKind}
use Rattle.yaml_core.specs.declared.kind.PlainKind.TheVariants as plains
use Rattle.yaml_core.specs.declared.tag.TagUse.{TagUse}
use Rattle.yaml_core.specs.declared.tag.TagUse.TheVariants as uses
use Rattle.yaml_core.specs.declared.form.Form.{Form}
use Rattle.yaml_core.specs.declared.form.Form.TheVariants as forms
use Rattle.yaml_core.proofs.FormLemmas.{values}
use Rattle.yaml_store.specs.StoreGrows.{Keeps, tags_of}
use Rattle.yaml_store.specs.declared.store.Store.{Store}
use Rattle.yaml_store.specs.declared.nodes.Collection.{Collection}
use Rattle.yaml_store.specs.declared.nodes.Collection.TheVariants as kinds
use Rattle.yaml_tree_builder.specs.TagModel.{AreCore, scalar_number, tag_number, collection_number}
use Rattle.yaml_tree_builder.specs.declared.core_tags.CoreTags.{CoreTags}

-- ---- tags that are there stay

pub tag-kept : (old new : Store) → Keeps old new → (i : ℕ) (g : List ℕ) → slice_get (tags_of old) i ≡ Some g → slice_get (tags_of new) i ≡ Some g
tag-kept old new k i g e = subst (λ z. slice_get z i ≡ Some g) (sym k.tags) (get-more (tags_of old) k.more_tags i g e)

pub core-kept : (old new : Store) (c : CoreTags) → Keeps old new → AreCore (tags_of old) c → AreCore (tags_of new) c
core-kept old new c k h = record {
  scalars = λ p. tag-kept old new k (scalar_number c p) (kind_tag p) (h.scalars p);
  collections = λ p. tag-kept old new k (tag_number c p) _ (h.collections p);
}

module _ (tags : List (List ℕ)) (c : CoreTags) (nulls : slice_get tags c.nulls ≡ Some null_tag) (bools : slice_get tags c.bools ≡ Some bool_tag) (ints : slice_get tags c.ints ≡ Some int_tag) (floats : slice_get tags c.floats ≡ Some float_tag) (strings : slice_get tags c.strings ≡ Some str_tag)
    (sequences : slice_get tags c.sequences ≡ Some seq_tag) (mappings : slice_get tags c.mappings ≡ Some map_tag) where
  of-scalars : (k : PlainKind) → slice_get tags (scalar_number c k) ≡ Some (kind_tag k)
  of-scalars plains.Null = nulls
  of-scalars plains.Bool = bools
  of-scalars plains.Int = ints
  of-scalars plains.Float = floats
  of-scalars plains.Str = strings

  of-collections : (k : Collection) → slice_get tags (tag_number c k) ≡ Some (default_tag (collection_number k))
  of-collections kinds.Sequence = sequences
  of-collections kinds.Mapping = mappings

  pub are-core : AreCore tags c
  are-core = record { scalars = of-scalars; collections = of-collections }

-- what is not written out is the tag of the kind
pub default-is : (k : ℕ) (t : EventTag) → ((x : _) → t ≡ tags.Full x → ⊥) → collection_tag k (written_of t) ≡ Ok (default_tag k)
unfolding collection_tag
default-is k tags.None f = refl
default-is k tags.NonSpecific f = refl
default-is k (tags.Full x) f = absurd (f x refl)

-- under a tag that is none of the core schema each text stands for itself
pub kept-is : (g x : List ℕ) → use_of g ≡ uses.Kept → by_tag g x ≡ Ok (g, x)
unfolding by_tag
kept-is g x =
    let P : TagUse → Type 0 = λ u. u ≡ uses.Kept → by_tag g x ≡ Ok (g, x) in
    cond_both (bytes_eq g null_tag) _ _ P (λ b e. absurd (cc)) (λ n0.
    cond_both (bytes_eq g bool_tag) _ _ P (λ b e. absurd (cc)) (λ n1.
    cond_both (bytes_eq g int_tag) _ _ P (λ b e. absurd (cc)) (λ n2.
    cond_both (bytes_eq g float_tag) _ _ P (λ b e. absurd (cc)) (λ n3.
    cond_both (bytes_eq g seq_tag || bytes_eq g map_tag) _ _ P (λ b e. absurd (cc)) (λ n4 e. rw (n0, n1, n2, n3, n4) refl)))))

-- ---- untagged plain scalars

found : (g : List ℕ) (o : Option Value) (r s : Resolved) → is_some o ≡ true → by_pattern g o r ≡ by_pattern g o s
found g (Some v) r s h = refl
found g None r s h = absurd (cc)

table-by : (f : Form) (x : List ℕ) → HasValues f x → by_table x ≡ of_kind (form_kind f) x
unfolding by_table of_kind null_of
table-by forms.Null x v = rw v.null refl
table-by forms.True x v = rw (v.null, v.bool) refl
table-by forms.False x v = rw (v.null, v.bool) refl
table-by forms.Decimal x v = rw (v.0.null, v.0.bool, v.0.int) refl
table-by forms.Octal x v = rw (v.0.null, v.0.bool, v.0.int) refl
table-by forms.Hexadecimal x v = rw (v.0.null, v.0.bool, v.0.int) refl
table-by forms.Float x v = rw (v.0.null, v.0.bool, v.0.int) (found float_tag (float_of x) _ _ (ap is_some v.0.float ∙ v.1))
table-by forms.Infinity x v = rw (v.null, v.bool, v.int, v.float) refl
table-by forms.NotANumber x v = rw (v.null, v.bool, v.int, v.float) refl
table-by forms.Other x v = rw (v.null, v.bool, v.int, v.float) refl

-- an untagged plain scalar resolves by the patterns of its kind
pub plain-is : (x : List ℕ) (f : Form) (k : PlainKind) → f ≡ form_of x → k ≡ form_kind f → resolve untagged plain x ≡ of_kind k x
unfolding resolve
plain-is x f k e d = table-by (form_of x) x (values x) ∙ ap (λ j. of_kind j x) (sym (d ∙ ap form_kind e))
