-- What is shown of two nodes that differ.
use Rattle.std.proofs.Common.{◌≡◌, ◌==◌, inl, inr, ℕ, Bool, true, false, List, [], ◌++◌, cond, take, drop, length, refl, sym, subst, ◌∙◌, ap}
use Rattle.std.specs.Prelude.{Option, Some, None, String, nat_le, codes, string_bytes}
use Rattle.std.specs.declared.alloc.Global.{Global}
use Rattle.std.specs.List.{slice_get}
use Rattle.std.specs.Cow.{cow_str_bytes}
use Rattle.yaml_definitions.specs.model.Tree.{scalar}
use Rattle.yaml_scalar.specs.Spelling.{quoted_bytes}
use Rattle.yaml_tree.specs.declared.node.NodeId.{NodeId}
use Rattle.yaml_store_rank.specs.Forests.{Forests}
use Rattle.yaml_diff.specs.declared.difference.Difference.{Difference}
use Rattle.review_text.specs.Shown.{front}
use Rattle.review_lines.specs.Lines.{Text}
use Rattle.review_lines.specs.Compared.{TellsMembers, room_of, is_numbered, path_as, IsScalar, SameTexts, SameFronts, ShowsNode, ShowsBoth, ShowsApart, TellsApart, IsAscii, are_alike, ShowsParts, ShowsScript, ShowsChanges, TellsOne, part_text}
use Rattle.review_lines.specs.declared.lines.Line.{Line}
use Rattle.yaml_unified.specs.Script.{IsScript}
use Rattle.yaml_unified.specs.Printed.{script_text}
use Rattle.yaml_unified.specs.declared.script.Edit.{Edit}
use Rattle.yaml_diff.specs.Lines.{way_of}
use Rattle.review_text.specs.declared.options.Diff.{Diff}

pub both_shown : (g : Forests) (room : ℕ) (d : Difference) (left right : Text) → ShowsNode g room d.left left → ShowsNode g room d.right right → ShowsBoth g room d left right
both_shown g room d left right a b = inl (a, b)

-- the texts of two nodes that show the same
pub fronts_same : (g : Forests) (room : ℕ) (i j : Option NodeId) (left right : Text) → ShowsNode g room i left → ShowsNode g room j right → SameTexts left right → SameFronts g room i j
fronts_same g room (Some i) (Some j) (Some a) (Some b) x y e = sym x ∙ e ∙ y
fronts_same g room None j (Some a) right x y e = absurd x
fronts_same g room i None left (Some b) x y e = absurd y
fronts_same g room i j None right x y e = absurd e
fronts_same g room i j (Some a) None x y e = absurd e

pub parts_shown : (g : Forests) (room : ℕ) (d : Difference) (one other left right : Text) → ShowsNode g room d.left one → ShowsNode g room d.right other → SameTexts one other → ShowsParts g room d left right → ShowsBoth g room d left right
parts_shown g room d one other left right x y e h = inr (fronts_same g room d.left d.right one other x y e, h)

-- two texts that are told apart, by whether they look the same
pub as_they_are : (one other : Text) (b : Bool) → b ≡ are_alike one other → b ≡ false → TellsApart (are_alike one other) one other one other
as_they_are one other b e f = subst (λ z. TellsApart z one other one other) (sym f ∙ e) (refl, refl)

pub in_escapes : (one other left right : Text) (b : Bool) → b ≡ are_alike one other → b ≡ true → IsAscii one left → IsAscii other right → TellsApart (are_alike one other) one other left right
in_escapes one other left right b e t g h = subst (λ z. TellsApart z one other left right) (sym t ∙ e) (g, h)

pub apart_shown : (g : Forests) (room : ℕ) (d : Difference) (one other left right : Text) → ShowsBoth g room d one other → TellsApart (are_alike one other) one other left right → ShowsApart g room d left right
apart_shown g room d one other left right h t = (one, other, h, t)

-- a part of a content, by what it has behind its start
abbrev pub rest_text : ℕ → ℕ → List ℕ → List ℕ
rest_text room start rest = cond (start == 0) [] (codes "...") ++ (quoted_bytes (front room rest) ++ cond (nat_le (length rest) room) [] (codes "..."))

pub part_is : (room start : ℕ) (content rest text : List ℕ) → rest ≡ drop start content → text ≡ rest_text room start rest → text ≡ part_text room start content
part_is room start content rest text e h = h ∙ ap (rest_text room start) e

pub parts_told : (g : Forests) (room start : ℕ) (d : Difference) (tag one other one_rest other_rest : List ℕ) (a b : String Global) → IsScalar g d.left tag one → IsScalar g d.right tag other → one_rest ≡ drop start one → other_rest ≡ drop start other → take start one ≡ take start other
    → string_bytes a ≡ rest_text room start one_rest → string_bytes b ≡ rest_text room start other_rest → ShowsParts g room d (Some a) (Some b)
parts_told g room start d tag one other one_rest other_rest a b l r p q e x y = record {
  tag = tag;
  one = one;
  other = other;
  is_left = l;
  is_right = r;
  start = start;
  before = e;
  left_text = part_is room start one one_rest (string_bytes a) p x;
  right_text = part_is room start other other_rest (string_bytes b) q y;
}

pub script_told : (g : Forests) (context : ℕ) (color : Bool) (d : Difference) (tag one other : List ℕ) (edits slice : List Edit) (text : List ℕ) → IsScalar g d.left tag one → IsScalar g d.right tag other → IsScript one other edits → slice ≡ edits → text ≡ script_text context color slice → ShowsScript g context color d text
script_told g context color d tag one other edits slice text l r s e h = record {
  tag = tag;
  one = one;
  other = other;
  is_left = l;
  is_right = r;
  edits = edits;
  script = s;
  is = h ∙ ap (script_text context color) e;
}

pub one_told : (g : Forests) (asked : Diff) (d : Difference) (l : Line) (room : ℕ) → room ≡ room_of asked.whole → string_bytes l.path ≡ path_as asked.paths (is_numbered g) d.left d.right (way_of g d.path.items) → ShowsApart g room d l.left l.right
    → ShowsChanges g asked.context asked.color d l.changes → TellsMembers asked.form g d l.members → l.label ≡ None → TellsOne g asked d l
one_told g asked d l room m p b c v n = record {
  path = p;
  nodes = subst (λ z. ShowsApart g z d l.left l.right) m b;
  changes = c;
  members = v;
  no_label = n;
}

-- a scalar of the tag of another
pub same_tag : (g : Forests) (i : Option NodeId) (tag other content : List ℕ) → tag ≡ other → IsScalar g i other content → IsScalar g i tag content
same_tag g i tag other content e h = subst (λ z. IsScalar g i z content) (sym e) h
