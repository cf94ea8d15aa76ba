use Rattle.std.proofs.Common.{ℕ, List, refl, sym, subst, ◌∙◌, arith}
use Rattle.std.specs.Prelude.{Some, None}
use Rattle.std.specs.Str.{IsUtf8, IsCharBoundary}
use Rattle.std.proofs.lemmas.Str.{IsUtf8-drop}
use Rattle.std.proofs.lemmas.Str.Pattern.{split_parts}
use Rattle.yaml_show_scalar.specs.Folds.{is_foldable}
use Rattle.yaml_show_scalar.proofs.TextLaws.{no_feed, sought_next, sought_here, sought_last}
use Rattle.yaml_show_scalar.proofs.paragraphs.has_foldable.Goals as goal

pub lines-init : goal.lines-init
lines-init c = record { utf8 = c.utf8.text; is = refl }

pub lines-preserved : goal.lines-preserved
lines-preserved c =
    let rest : List ℕ = c.lines.rest.now in
    let f = split_parts 10 rest (Some (c.in-Some.line, c.in-Some.after)) c.in-Some.ensures.cases (omega arith) in
    let s = c.in-Some.ensures.cases in
    let u : IsUtf8 c.in-Some.after.now = subst IsUtf8 (sym s.4) (IsUtf8-drop rest s.1 c.lines.invariant.utf8 (subst (IsCharBoundary rest) (sym s.2.1.ends) s.2.1.after)) in
    sought_next is_foldable c.args.text.now rest c.in-Some.line.now c.in-Some.after.now c.lines.invariant f.0 (no_feed c.in-Some.line.now f.1) u (sym c.is_foldable-in-lines.ensures ∙ c.if-is_foldable.false)

pub returns-then-is_foldable : goal.returns-then-is_foldable
returns-then-is_foldable c =
    let rest : List ℕ = c.lines.rest.now in
    let f = split_parts 10 rest (Some (c.in-Some.line, c.in-Some.after)) c.in-Some.ensures.cases (omega arith) in
    sought_here is_foldable c.args.text.now rest c.in-Some.line.now c.in-Some.after.now c.lines.invariant f.0 (no_feed c.in-Some.line.now f.1) (sym c.is_foldable-in-lines.ensures ∙ c.if-is_foldable.true)

pub returns-in_default : goal.returns-in_default
returns-in_default c =
    let rest : List ℕ = c.lines.rest.now in
    let f = split_parts 10 rest None c.in_default.ensures.cases (omega arith) in
    c.is_foldable.ensures ∙ sought_last is_foldable c.args.text.now rest c.lines.invariant (no_feed rest f)
