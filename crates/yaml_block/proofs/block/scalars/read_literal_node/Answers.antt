use Rattle.std.proofs.Common.{false, ℕ, ℤ, ◌≡◌, ap, subst, sym, ◌∙◌, rules, w32, inl, refl, [], ◌∷◌, arith}
use Rattle.std.proofs.lemmas.Int.{to_z-of_z}
use mir.Val.{SFits, of_z, to_z}
use Rattle.std.specs.Str.{chars}
use Rattle.std.specs.Cow.{cow_str_bytes}
use Rattle.yaml_text.specs.Source.{text_of, place_of}
use Rattle.yaml_definitions.specs.model.Event as style
use Rattle.yaml_definitions.specs.grammar.Events.{no_props, scalar}
use Rattle.yaml_definitions.specs.grammar.BlockScalars.{c-l+literal as literal}
use Rattle.yaml_scalar.specs.BlockModel.{column}
use Rattle.yaml_block.specs.BlockRules.{block_scalar_rest}
use Rattle.yaml_text.specs.LeafAnswer.{Unread, FurthestAlone}
use Rattle.yaml_text.specs.Lines.{AfterLine}
use Rattle.law_going_on.specs.GoingOn.{Goes, Here}
use Rattle.law_going_on.proofs.BlockScalars.{scalar_after}
use Rattle.yaml_layout.proofs.PropertyDecisions.{or_else}
use Rattle.yaml_layout.proofs.Deciding.{decides_err, refusal}
use Rattle.yaml_block.specs.BlockEnds.{AfterScalar}
use Rattle.yaml_block.proofs.ScalarDecisions.{literal_refused, literal_goes, scalar_stuck}
use Rattle.yaml_block.proofs.block.scalars.read_literal_node.Goals as goal

column_is : (r : ℤ) (col : ℕ) → SFits w32 r → column r ≡ col → column (to_z w32 (of_z w32 r)) ≡ col
column_is r col fits e = ap column (to_z-of_z w32 r fits) ∙ e

pub returns-clause-reads : goal.returns-clause-reads
returns-clause-reads g c =
    let s = c.args.source.now in
    let text = chars (cow_str_bytes c.in_ok-text.text) in
    let n = column_is c.parent.result c.args.col (search rules) c.parent.ensures in
    let read = subst (λ m. literal (text_of s) m (place_of s c.args.at) (place_of s c.in_ok-text.end) text) n c.in_ok-text.ensures.reads.is in
    (scalar no_props style.literal text ∷ [], c.in_ok-push_scalar.ensures.ok, subst (λ x. block_scalar_rest (text_of s) no_props c.args.col (place_of s c.args.at) (place_of s x) (scalar no_props style.literal text ∷ [])) (sym c.line_at.ensures.start) (inl (text, read, refl)))

pub returns-in_err-text-clause-decides : goal.returns-in_err-text-clause-decides
returns-in_err-text-clause-decides g c =
    let s = c.args.source.now in
    let cs = text_of s in
    let i = place_of s c.args.at in
    let n = column_is c.parent.result c.args.col (search rules) c.parent.ensures in
    decides_err (block_scalar_rest cs no_props c.args.col) (AfterScalar cs) i Here (λ line. place_of s line.start) c.from_residual.result _ c.from_residual.ensures.1
    (or_else (λ none. literal_refused cs no_props c.args.col i (AfterScalar cs) c.requires.sign (subst (λ m. Unread (literal cs m) i) n none)) (refusal _ c.in_err-text.ensures.reads))

pub line_at-requires-clause-stuck : goal.line_at-requires-clause-stuck
line_at-requires-clause-stuck g c =
    let s = c.args.source.now in
    let cs = text_of s in
    let n = column_is c.parent.result c.args.col (search rules) c.parent.ensures in
    scalar_stuck cs false c.args.col _ _ _ (subst (λ m. FurthestAlone (literal cs m) (place_of s c.args.at) (place_of s c.in_ok-text.end) (chars (cow_str_bytes c.in_ok-text.text))) n c.in_ok-text.ensures.reads)

pub returns-clause-ends : goal.returns-clause-ends
returns-clause-ends g c =
    let s = c.args.source.now in
    let cs = text_of s in record {
      line = c.line_at.ensures.line;
      onward = omega (arith, c.in_ok-text.ensures.onward, c.line_at.ensures.start);
      after = subst (λ x. AfterLine cs (place_of s x)) (sym c.line_at.ensures.start) (scalar_after cs false _ _ _ _ c.in_ok-text.ensures.reads.is);
    }

pub returns-clause-decides : goal.returns-clause-decides
returns-clause-decides g c =
    let s = c.args.source.now in
    let cs = text_of s in
    let i = place_of s c.args.at in
    let n = column_is c.parent.result c.args.col (search rules) c.parent.ensures in
    subst (λ x. Goes (block_scalar_rest cs no_props c.args.col) (AfterScalar cs) i Here (place_of s x)) (sym c.line_at.ensures.start)
    (literal_goes cs no_props c.args.col i (place_of s c.in_ok-text.end) _ c.requires.sign
    (subst (λ m. FurthestAlone (literal cs m) i (place_of s c.in_ok-text.end) (chars (cow_str_bytes c.in_ok-text.text))) n c.in_ok-text.ensures.reads))
