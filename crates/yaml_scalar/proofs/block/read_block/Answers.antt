use Rattle.std.proofs.Common.{◌≡◌, ℕ, ℤ, ap, subst, Some, ◌∙◌, sym, rules, w32}
use Rattle.std.proofs.lemmas.Int.{to_z-of_z}
use mir.Val.{SFits, of_z, to_z}
use Rattle.std.specs.Str.{chars}
use Rattle.std.specs.Cow.{cow_str_bytes}
use Rattle.std.proofs.lemmas.Str.{IsUtf8-string_bytes}
use Rattle.yaml_text.specs.Source.{text_of, place_of}
use Rattle.yaml_definitions.specs.grammar.BlockScalars.{indentation}
use Rattle.yaml_text.specs.LeafAnswer.{Unread}
use Rattle.yaml_text.specs.LeafAnswer.{FurthestAlone}
use Rattle.yaml_scalar.specs.BlockModel.{column, styled, header_of}
use Rattle.yaml_scalar.proofs.OutcomeLemmas.{answers_err, refuses_unread, refuses_weaker}
use Rattle.yaml_scalar.proofs.BlockLemmas.{block_is, no_mark, no_head, no_indent, sign_inside}
use Rattle.yaml_scalar.proofs.block.read_block.Goals as goal

column_is : (r : ℕ) (n : ℤ) → SFits w32 n → r ≡ column (to_z w32 (of_z w32 n)) → r ≡ column n
column_is r n fits e = e ∙ ap column (to_z-of_z w32 n fits)

pub returns-in_default-clause-reads : goal.returns-in_default-clause-reads
returns-in_default-clause-reads c =
    refuses_unread c.unusable.result c.unusable.ensures.unread
    (no_mark (text_of c.args.source.now) c.args.is_folded _ _ (λ e. c.in_default.ensures.none (e ∙ ap Some (sym c.sign_of.ensures))))

pub read_header-requires-clause-inside : goal.read_header-requires-clause-inside
read_header-requires-clause-inside c =
    let s = c.in-Some.ensures.some in
    sign_inside (text_of c.args.source.now) c.args.is_folded _ _ (s.is ∙ ap Some c.sign_of.ensures) s.next

pub returns-in_err-header-clause-reads : goal.returns-in_err-header-clause-reads
returns-in_err-header-clause-reads c =
    let cs = text_of c.args.source.now in
    let s = c.in-Some.ensures.some in
    answers_err FurthestAlone (styled cs c.args.is_folded (column c.args.n)) _ (λ r. place_of c.args.source.now r.1) (λ r. chars (cow_str_bytes r.0)) _ _ c.from_residual.ensures.1
    (refuses_weaker _ (no_head cs c.args.is_folded (column c.args.n) _ _ s.next) c.in_err-header.ensures.none)

pub returns-in_err-text-clause-reads : goal.returns-in_err-text-clause-reads
returns-in_err-text-clause-reads c =
    let cs = text_of c.args.source.now in
    let s = c.in-Some.ensures.some in
    answers_err FurthestAlone (styled cs c.args.is_folded (column c.args.n)) _ (λ r. place_of c.args.source.now r.1) (λ r. chars (cow_str_bytes r.0)) _ _ c.from_residual-in_err-text.ensures.1
    (refuses_weaker _ (λ none. no_indent cs c.args.is_folded (column c.args.n) _ _ _ (header_of c.in_ok-header.header) s.next c.in_ok-header.ensures.header
    (subst (λ m. Unread (indentation cs m c.in_ok-header.header.digit) (place_of c.args.source.now c.in_ok-header.first)) (column_is _ _ (search rules) c.column.ensures) none)) c.in_err-text.ensures.none)

pub returns-clause-reads : goal.returns-clause-reads
returns-clause-reads c =
    let cs = text_of c.args.source.now in
    let s = c.in-Some.ensures.some in
    let t = c.in_ok-text.ensures in
    let first = place_of c.args.source.now c.in_ok-header.first in
    subst (λ b. FurthestAlone (styled cs c.args.is_folded (column c.args.n)) (place_of c.args.source.now c.args.at) (place_of c.args.source.now c.trailing_comments.result) (chars b)) (sym c.shrink_to_fit.ensures.bytes)
    (block_is cs c.args.is_folded (column c.args.n) _ _ _ _ _ _ (header_of c.in_ok-header.header) _ (s.is ∙ ap Some c.sign_of.ensures) s.next c.in_ok-header.ensures.header
    (subst (λ m. indentation cs m c.in_ok-header.header.digit first first c.in_ok-text.indent) (column_is _ _ (search rules) c.column.ensures) t.indentation) t.lines c.trailing_comments.ensures.lines)

pub returns-clause-utf8 : goal.returns-clause-utf8
returns-clause-utf8 c = IsUtf8-string_bytes c.shrink_to_fit.new.self
