use Rattle.std.proofs.Common.{Ok, sym, ◌∙◌, ap, subst}
use Rattle.std.specs.Cow.{cow_str_bytes}
use Rattle.yaml_core.specs.Kind.{kind_tag, of_kind}
use Rattle.yaml_core.specs.declared.kind.PlainKind.{PlainKind}
use Rattle.yaml_core.proofs.KindLemmas.{IsResolved, null_resolved, bool_resolved}
use Rattle.yaml_core.proofs.content.content.Goals as goal

pub returns-in-Null-clause-means : goal.returns-in-Null-clause-means
returns-in-Null-clause-means c =
    let P : PlainKind → Type 0 = λ k. IsResolved cow_str_bytes (kind_tag k) (of_kind k c.args.text.now) c.null_content.result in
    subst P (sym c.in-Null.is) (null_resolved cow_str_bytes c.args.form c.args.text.now c.null_content.result c.requires c.null_content.ensures)

pub returns-in-Bool-clause-means : goal.returns-in-Bool-clause-means
returns-in-Bool-clause-means c =
    let P : PlainKind → Type 0 = λ k. IsResolved cow_str_bytes (kind_tag k) (of_kind k c.args.text.now) c.bool_content.result in
    subst P (sym c.in-Bool.is) (bool_resolved cow_str_bytes c.args.form c.args.text.now c.bool_content.result c.requires c.bool_content.ensures)

pub returns-in-Str-clause-means : goal.returns-in-Str-clause-means
unfolding of_kind
returns-in-Str-clause-means c =
    let x = c.args.text.now in
    ap (λ k. of_kind k x) c.in-Str.is ∙ ap (λ k. Ok (kind_tag k, x)) (sym c.in-Str.is)
