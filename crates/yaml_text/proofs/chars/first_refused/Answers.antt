use Rattle.std.proofs.Common.{◌++◌, sym, ap, subst, ◌∙◌}
use Rattle.std.specs.Char.{encode_utf8}
use Rattle.std.proofs.lemmas.List.{nil_from_length}
use Rattle.yaml_text.specs.Refused.{IsScanned}
use Rattle.yaml_text.proofs.Scan.{scanned_on, scanned_more, scanned_refused, scanned_all}
use Rattle.yaml_text.proofs.chars.first_refused.Goals as goal

pub returns-in-None : goal.returns-in-None
returns-in-None c =
    let s = scanned_on c.args.text.now _ c.split_at.result.1.now c.scan.invariant.0 (subst (IsScanned c.scan.rest.now) (sym c.split_at.ensures.back) c.ascii_len.ensures.scanned) in
    scanned_all _ _ s (sym c.chars-chars.ensures.rest ∙ nil_from_length _ c.in-None.ensures.steps.0.0) c.utf8.text

pub returns-then-not-is_text : goal.returns-then-not-is_text
returns-then-not-is_text c =
    let s = scanned_on c.args.text.now _ c.split_at.result.1.now c.scan.invariant.0 (subst (IsScanned c.scan.rest.now) (sym c.split_at.ensures.back) c.ascii_len.ensures.scanned) in
    scanned_refused _ _ _ _ s (sym c.chars-chars.ensures.rest ∙ c.in-Some.ensures.steps.0) (sym c.is_text.ensures ∙ c.if-not-is_text.true)

pub scan-preserved : goal.scan-preserved
scan-preserved c =
    let s = scanned_on c.args.text.now _ c.split_at.result.1.now c.scan.invariant.0 (subst (IsScanned c.scan.rest.now) (sym c.split_at.ensures.back) c.ascii_len.ensures.scanned) in
    (scanned_more _ _ _ _ s (sym c.chars-chars.ensures.rest ∙ c.in-Some.ensures.steps.0 ∙ ap (λ z. encode_utf8 c.in-Some.c ++ z) (sym c.as_str-rest.ensures)) (sym c.is_text.ensures ∙ c.if-not-is_text.false), c.as_str-rest.utf8)
