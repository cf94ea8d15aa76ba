use Rattle.std.proofs.Common.{◌≡◌, ℕ, List, ◌++◌, length, true, ◌∙◌, sym, ap, Some, None}
use Rattle.std.proofs.lemmas.Bool.{true≢false}
use Rattle.std.specs.List.{prefix_len}
use Rattle.review_patterns.specs.Classes.{passes}
use Rattle.review_patterns.specs.Grammar.{is_document, at_step}
use Rattle.review_patterns.specs.declared.name.Class.TheVariants.{Document}
use Rattle.review_patterns.proofs.FrontLaws.{document-len}
use Rattle.review_patterns.proofs.PatternLaws.{cut-whole, front-is}
use Rattle.review_patterns.proofs.read.split_document.Goals as goal

-- how long the step for the document is
cut : (n : ℕ) (bytes text document more : List ℕ) → n ≡ prefix_len (passes Document) bytes → bytes ≡ text → is_document document ≡ true → at_step more ≡ true → text ≡ document ++ more → n ≡ length document
cut n bytes text document more is value d a t = is ∙ ap (prefix_len (passes Document)) value ∙ document-len text document more d a t

pub returns-in_err-parts-clause-whole : goal.returns-in_err-parts-clause-whole
returns-in_err-parts-clause-whole c = λ document more d a t.
    let n = cut _ _ _ document more c.front_len.ensures.is c.as_bytes.ensures.value d a t in
    absurd (true≢false (sym (cut-whole c.args.text.now c.front_len.result None document more c.in_err-parts.ensures.variant tt n a t).0))

pub returns-then-is_document-clause-whole : goal.returns-then-is_document-clause-whole
returns-then-is_document-clause-whole c = λ document more d a t.
    let n = cut _ _ _ document more c.front_len.ensures.is c.as_bytes.ensures.value d a t in
    cut-whole c.args.text.now c.front_len.result (Some c.in_ok-parts.parts) document more c.in_ok-parts.ensures.variant c.in_ok-parts.ensures.back n a t

pub returns-else-is_document-clause-whole : goal.returns-else-is_document-clause-whole
returns-else-is_document-clause-whole c = λ document more d a t.
    let n = cut _ _ _ document more c.front_len.ensures.is c.as_bytes.ensures.value d a t in
    let same = c.as_bytes-2.ensures.value ∙ c.in_ok-parts.ensures.front ∙ front-is c.args.text.now c.front_len.result document more n t in
    absurd (true≢false (sym d ∙ sym (ap is_document same) ∙ sym c.is_document.ensures ∙ c.if-is_document.false))
