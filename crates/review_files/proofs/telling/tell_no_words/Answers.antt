use Rattle.std.proofs.Common.{refl, sym, subst}
use Rattle.review_files.specs.Lines.{TakesLine, words_line}
use Rattle.review_files.proofs.telling.tell_no_words.Goals as goal

pub returns-in-Usage : goal.returns-in-Usage
returns-in-Usage g c =
    let new = c.tell_usage.new.err in
    (c.tell_usage.ensures.status, new, subst (λ z. TakesLine g.E.Write.contents c.args.err new (words_line z)) (sym c.in-Usage.is) c.tell_usage.ensures.told)

pub returns : goal.returns
returns g c =
    let new = c.tell_bare.new.err in
    (refl, new, subst (λ z. TakesLine g.E.Write.contents c.args.err new (words_line z)) (sym c.in-OutOfMemory.is) c.tell_bare.ensures.told)
