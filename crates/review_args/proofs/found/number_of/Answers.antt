use Rattle.std.specs.Str.Parse.{ExplainsUnsignedError, HasUnsignedDigitsIfOk, ParsesUnsigned}
use Rattle.clap.specs.Words.{found_of}
use Rattle.review_args.proofs.Getters.{one_number}
use Rattle.review_args.proofs.found.number_of.Goals as goal

pub returns : goal.returns
returns c =
    one_number _ (found_of c.args.matches.now) c.args.id.now c.get_one.result c.get_one.ensures.none c.get_one.ensures.value
    (λ u x (h : ParsesUnsigned 64 10 u x × ExplainsUnsignedError 10 u x × HasUnsignedDigitsIfOk u x). h.0)
