use Rattle.std.proofs.Common.{refl}
use Rattle.std.specs.Fmt.{digits}
use Rattle.review_hints.proofs.words.plain_words.Goals as goal

pub returns-in-TooLong-clause-limit : goal.returns-in-TooLong-clause-limit
unfolding digits
returns-in-TooLong-clause-limit c = rw c.in-TooLong.is refl

pub returns-in-KeyTooLong-clause-limit : goal.returns-in-KeyTooLong-clause-limit
unfolding digits
returns-in-KeyTooLong-clause-limit c = rw c.in-KeyTooLong.is refl

pub returns-in-TooDeep-clause-limit : goal.returns-in-TooDeep-clause-limit
unfolding digits
returns-in-TooDeep-clause-limit c = rw c.in-TooDeep.is refl

pub returns-in-IntRange-clause-limit : goal.returns-in-IntRange-clause-limit
unfolding digits
returns-in-IntRange-clause-limit c = rw c.in-IntRange.is refl

pub returns-in-FloatRange-clause-limit : goal.returns-in-FloatRange-clause-limit
unfolding digits
returns-in-FloatRange-clause-limit c = rw c.in-FloatRange.is refl

pub returns-in-TooHigh-clause-limit : goal.returns-in-TooHigh-clause-limit
unfolding digits
returns-in-TooHigh-clause-limit c = rw c.in-TooHigh.is refl

pub returns-in-TextTooLong-clause-limit : goal.returns-in-TextTooLong-clause-limit
unfolding digits
returns-in-TextTooLong-clause-limit c = rw c.in-TextTooLong.is refl
