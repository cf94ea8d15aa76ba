-- What a byte changes between brackets.
use Rattle.std.specs.Prelude.{ℕ, ◌+◌, ◌-◌, ◌==◌, cond}
use Rattle.review_patterns.specs.Grammar.{is_open, is_close}
use Rattle.review_patterns.specs.declared.bracket.At.{At}
use Rattle.review_patterns.specs.declared.bracket.At.TheVariants.{Plain, Quoted, Escaped, Tag}

-- what the next byte stands in
abbrev pub behind_of : At → ℕ → At
behind_of Plain c = cond (c == 34) Quoted (cond (c == 60) Tag Plain)
behind_of Quoted c = cond (c == 34) Plain (cond (c == 92) Escaped Quoted)
behind_of Escaped c = Quoted
behind_of Tag c = cond (c == 62) Plain Tag

-- how many brackets are open behind it
abbrev pub depth_of : At → ℕ → ℕ → ℕ
depth_of Plain c depth = cond (is_open c) (depth + 1) (cond (is_close c) (depth - 1) depth)
depth_of Quoted c depth = depth
depth_of Escaped c depth = depth
depth_of Tag c depth = depth
