-- What the values of a block scalar's reader stand for.
use Rattle.std.specs.Prelude.{◌≡◌, ℕ, zero, suc, ◌+◌, ◌≤◌, ◌<◌, min, ℤ, pos, negsuc, List, [], ◌∷◌, Bool, true, false, not, ◌&&◌, slice_range}
use Rattle.yaml_text.specs.Source.{text_of, place_of, IsBorder}
use Rattle.yaml_text.specs.declared.chars.Chars.{Chars}
use Rattle.yaml_definitions.specs.grammar.Rules.{Rule, Stands}
use Rattle.yaml_definitions.specs.grammar.Characters.{is_nb}
use Rattle.yaml_definitions.specs.grammar.Separation.{AtEnd}
use Rattle.yaml_definitions.specs.grammar.FlowScalars.{line_feeds}
use Rattle.yaml_definitions.specs.grammar.BlockScalars as grammar
use Rattle.yaml_scalar.specs.Chains.{folded_breaks}
use Rattle.yaml_scalar.specs.BlockRules.{lines_over}
use Rattle.yaml_text.specs.Lines.{AfterLine}
use Rattle.yaml_scalar.specs.declared.block.header.Chomp.{Chomp}
use Rattle.yaml_scalar.specs.declared.block.header.Chomp.TheVariants.{Strip, Clip, Keep}
use Rattle.yaml_scalar.specs.declared.block.header.Header.{Header}
use Rattle.yaml_scalar.specs.declared.block.lines.Line.{Line}
use Rattle.yaml_scalar.specs.declared.block.lines.Line.TheVariants.{Empty, Text, Over}
use Rattle.yaml_scalar.specs.declared.block.content.Before.{Before}
use Rattle.yaml_scalar.specs.declared.block.content.Before.TheVariants.{Nothing, Spaced, Plain}

-- the column after a parent's indentation; below a root it is 0
abbrev pub column : ℤ → ℕ
column (pos n) = n + 1
column (negsuc n) = 0

-- what a block scalar of either style begins with
abbrev pub sign_of : Bool → ℕ
sign_of false = 124
sign_of true = 62

-- a block scalar of either style
abbrev pub styled : List ℕ → Bool → ℕ → Rule (List ℕ)
styled cs false = grammar.c-l+literal cs
styled cs true = grammar.c-l+folded cs

abbrev pub chomp_of : Chomp → grammar.Chomp
chomp_of Strip = grammar.strip
chomp_of Clip = grammar.clip
chomp_of Keep = grammar.keep

abbrev pub header_of : Header → grammar.Header
header_of h = record { digit = h.digit; chomp = chomp_of h.chomp }

-- ---- lines

pub record EmptyLine (source : Chars) (k at next : ℕ) : Type 0 where
  pub border : IsBorder source next
  pub forward : at < next
  pub after : AfterLine (text_of source) (place_of source next)
  pub line : grammar.blank_line (text_of source) k (place_of source at) (place_of source next) (grammar.blank ∷ [])

pub record TextLine (source : Chars) (k at from to next : ℕ) (is_ended : Bool) : Type 0 where
  pub begin : IsBorder source from
  pub stop : IsBorder source to
  pub border : IsBorder source next
  pub forward : at < next
  pub onward : from ≤ to
  pub after : AfterLine (text_of source) (place_of source next)
  pub some : place_of source from < place_of source to
  pub begins : Stands (text_of source) is_nb (place_of source from)
  pub line : grammar.text_line (text_of source) true k (place_of source at) (place_of source next)
      (grammar.content_line is_ended (slice_range (text_of source) (place_of source from) (place_of source to)) ∷ [])
  pub last : is_ended ≡ false → AtEnd (text_of source) (place_of source next)

pub record IsNoLine (source : Chars) (k at end : ℕ) : Type 0 where
  pub border : IsBorder source end
  pub onward : at ≤ end
  pub over : lines_over (text_of source) k (place_of source at) (place_of source end)

abbrev pub LineIs : Chars → ℕ → ℕ → Line → Type 0
LineIs source k at (Empty next) = EmptyLine source k at next
LineIs source k at (Text from to next is_ended) = TextLine source k at from to next is_ended
LineIs source k at (Over end) = IsNoLine source k at end

-- ---- breaks

-- so many breaks before a line; between folded lines the first is a space or nothing
abbrev pub glue : Bool → ℕ → List ℕ
glue false breaks = line_feeds breaks
glue true zero = []
glue true (suc breaks) = folded_breaks (line_feeds breaks)

-- a line's kind, by whether it begins with a white
abbrev pub shape : Bool → Before
shape true = Spaced
shape false = Plain

-- two lines of which neither is spaced, in a folded scalar
abbrev pub are_folded : Bool → Before → Bool → Bool
are_folded is_folded Nothing is_spaced = false
are_folded is_folded Spaced is_spaced = false
are_folded is_folded Plain is_spaced = is_folded && not is_spaced

-- the break of a line that has one
abbrev pub breaks_of : Bool → ℕ
breaks_of true = 1
breaks_of false = 0

-- how many of the last breaks stay
abbrev pub last_breaks : Chomp → Before → ℕ → ℕ
last_breaks Strip before breaks = 0
last_breaks Clip Nothing breaks = 0
last_breaks Clip Spaced breaks = min breaks 1
last_breaks Clip Plain breaks = min breaks 1
last_breaks Keep before breaks = breaks
