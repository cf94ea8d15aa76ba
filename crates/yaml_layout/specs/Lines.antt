-- The starts of lines, and dashes.
use Rattle.std.specs.Prelude.{◌≡◌, ℕ, ◌+◌, ◌≤◌, ◌<◌}
use Rattle.yaml_text.specs.Place.{Steps}
use Rattle.yaml_text.specs.Source.{bytes_of, text_of, place_of, IsBorder}
use Rattle.yaml_text.specs.declared.chars.Chars.{Chars}
use Rattle.yaml_definitions.specs.grammar.Rules.{Stands, maybe}
use Rattle.yaml_definitions.specs.grammar.Characters.{is_ns, is_space}
use Rattle.yaml_definitions.specs.grammar.Separation.{Ctx, block_out, block_in, flow_out, flow_in, block_key, flow_key, s-indent as indent, l-comment as l_comment, s-separate as s_separate}
use Rattle.law_one_reading.specs.Follows.{Fresh, Solid, Way}
use Rattle.yaml_layout.specs.declared.line.Line.{Line}

-- no comment line starts here, and so many spaces, and no more, stand from the line's start on
pub record IsLine (source : Chars) (line : Line) : Type 0 where
  pub start : IsBorder source line.start
  pub first : IsBorder source line.first
  pub spaces : indent (text_of source) line.column (place_of source line.start) (place_of source line.first)
  pub wide : line.start + line.column ≤ line.first
  pub all : Stands (text_of source) is_space (place_of source line.first) → ⊥
  pub stuck : (j : ℕ) → l_comment (text_of source) (place_of source line.start) j → ⊥

-- a dash that begins an entry (YAML 1.2.2, 8.2.1)
pub record IsDash (source : Chars) (at after : ℕ) : Type 0 where
  pub dash : Steps (bytes_of source) at 45 after
  pub apart : Stands (text_of source) is_ns (place_of source after) → ⊥

-- of a block node
abbrev pub IsBlock : Ctx → Type 0
IsBlock block_out = Unit {0}
IsBlock block_in = Unit {0}
IsBlock flow_out = ⊥
IsBlock flow_in = ⊥
IsBlock block_key = ⊥
IsBlock flow_key = ⊥

-- two borders, one not before the other
pub record IsStretch (source : Chars) (at end : ℕ) : Type 0 where
  pub from : IsBorder source at
  pub to : IsBorder source end
  pub order : at ≤ end

-- separation leads here, as far as it can: to where content goes on, if it does
pub record LeadsTo (source : Chars) (at n : ℕ) (c : Ctx) (here : ℕ) : Type 0 where
  pub border : IsBorder source here
  pub onward : at ≤ here
  pub separate : maybe (s_separate (text_of source) n c) (place_of source at) (place_of source here)
  pub apart : at < here → s_separate (text_of source) n c (place_of source at) (place_of source here)
  pub to : (q : ℕ) → maybe (s_separate (text_of source) n c) (place_of source at) q → Solid (text_of source) q → q ≡ place_of source here
  pub way : c ≡ flow_in → (q : ℕ) → Way (text_of source) (place_of source at) q → q ≡ place_of source here

-- the same after a part of a collection
pub record LeadsFrom (source : Chars) (at n : ℕ) (c : Ctx) (here : ℕ) : Type 0 where
  pub border : IsBorder source here
  pub onward : at ≤ here
  pub separate : maybe (s_separate (text_of source) n c) (place_of source at) (place_of source here)
  pub to : (q : ℕ) → maybe (s_separate (text_of source) n c) (place_of source at) q → Solid (text_of source) q → q ≡ place_of source here

-- no content is reached by separation from here
abbrev pub NothingFollows : Chars → ℕ → ℕ → Ctx → Type 0
NothingFollows source at n c = (q : ℕ) → maybe (s_separate (text_of source) n c) (place_of source at) q → Fresh (text_of source) q → ⊥
