-- Which characters are of which classes, as far as tags, names and directives ask.
use Rattle.std.proofs.Common.{◌≡◌, ◌≢◌, ℕ, List, Bool, true, false, refl, sym, ◌∙◌, ap, arith}
use Rattle.std.specs.Char.{is_ascii_hexdigit}
use Rattle.yaml_definitions.specs.grammar.Rules.{Stands}
use Rattle.yaml_definitions.specs.grammar.Characters.{is_ns, is_nb, is_break, is_white, is_space, is_word, is_uri, is_tag, is_flow_indicator}
use Rattle.yaml_definitions.specs.grammar.Tags.{is_name}
use Rattle.yaml_text.proofs.Runs.{no_stand}
use Rattle.yaml_text.proofs.RestLemmas.{is_the_space}

-- ---- single characters

pub ns_space : is_ns 32 ≡ false
unfolding is_ns is_nb is_break is_white
ns_space = refl

pub ns_bang : is_ns 33 ≡ true
unfolding is_ns is_nb is_break is_white
ns_bang = refl

pub ns_percent : is_ns 37 ≡ true
unfolding is_ns is_nb is_break is_white
ns_percent = refl

pub ns_two : is_ns 50 ≡ true
unfolding is_ns is_nb is_break is_white
ns_two = refl

pub nb_space : is_nb 32 ≡ true
unfolding is_nb is_break
nb_space = refl

pub nb_bang : is_nb 33 ≡ true
unfolding is_nb is_break
nb_bang = refl

pub nb_hash : is_nb 35 ≡ true
unfolding is_nb is_break
nb_hash = refl

pub nb_greater : is_nb 62 ≡ true
unfolding is_nb is_break
nb_greater = refl

pub space_bang : is_space 33 ≡ false
unfolding is_space
space_bang = refl

pub space_one : is_space 49 ≡ false
unfolding is_space
space_one = refl

pub uri_percent : is_uri 37 ≡ false
unfolding is_uri is_word
uri_percent = refl

pub uri_greater : is_uri 62 ≡ false
unfolding is_uri is_word
uri_greater = refl

pub tag_bang : is_tag 33 ≡ false
unfolding is_tag is_uri is_word
tag_bang = refl

pub tag_percent : is_tag 37 ≡ false
unfolding is_tag is_uri is_word
tag_percent = refl

pub tag_angle : is_tag 60 ≡ false
unfolding is_tag is_uri is_word
tag_angle = refl

pub name_bang : is_name 33 ≡ true
unfolding is_name is_ns is_nb is_break is_white is_flow_indicator
name_bang = refl

pub name_percent : is_name 37 ≡ true
unfolding is_name is_ns is_nb is_break is_white is_flow_indicator
name_percent = refl

pub name_angle : is_name 60 ≡ true
unfolding is_name is_ns is_nb is_break is_white is_flow_indicator
name_angle = refl

pub word_space : is_word 32 ≡ false
unfolding is_word
word_space = refl

pub word_bang : is_word 33 ≡ false
unfolding is_word
word_bang = refl

pub word_percent : is_word 37 ≡ false
unfolding is_word
word_percent = refl

pub word_angle : is_word 60 ≡ false
unfolding is_word
word_angle = refl

-- ---- one class in another

pub ns_nb : (c : ℕ) → is_ns c ≡ true → is_nb c ≡ true
unfolding is_ns
ns_nb c h = grind (arith, h)

-- what no white and no break is
pub ns_by : (p : ℕ → Bool) → p 10 ≡ false → p 13 ≡ false → p 32 ≡ false → p 9 ≡ false → (c : ℕ) → p c ≡ true → is_ns c ≡ true
unfolding is_ns is_nb is_break is_white
ns_by p a b d e c h = go (other 10 a) (other 13 b) (other 32 d) (other 9 e)
  where
    other : (x : ℕ) → p x ≡ false → c ≢ x
    other x f g = let z : false ≡ true = sym f ∙ ap p (sym g) ∙ h in cc

    go : c ≢ 10 → c ≢ 13 → c ≢ 32 → c ≢ 9 → is_ns c ≡ true
    go w x y z = grind (arith, w, x, y, z)

-- what is no flow indicator either
name_by : (p : ℕ → Bool) → p 10 ≡ false → p 13 ≡ false → p 32 ≡ false → p 9 ≡ false → p 44 ≡ false → p 91 ≡ false → p 93 ≡ false → p 123 ≡ false → p 125 ≡ false → (c : ℕ) → p c ≡ true → is_name c ≡ true
unfolding is_name is_flow_indicator
name_by p a b d e f1 f2 f3 f4 f5 c h = go (ns_by p a b d e c h) (other 44 f1) (other 91 f2) (other 93 f3) (other 123 f4) (other 125 f5)
  where
    other : (x : ℕ) → p x ≡ false → c ≢ x
    other x f g = let z : false ≡ true = sym f ∙ ap p (sym g) ∙ h in cc

    go : is_ns c ≡ true → c ≢ 44 → c ≢ 91 → c ≢ 93 → c ≢ 123 → c ≢ 125 → is_name c ≡ true
    go n v w x y z = grind (arith, n, v, w, x, y, z)

-- a tag's characters are a name's
pub tag_is_name : (c : ℕ) → is_tag c ≡ true → is_name c ≡ true
unfolding is_tag is_uri is_word is_flow_indicator
tag_is_name c h = name_by is_tag refl refl refl refl refl refl refl refl refl c h

pub word_name : (c : ℕ) → is_word c ≡ true → is_name c ≡ true
unfolding is_word
word_name c h = name_by is_word refl refl refl refl refl refl refl refl refl c h

pub name_is_ns : (c : ℕ) → is_name c ≡ true → is_ns c ≡ true
unfolding is_name
name_is_ns c h = grind (arith, h)

pub uri_ns : (c : ℕ) → is_uri c ≡ true → is_ns c ≡ true
unfolding is_uri is_word
uri_ns c h = ns_by is_uri refl refl refl refl c h

pub hex_ns : (c : ℕ) → is_ascii_hexdigit c ≡ true → is_ns c ≡ true
hex_ns c h = ns_by is_ascii_hexdigit refl refl refl refl c h

module _ (cs : List ℕ) where
  pub solid_nb : (i : ℕ) → Stands cs is_ns i → Stands cs is_nb i
  solid_nb i (c, h, t) = (c, h, ns_nb c t)

  pub solid_no_space : (i : ℕ) → Stands cs is_ns i → Stands cs is_space i → ⊥
  solid_no_space i s (d, h, u) = no_stand cs is_ns i d h (ap is_ns (is_the_space d u) ∙ ns_space) s

  pub space_no_word : (i : ℕ) → Stands cs is_space i → Stands cs is_word i → ⊥
  space_no_word i (d, h, u) s = no_stand cs is_word i d h (ap is_word (is_the_space d u) ∙ word_space) s
