-- The loops over the entries of block sequences and block mappings, by the reader's rules.
use Rattle.std.proofs.Common.{◌≡◌, ℕ, suc, ◌+◌, ◌-◌, List, sym, subst, arith}
use Rattle.yaml_definitions.specs.model.Event.{Event}
use Rattle.yaml_text.specs.Source.{text_of, place_of}
use Rattle.yaml_text.specs.declared.chars.Chars.{Chars}
use Rattle.yaml_text.specs.Lines.{Inside}
use Rattle.yaml_definitions.specs.grammar.Rules.{Rule, ◌▸◌, any, Stands}
use Rattle.yaml_definitions.specs.grammar.Characters.{is_ns}
use Rattle.yaml_definitions.specs.grammar.Separation.{block_out, s-indent as indent, AtEnd, DocumentMark}
use Rattle.yaml_definitions.specs.grammar.Tags.{Handles}
use Rattle.yaml_definitions.specs.grammar.Events.{Props}
use Rattle.yaml_definitions.specs.grammar.Nodes.{reads}
use Rattle.yaml_definitions.proofs.grammar.Forward.{fwd_reads}
use Rattle.law_one_reading.specs.Follows.{Fresh, Stuck, DashHere, Dash, Less, KeyHere}
use Rattle.law_one_reading.proofs.FlowLevels.{reads_facts}
use Rattle.law_one_reading.proofs.KeyContexts.{reads_eased}
use Rattle.law_one_reading.proofs.BlockLevels.{one_more, reads_blocks}
use Rattle.law_going_on.specs.GoingOn.{Refused, Goes, Rest, Here}
use Rattle.law_going_on.proofs.GoingOn.{goes_at, goes_until, refused_until}
use Rattle.law_going_on.proofs.BlockLoops.{Right, line_less, sequence_first, sequence_no_first, sequence_more, sequence_no_more, sequence_done, sequence_further, values_first, values_refused, mapping_more, mapping_no_more, mapping_no_value, mapping_done, mapping_further, Colon}
use Rattle.law_going_on.proofs.KeyChoices.{value_starts, key_starts}
use Rattle.yaml_layout.specs.Lines.{IsLine}
use Rattle.yaml_layout.specs.declared.line.Line.{Line}
use Rattle.yaml_block.specs.BlockEnds.{AfterNode, AfterEntry, AfterSequence, AfterMapping, AfterColon, IsFurther}
use Rattle.yaml_block.specs.BlockRules.{value_rest, entry_rest, entries_rest, sequence_with, key_rest}
use Rattle.yaml_block.proofs.BlockLemmas.{seq_entry_at, map_entry_at}

right_of : (s : Chars) (line : Line) (k : ℕ) → IsLine s line → IsFurther s line k → Right (text_of s) k line.column (place_of s line.start) (place_of s line.first)
right_of s line k is f = record { spaces = is.spaces; whole = is.all; further = f.0; no_end = f.1; no_mark = f.2 }

module _ (cs : List ℕ) (handles : Handles) (r k : ℕ) where
  -- ---- sequences

  abbrev pub Dashes : Rule (List Event)
  Dashes = indent cs k ▸ seq_entry_at cs (Unit {0}) handles r k

  abbrev Entry : Rule (List Event)
  Entry = entry_rest cs (Unit {0}) handles r k

  pub seq_first : (room : ℕ) (p : Props) (i a x : ℕ) → room ≡ suc r → a ≡ i + 1 → Goes Entry (AfterEntry cs k) a Here x → Rest (sequence_with cs (Unit {0}) handles p room k) (AfterSequence cs k) i (any Dashes) (AfterSequence cs k) x
  seq_first room p i a x e f g =
      subst (λ n. Rest (sequence_with cs (Unit {0}) handles p n k) (AfterSequence cs k) i (any Dashes) (AfterSequence cs k) x) (sym e)
      (sequence_first cs (Unit {0}) handles (Unit {0}) (reads cs (Unit {0}) handles r) k p i x (subst (λ z. Goes Entry (AfterEntry cs k) z Here x) f g))

  pub seq_no_first : (room : ℕ) (p : Props) (i a : ℕ) → room ≡ suc r → a ≡ i + 1 → Refused Entry (AfterEntry cs k) a → Refused (sequence_with cs (Unit {0}) handles p room k) (AfterSequence cs k) i
  seq_no_first room p i a e f n =
      subst (λ m. Refused (sequence_with cs (Unit {0}) handles p m k) (AfterSequence cs k) i) (sym e) (sequence_no_first cs (Unit {0}) handles (Unit {0}) (reads cs (Unit {0}) handles r) k p i (subst (Refused Entry (AfterEntry cs k)) f n))

  pub seq_more : (x p a y : ℕ) → indent cs k x p → DashHere cs p → a ≡ p + 1 → Goes Entry (AfterEntry cs k) a Here y → Rest (any Dashes) (AfterSequence cs k) x (any Dashes) (AfterSequence cs k) y
  seq_more x p a y ind d f g = sequence_more cs (Unit {0}) handles (Unit {0}) (reads cs (Unit {0}) handles r) k x p y ind d (subst (λ z. Goes Entry (AfterEntry cs k) z Here y) f g)

  pub seq_no_more : (x p a : ℕ) → indent cs k x p → DashHere cs p → a ≡ p + 1 → Refused Entry (AfterEntry cs k) a → Refused (any Dashes) (AfterSequence cs k) x
  seq_no_more x p a ind d f n = sequence_no_more cs (Unit {0}) handles (Unit {0}) (reads cs (Unit {0}) handles r) k x p ind d (subst (Refused Entry (AfterEntry cs k)) f n)

  pub seq_done : (x : ℕ) → Stuck cs x → (Dash cs k x → ⊥) → Goes (any Dashes) (AfterSequence cs k) x Here x
  seq_done x st n = sequence_done cs (Unit {0}) handles (Unit {0}) (reads cs (Unit {0}) handles r) k x st n

  -- ---- mappings

  abbrev pub Pairs : Rule (List Event)
  Pairs = indent cs k ▸ map_entry_at cs (Unit {0}) handles r k

  abbrev Value : Rule (List Event)
  Value = value_rest cs (Unit {0}) handles r (k + 1) block_out

  abbrev Key : Rule (List Event)
  Key = key_rest cs (Unit {0}) handles r

  starts : (i j : ℕ) (v : List Event) → Inside cs i → Value i j v → Stands cs is_ns i → ⊥
  starts i j v o t = value_starts cs (Unit {0}) handles (Unit {0}) (reads cs (Unit {0}) handles r) (reads_facts cs (Unit {0}) handles r) (reads_eased cs (Unit {0}) handles r) (one_more cs (Unit {0}) handles r) (fwd_reads cs (Unit {0}) handles r) (reads_blocks cs (Unit {0}) handles r) k i j v o t

  keys : (i j : ℕ) (v : List Event) → map_entry_at cs (Unit {0}) handles r k i j v → KeyHere cs i
  keys i j v t = key_starts cs (Unit {0}) handles (Unit {0}) (reads cs (Unit {0}) handles r) (reads_facts cs (Unit {0}) handles r) (reads_eased cs (Unit {0}) handles r) (one_more cs (Unit {0}) handles r) (fwd_reads cs (Unit {0}) handles r) (reads_blocks cs (Unit {0}) handles r) k i j v t

  widen : (j m : ℕ) → AfterSequence cs k j m → AfterNode cs (k + 1) block_out j m
  widen j m (c, (l, n)) = (c, (l, subst (λ z. Dash cs z m → ⊥) (let e : k ≡ k + 1 - 1 = omega arith in e) n))

  value_goes : (x y : ℕ) → Goes Value (AfterNode cs (k + 1) block_out) x Here y → Goes Value (AfterSequence cs k) x Here y
  value_goes x y g = goes_until (AfterSequence cs k) widen g

  value_refused : (x : ℕ) → Refused Value (AfterNode cs (k + 1) block_out) x → Refused Value (AfterSequence cs k) x
  value_refused x n = refused_until (AfterSequence cs k) widen n

  pub map_first : (x y : ℕ) → Goes Value (AfterNode cs (k + 1) block_out) x Here y → Rest (entries_rest cs (Unit {0}) handles r k) (AfterMapping cs k) x (any Pairs) (AfterMapping cs k) y
  map_first x y g = values_first cs (Unit {0}) handles (Unit {0}) (reads cs (Unit {0}) handles r) k starts keys x y (value_goes x y g)

  pub map_no_first : (x : ℕ) → Refused Value (AfterNode cs (k + 1) block_out) x → Refused (entries_rest cs (Unit {0}) handles r k) (AfterMapping cs k) x
  map_no_first x n = values_refused cs (Unit {0}) handles (Unit {0}) (reads cs (Unit {0}) handles r) k starts keys x (value_refused x n)

  pub map_more : (x p y z : ℕ) → indent cs k x p → Stuck cs x → (Less cs k x → ⊥) → Goes Key (AfterColon cs) p Here y → Goes Value (AfterNode cs (k + 1) block_out) y Here z → Rest (any Pairs) (AfterMapping cs k) x (any Pairs) (AfterMapping cs k) z
  map_more x p y z ind st n f g = mapping_more cs (Unit {0}) handles (Unit {0}) (reads cs (Unit {0}) handles r) k starts keys x p y z ind st n (goes_at (Colon cs (Unit {0}) handles (Unit {0}) (reads cs (Unit {0}) handles r) k) f) (value_goes y z g)

  pub map_no_key : (x p : ℕ) → indent cs k x p → Stuck cs x → (Less cs k x → ⊥) → Refused Key (AfterColon cs) p → Refused (any Pairs) (AfterMapping cs k) x
  map_no_key x p ind st n f = mapping_no_more cs (Unit {0}) handles (Unit {0}) (reads cs (Unit {0}) handles r) k starts keys x p ind st n f

  pub map_no_value : (x p y : ℕ) → indent cs k x p → Stuck cs x → (Less cs k x → ⊥) → Goes Key (AfterColon cs) p Here y → Refused Value (AfterNode cs (k + 1) block_out) y → Refused (any Pairs) (AfterMapping cs k) x
  map_no_value x p y ind st n f g = mapping_no_value cs (Unit {0}) handles (Unit {0}) (reads cs (Unit {0}) handles r) k starts keys x p y ind st n (goes_at (Colon cs (Unit {0}) handles (Unit {0}) (reads cs (Unit {0}) handles r) k) f) (value_refused y g)

  pub map_done : (x : ℕ) → Stuck cs x → ((p : ℕ) → indent cs k x p → Fresh cs p → ⊥) → Goes (any Pairs) (AfterMapping cs k) x Here x
  map_done x st n = mapping_done cs (Unit {0}) handles (Unit {0}) (reads cs (Unit {0}) handles r) k starts keys x st (λ (p, ind, (f, d)). n p ind f)

module _ (s : Chars) (handles : Handles) (r : ℕ) (line : Line) (k : ℕ) (is : IsLine s line) where
  pub seq_further : IsFurther s line k → Refused (any (Dashes (text_of s) handles r k)) (AfterSequence (text_of s) k) (place_of s line.start)
  seq_further f = sequence_further (text_of s) (Unit {0}) handles (Unit {0}) (reads (text_of s) (Unit {0}) handles r) k line.column (place_of s line.start) (place_of s line.first) (right_of s line k is f) is.stuck

  pub map_further : IsFurther s line k → Refused (any (Pairs (text_of s) handles r k)) (AfterMapping (text_of s) k) (place_of s line.start)
  map_further f = mapping_further (text_of s) (Unit {0}) handles (Unit {0}) (reads (text_of s) (Unit {0}) handles r) k (starts (text_of s) handles r k) (keys (text_of s) handles r k) line.column (place_of s line.start) (place_of s line.first) (right_of s line k is f) is.stuck

  -- a line in the collection's column
  pub same_line : line.column ≡ k → indent (text_of s) k (place_of s line.start) (place_of s line.first)
  same_line e = subst (λ n. indent (text_of s) n (place_of s line.start) (place_of s line.first)) e is.spaces

  pub not_less : line.column ≡ k → (AtEnd (text_of s) (place_of s line.start) → ⊥) → (DocumentMark (text_of s) (place_of s line.start) → ⊥) → Less (text_of s) k (place_of s line.start) → ⊥
  not_less e n m = line_less (text_of s) k line.column (place_of s line.start) (place_of s line.first) is.spaces is.all (omega (arith, e)) n m
