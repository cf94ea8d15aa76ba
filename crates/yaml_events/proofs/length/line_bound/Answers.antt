use Rattle.std.proofs.Common.{Global, ◌≡◌, ◌≤◌, ◌⊎◌, inl, inr, ℕ, ◌+◌, ◌*◌, Bool, true, false, [], ◌∷◌, ◌++◌, Option, arith, ap, refl, sym, subst, length}
use Rattle.std.specs.declared.borrow.CowStr.{CowStr}
use Rattle.yaml_definitions.specs.model.EventText.{anchor_part, tag_part, event_line}
use Rattle.yaml_text.specs.declared.event.Event as code
use Rattle.yaml_text.specs.declared.event.Event.TheVariants as events
use Rattle.yaml_text.specs.declared.event.EventTag as code_tag
use Rattle.yaml_text.specs.declared.event.Style as code_style
use Rattle.std.specs.Option.{option_map}
use Rattle.std.specs.Cow.{cow_str_bytes}
use Rattle.yaml_text.specs.EventModel.{event_of, written_of, style_of}
use Rattle.yaml_events.proofs.LineLengths.{scalar_short, sequence_short, mapping_short, alias_short}
use Rattle.yaml_events.proofs.length.line_bound.Goals as goal

abbrev Named : Type 0
Named = Option (CowStr Global)

abbrev long : code.Event → ℕ
long e = length (event_line (event_of e) ++ (10 ∷ []))

-- a line of words alone
bare_short : (e : code.Event) → ((f : Bool) (a : Named) (t : code_tag.EventTag) → e ≡ events.SequenceStart f a t → ⊥) → ((f : Bool) (a : Named) (t : code_tag.EventTag) → e ≡ events.MappingStart f a t → ⊥)
    → ((a : Named) (t : code_tag.EventTag) (s : code_style.Style) (x : CowStr Global) → e ≡ events.Scalar a t s x → ⊥) → ((x : CowStr Global) → e ≡ events.Alias x → ⊥) → long e ≤ 16
unfolding event_line
bare_short (events.SequenceStart f a t) s m v n = absurd (s f a t refl)
bare_short (events.MappingStart f a t) s m v n = absurd (m f a t refl)
bare_short (events.Scalar a t y x) s m v n = absurd (v a t y x refl)
bare_short (events.Alias x) s m v n = absurd (n x refl)
bare_short (events.DocumentStart true) s m v n = omega arith
bare_short (events.DocumentStart false) s m v n = omega arith
bare_short (events.DocumentEnd true) s m v n = omega arith
bare_short (events.DocumentEnd false) s m v n = omega arith
bare_short events.StreamStart s m v n = omega arith
bare_short events.StreamEnd s m v n = omega arith
bare_short events.SequenceEnd s m v n = omega arith
bare_short events.MappingEnd s m v n = omega arith

-- the line of a collection's start
started : (e : code.Event) (a : Named) (t : code_tag.EventTag) (n m : ℕ) → length (anchor_part (option_map cow_str_bytes a)) ≤ n + 2 → length (tag_part (written_of t)) ≤ 3 * m + 4
    → ((f : Bool) × (e ≡ events.SequenceStart f a t)) ⊎ ((f : Bool) × (e ≡ events.MappingStart f a t)) → long e ≤ 16 + n + 3 * m
started e a t n m h k (inl (f, i)) = subst (λ z. long z ≤ 16 + n + 3 * m) (sym i) (sequence_short f (option_map cow_str_bytes a) (written_of t) n m h k)
started e a t n m h k (inr (f, i)) = subst (λ z. long z ≤ 16 + n + 3 * m) (sym i) (mapping_short f (option_map cow_str_bytes a) (written_of t) n m h k)

pub returns-in-Scalar : goal.returns-in-Scalar
returns-in-Scalar c =
    rw c.in-Scalar.is (omega (
      arith,
      ap length c.as_str.ensures.value,
      scalar_short (option_map (cow_str_bytes {Z = Global}) c.in-Scalar.anchor) (written_of c.in-Scalar.tag) (style_of c.in-Scalar.style) (cow_str_bytes {Z = Global} c.in-Scalar.text)
          c.name_len.result c.tag_len.result c.name_len.ensures c.tag_len.ensures,
    ))

pub returns-in-Alias : goal.returns-in-Alias
returns-in-Alias c = rw c.in-Alias.is (omega (arith, ap length c.as_str-in-Alias.ensures.value, alias_short (cow_str_bytes {Z = Global} c.in-Alias.name)))

pub returns-in_default : goal.returns-in_default
returns-in_default c = bare_short c.args.event.now c.in_default.not-SequenceStart c.in_default.not-MappingStart c.in_default.not-Scalar c.in_default.not-Alias

pub returns-in-SequenceStart : goal.returns-in-SequenceStart
returns-in-SequenceStart c =
    let b = c.in-SequenceStart in
    started c.args.event.now b.anchor b.tag c.name_len-in-SequenceStart.result c.tag_len-in-SequenceStart.result c.name_len-in-SequenceStart.ensures c.tag_len-in-SequenceStart.ensures b.is
