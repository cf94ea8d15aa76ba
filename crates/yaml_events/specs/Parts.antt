-- The parts of an event line: what each is, and what may be expected after it.
use Rattle.std.specs.Prelude.{◌≡◌, ◌≢◌, ◌⊎◌, ℕ, Bool, All, List, [], ◌∷◌, ◌++◌, codes}
use Rattle.yaml_definitions.specs.model.Event.{Event, Style, WrittenTag, Anchor, sequence_start, mapping_start, scalar_event, alias_event}
use Rattle.yaml_definitions.specs.model.Sound.{SoundTag, SoundAnchor}
use Rattle.yaml_definitions.specs.model.Tag.{IsTag}
use Rattle.yaml_definitions.specs.canonical.TagText.{encoded}
use Rattle.yaml_definitions.specs.model.EventText.{anchor_part, tag_part, style_text, value_text, flag_text, event_line, IsSound}

-- it is empty, or begins with a space
abbrev pub StartsApart : List ℕ → Type 0
StartsApart [] = Unit {0}
StartsApart (c ∷ r) = c ≡ 32

-- the same, and this sign does not stand after the space
abbrev pub StartsWithout : ℕ → List ℕ → Type 0
StartsWithout sign [] = Unit {0}
StartsWithout sign (c ∷ []) = c ≡ 32
StartsWithout sign (c ∷ d ∷ r) = (c ≡ 32) × (d ≡ sign → ⊥)

-- the text is cut before its first space, or at its end
abbrev pub IsCutAtSpace : List ℕ → List ℕ → List ℕ → Type 0
IsCutAtSpace text front back = (text ≡ front ++ back) × All (λ b. b ≢ 32) front × StartsApart back

-- an anchor, if there is one, and what follows it
abbrev pub IsAnchored : List ℕ → (Anchor × List ℕ) → Type 0
IsAnchored text p = SoundAnchor p.0 × (text ≡ anchor_part p.0 ++ p.1)

abbrev pub EndsAnchor : (Anchor × List ℕ) → Type 0
EndsAnchor p = StartsWithout 38 p.1

-- a tag, if there is one, and what follows it
abbrev pub IsTagged : List ℕ → (WrittenTag × List ℕ) → Type 0
IsTagged text p = SoundTag p.0 × (text ≡ tag_part p.0 ++ p.1)

abbrev pub EndsTag : (WrittenTag × List ℕ) → Type 0
EndsTag p = StartsWithout 60 p.1

-- a full tag, percent-encoded
abbrev pub IsEncoded : List ℕ → List ℕ → Type 0
IsEncoded text g = IsTag g × (text ≡ encoded g [])

-- an anchor and a tag, where there are, and what follows them
abbrev pub IsProps : List ℕ → (Anchor × WrittenTag × List ℕ) → Type 0
IsProps text p = SoundAnchor p.0 × SoundTag p.1 × (text ≡ anchor_part p.0 ++ (tag_part p.1 ++ p.2))

abbrev pub EndsProps : (Anchor × WrittenTag × List ℕ) → Type 0
EndsProps p = StartsWithout 38 p.2 × StartsWithout 60 p.2

-- a flow mark, if it stands there, and what follows it
abbrev pub IsMark : List ℕ → Type 0
IsMark mark = (mark ≡ codes " []") ⊎ (mark ≡ codes " {}")

abbrev pub IsCut : List ℕ → List ℕ → (Bool × List ℕ) → Type 0
IsCut mark text p = text ≡ flag_text p.0 mark ++ p.1

abbrev pub EndsMark : List ℕ → (Bool × List ℕ) → Type 0
EndsMark mark p = (r : List ℕ) → p.1 ≢ mark ++ r

-- whether a flow mark stands there, and the properties after it, up to the end
abbrev pub IsCollection : List ℕ → List ℕ → (Bool × Anchor × WrittenTag) → Type 0
IsCollection mark text p = SoundAnchor p.1 × SoundTag p.2 × (text ≡ flag_text p.0 mark ++ (anchor_part p.1 ++ tag_part p.2))

-- a style's sign and what follows it
abbrev pub IsSigned : List ℕ → (Style × List ℕ) → Type 0
IsSigned text p = text ≡ style_text p.0 ++ p.1

-- a scalar from its properties on
abbrev pub IsScalarLine : List ℕ → (Anchor × WrittenTag × Style × List ℕ) → Type 0
IsScalarLine text p = SoundAnchor p.0 × SoundTag p.1 × (text ≡ anchor_part p.0 ++ (tag_part p.1 ++ (style_text p.2 ++ value_text p.3)))

-- an event that has no properties, name or text
abbrev pub IsBare : Event → Type 0
IsBare (sequence_start flow a g) = ⊥
IsBare (mapping_start flow a g) = ⊥
IsBare (scalar_event a g y x) = ⊥
IsBare (alias_event name) = ⊥
IsBare _ = Unit {0}

-- a line and its event
abbrev pub IsLineOf : List ℕ → Event → Type 0
IsLineOf line e = IsSound e × (line ≡ event_line e)
