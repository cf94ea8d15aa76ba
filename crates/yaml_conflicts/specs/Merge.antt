-- The merge of two changes of one tree.
use Rattle.std.specs.Prelude.{◌≡◌, ◌⊎◌, Bool, true, false, ◌&&◌, ◌||◌, bytes_eq, [], ◌∷◌, Option, Some, None}
use Rattle.yaml_definitions.specs.model.Tree.{Tree, mapping}
use Rattle.yaml_definitions.specs.model.Same.{same, keyed}
use Rattle.yaml_path.specs.Path.{Path, part_of, see}

-- ---- one place: what the base, ours, theirs and the merge have there

-- both are the same value, or neither is there
abbrev pub alike : Option Tree → Option Tree → Bool
alike None None = true
alike (Some t) (Some u) = same t u
alike _ _ = false

-- Ours is as the base, and the merge has theirs; or theirs is as the base, and the merge has ours; or both sides are alike, and the merge has that.
abbrev pub follows : (b o t m : Option Tree) → Bool
follows b o t m = (alike o b && alike m t) || ((alike t b && alike m o) || (alike o t && alike m o))

-- one side is as the base, or both sides are alike
abbrev pub is_ruled : (b o t : Option Tree) → Bool
is_ruled b o t = alike o b || (alike t b || alike o t)

-- both are mappings of one tag
abbrev pub one_shape : Option Tree → Option Tree → Bool
one_shape (Some (mapping a ps)) (Some (mapping b qs)) = bytes_eq a b
one_shape _ _ = false

-- All four are mappings of one tag. Then each value is merged by its key. Everything else is one value. So is a sequence: at one place, each side may have another item.
abbrev pub opens : (b o t m : Option Tree) → Bool
opens b o t m = one_shape b o && (one_shape b t && one_shape b m)

-- what is asked of one place: of a merge that is given, whether it follows; and else, whether one can
abbrev pub settled : (given : Bool) → (b o t m : Option Tree) → Bool
settled true b o t m = follows b o t m
settled false b o t m = is_ruled b o t

-- ---- all places

-- The path leads through mappings to a place that is not settled and does not open; and no place above it is settled.
abbrev pub Breaks : (given : Bool) → Path → (b o t m : Option Tree) → Type 0
Breaks given [] b o t m = (settled given b o t m ≡ false) × (opens b o t m ≡ false)
Breaks given (s ∷ p) b o t m = (settled given b o t m ≡ false) × (opens b o t m ≡ true) × Breaks given p (part_of b s) (part_of o s) (part_of t s) (part_of m s)

-- both sides changed what stands at this path, each in its own way, and it is one value
abbrev pub Conflicts : Path → (b o t : Option Tree) → Type 0
Conflicts p b o t = Breaks false p b o t b

-- what stands at this path of the merge is not what the rules say
abbrev pub Strays : Path → (b o t m : Option Tree) → Type 0
Strays p b o t m = Breaks true p b o t m

-- the merge of ours and theirs, which were changed from the base
abbrev pub IsMerge : (b o t m : Option Tree) → Type 0
IsMerge b o t m = (p : Path) → Strays p b o t m → ⊥

-- ---- what a merge shows

-- of what the four show at a path: a side that did not change gives way, and two that changed alike are one
abbrev pub Shows : {X : Type 0} → X → X → X → X → Type 0
Shows b o t m = ((o ≡ b) × (m ≡ t)) ⊎ (((t ≡ b) × (m ≡ o)) ⊎ ((o ≡ t) × (m ≡ o)))

abbrev pub ShowsAt : Path → (b o t m : Option Tree) → Type 0
ShowsAt p b o t m = Shows (see b p) (see o p) (see t p) (see m p)

-- no mapping has two entries with the same key
abbrev pub IsKeyed : Option Tree → Type 0
IsKeyed None = Unit {0}
IsKeyed (Some t) = keyed t ≡ true
