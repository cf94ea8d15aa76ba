-- What is told of two sides.
use Rattle.std.proofs.Common.{◌≡◌, ℕ, ◌-◌, Bool, true, false, cond, List, length, refl, sym, subst}
use Rattle.std.specs.Prelude.{nat_le}
use Rattle.yaml_definitions.specs.model.Serial.{Document}
use Rattle.yaml_text.specs.declared.fault.Fault.{Fault}
use Rattle.yaml_text.specs.declared.fault.Fault.TheVariants as faults
use Rattle.yaml_tree.specs.Closing.{stream_trees}
use Rattle.yaml_tree.specs.Refused.{RefusesStream}
use Rattle.yaml_text.specs.declared.side.Side.{Side}
use Rattle.yaml_text.specs.declared.side.Side.TheVariants.{Left, Right}
use Rattle.yaml_canon.specs.Claims.{IsRead, GraphRefuses}
use Rattle.yaml_canon.specs.Comparing.{AreEqualInBoth, side_of_fault, RefusesDocuments, IsComposed, ComparerRefuses}

-- ---- equal keys

abbrev side_of : Bool → ℕ → ℕ → ℕ → ℕ → Side × Fault
side_of s n i k m = cond s (Right, faults.EqualKeys n i k) (Left, faults.EqualKeys m i k)

pub keys-refused : (ds es : List Document) (node i j : ℕ) (told : Side × Fault) (h : AreEqualInBoth ds es node i j) → told ≡ side_of_fault (length (stream_trees ds h.lefts)) (faults.EqualKeys node i j) → RefusesDocuments ds es told.0 told.1
keys-refused ds es node i j told h e =
    let nodes = length (stream_trees ds h.lefts) in
    subst (λ z. RefusesDocuments ds es z.0 z.1) (sym e) (by (nat_le nodes node) (node - nodes) i j node refl)
  where
    by : (s : Bool) (n k l m : ℕ) → side_of_fault (length (stream_trees ds h.lefts)) (faults.EqualKeys node i j) ≡ side_of s n k l m → RefusesDocuments ds es (side_of s n k l m).0 (side_of s n k l m).1
    by true n k l m q = record { node = node; i = i; j = j; equal = h; told = sym q }
    by false n k l m q = record { node = node; i = i; j = j; equal = h; told = sym q }

-- ---- two sides

pub refuses-left : (left right : List ℕ) (ds : List Document) (fault : Fault) → IsRead left ds → RefusesStream ds fault → ComparerRefuses left right Left fault
refuses-left left right ds (faults.UndefinedAlias e) r h = (ds, r, h)
refuses-left left right ds (faults.CyclicAlias e) r h = (ds, r, h)
refuses-left left right ds (faults.WrongKind e) r h = (ds, r, h)
refuses-left left right ds (faults.BadContent e) r h = (ds, r, h)
refuses-left left right ds (faults.IntRange e) r h = (ds, r, h)
refuses-left left right ds (faults.FloatRange e) r h = (ds, r, h)
refuses-left left right ds (faults.TooHigh e) r h = (ds, r, h)
refuses-left left right ds faults.OutOfMemory r h = tt
refuses-left left right ds _ r h = absurd h

pub refuses-right : (left right : List ℕ) (es : List Document) (fault : Fault) → IsComposed left → IsRead right es → RefusesStream es fault → ComparerRefuses left right Right fault
refuses-right left right es (faults.UndefinedAlias e) c r h = ((es, r, h), c)
refuses-right left right es (faults.CyclicAlias e) c r h = ((es, r, h), c)
refuses-right left right es (faults.WrongKind e) c r h = ((es, r, h), c)
refuses-right left right es (faults.BadContent e) c r h = ((es, r, h), c)
refuses-right left right es (faults.IntRange e) c r h = ((es, r, h), c)
refuses-right left right es (faults.FloatRange e) c r h = ((es, r, h), c)
refuses-right left right es (faults.TooHigh e) c r h = ((es, r, h), c)
refuses-right left right es faults.OutOfMemory c r h = (tt, c)
refuses-right left right es _ c r h = absurd h

-- the left side has no graph, or the right one has none
pub refuses-first : (left right : List ℕ) (fault : Fault) → GraphRefuses left fault → ComparerRefuses left right Left fault
refuses-first left right (faults.EqualKeys n i j) h = absurd h
refuses-first left right faults.TextTooLong h = absurd h
refuses-first left right _ h = h

pub refuses-second : (left right : List ℕ) (fault : Fault) → IsComposed left → GraphRefuses right fault → ComparerRefuses left right Right fault
refuses-second left right (faults.EqualKeys n i j) c h = absurd h
refuses-second left right faults.TextTooLong c h = absurd h
refuses-second left right _ c h = (h, c)

pub refuses-both : (left right : List ℕ) (ds es : List Document) (side : Side) (fault : Fault) → IsRead left ds → IsComposed left → IsRead right es → RefusesDocuments ds es side fault → ComparerRefuses left right side fault
refuses-both left right ds es Left (faults.EqualKeys n i k) p c q h = (ds, es, p, q, h)
refuses-both left right ds es Right (faults.EqualKeys n i k) p c q h = (ds, es, p, q, h)
refuses-both left right ds es Left fault p c q h = refuses-left left right ds fault p h
refuses-both left right ds es Right fault p c q h = refuses-right left right es fault c q h
