-- From why one side is refused to what is told of both.
use Rattle.std.proofs.Common.{◌≡◌, ◌⊎◌, ℕ, inl, inr, Bool, List, length, refl, sym, ◌∙◌, ap, subst}
use Rattle.std.specs.Prelude.{Result, Ok, Err, IfOk, IfErr}
use Rattle.std.specs.Result.{IsErrAnd}
use Rattle.yaml_definitions.specs.model.Text.{Text}
use Rattle.yaml_definitions.specs.model.Tree.{Tree}
use Rattle.yaml_definitions.specs.model.Serial.{Document, stream_events}
use Rattle.yaml_definitions.specs.model.Unfold.{trees_of}
use Rattle.yaml_definitions.specs.grammar.Reading.{Reads}
use Rattle.yaml_text.specs.Refused.{RefusesText}
use Rattle.yaml_text.specs.declared.fault.Fault.{Fault}
use Rattle.yaml_text.specs.declared.fault.Fault.TheVariants as faults
use Rattle.yaml_tree.specs.Closing.{stream_trees}
use Rattle.yaml_tree_builder.specs.Reached.{UnfoldTo}
use Rattle.yaml_tree_builder.specs.declared.size.StreamSize.{StreamSize}
use Rattle.yaml_text.specs.declared.side.Side.{Side}
use Rattle.yaml_text.specs.declared.side.Side.TheVariants.{Left, Right}
use Rattle.yaml_canon.specs.Claims.{IsRead, GraphRefuses}
use Rattle.yaml_canon.specs.Comparing.{Compares, AreEqualInBoth, IsComposable, IsComposed, side_of_fault}
use Rattle.yaml_canon.specs.RefusedRanks.{RefusesBothRanks}
use Rattle.yaml_canon.specs.Refused.{Refuses, RefusesSide}
use Rattle.yaml_canon.proofs.AcceptLaws.{same-trees}
use Rattle.yaml_canon.proofs.ClaimLaws.{is_text}
use Rattle.yaml_canon.proofs.CompareLaws.{keys-refused, refuses-first, refuses-second, refuses-both}
use Rattle.yaml_canon.proofs.PlacedLaws.{documents_elsewhere}
use Rattle.yaml_canon.proofs.RefusedLaws.{read-text}

-- ---- one side

pub left-refused : (left right : List ℕ) (fault : Fault) → Refuses GraphRefuses left fault → RefusesSide left right Left fault
left-refused left right fault h = record {
  refused = refuses-first left right fault h.refused;
  placed = h.placed;
  no_left = λ never. (refl, h.no_text never);
  no_right = λ never. inl refl;
}

pub right-refused : (left right : List ℕ) (fault : Fault) → IsComposed left → Refuses GraphRefuses right fault → RefusesSide left right Right fault
right-refused left right fault k h = record {
  refused = refuses-second left right fault k h.refused;
  placed = h.placed;
  no_left = λ never. absurd (read-text left k.0 k.1 never);
  no_right = λ never. inr (refl, h.no_text never);
}

-- memory is wanting once the left side is composed
pub memory-wants : (left right : List ℕ) → IsComposed left → RefusesSide left right Left faults.OutOfMemory
memory-wants left right k = record { refused = tt; placed = tt; no_left = λ never. absurd (read-text left k.0 k.1 never); no_right = λ never. inl refl }

-- its documents unfold
unfolds-low : (ds : List Document) (size : StreamSize) → UnfoldTo ds size → IsComposable ds
unfolds-low ds size u = (u.trees_are, u.unfolded, u.low)

-- the left side is composed
pub composed-left : (left : List ℕ) (ds : List Document) (size : StreamSize) → Reads left (stream_events ds) → UnfoldTo ds size → IsComposed left
composed-left left ds size r u = (ds, record { reads = r }, unfolds-low ds size u)

-- ---- equal keys

-- so many nodes are the left side's
left-nodes : (ds : List Document) (size : StreamSize) → UnfoldTo ds size → (ts : List Tree) → trees_of ds ≡ Ok ts → size.nodes ≡ length (stream_trees ds ts)
left-nodes ds size u ts e = u.nodes ∙ ap (λ us. length (stream_trees ds us)) (same-trees u.trees_are ts ds u.unfolded e)

keys-told : (left right : List ℕ) (ds es : List Document) (size : StreamSize) (node i j : ℕ) (told : Side × Fault) → IsRead left ds → IsRead right es → UnfoldTo ds size → AreEqualInBoth ds es node i j
    → told ≡ side_of_fault size.nodes (faults.EqualKeys node i j) → RefusesSide left right told.0 told.1
keys-told left right ds es size node i j told p q u h w =
    let refused = keys-refused ds es node i j told h (w ∙ ap (λ n. side_of_fault n (faults.EqualKeys node i j)) (left-nodes ds size u h.lefts h.first_unfolded)) in
    record {
      refused = refuses-both left right ds es told.0 told.1 p (ds, p, unfolds-low ds size u) q refused;
      placed = documents_elsewhere left right ds es told.0 told.1 refused;
      no_left = λ never. absurd (read-text left ds p never);
      no_right = λ never. absurd (read-text right es q never);
    }

-- nodes of both without ranks
pub both-unranked : (left right : List ℕ) (ds es : List Document) (size : StreamSize) (fault : Fault) (told : Side × Fault) → IsRead left ds → IsRead right es → UnfoldTo ds size → RefusesBothRanks ds es fault → told ≡ side_of_fault size.nodes fault → RefusesSide left right told.0 told.1
both-unranked left right ds es size (faults.EqualKeys node i j) told p q u h w = keys-told left right ds es size node i j told p q u h w
both-unranked left right ds es size faults.OutOfMemory told p q u h w = subst (λ r. RefusesSide left right r.0 r.1) (sym w) (memory-wants left right (ds, p, unfolds-low ds size u))
both-unranked left right ds es size _ told p q u h w = absurd h

-- ---- an answer

module _ (left right : List ℕ) where
  pub no-left : (r : Result Bool (Side × Fault)) → IfOk r (Compares left right) → IfErr r (λ x. RefusesSide left right x.0 x.1) → ((cs : List ℕ) → Text left cs → ⊥) → IsErrAnd r (λ x. (x.0 ≡ Left) × RefusesText left x.1)
  no-left (Ok answer) o e never = absurd (is_text left o.first o.first_accepted.means never)
  no-left (Err x) o e never = e.no_left never

  pub no-right : (r : Result Bool (Side × Fault)) → IfOk r (Compares left right) → IfErr r (λ x. RefusesSide left right x.0 x.1) → ((cs : List ℕ) → Text right cs → ⊥) → IsErrAnd r (λ x. (x.0 ≡ Left) ⊎ ((x.0 ≡ Right) × RefusesText right x.1))
  no-right (Ok answer) o e never = absurd (is_text right o.second o.second_accepted.means never)
  no-right (Err x) o e never = e.no_right never
