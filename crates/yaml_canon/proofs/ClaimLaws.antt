-- From the layers' answers to what is promised of the bytes.
use Rattle.std.proofs.Common.{◌≡◌, ℕ, suc, ◌+◌, ◌*◌, ◌<◌, ◌≤◌, ◌⊎◌, List, [], ◌∷◌, length, map, refl, sym, ◌∙◌, ap, subst, arith}
use Rattle.std.specs.Prelude.{None}
use Rattle.std.specs.List.{All}
use Rattle.std.specs.Str.{encode_utf8_all}
use Rattle.std.proofs.lemmas.List.{append-nil}
use Rattle.yaml_definitions.specs.model.Event.{Event}
use Rattle.yaml_definitions.specs.model.Limits.{text_limit, height_limit}
use Rattle.yaml_definitions.specs.model.Tree.{Tree, height}
use Rattle.yaml_definitions.specs.model.Same.{Keyed}
use Rattle.yaml_definitions.specs.canonical.Spell.{spell_bytes}
use Rattle.yaml_definitions.specs.model.Proper.{AreAdmitted, Admitted}
use Rattle.yaml_definitions.specs.model.Sound.{AllProper}
use Rattle.yaml_definitions.specs.model.Means.{Means}
use Rattle.yaml_definitions.specs.model.Serial.{Document}
use Rattle.yaml_definitions.specs.model.Text.{Text}
use Rattle.yaml_text.specs.Refused.{RefusesText}
use Rattle.yaml_definitions.specs.grammar.Reading.{Reads}
use Rattle.yaml_text.specs.LeafAnswer.{IsRefusal}
use Rattle.yaml_definitions.proofs.MeaningLaws.{meaning_is_proper}
use Rattle.yaml_definitions.proofs.Law.{texts_tell}
use Rattle.yaml_text.specs.declared.fault.Fault.{Fault}
use Rattle.yaml_text.specs.declared.fault.Fault.TheVariants as faults
use Rattle.law_one_reading.proofs.Documents.{one_reading, one_meaning}
use Rattle.yaml_read.specs.Decided.{HasNoReading as NoReading}
use Rattle.yaml_text.proofs.UnreadLaws.{no_stream}
use Rattle.law_length.specs.Sizes.{texts_bytes}
use Rattle.law_length.proofs.Contents.{tag_light}
use Rattle.law_length.proofs.Numbers.{text_light}
use Rattle.law_length.proofs.Forests.{meaning_bounded}
use Rattle.yaml_tree.specs.Refused.{RefusesStream}
use Rattle.yaml_spell.specs.Pieces.{Began, Puts, Fails}
use Rattle.yaml_spell.specs.Documents.{spell_more, arranged_more, arranged_bytes, RefusesArranged}
use Rattle.yaml_store_rank.specs.Walked.{walked_tree}
use Rattle.yaml_canon.specs.Ranks.{HasRanks}
use Rattle.yaml_canon.specs.declared.ranks.RankedForest.{RankedForest}
use Rattle.yaml_canon.specs.Claims.{AllOf, MeansAlone, IsArranged, IsCanonicalText, IsRead, CanonicalRefuses, GraphRefuses}
use Rattle.yaml_spell.proofs.DocumentLaws.{arranged_same, spell_whole}

-- ---- the whole text

abbrev nowhere : Began
nowhere = record { number = 0; held = None }

module _ {S T : Type 0} (bytes : T → List ℕ) where
  pub whole_text : (s t : S) (o p : T) (ts : List Tree) → bytes o ≡ [] → Puts (λ _ out _ xs. bytes out ≡ xs) s o t p (arranged_more ts) → bytes p ≡ arranged_bytes ts
  whole_text s t o p ts e h =
      let a = h.is nowhere [] e in
      a.1 ∙ sym (append-nil a.0) ∙ a.2.is []

  pub text_refused : (s : S) (o p : T) (fault : Fault) (ts : List Tree) (g : List ℕ → List ℕ) → bytes o ≡ [] → Fails (λ _ out _ xs. bytes out ≡ xs) (λ _ _ z _. z ≡ faults.OutOfMemory) s o p fault g → RefusesArranged ts fault
  text_refused s o p fault ts g e h = subst (RefusesArranged ts) (sym (h.is nowhere [] [] e)) tt

-- ---- documents

pub all_of : (P : Tree → Type 0) (f : List Tree) → All P f → AllOf P f
all_of P [] h = tt
all_of P (t ∷ f) h = (h 0 t (omega arith), all_of P f (λ k d l. h (suc k) d (omega arith)))

pub all_roots : (P : Tree → Type 0) (f : ℕ → Tree) (roots : List ℕ) (n : ℕ) → ((i : ℕ) → i < n → P (f i)) → All (λ i. i < n) roots → AllOf P (map f roots)
all_roots P f [] n h w = tt
all_roots P f (r ∷ roots) n h w = (h r (w 0 r (omega arith)), all_roots P f roots n h (λ k d l. w (suc k) d (omega arith)))

-- it is all that they mean
pub means_alone : (bytes : List ℕ) (f : List Tree) → Means bytes f → AllOf (λ t. height t ≤ height_limit) f → AllOf Keyed f → MeansAlone bytes f
means_alone bytes f m l k = record { means = m; only = λ h n. one_meaning bytes h f n m; low = l; keyed = k }

-- bytes that mean a forest are a text
pub is_text : (bytes : List ℕ) (f : List Tree) → Means bytes f → ((cs : List ℕ) → Text bytes cs → ⊥) → ⊥
unfolding Reads
is_text bytes f m never = let (cs, t, r) = m.reads in never cs t

-- ---- a forest, arranged

map-itself : {X : Type 0} (xs : List X) → map (λ x. x) xs ≡ xs
map-itself [] = refl
map-itself (x ∷ xs) = ap (λ z. x ∷ z) (map-itself xs)

pub arranged_ranks : (bytes : List ℕ) (f : RankedForest) (roots : List ℕ) → HasRanks bytes f → roots ≡ f.roots.items → IsArranged bytes (map (walked_tree f.ranked) roots)
arranged_ranks bytes f roots h e = subst (λ z. IsArranged bytes (map (walked_tree f.ranked) z)) (sym e) (record {
  forest = h.trees;
  accepted = record {
    means = h.means;
    only = λ g n. one_meaning bytes g h.trees n h.means;
    low = all_of (λ t. height t ≤ height_limit) h.trees h.low;
    keyed = all_of Keyed h.trees h.keyed;
  };
  text = ap arranged_bytes h.arranged ∙ ap encode_utf8_all (arranged_same (λ t. t) h.trees []) ∙ ap (λ z. encode_utf8_all (spell_more z [])) (map-itself h.trees) ∙ spell_whole h.trees;
})

are_admitted : (f : List Tree) → AllProper f → AllOf Keyed f → AllOf (λ t. height t ≤ height_limit) f → AreAdmitted f
are_admitted [] p k l = tt
are_admitted (t ∷ f) p k l = (record { proper = p.0; keyed = k.0; low = l.0 }, are_admitted f p.1 k.1 l.1)

abbrev IsWithin : List ℕ → List Event → Type 0
IsWithin text events = length text ≤ 4 * texts_bytes events + 4096 * length events

pub canonical_text : (bytes text : List ℕ) (f : List Tree) → MeansAlone bytes f → text ≡ spell_bytes f → length text ≤ text_limit → IsCanonicalText bytes text
canonical_text bytes text f a e l =
    let admitted : Admitted f = record { trees = are_admitted f (meaning_is_proper bytes f a.means) a.keyed a.low; fits = subst (λ z. length z ≤ text_limit) e l } in
    record {
      forest = f;
      accepted = a;
      admitted = admitted;
      spelled = e;
      tells = λ g h.
          let t = texts_tell f g admitted h in
          (λ q. t.0 (sym e ∙ sym q), λ q. sym (t.1 q) ∙ sym e);
      bounded = λ events r. subst (IsWithin text) (one_reading bytes a.means.events events a.means.reads r) (subst (λ z. IsWithin z a.means.events) (sym e) (meaning_bounded tag_light text_light bytes f a.means admitted));
    }

-- a text that was made of ranked nodes
pub text_arranged : (bytes text : List ℕ) (ts : List Tree) → IsArranged bytes ts → text ≡ arranged_bytes ts → length text ≤ text_limit → IsCanonicalText bytes text
text_arranged bytes text ts a e l = canonical_text bytes text a.forest a.accepted (e ∙ a.text) l

-- ---- refusals

pub refused_text : (bytes : List ℕ) (fault : Fault) → RefusesText bytes fault → GraphRefuses bytes fault
refused_text bytes faults.TooLong h = h
refused_text bytes (faults.NotUtf8 at) h = h
refused_text bytes (faults.NotPrintable at) h = h
refused_text bytes _ h = absurd h

pub refused_reading : (bytes text : List ℕ) (fault : Fault) → Text bytes text → IsRefusal fault → (fault ≡ faults.OutOfMemory) ⊎ NoReading text → GraphRefuses bytes fault
refused_reading bytes text (faults.Syntax at) t h d = no_stream bytes text (faults.Syntax at) t d (λ e. absurd (cc))
refused_reading bytes text (faults.Tab at) t h d = no_stream bytes text (faults.Tab at) t d (λ e. absurd (cc))
refused_reading bytes text (faults.KeyTooLong at) t h d = no_stream bytes text (faults.KeyTooLong at) t d (λ e. absurd (cc))
refused_reading bytes text (faults.TooDeep at) t h d = no_stream bytes text (faults.TooDeep at) t d (λ e. absurd (cc))
refused_reading bytes text (faults.BadEscape at) t h d = no_stream bytes text (faults.BadEscape at) t d (λ e. absurd (cc))
refused_reading bytes text (faults.BadDirective at) t h d = no_stream bytes text (faults.BadDirective at) t d (λ e. absurd (cc))
refused_reading bytes text (faults.UnknownHandle at) t h d = no_stream bytes text (faults.UnknownHandle at) t d (λ e. absurd (cc))
refused_reading bytes text (faults.BadTag at) t h d = no_stream bytes text (faults.BadTag at) t d (λ e. absurd (cc))
refused_reading bytes text faults.OutOfMemory t h d = tt
refused_reading bytes text _ t h d = absurd h

pub refused_composing : (bytes : List ℕ) (ds : List Document) (fault : Fault) → IsRead bytes ds → RefusesStream ds fault → GraphRefuses bytes fault
refused_composing bytes ds (faults.UndefinedAlias e) r h = (ds, r, h)
refused_composing bytes ds (faults.CyclicAlias e) r h = (ds, r, h)
refused_composing bytes ds (faults.WrongKind e) r h = (ds, r, h)
refused_composing bytes ds (faults.BadContent e) r h = (ds, r, h)
refused_composing bytes ds (faults.IntRange e) r h = (ds, r, h)
refused_composing bytes ds (faults.FloatRange e) r h = (ds, r, h)
refused_composing bytes ds (faults.TooHigh e) r h = (ds, r, h)
refused_composing bytes ds faults.OutOfMemory r h = tt
refused_composing bytes ds _ r h = absurd h

-- bytes without a graph have no canonical text
pub refused_graph : (bytes : List ℕ) (fault : Fault) → GraphRefuses bytes fault → CanonicalRefuses bytes fault
refused_graph bytes (faults.EqualKeys n i j) h = absurd h
refused_graph bytes faults.TextTooLong h = absurd h
refused_graph bytes _ h = h

pub refused_arranged : (bytes : List ℕ) (ts : List Tree) (fault : Fault) → IsArranged bytes ts → RefusesArranged ts fault → CanonicalRefuses bytes fault
refused_arranged bytes ts faults.TextTooLong a h = (a.forest, a.accepted, subst (λ z. text_limit < length z) a.text h)
refused_arranged bytes ts faults.OutOfMemory a h = tt
refused_arranged bytes ts _ a h = absurd h
