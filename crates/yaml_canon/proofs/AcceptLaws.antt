-- Bytes that mean an admitted forest are refused for want of memory alone.
use Rattle.std.proofs.Common.{◌≡◌, ℕ, zero, suc, ◌≤◌, inl, inr, Bool, true, false, ◌&&◌, List, [], ◌∷◌, ◌++◌, length, refl, sym, ◌∙◌, ap, subst, arith}
use Rattle.std.specs.Prelude.{Result, Ok, Err, Some, IfOk, IfErr, MatchResult}
use Rattle.std.specs.List.{slice_get}
use Rattle.yaml_definitions.specs.model.Limits.{text_limit, height_limit}
use Rattle.yaml_definitions.specs.model.Tree.{Tree, Trees, Pairs, scalar, sequence, mapping, end, item, done, entry, height}
use Rattle.yaml_definitions.specs.model.Same.{Keyed, keyed, keyed_trees, keyed_pairs}
use Rattle.yaml_definitions.specs.canonical.Spell.{spell_bytes}
use Rattle.yaml_definitions.specs.model.Proper.{AreAdmitted, Admitted}
use Rattle.yaml_text.specs.Refused.{RefusesText}
use Rattle.yaml_definitions.specs.model.Unfold.{trees_of}
use Rattle.yaml_definitions.specs.model.Core.{Cause}
use Rattle.yaml_definitions.specs.model.Means.{Means}
use Rattle.yaml_definitions.specs.model.Serial.{SerialNode, SerialNodes, SerialPairs, alias_at, scalar_at, sequence_at, mapping_at, end_serial, item_serial, done_serial, entry_serial, Document}
use Rattle.yaml_definitions.specs.grammar.Reading.{Reads}
use Rattle.yaml_text.specs.declared.fault.Fault.{Fault}
use Rattle.yaml_text.specs.declared.fault.Fault.TheVariants as faults
use Rattle.yaml_text.proofs.RefusedText.{refused_is_no_text}
use Rattle.yaml_definitions.proofs.SameLaws.{keyed_parts}
use Rattle.yaml_definitions.proofs.FlatLaws.{stream_once}
use Rattle.law_one_reading.proofs.Documents.{one_reading}
use Rattle.law_read_back.specs.Spellings.{MeansLike}
use Rattle.law_read_back.proofs.Meanings.{spellings_mean, blocks_mean}
use Rattle.yaml_tree.specs.Closing.{trees_inside, trees_inside_all, trees_inside_pairs, stream_trees}
use Rattle.yaml_tree.specs.Refused.{RefusesStream}
use Rattle.yaml_tree.specs.FirstRepeat.{IsFirstRepeat}
use Rattle.yaml_tree.proofs.FirstRepeats.{tree-none}
use Rattle.yaml_canon.specs.Claims.{AllOf, IsCanonicalText, IsRead, CanonicalRefuses}
use Rattle.yaml_canon.specs.Accepting.{IsSpelling, IsMemory, SpellingsAreAccepted, SpellingsHaveTheText}

-- ---- where a tree has no equal keys, none of its nodes has

pub all-append : (P : Tree → Type 0) (ts us : List Tree) → AllOf P ts → AllOf P us → AllOf P (ts ++ us)
all-append P [] us k l = l
all-append P (t ∷ ts) us k l = (k.0, all-append P ts us k.1 l)

both : (a b : Bool) → (a && b) ≡ true → (a ≡ true) × (b ≡ true)
both true b e = (refl, e)
both false b e = absurd (cc)

mutual
  unfolding trees_inside

  keyed-node : (m : SerialNode) (t : Tree) → keyed t ≡ true → AllOf Keyed (trees_inside m t)
  keyed-node (alias_at name) t k = tt
  keyed-node (scalar_at a g y x) t k = (k, tt)
  keyed-node (sequence_at a g b ms) (sequence w ts) k = all-append Keyed (trees_inside_all ms ts) (sequence w ts ∷ []) (keyed-all ms ts k) (k, tt)
  keyed-node (sequence_at a g b ms) (scalar w x) k = tt
  keyed-node (sequence_at a g b ms) (mapping w ps) k = tt
  keyed-node (mapping_at a g b ps) (mapping w qs) k = all-append Keyed (trees_inside_pairs ps qs) (mapping w qs ∷ []) (keyed-entries ps qs k) (k, tt)
  keyed-node (mapping_at a g b ps) (scalar w x) k = tt
  keyed-node (mapping_at a g b ps) (sequence w ts) k = tt

  keyed-all : (ms : SerialNodes) (ts : Trees) → keyed_trees ts ≡ true → AllOf Keyed (trees_inside_all ms ts)
  keyed-all end_serial ts k = tt
  keyed-all (item_serial m ms) end k = tt
  keyed-all (item_serial m ms) (item t ts) k =
      let h = both (keyed t) (keyed_trees ts) k in
      all-append Keyed (trees_inside m t) (trees_inside_all ms ts) (keyed-node m t h.0) (keyed-all ms ts h.1)

  keyed-entries : (ps : SerialPairs) (qs : Pairs) → keyed_pairs qs ≡ true → AllOf Keyed (trees_inside_pairs ps qs)
  keyed-entries done_serial qs k = tt
  keyed-entries (entry_serial i j ps) done k = tt
  keyed-entries (entry_serial i j ps) (entry t u qs) k =
      let h = keyed_parts t u qs k in
      all-append Keyed (trees_inside i t) (trees_inside j u ++ trees_inside_pairs ps qs) (keyed-node i t h.0)
      (all-append Keyed (trees_inside j u) (trees_inside_pairs ps qs) (keyed-node j u h.1) (keyed-entries ps qs h.3))

keyed-stream : (ds : List Document) (ts : List Tree) → AllOf Keyed ts → AllOf Keyed (stream_trees ds ts)
unfolding stream_trees
keyed-stream [] ts k = tt
keyed-stream (d ∷ ds) [] k = tt
keyed-stream (d ∷ ds) (t ∷ ts) k = all-append Keyed (trees_inside d.root t) (stream_trees ds ts) (keyed-node d.root t k.0) (keyed-stream ds ts k.1)

keyed-at : (ts : List Tree) (i : ℕ) (u : Tree) → AllOf Keyed ts → slice_get ts i ≡ Some u → keyed u ≡ true
keyed-at [] i u k e = absurd (cc)
keyed-at (t ∷ ts) zero u k e = let q : t ≡ u = cc in subst (λ z. keyed z ≡ true) q k.0
keyed-at (t ∷ ts) (suc i) u k e = keyed-at ts i u k.1 e

-- none of them is the first with equal keys
pub keyed-none : (ts : List Tree) (n i j : ℕ) → AllOf Keyed ts → IsFirstRepeat ts n i j → ⊥
keyed-none ts n i j k h = tree-none h.tree i j (keyed-at ts n h.tree k h.is) h.repeats

all-keyed : (f : List Tree) → AreAdmitted f → AllOf Keyed f
all-keyed [] a = tt
all-keyed (t ∷ f) a = (a.0.keyed, all-keyed f a.1)

low-at : (f : List Tree) (n : ℕ) (t : Tree) → AreAdmitted f → slice_get f n ≡ Some t → height t ≤ height_limit
low-at [] n t a e = absurd (cc)
low-at (u ∷ f) zero t a e = let q : u ≡ t = cc in subst (λ z. height z ≤ height_limit) q a.0.low
low-at (u ∷ f) (suc n) t a e = low-at f n t a.1 e

pub same-trees : (f g : List Tree) (ds : List Document) → trees_of ds ≡ Ok f → trees_of ds ≡ Ok g → f ≡ g
same-trees f g ds h k = let q : ◌≡◌ {A = Result (List Tree) (Cause × ℕ)} (Ok f) (Ok g) = sym h ∙ k in cc

no-trees : (f : List Tree) (e : Cause × ℕ) (ds : List Document) → trees_of ds ≡ Ok f → trees_of ds ≡ Err e → ⊥
no-trees f e ds h k = let q : ◌≡◌ {A = Result (List Tree) (Cause × ℕ)} (Ok f) (Err e) = sym h ∙ k in cc

-- ---- one side

module _ (bytes : List ℕ) (f : List Tree) (a : Admitted f) (m : Means bytes f) where
  -- the documents that the bytes are read as unfold to this forest
  unfolds : (ds : List Document) → IsRead bytes ds → trees_of ds ≡ Ok f
  unfolds ds r =
      let e = one_reading bytes m.events _ m.reads r.reads in
      ap trees_of (sym (stream_once m.stands.documents ds (sym m.stands.cut ∙ e))) ∙ m.stands.unfolded

  composing : (ds : List Document) (fault : Fault) → IsRead bytes ds → RefusesStream ds fault → IsMemory fault
  composing ds (faults.UndefinedAlias e) r h = absurd (no-trees f _ ds (unfolds ds r) h)
  composing ds (faults.CyclicAlias e) r h = absurd (no-trees f _ ds (unfolds ds r) h)
  composing ds (faults.WrongKind e) r h = absurd (no-trees f _ ds (unfolds ds r) h)
  composing ds (faults.BadContent e) r h = absurd (no-trees f _ ds (unfolds ds r) h)
  composing ds (faults.IntRange e) r h = absurd (no-trees f _ ds (unfolds ds r) h)
  composing ds (faults.FloatRange e) r h = absurd (no-trees f _ ds (unfolds ds r) h)
  composing ds (faults.TooHigh n) r h =
      let q : h.trees ≡ f = same-trees h.trees f ds h.unfolded (unfolds ds r) in
      let l : height h.tree ≤ height_limit = low-at f n h.tree a.trees (subst (λ z. slice_get z n ≡ Some h.tree) q h.is) in
      let b = h.high in
      absurd (omega (arith, l, b))
  composing ds faults.OutOfMemory r h = refl
  composing ds _ r h = absurd h

  pub nodes-keyed : (ds : List Document) (ts : List Tree) → IsRead bytes ds → trees_of ds ≡ Ok ts → AllOf Keyed (stream_trees ds ts)
  nodes-keyed ds ts r u = keyed-stream ds ts (subst (AllOf Keyed) (same-trees f ts ds (unfolds ds r) u) (all-keyed f a.trees))

  no-refused-text : (fault : Fault) → RefusesText bytes fault → ⊥
  unfolding Reads
  no-refused-text fault h = let (cs, t, r) = m.reads in refused_is_no_text bytes cs fault h t

  -- whatever `canonical` may refuse of these bytes is want of memory
  pub memory : (fault : Fault) → CanonicalRefuses bytes fault → IsMemory fault
  memory faults.TooLong h = absurd (no-refused-text faults.TooLong h)
  memory (faults.NotUtf8 at) h = absurd (no-refused-text (faults.NotUtf8 at) h)
  memory (faults.NotPrintable at) h = absurd (no-refused-text (faults.NotPrintable at) h)
  memory (faults.Syntax at) h = absurd (h.unread m.events m.reads)
  memory (faults.Tab at) h = absurd (h.unread m.events m.reads)
  memory (faults.KeyTooLong at) h = absurd (h.unread m.events m.reads)
  memory (faults.TooDeep at) h = absurd (h.unread m.events m.reads)
  memory (faults.BadEscape at) h = absurd (h.unread m.events m.reads)
  memory (faults.BadDirective at) h = absurd (h.unread m.events m.reads)
  memory (faults.UnknownHandle at) h = absurd (h.unread m.events m.reads)
  memory (faults.BadTag at) h = absurd (h.unread m.events m.reads)
  memory (faults.UndefinedAlias e) (ds, r, h) = composing ds (faults.UndefinedAlias e) r h
  memory (faults.CyclicAlias e) (ds, r, h) = composing ds (faults.CyclicAlias e) r h
  memory (faults.WrongKind e) (ds, r, h) = composing ds (faults.WrongKind e) r h
  memory (faults.BadContent e) (ds, r, h) = composing ds (faults.BadContent e) r h
  memory (faults.IntRange e) (ds, r, h) = composing ds (faults.IntRange e) r h
  memory (faults.FloatRange e) (ds, r, h) = composing ds (faults.FloatRange e) r h
  memory (faults.TooHigh n) (ds, r, h) = composing ds (faults.TooHigh n) r h
  memory (faults.EqualKeys n i j) (ds, ts, r, u, l, h) = absurd (keyed-none (stream_trees ds ts) n i j (nodes-keyed ds ts r u) h)
  memory faults.TextTooLong (g, k, l) =
      let fits : length (spell_bytes g) ≤ text_limit = subst (λ z. length (spell_bytes z) ≤ text_limit) (k.only f m) a.fits in
      absurd (omega (arith, l, fits))
  memory faults.OutOfMemory h = refl
  memory _ h = absurd h

  pub text-is : (text : List ℕ) → IsCanonicalText bytes text → text ≡ spell_bytes f
  text-is text c = c.spelled ∙ ap spell_bytes (sym (c.accepted.only f m))

-- ---- an answer

module _ {T : Type 0} (bytes_of : T → List ℕ) (bytes : List ℕ) where
  abbrev Gives : Result T Fault → Type 0
  Gives r = (f : List Tree) → Admitted f → Means bytes f → MatchResult r (λ t. bytes_of t ≡ spell_bytes f) IsMemory

  pub accepted-answer : (r : Result T Fault) → IfOk r (λ t. IsCanonicalText bytes (bytes_of t)) → IfErr r (CanonicalRefuses bytes) → Gives r
  accepted-answer (Ok t) o e f a m = text-is bytes f a m (bytes_of t) o
  accepted-answer (Err fault) o e f a m = memory bytes f a m fault e

-- a spelling means a forest with the same text
pub spelling-means : (bytes : List ℕ) (f : List Tree) → Admitted f → IsSpelling bytes f → MeansLike bytes f
spelling-means bytes f a (inl e) = subst (λ z. MeansLike z f) (sym e) (spellings_mean f a)
spelling-means bytes f a (inr (e, l, k)) = subst (λ z. MeansLike z f) (sym e) (blocks_mean f a (subst (λ z. length z ≤ text_limit) e l) k)

pub accepted-spelling : {T : Type 0} (bytes_of : T → List ℕ) (bytes : List ℕ) (r : Result T Fault) → ((f : List Tree) → Admitted f → Means bytes f → MatchResult r (λ t. bytes_of t ≡ spell_bytes f) IsMemory)
    → (f : List Tree) → Admitted f → IsSpelling bytes f → MatchResult r (λ t. bytes_of t ≡ spell_bytes f) IsMemory
accepted-spelling {T} bytes_of bytes r h f a s =
    let u = spelling-means bytes f a s in
    subst (λ z. MatchResult r (λ t. bytes_of t ≡ z) IsMemory) u.text (h u.forest u.admitted u.means)

pub memory-of-spelling : SpellingsAreAccepted
memory-of-spelling bytes f fault a s h = let u = spelling-means bytes f a s in memory bytes u.forest u.admitted u.means fault h

pub text-of-spelling : SpellingsHaveTheText
text-of-spelling bytes text f a s c = let u = spelling-means bytes f a s in text-is bytes u.forest u.admitted u.means text c ∙ u.text
