-- The merge of two changes of one stream.
use Rattle.std.specs.Prelude.{◌≡◌, Bool, true, false, ◌&&◌, ◌==◌, [], ◌∷◌, Option, Some}
use Rattle.yaml_definitions.specs.model.Tree.{Tree, Trees, sequence}
use Rattle.yaml_path.specs.Path.{Path, at_item, at_key, item_in}
use Rattle.yaml_path.specs.Ways.{count_in}
use Rattle.yaml_conflicts.specs.Merge.{settled, Breaks}

-- a stream as one value: the sequence of its documents
abbrev pub stream : Trees → Option Tree
stream ts = Some (sequence [] ts)

-- all four have equally many documents
abbrev pub are_paired : (b o t m : Trees) → Bool
are_paired b o t m = (count_in b == count_in o) && ((count_in b == count_in t) && (count_in b == count_in m))

-- `Breaks` of the documents at one place. If each is alone in its stream, they are merged as trees. Of several documents each is one value: a side may have moved them.
abbrev pub DocumentBreaks : (given is_alone : Bool) → Path → (b o t m : Option Tree) → Type 0
DocumentBreaks given true p b o t m = Breaks given p b o t m
DocumentBreaks given false p b o t m = (settled given b o t m ≡ false) × (p ≡ [])

-- The same of streams, whose documents are merged by their places. The first step leads to a document. Where the numbers of documents differ, a stream is one value.
abbrev pub StreamBreaks : (given : Bool) → Path → (b o t m : Trees) → Type 0
StreamBreaks given [] b o t m = (are_paired b o t m ≡ false) × (settled given (stream b) (stream o) (stream t) (stream m) ≡ false)
StreamBreaks given (at_item k ∷ p) b o t m = (are_paired b o t m ≡ true) × DocumentBreaks given (count_in b == 1) p (item_in b k) (item_in o k) (item_in t k) (item_in m k)
StreamBreaks given (at_key x ∷ p) b o t m = ⊥

-- both sides changed the stream or the document at this path, or what stands there in it, each in its own way
abbrev pub StreamConflicts : Path → (b o t : Trees) → Type 0
StreamConflicts p b o t = StreamBreaks false p b o t b

-- the merge of ours and theirs, which were changed from the base
abbrev pub IsStreamMerge : (b o t m : Trees) → Type 0
IsStreamMerge b o t m = (p : Path) → StreamBreaks true p b o t m → ⊥
