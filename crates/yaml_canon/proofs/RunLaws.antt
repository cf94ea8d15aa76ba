-- From a text that was written page by page to what a run promises.
use Rattle.std.proofs.Common.{◌≡◌, ℕ, ◌+◌, ◌-◌, ◌^◌, ◌<◌, ◌≤◌, true, List, [], Option, length, take, refl, sym, ◌∙◌, ap, subst, arith}
use Rattle.std.proofs.lemmas.List.{append-nil}
use Rattle.std.proofs.Math.Seq.{take-length}
use Rattle.std.specs.Prelude.{Result, Ok, Err, IfOk, OnOk}
use Rattle.std.specs.Io.KnownBytes.{Appends, Keeps}
use Rattle.yaml_definitions.specs.model.Limits.{text_limit}
use Rattle.yaml_definitions.specs.model.Tree.{Tree}
use Rattle.yaml_text.specs.declared.fault.Fault.{Fault}
use Rattle.yaml_text.specs.declared.fault.Fault.TheVariants.{WriteFault}
use Rattle.yaml_text.specs.declared.counted.Counted.{Counted}
use Rattle.yaml_text.specs.Count.{one_more}
use Rattle.yaml_text.specs.CountedModel.{inner_of, faults_of, flushed_of}
use Rattle.yaml_spell.specs.declared.page.Page.{Page}
use Rattle.yaml_spell.specs.Pieces.{Began, Puts, Fails}
use Rattle.yaml_spell.specs.Pages.{page_bytes, page_len, PageHolds, PageStops}
use Rattle.yaml_spell.specs.Writers.{Sent, CutOff}
use Rattle.yaml_text.specs.Writers.{Printed, Broken}
use Rattle.yaml_spell.specs.Documents.{arranged_more, arranged_bytes}
use Rattle.yaml_canon.specs.Runs.{WritesCanonical, WriteRefuses}
use Rattle.yaml_canon.specs.Targets.{PutsArranged, PutsCanonical, PutFails}
use Rattle.yaml_spell.proofs.Streams.{appends_none, appends_more, appends_kept}
use Rattle.yaml_spell.proofs.PageLaws.{held_cut}

one_higher : (n : ℕ) → n < 2 ^ 64 - 1 → one_more n ≡ n + 1
one_higher n h = omega (arith, h)

module _ {W : Type 0} (contents : W → Option (List ℕ)) where
  abbrev started : Counted W → Began
  started o = record { number = faults_of o; held = contents (inner_of o) }

  first_page : (p : Page) (o : Counted W) → page_len p ≡ 0 → PageHolds contents p o (started o) []
  first_page p o e = record { front = []; sent = appends_none (contents (inner_of o)); is = ap (λ n. take n p.bytes) (sym e); counted = refl }

  -- all of the text is written but for the last page
  pub all_but_a_page : (p q : Page) (o u : Counted W) (ts : List Tree) → page_len p ≡ 0 → Puts (PageHolds contents) p o q u (arranged_more ts) → PageHolds contents q u (started o) (arranged_bytes ts)
  all_but_a_page p q o u ts e h =
      let a = h.is (started o) [] (first_page p o e) in
      subst (PageHolds contents q u (started o)) (sym (append-nil a.0) ∙ a.2.is []) a.1

  pub all_sent : (q : Page) (o u v : Counted W) (xs : List ℕ) → PageHolds contents q u (started o) xs → Sent contents u v (page_bytes q) → Sent contents o v xs
  all_sent q o u v xs h s = record {
    took = subst (Appends (contents (inner_of o)) (contents (inner_of v))) (sym h.is) (appends_more _ _ _ h.front (page_bytes q) h.sent s.took);
    counted = s.counted ∙ h.counted;
  }

  -- what a flush leaves
  pub printed : (o u v : Counted W) (xs : List ℕ) → Sent contents o u xs → Keeps (contents (inner_of u)) (contents (inner_of v)) → faults_of v ≡ faults_of u → flushed_of v ≡ true → Printed contents o v xs
  printed o u v xs s k e f = record { took = appends_kept _ _ _ xs s.took k; flushed = f; counted = e ∙ s.counted }

  pub unflushed : (o u v : Counted W) (xs : List ℕ) → faults_of o < 2 ^ 64 - 1 → Sent contents o u xs → Keeps (contents (inner_of u)) (contents (inner_of v)) → faults_of v ≡ one_more (faults_of u) → Broken contents o v xs
  unflushed o u v xs l s k e = record {
    count = length xs;
    took = subst (Appends (contents (inner_of o)) (contents (inner_of v))) (sym (take-length xs)) (appends_kept _ _ _ xs s.took k);
    counted = e ∙ ap one_more s.counted ∙ one_higher (faults_of o) l;
  }

  stopped : (o u : Counted W) (fault : Fault) (xs : List ℕ) → faults_of o < 2 ^ 64 - 1 → PageStops contents u (started o) fault xs → Broken contents o u xs
  stopped o u fault xs l s = record { count = s.count; took = s.sent; counted = s.counted ∙ one_higher (faults_of o) l }

  -- the writer fails within the text, or in its last page
  pub broken_within : (p : Page) (o u : Counted W) (fault : Fault) (ts : List Tree) → faults_of o < 2 ^ 64 - 1 → page_len p ≡ 0 → Fails (PageHolds contents) (PageStops contents) p o u fault (arranged_more ts) → Broken contents o u (arranged_bytes ts) × (fault ≡ WriteFault)
  broken_within p o u fault ts l e h =
      let s = h.is (started o) [] [] (first_page p o e) in
      (stopped o u fault (arranged_bytes ts) l s, s.is)

  pub broken_at_the_end : (q : Page) (o u v : Counted W) (fault : Fault) (xs : List ℕ) → faults_of o < 2 ^ 64 - 1 → PageHolds contents q u (started o) xs → CutOff contents u v (page_bytes q) fault → Broken contents o v xs
  broken_at_the_end q o u v fault xs l h s = stopped o v fault xs l (subst (PageStops contents v (started o) fault) (append-nil xs) (held_cut contents q u v (started o) fault xs [] h s))

  -- ---- what is put into a writer

  pub printed_arranged : (ts : List Tree) (o u : Counted W) (r : Result (Unit {0}) Fault) → length (arranged_bytes ts) ≤ text_limit → OnOk r (Printed contents o u (arranged_bytes ts)) → IfOk r (PutsArranged (λ old text new _. Printed contents old new text) ts o u)
  printed_arranged ts o u (Ok x) l h = record { fits = l; put = h }
  printed_arranged ts o u (Err e) l h = tt

  pub all_written : (bytes : List ℕ) (o u : Counted W) (r : Result (Unit {0}) Fault) → IfOk r (PutsCanonical (λ old text new _. Printed contents old new text) bytes o u) → OnOk r (WritesCanonical contents bytes o u)
  all_written bytes o u (Ok x) p = record { text = p.text; canonical = p.canonical; printed = p.put }
  all_written bytes o u (Err e) p = tt

  pub canonical_unwritten : (bytes : List ℕ) (o u : Counted W) (fault : Fault) → PutFails (λ old text new. Broken contents old new text) bytes o u fault → WriteRefuses contents bytes o u fault
  canonical_unwritten bytes o u WriteFault h = record { text = h.text; canonical = h.canonical; broken = h.broken }
  canonical_unwritten bytes o u fault h = record { refused = h.refused; untouched = h.untouched }
