use Rattle.std.proofs.Common.{◌≡◌, ◌⊎◌, ℕ, suc, false, ◌+◌, ◌-◌, List, [], ◌∷◌, ◌++◌, refl, sym, ◌∙◌, subst, append_assoc, arith, inl, inr}
use Rattle.std.specs.Prelude.{IfOk, Ok}
use Rattle.yaml_definitions.specs.model.Event.{Event, sequence_end, mapping_end}
use Rattle.yaml_text.specs.Source.{text_of, place_of}
use Rattle.yaml_text.specs.declared.chars.Chars.{Chars}
use Rattle.yaml_definitions.specs.grammar.Rules.{Rule, ◌▸◌, any}
use Rattle.yaml_definitions.specs.grammar.Separation.{block_out, s-indent as indent}
use Rattle.yaml_definitions.specs.grammar.Tags.{Handles}
use Rattle.yaml_definitions.specs.grammar.Events.{seq_start}
use Rattle.yaml_mark.specs.HandlesModel.{handles_of}
use Rattle.law_one_reading.specs.Follows.{Dash}
use Rattle.law_going_on.specs.GoingOn.{Refused, Here}
use Rattle.law_going_on.proofs.GoingOn.{rest_rest, rest_goes, rest_refused}
use Rattle.yaml_sink.specs.Held.{Keeps, Puts}
use Rattle.yaml_sink.specs.SinkModel.{holds_of}
use Rattle.yaml_sink.specs.PropertyRules.{props_of}
use Rattle.yaml_layout.specs.Lines.{IsLine, IsDash}
use Rattle.yaml_layout.specs.declared.level.Level.{Level}
use Rattle.yaml_layout.specs.declared.line.Line.{Line}
use Rattle.yaml_layout.proofs.AnswerLemmas.{puts_on, puts_none, perhaps_some, perhaps_none}
use Rattle.yaml_layout.proofs.PropertyDecisions.{or_else}
use Rattle.yaml_layout.proofs.Deciding.{decides_err}
use Rattle.yaml_block.specs.BlockRules.{value_rest, entry_rest, entries_rest, sequence_with, seq_body, key_rest}
use Rattle.yaml_block.specs.BlockEnds.{AfterSequence, AfterMapping, AfterColon, IsFurther}
use Rattle.yaml_block.specs.BlockCalls.{StartsOpened, EndsLine, IsNext, IsNextDash, ReadsLine, DecidesNextKey, DecidesRest, begins, entry_level, entries_level, key_rule, rest_rule, opened_at}
use Rattle.yaml_block.specs.declared.block.nodes.Opened.{Opened}
use Rattle.yaml_block.proofs.BlockLemmas.{dash_entry, seq_entry_at, map_entry_at, sequence_done, key_entry, joined_more, joined_start}
use Rattle.yaml_block.proofs.Found.{found_is, none_is}
use Rattle.yaml_block.proofs.LineDecisions.{colon_inside, dash_here, dash_inside}
use Rattle.yaml_block.proofs.LoopDecisions.{seq_first, seq_no_first, seq_more, seq_no_more, seq_done, seq_further, map_first, map_no_first, map_more, map_no_key, map_no_value, map_done, map_further, same_line, not_less}
use Rattle.yaml_block.proofs.block.collections.+blocks.Goals as goal

-- an entry after the others, in the column where its line begins
next_entry : (s : Chars) (handles : Handles) (line : Line) (room k i after j : ℕ) (es fs : List Event) → IsLine s line → line.column ≡ k → IsDash s line.first after →
    seq_body (text_of s) (Unit {0}) handles room k i (place_of s line.start) es → entry_rest (text_of s) (Unit {0}) handles room k (place_of s after) j fs → seq_body (text_of s) (Unit {0}) handles room k i j (es ++ fs)
next_entry s handles line room k i after j es fs is e d body entry =
    joined_more (seq_entry_at (text_of s) (Unit {0}) handles room k) (indent (text_of s) k ▸ seq_entry_at (text_of s) (Unit {0}) handles room k) body
    (place_of s line.first, subst (λ x. indent (text_of s) x (place_of s line.start) (place_of s line.first)) e is.spaces, dash_entry (text_of s) (Unit {0}) handles room k _ _ _ fs (d.dash.is, d.dash.next) d.apart entry)

-- an entry after the others, by its key and its value
more_pairs : (cs : List ℕ) (handles : Handles) (room k i x p y j : ℕ) (es ks vs : List Event) → entries_rest cs (Unit {0}) handles room k i x es → indent cs k x p → key_rest cs (Unit {0}) handles room p y ks
    → value_rest cs (Unit {0}) handles room (k + 1) block_out y j vs → entries_rest cs (Unit {0}) handles room k i j ((es ++ ks) ++ vs)
more_pairs cs handles room k i x p y j es ks vs body ind key value =
    subst (entries_rest cs (Unit {0}) handles room k i j) (sym (append_assoc es ks vs))
    (joined_more (value_rest cs (Unit {0}) handles room (k + 1) block_out) (indent cs k ▸ map_entry_at cs (Unit {0}) handles room k) body (p, ind, key_entry cs (Unit {0}) handles room k _ _ _ ks vs key value))

-- nothing was put down after
puts_kept : {S : Type 0} {holds : S → List Event → Type 0} (a b c : S) (es : List Event) → Puts holds a es b → Keeps holds b c → Puts holds a es c
puts_kept a b c es p k = record { is = λ log h. k.is (log ++ es) (p.is log h) }

-- a node that was read from its start to its end
whole_reads : {S : Type 0} (R : Rule (List Event)) (s : Chars) (level : Level) (at : ℕ) (holds : S → List Event → Type 0) (old mid new : S) (found : Opened) (line : Line)
    → ((es : List Event) × Puts holds old es mid × begins R (rest_rule found s level) (place_of s at) (place_of s (opened_at found)) es)
    → ((vs : List Event) × Puts holds mid vs new × rest_rule found s level (place_of s (opened_at found)) (place_of s line.start) vs) → (es : List Event) × Puts holds old es new × R (place_of s at) (place_of s line.start) es
whole_reads R s level at holds old mid new found line (es, a, b) (vs, d, v) = (es ++ vs, puts_on old mid new es vs a d, b _ vs v)

-- no entry after the others
map_no_more : (s : Chars) (handles : Handles) (room : ℕ) (line : Line) (k : ℕ) (is : IsLine s line) → IsFurther s line k ⊎ (IsNext s line k × Refused (key_rest (text_of s) (Unit {0}) handles room) (AfterColon (text_of s)) (place_of s line.first))
    → Refused (any (indent (text_of s) k ▸ map_entry_at (text_of s) (Unit {0}) handles room k)) (AfterMapping (text_of s) k) (place_of s line.start)
map_no_more s handles room line k is (inl f) = map_further s handles room line k is f
map_no_more s handles room line k is (inr (next, n)) = map_no_key (text_of s) handles room k _ _ (same_line s handles room line k is next.column) is.stuck (not_less s handles room line k is next.column next.some next.no_mark) n

-- ---- the rest of a node

pub read_opened-read_entries-requires : goal.read_opened-read_entries-requires
read_opened-read_entries-requires g t c = λ κs l. (
  omega arith,
  (l.0, (l.1, subst (StartsOpened c.args.source.now c.args.level.now) c.in-Mapping.is c.requires)),
)

pub read_opened-read_sequence-requires : goal.read_opened-read_sequence-requires
read_opened-read_sequence-requires g t c = λ κs l. (
  omega arith,
  (l.0, (l.1, subst (StartsOpened c.args.source.now c.args.level.now) c.in-Sequence.is c.requires)),
)

pub read_opened-returns-in-Whole-clause-ends : goal.read_opened-returns-in-Whole-clause-ends
read_opened-returns-in-Whole-clause-ends g t c =
    let s = c.args.source.now in
    subst (λ o. EndsLine s (opened_at o) c.in-Whole.line) (sym c.in-Whole.is) (subst (StartsOpened s c.args.level.now) c.in-Whole.is c.requires)

pub read_opened-returns-in-Whole-clause-reads : goal.read_opened-returns-in-Whole-clause-reads
read_opened-returns-in-Whole-clause-reads g t c =
    let s = c.args.source.now in
    let out = c.args.out.now in
    subst (λ o. (es : List Event) × Puts (holds_of g.K.Keeper.holds) out es out × rest_rule o s c.args.level.now (place_of s (opened_at o)) (place_of s c.in-Whole.line.start) es) (sym c.in-Whole.is) ([], puts_none out, (refl, refl))

pub read_opened-returns-in-Whole-clause-decides : goal.read_opened-returns-in-Whole-clause-decides
read_opened-returns-in-Whole-clause-decides g t c = subst (λ o. DecidesRest c.args.source.now c.args.level.now o (Ok c.in-Whole.line)) (sym c.in-Whole.is) (record { goes = λ j m v (a, b) e. e ∙ a })

pub read_opened-returns-in-Mapping-clause-ends : goal.read_opened-returns-in-Mapping-clause-ends
read_opened-returns-in-Mapping-clause-ends g t c = subst (λ o. IfOk c.read_entries.result (EndsLine c.args.source.now (opened_at o))) (sym c.in-Mapping.is) c.read_entries.ensures.ends

pub read_opened-returns-in-Mapping-clause-reads : goal.read_opened-returns-in-Mapping-clause-reads
read_opened-returns-in-Mapping-clause-reads g t c =
    subst (λ o. ReadsLine (rest_rule o) c.args.source.now c.args.level.now (opened_at o) (holds_of g.K.Keeper.holds) c.args.out.now c.read_entries.new.out c.read_entries.result) (sym c.in-Mapping.is) c.read_entries.ensures.reads

pub read_opened-returns-in-Mapping-clause-decides : goal.read_opened-returns-in-Mapping-clause-decides
read_opened-returns-in-Mapping-clause-decides g t c = subst (λ o. DecidesRest c.args.source.now c.args.level.now o c.read_entries.result) (sym c.in-Mapping.is) c.read_entries.ensures.decides

pub read_opened-returns-in-Sequence-clause-ends : goal.read_opened-returns-in-Sequence-clause-ends
read_opened-returns-in-Sequence-clause-ends g t c = subst (λ o. IfOk c.read_sequence.result (EndsLine c.args.source.now (opened_at o))) (sym c.in-Sequence.is) c.read_sequence.ensures.ends

pub read_opened-returns-in-Sequence-clause-reads : goal.read_opened-returns-in-Sequence-clause-reads
read_opened-returns-in-Sequence-clause-reads g t c =
    subst (λ o. ReadsLine (rest_rule o) c.args.source.now c.args.level.now (opened_at o) (holds_of g.K.Keeper.holds) c.args.out.now c.read_sequence.new.out c.read_sequence.result) (sym c.in-Sequence.is) c.read_sequence.ensures.reads

pub read_opened-returns-in-Sequence-clause-decides : goal.read_opened-returns-in-Sequence-clause-decides
read_opened-returns-in-Sequence-clause-decides g t c = subst (λ o. DecidesRest c.args.source.now c.args.level.now o c.read_sequence.result) (sym c.in-Sequence.is) c.read_sequence.ensures.decides

-- ---- sequences

pub read_sequence-entries-init : goal.read_sequence-entries-init
read_sequence-entries-init g t c =
    let s = c.args.source.now in
    let cs = text_of s in
    let h = handles_of c.args.level.now.handles in
    let r = c.args.level.now.room - 1 in
    let k = c.args.first.column in
    let p = props_of c.args.properties in
    let d = c.requires.dash in
    let e : c.args.level.now.room ≡ suc r = omega (arith, c.if-level-eq0.false) in
    record {
      inside = record { border = d.dash.border; low = omega (arith, c.requires.low, d.dash.forward); inside = dash_inside s _ _ d; some = omega (arith, c.if-level-eq0.false) };
      onward = d.dash.forward;
      reads = (
        [],
        c.in_ok-push_block_sequence.ensures.ok,
        λ j vs v. joined_start (seq_entry_at cs (Unit {0}) h r k) (indent cs k ▸ seq_entry_at cs (Unit {0}) h r k) (dash_entry cs (Unit {0}) h r k _ _ _ vs (d.dash.is, d.dash.next) d.apart v),
      );
      goes = λ x v. seq_first cs h r k c.args.level.now.room p _ _ x e d.dash.next v;
      none = λ v. seq_no_first cs h r k c.args.level.now.room p _ _ e d.dash.next v;
    }

pub read_sequence-open_entry-requires : goal.read_sequence-open_entry-requires
read_sequence-open_entry-requires g t c =
    let v = c.entries.invariant.inside in
    record { border = v.border; low = v.low; inside = v.inside; least = refl; block = refl }

pub read_sequence-read_opened-requires : goal.read_sequence-read_opened-requires
read_sequence-read_opened-requires g t c = λ κs l. (
  omega (arith, c.entries.invariant.inside.some),
  (l.0, (l.1, c.in_ok-opened.ensures.ends.starts)),
)

pub read_sequence-entries-preserved : goal.read_sequence-entries-preserved
read_sequence-entries-preserved g t c =
    let s = c.args.source.now in
    let cs = text_of s in
    let h = handles_of c.args.level.now.handles in
    let r = c.args.level.now.room - 1 in
    let k = c.args.first.column in
    let level = entry_level c.args.level.now k in
    let v = c.entries.invariant in
    let line = c.in_ok-line.line in
    let o = c.in_ok-opened.ensures in
    let m = c.in_ok-line.ensures in
    let read = whole_reads (entry_rest cs (Unit {0}) h r k) s level c.entries.after (holds_of g.K.Keeper.holds) c.entries.out c.open_entry.new.out c.read_opened.new.out c.in_ok-opened.opened line o.reads m.reads in
    let first = seq_start false (props_of c.args.properties) in
    let found = found_is (IsNextDash s line k) c.in_ok-next_dash.field-0 c.in-Some.next c.in-Some.is c.in_ok-next_dash.ensures.found in
    let d = found.dash in
    let e = found.column in
    let rest = v.goes _ (rest_goes o.decides m.decides) in
    record {
      inside = record {
        border = d.dash.border;
        low = omega (arith, c.requires.low, v.onward, o.ends.onward, m.ends.onward, m.ends.line.wide, d.dash.forward);
        inside = dash_inside s _ _ d;
        some = v.inside.some;
      };
      onward = omega (arith, v.onward, o.ends.onward, m.ends.onward, m.ends.line.wide, d.dash.forward);
      reads = (
        v.reads.0 ++ read.0,
        puts_on c.args.out.now c.entries.out c.read_opened.new.out (first ∷ v.reads.0) read.0 v.reads.1 read.1,
        λ j vs u. next_entry s h line r k _ c.in-Some.next j (v.reads.0 ++ read.0) vs m.ends.line e d (v.reads.2 _ read.0 read.2) u,
      );
      goes = λ x u. rest_rest rest (seq_more cs h r k _ _ _ x (same_line s h r line k m.ends.line e) (dash_here s line.first c.in-Some.next d) d.dash.next u);
      none = λ u. rest_refused rest (seq_no_more cs h r k _ _ _ (same_line s h r line k m.ends.line e) (dash_here s line.first c.in-Some.next d) d.dash.next u);
    }

pub read_sequence-returns-in-None-clause-reads : goal.read_sequence-returns-in-None-clause-reads
read_sequence-returns-in-None-clause-reads g t c =
    let s = c.args.source.now in
    let cs = text_of s in
    let h = handles_of c.args.level.now.handles in
    let r = c.args.level.now.room - 1 in
    let k = c.args.first.column in
    let v = c.entries.invariant.reads in
    let read = whole_reads (entry_rest cs (Unit {0}) h r k) s (entry_level c.args.level.now k) c.entries.after (holds_of g.K.Keeper.holds) c.entries.out c.open_entry.new.out c.read_opened.new.out c.in_ok-opened.opened c.in_ok-line.line c.in_ok-opened.ensures.reads c.in_ok-line.ensures.reads in
    let p = props_of c.args.properties in
    let first = seq_start false p in
    let e : c.args.level.now.room ≡ suc r = omega (arith, c.if-level-eq0.false) in (
      first ∷ ((v.0 ++ read.0) ++ (sequence_end ∷ [])),
      puts_on c.args.out.now c.read_opened.new.out _ (first ∷ (v.0 ++ read.0)) (sequence_end ∷ [])
          (puts_on c.args.out.now c.entries.out c.read_opened.new.out (first ∷ v.0) read.0 v.1 read.1) c.in_ok-push_sequence_end-in-None.ensures.ok,
      sequence_done cs (Unit {0}) h p r c.args.level.now.room k _ _ (v.0 ++ read.0) e (v.2 _ read.0 read.2),
    )

pub read_sequence-returns-in_err-opened-clause-decides : goal.read_sequence-returns-in_err-opened-clause-decides
read_sequence-returns-in_err-opened-clause-decides g t c =
    let s = c.args.source.now in
    let cs = text_of s in
    let h = handles_of c.args.level.now.handles in
    let r = c.args.level.now.room - 1 in
    let k = c.args.first.column in
    decides_err (sequence_with cs (Unit {0}) h (props_of c.args.properties) c.args.level.now.room k) (AfterSequence cs k) (place_of s c.args.first.at) Here (λ line. place_of s line.start) c.from_residual-in_err-opened.result _ c.from_residual-in_err-opened.ensures.1
    (or_else c.entries.invariant.none c.in_err-opened.ensures.decides)

pub read_sequence-returns-in_err-line-clause-decides : goal.read_sequence-returns-in_err-line-clause-decides
read_sequence-returns-in_err-line-clause-decides g t c =
    let s = c.args.source.now in
    let cs = text_of s in
    let h = handles_of c.args.level.now.handles in
    let r = c.args.level.now.room - 1 in
    let k = c.args.first.column in
    decides_err (sequence_with cs (Unit {0}) h (props_of c.args.properties) c.args.level.now.room k) (AfterSequence cs k) (place_of s c.args.first.at) Here (λ line. place_of s line.start) c.from_residual-in_err-line.result _ c.from_residual-in_err-line.ensures.1
    (or_else (λ n. c.entries.invariant.none (rest_refused c.in_ok-opened.ensures.decides n)) c.in_err-line.ensures.decides)

pub read_sequence-returns-in_err-next_dash-clause-decides : goal.read_sequence-returns-in_err-next_dash-clause-decides
read_sequence-returns-in_err-next_dash-clause-decides g t c =
    let s = c.args.source.now in
    let cs = text_of s in
    let h = handles_of c.args.level.now.handles in
    let r = c.args.level.now.room - 1 in
    let k = c.args.first.column in
    decides_err (sequence_with cs (Unit {0}) h (props_of c.args.properties) c.args.level.now.room k) (AfterSequence cs k) (place_of s c.args.first.at) Here (λ line. place_of s line.start) c.from_residual-in_err-next_dash.result _ c.from_residual-in_err-next_dash.ensures.1
    (inr (rest_refused (c.entries.invariant.goes _ (rest_goes c.in_ok-opened.ensures.decides c.in_ok-line.ensures.decides)) (seq_further s h r c.in_ok-line.line k c.in_ok-line.ensures.ends.line c.in_err-next_dash.ensures.further)))

pub read_sequence-returns-in-None-clause-decides : goal.read_sequence-returns-in-None-clause-decides
read_sequence-returns-in-None-clause-decides g t c =
    let s = c.args.source.now in
    let cs = text_of s in
    let h = handles_of c.args.level.now.handles in
    let r = c.args.level.now.room - 1 in
    let k = c.args.first.column in
    let o = c.in_ok-opened.ensures in
    let m = c.in_ok-line.ensures in
    let none = none_is (Dash cs k (place_of s c.in_ok-line.line.start) → ⊥) c.in_ok-next_dash.field-0 c.in-None.is c.in_ok-next_dash.ensures.none in
    rest_goes (c.entries.invariant.goes _ (rest_goes o.decides m.decides)) (seq_done cs h r k _ m.ends.line.stuck none)

pub read_sequence-returns-in-None-clause-ends : goal.read_sequence-returns-in-None-clause-ends
read_sequence-returns-in-None-clause-ends g t c =
    let m = c.in_ok-line.ensures.ends in
    record { line = m.line; onward = omega (arith, c.entries.invariant.onward, c.in_ok-opened.ensures.ends.onward, m.onward); after = m.after }

-- ---- mappings

pub read_entries-entries-init : goal.read_entries-entries-init
read_entries-entries-init g t c =
    let s = c.args.source.now in
    let cs = text_of s in
    let k = c.args.column in
    let level = entries_level c.args.level.now k in
    let h = handles_of level.handles in
    record {
      inside = c.requires;
      onward = omega arith;
      reads = ([], puts_none c.args.out.now, λ j vs v. joined_start (value_rest cs (Unit {0}) h level.room (k + 1) block_out) (indent cs k ▸ map_entry_at cs (Unit {0}) h level.room k) v);
      goes = λ x v. map_first cs h level.room k _ x v;
      none = λ v. map_no_first cs h level.room k _ v;
    }

pub read_entries-open_value-requires : goal.read_entries-open_value-requires
read_entries-open_value-requires g t c =
    let v = c.entries.invariant.inside in
    record { border = v.border; low = omega (arith, v.low); block = tt; inside = inl v.inside }

pub read_entries-read_opened-requires : goal.read_entries-read_opened-requires
read_entries-read_opened-requires g t c = λ κs l. (
  omega (arith, c.entries.invariant.inside.some),
  (l.0, (l.1, c.in_ok-opened.ensures.ends.starts)),
)

pub read_entries-entries-preserved : goal.read_entries-entries-preserved
read_entries-entries-preserved g t c =
    let s = c.args.source.now in
    let cs = text_of s in
    let k = c.args.column in
    let level = entries_level c.args.level.now k in
    let h = handles_of level.handles in
    let v = c.entries.invariant in
    let line = c.in_ok-line.line in
    let o = c.in_ok-opened.ensures in
    let m = c.in_ok-line.ensures in
    let read = whole_reads (value_rest cs (Unit {0}) h level.room (k + 1) block_out) s level c.entries.colon (holds_of g.K.Keeper.holds) c.entries.out c.open_value.new.out c.read_opened.new.out c.in_ok-opened.opened line o.reads m.reads in
    let key = perhaps_some (λ _. key_rule s level) (place_of s line.first) (place_of s) c.read_opened.new.out c.next_colon.new.out c.in_ok-next_colon.field-0 c.in-Some.next c.in-Some.is c.in_ok-next_colon.ensures.reads in
    let colon = key.2 in
    let next = subst (λ o. DecidesNextKey s level line k (Ok o)) c.in-Some.is c.in_ok-next_colon.ensures.decides in
    let rest = v.goes _ (rest_goes o.decides m.decides) in
    let same = same_line s h level.room line k m.ends.line next.1.column in
    let less = not_less s h level.room line k m.ends.line next.1.column next.1.some next.1.no_mark in
    record {
      inside = record {
        border = next.0.border;
        low = omega (arith, c.requires.low, v.onward, o.ends.onward, m.ends.onward, m.ends.line.wide, next.0.onward);
        inside = colon_inside cs colon.0 _ colon.2.0 colon.2.1;
        some = v.inside.some;
      };
      onward = omega (arith, v.onward, o.ends.onward, m.ends.onward, m.ends.line.wide, next.0.onward);
      reads = (
        (v.reads.0 ++ read.0) ++ key.0,
        puts_on c.args.out.now c.read_opened.new.out _ (v.reads.0 ++ read.0) key.0 (puts_on c.args.out.now c.entries.out c.read_opened.new.out v.reads.0 read.0 v.reads.1 read.1) key.1,
        λ j vs u. more_pairs cs h level.room k _ _ _ _ j (v.reads.0 ++ read.0) key.0 vs (v.reads.2 _ read.0 read.2) same key.2 u,
      );
      goes = λ x u. rest_rest rest (map_more cs h level.room k _ _ _ x same m.ends.line.stuck less next.2 u);
      none = λ u. rest_refused rest (map_no_value cs h level.room k _ _ _ same m.ends.line.stuck less next.2 u);
    }

pub read_entries-returns-in-None-clause-reads : goal.read_entries-returns-in-None-clause-reads
read_entries-returns-in-None-clause-reads g t c =
    let s = c.args.source.now in
    let cs = text_of s in
    let k = c.args.column in
    let level = entries_level c.args.level.now k in
    let h = handles_of level.handles in
    let v = c.entries.invariant.reads in
    let read = whole_reads (value_rest cs (Unit {0}) h level.room (k + 1) block_out) s level c.entries.colon (holds_of g.K.Keeper.holds) c.entries.out c.open_value.new.out c.read_opened.new.out c.in_ok-opened.opened c.in_ok-line.line c.in_ok-opened.ensures.reads c.in_ok-line.ensures.reads in
    let kept = perhaps_none (λ _. key_rule s level) (place_of s c.in_ok-line.line.first) (place_of s) c.read_opened.new.out c.next_colon.new.out c.in_ok-next_colon.field-0 c.in-None.is c.in_ok-next_colon.ensures.reads in
    let all = puts_kept c.args.out.now c.read_opened.new.out c.next_colon.new.out (v.0 ++ read.0) (puts_on c.args.out.now c.entries.out c.read_opened.new.out v.0 read.0 v.1 read.1) kept in (
      (v.0 ++ read.0) ++ (mapping_end ∷ []),
      puts_on c.args.out.now c.next_colon.new.out _ (v.0 ++ read.0) (mapping_end ∷ []) all c.in_ok-push_mapping_end-in-None.ensures.ok,
      (v.0 ++ read.0, refl, v.2 _ read.0 read.2),
    )

pub read_entries-returns-in_err-opened-clause-decides : goal.read_entries-returns-in_err-opened-clause-decides
read_entries-returns-in_err-opened-clause-decides g t c =
    let s = c.args.source.now in
    let cs = text_of s in
    let k = c.args.column in
    let level = entries_level c.args.level.now k in
    let h = handles_of level.handles in
    decides_err (entries_rest cs (Unit {0}) h level.room k) (AfterMapping cs k) (place_of s c.args.after) Here (λ line. place_of s line.start) c.from_residual.result _ c.from_residual.ensures.1
    (or_else c.entries.invariant.none c.in_err-opened.ensures.decides)

pub read_entries-returns-in_err-line-clause-decides : goal.read_entries-returns-in_err-line-clause-decides
read_entries-returns-in_err-line-clause-decides g t c =
    let s = c.args.source.now in
    let cs = text_of s in
    let k = c.args.column in
    let level = entries_level c.args.level.now k in
    let h = handles_of level.handles in
    decides_err (entries_rest cs (Unit {0}) h level.room k) (AfterMapping cs k) (place_of s c.args.after) Here (λ line. place_of s line.start) c.from_residual-in_err-line.result _ c.from_residual-in_err-line.ensures.1
    (or_else (λ n. c.entries.invariant.none (rest_refused c.in_ok-opened.ensures.decides n)) c.in_err-line.ensures.decides)

pub read_entries-returns-in_err-next_colon-clause-decides : goal.read_entries-returns-in_err-next_colon-clause-decides
read_entries-returns-in_err-next_colon-clause-decides g t c =
    let s = c.args.source.now in
    let cs = text_of s in
    let k = c.args.column in
    let level = entries_level c.args.level.now k in
    let h = handles_of level.handles in
    decides_err (entries_rest cs (Unit {0}) h level.room k) (AfterMapping cs k) (place_of s c.args.after) Here (λ line. place_of s line.start) c.from_residual-in_err-next_colon.result _ c.from_residual-in_err-next_colon.ensures.1
    (or_else (λ why. rest_refused (c.entries.invariant.goes _ (rest_goes c.in_ok-opened.ensures.decides c.in_ok-line.ensures.decides)) (map_no_more s h level.room c.in_ok-line.line k c.in_ok-line.ensures.ends.line why)) c.in_err-next_colon.ensures.decides)

pub read_entries-returns-in-None-clause-decides : goal.read_entries-returns-in-None-clause-decides
read_entries-returns-in-None-clause-decides g t c =
    let s = c.args.source.now in
    let cs = text_of s in
    let k = c.args.column in
    let level = entries_level c.args.level.now k in
    let h = handles_of level.handles in
    let o = c.in_ok-opened.ensures in
    let m = c.in_ok-line.ensures in
    let none = subst (λ o. DecidesNextKey s level c.in_ok-line.line k (Ok o)) c.in-None.is c.in_ok-next_colon.ensures.decides in
    rest_goes (c.entries.invariant.goes _ (rest_goes o.decides m.decides)) (map_done cs h level.room k _ m.ends.line.stuck none)

pub read_entries-returns-in-None-clause-ends : goal.read_entries-returns-in-None-clause-ends
read_entries-returns-in-None-clause-ends g t c =
    let m = c.in_ok-line.ensures.ends in
    record { line = m.line; onward = omega (arith, c.entries.invariant.onward, c.in_ok-opened.ensures.ends.onward, m.onward); after = m.after }
