use Rattle.std.proofs.Common.{◌≡◌, ℕ, ◌-◌, inl, inr, true, ◌+◌, ◌≤◌, List, [], ◌∷◌, ◌++◌, None, ◌∙◌, ap, subst, arith, max}
use Rattle.yaml_definitions.specs.model.Event.{Event, untagged, sequence_start, mapping_start, sequence_end, mapping_end}
use Rattle.yaml_text.specs.EventModel.{context_of}
use Rattle.yaml_text.specs.Source.{text_of, place_of}
use Rattle.yaml_definitions.specs.grammar.Events.{no_props, e-scalar as empty, alias_node}
use Rattle.yaml_definitions.specs.grammar.Tags as tags
use Rattle.yaml_definitions.specs.grammar.Rules.{any, ◌◂◌, given, gives, seen}
use Rattle.yaml_text.proofs.Tests.{on_true_at, on_false_at}
use Rattle.yaml_layout.specs.NodeRules.{opens, below, from_room, content_from, Bare, aliased, plainly, with_properties, lone}
use Rattle.yaml_flow.specs.FlowRules.{SignAt, AskedAt, IsKeyColon, spaced, comma, item_at, entry_at, keyed_at, asked_at, value_at, parts}
use Rattle.yaml_mark.specs.HandlesModel.{handles_of}
use Rattle.yaml_sink.specs.PropertyRules.{props_of, dressed}
use Rattle.yaml_layout.specs.declared.flow.Kind.TheVariants.{Yaml}
use Rattle.yaml_sink.specs.SinkModel.{holds_of}
use Rattle.yaml_layout.proofs.PropertyLemmas.{own_marks, marks_props}
use Rattle.yaml_layout.proofs.AnswerLemmas.{puts_on, puts_none, puts_altered, appends_by, appends_after, appends_same, perhaps_some, perhaps_none}
use Rattle.yaml_layout.proofs.NodeLemmas.{bare_flow}
use Rattle.yaml_flow.proofs.FlowLemmas.{no_parts, one_part, parts_end, part_end, sequence_is, mapping_is, pair_item, no_value, key_entry, lone_entry, value_is, empty_entry, asked_keyed, asked_nothing, keyed_entry, asked_entry, asked_pair, empty_pair}
use Rattle.yaml_definitions.specs.grammar.Separation.{flow_in}
use Rattle.yaml_flow.proofs.LoopDecisions.{all_left, left_closed, left_refused, left_no_way, left_last, left_unclosed, left_more, left_no_more, to_in, none_in, item_begins, entry_begins, bracket_shut, bracket_other, brace_shut, brace_other, sequence_nowhere, sequence_goes, sequence_refused, mapping_nowhere, mapping_goes, mapping_refused}
use Rattle.yaml_definitions.specs.grammar.Nodes.{c-flow-sequence as flow_seq, c-flow-mapping as flow_map}
use Rattle.law_going_on.specs.GoingOn.{Here}
use Rattle.law_going_on.specs.FlowEnds.{InFlow}
use Rattle.yaml_flow.specs.FlowDecisions.{NoKey, LongKey}
use Rattle.yaml_layout.proofs.PropertyDecisions.{or_else}
use Rattle.yaml_layout.proofs.Deciding.{decides_err, decides_by}
use Rattle.yaml_layout.proofs.PlainDecisions.{plain_content, bare_only, bare_refused, content_some, content_none}
use Rattle.yaml_flow.proofs.ContentDecisions.{single_only, no_single, double_only, no_double, sequence_only, no_sequence, no_sequence_left, mapping_only, no_mapping, no_mapping_left, content_err}
use Rattle.yaml_flow.proofs.BareDecisions.{props_nowhere, props_lone, props_none, props_only, props_refused, content_begins, barred_refused, node_err}
use Rattle.yaml_flow.proofs.PartDecisions.{only_in, refused_in, no_mark}
use Rattle.yaml_flow.proofs.ItemDecisions.{PairAt, item_nothing, item_lone, item_long, item_of_pair, item_no_pair, item_full, asked_full, empty_full, asked_goes, asked_refused, empty_goes, empty_refused, own_goes, own_refused, pair_nothing, pair_lone, pair_long, pair_goes, pair_refused}
use Rattle.yaml_flow.proofs.EntryDecisions.{nb_bracket, nb_brace, nb_comma, nb_colon, char_inside, node_inside, value_nowhere, value_alone, value_closed, value_refused, value_goes, key_nothing, key_nowhere, key_lone, key_goes, key_refused, empty_key_goes, empty_key_refused, entry_goes, entry_refused, asked_entry_goes, asked_entry_refused, asked_nowhere, asked_alone, asked_closed, asked_keyed_goes, asked_keyed_refused}
use Rattle.yaml_flow.proofs.FlowAnswers.{if_some, if_none, alias_decides, lone_decides, each_err, collection_err, sign_in, mark_inside, alone_to}
use Rattle.yaml_flow.proofs.flow.+nodes.Goals as goal

-- at the rooms from another, equal, number on
from_same : (a b : ℕ) (R : ℕ → ℕ → ℕ → List Event → Type 0) (i j : ℕ) (es : List Event) → a ≡ b → from_room b R i j es → from_room a R i j es
from_same a b R i j es e p room le = p room (subst (λ x. x ≤ room) e le)

-- ---- items

pub sequence::read_items-items-init : goal.sequence::read_items-items-init
sequence::read_items-items-init g t c =
    let cs = text_of c.args.source.now in
    record {
      border = c.requires.border;
      onward = omega arith;
      within = omega arith;
      reads = ([], puts_none _, no_parts cs c.args.level.now.least (context_of c.args.level.now.context) (λ room. item_at cs (Unit {0}) (handles_of c.args.level.now.handles) room c.args.level.now.least (context_of c.args.level.now.context)) _);
      left = λ e. all_left cs c.args.level.now.least _ 93 _;
    }

pub sequence::read_items-returns-in-Some-clause-reads : goal.sequence::read_items-returns-in-Some-clause-reads
sequence::read_items-returns-in-Some-clause-reads g t c =
    let cs = text_of c.args.source.now in
    let v = c.items.invariant.reads in
    let s = c.in-Some.ensures.some in
    (v.0, v.1, parts_end cs c.args.level.now.least (context_of c.args.level.now.context) (λ room. item_at cs (Unit {0}) (handles_of c.args.level.now.handles) room c.args.level.now.least (context_of c.args.level.now.context)) c.items.most _ _ 93 _ v.0 v.2 (s.is, s.next))

pub sequence::read_items-returns-in-Some-accept-clause-reads : goal.sequence::read_items-returns-in-Some-accept-clause-reads
sequence::read_items-returns-in-Some-accept-clause-reads g t c =
    let cs = text_of c.args.source.now in
    let v = c.items.invariant.reads in
    let n = c.in_ok-item-in-None.ensures.reads in
    let s = c.in-Some-accept.ensures.some in (
      v.0 ++ n.0,
      puts_on c.args.out.now c.items.out _ v.0 n.0 v.1 n.1,
      from_same c.max-most.result (max c.items.most c.in_ok-item-in-None.deep) (λ room. parts cs c.args.level.now.least (context_of c.args.level.now.context) 93 (item_at cs (Unit {0}) (handles_of c.args.level.now.handles) room c.args.level.now.least (context_of c.args.level.now.context))) _ _ _ c.max-most.ensures
          (part_end cs c.args.level.now.least (context_of c.args.level.now.context) (λ room. item_at cs (Unit {0}) (handles_of c.args.level.now.handles) room c.args.level.now.least (context_of c.args.level.now.context)) c.items.most c.in_ok-item-in-None.deep _ _ _ _ 93 _ v.0 n.0 v.2 n.2 c.in_ok-after-in-None.ensures.leads.separate (s.is, s.next)),
    )

pub sequence::read_items-items-preserved : goal.sequence::read_items-items-preserved
sequence::read_items-items-preserved g t c =
    let cs = text_of c.args.source.now in
    let v = c.items.invariant in
    let n = c.in_ok-item-in-None.ensures.reads in
    let s = c.in-Some-accept-2.ensures.some in
    let h = c.in_ok-here-in-Some-accept-2.ensures.leads in
    record {
      border = h.border;
      onward = omega (arith, v.onward, c.in_ok-item-in-None.ensures.ends.onward, c.in_ok-after-in-None.ensures.leads.onward, s.forward, h.onward);
      within = omega (arith, c.max-most.ensures, v.within, c.in_ok-item-in-None.ensures.ends.within);
      reads = (
        v.reads.0 ++ n.0,
        puts_on c.args.out.now c.items.out _ v.reads.0 n.0 v.reads.1 n.1,
        from_same c.max-most.result (max c.items.most c.in_ok-item-in-None.deep) (λ room. any (spaced cs c.args.level.now.least (context_of c.args.level.now.context) (item_at cs (Unit {0}) (handles_of c.args.level.now.handles) room c.args.level.now.least (context_of c.args.level.now.context)) ◂ comma cs c.args.level.now.least (context_of c.args.level.now.context))) _ _ _ c.max-most.ensures
            (one_part cs c.args.level.now.least (context_of c.args.level.now.context) (λ room. item_at cs (Unit {0}) (handles_of c.args.level.now.handles) room c.args.level.now.least (context_of c.args.level.now.context)) c.items.most c.in_ok-item-in-None.deep _ _ _ _ _ _ v.reads.0 n.0 v.reads.2 n.2
            c.in_ok-after-in-None.ensures.leads.separate (s.is, s.next) h.separate),
      );
      left = λ e.
          left_more cs c.args.level.now.least (item_at cs (Unit {0}) (handles_of c.args.level.now.handles) c.args.level.now.room c.args.level.now.least flow_in) (item_begins cs (handles_of c.args.level.now.handles) c.args.level.now.room c.args.level.now.least) 93 (bracket_shut cs) bracket_other
          _ _ (v.left e) c.in-None.ensures.none _ (c.in_ok-item-in-None.ensures.decides e) _ (to_in cs c.args.level.now.least _ _ _ e c.in_ok-after-in-None.ensures.leads.to) s.is _ s.next _ (to_in cs c.args.level.now.least _ _ _ e h.to);
    }

-- ---- entries

pub mapping::read_entries-entries-init : goal.mapping::read_entries-entries-init
mapping::read_entries-entries-init g t c =
    let cs = text_of c.args.source.now in
    record {
      border = c.requires.border;
      onward = omega arith;
      within = omega arith;
      reads = ([], puts_none _, no_parts cs c.args.level.now.least (context_of c.args.level.now.context) (λ room. entry_at cs (Unit {0}) (handles_of c.args.level.now.handles) room c.args.level.now.least (context_of c.args.level.now.context)) _);
      left = λ e. all_left cs c.args.level.now.least _ 125 _;
    }

pub mapping::read_entries-returns-in-Some-clause-reads : goal.mapping::read_entries-returns-in-Some-clause-reads
mapping::read_entries-returns-in-Some-clause-reads g t c =
    let cs = text_of c.args.source.now in
    let v = c.entries.invariant.reads in
    let s = c.in-Some.ensures.some in
    (v.0, v.1, parts_end cs c.args.level.now.least (context_of c.args.level.now.context) (λ room. entry_at cs (Unit {0}) (handles_of c.args.level.now.handles) room c.args.level.now.least (context_of c.args.level.now.context)) c.entries.most _ _ 125 _ v.0 v.2 (s.is, s.next))

pub mapping::read_entries-returns-in-Some-accept-clause-reads : goal.mapping::read_entries-returns-in-Some-accept-clause-reads
mapping::read_entries-returns-in-Some-accept-clause-reads g t c =
    let cs = text_of c.args.source.now in
    let v = c.entries.invariant.reads in
    let n = c.in_ok-entry-in-None.ensures.reads in
    let s = c.in-Some-accept.ensures.some in (
      v.0 ++ n.0,
      puts_on c.args.out.now c.entries.out _ v.0 n.0 v.1 n.1,
      from_same c.max-most.result (max c.entries.most c.in_ok-entry-in-None.deep) (λ room. parts cs c.args.level.now.least (context_of c.args.level.now.context) 125 (entry_at cs (Unit {0}) (handles_of c.args.level.now.handles) room c.args.level.now.least (context_of c.args.level.now.context))) _ _ _ c.max-most.ensures
          (part_end cs c.args.level.now.least (context_of c.args.level.now.context) (λ room. entry_at cs (Unit {0}) (handles_of c.args.level.now.handles) room c.args.level.now.least (context_of c.args.level.now.context)) c.entries.most c.in_ok-entry-in-None.deep _ _ _ _ 125 _ v.0 n.0 v.2 n.2 c.in_ok-after-in-None.ensures.leads.separate (s.is, s.next)),
    )

pub mapping::read_entries-entries-preserved : goal.mapping::read_entries-entries-preserved
mapping::read_entries-entries-preserved g t c =
    let cs = text_of c.args.source.now in
    let v = c.entries.invariant in
    let n = c.in_ok-entry-in-None.ensures.reads in
    let s = c.in-Some-accept-2.ensures.some in
    let h = c.in_ok-here-in-Some-accept-2.ensures.leads in
    record {
      border = h.border;
      onward = omega (arith, v.onward, c.in_ok-entry-in-None.ensures.ends.onward, c.in_ok-after-in-None.ensures.leads.onward, s.forward, h.onward);
      within = omega (arith, c.max-most.ensures, v.within, c.in_ok-entry-in-None.ensures.ends.within);
      reads = (
        v.reads.0 ++ n.0,
        puts_on c.args.out.now c.entries.out _ v.reads.0 n.0 v.reads.1 n.1,
        from_same c.max-most.result (max c.entries.most c.in_ok-entry-in-None.deep) (λ room. any (spaced cs c.args.level.now.least (context_of c.args.level.now.context) (entry_at cs (Unit {0}) (handles_of c.args.level.now.handles) room c.args.level.now.least (context_of c.args.level.now.context)) ◂ comma cs c.args.level.now.least (context_of c.args.level.now.context))) _ _ _ c.max-most.ensures
            (one_part cs c.args.level.now.least (context_of c.args.level.now.context) (λ room. entry_at cs (Unit {0}) (handles_of c.args.level.now.handles) room c.args.level.now.least (context_of c.args.level.now.context)) c.entries.most c.in_ok-entry-in-None.deep _ _ _ _ _ _ v.reads.0 n.0 v.reads.2 n.2
            c.in_ok-after-in-None.ensures.leads.separate (s.is, s.next) h.separate),
      );
      left = λ e.
          left_more cs c.args.level.now.least (entry_at cs (Unit {0}) (handles_of c.args.level.now.handles) c.args.level.now.room c.args.level.now.least flow_in) (entry_begins cs (handles_of c.args.level.now.handles) c.args.level.now.room c.args.level.now.least) 125 (brace_shut cs) brace_other
          _ _ (v.left e) c.in-None.ensures.none _ (c.in_ok-entry-in-None.ensures.decides e) _ (to_in cs c.args.level.now.least _ _ _ e c.in_ok-after-in-None.ensures.leads.to) s.is _ s.next _ (to_in cs c.args.level.now.least _ _ _ e h.to);
    }

pub entries::read_key_entry-returns-in_ok-push_empty-in-None-clause-reads : goal.entries::read_key_entry-returns-in_ok-push_empty-in-None-clause-reads
entries::read_key_entry-returns-in_ok-push_empty-in-None-clause-reads g t c =
    let cs = text_of c.args.source.now in
    let k = c.in_ok-key.ensures.reads in (
      k.0 ++ empty no_props,
      puts_on c.args.out.now c.read_flow_node.new.out _ k.0 (empty no_props) k.1 c.in_ok-push_empty-in-None.ensures.ok,
      lone_entry cs (Unit {0}) (handles_of c.args.level.now.handles) c.in_ok-key.key.deep c.in_ok-key.key.kind c.args.level.now.least (context_of c.args.level.now.context) _ _ k.0 k.2,
    )

pub entries::read_key_entry-returns-in_ok-end-in-Some-clause-reads : goal.entries::read_key_entry-returns-in_ok-end-in-Some-clause-reads
entries::read_key_entry-returns-in_ok-end-in-Some-clause-reads g t c =
    let cs = text_of c.args.source.now in
    let k = c.in_ok-key.ensures.reads in
    let v = c.in_ok-end-in-Some.ensures.reads in (
      k.0 ++ v.0,
      puts_on c.args.out.now c.read_flow_node.new.out _ k.0 v.0 k.1 v.1,
      from_same c.max.result (max c.in_ok-key.key.deep c.in_ok-end-in-Some.deep) (λ room. keyed_at cs (Unit {0}) (handles_of c.args.level.now.handles) room c.args.level.now.least (context_of c.args.level.now.context)) _ _ _ c.max.ensures
          (key_entry cs (Unit {0}) (handles_of c.args.level.now.handles) c.in_ok-key.key.deep c.in_ok-end-in-Some.deep c.in_ok-key.key.kind c.args.level.now.least (context_of c.args.level.now.context) _ _ _ _ k.0 v.0 k.2 c.in_ok-colon.ensures.leads.separate v.2),
    )

-- ---- pairs

-- ---- collections

pub sequence::read_sequence-returns-clause-reads : goal.sequence::read_sequence-returns-clause-reads
sequence::read_sequence-returns-clause-reads g t c =
    let cs = text_of c.args.source.now in
    let n = c.in_ok-end.ensures.reads in
    let b = c.requires.bracket in (
      sequence_start true None untagged ∷ (n.0 ++ (sequence_end ∷ [])),
      puts_on c.args.out.now c.read_items.new.out _ (sequence_start true None untagged ∷ n.0) (sequence_end ∷ [])
          (puts_on c.args.out.now c.push_flow_sequence.new.out _ (sequence_start true None untagged ∷ []) n.0 c.in_ok-push_flow_sequence.ensures.ok n.1)
          c.in_ok-push_sequence_end.ensures.ok,
      sequence_is cs (Unit {0}) (handles_of c.args.level.now.handles) c.args.level.now.least (context_of c.args.level.now.context) c.in_ok-end.deep _ _ _ _ n.0 (b.is, b.next) c.in_ok-first.ensures.leads.separate
          (subst (λ x. from_room c.in_ok-end.deep (λ room. parts cs c.args.level.now.least x 93 (item_at cs (Unit {0}) (handles_of c.args.level.now.handles) room c.args.level.now.least x)) (place_of c.args.source.now c.in_ok-first.first) (place_of c.args.source.now c.in_ok-end.end) n.0) c.inner.ensures.context n.2),
    )

pub mapping::read_mapping-returns-clause-reads : goal.mapping::read_mapping-returns-clause-reads
mapping::read_mapping-returns-clause-reads g t c =
    let cs = text_of c.args.source.now in
    let n = c.in_ok-end.ensures.reads in
    let b = c.requires.bracket in (
      mapping_start true None untagged ∷ (n.0 ++ (mapping_end ∷ [])),
      puts_on c.args.out.now c.read_entries.new.out _ (mapping_start true None untagged ∷ n.0) (mapping_end ∷ [])
          (puts_on c.args.out.now c.push_flow_mapping.new.out _ (mapping_start true None untagged ∷ []) n.0 c.in_ok-push_flow_mapping.ensures.ok n.1)
          c.in_ok-push_mapping_end.ensures.ok,
      mapping_is cs (Unit {0}) (handles_of c.args.level.now.handles) c.args.level.now.least (context_of c.args.level.now.context) c.in_ok-end.deep _ _ _ _ n.0 (b.is, b.next) c.in_ok-first.ensures.leads.separate
          (subst (λ x. from_room c.in_ok-end.deep (λ room. parts cs c.args.level.now.least x 125 (entry_at cs (Unit {0}) (handles_of c.args.level.now.handles) room c.args.level.now.least x)) (place_of c.args.source.now c.in_ok-first.first) (place_of c.args.source.now c.in_ok-end.end) n.0) c.inner.ensures.context n.2),
    )

-- ---- values

pub entries::read_value-returns-then-not-is_parted-clause-reads : goal.entries::read_value-returns-then-not-is_parted-clause-reads
entries::read_value-returns-then-not-is_parted-clause-reads g t c =
    let s = c.requires.colon in
    (empty no_props, c.in_ok-push_empty.ensures.ok, no_value (text_of c.args.source.now) (Unit {0}) (handles_of c.args.level.now.handles) c.args.colon.kind c.args.level.now.least (context_of c.args.level.now.context) _ _ (s.is, s.next) c.requires.sign)

pub entries::read_value-returns-clause-reads : goal.entries::read_value-returns-clause-reads
entries::read_value-returns-clause-reads g t c =
    let s = c.requires.colon in
    let n = c.in_ok-value.ensures.reads in (
      n.0,
      n.1,
      value_is (text_of c.args.source.now) (Unit {0}) (handles_of c.args.level.now.handles) c.in_ok-value.value.deep c.args.colon.kind c.in_ok-value.value.kind c.args.level.now.least (context_of c.args.level.now.context) c.args.colon.after c.in_ok-start.start _ _ _ _ n.0 (s.is, s.next) c.requires.sign
          (on_true_at c.is_parted.result c.if-not-is_parted.false c.is_parted.ensures.yes) c.in_ok-start.ensures.leads.separate c.in_ok-start.ensures.leads.apart n.2,
    )

pub entries::read_value-returns-then-ends_value-clause-reads : goal.entries::read_value-returns-then-ends_value-clause-reads
entries::read_value-returns-then-ends_value-clause-reads g t c =
    let s = c.requires.colon in
    (empty no_props, c.in_ok-push_empty-2.ensures.ok, no_value (text_of c.args.source.now) (Unit {0}) (handles_of c.args.level.now.handles) c.args.colon.kind c.args.level.now.least (context_of c.args.level.now.context) _ _ (s.is, s.next) c.requires.sign)

-- ---- nodes

pub nodes::read_flow_node-returns-clause-reads : goal.nodes::read_flow_node-returns-clause-reads
nodes::read_flow_node-returns-clause-reads g t c =
    let cs = text_of c.args.source.now in
    let h = handles_of c.args.level.now.handles in
    let n = c.in_ok-node.ensures.reads in
    let p = props_of c.in_ok-own.own in
    let altered = puts_altered c.args.out.now c.read_bare.new.out c.dress.new.self c.mark-start.result (dressed p) n.0 c.mark-start.ensures n.1 c.dress.ensures in (
      dressed p n.0,
      altered,
      bare_flow cs (Unit {0}) h c.in_ok-node.node.deep c.in_ok-node.node.kind c.args.level.now.least (context_of c.args.level.now.context) p _ _ _ n.0 n.2,
    )

pub nodes::read_flow_node-read_bare-requires : goal.nodes::read_flow_node-read_bare-requires
nodes::read_flow_node-read_bare-requires g t c =
    λ κs l. (
      omega arith,
      (
        l,
        record {
          border = c.requires.border;
          end = c.in_ok-own.ensures.stand.border;
          order = c.in_ok-own.ensures.stand.onward;
          own = c.in_ok-own.ensures.stand.own;
          all = c.in_ok-own.ensures.stand.all;
          low = c.requires.low;
        },
      ),
    )

-- an alias
pub nodes::read_bare-returns-in-Some-clause-reads : goal.nodes::read_bare-returns-in-Some-clause-reads
nodes::read_bare-returns-in-Some-clause-reads g t c =
    let cs = text_of c.args.source.now in
    let h = handles_of c.args.level.now.handles in
    let p = props_of c.args.head.now.own in
    let none = on_true_at c.is_none.result c.if-is_none.true c.is_none.ensures.yes in
    appends_by (λ node. given (node.kind ≡ Yaml) (seen (λ x. alias_node x ∷ []) (tags.c-ns-alias-node cs))) (λ node. Bare cs (Unit {0}) h node.deep node.kind c.args.level.now.least (context_of c.args.level.now.context) p (place_of c.args.source.now c.args.head.now.end))
    (place_of c.args.source.now c.args.head.now.at) (place_of c.args.source.now c.args.head.now.at) (λ node. place_of c.args.source.now node.end) (holds_of g.K.Keeper.holds) _ _ c.read_alias.result
    (λ node es (k, (x, a, e)). aliased x a e none k) c.read_alias.ensures.reads

pub nodes::read_bare-returns-in-Some-2-clause-reads : goal.nodes::read_bare-returns-in-Some-2-clause-reads
nodes::read_bare-returns-in-Some-2-clause-reads g t c =
    let none = on_true_at c.is_none.result c.if-is_none.true c.is_none.ensures.yes in
    let n = perhaps_some (λ node. content_from (text_of c.args.source.now) (Unit {0}) (handles_of c.args.level.now.handles) node.deep node.kind c.args.level.now.least (context_of c.args.level.now.context)) _ (λ node. place_of c.args.source.now node.end) _ _ _ _ c.in-Some-2.is c.in_ok-node.ensures.reads in
    (n.0, n.1, plainly none n.2)

pub nodes::read_bare-returns-in-Some-3-clause-reads : goal.nodes::read_bare-returns-in-Some-3-clause-reads
nodes::read_bare-returns-in-Some-3-clause-reads g t c =
    let cs = text_of c.args.source.now in
    let h = handles_of c.args.level.now.handles in
    let some = on_false_at c.is_none.result c.if-is_none.false c.is_none.ensures.no in
    let n = perhaps_some (λ node. content_from cs (Unit {0}) h node.deep node.kind c.args.level.now.least (context_of c.args.level.now.context)) _ (λ node. place_of c.args.source.now node.end) _ _ _ _ c.in-Some-3.is c.in_ok-node-2.ensures.reads in
    (n.0, n.1, with_properties _ (own_marks cs h c.args.level.now.least (context_of c.args.level.now.context) _ _ _ c.requires.own some) (c.in_ok-start.ensures.leads.apart (omega (arith, c.in_ok-start.ensures.leads.onward, c.if-start-head.false))) n.2)

-- properties alone
pub nodes::read_bare-returns-then-start-head-clause-reads : goal.nodes::read_bare-returns-then-start-head-clause-reads
nodes::read_bare-returns-then-start-head-clause-reads g t c =
    let cs = text_of c.args.source.now in
    let h = handles_of c.args.level.now.handles in
    let s = c.args.source.now in
    let some = on_false_at c.is_none.result c.if-is_none.false c.is_none.ensures.no in
    appends_by (λ node. given (node.kind ≡ Yaml) (gives (empty no_props))) (λ node. Bare cs (Unit {0}) h node.deep node.kind c.args.level.now.least (context_of c.args.level.now.context) (props_of c.args.head.now.own) (place_of s c.args.head.now.end))
    (place_of s c.args.head.now.end) (place_of s c.args.head.now.at) (λ node. place_of s node.end) (holds_of g.K.Keeper.holds) _ _ c.push_lone.result
    (λ node es (k, (f, g)). lone (own_marks cs h c.args.level.now.least (context_of c.args.level.now.context) _ _ _ c.requires.own some) f g k) c.push_lone.ensures.reads

pub nodes::read_bare-returns-in-None-2-clause-reads : goal.nodes::read_bare-returns-in-None-2-clause-reads
nodes::read_bare-returns-in-None-2-clause-reads g t c =
    let cs = text_of c.args.source.now in
    let h = handles_of c.args.level.now.handles in
    let s = c.args.source.now in
    let some = on_false_at c.is_none.result c.if-is_none.false c.is_none.ensures.no in
    let same = perhaps_none (λ node. content_from cs (Unit {0}) h node.deep node.kind c.args.level.now.least (context_of c.args.level.now.context)) _ (λ node. place_of s node.end) _ _ _ c.in-None-2.is c.in_ok-node-2.ensures.reads in
    appends_same (λ node. given (node.kind ≡ Yaml) (gives (empty no_props))) (λ node. Bare cs (Unit {0}) h node.deep node.kind c.args.level.now.least (context_of c.args.level.now.context) (props_of c.args.head.now.own) (place_of s c.args.head.now.end))
    (place_of s c.args.head.now.end) (place_of s c.args.head.now.at) (λ node. place_of s node.end) _ _ _ c.push_lone-in-None-2.result same
    (λ node es (k, (f, g)). lone (own_marks cs h c.args.level.now.least (context_of c.args.level.now.context) _ _ _ c.requires.own some) f g k) c.push_lone-in-None-2.ensures.reads

-- ---- items and entries with `?`, and empty keys

pub pairs::read_asked_pair-returns-clause-reads : goal.pairs::read_asked_pair-returns-clause-reads
pairs::read_asked_pair-returns-clause-reads g t c =
    let cs = text_of c.args.source.now in
    let n = c.in_ok-end.ensures.reads in
    let b = c.requires.sign in (
      mapping_start true None untagged ∷ (n.0 ++ (mapping_end ∷ [])),
      puts_on c.args.out.now c.read_asked.new.out _ (mapping_start true None untagged ∷ n.0) (mapping_end ∷ [])
          (puts_on c.args.out.now c.push_flow_mapping.new.out _ (mapping_start true None untagged ∷ []) n.0 c.in_ok-push_flow_mapping.ensures.ok n.1)
          c.in_ok-push_mapping_end.ensures.ok,
      asked_pair cs (handles_of c.args.level.now.handles) c.in_ok-end.deep c.args.level.now.least (context_of c.args.level.now.context) _ _ _ n.0 (b.is, b.next) n.2,
    )

pub pairs::read_empty_pair-returns-clause-reads : goal.pairs::read_empty_pair-returns-clause-reads
pairs::read_empty_pair-returns-clause-reads g t c =
    let cs = text_of c.args.source.now in
    let n = c.in_ok-end.ensures.reads in (
      mapping_start true None untagged ∷ ((empty no_props ++ n.0) ++ (mapping_end ∷ [])),
      puts_on c.args.out.now c.read_value.new.out _ (mapping_start true None untagged ∷ (empty no_props ++ n.0)) (mapping_end ∷ [])
          (puts_on c.args.out.now c.push_empty.new.out _ (mapping_start true None untagged ∷ empty no_props) n.0
          (puts_on c.args.out.now c.push_flow_mapping.new.out _ (mapping_start true None untagged ∷ []) (empty no_props) c.in_ok-push_flow_mapping.ensures.ok c.in_ok-push_empty.ensures.ok) n.1)
          c.in_ok-push_mapping_end.ensures.ok,
      empty_pair cs (handles_of c.args.level.now.handles) c.in_ok-end.deep c.args.level.now.least (context_of c.args.level.now.context) _ _ n.0 n.2,
    )

pub entries::read_entry-returns-in-None-clause-reads : goal.entries::read_entry-returns-in-None-clause-reads
entries::read_entry-returns-in-None-clause-reads g t c =
    let cs = text_of c.args.source.now in
    let h = handles_of c.args.level.now.handles in
    let n = c.args.level.now.least in
    let x = context_of c.args.level.now.context in
    let s = c.args.source.now in
    appends_by (λ r. from_room r.1 (λ room. keyed_at cs (Unit {0}) h room n x)) (λ r. from_room r.1 (λ room. entry_at cs (Unit {0}) h room n x))
    (place_of s c.args.at) (place_of s c.args.at) (λ r. place_of s r.0) (holds_of g.K.Keeper.holds) _ _ c.read_keyed.result
    (λ r es p room le. keyed_entry cs h room n x _ _ es (p room le)) c.read_keyed.ensures.reads

pub entries::read_entry-returns-in-Some-clause-reads : goal.entries::read_entry-returns-in-Some-clause-reads
entries::read_entry-returns-in-Some-clause-reads g t c =
    let cs = text_of c.args.source.now in
    let h = handles_of c.args.level.now.handles in
    let n = c.args.level.now.least in
    let x = context_of c.args.level.now.context in
    let s = c.args.source.now in
    let q = c.in-Some.ensures.sign in
    appends_by (λ r. from_room r.1 (λ room. asked_at cs (Unit {0}) h room n x)) (λ r. from_room r.1 (λ room. entry_at cs (Unit {0}) h room n x))
    (place_of s c.in-Some.after) (place_of s c.args.at) (λ r. place_of s r.0) (holds_of g.K.Keeper.holds) _ _ c.read_asked.result
    (λ r es p. asked_entry cs h r.1 n x _ _ _ es (q.is, q.next) p) c.read_asked.ensures.reads

pub entries::read_asked-returns-clause-reads : goal.entries::read_asked-returns-clause-reads
entries::read_asked-returns-clause-reads g t c =
    let cs = text_of c.args.source.now in
    let h = handles_of c.args.level.now.handles in
    let n = c.args.level.now.least in
    let x = context_of c.args.level.now.context in
    let s = c.args.source.now in
    appends_by (λ r. from_room r.1 (λ room. keyed_at cs (Unit {0}) h room n x)) (λ r. from_room r.1 (λ room. asked_at cs (Unit {0}) h room n x))
    (place_of s c.in_ok-start.start) (place_of s c.args.after) (λ r. place_of s r.0) (holds_of g.K.Keeper.holds) _ _ c.read_keyed.result
    (λ r es p. asked_keyed cs (Unit {0}) h r.1 n x _ _ _ es (c.in_ok-start.ensures.leads.apart (omega (arith, c.in_ok-start.ensures.leads.onward, c.if-start-after.false))) p) c.read_keyed.ensures.reads

pub entries::read_asked-returns-then-ends_value-clause-reads : goal.entries::read_asked-returns-then-ends_value-clause-reads
entries::read_asked-returns-then-ends_value-clause-reads g t c =
    let cs = text_of c.args.source.now in (
      empty no_props ++ empty no_props,
      puts_on c.args.out.now c.push_empty.new.out _ (empty no_props) (empty no_props) c.in_ok-push_empty.ensures.ok c.in_ok-push_empty-2.ensures.ok,
      asked_nothing cs (Unit {0}) (handles_of c.args.level.now.handles) c.args.level.now.least (context_of c.args.level.now.context) _ _ (c.in_ok-start.ensures.leads.apart (omega (arith, c.in_ok-start.ensures.leads.onward, c.if-start-after.false))),
    )

pub entries::read_keyed-returns-in_ok-push_empty-in-Some-clause-reads : goal.entries::read_keyed-returns-in_ok-push_empty-in-Some-clause-reads
entries::read_keyed-returns-in_ok-push_empty-in-Some-clause-reads g t c =
    let cs = text_of c.args.source.now in
    let h = handles_of c.args.level.now.handles in
    let n = c.args.level.now.least in
    let x = context_of c.args.level.now.context in
    let s = c.args.source.now in
    appends_after (λ r. from_room r.1 (λ room. value_at cs (Unit {0}) h Yaml room n x)) (λ r. from_room r.1 (λ room. keyed_at cs (Unit {0}) h room n x))
    (place_of s c.args.at) (place_of s c.args.at) (λ r. place_of s r.0) _ _ _ c.read_value.result (empty no_props) c.in_ok-push_empty-in-Some.ensures.ok
    (λ r vs v. empty_entry cs (Unit {0}) h r.1 n x _ _ vs v) c.read_value.ensures.reads

-- ---- what is decided

pub entries::read_asked-returns-clause-decides : goal.entries::read_asked-returns-clause-decides
entries::read_asked-returns-clause-decides g t c =
    let cs = text_of c.args.source.now in
    let h = handles_of c.args.level.now.handles in
    let n = c.args.level.now.least in
    let x = context_of c.args.level.now.context in
    let s = c.args.source.now in
    λ e. decides_by (keyed_at cs (Unit {0}) h c.args.level.now.room n flow_in) (InFlow cs n) (place_of s c.in_ok-start.start) (InFlow cs n) (asked_at cs (Unit {0}) h c.args.level.now.room n flow_in) (InFlow cs n) (place_of s c.args.after) (InFlow cs n) (λ r. place_of s r.0) c.read_keyed.result
    (λ z g. asked_keyed_goes cs h c.args.level.now.room n c.requires.mark.0 (place_of s c.args.after) c.requires.mark.1 c.requires.mark.2 (place_of s c.in_ok-start.start) (c.in_ok-start.ensures.leads.way e) z (on_false_at c.ends_value.result c.if-ends_value.false c.ends_value.ensures.no) g) (asked_keyed_refused cs h c.args.level.now.room n c.requires.mark.0 (place_of s c.args.after) c.requires.mark.1 c.requires.mark.2 (place_of s c.in_ok-start.start) (c.in_ok-start.ensures.leads.way e) (on_false_at c.ends_value.result c.if-ends_value.false c.ends_value.ensures.no)) (c.read_keyed.ensures.decides e)

pub entries::read_asked-returns-in_err-start-clause-decides : goal.entries::read_asked-returns-in_err-start-clause-decides
entries::read_asked-returns-in_err-start-clause-decides g t c =
    let cs = text_of c.args.source.now in
    let h = handles_of c.args.level.now.handles in
    let n = c.args.level.now.least in
    let x = context_of c.args.level.now.context in
    let s = c.args.source.now in
    λ e. decides_err (asked_at cs (Unit {0}) h c.args.level.now.room n flow_in) (InFlow cs n) (place_of s c.args.after) (InFlow cs n) (λ r. place_of s r.0) c.from_residual.result c.in_err-start.field-0.0 c.from_residual.ensures.1 (inr (asked_nowhere cs h c.args.level.now.room n c.requires.mark.0 (place_of s c.args.after) c.requires.mark.1 c.requires.mark.2 (none_in cs n x _ e (c.in_err-start.ensures.none (mark_inside cs (place_of s c.args.after) c.requires.mark)))))

pub entries::read_asked-returns-then-ends_value-clause-decides : goal.entries::read_asked-returns-then-ends_value-clause-decides
entries::read_asked-returns-then-ends_value-clause-decides g t c =
    let cs = text_of c.args.source.now in
    let h = handles_of c.args.level.now.handles in
    let n = c.args.level.now.least in
    let x = context_of c.args.level.now.context in
    let s = c.args.source.now in
    λ e. asked_closed cs h c.args.level.now.room n c.requires.mark.0 (place_of s c.args.after) c.requires.mark.1 c.requires.mark.2 (place_of s c.in_ok-start.start) (c.in_ok-start.ensures.leads.way e) (on_true_at c.ends_value.result c.if-ends_value.true c.ends_value.ensures.yes)

pub entries::read_asked-returns-then-start-after-clause-decides : goal.entries::read_asked-returns-then-start-after-clause-decides
entries::read_asked-returns-then-start-after-clause-decides g t c =
    let cs = text_of c.args.source.now in
    let h = handles_of c.args.level.now.handles in
    let n = c.args.level.now.least in
    let x = context_of c.args.level.now.context in
    let s = c.args.source.now in
    λ e. inr (asked_alone cs h c.args.level.now.room n c.requires.mark.0 (place_of s c.args.after) c.requires.mark.1 c.requires.mark.2 (λ q w. c.in_ok-start.ensures.leads.way e q w ∙ ap (place_of s) c.if-start-after.true))

pub pairs::read_asked_pair-read_asked-requires : goal.pairs::read_asked_pair-read_asked-requires
pairs::read_asked_pair-read_asked-requires g t c =
    λ κs l. (
      omega arith,
      (
        l,
        record {
          border = c.requires.sign.border;
          low = omega (arith, c.requires.low, c.requires.sign.forward);
          inner = c.requires.inner;
          mark = (_, c.requires.sign.next, c.requires.sign.is);
        },
      ),
    )

pub pairs::read_asked_pair-returns-clause-decides : goal.pairs::read_asked_pair-returns-clause-decides
pairs::read_asked_pair-returns-clause-decides g t c =
    let cs = text_of c.args.source.now in
    let h = handles_of c.args.level.now.handles in
    let n = c.args.level.now.least in
    let x = context_of c.args.level.now.context in
    let s = c.args.source.now in
    λ e. asked_goes cs h n c.args.level.now.room (c.args.level.now.room - 1) (omega arith) (place_of s c.args.at) (place_of s c.args.after) (place_of s c.in_ok-end.end) (subst (λ y. AskedAt y cs (place_of s c.args.at)) e c.requires.asked) c.requires.sign.next (c.in_ok-end.ensures.decides e)

pub pairs::read_asked_pair-returns-in_err-end-clause-decides : goal.pairs::read_asked_pair-returns-in_err-end-clause-decides
pairs::read_asked_pair-returns-in_err-end-clause-decides g t c =
    let cs = text_of c.args.source.now in
    let h = handles_of c.args.level.now.handles in
    let n = c.args.level.now.least in
    let x = context_of c.args.level.now.context in
    let s = c.args.source.now in
    λ e. decides_err (item_at cs (Unit {0}) h c.args.level.now.room n flow_in) (InFlow cs n) (place_of s c.args.at) (InFlow cs n) (λ r. place_of s r.0) c.from_residual-in_err-end.result c.in_err-end.field-0.0 c.from_residual-in_err-end.ensures.1 (or_else (asked_refused cs h n c.args.level.now.room (c.args.level.now.room - 1) (omega arith) (place_of s c.args.at) (place_of s c.args.after) (subst (λ y. AskedAt y cs (place_of s c.args.at)) e c.requires.asked) c.requires.sign.next) (c.in_err-end.ensures.decides e))

pub pairs::read_asked_pair-returns-then-level-eq0-clause-decides : goal.pairs::read_asked_pair-returns-then-level-eq0-clause-decides
pairs::read_asked_pair-returns-then-level-eq0-clause-decides g t c =
    let cs = text_of c.args.source.now in
    let h = handles_of c.args.level.now.handles in
    let n = c.args.level.now.least in
    let x = context_of c.args.level.now.context in
    let s = c.args.source.now in
    λ e. inr (asked_full cs h n c.args.level.now.room c.if-level-eq0.true (place_of s c.args.at) (subst (λ y. AskedAt y cs (place_of s c.args.at)) e c.requires.asked))

pub nodes::read_bare-returns-in-None-2-clause-decides : goal.nodes::read_bare-returns-in-None-2-clause-decides
nodes::read_bare-returns-in-None-2-clause-decides g t c =
    let cs = text_of c.args.source.now in
    let h = handles_of c.args.level.now.handles in
    let n = c.args.level.now.least in
    let x = context_of c.args.level.now.context in
    let s = c.args.source.now in
    let own = props_of c.args.head.now.own in
    let some = on_false_at c.is_none.result c.if-is_none.false c.is_none.ensures.no in
    let read = marks_props cs h n x (place_of s c.args.head.now.at) (place_of s c.args.head.now.end) own (own_marks cs h n x _ _ _ c.requires.own some) in
    λ on. lone_decides cs h c.args.level.now.room n x (place_of s c.args.head.now.at) (place_of s c.args.head.now.end) (λ node. place_of s node.end) c.push_lone-in-None-2.result c.args.head.now.end c.push_lone-in-None-2.ensures.kind (λ node e. ap (place_of s) e) c.push_lone-in-None-2.ensures.end c.push_lone-in-None-2.ensures.memory
    (props_none cs h c.args.level.now.room n x (place_of s c.args.head.now.at) (place_of s c.args.head.now.end) own read c.requires.all (place_of s c.in_ok-start.start) c.in_ok-start.ensures.leads.to (content_none cs h c.args.level.now.room n x (place_of s c.in_ok-start.start) (λ node. place_of s node.end) c.in_ok-node-2.field-0 c.in-None-2.is c.in_ok-node-2.ensures.decides))

pub nodes::read_bare-returns-in-None-clause-decides : goal.nodes::read_bare-returns-in-None-clause-decides
nodes::read_bare-returns-in-None-clause-decides g t c =
    let cs = text_of c.args.source.now in
    let h = handles_of c.args.level.now.handles in
    let n = c.args.level.now.least in
    let x = context_of c.args.level.now.context in
    let s = c.args.source.now in
    let own = props_of c.args.head.now.own in
    let none = on_true_at c.is_none.result c.if-is_none.true c.is_none.ensures.yes in
    let bare = c.requires.all.none none in
    λ on. inr (bare_refused cs h c.args.level.now.room n x (place_of s c.args.head.now.at) bare c.in_default.ensures.none (content_none cs h c.args.level.now.room n x (place_of s c.args.head.now.at) (λ node. place_of s node.end) c.in_ok-node.field-0 c.in-None.is c.in_ok-node.ensures.decides))

pub nodes::read_bare-returns-in-Some-2-clause-decides : goal.nodes::read_bare-returns-in-Some-2-clause-decides
nodes::read_bare-returns-in-Some-2-clause-decides g t c =
    let cs = text_of c.args.source.now in
    let h = handles_of c.args.level.now.handles in
    let n = c.args.level.now.least in
    let x = context_of c.args.level.now.context in
    let s = c.args.source.now in
    let own = props_of c.args.head.now.own in
    let none = on_true_at c.is_none.result c.if-is_none.true c.is_none.ensures.yes in
    let bare = c.requires.all.none none in
    λ on. bare_only cs h c.args.level.now.room n x (place_of s c.args.head.now.at) (place_of s c.in-Some-2.node.end) c.in-Some-2.node.kind bare c.in_default.ensures.none (content_some cs h c.args.level.now.room n x (place_of s c.args.head.now.at) (λ node. place_of s node.end) c.in_ok-node.field-0 c.in-Some-2.node c.in-Some-2.is c.in_ok-node.ensures.decides)

pub nodes::read_bare-returns-in-Some-3-clause-decides : goal.nodes::read_bare-returns-in-Some-3-clause-decides
nodes::read_bare-returns-in-Some-3-clause-decides g t c =
    let cs = text_of c.args.source.now in
    let h = handles_of c.args.level.now.handles in
    let n = c.args.level.now.least in
    let x = context_of c.args.level.now.context in
    let s = c.args.source.now in
    let own = props_of c.args.head.now.own in
    let some = on_false_at c.is_none.result c.if-is_none.false c.is_none.ensures.no in
    let read = marks_props cs h n x (place_of s c.args.head.now.at) (place_of s c.args.head.now.end) own (own_marks cs h n x _ _ _ c.requires.own some) in
    let r = perhaps_some (λ node. content_from cs (Unit {0}) h node.deep node.kind n x) _ (λ node. place_of s node.end) _ _ _ _ c.in-Some-3.is c.in_ok-node-2.ensures.reads in
    λ on. props_only cs h c.args.level.now.room n x (place_of s c.args.head.now.at) (place_of s c.args.head.now.end) own read c.requires.all (place_of s c.in_ok-start.start) c.in_ok-start.ensures.leads.to (c.in_ok-start.ensures.leads.apart (omega (arith, c.in_ok-start.ensures.leads.onward, c.if-start-head.false))) (content_begins cs h c.args.level.now.room n c.in-Some-3.node.deep c.in-Some-3.node.kind x (place_of s c.in_ok-start.start) (place_of s c.in-Some-3.node.end) r.0 r.2) c.in-Some-3.node.kind (place_of s c.in-Some-3.node.end)
    (content_some cs h c.args.level.now.room n x (place_of s c.in_ok-start.start) (λ node. place_of s node.end) c.in_ok-node-2.field-0 c.in-Some-3.node c.in-Some-3.is c.in_ok-node-2.ensures.decides)

pub nodes::read_bare-returns-in-Some-clause-decides : goal.nodes::read_bare-returns-in-Some-clause-decides
nodes::read_bare-returns-in-Some-clause-decides g t c =
    let cs = text_of c.args.source.now in
    let h = handles_of c.args.level.now.handles in
    let n = c.args.level.now.least in
    let x = context_of c.args.level.now.context in
    let s = c.args.source.now in
    let own = props_of c.args.head.now.own in
    let none = on_true_at c.is_none.result c.if-is_none.true c.is_none.ensures.yes in
    let bare = c.requires.all.none none in
    λ on. alias_decides cs h c.args.level.now.room n x (place_of s c.args.head.now.at) c.in-Some.ensures.some.is (λ node. place_of s node.end) c.read_alias.result c.read_alias.ensures.kind c.read_alias.ensures.decides

pub nodes::read_bare-returns-in_err-node-2-clause-decides : goal.nodes::read_bare-returns-in_err-node-2-clause-decides
nodes::read_bare-returns-in_err-node-2-clause-decides g t c =
    let cs = text_of c.args.source.now in
    let h = handles_of c.args.level.now.handles in
    let n = c.args.level.now.least in
    let x = context_of c.args.level.now.context in
    let s = c.args.source.now in
    let own = props_of c.args.head.now.own in
    let some = on_false_at c.is_none.result c.if-is_none.false c.is_none.ensures.no in
    let read = marks_props cs h n x (place_of s c.args.head.now.at) (place_of s c.args.head.now.end) own (own_marks cs h n x _ _ _ c.requires.own some) in
    λ on. node_err cs h c.args.level.now.room n x (place_of s c.args.head.now.at) (λ node. place_of s node.end) c.from_residual-in_err-node-2.result c.in_err-node-2.field-0.0 c.from_residual-in_err-node-2.ensures.1
    (or_else (λ f. props_refused cs h c.args.level.now.room n x (place_of s c.args.head.now.at) (place_of s c.args.head.now.end) own read c.requires.all (place_of s c.in_ok-start.start) c.in_ok-start.ensures.leads.to (c.in_ok-start.ensures.leads.apart (omega (arith, c.in_ok-start.ensures.leads.onward, c.if-start-head.false))) f.0 (f.1, f.2)) c.in_err-node-2.ensures.decides)

pub nodes::read_bare-returns-in_err-node-clause-decides : goal.nodes::read_bare-returns-in_err-node-clause-decides
nodes::read_bare-returns-in_err-node-clause-decides g t c =
    let cs = text_of c.args.source.now in
    let h = handles_of c.args.level.now.handles in
    let n = c.args.level.now.least in
    let x = context_of c.args.level.now.context in
    let s = c.args.source.now in
    let own = props_of c.args.head.now.own in
    let none = on_true_at c.is_none.result c.if-is_none.true c.is_none.ensures.yes in
    let bare = c.requires.all.none none in
    λ on. node_err cs h c.args.level.now.room n x (place_of s c.args.head.now.at) (λ node. place_of s node.end) c.from_residual.result c.in_err-node.field-0.0 c.from_residual.ensures.1 (or_else (λ f. bare_refused cs h c.args.level.now.room n x (place_of s c.args.head.now.at) bare c.in_default.ensures.none (f.1, f.2)) c.in_err-node.ensures.decides)

pub nodes::read_bare-returns-in_err-start-clause-decides : goal.nodes::read_bare-returns-in_err-start-clause-decides
nodes::read_bare-returns-in_err-start-clause-decides g t c =
    let cs = text_of c.args.source.now in
    let h = handles_of c.args.level.now.handles in
    let n = c.args.level.now.least in
    let x = context_of c.args.level.now.context in
    let s = c.args.source.now in
    let own = props_of c.args.head.now.own in
    let some = on_false_at c.is_none.result c.if-is_none.false c.is_none.ensures.no in
    let read = marks_props cs h n x (place_of s c.args.head.now.at) (place_of s c.args.head.now.end) own (own_marks cs h n x _ _ _ c.requires.own some) in
    λ on. node_err cs h c.args.level.now.room n x (place_of s c.args.head.now.at) (λ node. place_of s node.end) c.from_residual-in_err-start.result c.in_err-start.field-0.0 c.from_residual-in_err-start.ensures.1 (inr (props_nowhere cs h c.args.level.now.room n x (place_of s c.args.head.now.at) (place_of s c.args.head.now.end) own read c.requires.all on some c.in_err-start.ensures.none))

pub nodes::read_bare-returns-then-start-head-clause-decides : goal.nodes::read_bare-returns-then-start-head-clause-decides
nodes::read_bare-returns-then-start-head-clause-decides g t c =
    let cs = text_of c.args.source.now in
    let h = handles_of c.args.level.now.handles in
    let n = c.args.level.now.least in
    let x = context_of c.args.level.now.context in
    let s = c.args.source.now in
    let own = props_of c.args.head.now.own in
    let some = on_false_at c.is_none.result c.if-is_none.false c.is_none.ensures.no in
    let read = marks_props cs h n x (place_of s c.args.head.now.at) (place_of s c.args.head.now.end) own (own_marks cs h n x _ _ _ c.requires.own some) in
    λ on. lone_decides cs h c.args.level.now.room n x (place_of s c.args.head.now.at) (place_of s c.args.head.now.end) (λ node. place_of s node.end) c.push_lone.result c.args.head.now.end c.push_lone.ensures.kind (λ node e. ap (place_of s) e) c.push_lone.ensures.end c.push_lone.ensures.memory
    (props_lone cs h c.args.level.now.room n x (place_of s c.args.head.now.at) (place_of s c.args.head.now.end) own read c.requires.all (λ q t u. c.in_ok-start.ensures.leads.to q t u ∙ ap (place_of s) c.if-start-head.true))

pub nodes::read_content-returns-in-Other-clause-decides : goal.nodes::read_content-returns-in-Other-clause-decides
nodes::read_content-returns-in-Other-clause-decides g t c =
    let cs = text_of c.args.source.now in
    let h = handles_of c.args.level.now.handles in
    let n = c.args.level.now.least in
    let x = context_of c.args.level.now.context in
    let s = c.args.source.now in
    plain_content cs h c.args.level.now.room n x (place_of s c.args.at) (λ node. place_of s node.end) c.read_plain_node.result c.in-Other.ensures c.read_plain_node.ensures.decides

pub nodes::read_content-returns-in_err-node-in-Double-clause-decides : goal.nodes::read_content-returns-in_err-node-in-Double-clause-decides
nodes::read_content-returns-in_err-node-in-Double-clause-decides g t c =
    let cs = text_of c.args.source.now in
    let h = handles_of c.args.level.now.handles in
    let n = c.args.level.now.least in
    let x = context_of c.args.level.now.context in
    let s = c.args.source.now in
    content_err cs h c.args.level.now.room n x (place_of s c.args.at) (λ node. place_of s node.end) c.from_residual-in_err-node-in-Double.result c.in_err-node-in-Double.field-0.0 c.from_residual-in_err-node-in-Double.ensures.1
    (or_else (no_double cs h c.args.level.now.room n x (place_of s c.args.at) c.in-Double.ensures) c.in_err-node-in-Double.ensures.decides)

pub nodes::read_content-returns-in_err-node-in-Mapping-clause-decides : goal.nodes::read_content-returns-in_err-node-in-Mapping-clause-decides
nodes::read_content-returns-in_err-node-in-Mapping-clause-decides g t c =
    let cs = text_of c.args.source.now in
    let h = handles_of c.args.level.now.handles in
    let n = c.args.level.now.least in
    let x = context_of c.args.level.now.context in
    let s = c.args.source.now in
    content_err cs h c.args.level.now.room n x (place_of s c.args.at) (λ node. place_of s node.end) c.from_residual-in_err-node-in-Mapping.result c.in_err-node-in-Mapping.field-0.0 c.from_residual-in_err-node-in-Mapping.ensures.1
    (collection_err x (no_mapping cs h c.args.level.now.room n x (place_of s c.args.at) c.in-Mapping.ensures.is) c.in_err-node-in-Mapping.ensures.decides)

pub nodes::read_content-returns-in_err-node-in-Sequence-clause-decides : goal.nodes::read_content-returns-in_err-node-in-Sequence-clause-decides
nodes::read_content-returns-in_err-node-in-Sequence-clause-decides g t c =
    let cs = text_of c.args.source.now in
    let h = handles_of c.args.level.now.handles in
    let n = c.args.level.now.least in
    let x = context_of c.args.level.now.context in
    let s = c.args.source.now in
    content_err cs h c.args.level.now.room n x (place_of s c.args.at) (λ node. place_of s node.end) c.from_residual.result c.in_err-node-in-Sequence.field-0.0 c.from_residual.ensures.1
    (collection_err x (no_sequence cs h c.args.level.now.room n x (place_of s c.args.at) c.in-Sequence.ensures.is) c.in_err-node-in-Sequence.ensures.decides)

pub nodes::read_content-returns-in_err-node-in-Single-clause-decides : goal.nodes::read_content-returns-in_err-node-in-Single-clause-decides
nodes::read_content-returns-in_err-node-in-Single-clause-decides g t c =
    let cs = text_of c.args.source.now in
    let h = handles_of c.args.level.now.handles in
    let n = c.args.level.now.least in
    let x = context_of c.args.level.now.context in
    let s = c.args.source.now in
    content_err cs h c.args.level.now.room n x (place_of s c.args.at) (λ node. place_of s node.end) c.from_residual-in_err-node-in-Single.result c.in_err-node-in-Single.field-0.0 c.from_residual-in_err-node-in-Single.ensures.1
    (or_else (no_single cs h c.args.level.now.room n x (place_of s c.args.at) c.in-Single.ensures) c.in_err-node-in-Single.ensures.decides)

pub nodes::read_content-returns-in_ok-node-in-Double-clause-decides : goal.nodes::read_content-returns-in_ok-node-in-Double-clause-decides
nodes::read_content-returns-in_ok-node-in-Double-clause-decides g t c =
    let cs = text_of c.args.source.now in
    let h = handles_of c.args.level.now.handles in
    let n = c.args.level.now.least in
    let x = context_of c.args.level.now.context in
    let s = c.args.source.now in
    double_only cs h c.args.level.now.room n x (place_of s c.args.at) (place_of s c.in_ok-node-in-Double.node.end) c.in-Double.ensures c.in_ok-node-in-Double.ensures.decides c.in_ok-node-in-Double.node.kind c.in_ok-node-in-Double.ensures.kind

pub nodes::read_content-returns-in_ok-node-in-Mapping-clause-decides : goal.nodes::read_content-returns-in_ok-node-in-Mapping-clause-decides
nodes::read_content-returns-in_ok-node-in-Mapping-clause-decides g t c =
    let cs = text_of c.args.source.now in
    let h = handles_of c.args.level.now.handles in
    let n = c.args.level.now.least in
    let x = context_of c.args.level.now.context in
    let s = c.args.source.now in
    mapping_only cs h c.args.level.now.room n x (place_of s c.args.at) (place_of s c.in_ok-node-in-Mapping.node.end) c.in-Mapping.ensures.is c.in_ok-node-in-Mapping.ensures.decides c.in_ok-node-in-Mapping.node.kind c.in_ok-node-in-Mapping.ensures.kind

pub nodes::read_content-returns-in_ok-node-in-Sequence-clause-decides : goal.nodes::read_content-returns-in_ok-node-in-Sequence-clause-decides
nodes::read_content-returns-in_ok-node-in-Sequence-clause-decides g t c =
    let cs = text_of c.args.source.now in
    let h = handles_of c.args.level.now.handles in
    let n = c.args.level.now.least in
    let x = context_of c.args.level.now.context in
    let s = c.args.source.now in
    sequence_only cs h c.args.level.now.room n x (place_of s c.args.at) (place_of s c.in_ok-node-in-Sequence.node.end) c.in-Sequence.ensures.is c.in_ok-node-in-Sequence.ensures.decides c.in_ok-node-in-Sequence.node.kind c.in_ok-node-in-Sequence.ensures.kind

pub nodes::read_content-returns-in_ok-node-in-Single-clause-decides : goal.nodes::read_content-returns-in_ok-node-in-Single-clause-decides
nodes::read_content-returns-in_ok-node-in-Single-clause-decides g t c =
    let cs = text_of c.args.source.now in
    let h = handles_of c.args.level.now.handles in
    let n = c.args.level.now.least in
    let x = context_of c.args.level.now.context in
    let s = c.args.source.now in
    single_only cs h c.args.level.now.room n x (place_of s c.args.at) (place_of s c.in_ok-node-in-Single.node.end) c.in-Single.ensures c.in_ok-node-in-Single.ensures.decides c.in_ok-node-in-Single.node.kind c.in_ok-node-in-Single.ensures.kind

pub nodes::read_content-returns-then-level-eq0-2-clause-decides : goal.nodes::read_content-returns-then-level-eq0-2-clause-decides
nodes::read_content-returns-then-level-eq0-2-clause-decides g t c =
    let cs = text_of c.args.source.now in
    let h = handles_of c.args.level.now.handles in
    let n = c.args.level.now.least in
    let x = context_of c.args.level.now.context in
    let s = c.args.source.now in
    inr (no_mapping cs h c.args.level.now.room n x (place_of s c.args.at) c.in-Mapping.ensures.is (λ w p. no_mapping_left cs h c.args.level.now.room n x (place_of s c.args.at) c.if-level-eq0-2.true p))

pub nodes::read_content-returns-then-level-eq0-clause-decides : goal.nodes::read_content-returns-then-level-eq0-clause-decides
nodes::read_content-returns-then-level-eq0-clause-decides g t c =
    let cs = text_of c.args.source.now in
    let h = handles_of c.args.level.now.handles in
    let n = c.args.level.now.least in
    let x = context_of c.args.level.now.context in
    let s = c.args.source.now in
    inr (no_sequence cs h c.args.level.now.room n x (place_of s c.args.at) c.in-Sequence.ensures.is (λ w p. no_sequence_left cs h c.args.level.now.room n x (place_of s c.args.at) c.if-level-eq0.true p))

pub pairs::read_empty_pair-returns-clause-decides : goal.pairs::read_empty_pair-returns-clause-decides
pairs::read_empty_pair-returns-clause-decides g t c =
    let cs = text_of c.args.source.now in
    let h = handles_of c.args.level.now.handles in
    let n = c.args.level.now.least in
    let x = context_of c.args.level.now.context in
    let s = c.args.source.now in
    λ e. empty_goes cs h n c.args.level.now.room (c.args.level.now.room - 1) (omega arith) (place_of s c.args.at) (place_of s c.in_ok-end.end) (sign_in cs Yaml x (place_of s c.args.at) (place_of s c.args.after) e c.requires.colon.is c.requires.colon.next c.requires.sign) (c.in_ok-end.ensures.decides e)

pub pairs::read_empty_pair-returns-in_err-end-clause-decides : goal.pairs::read_empty_pair-returns-in_err-end-clause-decides
pairs::read_empty_pair-returns-in_err-end-clause-decides g t c =
    let cs = text_of c.args.source.now in
    let h = handles_of c.args.level.now.handles in
    let n = c.args.level.now.least in
    let x = context_of c.args.level.now.context in
    let s = c.args.source.now in
    λ e. decides_err (item_at cs (Unit {0}) h c.args.level.now.room n flow_in) (InFlow cs n) (place_of s c.args.at) (InFlow cs n) (λ r. place_of s r.0) c.from_residual-in_err-end.result c.in_err-end.field-0.0 c.from_residual-in_err-end.ensures.1 (or_else (empty_refused cs h n c.args.level.now.room (c.args.level.now.room - 1) (omega arith) (place_of s c.args.at) (sign_in cs Yaml x (place_of s c.args.at) (place_of s c.args.after) e c.requires.colon.is c.requires.colon.next c.requires.sign)) (c.in_err-end.ensures.decides e))

pub pairs::read_empty_pair-returns-then-level-eq0-clause-decides : goal.pairs::read_empty_pair-returns-then-level-eq0-clause-decides
pairs::read_empty_pair-returns-then-level-eq0-clause-decides g t c =
    let cs = text_of c.args.source.now in
    let h = handles_of c.args.level.now.handles in
    let n = c.args.level.now.least in
    let x = context_of c.args.level.now.context in
    let s = c.args.source.now in
    λ e. inr (empty_full cs h n c.args.level.now.room c.if-level-eq0.true (place_of s c.args.at) (sign_in cs Yaml x (place_of s c.args.at) (place_of s c.args.after) e c.requires.colon.is c.requires.colon.next c.requires.sign))

pub mapping::read_entries-returns-in-None-accept-2-clause-decides : goal.mapping::read_entries-returns-in-None-accept-2-clause-decides
mapping::read_entries-returns-in-None-accept-2-clause-decides g t c =
    let cs = text_of c.args.source.now in
    let h = handles_of c.args.level.now.handles in
    let n = c.args.level.now.least in
    let x = context_of c.args.level.now.context in
    let s = c.args.source.now in
    λ e. inr (left_unclosed cs n (entry_at cs (Unit {0}) h c.args.level.now.room n flow_in) (entry_begins cs h c.args.level.now.room n) 125 (brace_shut cs) brace_other (place_of s c.args.first) (place_of s c.entries.here) (c.entries.invariant.left e) c.in-None.ensures.none (place_of s c.in_ok-entry-in-None.entry) (c.in_ok-entry-in-None.ensures.decides e) (place_of s c.in_ok-after-in-None.after) (to_in cs n x _ _ e c.in_ok-after-in-None.ensures.leads.to) c.in-None-accept.ensures.none c.in-None-accept-2.ensures.none)

pub mapping::read_entries-returns-in-Some-accept-clause-decides : goal.mapping::read_entries-returns-in-Some-accept-clause-decides
mapping::read_entries-returns-in-Some-accept-clause-decides g t c =
    let cs = text_of c.args.source.now in
    let h = handles_of c.args.level.now.handles in
    let n = c.args.level.now.least in
    let x = context_of c.args.level.now.context in
    let s = c.args.source.now in
    λ e. left_last cs n (entry_at cs (Unit {0}) h c.args.level.now.room n flow_in) (entry_begins cs h c.args.level.now.room n) 125 (brace_shut cs) brace_other (place_of s c.args.first) (place_of s c.entries.here) (c.entries.invariant.left e) c.in-None.ensures.none (place_of s c.in_ok-entry-in-None.entry) (c.in_ok-entry-in-None.ensures.decides e) (place_of s c.in_ok-after-in-None.after) (to_in cs n x _ _ e c.in_ok-after-in-None.ensures.leads.to) _ c.in-Some-accept.ensures.some.is c.in-Some-accept.ensures.some.next

pub mapping::read_entries-returns-in-Some-clause-decides : goal.mapping::read_entries-returns-in-Some-clause-decides
mapping::read_entries-returns-in-Some-clause-decides g t c =
    let cs = text_of c.args.source.now in
    let h = handles_of c.args.level.now.handles in
    let n = c.args.level.now.least in
    let x = context_of c.args.level.now.context in
    let s = c.args.source.now in
    λ e. left_closed cs n (entry_at cs (Unit {0}) h c.args.level.now.room n flow_in) (entry_begins cs h c.args.level.now.room n) 125 (brace_shut cs) brace_other (place_of s c.args.first) (place_of s c.entries.here) _ (c.entries.invariant.left e) c.in-Some.ensures.some.is c.in-Some.ensures.some.next

pub mapping::read_entries-returns-in_err-after-in-None-clause-decides : goal.mapping::read_entries-returns-in_err-after-in-None-clause-decides
mapping::read_entries-returns-in_err-after-in-None-clause-decides g t c =
    let cs = text_of c.args.source.now in
    let h = handles_of c.args.level.now.handles in
    let n = c.args.level.now.least in
    let x = context_of c.args.level.now.context in
    let s = c.args.source.now in
    λ e. decides_err (parts cs n flow_in 125 (entry_at cs (Unit {0}) h c.args.level.now.room n flow_in)) Here (place_of s c.args.first) Here (λ r. place_of s r.0) c.from_residual-in_err-after-in-None.result c.in_err-after-in-None.field-0.0 c.from_residual-in_err-after-in-None.ensures.1 (inr (left_no_way cs n (entry_at cs (Unit {0}) h c.args.level.now.room n flow_in) (entry_begins cs h c.args.level.now.room n) 125 (brace_shut cs) brace_other (place_of s c.args.first) (place_of s c.entries.here) (c.entries.invariant.left e) c.in-None.ensures.none (place_of s c.in_ok-entry-in-None.entry) (c.in_ok-entry-in-None.ensures.decides e) (none_in cs n x _ e (c.in_err-after-in-None.ensures.none c.in_ok-entry-in-None.ensures.next))))

pub mapping::read_entries-returns-in_err-entry-in-None-clause-decides : goal.mapping::read_entries-returns-in_err-entry-in-None-clause-decides
mapping::read_entries-returns-in_err-entry-in-None-clause-decides g t c =
    let cs = text_of c.args.source.now in
    let h = handles_of c.args.level.now.handles in
    let n = c.args.level.now.least in
    let x = context_of c.args.level.now.context in
    let s = c.args.source.now in
    λ e. decides_err (parts cs n flow_in 125 (entry_at cs (Unit {0}) h c.args.level.now.room n flow_in)) Here (place_of s c.args.first) Here (λ r. place_of s r.0) c.from_residual.result c.in_err-entry-in-None.field-0.0 c.from_residual.ensures.1 (or_else (left_refused cs n (entry_at cs (Unit {0}) h c.args.level.now.room n flow_in) (entry_begins cs h c.args.level.now.room n) 125 (brace_shut cs) brace_other (place_of s c.args.first) (place_of s c.entries.here) (c.entries.invariant.left e) c.in-None.ensures.none) (c.in_err-entry-in-None.ensures.decides e))

pub mapping::read_entries-returns-in_err-here-in-Some-accept-2-clause-decides : goal.mapping::read_entries-returns-in_err-here-in-Some-accept-2-clause-decides
mapping::read_entries-returns-in_err-here-in-Some-accept-2-clause-decides g t c =
    let cs = text_of c.args.source.now in
    let h = handles_of c.args.level.now.handles in
    let n = c.args.level.now.least in
    let x = context_of c.args.level.now.context in
    let s = c.args.source.now in
    λ e. decides_err (parts cs n flow_in 125 (entry_at cs (Unit {0}) h c.args.level.now.room n flow_in)) Here (place_of s c.args.first) Here (λ r. place_of s r.0) c.from_residual-in_err-here-in-Some-accept-2.result c.in_err-here-in-Some-accept-2.field-0.0 c.from_residual-in_err-here-in-Some-accept-2.ensures.1 (inr (left_no_more cs n (entry_at cs (Unit {0}) h c.args.level.now.room n flow_in) (entry_begins cs h c.args.level.now.room n) 125 (brace_shut cs) brace_other (place_of s c.args.first) (place_of s c.entries.here) (c.entries.invariant.left e) c.in-None.ensures.none (place_of s c.in_ok-entry-in-None.entry) (c.in_ok-entry-in-None.ensures.decides e) (place_of s c.in_ok-after-in-None.after) (to_in cs n x _ _ e c.in_ok-after-in-None.ensures.leads.to) c.in-Some-accept-2.ensures.some.is (place_of s c.in-Some-accept-2.to) c.in-Some-accept-2.ensures.some.next (none_in cs n x _ e (c.in_err-here-in-Some-accept-2.ensures.none (char_inside cs _ _ 44 c.in-Some-accept-2.ensures.some.is c.in-Some-accept-2.ensures.some.next nb_comma)))))

pub entries::read_entry-read_asked-requires : goal.entries::read_entry-read_asked-requires
entries::read_entry-read_asked-requires g t c =
    λ κs l. (
      omega arith,
      (
        l,
        record {
          border = c.in-Some.ensures.sign.border;
          low = omega (arith, c.requires.low, c.in-Some.ensures.sign.forward);
          inner = c.requires.inner;
          mark = (_, c.in-Some.ensures.sign.next, c.in-Some.ensures.sign.is);
        },
      ),
    )

pub entries::read_entry-returns-in-None-clause-decides : goal.entries::read_entry-returns-in-None-clause-decides
entries::read_entry-returns-in-None-clause-decides g t c =
    let cs = text_of c.args.source.now in
    let h = handles_of c.args.level.now.handles in
    let n = c.args.level.now.least in
    let x = context_of c.args.level.now.context in
    let s = c.args.source.now in
    λ e. decides_by (keyed_at cs (Unit {0}) h c.args.level.now.room n flow_in) (InFlow cs n) (place_of s c.args.at) (InFlow cs n) (entry_at cs (Unit {0}) h c.args.level.now.room n flow_in) (InFlow cs n) (place_of s c.args.at) (InFlow cs n) (λ r. place_of s r.0) c.read_keyed.result
    (λ z g. entry_goes cs h c.args.level.now.room n (place_of s c.args.at) z (subst (λ y. AskedAt y cs (place_of s c.args.at) → ⊥) e c.in-None.ensures.none) g) (entry_refused cs h c.args.level.now.room n (place_of s c.args.at) (subst (λ y. AskedAt y cs (place_of s c.args.at) → ⊥) e c.in-None.ensures.none)) (c.read_keyed.ensures.decides e)

pub entries::read_entry-returns-in-Some-clause-decides : goal.entries::read_entry-returns-in-Some-clause-decides
entries::read_entry-returns-in-Some-clause-decides g t c =
    let cs = text_of c.args.source.now in
    let h = handles_of c.args.level.now.handles in
    let n = c.args.level.now.least in
    let x = context_of c.args.level.now.context in
    let s = c.args.source.now in
    λ e. decides_by (asked_at cs (Unit {0}) h c.args.level.now.room n flow_in) (InFlow cs n) (place_of s c.in-Some.after) (InFlow cs n) (entry_at cs (Unit {0}) h c.args.level.now.room n flow_in) (InFlow cs n) (place_of s c.args.at) (InFlow cs n) (λ r. place_of s r.0) c.read_asked.result
    (λ z g. asked_entry_goes cs h c.args.level.now.room n (place_of s c.args.at) (place_of s c.in-Some.after) c.in-Some.ensures.sign.next z (subst (λ y. AskedAt y cs (place_of s c.args.at)) e c.in-Some.ensures.asked) g) (asked_entry_refused cs h c.args.level.now.room n (place_of s c.args.at) (place_of s c.in-Some.after) c.in-Some.ensures.sign.next (subst (λ y. AskedAt y cs (place_of s c.args.at)) e c.in-Some.ensures.asked)) (c.read_asked.ensures.decides e)

pub nodes::read_flow_node-returns-in_err-own-clause-decides : goal.nodes::read_flow_node-returns-in_err-own-clause-decides
nodes::read_flow_node-returns-in_err-own-clause-decides g t c =
    let cs = text_of c.args.source.now in
    let h = handles_of c.args.level.now.handles in
    let n = c.args.level.now.least in
    let x = context_of c.args.level.now.context in
    let s = c.args.source.now in
    λ e. node_err cs h c.args.level.now.room n x (place_of s c.args.at) (λ node. place_of s node.end) c.from_residual.result c.in_err-own.field-0.0 c.from_residual.ensures.1 (or_else (barred_refused cs h c.args.level.now.room n x (place_of s c.args.at) e) c.in_err-own.ensures.barred)

pub sequence::read_items-returns-in-None-accept-2-clause-decides : goal.sequence::read_items-returns-in-None-accept-2-clause-decides
sequence::read_items-returns-in-None-accept-2-clause-decides g t c =
    let cs = text_of c.args.source.now in
    let h = handles_of c.args.level.now.handles in
    let n = c.args.level.now.least in
    let x = context_of c.args.level.now.context in
    let s = c.args.source.now in
    λ e. inr (left_unclosed cs n (item_at cs (Unit {0}) h c.args.level.now.room n flow_in) (item_begins cs h c.args.level.now.room n) 93 (bracket_shut cs) bracket_other (place_of s c.args.first) (place_of s c.items.here) (c.items.invariant.left e) c.in-None.ensures.none (place_of s c.in_ok-item-in-None.item) (c.in_ok-item-in-None.ensures.decides e) (place_of s c.in_ok-after-in-None.after) (to_in cs n x _ _ e c.in_ok-after-in-None.ensures.leads.to) c.in-None-accept.ensures.none c.in-None-accept-2.ensures.none)

pub sequence::read_items-returns-in-Some-accept-clause-decides : goal.sequence::read_items-returns-in-Some-accept-clause-decides
sequence::read_items-returns-in-Some-accept-clause-decides g t c =
    let cs = text_of c.args.source.now in
    let h = handles_of c.args.level.now.handles in
    let n = c.args.level.now.least in
    let x = context_of c.args.level.now.context in
    let s = c.args.source.now in
    λ e. left_last cs n (item_at cs (Unit {0}) h c.args.level.now.room n flow_in) (item_begins cs h c.args.level.now.room n) 93 (bracket_shut cs) bracket_other (place_of s c.args.first) (place_of s c.items.here) (c.items.invariant.left e) c.in-None.ensures.none (place_of s c.in_ok-item-in-None.item) (c.in_ok-item-in-None.ensures.decides e) (place_of s c.in_ok-after-in-None.after) (to_in cs n x _ _ e c.in_ok-after-in-None.ensures.leads.to) _ c.in-Some-accept.ensures.some.is c.in-Some-accept.ensures.some.next

pub sequence::read_items-returns-in-Some-clause-decides : goal.sequence::read_items-returns-in-Some-clause-decides
sequence::read_items-returns-in-Some-clause-decides g t c =
    let cs = text_of c.args.source.now in
    let h = handles_of c.args.level.now.handles in
    let n = c.args.level.now.least in
    let x = context_of c.args.level.now.context in
    let s = c.args.source.now in
    λ e. left_closed cs n (item_at cs (Unit {0}) h c.args.level.now.room n flow_in) (item_begins cs h c.args.level.now.room n) 93 (bracket_shut cs) bracket_other (place_of s c.args.first) (place_of s c.items.here) _ (c.items.invariant.left e) c.in-Some.ensures.some.is c.in-Some.ensures.some.next

pub sequence::read_items-returns-in_err-after-in-None-clause-decides : goal.sequence::read_items-returns-in_err-after-in-None-clause-decides
sequence::read_items-returns-in_err-after-in-None-clause-decides g t c =
    let cs = text_of c.args.source.now in
    let h = handles_of c.args.level.now.handles in
    let n = c.args.level.now.least in
    let x = context_of c.args.level.now.context in
    let s = c.args.source.now in
    λ e. decides_err (parts cs n flow_in 93 (item_at cs (Unit {0}) h c.args.level.now.room n flow_in)) Here (place_of s c.args.first) Here (λ r. place_of s r.0) c.from_residual-in_err-after-in-None.result c.in_err-after-in-None.field-0.0 c.from_residual-in_err-after-in-None.ensures.1 (inr (left_no_way cs n (item_at cs (Unit {0}) h c.args.level.now.room n flow_in) (item_begins cs h c.args.level.now.room n) 93 (bracket_shut cs) bracket_other (place_of s c.args.first) (place_of s c.items.here) (c.items.invariant.left e) c.in-None.ensures.none (place_of s c.in_ok-item-in-None.item) (c.in_ok-item-in-None.ensures.decides e) (none_in cs n x _ e (c.in_err-after-in-None.ensures.none c.in_ok-item-in-None.ensures.next))))

pub sequence::read_items-returns-in_err-here-in-Some-accept-2-clause-decides : goal.sequence::read_items-returns-in_err-here-in-Some-accept-2-clause-decides
sequence::read_items-returns-in_err-here-in-Some-accept-2-clause-decides g t c =
    let cs = text_of c.args.source.now in
    let h = handles_of c.args.level.now.handles in
    let n = c.args.level.now.least in
    let x = context_of c.args.level.now.context in
    let s = c.args.source.now in
    λ e. decides_err (parts cs n flow_in 93 (item_at cs (Unit {0}) h c.args.level.now.room n flow_in)) Here (place_of s c.args.first) Here (λ r. place_of s r.0) c.from_residual-in_err-here-in-Some-accept-2.result c.in_err-here-in-Some-accept-2.field-0.0 c.from_residual-in_err-here-in-Some-accept-2.ensures.1 (inr (left_no_more cs n (item_at cs (Unit {0}) h c.args.level.now.room n flow_in) (item_begins cs h c.args.level.now.room n) 93 (bracket_shut cs) bracket_other (place_of s c.args.first) (place_of s c.items.here) (c.items.invariant.left e) c.in-None.ensures.none (place_of s c.in_ok-item-in-None.item) (c.in_ok-item-in-None.ensures.decides e) (place_of s c.in_ok-after-in-None.after) (to_in cs n x _ _ e c.in_ok-after-in-None.ensures.leads.to) c.in-Some-accept-2.ensures.some.is (place_of s c.in-Some-accept-2.to) c.in-Some-accept-2.ensures.some.next (none_in cs n x _ e (c.in_err-here-in-Some-accept-2.ensures.none (char_inside cs _ _ 44 c.in-Some-accept-2.ensures.some.is c.in-Some-accept-2.ensures.some.next nb_comma)))))

pub sequence::read_items-returns-in_err-item-in-None-clause-decides : goal.sequence::read_items-returns-in_err-item-in-None-clause-decides
sequence::read_items-returns-in_err-item-in-None-clause-decides g t c =
    let cs = text_of c.args.source.now in
    let h = handles_of c.args.level.now.handles in
    let n = c.args.level.now.least in
    let x = context_of c.args.level.now.context in
    let s = c.args.source.now in
    λ e. decides_err (parts cs n flow_in 93 (item_at cs (Unit {0}) h c.args.level.now.room n flow_in)) Here (place_of s c.args.first) Here (λ r. place_of s r.0) c.from_residual.result c.in_err-item-in-None.field-0.0 c.from_residual.ensures.1 (or_else (left_refused cs n (item_at cs (Unit {0}) h c.args.level.now.room n flow_in) (item_begins cs h c.args.level.now.room n) 93 (bracket_shut cs) bracket_other (place_of s c.args.first) (place_of s c.items.here) (c.items.invariant.left e) c.in-None.ensures.none) (c.in_err-item-in-None.ensures.decides e))

pub entries::read_key_entry-returns-in_err-colon-clause-decides : goal.entries::read_key_entry-returns-in_err-colon-clause-decides
entries::read_key_entry-returns-in_err-colon-clause-decides g t c =
    let cs = text_of c.args.source.now in
    let h = handles_of c.args.level.now.handles in
    let n = c.args.level.now.least in
    let x = context_of c.args.level.now.context in
    let s = c.args.source.now in
    λ e. decides_err (keyed_at cs (Unit {0}) h c.args.level.now.room n flow_in) (InFlow cs n) (place_of s c.args.at) (InFlow cs n) (λ r. place_of s r.0) c.from_residual-in_err-colon.result c.in_err-colon.field-0.0 c.from_residual-in_err-colon.ensures.1 (inr (key_nowhere cs h c.args.level.now.room n (place_of s c.args.at) (subst (λ y. SignAt Yaml y cs (place_of s c.args.at) → ⊥) e c.requires.no_colon) c.in_ok-key.key.kind (place_of s c.in_ok-key.key.end) (only_in cs h c.args.level.now.room n x c.in_ok-key.key.kind _ _ e (c.in_ok-key.ensures.decides e)) (none_in cs n x _ e (c.in_err-colon.ensures.none (node_inside cs h c.in_ok-key.key.deep n x c.in_ok-key.key.kind _ _ c.in_ok-key.ensures.reads.0 (c.in_ok-key.ensures.reads.2 c.in_ok-key.key.deep (omega arith)))))))

pub entries::read_key_entry-returns-in_err-end-in-Some-clause-decides : goal.entries::read_key_entry-returns-in_err-end-in-Some-clause-decides
entries::read_key_entry-returns-in_err-end-in-Some-clause-decides g t c =
    let cs = text_of c.args.source.now in
    let h = handles_of c.args.level.now.handles in
    let n = c.args.level.now.least in
    let x = context_of c.args.level.now.context in
    let s = c.args.source.now in
    λ e. decides_err (keyed_at cs (Unit {0}) h c.args.level.now.room n flow_in) (InFlow cs n) (place_of s c.args.at) (InFlow cs n) (λ r. place_of s r.0) c.from_residual-in_err-end-in-Some.result c.in_err-end-in-Some.field-0.0 c.from_residual-in_err-end-in-Some.ensures.1 (or_else (key_refused cs h c.args.level.now.room n (place_of s c.args.at) (subst (λ y. SignAt Yaml y cs (place_of s c.args.at) → ⊥) e c.requires.no_colon) c.in_ok-key.key.kind (place_of s c.in_ok-key.key.end) (only_in cs h c.args.level.now.room n x c.in_ok-key.key.kind _ _ e (c.in_ok-key.ensures.decides e)) (place_of s c.in_ok-colon.colon) (to_in cs n x _ _ e c.in_ok-colon.ensures.leads.to) (sign_in cs c.in_ok-key.key.kind x (place_of s c.in_ok-colon.colon) (place_of s c.in-Some.after) e c.in-Some.ensures.colon.is c.in-Some.ensures.colon.next c.in-Some.ensures.sign)) (c.in_err-end-in-Some.ensures.decides e))

pub entries::read_key_entry-returns-in_err-key-clause-decides : goal.entries::read_key_entry-returns-in_err-key-clause-decides
entries::read_key_entry-returns-in_err-key-clause-decides g t c =
    let cs = text_of c.args.source.now in
    let h = handles_of c.args.level.now.handles in
    let n = c.args.level.now.least in
    let x = context_of c.args.level.now.context in
    let s = c.args.source.now in
    λ e. decides_err (keyed_at cs (Unit {0}) h c.args.level.now.room n flow_in) (InFlow cs n) (place_of s c.args.at) (InFlow cs n) (λ r. place_of s r.0) c.from_residual.result c.in_err-key.field-0.0 c.from_residual.ensures.1 (or_else (λ f. key_nothing cs h c.args.level.now.room n (place_of s c.args.at) (subst (λ y. SignAt Yaml y cs (place_of s c.args.at) → ⊥) e c.requires.no_colon) (refused_in cs h c.args.level.now.room n x _ e f)) (c.in_err-key.ensures.decides e))

pub entries::read_key_entry-returns-in_ok-end-in-Some-clause-decides : goal.entries::read_key_entry-returns-in_ok-end-in-Some-clause-decides
entries::read_key_entry-returns-in_ok-end-in-Some-clause-decides g t c =
    let cs = text_of c.args.source.now in
    let h = handles_of c.args.level.now.handles in
    let n = c.args.level.now.least in
    let x = context_of c.args.level.now.context in
    let s = c.args.source.now in
    λ e. key_goes cs h c.args.level.now.room n (place_of s c.args.at) (subst (λ y. SignAt Yaml y cs (place_of s c.args.at) → ⊥) e c.requires.no_colon) c.in_ok-key.key.kind (place_of s c.in_ok-key.key.end) (only_in cs h c.args.level.now.room n x c.in_ok-key.key.kind _ _ e (c.in_ok-key.ensures.decides e)) (place_of s c.in_ok-colon.colon) (to_in cs n x _ _ e c.in_ok-colon.ensures.leads.to) (place_of s c.in_ok-end-in-Some.end) (sign_in cs c.in_ok-key.key.kind x (place_of s c.in_ok-colon.colon) (place_of s c.in-Some.after) e c.in-Some.ensures.colon.is c.in-Some.ensures.colon.next c.in-Some.ensures.sign) (c.in_ok-end-in-Some.ensures.decides e)

pub entries::read_key_entry-returns-in_ok-push_empty-in-None-clause-decides : goal.entries::read_key_entry-returns-in_ok-push_empty-in-None-clause-decides
entries::read_key_entry-returns-in_ok-push_empty-in-None-clause-decides g t c =
    let cs = text_of c.args.source.now in
    let h = handles_of c.args.level.now.handles in
    let n = c.args.level.now.least in
    let x = context_of c.args.level.now.context in
    let s = c.args.source.now in
    λ e. key_lone cs h c.args.level.now.room n (place_of s c.args.at) (subst (λ y. SignAt Yaml y cs (place_of s c.args.at) → ⊥) e c.requires.no_colon) c.in_ok-key.key.kind (place_of s c.in_ok-key.key.end) (only_in cs h c.args.level.now.room n x c.in_ok-key.key.kind _ _ e (c.in_ok-key.ensures.decides e)) (place_of s c.in_ok-colon.colon) (to_in cs n x _ _ e c.in_ok-colon.ensures.leads.to) (subst (λ y. SignAt c.in_ok-key.key.kind y cs (place_of s c.in_ok-colon.colon) → ⊥) e c.in-None.ensures.none)

pub entries::read_key_entry-returns-in_ok-push_empty-in-None-clause-next : goal.entries::read_key_entry-returns-in_ok-push_empty-in-None-clause-next
entries::read_key_entry-returns-in_ok-push_empty-in-None-clause-next g t c =
    let cs = text_of c.args.source.now in
    let h = handles_of c.args.level.now.handles in
    let n = c.args.level.now.least in
    let x = context_of c.args.level.now.context in
    let s = c.args.source.now in
    inl (node_inside cs h c.in_ok-key.key.deep n x c.in_ok-key.key.kind _ _ c.in_ok-key.ensures.reads.0 (c.in_ok-key.ensures.reads.2 c.in_ok-key.key.deep (omega arith)))

pub entries::read_keyed-returns-in_ok-push_empty-in-Some-clause-decides : goal.entries::read_keyed-returns-in_ok-push_empty-in-Some-clause-decides
entries::read_keyed-returns-in_ok-push_empty-in-Some-clause-decides g t c =
    let cs = text_of c.args.source.now in
    let h = handles_of c.args.level.now.handles in
    let n = c.args.level.now.least in
    let x = context_of c.args.level.now.context in
    let s = c.args.source.now in
    λ e. decides_by (value_at cs (Unit {0}) h Yaml c.args.level.now.room n flow_in) (InFlow cs n) (place_of s c.args.at) (InFlow cs n) (keyed_at cs (Unit {0}) h c.args.level.now.room n flow_in) (InFlow cs n) (place_of s c.args.at) (InFlow cs n) (λ r. place_of s r.0) c.read_value.result
    (λ z g. empty_key_goes cs h c.args.level.now.room n (place_of s c.args.at) z (sign_in cs Yaml x (place_of s c.args.at) (place_of s c.in-Some.after) e c.in-Some.ensures.colon.is c.in-Some.ensures.colon.next c.in-Some.ensures.sign) g) (empty_key_refused cs h c.args.level.now.room n (place_of s c.args.at) (sign_in cs Yaml x (place_of s c.args.at) (place_of s c.in-Some.after) e c.in-Some.ensures.colon.is c.in-Some.ensures.colon.next c.in-Some.ensures.sign)) (c.read_value.ensures.decides e)

pub mapping::read_mapping-returns-clause-decides : goal.mapping::read_mapping-returns-clause-decides
mapping::read_mapping-returns-clause-decides g t c =
    let cs = text_of c.args.source.now in
    let h = handles_of c.args.level.now.handles in
    let n = c.args.level.now.least in
    let x = context_of c.args.level.now.context in
    let s = c.args.source.now in
    λ w p. mapping_goes cs h c.args.level.now.room (c.args.level.now.room - 1) n (omega arith) x w p (place_of s c.args.at) (place_of s c.args.inside) c.requires.bracket.next (place_of s c.in_ok-first.first) c.in_ok-first.ensures.leads.to _ (c.in_ok-end.ensures.decides (c.inner.ensures.context ∙ w))

pub mapping::read_mapping-returns-in_err-end-clause-decides : goal.mapping::read_mapping-returns-in_err-end-clause-decides
mapping::read_mapping-returns-in_err-end-clause-decides g t c =
    let cs = text_of c.args.source.now in
    let h = handles_of c.args.level.now.handles in
    let n = c.args.level.now.least in
    let x = context_of c.args.level.now.context in
    let s = c.args.source.now in
    λ w. each_err (λ p. flow_map cs (Unit {0}) h (opens cs (Unit {0}) h c.args.level.now.room) (below cs (Unit {0}) h c.args.level.now.room) p n x) (place_of s c.args.at) (λ node. place_of s node.end) c.from_residual-in_err-end.result c.in_err-end.field-0.0 c.from_residual-in_err-end.ensures.1
    (or_else (λ f p. mapping_refused cs h c.args.level.now.room (c.args.level.now.room - 1) n (omega arith) x w p (place_of s c.args.at) (place_of s c.args.inside) c.requires.bracket.next (place_of s c.in_ok-first.first) c.in_ok-first.ensures.leads.to f) (c.in_err-end.ensures.decides (c.inner.ensures.context ∙ w)))

pub mapping::read_mapping-returns-in_err-first-clause-decides : goal.mapping::read_mapping-returns-in_err-first-clause-decides
mapping::read_mapping-returns-in_err-first-clause-decides g t c =
    let cs = text_of c.args.source.now in
    let h = handles_of c.args.level.now.handles in
    let n = c.args.level.now.least in
    let x = context_of c.args.level.now.context in
    let s = c.args.source.now in
    λ w. each_err (λ p. flow_map cs (Unit {0}) h (opens cs (Unit {0}) h c.args.level.now.room) (below cs (Unit {0}) h c.args.level.now.room) p n x) (place_of s c.args.at) (λ node. place_of s node.end) c.from_residual-in_err-first.result c.in_err-first.field-0.0 c.from_residual-in_err-first.ensures.1
    (inr (λ p. mapping_nowhere cs h c.args.level.now.room (c.args.level.now.room - 1) n (omega arith) x w p (place_of s c.args.at) (place_of s c.args.inside) c.requires.bracket.next (c.in_err-first.ensures.none (char_inside cs (place_of s c.args.at) (place_of s c.args.inside) 123 c.requires.bracket.is c.requires.bracket.next nb_brace))))

pub sequence::read_node_item-returns-in-None-clause-decides : goal.sequence::read_node_item-returns-in-None-clause-decides
sequence::read_node_item-returns-in-None-clause-decides g t c =
    let cs = text_of c.args.source.now in
    let h = handles_of c.args.level.now.handles in
    let n = c.args.level.now.least in
    let x = context_of c.args.level.now.context in
    let s = c.args.source.now in
    λ e. item_lone cs h n c.args.level.now.room (place_of s c.args.at) (subst (λ y. SignAt Yaml y cs (place_of s c.args.at) → ⊥) e c.requires.no_colon) (no_mark cs (place_of s c.args.at) (subst (λ y. AskedAt y cs (place_of s c.args.at) → ⊥) e c.requires.no_mark)) c.in_ok-key.key.kind (place_of s c.in_ok-key.key.end) (only_in cs h c.args.level.now.room n x c.in_ok-key.key.kind _ _ e (c.in_ok-key.ensures.decides e)) (subst (λ y. NoKey cs c.in_ok-key.key.kind y (place_of s c.args.at) (place_of s c.in_ok-key.key.end)) e (if_none _ c.in_ok-key_colon.field-0 c.in-None.is c.in_ok-key_colon.ensures.none))

pub sequence::read_node_item-returns-in-None-clause-next : goal.sequence::read_node_item-returns-in-None-clause-next
sequence::read_node_item-returns-in-None-clause-next g t c =
    let cs = text_of c.args.source.now in
    let h = handles_of c.args.level.now.handles in
    let n = c.args.level.now.least in
    let x = context_of c.args.level.now.context in
    let s = c.args.source.now in
    inl (node_inside cs h c.in_ok-key.key.deep n x c.in_ok-key.key.kind _ _ c.in_ok-key.ensures.reads.0 (c.in_ok-key.ensures.reads.2 c.in_ok-key.key.deep (omega arith)))

pub sequence::read_node_item-returns-in_err-end-in-Some-clause-decides : goal.sequence::read_node_item-returns-in_err-end-in-Some-clause-decides
sequence::read_node_item-returns-in_err-end-in-Some-clause-decides g t c =
    let cs = text_of c.args.source.now in
    let h = handles_of c.args.level.now.handles in
    let n = c.args.level.now.least in
    let x = context_of c.args.level.now.context in
    let s = c.args.source.now in
    let q = place_of s c.in-Some.colon in
    let found = if_some (λ r. IsKeyColon s c.args.at c.in_ok-key.key.end c.in_ok-key.key.kind x r.0 r.1) c.in_ok-key_colon.field-0 (c.in-Some.colon, c.in-Some.after) c.in-Some.is c.in_ok-key_colon.ensures.found in
    let apart = found.spaced in
    let colon = found.colon in
    let sign = found.sign in
    λ e. decides_err (item_at cs (Unit {0}) h c.args.level.now.room n flow_in) (InFlow cs n) (place_of s c.args.at) (InFlow cs n) (λ r. place_of s r.0) c.from_residual-in_err-end-in-Some.result c.in_err-end-in-Some.field-0.0 c.from_residual-in_err-end-in-Some.ensures.1 (or_else (λ f. item_no_pair cs h n c.args.level.now.room (place_of s c.args.at) (subst (λ y. SignAt Yaml y cs (place_of s c.args.at) → ⊥) e c.requires.no_colon) (no_mark cs (place_of s c.args.at) (subst (λ y. AskedAt y cs (place_of s c.args.at) → ⊥) e c.requires.no_mark)) c.in_ok-key.key.kind (place_of s c.in_ok-key.key.end) (only_in cs h c.args.level.now.room n x c.in_ok-key.key.kind _ _ e (c.in_ok-key.ensures.decides e)) q apart (sign_in cs c.in_ok-key.key.kind x q (place_of s c.in-Some.after) e colon.is colon.next sign) (own_refused cs h n c.args.level.now.room (c.args.level.now.room - 1) (omega arith) (place_of s c.args.at) (subst (λ y. SignAt Yaml y cs (place_of s c.args.at) → ⊥) e c.requires.no_colon) (no_mark cs (place_of s c.args.at) (subst (λ y. AskedAt y cs (place_of s c.args.at) → ⊥) e c.requires.no_mark)) c.in_ok-key.key.kind (place_of s c.in_ok-key.key.end) q (only_in cs h c.args.level.now.room n x c.in_ok-key.key.kind _ _ e (c.in_ok-key.ensures.decides e)) apart f)) (c.in_err-end-in-Some.ensures.decides e))

pub sequence::read_node_item-returns-in_err-key-clause-decides : goal.sequence::read_node_item-returns-in_err-key-clause-decides
sequence::read_node_item-returns-in_err-key-clause-decides g t c =
    let cs = text_of c.args.source.now in
    let h = handles_of c.args.level.now.handles in
    let n = c.args.level.now.least in
    let x = context_of c.args.level.now.context in
    let s = c.args.source.now in
    λ e. decides_err (item_at cs (Unit {0}) h c.args.level.now.room n flow_in) (InFlow cs n) (place_of s c.args.at) (InFlow cs n) (λ r. place_of s r.0) c.from_residual.result c.in_err-key.field-0.0 c.from_residual.ensures.1 (or_else (λ f. item_nothing cs h n c.args.level.now.room (place_of s c.args.at) (subst (λ y. SignAt Yaml y cs (place_of s c.args.at) → ⊥) e c.requires.no_colon) (no_mark cs (place_of s c.args.at) (subst (λ y. AskedAt y cs (place_of s c.args.at) → ⊥) e c.requires.no_mark)) (refused_in cs h c.args.level.now.room n x _ e f)) (c.in_err-key.ensures.decides e))

pub sequence::read_node_item-returns-in_err-key_colon-clause-decides : goal.sequence::read_node_item-returns-in_err-key_colon-clause-decides
sequence::read_node_item-returns-in_err-key_colon-clause-decides g t c =
    let cs = text_of c.args.source.now in
    let h = handles_of c.args.level.now.handles in
    let n = c.args.level.now.least in
    let x = context_of c.args.level.now.context in
    let s = c.args.source.now in
    λ e. decides_err (item_at cs (Unit {0}) h c.args.level.now.room n flow_in) (InFlow cs n) (place_of s c.args.at) (InFlow cs n) (λ r. place_of s r.0) c.from_residual-in_err-key_colon.result c.in_err-key_colon.field-0.0 c.from_residual-in_err-key_colon.ensures.1 (inr (item_long cs h n c.args.level.now.room (place_of s c.args.at) (subst (λ y. SignAt Yaml y cs (place_of s c.args.at) → ⊥) e c.requires.no_colon) (no_mark cs (place_of s c.args.at) (subst (λ y. AskedAt y cs (place_of s c.args.at) → ⊥) e c.requires.no_mark)) c.in_ok-key.key.kind (place_of s c.in_ok-key.key.end) (only_in cs h c.args.level.now.room n x c.in_ok-key.key.kind _ _ e (c.in_ok-key.ensures.decides e)) (subst (λ y. LongKey cs c.in_ok-key.key.kind y (place_of s c.args.at) (place_of s c.in_ok-key.key.end)) e c.in_err-key_colon.ensures.long)))

pub sequence::read_node_item-returns-in_ok-push_mapping_end-in-Some-clause-decides : goal.sequence::read_node_item-returns-in_ok-push_mapping_end-in-Some-clause-decides
sequence::read_node_item-returns-in_ok-push_mapping_end-in-Some-clause-decides g t c =
    let cs = text_of c.args.source.now in
    let h = handles_of c.args.level.now.handles in
    let n = c.args.level.now.least in
    let x = context_of c.args.level.now.context in
    let s = c.args.source.now in
    let q = place_of s c.in-Some.colon in
    let found = if_some (λ r. IsKeyColon s c.args.at c.in_ok-key.key.end c.in_ok-key.key.kind x r.0 r.1) c.in_ok-key_colon.field-0 (c.in-Some.colon, c.in-Some.after) c.in-Some.is c.in_ok-key_colon.ensures.found in
    let apart = found.spaced in
    let colon = found.colon in
    let sign = found.sign in
    λ e. item_of_pair cs h n c.args.level.now.room (place_of s c.args.at) (subst (λ y. SignAt Yaml y cs (place_of s c.args.at) → ⊥) e c.requires.no_colon) (no_mark cs (place_of s c.args.at) (subst (λ y. AskedAt y cs (place_of s c.args.at) → ⊥) e c.requires.no_mark)) c.in_ok-key.key.kind (place_of s c.in_ok-key.key.end) (only_in cs h c.args.level.now.room n x c.in_ok-key.key.kind _ _ e (c.in_ok-key.ensures.decides e)) q apart (sign_in cs c.in_ok-key.key.kind x q (place_of s c.in-Some.after) e colon.is colon.next sign) (place_of s c.in_ok-end-in-Some.end) (own_goes cs h n c.args.level.now.room (c.args.level.now.room - 1) (omega arith) (place_of s c.args.at) (subst (λ y. SignAt Yaml y cs (place_of s c.args.at) → ⊥) e c.requires.no_colon) (no_mark cs (place_of s c.args.at) (subst (λ y. AskedAt y cs (place_of s c.args.at) → ⊥) e c.requires.no_mark)) c.in_ok-key.key.kind (place_of s c.in_ok-key.key.end) q (place_of s c.in_ok-end-in-Some.end) (only_in cs h c.args.level.now.room n x c.in_ok-key.key.kind _ _ e (c.in_ok-key.ensures.decides e)) apart (c.in_ok-end-in-Some.ensures.decides e))

pub sequence::read_node_item-returns-in_ok-push_mapping_end-in-Some-clause-reads : goal.sequence::read_node_item-returns-in_ok-push_mapping_end-in-Some-clause-reads
sequence::read_node_item-returns-in_ok-push_mapping_end-in-Some-clause-reads g t c =
    let cs = text_of c.args.source.now in
    let h = handles_of c.args.level.now.handles in
    let n = c.args.level.now.least in
    let x = context_of c.args.level.now.context in
    let s = c.args.source.now in
    let q = place_of s c.in-Some.colon in
    let found = if_some (λ r. IsKeyColon s c.args.at c.in_ok-key.key.end c.in_ok-key.key.kind x r.0 r.1) c.in_ok-key_colon.field-0 (c.in-Some.colon, c.in-Some.after) c.in-Some.is c.in_ok-key_colon.ensures.found in
    let apart = found.spaced in
    let colon = found.colon in
    let sign = found.sign in
    let fits = found.fits in
    let k = c.in_ok-key.ensures.reads in
    let v = c.in_ok-end-in-Some.ensures.reads in
    let begun = puts_altered c.args.out.now c.read_flow_node.new.out c.insert_flow_mapping.new.out c.mark-start.result (λ es. mapping_start true None untagged ∷ es) k.0 c.mark-start.ensures k.1 c.in_ok-insert_flow_mapping-in-Some.ensures.ok in (
      mapping_start true None untagged ∷ ((k.0 ++ v.0) ++ (mapping_end ∷ [])),
      puts_on c.args.out.now c.read_value.new.out _ (mapping_start true None untagged ∷ (k.0 ++ v.0)) (mapping_end ∷ [])
          (puts_on c.args.out.now c.insert_flow_mapping.new.out _ (mapping_start true None untagged ∷ k.0) v.0 begun v.1)
          c.in_ok-push_mapping_end-in-Some.ensures.ok,
      from_same (c.max.result + 1) (max c.in_ok-key.key.deep c.in_ok-end-in-Some.deep + 1) (λ room. item_at cs (Unit {0}) h room n x) _ _ _ (ap (λ x. x + 1) c.max.ensures)
          (pair_item cs (Unit {0}) h c.in_ok-key.key.deep c.in_ok-end-in-Some.deep c.in_ok-key.key.kind n x _ _ _ _ _ k.0 v.0 c.requires.inner k.2
          (_, apart.0, (colon.is, colon.next), fits) (colon.is, colon.next) v.2),
    )

pub sequence::read_node_item-returns-then-key-level-clause-decides : goal.sequence::read_node_item-returns-then-key-level-clause-decides
sequence::read_node_item-returns-then-key-level-clause-decides g t c =
    let cs = text_of c.args.source.now in
    let h = handles_of c.args.level.now.handles in
    let n = c.args.level.now.least in
    let x = context_of c.args.level.now.context in
    let s = c.args.source.now in
    let q = place_of s c.in-Some.colon in
    let found = if_some (λ r. IsKeyColon s c.args.at c.in_ok-key.key.end c.in_ok-key.key.kind x r.0 r.1) c.in_ok-key_colon.field-0 (c.in-Some.colon, c.in-Some.after) c.in-Some.is c.in_ok-key_colon.ensures.found in
    let apart = found.spaced in
    let colon = found.colon in
    let sign = found.sign in
    λ e. decides_by (PairAt cs h n c.args.level.now.room) (InFlow cs n) (place_of s c.args.at) (InFlow cs n) (item_at cs (Unit {0}) h c.args.level.now.room n flow_in) (InFlow cs n) (place_of s c.args.at) (InFlow cs n) (λ r. place_of s r.0) c.read_pair.result
    (item_of_pair cs h n c.args.level.now.room (place_of s c.args.at) (subst (λ y. SignAt Yaml y cs (place_of s c.args.at) → ⊥) e c.requires.no_colon) (no_mark cs (place_of s c.args.at) (subst (λ y. AskedAt y cs (place_of s c.args.at) → ⊥) e c.requires.no_mark)) c.in_ok-key.key.kind (place_of s c.in_ok-key.key.end) (only_in cs h c.args.level.now.room n x c.in_ok-key.key.kind _ _ e (c.in_ok-key.ensures.decides e)) q apart (sign_in cs c.in_ok-key.key.kind x q (place_of s c.in-Some.after) e colon.is colon.next sign)) (item_no_pair cs h n c.args.level.now.room (place_of s c.args.at) (subst (λ y. SignAt Yaml y cs (place_of s c.args.at) → ⊥) e c.requires.no_colon) (no_mark cs (place_of s c.args.at) (subst (λ y. AskedAt y cs (place_of s c.args.at) → ⊥) e c.requires.no_mark)) c.in_ok-key.key.kind (place_of s c.in_ok-key.key.end) (only_in cs h c.args.level.now.room n x c.in_ok-key.key.kind _ _ e (c.in_ok-key.ensures.decides e)) q apart (sign_in cs c.in_ok-key.key.kind x q (place_of s c.in-Some.after) e colon.is colon.next sign)) (c.read_pair.ensures.decides e)

pub sequence::read_node_item-returns-then-key-level-clause-reads : goal.sequence::read_node_item-returns-then-key-level-clause-reads
sequence::read_node_item-returns-then-key-level-clause-reads g t c =
    let cs = text_of c.args.source.now in
    let h = handles_of c.args.level.now.handles in
    let n = c.args.level.now.least in
    let x = context_of c.args.level.now.context in
    let s = c.args.source.now in
    let k = c.in_ok-key.ensures.reads in
    let cut = puts_altered c.args.out.now c.read_flow_node.new.out c.cut.new.self c.mark-start.result (λ _. []) k.0 c.mark-start.ensures k.1 c.cut.ensures in
    appends_after (λ r. from_room r.1 (λ room. item_at cs (Unit {0}) h room n x)) (λ r. from_room r.1 (λ room. item_at cs (Unit {0}) h room n x))
    (place_of s c.args.at) (place_of s c.args.at) (λ r. place_of s r.0) c.args.out.now c.cut.new.self c.read_pair.new.out c.read_pair.result [] cut (λ r vs p. p) c.read_pair.ensures.reads

pub sequence::read_node_item-returns-then-level-eq0-clause-decides : goal.sequence::read_node_item-returns-then-level-eq0-clause-decides
sequence::read_node_item-returns-then-level-eq0-clause-decides g t c =
    let cs = text_of c.args.source.now in
    let h = handles_of c.args.level.now.handles in
    let n = c.args.level.now.least in
    let x = context_of c.args.level.now.context in
    let s = c.args.source.now in
    let q = place_of s c.in-Some.colon in
    let found = if_some (λ r. IsKeyColon s c.args.at c.in_ok-key.key.end c.in_ok-key.key.kind x r.0 r.1) c.in_ok-key_colon.field-0 (c.in-Some.colon, c.in-Some.after) c.in-Some.is c.in_ok-key_colon.ensures.found in
    let apart = found.spaced in
    let colon = found.colon in
    let sign = found.sign in
    λ e. inr (item_full cs h n c.args.level.now.room (place_of s c.args.at) (subst (λ y. SignAt Yaml y cs (place_of s c.args.at) → ⊥) e c.requires.no_colon) (no_mark cs (place_of s c.args.at) (subst (λ y. AskedAt y cs (place_of s c.args.at) → ⊥) e c.requires.no_mark)) c.in_ok-key.key.kind (place_of s c.in_ok-key.key.end) (only_in cs h c.args.level.now.room n x c.in_ok-key.key.kind _ _ e (c.in_ok-key.ensures.decides e)) q apart (sign_in cs c.in_ok-key.key.kind x q (place_of s c.in-Some.after) e colon.is colon.next sign) c.if-level-eq0.true)

pub pairs::read_pair-returns-in-None-clause-decides : goal.pairs::read_pair-returns-in-None-clause-decides
pairs::read_pair-returns-in-None-clause-decides g t c =
    let cs = text_of c.args.source.now in
    let h = handles_of c.args.level.now.handles in
    let n = c.args.level.now.least in
    let x = context_of c.args.level.now.context in
    let s = c.args.source.now in
    λ e. inr (pair_lone cs h n c.args.level.now.room (c.args.level.now.room - 1) (omega arith) (place_of s c.args.at) (subst (λ y. SignAt Yaml y cs (place_of s c.args.at) → ⊥) e c.requires.key.no_colon) (no_mark cs (place_of s c.args.at) (subst (λ y. AskedAt y cs (place_of s c.args.at) → ⊥) e c.requires.key.no_mark)) c.in_ok-key.key.kind (place_of s c.in_ok-key.key.end) (only_in cs h (c.args.level.now.room - 1) n x c.in_ok-key.key.kind _ _ e (c.in_ok-key.ensures.decides e)) (subst (λ y. NoKey cs c.in_ok-key.key.kind y (place_of s c.args.at) (place_of s c.in_ok-key.key.end)) e (if_none _ c.in_ok-key_colon.field-0 c.in-None.is c.in_ok-key_colon.ensures.none)))

pub pairs::read_pair-returns-in_err-end-in-Some-clause-decides : goal.pairs::read_pair-returns-in_err-end-in-Some-clause-decides
pairs::read_pair-returns-in_err-end-in-Some-clause-decides g t c =
    let cs = text_of c.args.source.now in
    let h = handles_of c.args.level.now.handles in
    let n = c.args.level.now.least in
    let x = context_of c.args.level.now.context in
    let s = c.args.source.now in
    let q = place_of s c.in-Some.colon in
    let found = if_some (λ r. IsKeyColon s c.args.at c.in_ok-key.key.end c.in_ok-key.key.kind x r.0 r.1) c.in_ok-key_colon.field-0 (c.in-Some.colon, c.in-Some.after) c.in-Some.is c.in_ok-key_colon.ensures.found in
    let apart = found.spaced in
    let colon = found.colon in
    let sign = found.sign in
    λ e. decides_err (PairAt cs h n c.args.level.now.room) (InFlow cs n) (place_of s c.args.at) (InFlow cs n) (λ r. place_of s r.0) c.from_residual-in_err-end-in-Some.result c.in_err-end-in-Some.field-0.0 c.from_residual-in_err-end-in-Some.ensures.1 (or_else (pair_refused cs h n c.args.level.now.room (c.args.level.now.room - 1) (omega arith) (place_of s c.args.at) (subst (λ y. SignAt Yaml y cs (place_of s c.args.at) → ⊥) e c.requires.key.no_colon) (no_mark cs (place_of s c.args.at) (subst (λ y. AskedAt y cs (place_of s c.args.at) → ⊥) e c.requires.key.no_mark)) c.in_ok-key.key.kind (place_of s c.in_ok-key.key.end) (only_in cs h (c.args.level.now.room - 1) n x c.in_ok-key.key.kind _ _ e (c.in_ok-key.ensures.decides e)) q apart) (c.in_err-end-in-Some.ensures.decides e))

pub pairs::read_pair-returns-in_err-key-clause-decides : goal.pairs::read_pair-returns-in_err-key-clause-decides
pairs::read_pair-returns-in_err-key-clause-decides g t c =
    let cs = text_of c.args.source.now in
    let h = handles_of c.args.level.now.handles in
    let n = c.args.level.now.least in
    let x = context_of c.args.level.now.context in
    let s = c.args.source.now in
    λ e. decides_err (PairAt cs h n c.args.level.now.room) (InFlow cs n) (place_of s c.args.at) (InFlow cs n) (λ r. place_of s r.0) c.from_residual-in_err-key.result c.in_err-key.field-0.0 c.from_residual-in_err-key.ensures.1 (or_else (λ f. pair_nothing cs h n c.args.level.now.room (c.args.level.now.room - 1) (omega arith) (place_of s c.args.at) (subst (λ y. SignAt Yaml y cs (place_of s c.args.at) → ⊥) e c.requires.key.no_colon) (no_mark cs (place_of s c.args.at) (subst (λ y. AskedAt y cs (place_of s c.args.at) → ⊥) e c.requires.key.no_mark)) (refused_in cs h (c.args.level.now.room - 1) n x _ e f)) (c.in_err-key.ensures.decides e))

pub pairs::read_pair-returns-in_err-key_colon-clause-decides : goal.pairs::read_pair-returns-in_err-key_colon-clause-decides
pairs::read_pair-returns-in_err-key_colon-clause-decides g t c =
    let cs = text_of c.args.source.now in
    let h = handles_of c.args.level.now.handles in
    let n = c.args.level.now.least in
    let x = context_of c.args.level.now.context in
    let s = c.args.source.now in
    λ e. decides_err (PairAt cs h n c.args.level.now.room) (InFlow cs n) (place_of s c.args.at) (InFlow cs n) (λ r. place_of s r.0) c.from_residual-in_err-key_colon.result c.in_err-key_colon.field-0.0 c.from_residual-in_err-key_colon.ensures.1 (inr (pair_long cs h n c.args.level.now.room (c.args.level.now.room - 1) (omega arith) (place_of s c.args.at) (subst (λ y. SignAt Yaml y cs (place_of s c.args.at) → ⊥) e c.requires.key.no_colon) (no_mark cs (place_of s c.args.at) (subst (λ y. AskedAt y cs (place_of s c.args.at) → ⊥) e c.requires.key.no_mark)) c.in_ok-key.key.kind (place_of s c.in_ok-key.key.end) (only_in cs h (c.args.level.now.room - 1) n x c.in_ok-key.key.kind _ _ e (c.in_ok-key.ensures.decides e)) (subst (λ y. LongKey cs c.in_ok-key.key.kind y (place_of s c.args.at) (place_of s c.in_ok-key.key.end)) e c.in_err-key_colon.ensures.long)))

pub pairs::read_pair-returns-in_ok-push_mapping_end-in-Some-clause-decides : goal.pairs::read_pair-returns-in_ok-push_mapping_end-in-Some-clause-decides
pairs::read_pair-returns-in_ok-push_mapping_end-in-Some-clause-decides g t c =
    let cs = text_of c.args.source.now in
    let h = handles_of c.args.level.now.handles in
    let n = c.args.level.now.least in
    let x = context_of c.args.level.now.context in
    let s = c.args.source.now in
    let q = place_of s c.in-Some.colon in
    let found = if_some (λ r. IsKeyColon s c.args.at c.in_ok-key.key.end c.in_ok-key.key.kind x r.0 r.1) c.in_ok-key_colon.field-0 (c.in-Some.colon, c.in-Some.after) c.in-Some.is c.in_ok-key_colon.ensures.found in
    let apart = found.spaced in
    let colon = found.colon in
    let sign = found.sign in
    λ e. pair_goes cs h n c.args.level.now.room (c.args.level.now.room - 1) (omega arith) (place_of s c.args.at) (subst (λ y. SignAt Yaml y cs (place_of s c.args.at) → ⊥) e c.requires.key.no_colon) (no_mark cs (place_of s c.args.at) (subst (λ y. AskedAt y cs (place_of s c.args.at) → ⊥) e c.requires.key.no_mark)) c.in_ok-key.key.kind (place_of s c.in_ok-key.key.end) (only_in cs h (c.args.level.now.room - 1) n x c.in_ok-key.key.kind _ _ e (c.in_ok-key.ensures.decides e)) q (place_of s c.in_ok-end-in-Some.end) apart (c.in_ok-end-in-Some.ensures.decides e)

pub pairs::read_pair-returns-in_ok-push_mapping_end-in-Some-clause-reads : goal.pairs::read_pair-returns-in_ok-push_mapping_end-in-Some-clause-reads
pairs::read_pair-returns-in_ok-push_mapping_end-in-Some-clause-reads g t c =
    let cs = text_of c.args.source.now in
    let h = handles_of c.args.level.now.handles in
    let n = c.args.level.now.least in
    let x = context_of c.args.level.now.context in
    let s = c.args.source.now in
    let q = place_of s c.in-Some.colon in
    let found = if_some (λ r. IsKeyColon s c.args.at c.in_ok-key.key.end c.in_ok-key.key.kind x r.0 r.1) c.in_ok-key_colon.field-0 (c.in-Some.colon, c.in-Some.after) c.in-Some.is c.in_ok-key_colon.ensures.found in
    let apart = found.spaced in
    let colon = found.colon in
    let sign = found.sign in
    let fits = found.fits in
    let k = c.in_ok-key.ensures.reads in
    let v = c.in_ok-end-in-Some.ensures.reads in (
      mapping_start true None untagged ∷ ((k.0 ++ v.0) ++ (mapping_end ∷ [])),
      puts_on c.args.out.now c.read_value.new.out _ (mapping_start true None untagged ∷ (k.0 ++ v.0)) (mapping_end ∷ [])
          (puts_on c.args.out.now c.read_flow_node.new.out _ (mapping_start true None untagged ∷ k.0) v.0
          (puts_on c.args.out.now c.push_flow_mapping.new.out _ (mapping_start true None untagged ∷ []) k.0 c.in_ok-push_flow_mapping.ensures.ok k.1) v.1)
          c.in_ok-push_mapping_end-in-Some.ensures.ok,
      from_same (c.max-most.result + 1) (max c.in_ok-key.key.deep c.in_ok-end-in-Some.deep + 1) (λ room. item_at cs (Unit {0}) h room n x) _ _ _ (ap (λ x. x + 1) c.max-most.ensures)
          (pair_item cs (Unit {0}) h c.in_ok-key.key.deep c.in_ok-end-in-Some.deep c.in_ok-key.key.kind n x _ _ _ _ _ k.0 v.0 c.requires.key.inner k.2
          (_, apart.0, (colon.is, colon.next), fits) (colon.is, colon.next) v.2),
    )

pub sequence::read_sequence-returns-clause-decides : goal.sequence::read_sequence-returns-clause-decides
sequence::read_sequence-returns-clause-decides g t c =
    let cs = text_of c.args.source.now in
    let h = handles_of c.args.level.now.handles in
    let n = c.args.level.now.least in
    let x = context_of c.args.level.now.context in
    let s = c.args.source.now in
    λ w p. sequence_goes cs h c.args.level.now.room (c.args.level.now.room - 1) n (omega arith) x w p (place_of s c.args.at) (place_of s c.args.inside) c.requires.bracket.next (place_of s c.in_ok-first.first) c.in_ok-first.ensures.leads.to _ (c.in_ok-end.ensures.decides (c.inner.ensures.context ∙ w))

pub sequence::read_sequence-returns-in_err-end-clause-decides : goal.sequence::read_sequence-returns-in_err-end-clause-decides
sequence::read_sequence-returns-in_err-end-clause-decides g t c =
    let cs = text_of c.args.source.now in
    let h = handles_of c.args.level.now.handles in
    let n = c.args.level.now.least in
    let x = context_of c.args.level.now.context in
    let s = c.args.source.now in
    λ w. each_err (λ p. flow_seq cs (Unit {0}) h (opens cs (Unit {0}) h c.args.level.now.room) (below cs (Unit {0}) h c.args.level.now.room) p n x) (place_of s c.args.at) (λ node. place_of s node.end) c.from_residual-in_err-end.result c.in_err-end.field-0.0 c.from_residual-in_err-end.ensures.1
    (or_else (λ f p. sequence_refused cs h c.args.level.now.room (c.args.level.now.room - 1) n (omega arith) x w p (place_of s c.args.at) (place_of s c.args.inside) c.requires.bracket.next (place_of s c.in_ok-first.first) c.in_ok-first.ensures.leads.to f) (c.in_err-end.ensures.decides (c.inner.ensures.context ∙ w)))

pub sequence::read_sequence-returns-in_err-first-clause-decides : goal.sequence::read_sequence-returns-in_err-first-clause-decides
sequence::read_sequence-returns-in_err-first-clause-decides g t c =
    let cs = text_of c.args.source.now in
    let h = handles_of c.args.level.now.handles in
    let n = c.args.level.now.least in
    let x = context_of c.args.level.now.context in
    let s = c.args.source.now in
    λ w. each_err (λ p. flow_seq cs (Unit {0}) h (opens cs (Unit {0}) h c.args.level.now.room) (below cs (Unit {0}) h c.args.level.now.room) p n x) (place_of s c.args.at) (λ node. place_of s node.end) c.from_residual-in_err-first.result c.in_err-first.field-0.0 c.from_residual-in_err-first.ensures.1
    (inr (λ p. sequence_nowhere cs h c.args.level.now.room (c.args.level.now.room - 1) n (omega arith) x w p (place_of s c.args.at) (place_of s c.args.inside) c.requires.bracket.next (c.in_err-first.ensures.none (char_inside cs (place_of s c.args.at) (place_of s c.args.inside) 91 c.requires.bracket.is c.requires.bracket.next nb_bracket))))

pub entries::read_value-returns-clause-decides : goal.entries::read_value-returns-clause-decides
entries::read_value-returns-clause-decides g t c =
    let cs = text_of c.args.source.now in
    let h = handles_of c.args.level.now.handles in
    let n = c.args.level.now.least in
    let x = context_of c.args.level.now.context in
    let s = c.args.source.now in
    λ e. value_goes cs h c.args.level.now.room n c.args.colon.kind (place_of s c.args.colon.at) (place_of s c.args.colon.after) c.requires.colon.next (place_of s c.in_ok-start.start) (to_in cs n x _ _ e c.in_ok-start.ensures.leads.to) (on_false_at c.ends_value.result c.if-ends_value.false c.ends_value.ensures.no) c.in_ok-value.value.kind (place_of s c.in_ok-value.value.end) (only_in cs h c.args.level.now.room n x c.in_ok-value.value.kind _ _ e (c.in_ok-value.ensures.decides e))

pub entries::read_value-returns-clause-next : goal.entries::read_value-returns-clause-next
entries::read_value-returns-clause-next g t c =
    let cs = text_of c.args.source.now in
    let h = handles_of c.args.level.now.handles in
    let n = c.args.level.now.least in
    let x = context_of c.args.level.now.context in
    let s = c.args.source.now in
    inl (node_inside cs h c.in_ok-value.value.deep n x c.in_ok-value.value.kind _ _ c.in_ok-value.ensures.reads.0 (c.in_ok-value.ensures.reads.2 c.in_ok-value.value.deep (omega arith)))

pub entries::read_value-returns-in_err-start-clause-decides : goal.entries::read_value-returns-in_err-start-clause-decides
entries::read_value-returns-in_err-start-clause-decides g t c =
    let cs = text_of c.args.source.now in
    let h = handles_of c.args.level.now.handles in
    let n = c.args.level.now.least in
    let x = context_of c.args.level.now.context in
    let s = c.args.source.now in
    λ e. decides_err (value_at cs (Unit {0}) h c.args.colon.kind c.args.level.now.room n flow_in) (InFlow cs n) (place_of s c.args.colon.at) (InFlow cs n) (λ r. place_of s r.0) c.from_residual.result c.in_err-start.field-0.0 c.from_residual.ensures.1 (inr (value_nowhere cs h c.args.level.now.room n c.args.colon.kind (place_of s c.args.colon.at) (place_of s c.args.colon.after) c.requires.colon.next (none_in cs n x _ e (c.in_err-start.ensures.none (char_inside cs (place_of s c.args.colon.at) (place_of s c.args.colon.after) 58 c.requires.colon.is c.requires.colon.next nb_colon)))))

pub entries::read_value-returns-in_err-value-clause-decides : goal.entries::read_value-returns-in_err-value-clause-decides
entries::read_value-returns-in_err-value-clause-decides g t c =
    let cs = text_of c.args.source.now in
    let h = handles_of c.args.level.now.handles in
    let n = c.args.level.now.least in
    let x = context_of c.args.level.now.context in
    let s = c.args.source.now in
    λ e. decides_err (value_at cs (Unit {0}) h c.args.colon.kind c.args.level.now.room n flow_in) (InFlow cs n) (place_of s c.args.colon.at) (InFlow cs n) (λ r. place_of s r.0) c.from_residual-in_err-value.result c.in_err-value.field-0.0 c.from_residual-in_err-value.ensures.1 (or_else (λ f. value_refused cs h c.args.level.now.room n c.args.colon.kind (place_of s c.args.colon.at) (place_of s c.args.colon.after) c.requires.colon.next (place_of s c.in_ok-start.start) (to_in cs n x _ _ e c.in_ok-start.ensures.leads.to) (on_false_at c.ends_value.result c.if-ends_value.false c.ends_value.ensures.no) (refused_in cs h c.args.level.now.room n x _ e f)) (c.in_err-value.ensures.decides e))

pub entries::read_value-returns-then-ends_value-clause-decides : goal.entries::read_value-returns-then-ends_value-clause-decides
entries::read_value-returns-then-ends_value-clause-decides g t c =
    let cs = text_of c.args.source.now in
    let h = handles_of c.args.level.now.handles in
    let n = c.args.level.now.least in
    let x = context_of c.args.level.now.context in
    let s = c.args.source.now in
    λ e. value_closed cs h c.args.level.now.room n c.args.colon.kind (place_of s c.args.colon.at) (place_of s c.args.colon.after) c.requires.colon.next (place_of s c.in_ok-start.start) (to_in cs n x _ _ e c.in_ok-start.ensures.leads.to) (on_true_at c.ends_value.result c.if-ends_value.true c.ends_value.ensures.yes)

pub entries::read_value-returns-then-ends_value-clause-next : goal.entries::read_value-returns-then-ends_value-clause-next
entries::read_value-returns-then-ends_value-clause-next g t c =
    let cs = text_of c.args.source.now in
    let h = handles_of c.args.level.now.handles in
    let n = c.args.level.now.least in
    let x = context_of c.args.level.now.context in
    let s = c.args.source.now in
    inl (char_inside cs (place_of s c.args.colon.at) (place_of s c.args.colon.after) 58 c.requires.colon.is c.requires.colon.next nb_colon)

pub entries::read_value-returns-then-not-is_parted-clause-decides : goal.entries::read_value-returns-then-not-is_parted-clause-decides
entries::read_value-returns-then-not-is_parted-clause-decides g t c =
    let cs = text_of c.args.source.now in
    let h = handles_of c.args.level.now.handles in
    let n = c.args.level.now.least in
    let x = context_of c.args.level.now.context in
    let s = c.args.source.now in
    let apart = on_false_at c.is_parted.result c.if-not-is_parted.true c.is_parted.ensures.no in
    λ e. value_alone cs h c.args.level.now.room n c.args.colon.kind (place_of s c.args.colon.at) (place_of s c.args.colon.after) c.requires.colon.next c.args.colon.after c.in_ok-start.start apart (char_inside cs (place_of s c.args.colon.at) (place_of s c.args.colon.after) 58 c.requires.colon.is c.requires.colon.next nb_colon) (alone_to cs n c.args.colon.kind c.args.colon.after c.in_ok-start.start (place_of s) apart c.in_ok-start.ensures.leads.onward (to_in cs n x _ _ e c.in_ok-start.ensures.leads.to))

pub entries::read_value-returns-then-not-is_parted-clause-next : goal.entries::read_value-returns-then-not-is_parted-clause-next
entries::read_value-returns-then-not-is_parted-clause-next g t c =
    let cs = text_of c.args.source.now in
    let h = handles_of c.args.level.now.handles in
    let n = c.args.level.now.least in
    let x = context_of c.args.level.now.context in
    let s = c.args.source.now in
    inl (char_inside cs (place_of s c.args.colon.at) (place_of s c.args.colon.after) 58 c.requires.colon.is c.requires.colon.next nb_colon)
