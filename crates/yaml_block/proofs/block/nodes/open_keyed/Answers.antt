use Rattle.std.proofs.Common.{◌≡◌, ◌⊎◌, suc, false, ◌-◌, ◌≤◌, [], ◌∷◌, ◌++◌, ◌∙◌, None, sym, ap, subst, append_assoc, arith, inr}
use Rattle.std.proofs.lemmas.Option.{MatchOption-at_some}
use Rattle.yaml_definitions.specs.model.Event.{mapping_end}
use Rattle.yaml_definitions.specs.grammar.Separation.{flow_out}
use Rattle.yaml_definitions.specs.grammar.Events.{map_start}
use Rattle.yaml_text.specs.EventModel.{context_of}
use Rattle.yaml_text.specs.Source.{text_of, place_of}
use Rattle.yaml_text.specs.declared.chars.Chars.{Chars}
use Rattle.yaml_mark.specs.HandlesModel.{handles_of}
use Rattle.law_going_on.proofs.GoingOn.{rest_rest, rest_goes, rest_refused}
use Rattle.yaml_sink.specs.PropertyRules.{props_of, both_props, dressed}
use Rattle.yaml_sink.specs.Held.{Alters}
use Rattle.yaml_sink.specs.SinkModel.{holds_of}
use Rattle.yaml_sink.specs.declared.properties.Properties.{Properties}
use Rattle.yaml_layout.specs.NodeLevels.{StartsWith}
use Rattle.yaml_layout.specs.declared.properties.Head.{Head}
use Rattle.yaml_layout.proofs.AnswerLemmas.{puts_after, puts_altered}
use Rattle.yaml_layout.proofs.NodeLemmas.{bare_flow}
use Rattle.yaml_layout.proofs.PropertyDecisions.{or_else, line_all}
use Rattle.yaml_layout.proofs.Deciding.{at_err}
use Rattle.yaml_block.specs.BlockRules.{node_rest}
use Rattle.yaml_block.specs.BlockEnds.{AfterNode, IsNoKey}
use Rattle.yaml_block.specs.BlockCalls.{flow_level, StartsDressed, IsFirstColon, DecidesOpenedNode, site_rule}
use Rattle.yaml_block.specs.OuterRules.{column_of}
use Rattle.yaml_block.specs.declared.block.nodes.Site.{Site}
use Rattle.yaml_block.proofs.BlockLemmas.{value_key, mapping_done}
use Rattle.yaml_block.proofs.OuterLemmas.{line_own, no_key, keyed}
use Rattle.yaml_block.proofs.KeyDecisions.{puts_become}
use Rattle.yaml_block.proofs.Found.{found_is, none_is}
use Rattle.yaml_block.proofs.Opened.{whole_begins, whole_goes}
use Rattle.yaml_block.proofs.Passing.{keyed_none_below}
use Rattle.yaml_block.proofs.NodeDecisions.{kept}
use Rattle.yaml_block.proofs.KeyedDecisions.{end_inside, kept_line, kept_neither, kept_keyed, kept_refused}
use Rattle.yaml_block.proofs.MappingDecisions.{colon_stands, colon_after_inside, unfit_none, mapping_left}
use Rattle.yaml_block.proofs.block.nodes.open_keyed.Goals as goal

-- the flow node with which a block node begins
flow_starts : (s : Chars) (site : Site) (outer : Properties) (head : Head) → StartsDressed s site outer head → StartsWith s (flow_level site.level.now) head
flow_starts s site outer head d =
    let cs = text_of s in
    let level = site.level.now in
    let h = handles_of level.handles in record {
      border = d.node.border;
      end = d.own.border;
      order = d.own.onward;
      own = line_own cs h level.least _ _ _ d.own.own;
      all = line_all cs h level.least flow_out _ _ _ d.goes_on d.own.all;
      low = omega (arith, d.node.low, d.node.order);
    }

pub returns-in_ok-line-in-None-clause-reads : goal.returns-in_ok-line-in-None-clause-reads
returns-in_ok-line-in-None-clause-reads g c =
    let s = c.args.source.now in
    let cs = text_of s in
    let h = handles_of c.args.site.now.level.now.handles in
    let k = c.in_ok-node.ensures.reads in
    let n = c.in_ok-line-in-None.ensures in
    let p = props_of c.args.outer in
    let q = props_of c.args.head.own in (
      dressed (both_props p q) k.0,
      puts_altered c.args.out.now c.read_in_block.new.out c.dress.new.self c.mark-start.result (dressed (both_props p q)) k.0 c.mark-start.ensures (puts_after c.args.out.now c.announce_outer.new.out c.read_in_block.new.out k.0 c.announce_outer.ensures k.1)
          (subst (λ z. Alters (holds_of g.K.Keeper.holds) c.mark-start.result (dressed z) c.read_in_block.new.out c.dress.new.self) c.and-both.ensures c.dress.ensures),
      whole_begins (node_rest cs (Unit {0}) h c.args.site.now.level.now.room c.args.site.now.level.now.least (context_of c.args.site.now.level.now.context) (column_of p c.args.site.now.column)) _ _ (dressed (both_props p q) k.0)
          (no_key cs (Unit {0}) h c.args.site.now.level.now.room c.in_ok-node.node.deep c.args.site.now.level.now.least (context_of c.args.site.now.level.now.context) c.in_ok-node.node.kind c.args.site.now.column (column_of p c.args.site.now.column) _ _ _ _ _ p q k.0
          c.requires.dressed.node.above c.requires.dressed.own.own k.2 c.in_ok-node.ensures.ends.within n.ends.apart n.ends.bears n.ends.comments),
    )

pub returns-in_ok-insert_block_mapping-in-Some-clause-reads : goal.returns-in_ok-insert_block_mapping-in-Some-clause-reads
returns-in_ok-insert_block_mapping-in-Some-clause-reads g c =
    let s = c.args.source.now in
    let cs = text_of s in
    let h = handles_of c.args.site.now.level.now.handles in
    let p = props_of c.args.outer in
    let q = props_of c.args.head.own in
    let first_read = c.in_ok-node.ensures.reads in
    let r = c.args.site.now.level.now.room - 1 in
    let first = map_start false p in
    let k = c.in_ok-fit_key-in-Some.ensures.reads first_read.0 first_read.2 in
    let ks = dressed q k.2 in
    let is : c.args.site.now.level.now.room ≡ suc r = omega (arith, k.3) in
    let found = found_is (λ z. IsFirstColon s c.args.head.at c.in_ok-node.node.end c.args.site.now.column z.0 z.1) c.in_ok-first_colon.field-0 _ c.in-Some.is c.in_ok-first_colon.ensures.found in
    let column = found.some in
    let colon = found.colon in
    let put = puts_after c.args.out.now c.announce_outer.new.out c.read_in_block.new.out first_read.0 c.announce_outer.ensures first_read.1 in
    let again = puts_become c.args.out.now c.read_in_block.new.out c.fit_key.new.out c.mark-start.result first_read.0 k.2 c.mark-start.ensures put k.4 in
    let own = puts_altered c.args.out.now c.fit_key.new.out c.dress-in-Some.new.self c.mark-start.result (dressed q) k.2 c.mark-start.ensures again c.dress-in-Some.ensures in
    let begun = puts_altered c.args.out.now c.dress-in-Some.new.self c.insert_block_mapping.new.out c.mark-start.result (λ es. first ∷ es) ks c.mark-start.ensures own c.in_ok-insert_block_mapping-in-Some.ensures.ok in
    let flow = bare_flow cs (Unit {0}) h k.0 k.1 c.args.site.now.level.now.least flow_out q _ _ _ k.2 k.5 in
    let key = value_key cs (Unit {0}) h r c.args.site.now.level.now.least k.0 k.1 _ _ _ ks flow (omega (arith, k.3)) colon in (
      first ∷ ks,
      begun,
      λ j vs (us, e, v). subst (node_rest cs (Unit {0}) h c.args.site.now.level.now.room c.args.site.now.level.now.least (context_of c.args.site.now.level.now.context) (column_of p c.args.site.now.column) (place_of s c.args.site.now.from) j)
          (ap (λ z. first ∷ z) (append_assoc ks us (mapping_end ∷ []) ∙ ap (λ z. ks ++ z) (sym e)))
          (keyed cs (Unit {0}) h c.args.site.now.level.now.room c.args.site.now.level.now.least c.in-Some.column (context_of c.args.site.now.level.now.context) c.args.site.now.column _ _ _ p _ c.requires.dressed.node.above column
          (mapping_done cs (Unit {0}) h p r c.args.site.now.level.now.room c.in-Some.column _ _ _ ks us is key v)),
    )

pub read_in_block-requires : goal.read_in_block-requires
read_in_block-requires g c = flow_starts c.args.source.now c.args.site.now c.args.outer c.args.head c.requires.dressed

pub fit_key-requires : goal.fit_key-requires
fit_key-requires g c = record {
  starts = flow_starts c.args.source.now c.args.site.now c.args.outer c.args.head c.requires.dressed;
  stop = c.in_ok-node.ensures.ends.border;
  goes_on = c.requires.dressed.goes_on;
  key = c.in_ok-node.ensures.decides c.requires.dressed.goes_on;
}

pub returns-in_err-node-clause-decides : goal.returns-in_err-node-clause-decides
returns-in_err-node-clause-decides g c =
    let s = c.args.source.now in
    let cs = text_of s in
    let h = handles_of c.args.site.now.level.now.handles in
    let x = context_of c.args.site.now.level.now.context in
    let p = props_of c.args.outer in
    let whole = kept cs h c.args.site.now.level.now.room c.args.site.now.level.now.least x c.requires.dressed.node.block c.args.site.now.column _ _ p _ (props_of c.args.head.own) c.requires.dressed.own.all c.requires.dressed.goes_on c.requires.dressed.own.own c.requires.dressed.node.above c.requires.no_scalar in
    at_err (DecidesOpenedNode s c.args.site.now.level.now c.args.site.now.from (site_rule c.args.site.now c.args.outer)) c.from_residual.result _ c.from_residual.ensures.1
    (or_else (λ n. rest_refused whole (kept_refused cs h c.args.site.now.level.now.room c.args.site.now.level.now.least x c.requires.dressed.node.block _ p c.args.site.now.column n)) (c.in_err-node.ensures.decides c.requires.dressed.goes_on))

pub returns-in_err-first_colon-clause-decides : goal.returns-in_err-first_colon-clause-decides
returns-in_err-first_colon-clause-decides g c =
    let s = c.args.source.now in
    let cs = text_of s in
    let h = handles_of c.args.site.now.level.now.handles in
    let x = context_of c.args.site.now.level.now.context in
    let p = props_of c.args.outer in
    let q = props_of c.args.head.own in
    let k = c.in_ok-node.ensures.reads in
    let node = c.in_ok-node.node in
    let flow = bare_flow cs (Unit {0}) h node.deep node.kind c.args.site.now.level.now.least flow_out q _ _ _ k.0 k.2 in
    let inside = end_inside cs h c.args.site.now.level.now.room c.args.site.now.level.now.least x c.requires.dressed.node.block node.kind node.deep _ _ (dressed q k.0) flow c.in_ok-node.ensures.ends.within in
    let whole = kept cs h c.args.site.now.level.now.room c.args.site.now.level.now.least x c.requires.dressed.node.block c.args.site.now.column _ _ p _ q c.requires.dressed.own.all c.requires.dressed.goes_on c.requires.dressed.own.own c.requires.dressed.node.above c.requires.no_scalar in
    let long = c.in_err-first_colon.ensures.long in
    at_err (DecidesOpenedNode s c.args.site.now.level.now c.args.site.now.from (site_rule c.args.site.now c.args.outer)) c.from_residual-in_err-first_colon.result _ c.from_residual-in_err-first_colon.ensures.1
    (inr (rest_refused whole (kept_neither cs h c.args.site.now.level.now.room c.args.site.now.level.now.least x c.requires.dressed.node.block _ _ node.kind (c.in_ok-node.ensures.decides c.requires.dressed.goes_on) p c.args.site.now.column inside long.0 long.1)))

pub returns-in_err-line-in-None-clause-decides : goal.returns-in_err-line-in-None-clause-decides
returns-in_err-line-in-None-clause-decides g c =
    let s = c.args.source.now in
    let cs = text_of s in
    let h = handles_of c.args.site.now.level.now.handles in
    let x = context_of c.args.site.now.level.now.context in
    let p = props_of c.args.outer in
    let q = props_of c.args.head.own in
    let node = c.in_ok-node.node in
    let no_key = none_is ((c.args.site.now.column ≡ None) ⊎ IsNoKey cs (place_of s c.args.head.at) (place_of s node.end)) c.in_ok-first_colon.field-0 c.in-None.is c.in_ok-first_colon.ensures.none in
    at_err (DecidesOpenedNode s c.args.site.now.level.now c.args.site.now.from (site_rule c.args.site.now c.args.outer)) c.from_residual-in_err-line-in-None.result _ c.from_residual-in_err-line-in-None.ensures.1
    (inr (unfit_none cs h c.args.site.now.level.now.room c.args.site.now.level.now.least x c.requires.dressed.node.block c.args.site.now.column _ _ p _ q c.requires.dressed.own.all c.requires.dressed.goes_on c.requires.dressed.own.own c.requires.dressed.node.above c.requires.no_scalar _ node.kind (c.in_ok-node.ensures.decides c.requires.dressed.goes_on) no_key c.in_err-line-in-None.ensures.unfit))

pub returns-in_ok-line-in-None-clause-decides : goal.returns-in_ok-line-in-None-clause-decides
returns-in_ok-line-in-None-clause-decides g c =
    let s = c.args.source.now in
    let cs = text_of s in
    let h = handles_of c.args.site.now.level.now.handles in
    let x = context_of c.args.site.now.level.now.context in
    let p = props_of c.args.outer in
    let n = c.in_ok-line-in-None.ensures in
    let node = c.in_ok-node.node in
    let no_key = none_is ((c.args.site.now.column ≡ None) ⊎ IsNoKey cs (place_of s c.args.head.at) (place_of s node.end)) c.in_ok-first_colon.field-0 c.in-None.is c.in_ok-first_colon.ensures.none in
    let whole = kept cs h c.args.site.now.level.now.room c.args.site.now.level.now.least x c.requires.dressed.node.block c.args.site.now.column _ _ p _ (props_of c.args.head.own) c.requires.dressed.own.all c.requires.dressed.goes_on c.requires.dressed.own.own c.requires.dressed.node.above c.requires.no_scalar in
    whole_goes (node_rest cs (Unit {0}) h c.args.site.now.level.now.room c.args.site.now.level.now.least x (column_of p c.args.site.now.column)) (AfterNode cs c.args.site.now.level.now.least x) _ _
    (rest_goes whole (kept_line cs h c.args.site.now.level.now.room c.args.site.now.level.now.least x c.requires.dressed.node.block _ _ node.kind (c.in_ok-node.ensures.decides c.requires.dressed.goes_on) p c.args.site.now.column _ no_key n.ends.comments n.ends.line.stuck))

pub returns-in_err-fit_key-in-Some-clause-decides : goal.returns-in_err-fit_key-in-Some-clause-decides
returns-in_err-fit_key-in-Some-clause-decides g c =
    let s = c.args.source.now in
    let cs = text_of s in
    let h = handles_of c.args.site.now.level.now.handles in
    let x = context_of c.args.site.now.level.now.context in
    let p = props_of c.args.outer in
    let q = props_of c.args.head.own in
    let k = c.in_ok-node.ensures.reads in
    let node = c.in_ok-node.node in
    let flow = bare_flow cs (Unit {0}) h node.deep node.kind c.args.site.now.level.now.least flow_out q _ _ _ k.0 k.2 in
    let inside = end_inside cs h c.args.site.now.level.now.room c.args.site.now.level.now.least x c.requires.dressed.node.block node.kind node.deep _ _ (dressed q k.0) flow c.in_ok-node.ensures.ends.within in
    let whole = kept cs h c.args.site.now.level.now.room c.args.site.now.level.now.least x c.requires.dressed.node.block c.args.site.now.column _ _ p _ q c.requires.dressed.own.all c.requires.dressed.goes_on c.requires.dressed.own.own c.requires.dressed.node.above c.requires.no_scalar in
    let found = found_is (λ z. IsFirstColon s c.args.head.at c.in_ok-node.node.end c.args.site.now.column z.0 z.1) c.in_ok-first_colon.field-0 _ c.in-Some.is c.in_ok-first_colon.ensures.found in
    let colon = found.colon in
    at_err (DecidesOpenedNode s c.args.site.now.level.now c.args.site.now.from (site_rule c.args.site.now c.args.outer)) c.from_residual-in_err-fit_key-in-Some.result _ c.from_residual-in_err-fit_key-in-Some.ensures.1
    (or_else (λ n. rest_refused (rest_rest whole (kept_keyed cs h c.args.site.now.level.now.room c.args.site.now.level.now.least x c.requires.dressed.node.block _ _ node.kind (c.in_ok-node.ensures.decides c.requires.dressed.goes_on) p c.args.site.now.column inside (colon_stands cs _ _ _ colon)))
    (keyed_none_below cs h c.args.site.now.level.now.room c.args.site.now.level.now.least x c.requires.dressed.node.block p c.args.site.now.column _ (AfterNode cs c.args.site.now.level.now.least x) n)) c.in_err-fit_key-in-Some.ensures.decides)

pub returns-in_ok-insert_block_mapping-in-Some-clause-decides : goal.returns-in_ok-insert_block_mapping-in-Some-clause-decides
returns-in_ok-insert_block_mapping-in-Some-clause-decides g c =
    let s = c.args.source.now in
    let cs = text_of s in
    let h = handles_of c.args.site.now.level.now.handles in
    let x = context_of c.args.site.now.level.now.context in
    let p = props_of c.args.outer in
    let q = props_of c.args.head.own in
    let k = c.in_ok-node.ensures.reads in
    let node = c.in_ok-node.node in
    let fit = c.in_ok-fit_key-in-Some.ensures.reads k.0 k.2 in
    let flow = bare_flow cs (Unit {0}) h node.deep node.kind c.args.site.now.level.now.least flow_out q _ _ _ k.0 k.2 in
    let found = found_is (λ z. IsFirstColon s c.args.head.at c.in_ok-node.node.end c.args.site.now.column z.0 z.1) c.in_ok-first_colon.field-0 _ c.in-Some.is c.in_ok-first_colon.ensures.found in
    let column = found.some in
    let colon = found.colon in
    let wide = MatchOption-at_some (Unit {0}) (λ k. c.args.site.now.level.now.least ≤ k) _ column c.requires.dressed.node.wide in
    mapping_left cs h (c.args.site.now.level.now.room - 1) c.args.site.now.level.now.room c.args.site.now.level.now.least x c.requires.dressed.node.block c.args.site.now.column _ _ p _ q c.requires.dressed.own.all c.requires.dressed.goes_on c.requires.dressed.own.own c.requires.dressed.node.above c.requires.no_scalar _ node.kind node.deep (dressed q k.0) flow c.in_ok-node.ensures.ends.within
    (c.in_ok-node.ensures.decides c.requires.dressed.goes_on) (omega (arith, fit.3)) _ _ column wide colon

pub returns-in_ok-line-in-None-clause-ends : goal.returns-in_ok-line-in-None-clause-ends
returns-in_ok-line-in-None-clause-ends g c =
    let n = c.in_ok-line-in-None.ensures.ends in
    record { starts = record { line = n.line; onward = omega arith; after = n.after }; onward = omega (arith, c.requires.dressed.node.order, c.in_ok-node.ensures.ends.onward, n.onward) }

pub returns-in_ok-insert_block_mapping-in-Some-clause-ends : goal.returns-in_ok-insert_block_mapping-in-Some-clause-ends
returns-in_ok-insert_block_mapping-in-Some-clause-ends g c =
    let s = c.args.source.now in
    let cs = text_of s in
    let k = c.in_ok-node.ensures.reads in
    let fit = c.in_ok-fit_key-in-Some.ensures.reads k.0 k.2 in
    let found = found_is (λ z. IsFirstColon s c.args.head.at c.in_ok-node.node.end c.args.site.now.column z.0 z.1) c.in_ok-first_colon.field-0 _ c.in-Some.is c.in_ok-first_colon.ensures.found in
    let low = MatchOption-at_some (Unit {0}) (λ k. k ≤ c.args.head.at) _ found.some c.requires.dressed.node.column in
    record {
      starts = record {
        border = found.border;
        low = omega (arith, low, found.further, c.in_ok-node.ensures.ends.onward);
        inside = colon_after_inside cs _ _ _ found.colon;
        some = omega (arith, fit.3);
      };
      onward = omega (arith, c.requires.dressed.node.order, c.in_ok-node.ensures.ends.onward, found.further);
    }
