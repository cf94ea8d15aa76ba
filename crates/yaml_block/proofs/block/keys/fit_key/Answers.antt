use Rattle.std.proofs.Common.{◌≡◌, suc, inr, arith, subst, sym, ◌-◌}
use Rattle.yaml_text.specs.Source.{text_of, place_of}
use Rattle.yaml_definitions.specs.grammar.Separation.{flow_out}
use Rattle.yaml_mark.specs.HandlesModel.{handles_of}
use Rattle.yaml_layout.specs.PropertyDecisions.{IsOnly}
use Rattle.yaml_layout.specs.NodeRules.{Bare}
use Rattle.yaml_sink.specs.PropertyRules.{props_of}
use Rattle.yaml_block.specs.KeyFits.{NoneBelow}
use Rattle.yaml_block.proofs.KeyDecisions.{puts_again, none_below}
use Rattle.yaml_block.proofs.Places.{borders_same}
use Rattle.yaml_block.proofs.block.keys.fit_key.Goals as goal

pub read_bare-requires : goal.read_bare-requires
read_bare-requires g c =
    let starts = c.requires.starts in record { border = starts.border; end = starts.end; order = starts.order; own = starts.own; all = starts.all; low = starts.low }

pub returns-then-again-key-clause-reads : goal.returns-then-again-key-clause-reads
returns-then-again-key-clause-reads g c = λ es b.
    let r = c.in_ok-again.ensures.reads in
    let s = c.args.source.now in
    let cs = text_of s in (
      c.in_ok-again.again.deep,
      c.in_ok-again.again.kind,
      r.0,
      omega (arith, c.in_ok-again.ensures.ends.within, c.if-level-eq0.false),
      puts_again c.args.out.now c.cut.new.self _ c.args.key.start es r.0 c.cut.ensures r.1,
      subst (λ x. Bare cs (Unit {0}) (handles_of c.args.level.now.handles) c.in_ok-again.again.deep c.in_ok-again.again.kind c.args.level.now.least flow_out (props_of c.args.head.now.own) (place_of s c.args.head.now.end) (place_of s c.args.head.now.at) (place_of s x) r.0) c.if-again-key.true r.2,
    )

pub returns-else-again-key-clause-decides : goal.returns-else-again-key-clause-decides
returns-else-again-key-clause-decides g c =
    let cs = text_of c.args.source.now in
    let h = handles_of c.args.level.now.handles in
    let i = place_of c.args.source.now c.args.head.now.at in
    let e : c.args.level.now.room ≡ suc (c.args.level.now.room - 1) = omega (arith, c.if-level-eq0.false) in
    inr (subst (λ n. NoneBelow cs h n c.args.level.now.least i) (sym e)
    (none_below cs h (c.args.level.now.room - 1) c.args.level.now.least i _ _ c.args.key.node.kind c.in_ok-again.again.kind
    (subst (λ n. IsOnly cs h n c.args.level.now.least flow_out i c.args.key.node.kind (place_of c.args.source.now c.args.key.node.end)) e c.requires.key) (c.in_ok-again.ensures.decides (λ _. c.requires.goes_on))
    (λ z. let same : c.in_ok-again.again.end ≡ c.args.key.node.end = borders_same c.args.source.now _ _ c.in_ok-again.ensures.ends.border c.requires.stop z in omega (arith, same, c.if-again-key.false))))
