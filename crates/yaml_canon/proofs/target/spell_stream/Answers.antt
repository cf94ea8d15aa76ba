use Rattle.std.proofs.Common.{rules}
use Rattle.yaml_text.specs.declared.fault.Fault.TheVariants.{OutOfMemory}
use Rattle.yaml_spell.proofs.PieceLaws.{if_err}
use Rattle.yaml_canon.proofs.ClaimLaws.{is_text}
use Rattle.yaml_canon.proofs.SpelledLaws.{spelled-rooted, spelled-arranged}
use Rattle.yaml_canon.proofs.TargetLaws.{if_is, canonical_put, refused_put, canonical_not_put, not_put_elsewhere}
use Rattle.yaml_canon.proofs.target.spell_stream.Goals as goal

pub returns-in_err-forest-clause-err : goal.returns-in_err-forest-clause-err
returns-in_err-forest-clause-err g c =
    let f = refused_put g.T.Target.broke c.args.bytes.now c.args.target.now c.in_err-forest.field-0.0 c.in_err-forest.ensures.why.refused in
    search (rules, f)

pub returns-in_err-forest-clause-no_text : goal.returns-in_err-forest-clause-no_text
returns-in_err-forest-clause-no_text g c = λ never.
    let f = c.in_err-forest.ensures.why.no_text never in
    search (rules, f)

pub returns-in_err-forest-clause-placed : goal.returns-in_err-forest-clause-placed
returns-in_err-forest-clause-placed g c =
    let f = c.in_err-forest.ensures.why.placed in
    search (rules, f)

pub returns-in_err-forest-clause-same : goal.returns-in_err-forest-clause-same
returns-in_err-forest-clause-same g c =
    let f = g.met.T.Target.stays c.args.target.now in
    search (rules, f)

pub returns-in_err-ranks-clause-err : goal.returns-in_err-ranks-clause-err
returns-in_err-ranks-clause-err g c =
    let f = refused_put g.T.Target.broke c.args.bytes.now c.args.target.now OutOfMemory tt in
    search (rules, f)

pub returns-in_err-ranks-clause-no_text : goal.returns-in_err-ranks-clause-no_text
returns-in_err-ranks-clause-no_text g c = λ never. absurd (is_text c.args.bytes.now c.in_ok-forest.ensures.ranks.trees c.in_ok-forest.ensures.ranks.means never)

pub returns-in_err-ranks-clause-same : goal.returns-in_err-ranks-clause-same
returns-in_err-ranks-clause-same g c =
    let f = g.met.T.Target.stays c.args.target.now in
    search (rules, f)

pub put-requires-clause-rooted : goal.put-requires-clause-rooted
put-requires-clause-rooted g c = spelled-rooted c.args.bytes.now c.in_ok-forest.forest c.deref.result.now c.in_ok-forest.ensures.ranks c.deref.ensures.value c.in_ok-ranks.ranks c.in_ok-ranks.ensures.same c.in_ok-ranks.ensures.spells

pub returns-clause-ok : goal.returns-clause-ok
returns-clause-ok g c =
    let a = spelled-arranged c.args.bytes.now c.in_ok-forest.forest c.deref.result.now c.in_ok-forest.ensures.ranks c.deref.ensures.value c.in_ok-ranks.ranks c.in_ok-ranks.ensures.same in
    if_is c.put.result c.put.ensures.ok (λ answer h. canonical_put g.T.Target.took c.args.bytes.now _ c.args.target.now c.put.new.self answer a h)

pub returns-clause-err : goal.returns-clause-err
returns-clause-err g c =
    let a = spelled-arranged c.args.bytes.now c.in_ok-forest.forest c.deref.result.now c.in_ok-forest.ensures.ranks c.deref.ensures.value c.in_ok-ranks.ranks c.in_ok-ranks.ensures.same in
    if_err c.put.result c.put.ensures.err (λ fault h. canonical_not_put g.T.Target.broke c.args.bytes.now _ c.args.target.now c.put.new.self fault a h)

pub returns-clause-no_text : goal.returns-clause-no_text
returns-clause-no_text g c = λ never. absurd (is_text c.args.bytes.now c.in_ok-forest.ensures.ranks.trees c.in_ok-forest.ensures.ranks.means never)

pub returns-clause-placed : goal.returns-clause-placed
returns-clause-placed g c = if_err c.put.result c.put.ensures.err (λ fault h. not_put_elsewhere g.T.Target.broke c.args.bytes.now _ c.args.target.now c.put.new.self fault h)
