use Rattle.std.proofs.Common.{arith}
use Rattle.yaml_text.specs.Source.{text_of, place_of}
use Rattle.yaml_text.proofs.LineRuns.{no_char_space}
use Rattle.yaml_text.proofs.Breaks.{spaces_none, spaces_more}
use Rattle.yaml_scalar.proofs.line.read_spaces.Goals as goal

pub spaces-init : goal.spaces-init
spaces-init c = record {
  border = c.requires;
  onward = omega arith;
  within = omega arith;
  spaces = spaces_none (text_of c.args.source.now) (place_of c.args.source.now c.args.at);
}

pub spaces-preserved : goal.spaces-preserved
spaces-preserved c =
    let s = c.in-Some.ensures.some in
    let v = c.spaces.invariant in
    record {
      border = s.border;
      onward = omega (arith, v.onward, s.forward);
      within = omega (arith, v.within, c.if-count-most.false);
      spaces = spaces_more (text_of c.args.source.now) _ _ _ _ v.spaces s.is s.next;
    }

pub returns-in-None-clause-furthest : goal.returns-in-None-clause-furthest
returns-in-None-clause-furthest c = λ l. no_char_space (text_of c.args.source.now) _ c.in-None.ensures.none
