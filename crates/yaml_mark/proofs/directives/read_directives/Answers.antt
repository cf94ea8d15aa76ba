use Rattle.std.proofs.Common.{◌≡◌, false, inl, ap, sym, subst, arith}
use Rattle.std.proofs.lemmas.Result.{err_from_is_err_and}
use Rattle.yaml_text.specs.Source.{text_of, place_of}
use Rattle.yaml_mark.specs.DirectiveParts.{directive_of, is_repeated}
use Rattle.yaml_mark.specs.HandlesModel.{bindings_of}
use Rattle.yaml_mark.proofs.RefusalLemmas.{malformed_refuses}
use Rattle.yaml_mark.proofs.DirectivesLemmas.{Read, percent_stuck, only_stuck, only_of, starts, more_version, more_reserved, more_binding, ends_read, refused_read, line_here}
use Rattle.yaml_mark.proofs.PrefixLemmas.{bound_whole}
use Rattle.yaml_mark.proofs.directives.read_directives.Goals as goal

pub lines-init : goal.lines-init
lines-init c =
    let cs = text_of c.args.source.now in
    let at = place_of c.args.source.now c.args.at in
    record {
      border = c.requires.border;
      onward = omega arith;
      start = inl c.requires.start;
      stuck = percent_stuck cs _ c.requires.percent;
      read = subst (Read cs at at false) (sym c.new-handles.ensures) (starts cs at);
    }

pub returns-in-None-clause-only : goal.returns-in-None-clause-only
returns-in-None-clause-only c =
    let v = c.lines.invariant in
    ends_read (text_of c.args.source.now) _ _ _ _ v.read c.requires.percent c.in-None.ensures.none v.stuck

pub read_directive-requires-clause-line : goal.read_directive-requires-clause-line
read_directive-requires-clause-line c = line_here (text_of c.args.source.now) _ _ c.in-Some.ensures.some.is c.lines.invariant.start

pub returns-in_err-directive-clause-refused : goal.returns-in_err-directive-clause-refused
returns-in_err-directive-clause-refused c =
    let p = err_from_is_err_and c.from_residual.result c.from_residual.ensures.1 in
    rw (p.1, p.2)
    (malformed_refuses _ c.in_err-directive.ensures.malformed (refused_read (text_of c.args.source.now) _ _ _ _ c.lines.invariant.read c.in-Some.ensures.some.is c.in_err-directive.ensures.none))

pub bind-requires-clause-whole : goal.bind-requires-clause-whole
bind-requires-clause-whole c =
    bound_whole (text_of c.args.source.now) _ _ _ _ (only_of (text_of c.args.source.now) _ _ _ _ (ap directive_of c.in-Binding.is) c.in_ok-directive.ensures.only)

pub bind-requires-clause-free : goal.bind-requires-clause-free
bind-requires-clause-free c =
    subst (λ z. is_repeated c.lines.has_version (bindings_of c.lines.handles) (directive_of z) ≡ false) c.in-Binding.is c.in_ok-directive.ensures.fresh

pub lines-preserved-in-Version : goal.lines-preserved-in-Version
lines-preserved-in-Version c =
    let cs = text_of c.args.source.now in
    let e = c.in_ok-directive.ensures in
    let v = c.lines.invariant in
    record {
      border = e.border;
      onward = omega (arith, v.onward, e.onward);
      start = e.after;
      stuck = only_stuck cs _ _ _ e.only;
      read = more_version cs _ _ _ _ _ (subst (λ z. is_repeated c.lines.has_version (bindings_of c.lines.handles) (directive_of z) ≡ false) c.in-Version.is e.fresh) v.read c.in-Some.ensures.some.is
          (only_of cs _ _ _ _ (ap directive_of c.in-Version.is) e.only);
    }

pub lines-preserved-in_ok-handles-in-Binding : goal.lines-preserved-in_ok-handles-in-Binding
lines-preserved-in_ok-handles-in-Binding c =
    let cs = text_of c.args.source.now in
    let e = c.in_ok-directive.ensures in
    let v = c.lines.invariant in
    record {
      border = e.border;
      onward = omega (arith, v.onward, e.onward);
      start = e.after;
      stuck = only_stuck cs _ _ _ e.only;
      read = more_binding cs _ _ _ _ _ _ _ _ (subst (λ z. is_repeated c.lines.has_version (bindings_of c.lines.handles) (directive_of z) ≡ false) c.in-Binding.is e.fresh) c.in_ok-handles-in-Binding.ensures.more v.read c.in-Some.ensures.some.is
          (only_of cs _ _ _ _ (ap directive_of c.in-Binding.is) e.only);
    }

pub lines-preserved : goal.lines-preserved
lines-preserved c =
    let cs = text_of c.args.source.now in
    let e = c.in_ok-directive.ensures in
    let v = c.lines.invariant in
    record {
      border = e.border;
      onward = omega (arith, v.onward, e.onward);
      start = e.after;
      stuck = only_stuck cs _ _ _ e.only;
      read = more_reserved cs _ _ _ _ _ v.read c.in-Some.ensures.some.is
          (only_of cs _ _ _ _ (ap directive_of c.in-Reserved.is) e.only);
    }
