use Rattle.std.proofs.Common.{◌≡◌, ◌∙◌, Some, sym, ap, subst, rules}
use Rattle.yaml_sum.specs.Listed.{listed, name_as, listing_of}
use Rattle.yaml_sum.specs.Reads.{IsNamed}
use Rattle.yaml_sum.proofs.ListedLaws.{listing_said}
use Rattle.yaml_sum.proofs.CheckLaws.{sees_file, cuts_line}
use Rattle.yaml_sum.proofs.check.check_line.Goals as goal

pub returns-in_err-put-clause-cut : goal.returns-in_err-put-clause-cut
returns-in_err-put-clause-cut g c =
    let m = c.args.manner.one_space in
    let named : name_as c.in-Some.listed.is_escaped c.in-Some.listed.name.now ≡ Some c.unwrite.new.plain.items =
    subst (λ b. IsNamed b (name_as c.in-Some.listed.is_escaped c.in-Some.listed.name.now) c.unwrite.new.plain.items) c.if-not-branch.false c.in_ok-unwrite.ensures.ok in
    let says : listing_of m c.args.line.now ≡ Some (listed c.in-Some.listed.digest c.as_slice-file.result.now) =
    listing_said m c.args.line.now c.read_listed.result c.in-Some.listed c.unwrite.new.plain.items c.read_listed.ensures c.in-Some.is named ∙ ap (λ z. Some (listed c.in-Some.listed.digest z)) (sym c.as_slice-file.ensures.value) in
    let b = cuts_line (g.S.Shelf.holds c.args.shelf.now) g.R.Read.remaining g.W.Write.contents g.E.Write.contents c.args.manner c.args.line.now (listed c.in-Some.listed.digest c.as_slice-file.result.now) c.find-finding.result c.args.input.now c.find-finding.new.input c.args.out.now c.put.new.out c.args.err.now c.put.new.err
    c.in_err-put.field-0.0 (sym c.is_remark.ensures ∙ c.if-is_remark.false) says c.find-finding.ensures c.in_err-put.ensures.cut in
    search (rules, b)

pub returns-clause-ok : goal.returns-clause-ok
returns-clause-ok g c =
    let m = c.args.manner.one_space in
    let named : name_as c.in-Some.listed.is_escaped c.in-Some.listed.name.now ≡ Some c.unwrite.new.plain.items =
    subst (λ b. IsNamed b (name_as c.in-Some.listed.is_escaped c.in-Some.listed.name.now) c.unwrite.new.plain.items) c.if-not-branch.false c.in_ok-unwrite.ensures.ok in
    let says : listing_of m c.args.line.now ≡ Some (listed c.in-Some.listed.digest c.as_slice-file.result.now) =
    listing_said m c.args.line.now c.read_listed.result c.in-Some.listed c.unwrite.new.plain.items c.read_listed.ensures c.in-Some.is named ∙ ap (λ z. Some (listed c.in-Some.listed.digest z)) (sym c.as_slice-file.ensures.value) in
    sees_file (g.S.Shelf.holds c.args.shelf.now) g.R.Read.remaining g.W.Write.contents g.E.Write.contents c.args.manner c.args.line.now (listed c.in-Some.listed.digest c.as_slice-file.result.now) c.find-finding.result c.args.input.now c.find-finding.new.input c.args.out.now c.put.new.out c.args.err.now c.put.new.err
    (sym c.is_remark.ensures ∙ c.if-is_remark.false) says c.find-finding.ensures c.in_ok-put.ensures.ok
