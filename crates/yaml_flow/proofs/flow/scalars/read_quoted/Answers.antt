use Rattle.std.proofs.Common.{ℕ, ℤ, pos, ◌≡◌, ap, sym, subst, rules, w32, ◌∙◌}
use Rattle.std.specs.Prelude.{nat_abs}
use Rattle.std.proofs.lemmas.Int.{to_z-of_z}
use mir.Val.{SFits, of_z, to_z}
use Rattle.std.specs.Str.{chars}
use Rattle.std.specs.Cow.{cow_str_bytes}
use Rattle.yaml_text.specs.Source.{text_of, place_of}
use Rattle.yaml_text.specs.EventModel.{context_of}
use Rattle.yaml_definitions.specs.grammar.FlowScalars.{c-single-quoted as single, c-double-quoted as double}
use Rattle.yaml_text.specs.LeafAnswer.{Answers, Only}
use Rattle.yaml_flow.specs.FlowRules.{quoted}
use Rattle.yaml_flow.proofs.flow.scalars.read_quoted.Goals as goal

least_is : (r : ℤ) (least : ℕ) → SFits w32 r → r ≡ pos least → nat_abs (to_z w32 (of_z w32 r)) ≡ least
least_is r least fits e = ap nat_abs (to_z-of_z w32 r fits ∙ e)

pub returns-in-Double-clause-reads : goal.returns-in-Double-clause-reads
returns-in-Double-clause-reads c =
    let s = c.args.source.now in
    let n = least_is c.indentation-n.result c.args.level.now.least (search rules) c.indentation-n.ensures in
    subst (λ q. Answers Only (quoted q (text_of s) c.args.level.now.least (context_of c.args.level.now.context)) (place_of s c.args.at) (λ r. place_of s r.1) (λ r. chars (cow_str_bytes r.0)) c.read_double.result) (sym c.in-Double.is)
    (subst (λ m. Answers Only (double (text_of s) m (context_of c.args.level.now.context)) (place_of s c.args.at) (λ r. place_of s r.1) (λ r. chars (cow_str_bytes r.0)) c.read_double.result) n c.read_double.ensures.reads)

pub returns-in-Single-clause-reads : goal.returns-in-Single-clause-reads
returns-in-Single-clause-reads c =
    let s = c.args.source.now in
    let n = least_is c.indentation-n.result c.args.level.now.least (search rules) c.indentation-n.ensures in
    subst (λ q. Answers Only (quoted q (text_of s) c.args.level.now.least (context_of c.args.level.now.context)) (place_of s c.args.at) (λ r. place_of s r.1) (λ r. chars (cow_str_bytes r.0)) c.read_single.result) (sym c.in-Single.is)
    (subst (λ m. Answers Only (single (text_of s) m (context_of c.args.level.now.context)) (place_of s c.args.at) (λ r. place_of s r.1) (λ r. chars (cow_str_bytes r.0)) c.read_single.result) n c.read_single.ensures.reads)
