use Rattle.std.proofs.Common.{refl, sym, ap, [], ◌∷◌}
use Rattle.std.specs.Str.{chars}
use Rattle.std.specs.Cow.{cow_str_bytes}
use Rattle.std.proofs.lemmas.Str.{encodes-chars}
use Rattle.yaml_definitions.specs.model.Event.{alias_event}
use Rattle.yaml_text.specs.Source.{text_of, place_of}
use Rattle.yaml_definitions.specs.grammar.Tags as tags
use Rattle.law_going_on.specs.GoingOn.{Here}
use Rattle.yaml_layout.proofs.Deciding.{decides_err}
use Rattle.yaml_layout.proofs.PropertyDecisions.{name_refused, or_else}
use Rattle.yaml_flow.proofs.ContentDecisions.{alias_goes, no_alias}
use Rattle.yaml_layout.proofs.PropertyLemmas.{alias_read}
use Rattle.yaml_flow.proofs.flow.scalars.read_alias.Goals as goal

pub returns-clause-reads : goal.returns-clause-reads
returns-clause-reads g c =
    let name = cow_str_bytes c.in_ok-name.name in (
      _,
      c.in_ok-push.ensures.ok,
      (refl, (chars name, alias_read (text_of c.args.source.now) [] _ _ _ c.requires.sign c.in_ok-name.ensures.only.is, ap (λ u. alias_event u ∷ []) (sym (encodes-chars name c.in_ok-name.ensures.utf8)))),
    )

pub returns-clause-decides : goal.returns-clause-decides
returns-clause-decides g c = alias_goes (text_of c.args.source.now) _ _ _ c.in_ok-name.ensures.only

pub returns-in_err-name-clause-decides : goal.returns-in_err-name-clause-decides
returns-in_err-name-clause-decides g c =
    let cs = text_of c.args.source.now in
    let i = place_of c.args.source.now c.args.at in
    decides_err (tags.c-ns-alias-node cs) Here i Here (λ node. place_of c.args.source.now node.end) c.from_residual.result _ c.from_residual.ensures.1 (or_else (no_alias cs i) (name_refused _ c.in_err-name.ensures.refused))
