use Rattle.std.proofs.Common.{◌≡◌, ap, refl, sym, subst, inl, inr, arith, Some, None}
use Rattle.std.specs.Str.{chars}
use Rattle.std.specs.Cow.{cow_str_bytes}
use Rattle.yaml_text.specs.EventModel.{context_of, written_of}
use Rattle.yaml_definitions.specs.model.Event.{untagged}
use Rattle.yaml_text.specs.Source.{text_of, place_of}
use Rattle.yaml_definitions.specs.grammar.Events.{Props}
use Rattle.yaml_mark.specs.HandlesModel.{handles_of}
use Rattle.law_one_reading.proofs.Properties.{anchor_props}
use Rattle.yaml_sink.specs.PropertyRules.{SomeProperties, anchor_alone}
use Rattle.yaml_layout.specs.PropertyDecisions.{AllProperties}
use Rattle.yaml_layout.proofs.PropertyLemmas.{tag_is, tag_read, anchor_read, named, anchor_then}
use Rattle.yaml_layout.proofs.PropertyDecisions.{failed, name_refused, tag_refused, or_else, no_anchor, no_tag, barred_none, barred_first, barred_second, all_one, all_both, anchor_alike}
use Rattle.yaml_layout.proofs.properties.read_anchored.Goals.{then-next-end+in_default, else-next-end}
use Rattle.yaml_layout.proofs.properties.read_anchored.Goals as goal

-- ---- what it decides

pub returns-in_err-name-clause-barred : goal.returns-in_err-name-clause-barred
returns-in_err-name-clause-barred c =
    let cs = text_of c.args.source.now in
    let handles = handles_of c.args.handles in
    failed _ c.from_residual.result c.in_err-name.field-0.0 c.from_residual.ensures.1
    (or_else (λ none. barred_none cs handles c.args.least (context_of c.args.context) _ (inr c.requires.sign) (no_anchor cs handles _ c.requires.sign none)) (name_refused _ c.in_err-name.ensures.refused))

pub returns-in_err-next-clause-barred : goal.returns-in_err-next-clause-barred
returns-in_err-next-clause-barred c =
    let cs = text_of c.args.source.now in
    let handles = handles_of c.args.handles in
    let name = chars (cow_str_bytes c.in_ok-name.name) in
    let anchor = anchor_read cs handles _ _ _ c.requires.sign c.in_ok-name.ensures.only.is in
    failed _ c.from_residual-in_err-next.result c.in_err-next.field-0.0 c.from_residual-in_err-next.ensures.1
    (inr (barred_first cs handles c.args.least (context_of c.args.context) _ _ (anchor_props name) (inr (_, anchor, refl)) c.in_err-next.ensures.lines c.in_err-next.ensures.none))

pub returns-in_err-tag-clause-barred : goal.returns-in_err-tag-clause-barred
returns-in_err-tag-clause-barred c =
    let cs = text_of c.args.source.now in
    let handles = handles_of c.args.handles in
    let name = chars (cow_str_bytes c.in_ok-name.name) in
    let anchor = anchor_read cs handles _ _ _ c.requires.sign c.in_ok-name.ensures.only.is in
    let is = c.in-Some.ensures.some.is in
    failed _ c.from_residual-in_err-tag.result c.in_err-tag.field-0.0 c.from_residual-in_err-tag.ensures.1
    (or_else (λ none. barred_second cs handles c.args.least (context_of c.args.context) _ _ _ (anchor_props name) (inr (_, anchor, refl)) (c.in_ok-next.ensures.leads.apart c.if-next-end.true) (inl is)
    c.in_ok-next.ensures.leads.to (no_tag cs handles _ is none)) (tag_refused _ c.in_err-tag.ensures.refused))

pub returns-in-Some-clause-stand : goal.returns-in-Some-clause-stand
returns-in-Some-clause-stand c =
    let cs = text_of c.args.source.now in
    let handles = handles_of c.args.handles in
    let name = cow_str_bytes c.in_ok-name.name in
    record {
      border = c.in_ok-tag.ensures.border;
      onward = omega (arith, c.in_ok-name.ensures.onward, c.in_ok-next.ensures.leads.onward, c.in_ok-tag.ensures.onward);
      own = inr (subst (SomeProperties cs handles c.args.least (context_of c.args.context) _ _) (sym c.in_ok-hold.ensures.ok)
          (named cs handles c.args.least (context_of c.args.context) _ _ name (written_of c.in_ok-tag.tag) c.in_ok-name.ensures.utf8
          (anchor_then cs handles c.args.least (context_of c.args.context) _ _ _ _ (written_of c.in_ok-tag.tag) (chars name)
          (anchor_read cs handles _ _ _ c.requires.sign c.in_ok-name.ensures.only.is) (c.in_ok-next.ensures.leads.apart c.if-next-end.true) (tag_read cs handles _ _ _ c.in_ok-tag.ensures.only.is))));
      all = subst (AllProperties cs handles c.args.least (context_of c.args.context) _ _) (sym c.in_ok-hold.ensures.ok) (all_both cs handles c.args.least (context_of c.args.context) _ _ _ _ (tag_is cs handles _ _ _ (tag_read cs handles _ _ _ c.in_ok-tag.ensures.only.is)));
    }

pub returns-clause-stand : goal.returns-clause-stand
returns-clause-stand c =
    let s = c.args.source.now in
    let cs = text_of c.args.source.now in
    let handles = handles_of c.args.handles in
    let bytes = cow_str_bytes c.in_ok-name.name in
    let anchor = anchor_read cs handles _ _ _ c.requires.sign c.in_ok-name.ensures.only.is in
    let name = cow_str_bytes c.in_ok-name.name in
    record {
      border = c.in_ok-name.ensures.border;
      onward = omega (arith, c.in_ok-name.ensures.onward);
      own = inr (subst (SomeProperties cs handles c.args.least (context_of c.args.context) _ _) (sym c.in_ok-hold-2.ensures.ok)
          (named cs handles c.args.least (context_of c.args.context) _ _ name untagged c.in_ok-name.ensures.utf8
          (anchor_alone (chars name) (anchor_read cs handles _ _ _ c.requires.sign c.in_ok-name.ensures.only.is) refl)));
      all = subst (AllProperties cs handles c.args.least (context_of c.args.context) _ _) (sym c.in_ok-hold-2.ensures.ok) (all_one cs handles c.args.least (context_of c.args.context) _ _ (place_of s c.in_ok-next.next) (anchor_props (chars bytes)) _ (inr (_, anchor, refl))
          (λ h. let x : Some bytes ≡ None = ap Props.anchor h in cc) c.in_ok-next.ensures.leads.to
          (elim c.if-next-end.branch [
            | then-next-end+in_default w ↦ inr (anchor_alike cs _ _ c.requires.sign w.in_default.ensures.none)
            | else-next-end w ↦ inl (let e : c.in_ok-next.next ≡ c.in_ok-name.end = omega (arith, w.if-next-end.false, c.in_ok-next.ensures.leads.onward) in ap (place_of s) e)
          ]));
    }
