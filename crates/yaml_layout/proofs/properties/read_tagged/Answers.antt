use Rattle.std.proofs.Common.{◌≡◌, ap, refl, sym, inl, inr, arith, subst}
use Rattle.std.specs.Str.{chars}
use Rattle.std.specs.Cow.{cow_str_bytes}
use Rattle.yaml_text.specs.EventModel.{context_of, written_of}
use Rattle.yaml_text.specs.Source.{text_of, place_of}
use Rattle.yaml_mark.specs.HandlesModel.{handles_of}
use Rattle.law_one_reading.proofs.Properties.{tag_props}
use Rattle.yaml_sink.specs.PropertyRules.{HasTag, SomeProperties, tag_alone}
use Rattle.yaml_layout.specs.PropertyDecisions.{AllProperties}
use Rattle.yaml_layout.proofs.PropertyLemmas.{tag_is, tag_read, anchor_read, named, tag_then}
use Rattle.yaml_layout.proofs.PropertyDecisions.{failed, name_refused, tag_refused, or_else, no_anchor, no_tag, barred_none, barred_first, barred_second, all_one, all_both, tag_alike}
use Rattle.yaml_definitions.specs.grammar.Events.{Props}
use Rattle.yaml_layout.proofs.properties.read_tagged.Goals.{then-next-end+in_default, else-next-end}
use Rattle.yaml_layout.proofs.properties.read_tagged.Goals as goal

-- ---- what it decides

pub returns-in_err-tag-clause-barred : goal.returns-in_err-tag-clause-barred
returns-in_err-tag-clause-barred c =
    let cs = text_of c.args.source.now in
    let handles = handles_of c.args.handles in
    failed _ c.from_residual.result c.in_err-tag.field-0.0 c.from_residual.ensures.1
    (or_else (λ none. barred_none cs handles c.args.least (context_of c.args.context) _ (inl c.requires.sign) (no_tag cs handles _ c.requires.sign none)) (tag_refused _ c.in_err-tag.ensures.refused))

pub returns-in_err-next-clause-barred : goal.returns-in_err-next-clause-barred
returns-in_err-next-clause-barred c =
    let cs = text_of c.args.source.now in
    let handles = handles_of c.args.handles in
    let tag = tag_read cs handles _ _ _ c.in_ok-tag.ensures.only.is in
    failed _ c.from_residual-in_err-next.result c.in_err-next.field-0.0 c.from_residual-in_err-next.ensures.1
    (inr (barred_first cs handles c.args.least (context_of c.args.context) _ _ (tag_props (written_of c.in_ok-tag.tag)) (inl (_, tag, refl)) c.in_err-next.ensures.lines c.in_err-next.ensures.none))

pub returns-in_err-name-clause-barred : goal.returns-in_err-name-clause-barred
returns-in_err-name-clause-barred c =
    let cs = text_of c.args.source.now in
    let handles = handles_of c.args.handles in
    let tag = tag_read cs handles _ _ _ c.in_ok-tag.ensures.only.is in
    let is = c.in-Some.ensures.some.is in
    failed _ c.from_residual-in_err-name.result c.in_err-name.field-0.0 c.from_residual-in_err-name.ensures.1
    (or_else (λ none. barred_second cs handles c.args.least (context_of c.args.context) _ _ _ (tag_props (written_of c.in_ok-tag.tag)) (inl (_, tag, refl)) (c.in_ok-next.ensures.leads.apart c.if-next-end.true) (inr is)
    c.in_ok-next.ensures.leads.to (no_anchor cs handles _ is none)) (name_refused _ c.in_err-name.ensures.refused))

pub returns-in-Some-clause-stand : goal.returns-in-Some-clause-stand
returns-in-Some-clause-stand c =
    let cs = text_of c.args.source.now in
    let handles = handles_of c.args.handles in
    let name = cow_str_bytes c.in_ok-name.name in
    record {
      border = c.in_ok-name.ensures.border;
      onward = omega (arith, c.in_ok-tag.ensures.onward, c.in_ok-next.ensures.leads.onward, c.in_ok-name.ensures.onward);
      own = inr (subst (SomeProperties cs handles c.args.least (context_of c.args.context) _ _) (sym c.in_ok-hold.ensures.ok)
          (named cs handles c.args.least (context_of c.args.context) _ _ name (written_of c.in_ok-tag.tag) c.in_ok-name.ensures.utf8
          (tag_then cs handles c.args.least (context_of c.args.context) _ _ _ _ (written_of c.in_ok-tag.tag) (chars name)
          (tag_read cs handles _ _ _ c.in_ok-tag.ensures.only.is) (c.in_ok-next.ensures.leads.apart c.if-next-end.true) (anchor_read cs handles _ _ _ c.in-Some.ensures.some.is c.in_ok-name.ensures.only.is))));
      all = subst (AllProperties cs handles c.args.least (context_of c.args.context) _ _) (sym c.in_ok-hold.ensures.ok) (all_both cs handles c.args.least (context_of c.args.context) _ _ _ _ (tag_is cs handles _ _ _ (tag_read cs handles _ _ _ c.in_ok-tag.ensures.only.is)));
    }

pub returns-clause-stand : goal.returns-clause-stand
returns-clause-stand c =
    let s = c.args.source.now in
    let cs = text_of c.args.source.now in
    let handles = handles_of c.args.handles in
    let tag = tag_read cs handles _ _ _ c.in_ok-tag.ensures.only.is in
    record {
      border = c.in_ok-tag.ensures.border;
      onward = omega (arith, c.in_ok-tag.ensures.onward);
      own = inr (subst (SomeProperties cs handles c.args.least (context_of c.args.context) _ _) (sym c.in_ok-hold-2.ensures.ok) (tag_alone (written_of c.in_ok-tag.tag) tag (tag_is cs handles _ _ _ tag) refl));
      all = subst (AllProperties cs handles c.args.least (context_of c.args.context) _ _) (sym c.in_ok-hold-2.ensures.ok) (all_one cs handles c.args.least (context_of c.args.context) _ _ (place_of s c.in_ok-next.next) (tag_props (written_of c.in_ok-tag.tag)) _ (inl (_, tag, refl))
          (λ h. subst HasTag (ap Props.tag h) (tag_is cs handles _ _ _ tag)) c.in_ok-next.ensures.leads.to
          (elim c.if-next-end.branch [
            | then-next-end+in_default w ↦ inr (tag_alike cs _ _ c.requires.sign w.in_default.ensures.none)
            | else-next-end w ↦ inl (let e : c.in_ok-next.next ≡ c.in_ok-tag.end = omega (arith, w.if-next-end.false, c.in_ok-next.ensures.leads.onward) in ap (place_of s) e)
          ]));
    }
