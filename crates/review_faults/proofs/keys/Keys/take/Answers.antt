use Rattle.std.proofs.Common.{◌≡◌, take, sym, ◌∙◌, ap}
use Rattle.yaml_text.specs.EventModel.{event_of}
use Rattle.review_faults.specs.Keys.{event_form, key_at, key_of, mapping_at, node_of}
use Rattle.review_faults.specs.Seen.{AreForms}
use Rattle.review_faults.specs.declared.keys.Reader.TheVariants as readers
use Rattle.review_faults.proofs.keys.Keys.take.Goals as goal

pub returns-clause-holds : goal.returns-clause-holds
returns-clause-holds c = λ events at mapping holds.
    let n = c.args.at in
    let forms = c.in_ok-forms.forms in
    let are : AreForms (take n events) (event_of c.args.event.now) forms = c.in_ok-forms.ensures.ok (take n events) holds.names in
    let python : c.key_of.result ≡ key_at readers.Python events n =
    c.key_of.ensures ∙ ap (λ m. key_of m forms.python) mapping ∙ ap (λ f. key_of (mapping_at events n) f.python) are
    ∙ ap (λ z. key_of (mapping_at events n) (event_form readers.Python (node_of (take n events) z))) (sym at) in
    let script : c.key_of-2.result ≡ key_at readers.JavaScript events n =
    c.key_of-2.ensures ∙ ap (λ m. key_of m forms.script) mapping ∙ ap (λ f. key_of (mapping_at events n) f.script) are
    ∙ ap (λ z. key_of (mapping_at events n) (event_form readers.JavaScript (node_of (take n events) z))) (sym at) in
    record {
      names = c.in_ok-keep.ensures.ok events n at are holds.names;
      python = c.in_ok-take.ensures.holds readers.Python events holds.python python;
      script = c.in_ok-take-2.ensures.holds readers.JavaScript events holds.script script;
    }
