use Rattle.std.proofs.Common.{◌≡◌, List, ℕ, ◌++◌, string_bytes, sym, subst}
use Rattle.yaml_text.specs.declared.fault.Fault.{Fault}
use Rattle.review_text.specs.declared.options.Form.{Form}
use Rattle.review_text.specs.declared.options.Form.TheVariants as form
use Rattle.review_faults.specs.FaultLines.{HasTold, IsTold, TellsFault}
use Rattle.review_faults.specs.declared.spots.Told.{Told}
use Rattle.review_faults.proofs.faults.put_fault.Goals as goal

in_form : (name bytes : List ℕ) (fault : Fault) (asked own : Form) (told : Told) (before after : List ℕ) → asked ≡ own → IsTold bytes fault told
    → (text : List ℕ) × (after ≡ before ++ text) × HasTold own name bytes fault told text → (text : List ℕ) × (after ≡ before ++ text) × TellsFault asked name bytes fault text
in_form name bytes fault asked own told before after is known (text, e, has) =
    (text, e, record { told = told; is_told = known; has = subst (λ f. HasTold f name bytes fault told text) (sym is) has })

pub returns-in-Line-clause-ok : goal.returns-in-Line-clause-ok
returns-in-Line-clause-ok c =
    in_form c.args.name.now c.args.bytes.now c.args.fault c.args.form form.Line c.in_ok-told.told (string_bytes c.args.out.now) (string_bytes c.put_lines.new.out) c.in-Line.is c.in_ok-told.ensures.ok c.in_ok-put_lines-in-Line.ensures.ok

pub returns-clause-ok : goal.returns-clause-ok
returns-clause-ok c =
    in_form c.args.name.now c.args.bytes.now c.args.fault c.args.form form.Json c.in_ok-told.told (string_bytes c.args.out.now) (string_bytes c.put_json.new.out) c.in-Json.is c.in_ok-told.ensures.ok c.in_ok-put_json-in-Json.ensures.ok
