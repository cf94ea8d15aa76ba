use Rattle.std.proofs.Common.{◌≡◌, ◌++◌, false, ap, sym, ◌∙◌}
use Rattle.std.specs.Prelude.{◌==◌}
use Rattle.std.specs.List.{list_any}
use Rattle.yaml_mark.specs.PrefixModel.{bytes_of}
use Rattle.yaml_mark.proofs.DecodeLemmas.{same_decode, if_ok}
use Rattle.yaml_mark.proofs.HandleLemmas.{no_escape}
use Rattle.yaml_mark.proofs.decode.join.Goals as goal

pub returns-then-not-contains-clause-ok : goal.returns-then-not-contains-clause-ok
returns-then-not-contains-clause-ok c =
    let none : list_any (λ b. b == 37) c.args.suffix.now ≡ false = ap (list_any (λ b. b == 37)) (sym c.as_bytes.ensures.value) ∙ sym c.contains.ensures.value ∙ c.if-not-contains.true in
    if_ok c.glue.result (λ tag f text e. f text (e ∙ (λ z. ap bytes_of c.in-Text.is z ++ no_escape c.args.suffix.now none z))) c.glue.ensures.ok

pub returns-in-Ok-clause-ok : goal.returns-in-Ok-clause-ok
returns-in-Ok-clause-ok c =
    let back = c.as_str.ensures.value ∙ c.in-Ok.ensures.value ∙ c.percent_decode_str.ensures.bytes ∙ same_decode c.args.suffix.now in
    if_ok c.glue-in-Ok.result (λ tag f text e. f text (e ∙ (λ z. ap bytes_of c.in-Text.is z ++ sym back z))) c.glue-in-Ok.ensures.ok
