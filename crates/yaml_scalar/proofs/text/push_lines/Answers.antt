use Rattle.std.proofs.Common.{◌++◌, ◌∷◌, [], replicate, ◌∙◌, sym, ap, append_assoc, rules}
use Rattle.std.specs.Str.{chars}
use Rattle.std.specs.String.{string_bytes}
use Rattle.std.proofs.lemmas.Str.{IsUtf8-string_bytes}
use Rattle.std.proofs.lemmas.List.{append-nil}
use Rattle.yaml_text.proofs.PlaceLemmas.{chars_pushed}
use Rattle.yaml_scalar.proofs.OutcomeLemmas.{replicate_snoc}
use Rattle.yaml_scalar.proofs.text.push_lines.Goals as goal

pub loop-done-init : goal.loop-done-init
loop-done-init c = sym (append-nil (chars (string_bytes c.args.text.now)))

pub loop-done-preserved : goal.loop-done-preserved
loop-done-preserved c =
    let old = chars (string_bytes c.args.text.now) in
    chars_pushed (string_bytes c.loop-done.text) _ 10 (IsUtf8-string_bytes c.loop-done.text) (search rules) c.in_ok-push.ensures.bytes
    ∙ ap (λ v. v ++ 10 ∷ []) c.loop-done.invariant ∙ append_assoc old (replicate c.loop-done.done 10) (10 ∷ []) ∙ ap (λ v. old ++ v) (sym (replicate_snoc c.loop-done.done 10))
