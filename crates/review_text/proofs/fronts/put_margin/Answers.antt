use Rattle.std.proofs.Common.{ap, ◌∙◌, ◌++◌}
use Rattle.std.proofs.lemmas.List.{nil_from_length}
use Rattle.std.proofs.lemmas.Str.{IsUtf8-past_char}
use Rattle.std.specs.String.{string_bytes}
use Rattle.review_text.specs.Window.{below}
use Rattle.review_text.proofs.TerminalLaws.{margin_next, margin_all}
use Rattle.review_text.proofs.fronts.put_margin.Goals as goal

pub chars-preserved : goal.chars-preserved
chars-preserved c =
    let v = c.chars.invariant in
    let s = c.in-Some.ensures.steps.0 in
    record {
      utf8 = IsUtf8-past_char _ _ c.in-Some.c v.utf8 s;
      put = margin_next _ _ c.in-Some.c _ _ _ v.utf8 s v.put (c.in_ok-push_str.ensures.bytes ∙ ap (λ z. string_bytes c.chars.out ++ z) (c.below.ensures ∙ ap below c.shown.ensures));
    }

pub returns : goal.returns
returns c = record { ok = (margin_all _ _ _ (nil_from_length _ c.in-None.ensures.steps.0.0) c.chars.invariant.put) }
