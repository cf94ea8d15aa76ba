use Rattle.std.proofs.Common.{ap, ◌∙◌, ◌++◌}
use Rattle.std.proofs.lemmas.List.{nil_from_length}
use Rattle.std.proofs.lemmas.Str.{IsUtf8-past_char}
use Rattle.std.specs.Char.{encode_utf8}
use Rattle.std.specs.String.{string_bytes}
use Rattle.review_text.proofs.TerminalLaws.{terminal_next, terminal_all}
use Rattle.review_text.proofs.fronts.put_shown.Goals as goal

pub chars-preserved : goal.chars-preserved
chars-preserved c =
    let v = c.chars.invariant in
    let s = c.in-Some.ensures.steps.0 in
    record {
      utf8 = IsUtf8-past_char _ _ c.in-Some.c v.utf8 s;
      put = terminal_next _ _ c.in-Some.c _ _ _ v.utf8 s v.put (c.in_ok-push.ensures.bytes ∙ ap (λ z. string_bytes c.chars.out ++ encode_utf8 z) c.shown.ensures);
    }

pub returns : goal.returns
returns c = record { ok = (terminal_all _ _ _ (nil_from_length _ c.in-None.ensures.steps.0.0) c.chars.invariant.put) }
