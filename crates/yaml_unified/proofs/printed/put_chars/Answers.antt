use Rattle.std.proofs.lemmas.List.{nil_from_length}
use Rattle.std.proofs.lemmas.Str.{IsUtf8-past_char}
use Rattle.yaml_unified.proofs.PieceLaws.{line_next, line_all}
use Rattle.yaml_unified.proofs.printed.put_chars.Goals as goal

pub chars-preserved : goal.chars-preserved
chars-preserved c =
    let v = c.chars.invariant in
    let s = c.in-Some.ensures.steps.0 in
    record {
      utf8 = IsUtf8-past_char _ _ c.in-Some.c v.utf8 s;
      put = line_next _ _ _ c.in-Some.c _ _ _ v.utf8 s v.put c.in_ok-put_char.ensures.ok;
    }

pub returns : goal.returns
returns c = record { ok = (line_all _ _ _ _ (nil_from_length _ c.in-None.ensures.steps.0.0) c.chars.invariant.put) }
