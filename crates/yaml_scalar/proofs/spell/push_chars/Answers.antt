use Rattle.std.proofs.Common.{◌≡◌, ℕ, List, ◌++◌, sym, ap, ◌∙◌, refl}
use Rattle.std.proofs.lemmas.List.{nil_from_length}
use Rattle.std.proofs.lemmas.Result.{IfOk-weaker}
use Rattle.std.specs.String.{string_bytes}
use Rattle.std.specs.Str.Iter.{char_indices_rest, char_indices_offset}
use Rattle.yaml_scalar.proofs.OutcomeLemmas.{if_ok}
use Rattle.yaml_scalar.proofs.SpellingLemmas.{spelling_first, spelling_start, spelling_more, spelling_restarted, spelling_all, grows_none, grows_more, grows_then, grows_result}
use Rattle.yaml_scalar.proofs.spell.push_chars.Goals as goal

pub spell-init : goal.spell-init
spell-init c =
    let text : List ℕ = c.args.text.now in
    let rest : char_indices_rest c.into_iter-at-iterator.result ≡ text = ap char_indices_rest c.into_iter-at-iterator.ensures.into_iter_gives ∙ c.char_indices-at-items.ensures.rest in
    let at : char_indices_offset c.into_iter-at-iterator.result ≡ 0 = ap char_indices_offset c.into_iter-at-iterator.ensures.into_iter_gives ∙ c.char_indices-at-items.ensures.offset in
    record {
      spelling = spelling_first text _ (string_bytes c.args.out.now) _ c.utf8.text rest at;
      grows = grows_none (string_bytes c.args.out.now);
    }

pub range-requires-clause-start_boundary : goal.range-requires-clause-start_boundary
range-requires-clause-start_boundary c = λ _. spelling_start _ _ _ _ _ _ c.spell.invariant.spelling

pub spell-preserved : goal.spell-preserved
spell-preserved c =
    let s = c.in-Some.ensures.steps in
    record {
      spelling = spelling_more _ _ _ _ _ _ _ _ _ c.spell.invariant.spelling s.1 s.2 (sym c.is_verbatim.ensures ∙ c.if-not-is_verbatim.false);
      grows = c.spell.invariant.grows;
    }

pub spell-preserved-then-not-is_verbatim : goal.spell-preserved-then-not-is_verbatim
spell-preserved-then-not-is_verbatim c = record {
  spelling = spelling_restarted _ _ _ _ _ _ _ _ _ _ _ _ _ _ c.spell.invariant.spelling c.in-Some.ensures.steps (rw c.len_utf8.ensures.len refl) c.range.ensures.value c.in_ok-push_str.ensures.bytes c.in_ok-push_escape.ensures.ok;
  grows = grows_then (string_bytes c.args.out.now) _ _ (grows_more _ _ _ _ c.spell.invariant.grows c.in_ok-push_str.ensures.bytes) c.push_escape.ensures.grows;
}

pub range_from-requires : goal.range_from-requires
range_from-requires c = λ _. spelling_start _ _ _ _ _ _ c.spell.invariant.spelling

pub returns-clause-ok : goal.returns-clause-ok
returns-clause-ok c =
    IfOk-weaker c.push_str-2.result _ _
    (λ _ e. spelling_all _ _ _ _ _ _ _ c.spell.invariant.spelling (nil_from_length _ c.in-None.ensures.steps.0) (e ∙ ap (λ x. string_bytes c.spell.out ++ x) c.range_from.ensures.value))
    (if_ok c.push_str-2.result _ _ _ c.push_str-2.ensures.bytes)

pub returns-clause-grows : goal.returns-clause-grows
returns-clause-grows c = grows_result c.push_str-2.result _ _ _ _ c.spell.invariant.grows c.push_str-2.ensures.bytes
