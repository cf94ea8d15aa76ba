use Rattle.std.proofs.Common.{◌≡◌, ◌≤◌, ℕ, List, length, Result, Ok, Err, IfOk, string_bytes, sym, subst}
use Rattle.std.specs.Str.{IsUtf8}
use Rattle.std.specs.declared.alloc.AllocError.{AllocError}
use Rattle.review_hints.specs.Hinted.{IsHint}
use Rattle.review_hints.specs.declared.words.Words.{Words}
use Rattle.review_hints.proofs.HintLaws.{line_of_plain}
use Rattle.review_hints.proofs.words.words_of.Goals as goal

of_bytes : (r : Result Words AllocError) (text source : List ℕ) (at : ℕ) → (IsUtf8 text → source ≡ text) → (at ≤ length source → IfOk r (λ words. IsHint source at words.cause (string_bytes words.text))) → IfOk r (λ words. IsUtf8 text → at ≤ length text → IsHint text at words.cause (string_bytes words.text))
of_bytes (Ok words) text source at is hint =
    λ utf8 within. subst (λ z. IsHint z at words.cause (string_bytes words.text)) (is utf8) (hint (subst (λ z. at ≤ length z) (sym (is utf8)) within))
of_bytes (Err fault) text source at is hint = tt

pub returns-in-Syntax-clause-hint : goal.returns-in-Syntax-clause-hint
returns-in-Syntax-clause-hint c = of_bytes c.syntax_words.result c.args.text.now c.source_of-source.result.now c.args.at c.source_of-source.ensures c.syntax_words.ensures.hint

pub returns : goal.returns
returns c =
    let plain = c.plain_words-words.ensures.plain in
    record {
      line = rw c.in_ok-to_string.ensures.ok (line_of_plain c.plain_words-words.result.now plain);
      limit = rw c.in_ok-to_string.ensures.ok c.plain_words-words.ensures.limit;
      hint = λ utf8 within. rw c.in_ok-to_string.ensures.ok plain;
    }
