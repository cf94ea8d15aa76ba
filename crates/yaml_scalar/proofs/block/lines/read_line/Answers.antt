use Rattle.std.proofs.Common.{◌≡◌, ◌<◌, ◌≤◌, ℕ, Bool, true, false, nat_lt, [], ◌∷◌, ap, arith, inl, refl, ◌∙◌, subst}
use Rattle.std.specs.Prelude.{slice_range}
use Rattle.yaml_definitions.specs.grammar.BlockScalars.{content_line, text_line}
use Rattle.std.proofs.lemmas.Str.{IsUtf8-had}
use Rattle.yaml_text.specs.Source.{text_of, place_of}
use Rattle.yaml_text.proofs.PlaceLemmas.{place_same}
use Rattle.yaml_text.proofs.LineRuns.{after_uncut, spaces_uncut, indent_run, line_end_after, nb_here}
use Rattle.yaml_text.proofs.Breaks.{starts_line}
use Rattle.yaml_text.proofs.Tests.{on_true_at, on_false_at}
use Rattle.yaml_scalar.proofs.StartLemmas.{Reads, no_space_at, empty_is, over_mark, over_less, over_end, text_is}
use Rattle.yaml_scalar.proofs.block.lines.read_line.Goals as goal

ended_is : (b : Bool) (m n : ℕ) → (b ≡ true → m < n) → (b ≡ false → n ≤ m) → b ≡ nat_lt m n
ended_is true m n f g = let l : m < n = f refl in grind (arith, l)
ended_is false m n f g = let l : n ≤ m = g refl in grind (arith, l)

pub rest_of_line-to-requires : goal.rest_of_line-to-requires
rest_of_line-to-requires c =
    let cs = text_of c.args.source.now in
    let s = c.read_spaces-count.ensures in
    record { border = s.border; uncut = spaces_uncut cs _ _ (indent_run cs _ _ _ s.spaces) (after_uncut cs _ c.requires.after) }

pub returns-then-stands_mark : goal.returns-then-stands_mark
returns-then-stands_mark c = record {
  border = c.requires.border;
  onward = omega arith;
  over = over_mark (text_of c.args.source.now) _ _ (on_true_at c.stands_mark.result c.if-stands_mark.true c.stands_mark.ensures.yes);
}

pub returns-in-Some : goal.returns-in-Some
returns-in-Some c =
    let cs = text_of c.args.source.now in
    let s = c.read_spaces-count.ensures in
    let b = c.in-Some.ensures in
    record {
      border = b.border;
      forward = omega (arith, s.onward, b.onward);
      after = inl (starts_line cs _ _ b.some);
      line = empty_is cs _ _ _ _ _ s.spaces s.within (after_uncut cs _ c.requires.after) b.some;
    }

pub returns-in-None-next : goal.returns-in-None-next
returns-in-None-next c =
    let s = c.read_spaces-count.ensures in
    record {
      border = s.border;
      onward = s.onward;
      over = over_end (text_of c.args.source.now) _ _ _ _ s.spaces s.within c.in-None-next.ensures.end;
    }

pub returns-then-count-indent : goal.returns-then-count-indent
returns-then-count-indent c =
    let cs = text_of c.args.source.now in
    let s = c.read_spaces-count.ensures in
    record {
      border = c.requires.border;
      onward = omega arith;
      over = over_less cs _ _ _ _ s.spaces c.if-count-indent.true (no_space_at cs _ _ c.in-Some-next.ensures.some.is (s.furthest c.if-count-indent.true) c.in-None.ensures.none)
          (on_false_at c.stands_mark.result c.if-stands_mark.false c.stands_mark.ensures.no);
    }

pub returns-else-count-indent : goal.returns-else-count-indent
returns-else-count-indent c =
    let cs = text_of c.args.source.now in
    let s = c.read_spaces-count.ensures in
    let r = c.rest_of_line-to.ensures in
    let t : Reads cs c.args.indent (place_of c.args.source.now c.args.at) (place_of c.args.source.now c.read_spaces-count.result.1) (place_of c.args.source.now c.rest_of_line-to.result.0) (place_of c.args.source.now c.rest_of_line-to.result.1) =
    text_is cs _ _ _ _ _ _ s.spaces (omega (arith, s.within, c.if-count-indent.false)) (on_false_at c.stands_mark.result c.if-stands_mark.false c.stands_mark.ensures.no)
    (nb_here cs _ _ c.in-Some-next.ensures.some.is c.in-None.ensures.none) r.chars r.end in
    let apart : c.read_spaces-count.result.1 ≡ c.rest_of_line-to.result.0 → ⊥ = λ e. (let p = ap (place_of c.args.source.now) e in let q = t.some in omega (arith, p, q)) in
    let broken : t.ended ≡ true → c.rest_of_line-to.result.0 < c.rest_of_line-to.result.1 = λ e.
    (let q = t.broken e in let none : c.rest_of_line-to.result.0 ≡ c.rest_of_line-to.result.1 → ⊥ = λ f. (let p = ap (place_of c.args.source.now) f in omega (arith, p, q)) in omega (arith, r.further, none)) in
    let same : t.ended ≡ false → c.rest_of_line-to.result.1 ≡ c.rest_of_line-to.result.0 = λ e. place_same c.args.source.now.text.now _ _ (IsUtf8-had c.args.source.now.text.now c.args.source.now.utf8) r.after r.border (t.last e).0 in
    let is : t.ended ≡ nat_lt c.rest_of_line-to.result.0 c.rest_of_line-to.result.1 = ended_is t.ended _ _ broken (λ e. (let q = same e in omega (arith, q))) in
    record {
      begin = s.border;
      stop = r.border;
      border = r.after;
      forward = omega (arith, s.onward, r.onward, r.further, apart);
      onward = r.onward;
      after = line_end_after cs _ _ r.end;
      some = t.some;
      begins = nb_here cs _ _ c.in-Some-next.ensures.some.is c.in-None.ensures.none;
      line = subst (λ b. text_line cs true c.args.indent (place_of c.args.source.now c.args.at) (place_of c.args.source.now c.rest_of_line-to.result.1)
          (content_line b (slice_range cs (place_of c.args.source.now c.read_spaces-count.result.1) (place_of c.args.source.now c.rest_of_line-to.result.0)) ∷ [])) is t.line;
      last = λ e. (t.last (is ∙ e)).1;
    }
