use Rattle.std.proofs.Common.{◌≡◌, ◌+◌, true, false, ℕ, ◌<◌, ◌≤◌, sym, subst, ◌∙◌, ap, inr, arith}
use Rattle.std.proofs.lemmas.Str.{IsUtf8-had}
use Rattle.yaml_text.specs.declared.chars.Chars.{Chars}
use Rattle.yaml_text.specs.Source.{text_of, place_of, IsBorder}
use Rattle.yaml_text.specs.EventModel.{context_of}
use Rattle.yaml_text.proofs.PlaceLemmas.{place_less}
use Rattle.yaml_text.proofs.LineRuns.{indent_run, indent_place}
use Rattle.yaml_definitions.specs.grammar.Separation.{Ctx, block_out, block_in, flow_out, flow_in, block_key, flow_key, s-separate as separate, s-l-comments as s_l_comments}
use Rattle.yaml_text.specs.Lines.{is_key}
use Rattle.yaml_layout.specs.Lines.{IsLine}
use Rattle.yaml_layout.specs.declared.line.Line.{Line}
use Rattle.law_going_on.proofs.Separations.{IsKey, Spaces, separate_in_key, separate_on_line, separate_on_next, separate_short, separate_no_mark, separate_no_end, way_on_line, way_on_next}
use Rattle.yaml_layout.proofs.LineLemmas.{lines_apart, spaces_apart, spaces_maybe, comments_after, dashes_mark}
use Rattle.yaml_layout.proofs.SpaceLemmas.{lines_separate}
use Rattle.yaml_layout.proofs.line.separation.Goals as goal

less : (s : Chars) (a b : ℕ) → IsBorder s a → IsBorder s b → a < b → place_of s a < place_of s b
less s a b p q l = place_less s.text.now a b (IsUtf8-had s.text.now s.utf8) p q l

below_is : (s : Chars) (c0 : Ctx) (n at start : ℕ) (line : Line) → is_key c0 ≡ false → s_l_comments (text_of s) (place_of s at) (place_of s start) → line.start ≡ start → IsLine s line → n ≤ line.column →
    separate (text_of s) n c0 (place_of s at) (place_of s line.first)
below_is s c0 n at start line k comments e is le =
    lines_apart (text_of s) n c0 _ _ k (lines_separate (text_of s) n line.column _ _ _ le (subst (λ x. s_l_comments (text_of s) (place_of s at) (place_of s x)) (sym e) comments) is.spaces)

key_is : (c0 : Ctx) → is_key c0 ≡ true → IsKey c0
key_is block_key t = tt
key_is flow_key t = tt
key_is block_out t = let h : false ≡ true = t in cc
key_is block_in t = let h : false ≡ true = t in cc
key_is flow_out t = let h : false ≡ true = t in cc
key_is flow_in t = let h : false ≡ true = t in cc

line_spaces : (s : Chars) (line : Line) → IsLine s line → Spaces (text_of s) (place_of s line.start) (place_of s line.first)
line_spaces s line is = (indent_run (text_of s) line.column _ _ is.spaces, is.all)

comments_to : (s : Chars) (at start : ℕ) (line : Line) → line.start ≡ start → s_l_comments (text_of s) (place_of s at) (place_of s start) → s_l_comments (text_of s) (place_of s at) (place_of s line.start)
comments_to s at start line e comments = subst (λ x. s_l_comments (text_of s) (place_of s at) (place_of s x)) (sym e) comments

pub returns-then-is_key-clause-leads : goal.returns-then-is_key-clause-leads
returns-then-is_key-clause-leads c =
    let cs = text_of c.args.source.now in
    let n = c.args.least in
    let x = context_of c.args.context in
    let s = c.skip_spaces-end.ensures in
    let key = sym c.is_key.ensures ∙ c.if-is_key.true in
    let spaces = indent_run cs _ _ _ s.spaces in
    record {
      border = s.border;
      onward = s.onward;
      separate = spaces_maybe cs n x _ _ spaces;
      apart = λ l. spaces_apart cs n x _ _ spaces (less c.args.source.now _ _ c.requires s.border l);
      to = separate_in_key cs n x (key_is _ key) _ _ (spaces, s.furthest);
      way = λ h q w. let e : false ≡ true = sym (ap is_key h) ∙ key in cc;
    }

pub returns-in-None-clause-leads : goal.returns-in-None-clause-leads
returns-in-None-clause-leads c =
    let cs = text_of c.args.source.now in
    let n = c.args.least in
    let x = context_of c.args.context in
    let s = c.skip_spaces-end-in-None.ensures in
    let spaces = indent_run cs _ _ _ s.spaces in
    record {
      border = s.border;
      onward = s.onward;
      separate = spaces_maybe cs n x _ _ spaces;
      apart = λ l. spaces_apart cs n x _ _ spaces (less c.args.source.now _ _ c.requires s.border l);
      to = separate_on_line cs n x _ _ c.in-None.ensures.none (spaces, s.furthest);
      way = λ h. way_on_line cs _ _ c.in-None.ensures.none (spaces, s.furthest);
    }

pub returns-else-is_end-clause-leads : goal.returns-else-is_end-clause-leads
returns-else-is_end-clause-leads c =
    let s = c.args.source.now in
    let n = c.args.least in
    let x = context_of c.args.context in
    let line = c.line_at-line.result in
    let is = c.line_at-line.ensures.line in
    let start = c.line_at-line.ensures.start in
    let comments = comments_to s c.args.at c.in-Some.start line start c.in-Some.ensures.some in
    let apart = below_is s x n c.args.at c.in-Some.start line (sym c.is_key.ensures ∙ c.if-is_key.false) c.in-Some.ensures.some start is c.if-line-least.false in
    record {
      border = is.first;
      onward = omega (arith, c.in-Some.ensures.onward, start, is.wide);
      separate = inr apart;
      apart = λ l. apart;
      to = separate_on_next (text_of s) n x _ _ _ comments is.stuck (line_spaces s line is);
      way = λ h. way_on_next (text_of s) _ _ _ comments is.stuck (line_spaces s line is);
    }

pub returns-then-is_mark-clause-none : goal.returns-then-is_mark-clause-none
returns-then-is_mark-clause-none c = λ o.
    let cs = text_of c.args.source.now in
    let lines = c.in-Some.ensures.some in
    separate_no_mark cs c.args.least (context_of c.args.context) _ _ lines (dashes_mark cs _ (comments_after cs _ _ lines) c.if-is_mark.ensures.yes)

pub returns-then-line-least-clause-none : goal.returns-then-line-least-clause-none
returns-then-line-least-clause-none c = λ o q r f.
    let cs = text_of c.args.source.now in
    let s = c.args.source.now in
    let line = c.line_at-line.result in
    let is = c.line_at-line.ensures.line in
    let e : place_of s line.first ≡ place_of s line.start + line.column = indent_place cs line.column _ _ is.spaces in
    separate_short cs c.args.least (context_of c.args.context) _ _ _ o (comments_to s c.args.at c.in-Some.start line c.line_at-line.ensures.start c.in-Some.ensures.some) is.stuck (line_spaces s line is)
    (omega (arith, e, c.if-line-least.true)) q r f.0

pub returns-then-is_end-clause-none : goal.returns-then-is_end-clause-none
returns-then-is_end-clause-none c = λ o q r f.
    let cs = text_of c.args.source.now in
    let s = c.args.source.now in
    let line = c.line_at-line.result in
    let is = c.line_at-line.ensures.line in
    separate_no_end cs c.args.least (context_of c.args.context) _ _ _ (comments_to s c.args.at c.in-Some.start line c.line_at-line.ensures.start c.in-Some.ensures.some) is.stuck (line_spaces s line is)
    c.if-is_end.ensures.yes q r f.0
