use Rattle.std.proofs.Common.{◌≡◌, ◌<◌, ℕ, ◌++◌, Some, ap, sym, ◌∙◌, subst, arith}
use Rattle.std.specs.Prelude.{slice_get}
use Rattle.std.proofs.lemmas.Str.{IsUtf8-had}
use Rattle.std.specs.Option.{option_map}
use Rattle.std.specs.Cow.{cow_str_bytes}
use Rattle.yaml_definitions.specs.model.Event.{full}
use Rattle.yaml_text.specs.declared.chars.Chars.{Chars}
use Rattle.yaml_text.specs.Source.{text_of, place_of, IsBorder}
use Rattle.yaml_definitions.specs.grammar.Characters.{is_tag}
use Rattle.yaml_definitions.specs.grammar.Tags.{percent_decode, prefix_of}
use Rattle.yaml_text.proofs.PlaceLemmas.{place_less, place_same}
use Rattle.yaml_text.proofs.Tests.{on_true_at, on_false_at}
use Rattle.yaml_mark.specs.HandlesModel.{handles_of}
use Rattle.yaml_mark.specs.Parts.{handle_rest}
use Rattle.yaml_mark.specs.PrefixModel.{bytes_of}
use Rattle.yaml_mark.specs.Prefixes.{StandFor}
use Rattle.yaml_mark.proofs.HandleLemmas.{no_stand}
use Rattle.yaml_mark.proofs.AsciiLemmas.{low_spans, low_handle, ascii_text, shorthand_is, tag_low}
use Rattle.yaml_mark.proofs.TagLemmas.{spans_map, tag_is, is_tag_char, joined_is, no_prefix, no_short_end, no_suffix, no_join, alone_only, short_only}
use Rattle.yaml_mark.proofs.tag.read_shorthand.Goals as goal

-- other offsets stand for other places
apart : (s : Chars) (a b i : ℕ) → IsBorder s a → IsBorder s b → place_of s b ≡ i → (a ≡ b → ⊥) → place_of s a ≡ i → ⊥
apart s a b i p q e n f = n (place_same s.text.now a b (IsUtf8-had s.text.now s.utf8) p q (f ∙ sym e))

pub returns-in-None-clause-refused : goal.returns-in-None-clause-refused
returns-in-None-clause-refused c =
    let cs = text_of c.args.source.now in
    let b = c.requires.bang in
    let h = c.skip_handle-after.ensures.rest in
    let t = ascii_text cs c.text_between.result.now _ _ c.text_between.utf8 c.text_between.ensures (low_handle cs _ _ _ b.0 b.1 h) in
    no_prefix cs (handles_of c.args.handles) _ _ (λ g. c.requires.other (ap (slice_get cs) b.1 ∙ g)) (subst (λ z. handle_rest cs z (place_of c.args.source.now c.skip_handle-after.result)) b.1 h)
    (ap (prefix_of (handles_of c.args.handles)) (sym t) ∙ no_stand _ c.in-None.ensures)

pub returns-then-stands-clause-refused : goal.returns-then-stands-clause-refused
returns-then-stands-clause-refused c =
    let cs = text_of c.args.source.now in
    let b = c.requires.bang in
    let e = c.skip_escaped-end.ensures in
    no_short_end cs (handles_of c.args.handles) _ _ _ (λ g. c.requires.other (ap (slice_get cs) b.1 ∙ g))
    (subst (λ z. handle_rest cs z (place_of c.args.source.now c.skip_handle-after.result)) b.1 c.skip_handle-after.ensures.rest)
    (spans_map (tag_is cs) e.spans) (λ m r. e.furthest m (is_tag_char cs _ m r)) (on_true_at c.stands.result c.if-stands.true c.stands.ensures.yes)

pub returns-then-end-first-clause-only : goal.returns-then-end-first-clause-only
returns-then-end-first-clause-only c =
    let cs = text_of c.args.source.now in
    let b = c.requires.bang in
    let e = c.skip_escaped-end.ensures in
    alone_only cs (handles_of c.args.handles) _ _ _ (λ g. c.requires.other (ap (slice_get cs) b.1 ∙ g))
    (subst (λ z. handle_rest cs z (place_of c.args.source.now c.skip_handle-after.result)) b.1 c.skip_handle-after.ensures.rest)
    (spans_map (tag_is cs) e.spans) (λ m r. e.furthest m (is_tag_char cs _ m r)) b.0 (ap (place_of c.args.source.now) c.if-end-first.true ∙ b.1) (on_false_at c.stands.result c.if-stands.false c.stands.ensures.no)

pub returns-then-end-after-clause-refused : goal.returns-then-end-after-clause-refused
returns-then-end-after-clause-refused c =
    let cs = text_of c.args.source.now in
    let b = c.requires.bang in
    let e = c.skip_escaped-end.ensures in
    no_suffix cs (handles_of c.args.handles) _ _ _ (λ g. c.requires.other (ap (slice_get cs) b.1 ∙ g))
    (subst (λ z. handle_rest cs z (place_of c.args.source.now c.skip_handle-after.result)) b.1 c.skip_handle-after.ensures.rest)
    (spans_map (tag_is cs) e.spans) (λ m r. e.furthest m (is_tag_char cs _ m r)) (ap (place_of c.args.source.now) c.if-end-after.true)
    (apart c.args.source.now _ _ _ e.border c.requires.first b.1 c.if-end-first.false)

pub returns-in-None-2-clause-refused : goal.returns-in-None-2-clause-refused
returns-in-None-2-clause-refused c =
    let cs = text_of c.args.source.now in
    let b = c.requires.bang in
    let e = c.skip_escaped-end.ensures in
    let h = c.skip_handle-after.ensures.rest in
    let t = ascii_text cs c.text_between.result.now _ _ c.text_between.utf8 c.text_between.ensures (low_handle cs _ _ _ b.0 b.1 h) in
    let u = ascii_text cs c.text_between-suffix.result.now _ _ c.text_between-suffix.utf8 c.text_between-suffix.ensures (low_spans cs is_tag tag_low e.spans) in
    no_join cs (handles_of c.args.handles) _ _ _ (λ g. c.requires.other (ap (slice_get cs) b.1 ∙ g))
    (subst (λ z. handle_rest cs z (place_of c.args.source.now c.skip_handle-after.result)) b.1 h)
    (spans_map (tag_is cs) e.spans) (λ m r. e.furthest m (is_tag_char cs _ m r))
    (joined_is (handles_of c.args.handles) _ (bytes_of c.in-Some.prefix) _ _ (subst (λ z. StandFor (Some (bytes_of c.in-Some.prefix)) (prefix_of (handles_of c.args.handles) z)) t c.in-Some.ensures)
    (λ text e. sym (ap (option_map (λ x. full (cow_str_bytes x))) c.in-None-2.is) ∙ c.in_ok-expand.ensures.ok text (e ∙ ap (λ z. bytes_of c.in-Some.prefix ++ percent_decode z) (sym u))))
    (apart c.args.source.now _ _ _ e.border c.requires.first b.1 c.if-end-first.false)

pub returns-in-Some-2-clause-only : goal.returns-in-Some-2-clause-only
returns-in-Some-2-clause-only c =
    let cs = text_of c.args.source.now in
    let b = c.requires.bang in
    let e = c.skip_escaped-end.ensures in
    let h = c.skip_handle-after.ensures.rest in
    let t = ascii_text cs c.text_between.result.now _ _ c.text_between.utf8 c.text_between.ensures (low_handle cs _ _ _ b.0 b.1 h) in
    let u = ascii_text cs c.text_between-suffix.result.now _ _ c.text_between-suffix.utf8 c.text_between-suffix.ensures (low_spans cs is_tag tag_low e.spans) in
    let l : place_of c.args.source.now c.skip_handle-after.result < place_of c.args.source.now c.skip_escaped-end.result =
    place_less _ _ _ (IsUtf8-had c.args.source.now.text.now c.args.source.now.utf8) c.skip_handle-after.ensures.border e.border (omega (arith, e.onward, c.if-end-after.false)) in
    short_only cs (handles_of c.args.handles) _ _ _ (λ g. c.requires.other (ap (slice_get cs) b.1 ∙ g))
    (subst (λ z. handle_rest cs z (place_of c.args.source.now c.skip_handle-after.result)) b.1 h)
    (spans_map (tag_is cs) e.spans) (λ m r. e.furthest m (is_tag_char cs _ m r)) _ b.0 l
    (joined_is (handles_of c.args.handles) _ (bytes_of c.in-Some.prefix) _ _ (subst (λ z. StandFor (Some (bytes_of c.in-Some.prefix)) (prefix_of (handles_of c.args.handles) z)) t c.in-Some.ensures)
    (λ text e. sym (ap (option_map (λ x. full (cow_str_bytes x))) c.in-Some-2.is) ∙ c.in_ok-expand.ensures.ok text (e ∙ ap (λ z. bytes_of c.in-Some.prefix ++ percent_decode z) (sym u))))
    (on_false_at c.stands.result c.if-stands.false c.stands.ensures.no)

pub expand-requires : goal.expand-requires
expand-requires c =
    let cs = text_of c.args.source.now in
    let b = c.requires.bang in
    let low = low_spans cs is_tag tag_low c.skip_escaped-end.ensures.spans in
    let v = ascii_text cs c.text_between-suffix.result.now _ _ c.text_between-suffix.utf8 c.text_between-suffix.ensures low in
    shorthand_is cs c.text_between-2.result.now _ _ _ _ _ c.text_between-2.utf8 c.text_between-2.ensures b.0 b.1 c.skip_handle-after.ensures.rest low v
