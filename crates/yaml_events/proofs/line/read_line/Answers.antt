use Rattle.std.proofs.Common.{Global, ◌≡◌, true, false, ◌∷◌, List, ℕ, sym, ap, ◌∙◌}
use Rattle.std.specs.Prelude.{codes}
use Rattle.std.specs.Option.{option_map}
use Rattle.std.specs.Cow.{cow_str_bytes}
use Rattle.std.proofs.lemmas.Str.{is_utf8-from_IsUtf8}
use Rattle.yaml_text.specs.EventModel.{event_of, written_of, style_of}
use Rattle.yaml_events.specs.Parts.{IsCollection, IsScalarLine, IsLineOf}
use Rattle.yaml_events.proofs.Lines.{collection_seen, scalar_seen, bare_sound, found, sequence_line, mapping_line, scalar_line, alias_line, no_line, sequence_found, mapping_found, scalar_found, alias_found}
use Rattle.yaml_events.proofs.Reading.{passed_on}
use Rattle.yaml_events.proofs.line.read_line.Goals as goal

pub returns-in-Some : goal.returns-in-Some
returns-in-Some c =
    let h = c.in-Some.ensures in
    found c.args.line.now (event_of c.in-Some.event) (bare_sound (event_of c.in-Some.event) h.0, h.1)

pub returns-in_err-flow : goal.returns-in_err-flow
returns-in_err-flow c =
    let line : List ℕ = c.args.line.now in
    let rest : List ℕ = c.in-Some-strip_prefix.rest.now in
    let s = c.in-Some-strip_prefix.ensures.cases in
    passed_on (IsLineOf line) (IsLineOf line) event_of (IsCollection (codes " []") rest) (IsCollection (codes " []") rest) collection_seen
    c.from_residual.result c.in_err-flow.field-0.0 c.from_residual.ensures.1 c.in_err-flow.ensures
    (sequence_line line rest (s.1.1 ∙ ap (λ z. 43 ∷ 83 ∷ 69 ∷ 81 ∷ z) (sym s.2)))

pub returns-in-Some-strip_prefix : goal.returns-in-Some-strip_prefix
returns-in-Some-strip_prefix c =
    let s = c.in-Some-strip_prefix.ensures.cases in
    sequence_found c.args.line.now c.in-Some-strip_prefix.rest.now (s.1.1 ∙ ap (λ z. 43 ∷ 83 ∷ 69 ∷ 81 ∷ z) (sym s.2))
    c.in_ok-flow.flow (option_map (cow_str_bytes {Z = Global}) c.in_ok-flow.anchor) (written_of c.in_ok-flow.tag) c.in_ok-flow.ensures.0

pub returns-in_err-flow-2 : goal.returns-in_err-flow-2
returns-in_err-flow-2 c =
    let line : List ℕ = c.args.line.now in
    let rest : List ℕ = c.in-Some-strip_prefix-2.rest.now in
    let s = c.in-Some-strip_prefix-2.ensures.cases in
    passed_on (IsLineOf line) (IsLineOf line) event_of (IsCollection (codes " {}") rest) (IsCollection (codes " {}") rest) collection_seen
    c.from_residual-in_err-flow-2.result c.in_err-flow-2.field-0.0 c.from_residual-in_err-flow-2.ensures.1 c.in_err-flow-2.ensures
    (mapping_line line rest (s.1.1 ∙ ap (λ z. 43 ∷ 77 ∷ 65 ∷ 80 ∷ z) (sym s.2)))

pub returns-in-Some-strip_prefix-2 : goal.returns-in-Some-strip_prefix-2
returns-in-Some-strip_prefix-2 c =
    let s = c.in-Some-strip_prefix-2.ensures.cases in
    mapping_found c.args.line.now c.in-Some-strip_prefix-2.rest.now (s.1.1 ∙ ap (λ z. 43 ∷ 77 ∷ 65 ∷ 80 ∷ z) (sym s.2))
    c.in_ok-flow-2.flow (option_map (cow_str_bytes {Z = Global}) c.in_ok-flow-2.anchor) (written_of c.in_ok-flow-2.tag) c.in_ok-flow-2.ensures.0

pub returns-in_err-anchor : goal.returns-in_err-anchor
returns-in_err-anchor c =
    let line : List ℕ = c.args.line.now in
    let rest : List ℕ = c.in-Some-strip_prefix-3.rest.now in
    let s = c.in-Some-strip_prefix-3.ensures.cases in
    passed_on (IsLineOf line) (IsLineOf line) event_of (IsScalarLine rest) (IsScalarLine rest) scalar_seen
    c.from_residual-in_err-anchor.result c.in_err-anchor.field-0.0 c.from_residual-in_err-anchor.ensures.1 c.in_err-anchor.ensures.reads
    (scalar_line line rest (s.1.1 ∙ ap (λ z. 61 ∷ 86 ∷ 65 ∷ 76 ∷ z) (sym s.2)))

pub returns-in-Some-strip_prefix-3 : goal.returns-in-Some-strip_prefix-3
returns-in-Some-strip_prefix-3 c =
    let s = c.in-Some-strip_prefix-3.ensures.cases in
    scalar_found c.args.line.now c.in-Some-strip_prefix-3.rest.now (s.1.1 ∙ ap (λ z. 61 ∷ 86 ∷ 65 ∷ 76 ∷ z) (sym s.2))
    (option_map (cow_str_bytes {Z = Global}) c.in_ok-anchor.anchor) (written_of c.in_ok-anchor.tag) (style_of c.in_ok-anchor.style) (cow_str_bytes {Z = Global} c.in_ok-anchor.text)
    (is_utf8-from_IsUtf8 (cow_str_bytes {Z = Global} c.in_ok-anchor.text) c.in_ok-anchor.ensures.utf8) c.in_ok-anchor.ensures.reads.0

pub returns-in_default-strip_prefix-4 : goal.returns-in_default-strip_prefix-4
returns-in_default-strip_prefix-4 c =
    no_line c.args.line.now c.in_default.ensures c.in_default-strip_prefix.ensures.cases c.in_default-strip_prefix-2.ensures.cases c.in_default-strip_prefix-3.ensures.cases c.in_default-strip_prefix-4.ensures.cases

pub returns-then-not-is_name : goal.returns-then-not-is_name
returns-then-not-is_name c = λ e k.
    let s = c.in-Some-strip_prefix-4.ensures.cases in
    let n = alias_line c.args.line.now c.in-Some-strip_prefix-4.name.now (s.1.1 ∙ ap (λ z. 61 ∷ 65 ∷ 76 ∷ 73 ∷ 32 ∷ 42 ∷ z) (sym s.2)) e k in
    let q : false ≡ true = c.if-not-is_name.ensures ∙ n in
    absurd (cc)

pub returns : goal.returns
returns c =
    let s = c.in-Some-strip_prefix-4.ensures.cases in
    alias_found c.args.line.now c.in-Some-strip_prefix-4.name.now (s.1.1 ∙ ap (λ z. 61 ∷ 65 ∷ 76 ∷ 73 ∷ 32 ∷ 42 ∷ z) (sym s.2)) (sym c.if-not-is_name.ensures)
