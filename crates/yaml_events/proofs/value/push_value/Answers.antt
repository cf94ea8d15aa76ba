use Rattle.std.proofs.Common.{refl, ◌≡◌, ◌<◌, ◌≤◌, ◌++◌, ℕ, ◌+◌, ◌-◌, length, List, [], ◌∷◌, arith, ap, ◌∙◌, sym, subst, take, drop, get_or}
use Rattle.std.specs.Str.{IsCharBoundary}
use Rattle.std.proofs.lemmas.Str.{IsCharBoundary-start, IsCharBoundary-after_ascii}
use Rattle.yaml_definitions.specs.model.EventText.{value_byte, value_text}
use Rattle.std.proofs.lemmas.Result.{on_ok_weaker, on_err_weaker}
use Rattle.yaml_events.proofs.Pushes.{at_error}
use Rattle.yaml_events.proofs.Room.{full_within}
use Rattle.yaml_events.proofs.ValueText.{spelled_on, front_ends, spelled_front, spelled_escape, escape_joined, rest_joined, front_within}
use Rattle.yaml_events.proofs.value.push_value.Goals as goal
use Rattle.yaml_events.proofs.value.push_value.Goals.{in-Some+in_ok-put+in_ok-put-2, in_default}

pub spell-init : goal.spell-init
spell-init g c = record { run = omega arith; within = omega arith; border = IsCharBoundary-start c.args.text.now c.utf8.text; spells = refl; kept = omega arith; lent = refl }

pub returns-then-here-bytes-clause-ok : goal.returns-then-here-bytes-clause-ok
returns-then-here-bytes-clause-ok g c =
    let text : List ℕ = c.args.text.now in
    let h = c.spell.invariant in
    let same = c.as_bytes-bytes.ensures.value in
    let here : ℕ = c.spell.at + c.front_len.result in
    let end : here ≡ length text = omega (arith, c.if-here-bytes.true, ap length same) in
    let mid = spelled_front text c.as_bytes-bytes.result.now (g.S.Sink.bytes c.args.out.now) (g.S.Sink.bytes c.spell.out) c.spell.run c.spell.at c.front_len.result same h.run h.within c.front_len.ensures.len (λ k l. c.front_len.ensures.front k l refl) h.spells in
    let joined = ap (λ z. g.S.Sink.bytes c.spell.out ++ z) c.range_from.ensures.value ∙ rest_joined text (g.S.Sink.bytes c.args.out.now) (g.S.Sink.bytes c.spell.out) c.spell.run here end mid in
    on_ok_weaker c.put.result (λ e. e ∙ joined) c.put.ensures.ok

pub returns-then-here-bytes-clause-full : goal.returns-then-here-bytes-clause-full
returns-then-here-bytes-clause-full g c =
    let text : List ℕ = c.args.text.now in
    let h = c.spell.invariant in
    let same = c.as_bytes-bytes.ensures.value in
    let here : ℕ = c.spell.at + c.front_len.result in
    let end : here ≡ length text = omega (arith, c.if-here-bytes.true, ap length same) in
    let mid = spelled_front text c.as_bytes-bytes.result.now (g.S.Sink.bytes c.args.out.now) (g.S.Sink.bytes c.spell.out) c.spell.run c.spell.at c.front_len.result same h.run h.within c.front_len.ensures.len (λ k l. c.front_len.ensures.front k l refl) h.spells in
    let joined = ap (λ z. g.S.Sink.bytes c.spell.out ++ z) c.range_from.ensures.value ∙ rest_joined text (g.S.Sink.bytes c.args.out.now) (g.S.Sink.bytes c.spell.out) c.spell.run here end mid in
    on_err_weaker c.put.result (λ f. full_within (g.S.Sink.room c.args.out.now) (g.S.Sink.room c.spell.out) (g.S.Sink.bytes c.args.out.now) (g.S.Sink.bytes c.spell.out) c.range_from.result.now (value_text text) (value_text text) joined (omega arith) h.kept f) c.put.ensures.full

pub returns-in_err-put-clause-full : goal.returns-in_err-put-clause-full
returns-in_err-put-clause-full g c =
    let text : List ℕ = c.args.text.now in
    let h = c.spell.invariant in
    let here : ℕ = c.spell.at + c.front_len.result in
    let mid = spelled_front text c.as_bytes-bytes.result.now (g.S.Sink.bytes c.args.out.now) (g.S.Sink.bytes c.spell.out) c.spell.run c.spell.at c.front_len.result c.as_bytes-bytes.ensures.value h.run h.within c.front_len.ensures.len (λ k l. c.front_len.ensures.front k l refl) h.spells in
    let joined = ap (λ z. g.S.Sink.bytes c.spell.out ++ z) c.range.ensures.value ∙ mid in
    let lacks : g.S.Sink.room c.args.out.now < length (g.S.Sink.bytes c.args.out.now) + length (value_text text) =
    full_within (g.S.Sink.room c.args.out.now) (g.S.Sink.room c.spell.out) (g.S.Sink.bytes c.args.out.now) (g.S.Sink.bytes c.spell.out) c.range.result.now _ (value_text text) joined (front_within text here) h.kept c.in_err-put.ensures.full in
    at_error c.from_residual.result lacks

pub returns-in_err-put-2-clause-full : goal.returns-in_err-put-2-clause-full
returns-in_err-put-2-clause-full g c =
    let text : List ℕ = c.args.text.now in
    let h = c.spell.invariant in
    let same = c.as_bytes-bytes.ensures.value in
    let here : ℕ = c.spell.at + c.front_len.result in
    let reaches = front_ends text c.as_bytes-bytes.result.now c.spell.at c.front_len.result same h.within c.front_len.ensures.len in
    let within : here < length text = omega (arith, reaches, c.if-here-bytes.false, c.as_bytes-bytes.ensures.len, ap length same) in
    let byte : get_or c.as_bytes-bytes.result.now here 0 ≡ get_or text here 0 = ap (λ xs. get_or xs here 0) same in
    let mid = spelled_front text c.as_bytes-bytes.result.now (g.S.Sink.bytes c.args.out.now) (g.S.Sink.bytes c.spell.out) c.spell.run c.spell.at c.front_len.result same h.run h.within c.front_len.ensures.len (λ k l. c.front_len.ensures.front k l refl) h.spells in
    let joined = escape_joined text (g.S.Sink.bytes c.args.out.now) (g.S.Sink.bytes c.spell.out) c.range.result.now c.in-Some.escape.now (g.S.Sink.bytes c.put-in-Some.new.self) here within (c.in-Some.ensures.0 ∙ ap value_byte byte)
    (ap (λ z. g.S.Sink.bytes c.spell.out ++ z) c.range.ensures.value ∙ mid) c.in_ok-put.ensures.ok in
    let kept : g.S.Sink.room c.args.out.now ≤ g.S.Sink.room c.put-in-Some.new.self = omega (arith, h.kept, c.in_ok-put.ensures.keeps) in
    let lacks : g.S.Sink.room c.args.out.now < length (g.S.Sink.bytes c.args.out.now) + length (value_text text) =
    full_within (g.S.Sink.room c.args.out.now) (g.S.Sink.room c.put-in-Some.new.self) (g.S.Sink.bytes c.args.out.now) (g.S.Sink.bytes c.put-in-Some.new.self) c.in-Some.escape.now _ (value_text text) joined (front_within text (here + 1)) kept c.in_err-put-2.ensures.full in
    at_error c.from_residual-in_err-put-2.result lacks

pub spell-preserved : goal.spell-preserved
spell-preserved g c =
    let text : List ℕ = c.args.text.now in
    let old : List ℕ = g.S.Sink.bytes c.args.out.now in
    let h = c.spell.invariant in
    let list = c.as_bytes-bytes.ensures.value in
    let here : ℕ = c.spell.at + c.front_len.result in
    let reaches = front_ends text c.as_bytes-bytes.result.now c.spell.at c.front_len.result list h.within c.front_len.ensures.len in
    let within : here < length text = omega (arith, reaches, c.if-here-bytes.false, c.as_bytes-bytes.ensures.len, ap length list) in
    let same : get_or c.as_bytes-bytes.result.now here 0 ≡ get_or text here 0 = ap (λ xs. get_or xs here 0) list in
    let reached : c.spell.run ≤ here = omega (arith, h.run) in
    let mid = spelled_front text c.as_bytes-bytes.result.now old (g.S.Sink.bytes c.spell.out) c.spell.run c.spell.at c.front_len.result list h.run h.within c.front_len.ensures.len (λ k l. c.front_len.ensures.front k l refl) h.spells in
    let Goes : List ℕ → ℕ → Type 0 = λ out run. out ++ take (here + 1 - run) (drop run text) ≡ old ++ value_text (take (here + 1) text) in
    elim c.match-escape_of.branch [
      | in-Some+in_ok-put+in_ok-put-2 w ↦
          let s = w.in-Some.ensures in
          record {
            run = omega (arith, w.run-is);
            within = omega (arith, within);
            border = subst (IsCharBoundary text) (sym w.run-is) (IsCharBoundary-after_ascii text here c.utf8.text within (omega (arith, same, s.1)));
            spells = subst (Goes (g.S.Sink.bytes c.match-escape_of.out)) (sym w.run-is) (subst (λ o. Goes (g.S.Sink.bytes o) (here + 1)) (sym w.out-is)
                (spelled_escape text old _ _ _ _ _ c.spell.run here within (s.0 ∙ ap value_byte same) w.range.ensures.value mid w.in_ok-put.ensures.ok w.in_ok-put-2.ensures.ok));
            kept = subst (λ o. g.S.Sink.room c.args.out.now ≤ g.S.Sink.room o) (sym w.out-is) (omega (arith, h.kept, w.in_ok-put.ensures.keeps, w.in_ok-put-2.ensures.keeps));
            lent = subst (λ o. g.S.Sink.lent o ≡ g.S.Sink.lent c.args.out.now) (sym w.out-is) (w.in_ok-put-2.ensures.lent ∙ w.in_ok-put.ensures.lent ∙ h.lent);
          }
      | in_default w ↦
          record {
            run = omega (arith, w.run-is, h.run);
            within = omega (arith, within);
            border = subst (IsCharBoundary text) (sym w.run-is) h.border;
            spells = subst (Goes (g.S.Sink.bytes c.match-escape_of.out)) (sym w.run-is) (subst (λ o. Goes (g.S.Sink.bytes o) c.spell.run) (sym w.out-is)
                (spelled_on text old _ c.spell.run here reached within (subst (λ b. value_byte b ≡ b ∷ []) same w.in_default.ensures) mid));
            kept = subst (λ o. g.S.Sink.room c.args.out.now ≤ g.S.Sink.room o) (sym w.out-is) h.kept;
            lent = subst (λ o. g.S.Sink.lent o ≡ g.S.Sink.lent c.args.out.now) (sym w.out-is) h.lent;
          }
    ]
