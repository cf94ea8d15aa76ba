use Rattle.std.proofs.Common.{◌≡◌, ◌<◌, sym, ◌∙◌, ap, refl, arith, length}
use Rattle.std.specs.Prelude.{slice_index_or}
use Rattle.yaml_sink.proofs.DressLemmas.{adds_dressed, adds_bare, adds_nothing}
use Rattle.yaml_sink.proofs.properties.dress.Goals.{else-start-len-via-then-start-len+else-not-stays, else-start-len-via-else-start-len}
use Rattle.yaml_sink.proofs.properties.dress.Goals as goal

pub returns-then-not-stays : goal.returns-then-not-stays
returns-then-not-stays c = λ old es e a.
    let items = c.args.out.now.items in
    let bare = c.replace-bare.result in
    let within : c.args.start < length items = omega (arith, c.if-start-len.true, c.len.ensures, c.args.out.now.ok.0) in
    let was : bare ≡ c.index_mut.result.now = c.replace-bare.ensures.value in
    let is : bare ≡ slice_index_or items c.args.start bare = was ∙ c.index_mut.ensures.value ∙ ap (slice_index_or items c.args.start) (sym was) in
    adds_dressed _ old items _ es c.args.start bare c.replace-bare.new.dest c.with_properties.result e within is c.with_properties.ensures refl a

pub returns-else-start-len : goal.returns-else-start-len
returns-else-start-len c = λ old es e a.
    elim c.else-start-len.branch [
      | else-start-len-via-then-start-len+else-not-stays w ↦ adds_bare _ old c.args.out.now.items es c.args.start w.index.result.now e w.index.ensures w.if-not-stays.ensures a
      | else-start-len-via-else-start-len w ↦ adds_nothing _ old c.args.out.now.items es c.args.start e (λ l. (let s = w.if-start-len.false in absurd (omega (arith, s, c.len.ensures, c.args.out.now.ok.0, l)))) a
    ]
