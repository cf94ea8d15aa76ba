use Rattle.std.proofs.Common.{[], ◌∷◌, ◌++◌}
use Rattle.yaml_definitions.specs.model.Limits.{open_limit}
use Rattle.yaml_definitions.specs.model.Event.{stream_start, stream_end}
use Rattle.yaml_text.specs.Source.{text_of}
use Rattle.law_one_reading.proofs.Documents.{text_same}
use Rattle.yaml_layout.proofs.AnswerLemmas.{puts_on}
use Rattle.yaml_read.proofs.stream.read_into.Goals as goal

pub returns-clause-ok : goal.returns-clause-ok
returns-clause-ok g c =
    let n = c.in_ok-read_pieces.ensures.ok in
    let es = stream_start ∷ (n.0 ++ (stream_end ∷ [])) in
    let begun = puts_on c.args.out.now c.push.new.self c.read_pieces.new.out (stream_start ∷ []) n.0 c.in_ok-push.ensures.ok n.1 in (
      es,
      puts_on c.args.out.now c.read_pieces.new.out c.push-2.new.self (stream_start ∷ n.0) (stream_end ∷ []) begun c.in_ok-push-2.ensures.ok,
      n.2,
      λ fs r. text_same (text_of c.args.source.now) (Unit {0}) open_limit fs es r n.2,
    )
