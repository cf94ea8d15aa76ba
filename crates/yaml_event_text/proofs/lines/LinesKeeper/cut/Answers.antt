use Rattle.std.proofs.Common.{refl, ap, ◌∙◌}
use Rattle.std.specs.String.{string_bytes}
use Rattle.yaml_event_text.proofs.LineLaws.{lines_cut, lines_lost}
use Rattle.yaml_event_text.proofs.lines.LinesKeeper.cut.Goals.{then-is_char_boundary, else-is_char_boundary}
use Rattle.yaml_event_text.proofs.lines.LinesKeeper.cut.Goals as goal

pub returns : goal.returns
returns c =
    elim c.if-is_char_boundary.branch [
      | then-is_char_boundary w ↦
          lines_cut c.args.self.now c.if-is_char_boundary.self _ c.args.start c.offset-at.result c.offset-at.ensures (ap (λ v. string_bytes v.text) w.self-is ∙ w.truncate.ensures.bytes) (ap (λ v. v.starts) w.self-is)
          (ap (λ v. v.failed) w.self-is) refl c.truncate-2.ensures.items refl
      | else-is_char_boundary w ↦
          lines_lost c.args.self.now c.if-is_char_boundary.self _ c.args.start (ap (λ v. v.starts) w.self-is) (ap (λ v. v.failed) w.self-is) c.truncate-2.ensures.items refl
    ]
