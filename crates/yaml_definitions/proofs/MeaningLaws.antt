-- What bytes mean, and the text of what they are read as.
use Rattle.std.proofs.Common.{sym, ◌∙◌, subst}
use Rattle.yaml_definitions.specs.model.EventText.{events_text, EventText}
use Rattle.yaml_definitions.specs.model.Sound.{DocumentsSound}
use Rattle.yaml_definitions.specs.Laws.{ReadingsHaveText, ReadingsAreProper, MeaningIsProper}
use Rattle.yaml_definitions.proofs.FlatLaws.{stream_once}
use Rattle.yaml_definitions.proofs.SoundLaws.{read_is_proper}
use Rattle.yaml_definitions.proofs.EventTextLaws.{sound_events_have_text}
use Rattle.yaml_definitions.proofs.grammar.Documents.{readings_are_documents}

pub readings_have_text : ReadingsHaveText
readings_have_text bytes es r =
    let d = readings_are_documents bytes es r in
    subst (λ z. EventText (events_text z) z) (sym d.1) (sound_events_have_text d.0 d.2)

pub readings_are_proper : ReadingsAreProper
readings_are_proper bytes es f r s =
    let d = readings_are_documents bytes es r in
    let q = stream_once s.documents d.0 (sym s.cut ∙ d.1) in
    read_is_proper s.documents f (subst DocumentsSound (sym q) d.2) s.unfolded

pub meaning_is_proper : MeaningIsProper
meaning_is_proper bytes f m = readings_are_proper bytes m.events f m.reads m.stands
