-- The message of a fault.
use Rattle.std.specs.Prelude.{◌++◌, ℕ, List, [], codes}
use Rattle.std.specs.Fmt.{decimal}
use Rattle.yaml_text.specs.Fault.{fault_number, fault_name}
use Rattle.yaml_text.specs.declared.fault.Fault.{Fault}
use Rattle.yaml_text.specs.declared.fault.Fault.TheVariants.{NotUtf8, NotPrintable, Syntax, Tab, KeyTooLong, TooDeep, BadEscape, BadDirective, UnknownHandle, BadTag, UndefinedAlias, CyclicAlias, WrongKind, BadContent, IntRange, FloatRange, TooHigh, EqualKeys}

-- what follows a fault's name: its place
abbrev pub place_words : Fault → List ℕ
place_words (NotUtf8 at) = codes " at byte " ++ decimal at
place_words (NotPrintable at) = codes " at byte " ++ decimal at
place_words (Syntax at) = codes " at byte " ++ decimal at
place_words (Tab at) = codes " at byte " ++ decimal at
place_words (KeyTooLong at) = codes " at byte " ++ decimal at
place_words (TooDeep at) = codes " at byte " ++ decimal at
place_words (BadEscape at) = codes " at byte " ++ decimal at
place_words (BadDirective at) = codes " at byte " ++ decimal at
place_words (UnknownHandle at) = codes " at byte " ++ decimal at
place_words (BadTag at) = codes " at byte " ++ decimal at
place_words (UndefinedAlias event) = codes " at event " ++ decimal event
place_words (CyclicAlias event) = codes " at event " ++ decimal event
place_words (WrongKind event) = codes " at event " ++ decimal event
place_words (BadContent event) = codes " at event " ++ decimal event
place_words (IntRange event) = codes " at event " ++ decimal event
place_words (FloatRange event) = codes " at event " ++ decimal event
place_words (TooHigh document) = codes " in document " ++ decimal document
place_words (EqualKeys node first second) = codes " in node " ++ (decimal node ++ (codes ", entries " ++ (decimal first ++ (codes " and " ++ decimal second))))
place_words _ = []

-- the number of a fault, its name, and its place
abbrev pub fault_message : Fault → List ℕ
fault_message fault = decimal (fault_number fault) ++ (codes " " ++ (fault_name fault ++ place_words fault))
