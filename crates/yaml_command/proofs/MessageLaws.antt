-- The line of a fault is its message, behind what the line begins with.
use Rattle.std.proofs.Common.{◌≡◌, refl, sym, ◌∙◌, ap, ◌++◌, ℕ, List, codes, append_assoc}
use Rattle.std.specs.Fmt.{decimal}
use Rattle.yaml_text.specs.Fault.{fault_number, fault_name}
use Rattle.yaml_text.specs.declared.fault.Fault.{Fault}
use Rattle.yaml_text.specs.declared.fault.Fault.TheVariants.{TooLong, NotUtf8, NotPrintable, Syntax, Tab, KeyTooLong, TooDeep, BadEscape, BadDirective, UnknownHandle, BadTag, UndefinedAlias, CyclicAlias, WrongKind, BadContent, IntRange, FloatRange, TooHigh, EqualKeys, TextTooLong, OutOfMemory, ReadFault, WriteFault}
use Rattle.yaml_message.specs.Words.{place_words, fault_message}
use Rattle.yaml_command.specs.Refusals.{place_end, fault_line}

-- what stands behind the name
ends : (fault : Fault) → place_end fault ≡ place_words fault ++ codes "\n"
ends TooLong = refl
ends (NotUtf8 at) = refl
ends (NotPrintable at) = refl
ends (Syntax at) = refl
ends (Tab at) = refl
ends (KeyTooLong at) = refl
ends (TooDeep at) = refl
ends (BadEscape at) = refl
ends (BadDirective at) = refl
ends (UnknownHandle at) = refl
ends (BadTag at) = refl
ends (UndefinedAlias at) = refl
ends (CyclicAlias at) = refl
ends (WrongKind at) = refl
ends (BadContent at) = refl
ends (IntRange at) = refl
ends (FloatRange at) = refl
ends (TooHigh at) = refl
ends (EqualKeys node first second) =
    let n = decimal node in
    let i = decimal first in
    let j = decimal second in
    let a = codes " in node " in
    let b = codes ", entries " in
    let c = codes " and " in
    ap (λ z. z ++ codes "\n") (append_assoc (a ++ n ++ b ++ i) c j ∙ append_assoc (a ++ n ++ b) i (c ++ j) ∙ append_assoc (a ++ n) b (i ++ (c ++ j)) ∙ append_assoc a n (b ++ (i ++ (c ++ j))))
ends TextTooLong = refl
ends OutOfMemory = refl
ends ReadFault = refl
ends WriteFault = refl

-- the line as its parts, each behind the one before
parts : (front d s n q : List ℕ) → front ++ d ++ s ++ n ++ q ≡ front ++ (d ++ (s ++ (n ++ q)))
parts front d s n q = append_assoc (front ++ d ++ s) n q ∙ append_assoc (front ++ d) s (n ++ q) ∙ append_assoc front d (s ++ (n ++ q))

-- and the message with a line feed
fed : (d s n p feed : List ℕ) → (d ++ (s ++ (n ++ p))) ++ feed ≡ d ++ (s ++ (n ++ (p ++ feed)))
fed d s n p feed = append_assoc d (s ++ (n ++ p)) feed ∙ ap (λ z. d ++ z) (append_assoc s (n ++ p) feed ∙ ap (λ z. s ++ z) (append_assoc n p feed))

pub line-is-message : (front : List ℕ) (fault : Fault) → fault_line front fault ≡ front ++ (fault_message fault ++ codes "\n")
line-is-message front fault =
    ap (λ z. front ++ decimal (fault_number fault) ++ codes " " ++ fault_name fault ++ z) (ends fault)
    ∙ parts front (decimal (fault_number fault)) (codes " ") (fault_name fault) (place_words fault ++ codes "\n")
    ∙ ap (λ z. front ++ z) (sym (fed (decimal (fault_number fault)) (codes " ") (fault_name fault) (place_words fault) (codes "\n")))
