-- How a command ends, by its words.
use Rattle.std.proofs.Common.{◌≡◌, ◌≢◌, inl, ℕ, Bool, true, false, List, Option, refl, sym, subst}
use Rattle.std.specs.Prelude.{◌↔◌, IsTrue}
use Rattle.clap.specs.declared.error.kind.ErrorKind.{ErrorKind}
use Rattle.clap.specs.declared.error.kind.ErrorKind.TheVariants as kind
use Rattle.yaml_text.specs.Writers.{Broken}
use Rattle.yaml_text.specs.declared.counted.Counted.{Counted}
use Rattle.yaml_text.specs.declared.fault.Fault.{Fault}
use Rattle.yaml_text.specs.declared.fault.Fault.TheVariants.{WriteFault}
use Rattle.yaml_command.specs.Printing.{PrintFails}
use Rattle.review_args.specs.Words.{Asks, HasKeys, Refuses}
use Rattle.review_args.specs.declared.words.Asked.{Asked}
use Rattle.review_files.specs.Lines.{TakesLine, bare_line}
use Rattle.review_files.specs.Statuses.{fault_status}
use Rattle.review_command.specs.Commands.{is_help, TellsFault, WritesHelp, TellsWords, TellsError, WordsDone, WordsRefused}

module _ {W E : Type 0} (contents : W → Option (List ℕ)) (told : E → Option (List ℕ)) where
  no_help : (k : ErrorKind) (b : Bool) → (IsTrue b ↔ ((k ≢ kind.DisplayHelp) × (k ≢ kind.DisplayVersion))) → b ≡ false → is_help k ≡ true
  no_help kind.DisplayHelp b h f = refl
  no_help kind.DisplayVersion b h f = refl
  no_help _ b h f = absurd (let e : b ≡ true = h.1 ((λ e. cc), (λ e. cc)) in cc)

  pub help_words : (out : W) (err : E) (status : ℕ) (k : ErrorKind) (b : Bool) → (IsTrue b ↔ ((k ≢ kind.DisplayHelp) × (k ≢ kind.DisplayVersion))) → b ≡ false → WritesHelp contents told out err status → TellsError contents told k out err status
  help_words out err status k b h f w = inl (subst (λ (z : Bool). TellsWords contents told z out err status) (sym (no_help k b h f)) w)

  pub cut_off : (err : E) (status : ℕ) (text : List ℕ) (old new : Counted W) (after : E) (fault : Fault) → PrintFails contents old new text fault → status ≡ fault_status fault → TakesLine told err after (bare_line fault)
      → Broken contents old new text × TellsFault contents told WriteFault err status
  cut_off err status text old new after WriteFault b s t = (b, (s, (after, t)))
  cut_off err status text old new after _ b s t = absurd b

pub words_done : (does : Asked → ℕ → Type 0) (words first second keys others : List (List ℕ)) (is_terminal : Bool) (asked : Asked) (status : ℕ) → first ≡ words → second ≡ words → others ≡ keys
    → HasKeys first keys → Asks second others is_terminal asked → does asked status → WordsDone does words is_terminal status
words_done does words first second keys others is_terminal asked status e f k h a d = record {
  keys = keys;
  has_keys = subst (λ (ws : List (List ℕ)). HasKeys ws keys) e h;
  asked = asked;
  asks = subst (λ (ws : List (List ℕ)). Asks ws keys is_terminal asked) f (subst (λ (ks : List (List ℕ)). Asks second ks is_terminal asked) k a);
  done = d;
}

pub words_refused : {W E : Type 0} (contents : W → Option (List ℕ)) (told : E → Option (List ℕ)) (words given : List (List ℕ)) (refusal : ErrorKind) (out : W) (err : E) (status : ℕ) → given ≡ words
    → Refuses given refusal → TellsError contents told refusal out err status → WordsRefused contents told words out err status
words_refused contents told words given refusal out err status e r t = record { refusal = refusal; refused = subst (λ (ws : List (List ℕ)). Refuses ws refusal) e r; tells = t }
