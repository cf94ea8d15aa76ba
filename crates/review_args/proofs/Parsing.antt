-- From what `clap` answers to what the words ask for.
use Rattle.std.proofs.Common.{◌≡◌, ◌∙◌, ◌⊎◌, Bool, List, [], Option, Some, None, Result, option_map, IfOk, IfErr, refl, sym, ap, inl, inr, subst}
use Rattle.std.proofs.lemmas.Result.{IfErr-weaker, IfOk-weaker}
use Rattle.clap.specs.Words.{App, IsAmong, Kinds, Row, Text, fault_of, kind_of, subcommand_of}
use Rattle.clap.specs.declared.error.Error.{Error}
use Rattle.clap.specs.declared.error.kind.ErrorKind.{ErrorKind}
use Rattle.clap.specs.declared.error.kind.ErrorKind.TheVariants as kind
use Rattle.review_args.specs.declared.words.Asked.{Asked}
use Rattle.review_args.specs.Grammar.{IsProgram}
use Rattle.review_args.specs.Words.{Asks, AsksIn, Finds, HasKeys, Refuses, RefusesCall, RefusesIn, git_words, keys_in}

-- the command below the top, by its name and its rows
pub entered_is : {B : Type 0} (f : B → Text) (g : B → List Row) (sub : Option B) (n : Text) (r : List Row) → Some n ≡ option_map f sub
    → Some r ≡ option_map (λ (p : Text × List Row). p.1) (option_map {U = Text × List Row} (λ b. (f b, g b)) sub) → option_map {U = Text × List Row} (λ b. (f b, g b)) sub ≡ Some (n, r)
entered_is f g None n r a b = absurd (cc)
entered_is f g (Some x) n r a b =
    let name : f x ≡ n = cc in
    let rows : g x ≡ r = cc in
    λ i. Some (name i, rows i)

pub none_entered : {B : Type 0} (f : B → Text) (g : B → List Row) (sub : Option B) → None ≡ option_map f sub → option_map {U = Text × List Row} (λ b. (f b, g b)) sub ≡ None
none_entered f g None a = refl
none_entered f g (Some x) a = absurd (cc)

module _ (words : List Text) (other : git_words words ≡ None) (app : App) (is : IsProgram app) where
  -- `clap` refuses the words
  pub by_clap : (k : ErrorKind) → (k ≡ kind.OutOfMemory) ⊎ IsAmong k (fault_of app words) → Refuses words k
  by_clap k (inl memory) = inl memory
  by_clap k (inr among) = inr (other, (app, is, inl among))

  module _ (accepted : fault_of app words ≡ []) where
    -- the words of a command
    pub asked_in : (by : List Text) (is_terminal : Bool) (name : Text) (rows : List Row) → subcommand_of app words ≡ Some (name, rows)
        → (r : Result Asked Error) → IfOk r (AsksIn name rows by is_terminal) → IfOk r (Asks words by is_terminal)
    asked_in by is_terminal name rows found r h =
        let finds : Finds words name rows = record { app = app; is_program = is; accepted = accepted; found = found } in
        IfOk-weaker r _ _ (λ asked asks. inr (other, (name, rows, finds, asks))) h

    pub refused_in : (name : Text) (rows : List Row) → subcommand_of app words ≡ Some (name, rows) → (r : Result Asked Error)
        → IfErr r (λ e. RefusesIn name rows (kind_of e)) → IfErr r (λ e. Refuses words (kind_of e))
    refused_in name rows found r h = IfErr-weaker r _ _ (λ e refuses. refused (kind_of e) (Some (name, rows)) found refuses) h
      where
        refused : (k : ErrorKind) (o : Option (Text × List Row)) → subcommand_of app words ≡ o → RefusesCall o k → Refuses words k
        refused k o e refuses = inr (other, (app, is, inr (accepted, subst (λ (z : Option (Text × List Row)). RefusesCall z k) (sym e) refuses)))

    pub refused_none : subcommand_of app words ≡ None → (k : ErrorKind) → RefusesCall None k → Refuses words k
    refused_none none k refuses = inr (other, (app, is, inr (accepted, subst (λ (z : Option (Text × List Row)). RefusesCall z k) (sym none) refuses)))

-- The keys of words that `clap` refuses are of no use.
pub keys_of_none : (words keys : List Text) (app : App) → IsProgram app → (k : ErrorKind) → (k ≡ kind.OutOfMemory) ⊎ IsAmong k (fault_of app words) → (k ≡ kind.OutOfMemory → ⊥)
    → HasKeys words keys
keys_of_none words keys app is k has other = (app, is, λ accepted. go accepted has)
  where
    go : fault_of app words ≡ [] → (k ≡ kind.OutOfMemory) ⊎ IsAmong k (fault_of app words) → keys ≡ keys_in (subcommand_of app words)
    go accepted (inl memory) = absurd (other memory)
    go accepted (inr among) = absurd (subst (λ (kinds : Kinds). IsAmong k kinds) accepted among)

pub keys_of_command : (words keys : List Text) (app : App) → IsProgram app → (command : Option (Text × List Row)) → subcommand_of app words ≡ command → keys ≡ keys_in command
    → HasKeys words keys
keys_of_command words keys app is command found are = (app, is, λ accepted. are ∙ sym (ap keys_in found))
