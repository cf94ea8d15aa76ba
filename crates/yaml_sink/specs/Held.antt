-- What a call does to what takes a reader's events, said of the events that it holds.
use Rattle.std.specs.Prelude.{◌≡◌, ◌++◌, ℕ, List, length}
use Rattle.yaml_definitions.specs.model.Event.{Event}

-- `holds s log` says that these are the events that were put into s and not taken back.
module _ {S : Type 0} (holds : S → List Event → Type 0) where
  -- so many events are held
  pub record Counts (now : S) (n : ℕ) : Type 0 where
    pub is : (log : List Event) → holds now log → n ≡ length log

  -- what was held is held
  pub record Keeps (before after : S) : Type 0 where
    pub is : (log : List Event) → holds before log → holds after log

  -- these events were put at the end
  pub record Puts (before : S) (es : List Event) (after : S) : Type 0 where
    pub is : (log : List Event) → holds before log → holds after (log ++ es)

  -- the events es that were put down since a mark became f es
  pub record Alters (start : ℕ) (f : List Event → List Event) (before after : S) : Type 0 where
    pub is : (log es : List Event) → start ≡ length log → holds before (log ++ es) → holds after (log ++ f es)
