-- What a draft holds of a text.
use Rattle.std.specs.Prelude.{◌≡◌, ℕ, List, ◌++◌}
use Rattle.std.specs.declared.option.Option.{Option}
use Rattle.std.specs.declared.option.Option.TheVariants.{None, Some}
use Rattle.yaml_show_scalar.specs.Stops.{limit_of, Stops}
use Rattle.yaml_show_scalar.specs.Texts.{written}
use Rattle.yaml_show_scalar.specs.declared.output.Out.{Out}
use Rattle.yaml_show_scalar.specs.declared.stop.Stop.{Stop}
use Rattle.yaml_show.specs.declared.draft.Draft.{Draft}

-- the whole text, which may grow to this limit; or why it is not finished, whatever is to follow
abbrev pub HoldsBy : ℕ → Out → Option Stop → List ℕ → Type 0
HoldsBy limit out None text = (limit_of out ≡ limit) × (written out ≡ text)
HoldsBy limit out (Some stop) text = (more : List ℕ) → Stops limit (text ++ more) stop

abbrev pub out_of : Draft → Out
out_of d = d.out

abbrev pub stop_of : Draft → Option Stop
stop_of d = d.stop

abbrev pub Holds : ℕ → Draft → List ℕ → Type 0
Holds limit d text = HoldsBy limit (out_of d) (stop_of d) text

-- A piece is put behind what the draft held.
pub record Adds (old new : Draft) (piece : List ℕ) : Type 0 where
  pub is : (limit : ℕ) (text : List ℕ) → Holds limit old text → Holds limit new (text ++ piece)

-- Memory was wanting, which says nothing of the text.
pub record Forgone (d : Draft) : Type 0 where
  pub is : (limit : ℕ) (text : List ℕ) → Holds limit d text
