-- How many collections events have open at once.
use Rattle.std.specs.Prelude.{ℕ, suc, ◌-◌, max, List, [], ◌∷◌}
use Rattle.yaml_definitions.specs.model.Event.{Event, stream_start, stream_end, document_start, document_end, sequence_start, sequence_end, mapping_start, mapping_end, scalar_event, alias_event}

-- the most collections that are open at one place of these events, n of them before
unfoldable pub peak : ℕ → List Event → ℕ
peak n [] = n
peak n (sequence_start f a g ∷ es) = max n (peak (suc n) es)
peak n (mapping_start f a g ∷ es) = max n (peak (suc n) es)
peak n (sequence_end ∷ es) = max n (peak (n - 1) es)
peak n (mapping_end ∷ es) = max n (peak (n - 1) es)
peak n (scalar_event a g y x ∷ es) = peak n es
peak n (alias_event a ∷ es) = peak n es
peak n (stream_start ∷ es) = peak n es
peak n (stream_end ∷ es) = peak n es
peak n (document_start b ∷ es) = peak n es
peak n (document_end b ∷ es) = peak n es
