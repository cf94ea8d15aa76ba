-- A list of a reader's events, and a keeper beside it.
use Rattle.std.proofs.Common.{◌≡◌, ℕ, List, sym, subst}
use Rattle.std.specs.Prelude.{Result, Ok, Err, IfOk}
use Rattle.yaml_definitions.specs.model.Event.{Event}
use Rattle.yaml_text.specs.declared.fault.Fault.{Fault}
use Rattle.yaml_sink.specs.Held.{Keeps, Puts, Alters}
use Rattle.yaml_sink.specs.ListModel.{HeldList}
use Rattle.yaml_sink.specs.SinkModel.{holds_of, HeldBeside}
use Rattle.yaml_sink.specs.declared.list.EventList.{EventList}
use Rattle.yaml_sink.specs.declared.sink.Beside.{Beside}
use Rattle.yaml_sink.specs.declared.sink.Sink.{Sink}
use Rattle.yaml_sink.specs.declared.sink.Sink.TheVariants.{Listed}

pub both_put : {K : Type 0} (holds : K → List Event → Type 0) (a b : Beside K) (es : List Event) → Puts holds a.keeper es b.keeper → Puts HeldList a.list es b.list → Puts (HeldBeside holds) a es b
both_put holds a b es k l = record { is = λ log h. record { list = l.is log h.list; keeper = k.is log h.keeper } }

pub both_altered : {K : Type 0} (holds : K → List Event → Type 0) (a b : Beside K) (start : ℕ) (f : List Event → List Event) → Alters holds start f a.keeper b.keeper → Alters HeldList start f a.list b.list → Alters (HeldBeside holds) start f a b
both_altered holds a b start f k l = record { is = λ log es s h. record { list = l.is log es s h.list; keeper = k.is log es s h.keeper } }

pub both_kept : {K : Type 0} (holds : K → List Event → Type 0) (a b : Beside K) → Keeps holds a.keeper b.keeper → b.list ≡ a.list → Keeps (HeldBeside holds) a b
both_kept holds a b k e = record { is = λ log h. record { list = subst (λ l. HeldList l log) (sym e) h.list; keeper = k.is log h.keeper } }

-- what a call put at a list's end, where the sink is one
pub listed_put : {K : Type 0} (holds : K → List Event → Type 0) (s : Sink K) (a b : EventList) (es : List Event) (r : Result (Unit {0}) Fault) → s ≡ Listed a → IfOk r (λ _. Puts HeldList a es b) → IfOk r (λ _. Puts (holds_of holds) s es (Listed b))
listed_put holds s a b es (Ok x) e p = record { is = λ log h. p.is log (subst (λ v. holds_of holds v log) e h) }
listed_put holds s a b es (Err x) e p = tt
