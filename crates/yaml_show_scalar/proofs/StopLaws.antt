-- A text that is too long is so with more behind it.
use Rattle.std.proofs.Common.{◌≡◌, ℕ, List, ◌++◌, length, ap, arith}
use Rattle.std.specs.Prelude.{Result, Err, Ok, IfErr}
use Rattle.std.proofs.lemmas.List.{length-append}
use Rattle.yaml_show_scalar.specs.Stops.{Stops}
use Rattle.yaml_show_scalar.specs.declared.stop.Stop.{Stop}
use Rattle.yaml_show_scalar.specs.declared.stop.Stop.TheVariants.{TooLong, OutOfMemory}

pub stops_longer : (limit limit' : ℕ) (text rest whole : List ℕ) (stop : Stop) → limit' ≡ limit → whole ≡ text ++ rest → Stops limit' text stop → Stops limit whole stop
stops_longer limit limit' text rest whole TooLong l e h = omega (arith, l, h, ap length e, length-append text rest)
stops_longer limit limit' text rest whole OutOfMemory l e h = h

pub stops_same : (limit limit' : ℕ) (text whole : List ℕ) (stop : Stop) → limit' ≡ limit → whole ≡ text → Stops limit' text stop → Stops limit whole stop
stops_same limit limit' text whole TooLong l e h = omega (arith, l, h, ap length e)
stops_same limit limit' text whole OutOfMemory l e h = h

-- the same of what a call answers
pub if_longer : {X : Type 0} (r : Result X Stop) (limit limit' : ℕ) (text rest whole : List ℕ) → limit' ≡ limit → whole ≡ text ++ rest → IfErr r (Stops limit' text) → IfErr r (Stops limit whole)
if_longer (Ok x) limit limit' text rest whole l e h = h
if_longer (Err stop) limit limit' text rest whole l e h = stops_longer limit limit' text rest whole stop l e h

pub if_same : {X : Type 0} (r : Result X Stop) (limit limit' : ℕ) (text whole : List ℕ) → limit' ≡ limit → whole ≡ text → IfErr r (Stops limit' text) → IfErr r (Stops limit whole)
if_same (Ok x) limit limit' text whole l e h = h
if_same (Err stop) limit limit' text whole l e h = stops_same limit limit' text whole stop l e h
