-- From the answers of calls to what is said of files, and of an event text held against one.
use Rattle.std.specs.Prelude.{Result, Ok, Err, IfOk, IfErr}
use Rattle.std.specs.Io.KnownBytes.{Consumes}
use Rattle.std.proofs.Common.{◌≡◌, ◌<◌, ◌+◌, ℕ, Bool, List, [], length, length-append, Option, Some, None, IfSome, subst, ap, refl, arith}
use Rattle.std.proofs.KnownBytes.{Consumes-all}
use Rattle.yaml_definitions.specs.model.Limits.{text_limit}
use Rattle.yaml_text.specs.declared.fault.Fault.{Fault}
use Rattle.yaml_text.specs.declared.fault.Fault.TheVariants.{TooLong, OutOfMemory, ReadFault, WriteFault}
use Rattle.yaml_text.specs.declared.counted.Counted.{Counted}
use Rattle.yaml_text.specs.CountedModel.{inner_of}
use Rattle.yaml_text.specs.declared.side.Side.{Side}
use Rattle.yaml_text.specs.Gathering.{Gathers, GatherFails}
use Rattle.yaml_text.specs.Writers.{Broken}
use Rattle.yaml_command.specs.declared.refusal.Refusal.{Refusal}
use Rattle.yaml_command.specs.declared.refusal.Refusal.TheVariants.{Input, OneSide, EventText}
use Rattle.yaml_command.specs.Printing.{PrintFails}
use Rattle.yaml_command.specs.Matched.{match_line, HasEvents, MatchFails}
use Rattle.yaml_command.specs.Refusals.{events_limit, InputFails, SideFails, LinesFail}
use Rattle.yaml_command.specs.Shelves.{IsOf, FileFails, InputUnread, SideUnread, LinesUnread}

-- a fact of one arm of an answer
pub if_one : {T E : Type 0} {P Q : T → Type 0} (r : Result T E) → IfOk r P → ((x : T) → P x → Q x) → IfOk r Q
if_one (Ok x) h f = f x h
if_one (Err e) h f = h

pub if_refused : {T E : Type 0} {P Q : E → Type 0} (r : Result T E) → IfErr r P → ((e : E) → P e → Q e) → IfErr r Q
if_refused (Ok x) h f = h
if_refused (Err e) h f = f e h

-- of a file of which it is known what it holds, that was read
module _ {F : Type 0} (remaining : F → Option (List ℕ)) where
  pub gathered : (held : Option (List ℕ)) (i e : Counted F) (limit : ℕ) (bytes : List ℕ) → IfSome held (λ known. remaining (inner_of i) ≡ Some known) → Gathers remaining i e limit bytes → IsOf held bytes
  gathered None i e limit bytes k h = tt
  gathered (Some known) i e limit bytes k h =
      subst (λ a. IfSome a (λ xs. bytes ≡ xs)) k (Consumes-all (remaining (inner_of i)) (remaining (inner_of e)) bytes [] bytes h.gave h.end refl)

  long : (a b : Option (List ℕ)) (bytes : List ℕ) (limit : ℕ) → Consumes a b bytes → length bytes ≡ limit + 1 → IfSome a (λ xs. limit < length xs)
  long None b bytes limit h e = tt
  long (Some xs) None bytes limit h e = absurd h
  long (Some xs) (Some ys) bytes limit h e =
      let q = ap length h in
      let r = length-append bytes ys in
      omega (arith, e, q, r)

  pub file_fails : (held : Option (List ℕ)) (i e : Counted F) (limit : ℕ) (fault : Fault) → IfSome held (λ known. remaining (inner_of i) ≡ Some known) → GatherFails remaining i e limit fault → FileFails held limit fault
  file_fails None i e limit TooLong k h = tt
  file_fails (Some known) i e limit TooLong k h =
      subst (λ a. IfSome a (λ xs. limit < length xs)) k (long (remaining (inner_of i)) (remaining (inner_of e)) h.0.0 limit h.0.1 h.0.2)
  file_fails held i e limit OutOfMemory k h = tt
  file_fails held i e limit ReadFault k h = tt
  file_fails held i e limit _ k h = absurd h

  -- and what is told of it
  pub side_unread : (held : Option (List ℕ)) (name : List ℕ) (i e : Counted F) (side : Side) (refusal : Refusal) → IfSome held (λ known. remaining (inner_of i) ≡ Some known) → SideFails remaining side i e refusal → SideUnread held name side refusal
  side_unread held name i e side (OneSide told fault) k h = (h.0, file_fails held i e text_limit fault k h.1)
  side_unread held name i e side _ k h = absurd h

  pub input_unread : (held : Option (List ℕ)) (name : List ℕ) (i e : Counted F) (refusal : Refusal) → IfSome held (λ known. remaining (inner_of i) ≡ Some known) → InputFails remaining i e refusal → InputUnread held name refusal
  input_unread held name i e (Input fault) k h = file_fails held i e text_limit fault k h
  input_unread held name i e _ k h = absurd h

  pub lines_unread : (held : Option (List ℕ)) (name : List ℕ) (i e : Counted F) (refusal : Refusal) → IfSome held (λ known. remaining (inner_of i) ≡ Some known) → LinesFail remaining i e refusal → LinesUnread held name refusal
  lines_unread held name i e (EventText fault) k h = file_fails held i e events_limit fault k h
  lines_unread held name i e _ k h = absurd h

module _ {W : Type 0} (contents : W → Option (List ℕ)) where
  -- a line is not written whole
  pub match_broken : (input lines : List ℕ) (o u : Counted W) (alike : Bool) (text : List ℕ) (fault : Fault) → HasEvents input lines alike → text ≡ match_line alike → PrintFails contents o u text fault → MatchFails contents input lines o u (Input fault)
  match_broken input lines o u alike text WriteFault a e h = record { answer = alike; has = a; broken = subst (Broken contents o u) e h }
  match_broken input lines o u alike text _ a e h = absurd h
