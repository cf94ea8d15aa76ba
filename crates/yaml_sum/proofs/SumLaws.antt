-- What becomes of files, one file more at a time.
use Rattle.std.proofs.Common.{◌≡◌, ◌++◌, ℕ, Bool, true, false, zero, suc, ◌+◌, ◌-◌, ◌^◌, ◌<◌, max, List, [], ◌∷◌, Option, None, Some, IfSome, length, map, take, get_or, refl, sym, ◌∙◌, ap, subst, arith, append_assoc, append-nil, length-append, inl, inr}
use Rattle.std.specs.Prelude.{Result, Ok, Err, IfOk}
use Rattle.std.specs.Io.KnownBytes.{Consumes, Appends}
use Rattle.std.proofs.KnownBytes.{Consumes-all}
use Rattle.std.proofs.lemmas.List.{take_more, get_or-map, length-map}
use Rattle.std.proofs.Math.Seq.{take-append-add, take-length}
use Rattle.yaml_text.specs.Count.{one_more}
use Rattle.yaml_text.specs.CountedModel.{inner_of, faults_of}
use Rattle.yaml_text.specs.declared.fault.Fault.{Fault}
use Rattle.yaml_text.specs.declared.fault.Fault.TheVariants.{TooLong, OutOfMemory, ReadFault, WriteFault}
use Rattle.yaml_text.specs.declared.counted.Counted.{Counted}
use Rattle.yaml_spell.specs.Writers.{Sent, CutOff}
use Rattle.yaml_text.specs.Writers.{Printed, Broken}
use Rattle.yaml_spell.proofs.Streams.{appends_none, appends_more}
use Rattle.yaml_command.specs.Printing.{PrintFails}
use Rattle.yaml_command.specs.Shelves.{IsOf, FileFails}
use Rattle.yaml_sum.specs.Complaints.{TellsStop}
use Rattle.yaml_sum.specs.Lines.{sum_line}
use Rattle.yaml_sum.specs.Reading.{GivesAll, GivesNotAll}
use Rattle.yaml_sum.specs.Stops.{stop_status}
use Rattle.yaml_sum.specs.declared.reason.Reason.{Reason}
use Rattle.yaml_sum.specs.declared.stop.Stop.{Stop}
use Rattle.yaml_sum.specs.declared.stop.Stop.TheVariants.{CannotOpen, NotRegular}
use Rattle.yaml_sum.specs.Sums.{is_input, NotReadFrom, IsNotRead, HasDigest, HasLine, HasNone, Outcome, summed, stopped, outcome_line, outcome_status, lines, worst, Becomes, Become, Tells, TellAll, Sums, Cuts, SumsSome, SumsAll, Halts, SumsCut}

-- of a file of which it is known what it holds, that was read
module _ {F : Type 0} (remaining : F → Option (List ℕ)) where
  pub held_is_read : (held : Option (List ℕ)) (i e : F) (limit : ℕ) (bytes : List ℕ) → IfSome held (λ known. remaining i ≡ Some known) → GivesAll remaining i e limit bytes → IsOf held bytes
  held_is_read None i e limit bytes k h = tt
  held_is_read (Some known) i e limit bytes k h =
      subst (λ a. IfSome a (λ xs. bytes ≡ xs)) k (Consumes-all (remaining i) (remaining e) bytes [] bytes h.gave h.end refl)

  long : (a b : Option (List ℕ)) (bytes : List ℕ) (limit : ℕ) → Consumes a b bytes → length bytes ≡ limit + 1 → IfSome a (λ xs. limit < length xs)
  long None b bytes limit h e = tt
  long (Some xs) None bytes limit h e = absurd h
  long (Some xs) (Some ys) bytes limit h e =
      let q = ap length h in
      let r = length-append bytes ys in
      omega (arith, e, q, r)

  pub held_fails : (held : Option (List ℕ)) (i e : F) (limit : ℕ) (fault : Fault) → IfSome held (λ known. remaining i ≡ Some known) → GivesNotAll remaining i e limit fault → FileFails held limit fault
  held_fails None i e limit TooLong k h = tt
  held_fails (Some known) i e limit TooLong k h =
      subst (λ a. IfSome a (λ xs. limit < length xs)) k (long (remaining i) (remaining e) h.0 limit h.1 h.2)
  held_fails held i e limit OutOfMemory k h = tt
  held_fails held i e limit ReadFault k h = tt
  held_fails held i e limit _ k h = absurd h

-- a list that is no regular file would be told as one that can't be opened
module _ {R : Type 0} (holds : List ℕ → Option (List ℕ)) (remaining : R → Option (List ℕ)) where
  not_opened_from : (why : Reason) (input : Bool) (name : List ℕ) (limit : ℕ) (old new : R) → NotReadFrom holds remaining input name limit old new NotRegular → NotReadFrom holds remaining input name limit old new (CannotOpen why)
  not_opened_from why true name limit old new h = absurd h
  not_opened_from why false name limit old new h = (inr h.0, h.1)

  pub not_opened : (why : Reason) (name : List ℕ) (limit : ℕ) (old new : R) → IsNotRead holds remaining name limit old new NotRegular → IsNotRead holds remaining name limit old new (CannotOpen why)
  not_opened why name limit old new h = not_opened_from why (is_input name) name limit old new h

worst_more : (os : List Outcome) (o : Outcome) → worst (os ++ (o ∷ [])) ≡ max (worst os) (outcome_status o)
worst_more [] o = omega arith
worst_more (p ∷ os) o = let more = worst_more os o in omega (arith, more)

map_front : {X : Type 0} (f : X → List ℕ) (xs : List X) (i : ℕ) (d : X) → i < length xs → take (i + 1) (map f xs) ≡ take i (map f xs) ++ (f (get_or xs i d) ∷ [])
map_front f xs i d within =
    let k : i < length (map f xs) = omega (arith, length-map xs f, within) in
    take_more (map f xs) i (f d) k ∙ ap (λ z. take i (map f xs) ++ (z ∷ [])) (get_or-map f xs i d (f d) within)

-- all of the list, once the loop has been at each
pub mapped : {X : Type 0} (f : X → List ℕ) (xs : List X) (i : ℕ) → i ≡ length xs → i ≡ length (map f xs)
mapped f xs i e = let l = length-map xs f in omega (arith, e, l)

-- a fact of one arm of an answer
pub if_one : {T E : Type 0} {P Q : T → Type 0} (r : Result T E) → IfOk r P → ((x : T) → P x → Q x) → IfOk r Q
if_one (Ok x) h f = f x h
if_one (Err e) h f = h

-- a file more at the end
module _ {E : Type 0} (told : E → Option (List ℕ)) where
  tell_more : (names : List (List ℕ)) (name : List ℕ) (os : List Outcome) (o : Outcome) (a b c : Counted E) → TellAll told names os a b → Tells told name o b c → TellAll told (names ++ (name ∷ [])) (os ++ (o ∷ [])) a c
  tell_more [] name [] o a b c h k = (c, subst (λ z. Tells told name o z c) h k, refl)
  tell_more [] name (p ∷ os) o a b c h k = absurd h
  tell_more (n ∷ names) name [] o a b c h k = absurd h
  tell_more (n ∷ names) name (p ∷ os) o a b c (u, first, rest) k = (u, first, tell_more names name os o u b c rest k)

module _ {R : Type 0} (holds : List ℕ → Option (List ℕ)) (remaining : R → Option (List ℕ)) where
  become_more : (names : List (List ℕ)) (name : List ℕ) (old mid new : R) (os : List Outcome) (o : Outcome) → Become holds remaining names old mid os → Becomes holds remaining name mid new o
      → Become holds remaining (names ++ (name ∷ [])) old new (os ++ (o ∷ []))
  become_more [] name old mid new os o (e, f) b = (new, o, [], subst (λ z. Becomes holds remaining name z new o) e b, (refl, refl), ap (λ z. z ++ (o ∷ [])) f)
  become_more (n ∷ names) name old mid new os o (u, p, more, first, rest, e) b =
      (u, p, more ++ (o ∷ []), first, become_more names name u mid new more o rest b, ap (λ z. z ++ (o ∷ [])) e)

  lines_more : (names : List (List ℕ)) (name : List ℕ) (old mid : R) (os : List Outcome) (o : Outcome) → Become holds remaining names old mid os
      → lines (names ++ (name ∷ [])) (os ++ (o ∷ [])) ≡ lines names os ++ outcome_line name o
  lines_more [] name old mid os o (e, f) = ap (λ z. lines (name ∷ []) (z ++ (o ∷ []))) f ∙ append-nil (outcome_line name o)
  lines_more (n ∷ names) name old mid os o (u, p, more, first, rest, e) =
      ap (λ z. lines (n ∷ (names ++ (name ∷ []))) (z ++ (o ∷ []))) e
      ∙ ap (λ z. outcome_line n p ++ z) (lines_more names name u mid more o rest)
      ∙ sym (append_assoc (outcome_line n p) (lines names more) (outcome_line name o))
      ∙ ap (λ z. lines (n ∷ names) z ++ outcome_line name o) (sym e)

  module _ {W E : Type 0} (contents : W → Option (List ℕ)) (told : E → Option (List ℕ)) where
    -- a file's line goes out, or is cut off
    pub line_sent : (name : List ℕ) (old new : R) (o u : Counted W) (a : Counted E) (line piece : List ℕ) → HasLine holds remaining name old new line → piece ≡ line → Sent contents o u piece → Sums holds remaining contents told name old new o u a a 0
    line_sent name old new o u a line piece (digest, has, e) f s = record { outcome = summed digest; becomes = has; sent = subst (Sent contents o u) (f ∙ e) s; tells = refl; status_is = refl }

    pub line_cut : (name : List ℕ) (old new : R) (o u : Counted W) (a : Counted E) (line piece : List ℕ) (fault : Fault) → HasLine holds remaining name old new line → piece ≡ line → CutOff contents o u piece fault → Cuts holds remaining contents told name old new o u a a fault
    line_cut name old new o u a line piece fault (digest, has, e) f k = (inl (digest, has, subst (λ z. CutOff contents o u z fault) (f ∙ e) k), refl)

    -- or it has none, which is told
    pub line_none : (name : List ℕ) (old new : R) (o : Counted W) (a b : Counted E) (stop : Stop) (status : ℕ) → HasNone holds remaining name old new stop → TellsStop told name stop a b → status ≡ stop_status stop → Sums holds remaining contents told name old new o o a b status
    line_none name old new o a b stop status has t e = record { outcome = stopped stop; becomes = has; sent = record { took = appends_none (contents (inner_of o)); counted = refl }; tells = t; status_is = e }

    -- or not
    pub line_untold : (name : List ℕ) (old new : R) (o : Counted W) (a b : Counted E) (stop : Stop) (fault : Fault) → HasNone holds remaining name old new stop → fault ≡ OutOfMemory → b ≡ a → Cuts holds remaining contents told name old new o o a b fault
    line_untold name old new o a b stop fault has e q = (inr (stop, has, e, refl), q)

    -- nothing yet
    pub sums_none : (old : R) (o : Counted W) (a : Counted E) → SumsSome holds remaining contents told [] old old o o a a 0
    sums_none old o a = record { outcomes = []; become = (refl, refl); sent = record { took = appends_none (contents (inner_of o)); counted = refl }; tells = refl; status_is = refl }

    -- a file more
    some_more : (names : List (List ℕ)) (name : List ℕ) (old mid new : R) (o u v : Counted W) (a b c : Counted E) (status more : ℕ) → SumsSome holds remaining contents told names old mid o u a b status
        → Sums holds remaining contents told name mid new u v b c more → SumsSome holds remaining contents told (names ++ (name ∷ [])) old new o v a c (max status more)
    some_more names name old mid new o u v a b c status more h k = record {
      outcomes = h.outcomes ++ (k.outcome ∷ []);
      become = become_more names name old mid new h.outcomes k.outcome h.become k.becomes;
      sent = record {
        took = subst (Appends (contents (inner_of o)) (contents (inner_of v))) (sym (lines_more names name old mid h.outcomes k.outcome h.become))
            (appends_more _ _ _ (lines names h.outcomes) (outcome_line name k.outcome) h.sent.took k.sent.took);
        counted = k.sent.counted ∙ h.sent.counted;
      };
      tells = tell_more told names name h.outcomes k.outcome a b c h.tells k.tells;
      status_is = ap (λ z. max z more) h.status_is ∙ ap (λ z. max (worst h.outcomes) z) k.status_is ∙ sym (worst_more h.outcomes k.outcome);
    }

    -- the same of the next of some names
    pub sums_more : {X : Type 0} (f : X → List ℕ) (xs : List X) (i : ℕ) (d : X) (old mid new : R) (o u v : Counted W) (a b c : Counted E) (status more next : ℕ) → i < length xs
        → SumsSome holds remaining contents told (take i (map f xs)) old mid o u a b status → Sums holds remaining contents told (f (get_or xs i d)) mid new u v b c more → next ≡ max status more
        → SumsSome holds remaining contents told (take (i + 1) (map f xs)) old new o v a c next
    sums_more f xs i d old mid new o u v a b c status more next within h k e =
        let front : take (i + 1) (map f xs) ≡ take i (map f xs) ++ (f (get_or xs i d) ∷ []) = map_front f xs i d within in
        subst (SumsSome holds remaining contents told (take (i + 1) (map f xs)) old new o v a c) (sym e)
        (subst (λ z. SumsSome holds remaining contents told z old new o v a c (max status more)) (sym front) (some_more (take i (map f xs)) (f (get_or xs i d)) old mid new o u v a b c status more h k))

    one_higher : (n m k : ℕ) → n < 2 ^ 64 - 1 → m ≡ n → k ≡ one_more m → k ≡ n + 1
    one_higher n m k h e f = omega (arith, h, e, f)

    -- a beginning of a piece goes out behind a text
    pub begun : (o u v : Counted W) (front piece : List ℕ) (fault : Fault) → faults_of o < 2 ^ 64 - 1 → Sent contents o u front → CutOff contents u v piece fault → Broken contents o v (front ++ piece)
    begun o u v front piece fault few s k = record {
      count = length front + k.count;
      took = subst (Appends (contents (inner_of o)) (contents (inner_of v))) (sym (take-append-add front piece k.count)) (appends_more _ _ _ front (take k.count piece) s.took k.took);
      counted = one_higher (faults_of o) (faults_of u) (faults_of v) few s.counted k.counted;
    }

    -- the writer fails within the line of the next
    breaks : {X : Type 0} (f : X → List ℕ) (xs : List X) (i : ℕ) (d : X) (old mid new : R) (o u v : Counted W) (a b : Counted E) (status : ℕ) (digest : List ℕ) (fault : Fault) → faults_of o < 2 ^ 64 - 1 → i < length xs
        → SumsSome holds remaining contents told (take i (map f xs)) old mid o u a b status → HasDigest holds remaining (f (get_or xs i d)) mid new digest → CutOff contents u v (sum_line digest (f (get_or xs i d))) fault
        → SumsCut holds remaining contents told (map f xs) old o v a b fault
    breaks f xs i d old mid new o u v a b status digest fault few within h has k =
        let names = take i (map f xs) in
        let name = f (get_or xs i d) in
        let e : names ++ (name ∷ []) ≡ take (i + 1) (map f xs) = sym (map_front f xs i d within) in
        let os = h.outcomes ++ (summed digest ∷ []) in
        record {
          count = i + 1;
          outcomes = os;
          next = new;
          become = subst (λ z. Become holds remaining z old new os) e (become_more names name old mid new h.outcomes (summed digest) h.become has);
          halts = subst (λ z. Halts holds remaining contents told o v (lines z os) fault) e
              (subst (Halts holds remaining contents told o v (lines (names ++ (name ∷ [])) os)) (sym k.is)
              (subst (Broken contents o v) (sym (lines_more names name old mid h.outcomes (summed digest) h.become)) (begun o u v (lines names h.outcomes) (sum_line digest name) fault few h.sent k)));
          tells = subst (λ z. TellAll told z os a b) e (tell_more told names name h.outcomes (summed digest) a b b h.tells refl);
        }

    -- or memory is refused for a line of standard error
    stops : {X : Type 0} (f : X → List ℕ) (xs : List X) (i : ℕ) (old mid : R) (o u : Counted W) (a b : Counted E) (status : ℕ) (fault : Fault) → SumsSome holds remaining contents told (take i (map f xs)) old mid o u a b status → fault ≡ OutOfMemory
        → SumsCut holds remaining contents told (map f xs) old o u a b fault
    stops f xs i old mid o u a b status fault h e = record {
      count = i;
      outcomes = h.outcomes;
      next = mid;
      become = h.become;
      halts = subst (Halts holds remaining contents told o u (lines (take i (map f xs)) h.outcomes)) (sym e) h.sent;
      tells = h.tells;
    }

    pub sums_cut : {X : Type 0} (f : X → List ℕ) (xs : List X) (i : ℕ) (d : X) (old mid new : R) (o u v : Counted W) (a b c : Counted E) (status : ℕ) (fault : Fault) → faults_of o < 2 ^ 64 - 1 → i < length xs
        → SumsSome holds remaining contents told (take i (map f xs)) old mid o u a b status → Cuts holds remaining contents told (f (get_or xs i d)) mid new u v b c fault → SumsCut holds remaining contents told (map f xs) old o v a c fault
    sums_cut f xs i d old mid new o u v a b c status fault few within h (inl (digest, has, k), q) =
        subst (λ z. SumsCut holds remaining contents told (map f xs) old o v a z fault) (sym q) (breaks f xs i d old mid new o u v a b status digest fault few within h has k)
    sums_cut f xs i d old mid new o u v a b c status fault few within h (inr (stop, has, e, p), q) =
        subst (λ z. SumsCut holds remaining contents told (map f xs) old o v a z fault) (sym q)
        (subst (λ z. SumsCut holds remaining contents told (map f xs) old o z a b fault) (sym p) (stops f xs i old mid o u a b status fault h e))

    -- all lines are written, and the writer is flushed
    pub sums_all : (names : List (List ℕ)) (i : ℕ) (old new : R) (o u v : Counted W) (a b : Counted E) (status : ℕ) → i ≡ length names → SumsSome holds remaining contents told (take i names) old new o u a b status → Printed contents u v []
        → SumsAll holds remaining contents told names old new o v a b status
    sums_all names i old new o u v a b status e h k =
        let whole : take i names ≡ names = ap (λ m. take m names) e ∙ take-length names in
        subst (λ z. SumsAll holds remaining contents told z old new o v a b status) whole (record {
          outcomes = h.outcomes;
          become = h.become;
          printed = record {
            took = subst (Appends (contents (inner_of o)) (contents (inner_of v))) (append-nil (lines (take i names) h.outcomes)) (appends_more _ _ _ (lines (take i names) h.outcomes) [] h.sent.took k.took);
            flushed = k.flushed;
            counted = k.counted ∙ h.sent.counted;
          };
          tells = h.tells;
          status_is = h.status_is;
        })

    nothing : (n : ℕ) (xs : List ℕ) → xs ≡ [] → take n xs ≡ []
    nothing zero xs e = refl
    nothing (suc n) xs e = ap (take (suc n)) e

    -- or it is not
    pub sums_unflushed : (names : List (List ℕ)) (i : ℕ) (old new : R) (o u v : Counted W) (a b : Counted E) (status : ℕ) (fault : Fault) → i ≡ length names → SumsSome holds remaining contents told (take i names) old new o u a b status → PrintFails contents u v [] fault
        → SumsCut holds remaining contents told names old o v a b fault
    sums_unflushed names i old new o u v a b status WriteFault e h k = record {
      count = i;
      outcomes = h.outcomes;
      next = new;
      become = h.become;
      halts = record {
        count = length (lines (take i names) h.outcomes);
        took = subst (Appends (contents (inner_of o)) (contents (inner_of v))) (append-nil (lines (take i names) h.outcomes) ∙ sym (take-length (lines (take i names) h.outcomes)))
            (appends_more _ _ _ (lines (take i names) h.outcomes) [] h.sent.took (subst (Appends (contents (inner_of u)) (contents (inner_of v))) (nothing k.count [] refl) k.took));
        counted = k.counted ∙ ap (λ n. n + 1) h.sent.counted;
      };
      tells = h.tells;
    }
    sums_unflushed names i old new o u v a b status _ e h k = absurd k

    -- memory is refused before the first
    pub sums_never : (names : List (List ℕ)) (old : R) (o : Counted W) (a : Counted E) (fault : Fault) → fault ≡ OutOfMemory → SumsCut holds remaining contents told names old o o a a fault
    sums_never names old o a fault e = record {
      count = 0;
      outcomes = [];
      next = old;
      become = (refl, refl);
      halts = subst (Halts holds remaining contents told o o []) (sym e) (record { took = appends_none (contents (inner_of o)); counted = refl });
      tells = refl;
    }
