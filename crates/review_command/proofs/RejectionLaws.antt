-- What is told of files that are not compared.
use Rattle.std.specs.Prelude.{IfOk, IfErr}
use Rattle.std.proofs.Common.{◌≡◌, ℕ, ◌≤◌, max, List, Option, Result, Ok, Err, Vec, inl, inr, refl, sym, subst, arith}
use Rattle.std.specs.declared.alloc.Global.{Global}
use Rattle.yaml_text.specs.declared.fault.Fault.{Fault}
use Rattle.yaml_text.specs.declared.fault.Fault.TheVariants.{OutOfMemory, ReadFault, WriteFault}
use Rattle.yaml_text.specs.declared.side.Side.{Side}
use Rattle.yaml_text.specs.declared.counted.Counted.{Counted}
use Rattle.review_text.specs.declared.options.Form.{Form}
use Rattle.review_patterns.specs.declared.pattern.Pattern.{Pattern}
use Rattle.review_text.specs.declared.options.Diff.{Diff}
use Rattle.review_text.specs.declared.options.Page.{Page}
use Rattle.review_files.specs.Lines.{TakesLine}
use Rattle.review_files.specs.Named.{AreNamed, NotBothRead, IsAnswer}
use Rattle.review_files.specs.Statuses.{fault_status, unread_status}
use Rattle.review_files.specs.Told.{TellsUnread, TellsAnswer, TellsBoth, TellsNotCompared}
use Rattle.review_files.specs.declared.rejected.Named.{Named}
use Rattle.review_files.specs.declared.unread.Unread.{Unread}
use Rattle.review_files.specs.declared.unread.Unread.TheVariants as unread
use Rattle.review_command.specs.Diffs.{DiffTells, DiffShows}
use Rattle.review_command.specs.Runs.{DiffEnds, PageEnds}
use Rattle.review_command.specs.Rejections.{TellsRejected, Refuses, DiffRefuses, PageRefuses, no_diff_status, no_diff_line}
use Rattle.review_command.specs.declared.diff.NoDiff.{NoDiff}
use Rattle.review_command.specs.declared.diff.NoDiff.TheVariants as no

-- ---- the status is not 0

fault_least : (fault : Fault) → 1 ≤ fault_status fault
fault_least ReadFault = omega arith
fault_least WriteFault = omega arith
fault_least _ = omega arith

unread_least : (why : Unread) → 1 ≤ unread_status why
unread_least (unread.CannotOpen why) = omega arith
unread_least (unread.Fault fault) = fault_least fault

told_least : (form : Form) (name : List ℕ) (why : Unread) (text : List ℕ) (status : ℕ) → TellsUnread form name why text status → 1 ≤ status
told_least form name why text status (inl h) = omega (arith, h.2)
told_least form name why text status (inr h) = omega (arith, h.1, unread_least why)

one_least : (a b : Result (Vec ℕ Global) Unread) (form : Form) (n m t u : List ℕ) (one other status : ℕ) → NotBothRead a b → TellsAnswer form n a t one → TellsAnswer form m b u other → status ≡ max one other → 1 ≤ status
one_least (Ok x) (Ok y) form n m t u one other status h p q e = absurd h
one_least (Ok x) (Err w) form n m t u one other status h p q e = omega (arith, told_least form m w u other q, e)
one_least (Err w) b form n m t u one other status h p q e = omega (arith, told_least form n w t one p, e)

not_compared_least : (form : Form) (left right : Named) (side : Side) (text : List ℕ) (status : ℕ) → TellsNotCompared form left right side text status → 1 ≤ status
not_compared_least form left right side text status (inl h) = h.1
not_compared_least form left right side text status (inr (before, b, e, s)) = omega (arith, s)

-- ---- both files

module _ (holds : List ℕ → Option (List ℕ)) (rest : Option (List ℕ)) (asked : Diff) (left right : Named) (left_name : left.name.now ≡ asked.left.now) (right_name : right.name.now ≡ asked.right.now) where
  pub not_both : (first second : Result (Vec ℕ Global) Unread) (text told : List ℕ) (status : ℕ) → left.answer.now ≡ first → right.answer.now ≡ second → IsAnswer holds rest asked.left.now first → IsAnswer holds rest asked.right.now second → NotBothRead first second → told ≡ text → TellsBoth asked.form left right text status → TellsRejected holds rest asked told status
  not_both first second text told status e f a b n is h =
      let un : NotBothRead left.answer.now right.answer.now = subst (λ z. NotBothRead z right.answer.now) (sym e) (subst (λ z. NotBothRead first z) (sym f) n) in
      record {
        left = left;
        right = right;
        left_name = left_name;
        right_name = right_name;
        left_is = subst (IsAnswer holds rest asked.left.now) (sym e) a;
        right_is = subst (IsAnswer holds rest asked.right.now) (sym f) b;
        tells = inl (un, subst (λ z. TellsBoth asked.form left right z status) (sym is) h);
        refused = one_least left.answer.now right.answer.now asked.form left.name.now right.name.now h.first h.second h.one h.other status un h.of_left h.of_right h.status_is;
      }

  pub both_read : (first second : Vec ℕ Global) (side : Side) (text told : List ℕ) (status : ℕ) → left.answer.now ≡ Ok first → right.answer.now ≡ Ok second → AreNamed holds rest asked.left.now asked.right.now first.items second.items → told ≡ text → TellsNotCompared asked.form left right side text status → TellsRejected holds rest asked told status
  both_read first second side text told status e f named is h = record {
    left = left;
    right = right;
    left_name = left_name;
    right_name = right_name;
    left_is = subst (IsAnswer holds rest asked.left.now) (sym e) (record { read = named.one; unread = tt });
    right_is = subst (IsAnswer holds rest asked.right.now) (sym f) (record { read = named.other; unread = tt });
    tells = inr (side, subst (λ z. TellsNotCompared asked.form left right side z status) (sym is) h);
    refused = not_compared_least asked.form left right side text status h;
  }

-- why they are not compared, or that no text is made of it
pub or_faulted : (holds : List ℕ → Option (List ℕ)) (rest : Option (List ℕ)) (asked : Diff) (answer : Result NoDiff Fault) (none : NoDiff) → IfOk answer (Refuses holds rest asked) → IfOk answer (λ n. none ≡ n) → IfErr answer (λ f. none ≡ no.Fault OutOfMemory) → Refuses holds rest asked none
or_faulted holds rest asked (Ok n) none h e f = subst (Refuses holds rest asked) (sym e) h
or_faulted holds rest asked (Err y) none h e f = subst (Refuses holds rest asked) (sym f) refl

-- ---- how `diff` ends

pub diff_ends : {R W E : Type 0} (holds : List ℕ → Option (List ℕ)) (remaining : R → Option (List ℕ)) (contents : W → Option (List ℕ)) (told : E → Option (List ℕ)) (asked : Diff) (ignored : List Pattern) (input : R) (old new : Counted W) (err after : E) (answer : Result ℕ NoDiff) (status : ℕ)
    → IfOk answer (DiffTells holds (remaining input) contents asked ignored old new) → IfErr answer (DiffRefuses holds (remaining input) contents asked ignored old new) → IfOk answer (λ s. status ≡ s) → IfErr answer (λ none. status ≡ no_diff_status none) → IfErr answer (λ none. TakesLine told err after (no_diff_line none))
    → DiffEnds holds remaining contents told asked ignored input old new err status
diff_ends holds remaining contents told asked ignored input old new err after (Ok s) status t r e f l = inl (subst (DiffTells holds (remaining input) contents asked ignored old new) (sym e) t)
diff_ends holds remaining contents told asked ignored input old new err after (Err none) status t r e f l = inr (none, r, (f, (after, l)))

pub page_ends : {R W E : Type 0} (holds : List ℕ → Option (List ℕ)) (remaining : R → Option (List ℕ)) (contents : W → Option (List ℕ)) (told : E → Option (List ℕ)) (asked : Diff) (page : Page) (ignored : List Pattern) (input : R) (old new : Counted W) (err after : E) (answer : Result ℕ NoDiff) (status : ℕ)
    → IfOk answer (DiffShows holds (remaining input) contents asked page ignored old new) → IfErr answer (PageRefuses holds (remaining input) contents asked page ignored old new) → IfOk answer (λ s. status ≡ s) → IfErr answer (λ none. status ≡ no_diff_status none) → IfErr answer (λ none. TakesLine told err after (no_diff_line none))
    → PageEnds holds remaining contents told asked page ignored input old new err status
page_ends holds remaining contents told asked page ignored input old new err after (Ok s) status t r e f l = inl (subst (DiffShows holds (remaining input) contents asked page ignored old new) (sym e) t)
page_ends holds remaining contents told asked page ignored input old new err after (Err none) status t r e f l = inr (none, r, (f, (after, l)))
