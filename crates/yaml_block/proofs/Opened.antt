-- What is said of a node of which the start was read: from a rule to the one of which it is a part, and with the rest.
use Rattle.std.proofs.Common.{ℕ, ◌≤◌, List, [], ◌++◌, Result, Ok, Err, inl, inr, refl, sym, ap, subst, ◌∙◌, arith}
use Rattle.std.specs.Prelude.{IfOk}
use Rattle.std.proofs.lemmas.List.{append-nil}
use Rattle.yaml_definitions.specs.model.Event.{Event}
use Rattle.yaml_definitions.specs.grammar.Rules.{Rule, gives}
use Rattle.yaml_text.specs.Source.{place_of}
use Rattle.yaml_text.specs.declared.chars.Chars.{Chars}
use Rattle.yaml_text.specs.declared.fault.Fault.{Fault}
use Rattle.law_one_reading.specs.Readings.{End}
use Rattle.law_going_on.specs.GoingOn.{Goes, Rest, Here}
use Rattle.law_going_on.proofs.GoingOn.{rest_rest, rest_refused}
use Rattle.yaml_layout.specs.NodeAnswer.{Appends}
use Rattle.yaml_layout.specs.declared.level.Level.{Level}
use Rattle.yaml_layout.specs.declared.line.Line.{Line}
use Rattle.yaml_layout.proofs.AnswerLemmas.{appends_by}
use Rattle.yaml_block.specs.declared.block.nodes.Opened.{Opened}
use Rattle.yaml_block.specs.BlockCalls.{EndsLine, EndsOpened, DecidesOpened, begins, rest_rule, opened_at}

-- the same end is an end from a border before
pub ends_from : (s : Chars) (at further : ℕ) (r : Result Line Fault) → at ≤ further → IfOk r (EndsLine s further) → IfOk r (EndsLine s at)
ends_from s at further (Ok x) le h = record { line = h.line; onward = omega (arith, le, h.onward); after = h.after }
ends_from s at further (Err e) le h = h

pub opened_from : (s : Chars) (level : Level) (at further : ℕ) (r : Result Opened Fault) → at ≤ further → IfOk r (EndsOpened s level further) → IfOk r (EndsOpened s level at)
opened_from s level at further (Ok x) le h = record { starts = h.starts; onward = omega (arith, le, h.onward) }
opened_from s level at further (Err e) le h = h

-- what begins a reading by one rule begins one by another
pub opened_by : {S : Type 0} (R T : Rule (List Event)) (s : Chars) (level : Level) (i k : ℕ) (holds : S → List Event → Type 0) (old new : S) (r : Result Opened Fault) → ((j : ℕ) (es : List Event) → R i j es → T k j es)
    → Appends (λ found. begins R (rest_rule found s level)) i (λ found. place_of s (opened_at found)) holds old new r → Appends (λ found. begins T (rest_rule found s level)) k (λ found. place_of s (opened_at found)) holds old new r
opened_by R T s level i k holds old new r f a =
    appends_by (λ found. begins R (rest_rule found s level)) (λ found. begins T (rest_rule found s level)) i k (λ found. place_of s (opened_at found)) holds old new r (λ found es b j vs v. f j (es ++ vs) (b j vs v)) a

pub opened_rest : (s : Chars) (level : Level) (at further : ℕ) (R : Rule (List Event)) (E : End) (T : Rule (List Event)) (G : End) (r : Result Opened Fault) → Rest R E (place_of s at) T G (place_of s further) → DecidesOpened s level further T G r → DecidesOpened s level at R E r
opened_rest s level at further R E T G (Ok found) t d = rest_rest t d
opened_rest s level at further R E T G (Err e) t (inl m) = inl m
opened_rest s level at further R E T G (Err e) t (inr n) = inr (rest_refused t n)

-- a whole reading, after which nothing comes
pub whole_begins : (R : Rule (List Event)) (i a : ℕ) (es : List Event) → R i a es → begins R (gives []) i a es
whole_begins R i a es r j vs (e, f) = subst (λ m. R i m (es ++ vs)) (sym e) (subst (R i a) (sym (ap (λ z. es ++ z) f ∙ append-nil es)) r)

pub whole_goes : (R : Rule (List Event)) (E : End) (i a : ℕ) → Goes R E i Here a → Rest R E i (gives {V = List Event} []) Here a
whole_goes R E i a g = record { rest = λ j m v r e. (a, [], (refl, refl), g.goes j m v r e) }
