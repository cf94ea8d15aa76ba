-- What `clap` makes of words, for the commands that this program has.
use Rattle.std.proofs.Common.{◌≡◌, ◌∙◌, ◌==◌, ◌&&◌, ◌||◌, ◌⊎◌, ℕ, Bool, true, false, cond, List, [], ◌∷◌, map, Option, Some, None, is_some, option_map, refl, sym, ap, ap₂, subst, inl, inr, codes, IfErr, IfOk, IsUtf8, Result, bytes_eq, ok_or, unwrap_or, fold, string_bytes, String, Global, encode_utf8_all, subst₂}
use Rattle.std.specs.Prelude.{slice_get, if◌then◌else◌}
use Rattle.std.specs.Char.{encode_utf8}
use Rattle.std.specs.Str.{chars}
use Rattle.std.proofs.lemmas.Str.{encodes-chars, IsUtf8-string_bytes}
use Rattle.std.proofs.lemmas.Slice.Eq.{bytes_eq-Decides}
use Rattle.std.proofs.lemmas.Bool.{eqb-true}
use Rattle.clap.specs.Lexer.{long_of, name_and_value, short_of}
use Rattle.clap.specs.Kinds.{IsAmong, Kinds, or_else}
use Rattle.clap.specs.Walk.{Held, Names, Row, Rule, Text, Walk, arg_by_index, arg_by_long, arg_by_short, bundle_met, finished, idle, is_multiple, next_position, nothing_held, positional, positional_held, pushed, rows_after, settled, subcommand_met, takes_several, is_pending, to_positional, walked, word_met}
use Rattle.clap.specs.Simple.{App, Shape, built, built_leaf, entered, filled, inherited, is_simple, marked_built, names_of, subcommand_of, with_index, with_leaf_noted}
use Rattle.clap.specs.Faults.{bundle_fault, check_fault, defaults_fault, entered_fault, fault_of, flag_word_fault, flags_fault, is_simple_and_free, level_fault, settle_fault, step_fault, turn_fault, walk_fault, word_fault}
use Rattle.clap.specs.declared.error.kind.ErrorKind.{ErrorKind}
use Rattle.clap.specs.declared.error.kind.ErrorKind.TheVariants as kind
use Rattle.clap.proofs.FaultLemmas.{stopped_fault}
use Rattle.clap.proofs.WalkLemmas.{walk_stopped}
use Rattle.clap.proofs.OnLiterals.{clap_on_literals}
use Rattle.yaml_args.specs.Words.{Asks, RefusesWords, Says, call_of, files_of, is_dashed}
use Rattle.yaml_args.specs.declared.words.Asked.{Asked}
use Rattle.yaml_args.specs.declared.words.Asked.TheVariants.{Canon, Same, Events, Check}
use Rattle.yaml_args.specs.declared.words.WordsFault.{WordsFault}
use Rattle.yaml_args.specs.declared.words.WordsFault.TheVariants.{Usage}
use Rattle.yaml_args.specs.Grammar.{call_in, canon_app, check_app, events_app, fault_for, file_rule, same_app, whole_app}

-- ---- texts

-- the words are texts
abbrev pub AreTexts : List Text → Type 0
AreTexts [] = Unit {0}
AreTexts (word ∷ words) = IsUtf8 word × AreTexts words

-- what follows the hyphen of a text has a first character
front_char : (x : ℕ) (xs : Text) → IsUtf8 (45 ∷ x ∷ xs) → chars (x ∷ xs) ≡ [] → ⊥
unfolding chars encode_utf8
front_char x xs u none =
    let whole = encodes-chars (45 ∷ x ∷ xs) u in
    let bad : 45 ∷ [] ≡ 45 ∷ x ∷ xs = ap (λ (cs : List ℕ). encode_utf8_all (45 ∷ cs)) (sym none) ∙ whole in
    absurd (cc)

-- ---- kinds of error

or_else_end : (a : Kinds) → or_else a [] ≡ a
or_else_end [] = refl
or_else_end (k ∷ ks) = refl

none_after : (a b : Kinds) → or_else a b ≡ [] → b ≡ []
none_after [] b h = h
none_after (k ∷ ks) b h = absurd (cc)

none_before : (a b : Kinds) → or_else a b ≡ [] → a ≡ []
none_before [] b h = refl
none_before (k ∷ ks) b h = absurd (cc)

some_kind : (k : ErrorKind) (a : Kinds) → a ≡ k ∷ [] → a ≡ [] → ⊥
some_kind k a e h = let bad : k ∷ [] ≡ [] = sym e ∙ h in absurd (cc)

-- ---- what a word looks like

abbrev dashes : Text
dashes = 45 ∷ 45 ∷ []

plain_one : (b : ℕ) (e : Bool) → (b == 45) ≡ e → (long_of (b ∷ []) ≡ None) × (short_of (b ∷ []) ≡ None)
plain_one b true e = (rw e refl, rw e refl)
plain_one b false e = (rw e refl, rw e refl)

plain_reads : (v : Text) → is_dashed v ≡ false → (long_of v ≡ None) × (short_of v ≡ None)
plain_reads [] d = (refl, refl)
plain_reads (b ∷ []) d = plain_one b (b == 45) refl
plain_reads (b ∷ c ∷ more) d = (rw d refl, rw d refl)

-- a dashed word that is not `--` is a flag
abbrev IsFlag : Text → Type 0
IsFlag v = ((p : Text × Option Text) × (long_of v ≡ Some p)) ⊎ ((long_of v ≡ None) × ((x : ℕ) × (xs : Text) × (v ≡ 45 ∷ x ∷ xs) × (short_of v ≡ Some (x ∷ xs))))

flag_from : (b c : ℕ) (more : Text) → (b == 45) ≡ true → (e : Bool) → (c == 45) ≡ e → bytes_eq (b ∷ c ∷ more) dashes ≡ false → IsFlag (b ∷ c ∷ more)
flag_from b c [] h true t n =
    let bad : true ≡ false = rw (h, t) at n in
    absurd (cc)
flag_from b c (m ∷ ms) h true t n = inl (name_and_value (m ∷ ms), rw (h, t) refl)
flag_from b c more h false t n = inr (rw (h, t) refl, (c, more, ap (λ (x : ℕ). x ∷ c ∷ more) (eqb-true b 45 h), rw (h, t) refl))

dashed_reads : (v : Text) → is_dashed v ≡ true → bytes_eq v dashes ≡ false → IsFlag v
dashed_reads [] d n = absurd (cc)
dashed_reads (b ∷ []) d n = absurd (cc)
dashed_reads (b ∷ c ∷ more) d n = flag_from b c more d (c == 45) refl n

-- ---- a walk over positionals alone

abbrev at : Held → ℕ → Bool → Walk
at h p t = record { held = h; waiting = idle; position = p; is_trailing = t; stopped = None }

-- the positional takes one value
abbrev IsSingle : Option Rule → Type 0
IsSingle None = Unit {0}
IsSingle (Some a) = (is_multiple a ≡ false) × (a.trailing_var_arg ≡ false)

or_false : (t b : Bool) → b ≡ false → (t || b) ≡ t
or_false true b e = refl
or_false false b e = e

module _ (c : List Rule) where
  -- what a value leaves
  abbrev after : Option Rule → Held → ℕ → Text → Held × ℕ
  after None h p v = (h, p)
  after (Some a) h p v = (positional_held c a v h, next_position a p)

  goes : (o : Option Rule) → IsSingle o → (h : Held) (p : ℕ) (t : Bool) (v : Text) → to_positional c o v (at h p t) h ≡ at (after o h p v).0 (after o h p v).1 t
  goes None single h p t v = refl
  goes (Some a) single h p t v = λ i. record {
    held = positional_held c a v h;
    waiting = cond (single.0 i) positional idle;
    position = next_position a p;
    is_trailing = or_false t a.trailing_var_arg single.1 i;
    stopped = None;
  }

  skip_kept : (o : Option Rule) (h : Held) (p : ℕ) (v : Text) → (after o h p v).0.skip ≡ h.skip
  skip_kept None h p v = refl
  skip_kept (Some a) h p v = go (is_pending a h.pending && takes_several a)
    where
      go : (b : Bool) → (pushed a.id v (cond b h (settled c h))).skip ≡ h.skip
      go true = refl
      go false = refl

-- each argument of the command is a file's name
pub record HasFilesAlone (s : Shape) : Type 0 where
  pub no_long : (name : Text) → arg_by_long s.rules name ≡ None
  pub no_short : (x : ℕ) → arg_by_short s.rules x ≡ None
  pub single : (p : ℕ) → IsSingle (arg_by_index s.rules p)

module _ (s : Shape) (alone : HasFilesAlone s) where
  -- where a walk stands past a value
  abbrev next_held : Held → ℕ → Text → Held
  next_held h p v = (after s.rules (arg_by_index s.rules p) h p v).0

  abbrev next_at : Held → ℕ → Text → ℕ
  next_at h p v = (after s.rules (arg_by_index s.rules p) h p v).1

  trailing_step : (h : Held) (p : ℕ) (v : Text) → walked s.rules [] (at h p true) v ≡ at (next_held h p v) (next_at h p v) true
  unfolding walked
  trailing_step h p v = goes s.rules (arg_by_index s.rules p) (alone.single p) h p true v

  plain_step : (h : Held) (p : ℕ) (v : Text) → bytes_eq v dashes ≡ false → is_dashed v ≡ false → walked s.rules [] (at h p false) v ≡ at (next_held h p v) (next_at h p v) false
  unfolding walked
  plain_step h p v n d =
      let r = plain_reads v d in
      rw (n, r.0, r.1) (goes s.rules (arg_by_index s.rules p) (alone.single p) h p false v)

  plain_turn : (h : Held) (p : ℕ) (v : Text) → bytes_eq v dashes ≡ false → is_dashed v ≡ false → turn_fault s [] (at h p false) v ≡ turn_fault s [] (at h p true) v
  plain_turn h p v n d =
      let r = plain_reads v d in
      rw (n, r.0, r.1) refl

  dashes_step : (h : Held) (p : ℕ) (v : Text) → bytes_eq v dashes ≡ true → walked s.rules [] (at h p false) v ≡ at h p true
  unfolding walked
  dashes_step h p v e = rw e refl

  dashes_turn : (h : Held) (p : ℕ) (v : Text) → bytes_eq v dashes ≡ true → turn_fault s [] (at h p false) v ≡ []
  dashes_turn h p v e = rw e refl

  bundle_refused : (h : Held) (x : ℕ) (xs : Text) → h.skip ≡ 0 → (o : Option ℕ) → slice_get (chars (x ∷ xs)) 0 ≡ o → (o ≡ None → ⊥) → bundle_fault s.rules s.args_override_self (x ∷ xs) h ≡ kind.UnknownArgument ∷ []
  unfolding flags_fault
  bundle_refused h x xs k None e n = absurd (n refl)
  bundle_refused h x xs k (Some y) e n = rw (k, e, alone.no_short y) refl

  no_front : (cs : List ℕ) → slice_get cs 0 ≡ None → cs ≡ []
  no_front [] e = refl
  no_front (x ∷ xs) e = absurd (cc)

  flag_refused : (h : Held) (v : Text) → h.skip ≡ 0 → IsUtf8 v → IsFlag v → flag_word_fault s.rules s.args_override_self (long_of v) v h ≡ kind.UnknownArgument ∷ []
  flag_refused h v k u (inl (p, e)) = rw (e, alone.no_long p.0) refl
  flag_refused h v k u (inr (e, (x, xs, is, short))) =
      rw (e, short) (bundle_refused h x xs k (slice_get (chars (x ∷ xs)) 0) refl (λ none. front_char x xs (subst IsUtf8 is u) (no_front (chars (x ∷ xs)) none)))

  dashed_turn : (h : Held) (p : ℕ) (v : Text) → h.skip ≡ 0 → IsUtf8 v → bytes_eq v dashes ≡ false → is_dashed v ≡ true → turn_fault s [] (at h p false) v ≡ [] → ⊥
  dashed_turn h p v k u n d none =
      let flag = flag_refused h v k u (dashed_reads v d n) in
      let first = none_before (word_fault s [] false idle v h) (step_fault s p (word_met s.rules [] false idle p v h).0 (word_met s.rules [] false idle p v h).1) none in
      some_kind kind.UnknownArgument (flag_word_fault s.rules s.args_override_self (long_of v) v h) flag (rw n at first)

  -- ---- all words

  abbrev Fits : Held → ℕ → List Text → Option (List Text) → Type 0
  Fits h p words None = walk_fault s [] (at h p false) words ≡ [] → ⊥
  Fits h p words (Some files) = ((fold (walked s.rules []) (at h p false) words).held ≡ (fold (walked s.rules []) (at h p true) files).held) × (walk_fault s [] (at h p false) words ≡ walk_fault s [] (at h p true) files)

  more_plain : (h : Held) (p : ℕ) (v : Text) (words : List Text) → bytes_eq v dashes ≡ false → is_dashed v ≡ false → (o : Option (List Text)) → Fits (next_held h p v) (next_at h p v) words o → Fits h p (v ∷ words) (option_map (λ files. v ∷ files) o)
  unfolding walk_fault
  more_plain h p v words n d None f = λ none.
      let rest = none_after (turn_fault s [] (at h p false) v) (walk_fault s [] (walked s.rules [] (at h p false) v) words) none in
      f (ap (λ (w : Walk). walk_fault s [] w words) (sym (plain_step h p v n d)) ∙ rest)
  more_plain h p v words n d (Some files) f = (
    ap (λ (w : Walk). (fold (walked s.rules []) w words).held) (plain_step h p v n d) ∙ f.0 ∙ ap (λ (w : Walk). (fold (walked s.rules []) w files).held) (sym (trailing_step h p v)),
    ap₂ or_else (plain_turn h p v n d) (ap (λ (w : Walk). walk_fault s [] w words) (plain_step h p v n d) ∙ f.1 ∙ ap (λ (w : Walk). walk_fault s [] w files) (sym (trailing_step h p v))),
  )

  past_dashes : (h : Held) (p : ℕ) (v : Text) (words : List Text) → bytes_eq v dashes ≡ true → Fits h p (v ∷ words) (Some words)
  unfolding walk_fault
  past_dashes h p v words e = (
    ap (λ (w : Walk). (fold (walked s.rules []) w words).held) (dashes_step h p v e),
    ap₂ or_else (dashes_turn h p v e) (ap (λ (w : Walk). walk_fault s [] w words) (dashes_step h p v e)),
  )

  at_dashed : (h : Held) (p : ℕ) (v : Text) (words : List Text) → h.skip ≡ 0 → IsUtf8 v → bytes_eq v dashes ≡ false → is_dashed v ≡ true → Fits h p (v ∷ words) None
  unfolding walk_fault
  at_dashed h p v words k u n d none = dashed_turn h p v k u n d (none_before (turn_fault s [] (at h p false) v) (walk_fault s [] (walked s.rules [] (at h p false) v) words) none)

  first_word : (h : Held) (p : ℕ) (v : Text) (words : List Text) → h.skip ≡ 0 → IsUtf8 v → Fits (next_held h p v) (next_at h p v) words (files_of words)
      → (b : Bool) → bytes_eq v dashes ≡ b → (d : Bool) → is_dashed v ≡ d → Fits h p (v ∷ words) (if b then Some words else (if d then None else option_map (λ files. v ∷ files) (files_of words)))
  first_word h p v words k u rest true e d f = past_dashes h p v words e
  first_word h p v words k u rest false e true f = at_dashed h p v words k u e f
  first_word h p v words k u rest false e false f = more_plain h p v words e f (files_of words) rest

  -- A walk over the words is one over the files that they name, past a `--`.
  pub walks : (h : Held) (p : ℕ) (words : List Text) → h.skip ≡ 0 → AreTexts words → Fits h p words (files_of words)
  unfolding walk_fault
  walks h p [] k u = (refl, refl)
  walks h p (v ∷ words) k u = first_word h p v words k u.0 (walks (next_held h p v) (next_at h p v) words (skip_kept s.rules (arg_by_index s.rules p) h p v ∙ k) u.1) (bytes_eq v dashes) refl (is_dashed v) refl

  -- ---- a whole command

  abbrev end_of : List Text → Held
  end_of files = (fold (walked s.rules []) (at nothing_held 1 true) files).held

  abbrev fault_at : Held → Kinds → Kinds
  fault_at end kinds = or_else kinds (or_else (settle_fault s.rules s.args_override_self end) (or_else (defaults_fault (settled s.rules end).rows s.rules) (check_fault s (finished s.rules end) false)))

  abbrev fault_with : List Text → Kinds
  fault_with files = fault_at (end_of files) (walk_fault s [] (at nothing_held 1 true) files)

  -- the command by the files that its words name
  abbrev pub Serves : List Text → Option (List Text) → Type 0
  Serves words None = level_fault s [] nothing_held words false [] ≡ [] → ⊥
  Serves words (Some files) = (level_fault s [] nothing_held words false [] ≡ fault_with files) × (rows_after s.rules [] words ≡ finished s.rules (end_of files))

  serves_as : (words : List Text) (o : Option (List Text)) → Fits nothing_held 1 words o → Serves words o
  serves_as words None f = λ none. f (none_before (walk_fault s [] (at nothing_held 1 false) words) _ none)
  serves_as words (Some files) f = (ap₂ fault_at f.0 f.1, ap (finished s.rules) f.0)

  pub serves : (words : List Text) → AreTexts words → Serves words (files_of words)
  serves words u = serves_as words (files_of words) (walks nothing_held 1 words refl u)

-- ---- the commands of this program

abbrev program : App
program = built whole_app

abbrev top : Shape
top = program.top

abbrev names : Names
names = names_of program

-- a command below the top, as `clap` builds it
abbrev leaf : App → Shape
leaf app = built_leaf (inherited (with_leaf_noted (marked_built whole_app.top)) app.top)

-- the command is one of which `clap` says what it makes of words
pub whole_is_simple : is_simple whole_app ≡ true
unfolding clap_on_literals
whole_is_simple = refl

pub whole_is_free : is_simple_and_free whole_app ≡ true
unfolding clap_on_literals
whole_is_free = refl

abbrev built_rule : ℕ → Text → Bool → Rule
built_rule k name required = with_index k (filled (file_rule name required))

one_alone : (b : Bool) (name : Text) (required : Bool) → IsSingle (cond b (Some (built_rule 1 name required)) None)
one_alone true name required = (refl, refl)
one_alone false name required = tt

two_alone : (b d : Bool) (first second : Text) → IsSingle (cond b (Some (built_rule 1 first true)) (cond d (Some (built_rule 2 second true)) None))
two_alone true d first second = (refl, refl)
two_alone false true first second = (refl, refl)
two_alone false false first second = tt

canon_alone : HasFilesAlone (leaf canon_app)
canon_alone = record {
  no_long = λ name. refl;
  no_short = λ x. refl;
  single = λ p. one_alone (1 == p) (codes "FILE") false;
}

events_alone : HasFilesAlone (leaf events_app)
events_alone = record {
  no_long = λ name. refl;
  no_short = λ x. refl;
  single = λ p. one_alone (1 == p) (codes "FILE") false;
}

same_alone : HasFilesAlone (leaf same_app)
same_alone = record {
  no_long = λ name. refl;
  no_short = λ x. refl;
  single = λ p. two_alone (1 == p) (2 == p) (codes "A") (codes "B");
}

check_alone : HasFilesAlone (leaf check_app)
check_alone = record {
  no_long = λ name. refl;
  no_short = λ x. refl;
  single = λ p. two_alone (1 == p) (2 == p) (codes "FILE") (codes "EVENTS");
}

abbrev start : Walk
start = at nothing_held 1 false

-- what a walk at the top, and its faults, come to
abbrev total : Walk → Kinds → Kinds
total w kinds =
    let stop = w.stopped in
    or_else kinds (or_else (entered_fault program stop) (or_else (settle_fault top.rules top.args_override_self w.held)
    (or_else (defaults_fault (settled top.rules w.held).rows top.rules) (check_fault top (finished top.rules w.held) (is_some (entered program stop))))))

fault_is : (words : List Text) → fault_of whole_app words ≡ total (fold (walked top.rules names) start words) (walk_fault top names start words)
fault_is words = refl

module _ (name : Text) (rest : List Text) (step : walked top.rules names start name ≡ record start { stopped = Some (name, []) }) (turn : turn_fault top names start name ≡ []) where
  walked_past : fold (walked top.rules names) start (name ∷ rest) ≡ record start { stopped = Some (name, rest) }
  walked_past = ap (λ (w : Walk). fold (walked top.rules names) w rest) step ∙ sym (walk_stopped top.rules names start name [] rest)

  fault_past : walk_fault top names start (name ∷ rest) ≡ []
  unfolding walk_fault
  fault_past = ap₂ or_else turn (ap (λ (w : Walk). walk_fault top names w rest) step ∙ stopped_fault top names start (name, []) rest)

  named_fault : fault_of whole_app (name ∷ rest) ≡ total (record start { stopped = Some (name, rest) }) []
  named_fault = fault_is (name ∷ rest) ∙ ap₂ total walked_past fault_past

  named_rows : subcommand_of whole_app (name ∷ rest) ≡ entered program (Some (name, rest))
  named_rows = ap (λ (w : Walk). entered program w.stopped) walked_past

canon_fault : (rest : List Text) → fault_of whole_app (codes "canon" ∷ rest) ≡ level_fault (leaf canon_app) [] nothing_held rest false []
unfolding clap_on_literals
canon_fault rest = named_fault (codes "canon") rest refl refl ∙ or_else_end (level_fault (leaf canon_app) [] nothing_held rest false [])

canon_rows : (rest : List Text) → subcommand_of whole_app (codes "canon" ∷ rest) ≡ Some (codes "canon", rows_after (leaf canon_app).rules [] rest)
unfolding clap_on_literals
canon_rows rest = named_rows (codes "canon") rest refl refl

same_fault : (rest : List Text) → fault_of whole_app (codes "same" ∷ rest) ≡ level_fault (leaf same_app) [] nothing_held rest false []
unfolding clap_on_literals
same_fault rest = named_fault (codes "same") rest refl refl ∙ or_else_end (level_fault (leaf same_app) [] nothing_held rest false [])

same_rows : (rest : List Text) → subcommand_of whole_app (codes "same" ∷ rest) ≡ Some (codes "same", rows_after (leaf same_app).rules [] rest)
unfolding clap_on_literals
same_rows rest = named_rows (codes "same") rest refl refl

events_fault : (rest : List Text) → fault_of whole_app (codes "events" ∷ rest) ≡ level_fault (leaf events_app) [] nothing_held rest false []
unfolding clap_on_literals
events_fault rest = named_fault (codes "events") rest refl refl ∙ or_else_end (level_fault (leaf events_app) [] nothing_held rest false [])

events_rows : (rest : List Text) → subcommand_of whole_app (codes "events" ∷ rest) ≡ Some (codes "events", rows_after (leaf events_app).rules [] rest)
unfolding clap_on_literals
events_rows rest = named_rows (codes "events") rest refl refl

check_faults : (rest : List Text) → fault_of whole_app (codes "check" ∷ rest) ≡ level_fault (leaf check_app) [] nothing_held rest false []
unfolding clap_on_literals
check_faults rest = named_fault (codes "check") rest refl refl ∙ or_else_end (level_fault (leaf check_app) [] nothing_held rest false [])

check_rows : (rest : List Text) → subcommand_of whole_app (codes "check" ∷ rest) ≡ Some (codes "check", rows_after (leaf check_app).rules [] rest)
unfolding clap_on_literals
check_rows rest = named_rows (codes "check") rest refl refl

-- ---- words that name no command

abbrev IsNoCommand : Text → Type 0
IsNoCommand v = (bytes_eq (codes "canon") v ≡ false) × (bytes_eq (codes "same") v ≡ false) × (bytes_eq (codes "events") v ≡ false) × (bytes_eq (codes "check") v ≡ false)

no_command : (v : Text) → IsNoCommand v → subcommand_met names idle v ≡ None
no_command v n = rw (n.0, n.1, n.2, n.3) refl

no_words : fault_of whole_app [] ≡ [] → ⊥
unfolding clap_on_literals
no_words h = absurd (cc)

-- a word that is no command and not `--`
refused_word : (v : Text) → IsNoCommand v → bytes_eq v dashes ≡ false → turn_fault top names start v ≡ [] → ⊥
unfolding flags_fault bundle_met
refused_word v n e h = long_case (long_of v) refl
  where
    met : subcommand_met names idle v ≡ None
    met = no_command v n

    first_case : (x : ℕ) (xs : Text) → long_of v ≡ None → short_of v ≡ Some (x ∷ xs) → (o : Option ℕ) → slice_get (chars (x ∷ xs)) 0 ≡ o → ⊥
    first_case x xs l s None c =
        let bad : kind.UnknownArgument ∷ kind.InvalidSubcommand ∷ [] ≡ [] = rw (met, e, l, s, c) at h in
        absurd (cc)
    first_case x xs l s (Some y) c =
        let bad : kind.UnknownArgument ∷ [] ≡ [] = rw (met, e, l, s, c) at h in
        absurd (cc)

    bundle_case : (flags : Text) → long_of v ≡ None → short_of v ≡ Some flags → ⊥
    bundle_case [] l s =
        let bad : kind.UnknownArgument ∷ kind.InvalidSubcommand ∷ [] ≡ [] = rw (met, e, l, s) at h in
        absurd (cc)
    bundle_case (x ∷ xs) l s = first_case x xs l s (slice_get (chars (x ∷ xs)) 0) refl

    short_case : (o : Option Text) → long_of v ≡ None → short_of v ≡ o → ⊥
    short_case None l s =
        let bad : kind.UnknownArgument ∷ kind.InvalidSubcommand ∷ [] ≡ [] = rw (met, e, l, s) at h in
        absurd (cc)
    short_case (Some flags) l s = bundle_case flags l s

    long_case : (o : Option (Text × Option Text)) → long_of v ≡ o → ⊥
    long_case (Some p) l =
        let bad : kind.UnknownArgument ∷ [] ≡ [] = rw (met, e, l) at h in
        absurd (cc)
    long_case None l = short_case (short_of v) l refl

other_refused : (v : Text) (rest : List Text) → IsNoCommand v → (b : Bool) → bytes_eq v dashes ≡ b → fault_of whole_app (v ∷ rest) ≡ [] → ⊥
unfolding walk_fault walked defaults_fault
other_refused v rest n false e h = refused_word v n e (none_before (turn_fault top names start v) (walk_fault top names (walked top.rules names start v) rest) (none_before (walk_fault top names start (v ∷ rest)) _ h))
other_refused v rest n true e h = past rest h
  where
    met : subcommand_met names idle v ≡ None
    met = no_command v n

    step : walked top.rules names start v ≡ at nothing_held 1 true
    step = rw (met, e) refl

    turn : turn_fault top names start v ≡ []
    turn = rw (met, e) refl

    past : (words : List Text) → fault_of whole_app (v ∷ words) ≡ [] → ⊥
    past [] k =
        let is : total (at nothing_held 1 true) [] ≡ [] = sym (ap₂ total step (ap₂ or_else turn refl)) ∙ k in
        absurd (cc)
    past (w ∷ words) k =
        let first = none_after (turn_fault top names start v) (walk_fault top names (walked top.rules names start v) (w ∷ words)) (none_before (walk_fault top names start (v ∷ w ∷ words)) _ k) in
        let bad : or_else (kind.UnknownArgument ∷ kind.InvalidSubcommand ∷ []) (walk_fault top names (walked top.rules names (at nothing_held 1 true) w) words) ≡ [] = ap (λ (x : Walk). walk_fault top names x (w ∷ words)) (sym step) ∙ first in
        absurd (cc)

-- ---- what is asked

-- what was found below the top says the same as the words
pub record Parsed (words : List Text) (name : Text) (rows : List Row) : Type 0 where
  pub call : Text × List Text
  pub found : call_in name rows ≡ Some call
  pub says : Says words call

abbrev pub HasCall : List Text → Option (Text × List Row) → Type 0
HasCall words None = ⊥
HasCall words (Some p) = Parsed words p.0 p.1

canon_call : (rest : List Text) (o : Option (List Text)) → files_of rest ≡ o → Serves (leaf canon_app) canon_alone rest o → level_fault (leaf canon_app) [] nothing_held rest false [] ≡ []
    → Parsed (codes "canon" ∷ rest) (codes "canon") (rows_after (leaf canon_app).rules [] rest)
unfolding clap_on_literals
canon_call rest None e f h = absurd (f h)
canon_call rest (Some []) e f h = record { call = (codes "canon", []); found = ap (call_in (codes "canon")) f.1; says = (rest, refl, e) }
canon_call rest (Some (a ∷ [])) e f h = record { call = (codes "canon", a ∷ []); found = ap (call_in (codes "canon")) f.1; says = (rest, refl, e) }
canon_call rest (Some (a ∷ b ∷ more)) e f h =
    let bad : kind.UnknownArgument ∷ [] ≡ [] = sym f.0 ∙ h in
    absurd (cc)

same_call : (rest : List Text) (o : Option (List Text)) → files_of rest ≡ o → Serves (leaf same_app) same_alone rest o → level_fault (leaf same_app) [] nothing_held rest false [] ≡ []
    → Parsed (codes "same" ∷ rest) (codes "same") (rows_after (leaf same_app).rules [] rest)
unfolding clap_on_literals
same_call rest None e f h = absurd (f h)
same_call rest (Some []) e f h =
    let bad : kind.MissingRequiredArgument ∷ [] ≡ [] = sym f.0 ∙ h in
    absurd (cc)
same_call rest (Some (a ∷ [])) e f h =
    let bad : kind.MissingRequiredArgument ∷ [] ≡ [] = sym f.0 ∙ h in
    absurd (cc)
same_call rest (Some (a ∷ b ∷ [])) e f h = record { call = (codes "same", a ∷ b ∷ []); found = ap (call_in (codes "same")) f.1; says = (rest, refl, e) }
same_call rest (Some (a ∷ b ∷ d ∷ more)) e f h =
    let bad : kind.UnknownArgument ∷ [] ≡ [] = sym f.0 ∙ h in
    absurd (cc)

events_call : (rest : List Text) (o : Option (List Text)) → files_of rest ≡ o → Serves (leaf events_app) events_alone rest o → level_fault (leaf events_app) [] nothing_held rest false [] ≡ []
    → Parsed (codes "events" ∷ rest) (codes "events") (rows_after (leaf events_app).rules [] rest)
unfolding clap_on_literals
events_call rest None e f h = absurd (f h)
events_call rest (Some []) e f h = record { call = (codes "events", []); found = ap (call_in (codes "events")) f.1; says = (rest, refl, e) }
events_call rest (Some (a ∷ [])) e f h = record { call = (codes "events", a ∷ []); found = ap (call_in (codes "events")) f.1; says = (rest, refl, e) }
events_call rest (Some (a ∷ b ∷ more)) e f h =
    let bad : kind.UnknownArgument ∷ [] ≡ [] = sym f.0 ∙ h in
    absurd (cc)

check_call : (rest : List Text) (o : Option (List Text)) → files_of rest ≡ o → Serves (leaf check_app) check_alone rest o → level_fault (leaf check_app) [] nothing_held rest false [] ≡ []
    → Parsed (codes "check" ∷ rest) (codes "check") (rows_after (leaf check_app).rules [] rest)
unfolding clap_on_literals
check_call rest None e f h = absurd (f h)
check_call rest (Some []) e f h =
    let bad : kind.MissingRequiredArgument ∷ [] ≡ [] = sym f.0 ∙ h in
    absurd (cc)
check_call rest (Some (a ∷ [])) e f h =
    let bad : kind.MissingRequiredArgument ∷ [] ≡ [] = sym f.0 ∙ h in
    absurd (cc)
check_call rest (Some (a ∷ b ∷ [])) e f h = record { call = (codes "check", a ∷ b ∷ []); found = ap (call_in (codes "check")) f.1; says = (rest, refl, e) }
check_call rest (Some (a ∷ b ∷ d ∷ more)) e f h =
    let bad : kind.UnknownArgument ∷ [] ≡ [] = sym f.0 ∙ h in
    absurd (cc)

-- the words of a command, whose first word is told by a test
module _ (name : Text) (app : App) (alone : HasFilesAlone (leaf app))
    (fault_as : (rest : List Text) → fault_of whole_app (name ∷ rest) ≡ level_fault (leaf app) [] nothing_held rest false [])
    (rows_as : (rest : List Text) → subcommand_of whole_app (name ∷ rest) ≡ Some (name, rows_after (leaf app).rules [] rest))
    (call_as : (rest : List Text) (o : Option (List Text)) → files_of rest ≡ o → Serves (leaf app) alone rest o → level_fault (leaf app) [] nothing_held rest false [] ≡ [] → Parsed (name ∷ rest) name (rows_after (leaf app).rules [] rest)) where
  at_command : (v : Text) (rest : List Text) → AreTexts rest → fault_of whole_app (v ∷ rest) ≡ [] → bytes_eq name v ≡ true → HasCall (v ∷ rest) (subcommand_of whole_app (v ∷ rest))
  at_command v rest u h e =
      let is : name ≡ v = (bytes_eq-Decides name v).0 e in
      let none : fault_of whole_app (name ∷ rest) ≡ [] = ap (λ (w : Text). fault_of whole_app (w ∷ rest)) is ∙ h in
      let call = call_as rest (files_of rest) refl (serves (leaf app) alone rest u) (sym (fault_as rest) ∙ none) in
      subst (λ (w : Text). HasCall (w ∷ rest) (subcommand_of whole_app (w ∷ rest))) is (subst (HasCall (name ∷ rest)) (sym (rows_as rest)) call)

by_first : (v : Text) (rest : List Text) → AreTexts rest → fault_of whole_app (v ∷ rest) ≡ []
    → (a b c d : Bool) → bytes_eq (codes "canon") v ≡ a → bytes_eq (codes "same") v ≡ b → bytes_eq (codes "events") v ≡ c → bytes_eq (codes "check") v ≡ d
    → HasCall (v ∷ rest) (subcommand_of whole_app (v ∷ rest))
by_first v rest u h true b c d ea eb ec ed = at_command (codes "canon") canon_app canon_alone canon_fault canon_rows canon_call v rest u h ea
by_first v rest u h false true c d ea eb ec ed = at_command (codes "same") same_app same_alone same_fault same_rows same_call v rest u h eb
by_first v rest u h false false true d ea eb ec ed = at_command (codes "events") events_app events_alone events_fault events_rows events_call v rest u h ec
by_first v rest u h false false false true ea eb ec ed = at_command (codes "check") check_app check_alone check_faults check_rows check_call v rest u h ed
by_first v rest u h false false false false ea eb ec ed = absurd (other_refused v rest (ea, eb, ec, ed) (bytes_eq v dashes) refl h)

-- Words of which no fault is told are a call, and what was found says the same one.
pub has_call : (words : List Text) → AreTexts words → fault_of whole_app words ≡ [] → HasCall words (subcommand_of whole_app words)
has_call [] u h = absurd (no_words h)
has_call (v ∷ rest) u h = by_first v rest u.1 h (bytes_eq (codes "canon") v) (bytes_eq (codes "same") v) (bytes_eq (codes "events") v) (bytes_eq (codes "check") v) refl refl refl refl

-- ---- and no fault is told of words that are a call

served : (s : Shape) (alone : HasFilesAlone s) (words files : List Text) → AreTexts words → files_of words ≡ Some files → level_fault s [] nothing_held words false [] ≡ fault_with s alone files
served s alone words files u e =
    let f : Serves s alone words (Some files) = subst (Serves s alone words) e (serves s alone words u) in
    f.0

pub no_fault : (words : List Text) → AreTexts words → (asked : Asked) → Asks words asked → fault_of whole_app words ≡ []
unfolding clap_on_literals
no_fault words u (Canon None) (rest, is, e) =
    let t : AreTexts (codes "canon" ∷ rest) = subst AreTexts is u in
    ap (fault_of whole_app) is ∙ canon_fault rest ∙ served (leaf canon_app) canon_alone rest [] t.1 e
no_fault words u (Canon (Some file)) (rest, is, e) =
    let t : AreTexts (codes "canon" ∷ rest) = subst AreTexts is u in
    ap (fault_of whole_app) is ∙ canon_fault rest ∙ served (leaf canon_app) canon_alone rest (file.now ∷ []) t.1 e
no_fault words u (Same left right) (rest, is, e) =
    let t : AreTexts (codes "same" ∷ rest) = subst AreTexts is u in
    ap (fault_of whole_app) is ∙ same_fault rest ∙ served (leaf same_app) same_alone rest (left.now ∷ right.now ∷ []) t.1 e
no_fault words u (Events None) (rest, is, e) =
    let t : AreTexts (codes "events" ∷ rest) = subst AreTexts is u in
    ap (fault_of whole_app) is ∙ events_fault rest ∙ served (leaf events_app) events_alone rest [] t.1 e
no_fault words u (Events (Some file)) (rest, is, e) =
    let t : AreTexts (codes "events" ∷ rest) = subst AreTexts is u in
    ap (fault_of whole_app) is ∙ events_fault rest ∙ served (leaf events_app) events_alone rest (file.now ∷ []) t.1 e
no_fault words u (Check file lines) (rest, is, e) =
    let t : AreTexts (codes "check" ∷ rest) = subst AreTexts is u in
    ap (fault_of whole_app) is ∙ check_faults rest ∙ served (leaf check_app) check_alone rest (file.now ∷ lines.now ∷ []) t.1 e

-- ---- errors

among_none : (k : ErrorKind) (kinds : Kinds) → kinds ≡ [] → IsAmong k kinds → ⊥
among_none k [] e h = h
among_none k (x ∷ xs) e h = absurd (cc)

-- an error that may come says why it is not told what the words ask for
pub words_fail : (words : List Text) → AreTexts words → (k : ErrorKind) → (k ≡ kind.OutOfMemory) ⊎ IsAmong k (fault_of whole_app words) → RefusesWords words (fault_for k)
words_fail words u kind.OutOfMemory h = tt
words_fail words u _ (inl e) = absurd (cc)
words_fail words u k (inr h) = λ asked asks. among_none k (fault_of whole_app words) (no_fault words u asked asks) h

-- ---- from what `clap` answers

pub are_texts : (words : List (String Global)) → AreTexts (map string_bytes words)
are_texts [] = tt
are_texts (word ∷ words) = (IsUtf8-string_bytes word, are_texts words)

-- the command below the top, and what was found for it
abbrev pub Entered : List Text → Option Text → Option (List Row) → Type 0
Entered words name rows = (n : Text) × (r : List Row) × (name ≡ Some n) × (rows ≡ Some r) × Parsed words n r

pub entered_call : {B : Type 0} (f : B → Text) (g : B → List Row) (sub : Option B) (words : List Text) → HasCall words (option_map (λ b. (f b, g b)) sub)
    → Entered words (option_map f sub) (option_map (λ (p : Text × List Row). p.1) (option_map (λ b. (f b, g b)) sub))
entered_call f g None words h = absurd h
entered_call f g (Some b) words h = (f b, g b, refl, refl, h)

abbrev pub Answers : List Text → Result Asked WordsFault → Type 0
Answers words r = IfOk r (Asks words) × IfErr r (RefusesWords words)

pub call_chosen : (words : List Text) (o : Option Asked) (name : Text) (rows : List Row) → Parsed words name rows → option_map call_of o ≡ call_in name rows → Answers words (ok_or o Usage)
call_chosen words None name rows p e =
    let bad : None ≡ Some p.call = e ∙ p.found in
    absurd (cc)
call_chosen words (Some asked) name rows p e =
    let same : call_of asked ≡ p.call = ap (λ (o : Option (Text × List Text)). unwrap_or o (call_of asked)) (e ∙ p.found) in
    (subst (Says words) (sym same) p.says, tt)

pub joined : (words : List Text) (n : Text) (r : List Row) (name : Option Text) (rows : Option (List Row)) → Entered words name rows → Some n ≡ name → Some r ≡ rows → Parsed words n r
joined words n r name rows h a b =
    let same_name : h.0 ≡ n = ap (λ (o : Option Text). unwrap_or o n) (sym h.2 ∙ sym a) in
    let same_rows : h.1 ≡ r = ap (λ (o : Option (List Row)). unwrap_or o r) (sym h.3 ∙ sym b) in
    subst₂ (Parsed words) same_name same_rows h.4

-- words say one call at most
pub one_call : (words : List Text) (a b : Text × List Text) → Says words a → Says words b → a ≡ b
one_call words a b (r, is, e) (s, js, f) =
    let whole : a.0 ∷ r ≡ b.0 ∷ s = sym is ∙ js in
    let first : a.0 ≡ b.0 = cc in
    let rest : r ≡ s = cc in
    let files : Some a.1 ≡ Some b.1 = sym e ∙ ap files_of rest ∙ f in
    let names : a.1 ≡ b.1 = cc in
    λ i. (first i, names i)
