-- What holds of every reading's value: texts are of characters, and tags that are written out are tags.
use Rattle.std.proofs.Common.{◌≡◌, ◌<◌, ℕ, zero, suc, ◌+◌, ◌-◌, ◌==◌, nat_le, length, length-drop, arith, Bool, true, false, cond, ◌&&◌, ◌||◌, Option, Some, None, List, [], ◌∷◌, ◌++◌, take, drop, refl, sym, ap, subst, inl, inr}
use Rattle.std.specs.Prelude.{slice_get, encode_utf8_all, option_and_then}
use Rattle.std.specs.List.{list_all}
use Rattle.std.specs.Str.{all_scalars, chars, is_utf8}
use Rattle.std.specs.Char.{IsScalar}
use Rattle.std.proofs.lemmas.Str.{is_utf8-from_IsUtf8, chars-encodes, encodes_same}
use Rattle.std.proofs.lemmas.Bool.Decides.{nat_tests}
use Rattle.std.proofs.lemmas.Option.{slice_get_within}
use Rattle.std.proofs.lemmas.List.{length-take}
use lib.Utf8.{scalar, scalars}
use Rattle.yaml_definitions.specs.model.Event.{WrittenTag, non_specific, full}
use Rattle.yaml_definitions.specs.model.Text.{is_text}
use Rattle.yaml_definitions.specs.model.Sound.{SoundTag, is_anchor_char, is_anchor, IsAnchor, SoundAnchor}
use Rattle.yaml_definitions.specs.model.Tag.{is_full}
use Rattle.yaml_definitions.specs.grammar.Rules.{Span, Rule, ◌▸◌, ◌◂◌, ◌⨾◌, ◌∪◌, gives, given, never, optional, some, any, Any, done, then, letter, copied, with_value, seen, mapped, where_both, where_value, Stands}
use Rattle.yaml_definitions.specs.grammar.Characters.{short_escape, numbered, c-ns-esc-char as escape}
use Rattle.yaml_definitions.specs.grammar.Separation.{Ctx, block_out, block_in, flow_out, flow_in, block_key, flow_key}
use Rattle.yaml_definitions.specs.grammar.Events.{Props}
use Rattle.yaml_definitions.specs.grammar.Tags as tags
use Rattle.yaml_definitions.specs.grammar.FlowScalars as flow
use Rattle.yaml_definitions.specs.grammar.BlockScalars as block
use Rattle.yaml_definitions.proofs.Members.{and_both, both_and}

abbrev pub Each : {V : Type 0} → (V → Type 0) → Rule V → Type 0
Each {V} Q R = (i j : ℕ) (v : V) → R i j v → Q v

-- ---- the combinators

module _ {V : Type 0} (Q : V → Type 0) where
  pub each_before : (R : Span) {S : Rule V} → Each Q S → Each Q (R ▸ S)
  each_before R g i j v (k, r, s) = g k j v s

  pub each_after : {R : Rule V} (S : Span) → Each Q R → Each Q (R ◂ S)
  each_after S f i j v (k, r, s) = f i k v r

  pub each_either : {R S : Rule V} → Each Q R → Each Q S → Each Q (R ∪ S)
  each_either f g i j v (inl r) = f i j v r
  each_either f g i j v (inr s) = g i j v s

  pub each_taking : {A : Type 0} (P : A → Type 0) {R : Rule A} {S : A → Rule V} → Each P R → ((a : A) → P a → Each Q (S a)) → Each Q (with_value R S)
  each_taking P f g i j v (k, a, r, s) = g a (f i k a r) k j v s

  pub each_some : {R : ℕ → Rule V} → ((a : ℕ) → Each Q (R a)) → Each Q (some R)
  each_some f i j v (a, r) = f a i j v r

  pub each_giving : (w : V) → Q w → Each Q (gives w)
  each_giving w q i j v (e, h) = subst Q (sym h) q

  pub each_never : Each Q never
  each_never i j v h = absurd h

  pub each_seen : {A : Type 0} (P : A → Type 0) (g : A → V) {R : Rule A} → ((a : A) → P a → Q (g a)) → Each P R → Each Q (seen g R)
  each_seen P g h f i j v (a, r, e) = subst Q (sym e) (h a (f i j a r))

  pub each_mapped : {A : Type 0} (P : A → Type 0) (g : A → Option V) {R : Rule A} → ((a : A) → P a → (v : V) → g a ≡ Some v → Q v) → Each P R → Each Q (mapped g R)
  each_mapped P g h f i j v (a, r, e) = h a (f i j a r) v e

  pub each_given : (P : Type 0) {R : Rule V} → Each Q R → Each Q (given P R)
  each_given P f i j v (p, r) = f i j v r

  pub each_bounded : (P : ℕ → ℕ → Type 0) {R : Rule V} → Each Q R → Each Q (where_both P R)
  each_bounded P f i j v (p, r) = f i j v r

  pub each_holding : (R : Rule V) → Each Q (where_value Q R)
  each_holding R i j v (p, r) = p

pub each_weaker : {V : Type 0} (P Q : V → Type 0) {R : Rule V} → ((v : V) → P v → Q v) → Each P R → Each Q R
each_weaker P Q h f i j v r = h v (f i j v r)

-- a property of lists that stays when they are joined
abbrev pub Joins : {A : Type 0} → (List A → Type 0) → Type 0
Joins {A} Q = Q [] × ((xs ys : List A) → Q xs → Q ys → Q (xs ++ ys))

module _ {A : Type 0} (Q : List A → Type 0) (joins : Joins Q) where
  pub each_joined : {R S : Rule (List A)} → Each Q R → Each Q S → Each Q (R ⨾ S)
  each_joined f g i j v (k, ys, zs, r, s, e) = subst Q (sym e) (joins.1 ys zs (f i k ys r) (g k j zs s))

  pub each_any : {R : Rule (List A)} → Each Q R → Each Q (any R)
  each_any {R} f i j v r = go i v r
    where
      go : (i : ℕ) (v : List A) → Any R j i v → Q v
      go i v (done e h) = subst Q (sym h) joins.0
      go i v (then k ys zs r more e) = subst Q (sym e) (joins.1 ys zs (f i k ys r) (go k zs more))

  pub each_optional : {R : Rule (List A)} → Each Q R → Each Q (optional R)
  each_optional f = each_either Q (each_giving Q [] joins.0) f

-- nothing is asked of the value
abbrev pub Free : {V : Type 0} → V → Type 0
Free v = Unit {0}

pub each_free : {V : Type 0} (R : Rule V) → Each Free R
each_free R i j v r = tt

-- ---- characters

abbrev pub AreScalars : List ℕ → Type 0
AreScalars xs = all_scalars xs ≡ true

pub scalars_join : (xs ys : List ℕ) → AreScalars xs → AreScalars ys → AreScalars (xs ++ ys)
scalars_join [] ys h k = k
scalars_join (x ∷ xs) ys h k =
    let p = and_both (scalar x) (scalars xs) h in
    both_and (scalar x) (scalars (xs ++ ys)) p.0 (scalars_join xs ys p.1 k)

abbrev scalar_lists : Joins AreScalars
scalar_lists = (refl, scalars_join)

one_scalar : (c : ℕ) → IsScalar c → AreScalars (c ∷ [])
one_scalar c h = both_and (scalar c) true h refl

pub line_feeds_scalars : (k : ℕ) → AreScalars (flow.line_feeds k)
line_feeds_scalars zero = refl
line_feeds_scalars (suc k) = line_feeds_scalars k

fold_scalars : (k : ℕ) → AreScalars (flow.fold_text k)
unfolding flow.fold_text
fold_scalars zero = refl
fold_scalars (suc k) = line_feeds_scalars (suc k)

scalars_take : (n : ℕ) (xs : List ℕ) → AreScalars xs → AreScalars (take n xs)
scalars_take zero xs h = refl
scalars_take (suc n) [] h = refl
scalars_take (suc n) (x ∷ xs) h = let p = and_both (scalar x) (scalars xs) h in both_and (scalar x) (scalars (take n xs)) p.0 (scalars_take n xs p.1)

scalars_drop : (n : ℕ) (xs : List ℕ) → AreScalars xs → AreScalars (drop n xs)
scalars_drop zero xs h = h
scalars_drop (suc n) [] h = refl
scalars_drop (suc n) (x ∷ xs) h = scalars_drop n xs (let p = and_both (scalar x) (scalars xs) h in p.1)

scalar_at : (xs : List ℕ) (i c : ℕ) → AreScalars xs → slice_get xs i ≡ Some c → IsScalar c
scalar_at [] i c h e = cc
scalar_at (x ∷ xs) zero c h e = let p = and_both (scalar x) (scalars xs) h in let same : x ≡ c = cc in subst IsScalar same p.0
scalar_at (x ∷ xs) (suc i) c h e = scalar_at xs i c (let p = and_both (scalar x) (scalars xs) h in p.1) e

-- ---- escapes

-- what is there is a character
record Fine (o : Option ℕ) : Type 0 where
  fine : (d : ℕ) → o ≡ Some d → IsScalar d

none_fine : Fine None
none_fine = record { fine = λ d e. cc }

if_fine : (b : Bool) (c : ℕ) (more : Option ℕ) → IsScalar c → Fine more → Fine (cond b (Some c) more)
if_fine true c more h g = record { fine = λ d e. let same : c ≡ d = cc in subst IsScalar same h }
if_fine false c more h g = g

short_fine : (c : ℕ) → Fine (short_escape c)
unfolding short_escape
short_fine c =
    if_fine (c == 48) 0 _ refl (if_fine (c == 97) 7 _ refl (if_fine (c == 98) 8 _ refl (if_fine (c == 116) 9 _ refl (if_fine (c == 9) 9 _ refl (if_fine (c == 110) 10 _ refl (if_fine (c == 118) 11 _ refl (if_fine (c == 102) 12 _ refl (if_fine (c == 114) 13 _ refl (if_fine (c == 101) 27 _ refl (if_fine (c == 32) 32 _ refl (if_fine (c == 34) 34 _ refl (if_fine (c == 47) 47 _ refl (if_fine (c == 92) 92 _ refl (if_fine (c == 78) 133 _ refl (if_fine (c == 95) 160 _ refl (if_fine (c == 76) 8232 _ refl (if_fine (c == 80) 8233 _ refl none_fine)))))))))))))))))

short_scalar : (c d : ℕ) → short_escape c ≡ Some d → IsScalar d
short_scalar c d e = (short_fine c).fine d e

-- ---- tags

decoded_sound : (text : List ℕ) (t : WrittenTag) → tags.decoded text ≡ Some t → SoundTag t
unfolding tags.decoded
decoded_sound text t e = pick (is_full (tags.percent_decode text)) refl e
  where
    pick : (b : Bool) → is_full (tags.percent_decode text) ≡ b → cond b (Some (full (tags.percent_decode text))) None ≡ Some t → SoundTag t
    pick true h e = let same : full (tags.percent_decode text) ≡ t = cc in subst SoundTag same h
    pick false h e = cc

joined_sound : (handles : tags.Handles) (handle suffix : List ℕ) (t : WrittenTag) → tags.joined handles handle suffix ≡ Some t → SoundTag t
unfolding tags.joined
joined_sound handles handle suffix t e = pick (tags.prefix_of handles handle) e
  where
    pick : (o : Option (List ℕ)) → option_and_then (λ prefix. tags.decoded (prefix ++ suffix)) o ≡ Some t → SoundTag t
    pick None e = cc
    pick (Some prefix) e = decoded_sound (prefix ++ suffix) t e

abbrev pub SoundProps : Props → Type 0
SoundProps p = SoundAnchor p.anchor × SoundTag p.tag

-- ---- names

abbrev AllPass : (ℕ → Bool) → List ℕ → Type 0
AllPass p xs = list_all p xs ≡ true

all_take : (p : ℕ → Bool) (n : ℕ) (xs : List ℕ) → AllPass p xs → AllPass p (take n xs)
all_take p zero xs h = refl
all_take p (suc n) [] h = refl
all_take p (suc n) (x ∷ xs) h = let q = and_both (p x) (list_all p xs) h in both_and (p x) (list_all p (take n xs)) q.0 (all_take p n xs q.1)

all_drop : (p : ℕ → Bool) (n : ℕ) (xs : List ℕ) → AllPass p xs → AllPass p (drop n xs)
all_drop p zero xs h = h
all_drop p (suc n) [] h = refl
all_drop p (suc n) (x ∷ xs) h = all_drop p n xs (and_both (p x) (list_all p xs) h).1

both_pass : (p q : ℕ → Bool) (xs : List ℕ) → AllPass p xs → AllPass q xs → AllPass (λ c. p c && q c) xs
both_pass p q [] h k = refl
both_pass p q (x ∷ xs) h k =
    let a = and_both (p x) (list_all p xs) h in
    let b = and_both (q x) (list_all q xs) k in
    both_and (p x && q x) (list_all (λ c. p c && q c) xs) (both_and (p x) (q x) a.0 b.0) (both_pass p q xs a.1 b.1)

stands_pass : (p : ℕ → Bool) (cs : List ℕ) (n : ℕ) → ((k : ℕ) → k < n → Stands cs p k) → AllPass p (take n cs)
stands_pass p cs zero f = refl
stands_pass p [] (suc n) f = refl
stands_pass p (x ∷ cs) (suc n) f =
    let s = f 0 (omega arith) in
    let e : x ≡ s.0 = let g : Some x ≡ Some s.0 = s.1 in cc in
    both_and (p x) (list_all p (take n cs)) (subst (λ z. p z ≡ true) (sym e) s.2) (stands_pass p cs n (λ k l. f (suc k) (omega arith)))

run_passes : (p : ℕ → Bool) (cs : List ℕ) (n i : ℕ) → ((k : ℕ) → k < n → Stands cs p (i + k)) → AllPass p (take n (drop i cs))
run_passes p cs n zero f = stands_pass p cs n (λ k l. let e : 0 + k ≡ k = omega arith in subst (Stands cs p) e (f k l))
run_passes p [] n (suc i) f = all_take p n [] refl
run_passes p (x ∷ cs) n (suc i) f = run_passes p cs n i (λ k l. let e : suc i + k ≡ suc (i + k) = omega arith in subst (Stands (x ∷ cs) p) e (f k l))

-- a name's text
abbrev pub IsNameText : List ℕ → Type 0
IsNameText xs = IsAnchor (encode_utf8_all xs)

some_bytes : (xs : List ℕ) → (xs ≡ [] → ⊥) → nat_le 1 (length (encode_utf8_all xs)) ≡ true
some_bytes xs n = by (encode_utf8_all xs) refl
  where
    by : (bs : List ℕ) → encode_utf8_all xs ≡ bs → nat_le 1 (length bs) ≡ true
    by [] e = absurd (n (encodes_same xs [] e))
    by (b ∷ bs) e = grind (arith, nat_tests)

name_text : (xs : List ℕ) → AreScalars xs → (xs ≡ [] → ⊥) → AllPass is_anchor_char xs → IsNameText xs
unfolding is_anchor
name_text xs s n h =
    let c : chars (encode_utf8_all xs) ≡ xs = chars-encodes xs s in
    both_and (is_utf8 (encode_utf8_all xs)) _ (is_utf8-from_IsUtf8 _ (xs, (s, refl)))
    (both_and (nat_le 1 (length (encode_utf8_all xs))) _ (some_bytes xs n) (subst (AllPass is_anchor_char) (sym c) h))

-- ---- the lines of a block scalar

abbrev SoundLine : block.Line → Type 0
SoundLine block.blank = Unit {0}
SoundLine (block.content_line ended xs) = AreScalars xs

abbrev SoundLines : List block.Line → Type 0
SoundLines [] = Unit {0}
SoundLines (l ∷ ls) = SoundLine l × SoundLines ls

lines_join : (ls ms : List block.Line) → SoundLines ls → SoundLines ms → SoundLines (ls ++ ms)
lines_join [] ms h k = k
lines_join (l ∷ ls) ms h k = (h.0, lines_join ls ms h.1 k)

abbrev line_lists : Joins SoundLines
line_lists = (tt, lines_join)

scalars_cond : (b : Bool) (xs ys : List ℕ) → AreScalars xs → AreScalars ys → AreScalars (cond b xs ys)
scalars_cond true xs ys h k = h
scalars_cond false xs ys h k = k

joint_scalars : (folded : Bool) (a : List ℕ) (j : ℕ) (b : List ℕ) → AreScalars (block.joint folded a j b)
unfolding block.joint
joint_scalars false a j b = line_feeds_scalars (suc j)
joint_scalars true a j b = scalars_cond (block.is_spaced a || block.is_spaced b) (flow.line_feeds (suc j)) (cond (j == 0) (32 ∷ []) (flow.line_feeds j))
    (line_feeds_scalars (suc j)) (scalars_cond (j == 0) (32 ∷ []) (flow.line_feeds j) refl (line_feeds_scalars j))

chomped_scalars : (s : block.Chomp) (ended : Bool) (j : ℕ) → AreScalars (block.chomped s ended j)
unfolding block.chomped
chomped_scalars block.strip ended j = refl
chomped_scalars block.clip ended j = scalars_cond ended (flow.line_feeds 1) [] refl refl
chomped_scalars block.keep ended j = scalars_cond ended (flow.line_feeds (suc j)) [] (line_feeds_scalars (suc j)) refl

after_scalars : (folded : Bool) (s : block.Chomp) (ended : Bool) (a : List ℕ) (j : ℕ) (ls : List block.Line) → SoundLines ls → AreScalars (block.after_line folded s ended a j ls)
unfolding block.after_line
after_scalars folded s ended a j [] h = chomped_scalars s ended j
after_scalars folded s ended a j (block.blank ∷ ls) h = after_scalars folded s ended a (suc j) ls h.1
after_scalars folded s ended a j (block.content_line more b ∷ ls) h =
    scalars_join (block.joint folded a j b) (b ++ block.after_line folded s more b 0 ls) (joint_scalars folded a j b)
    (scalars_join b (block.after_line folded s more b 0 ls) h.0 (after_scalars folded s more b 0 ls h.1))

kept_scalars : (s : block.Chomp) (j : ℕ) → AreScalars (block.kept_breaks s j)
unfolding block.kept_breaks
kept_scalars block.strip j = refl
kept_scalars block.clip j = refl
kept_scalars block.keep j = line_feeds_scalars j

content_after_scalars : (folded : Bool) (s : block.Chomp) (j : ℕ) (ls : List block.Line) → SoundLines ls → AreScalars (block.content_after folded s j ls)
unfolding block.content_after
content_after_scalars folded s j [] h = kept_scalars s j
content_after_scalars folded s j (block.blank ∷ ls) h = content_after_scalars folded s (suc j) ls h.1
content_after_scalars folded s j (block.content_line ended b ∷ ls) h =
    scalars_join (flow.line_feeds j) (b ++ block.after_line folded s ended b 0 ls) (line_feeds_scalars j)
    (scalars_join b (block.after_line folded s ended b 0 ls) h.0 (after_scalars folded s ended b 0 ls h.1))

content_scalars : (folded : Bool) (s : block.Chomp) (ls : List block.Line) → SoundLines ls → AreScalars (block.content folded s ls)
unfolding block.content
content_scalars folded s ls h = content_after_scalars folded s 0 ls h

-- ---- the productions

-- characters that a text may hold
abbrev pub AreCharacters : List ℕ → Type 0
AreCharacters cs = AreScalars cs × AllPass is_text cs

module _ (cs : List ℕ) (characters : AreCharacters cs) where
  each_copied : (R : Span) → Each AreScalars (copied cs R)
  each_copied R i j v (r, e) = subst AreScalars (sym e) (scalars_take _ (drop i cs) (scalars_drop i cs characters.0))

  each_letter : (p : ℕ → Bool) → Each IsScalar (letter cs p)
  each_letter p i j c (e, t, f) = scalar_at cs i c characters.0 e

  each_verbatim_tag : Each SoundTag (tags.c-verbatim-tag cs)
  unfolding tags.c-verbatim-tag
  each_verbatim_tag = each_before _ _ (each_after _ _ (each_mapped _ Free tags.decoded (λ text u. decoded_sound text) (each_free _)))

  each_shorthand_tag : (handles : tags.Handles) → Each SoundTag (tags.c-ns-shorthand-tag cs handles)
  unfolding tags.c-ns-shorthand-tag
  each_shorthand_tag handles = each_taking _ Free (each_free _) (λ handle u. each_mapped _ Free (tags.joined handles handle) (λ suffix u. joined_sound handles handle suffix) (each_free _))

  each_non_specific_tag : Each SoundTag (tags.c-non-specific-tag cs)
  unfolding tags.c-non-specific-tag
  each_non_specific_tag = each_before _ _ (each_giving _ non_specific tt)

  each_tag : (handles : tags.Handles) → Each SoundTag (tags.c-ns-tag-property cs handles)
  unfolding tags.c-ns-tag-property
  each_tag handles = each_after _ _ (each_either _ each_verbatim_tag (each_either _ (each_shorthand_tag handles) each_non_specific_tag))

  each_name : Each IsNameText (tags.ns-anchor-name cs)
  unfolding tags.ns-anchor-name
  each_name i j v ((r, l, n), e) =
      let xs : List ℕ = take (j - i) (drop i cs) in
      let t : AllPass is_text xs = all_take is_text (j - i) (drop i cs) (all_drop is_text i cs characters.1) in
      let a : AllPass tags.is_name xs = run_passes tags.is_name cs (j - i) i (λ k m. r.1 (i + k) (omega arith) (omega arith)) in
      let w : i < length cs = let s = r.1 i (omega arith) l in slice_get_within cs i s.0 s.1 in
      let x : (xs ≡ [] → ⊥) = λ q. let z : length xs ≡ 0 = ap length q in omega (arith, z, length-take (j - i) (drop i cs), length-drop i cs) in
      subst IsNameText (sym e) (name_text xs (scalars_take (j - i) (drop i cs) (scalars_drop i cs characters.0)) x (both_pass is_text tags.is_name xs t a))

  each_anchor : Each IsNameText (tags.c-ns-anchor-property cs)
  unfolding tags.c-ns-anchor-property
  each_anchor = each_before _ _ each_name

  pub each_alias : Each IsNameText (tags.c-ns-alias-node cs)
  unfolding tags.c-ns-alias-node
  each_alias = each_before _ _ each_name

  pub each_properties : (handles : tags.Handles) (n : ℕ) (c : Ctx) → Each SoundProps (tags.c-ns-properties cs handles n c)
  unfolding tags.c-ns-properties
  each_properties handles n c = each_either SoundProps
      (each_taking SoundProps SoundTag (each_tag handles) (λ t s. each_either SoundProps (each_giving SoundProps _ (tt, s))
      (each_before SoundProps _ (each_seen SoundProps IsNameText _ (λ a u. (u, s)) each_anchor))))
      (each_taking SoundProps IsNameText each_anchor (λ a u. each_either SoundProps (each_giving SoundProps _ (u, tt))
      (each_before SoundProps _ (each_seen SoundProps SoundTag _ (λ t s. (u, s)) (each_tag handles)))))

  -- ---- flow scalars

  each_numbered : (count : ℕ) → Each IsScalar (numbered cs count)
  unfolding numbered
  each_numbered count = each_holding IsScalar _

  each_escape : Each IsScalar (escape cs)
  unfolding escape
  each_escape = each_before _ _ (each_either _ (each_mapped _ Free short_escape (λ c u. short_scalar c) (each_free _))
      (each_either _ (each_before _ _ (each_numbered 2)) (each_either _ (each_before _ _ (each_numbered 4)) (each_before _ _ (each_numbered 8)))))

  each_fold : (n : ℕ) → Each AreScalars (flow.s-flow-folded cs n)
  unfolding flow.s-flow-folded
  each_fold n = each_before AreScalars _ (each_after AreScalars _ (each_seen AreScalars Free flow.fold_text (λ k u. fold_scalars k) (each_free _)))

  each_escaped_break : (n : ℕ) → Each AreScalars (flow.s-double-escaped cs n)
  unfolding flow.s-double-escaped
  each_escaped_break n = each_before AreScalars _ (each_after AreScalars _ (each_seen AreScalars Free flow.line_feeds (λ k u. line_feeds_scalars k) (each_free _)))

  each_several : (c : Ctx) {R : Rule (List ℕ)} → Each AreScalars R → Each AreScalars (flow.several cs c R)
  each_several block_key f = each_never AreScalars
  each_several flow_key f = each_never AreScalars
  each_several block_out f = f
  each_several block_in f = f
  each_several flow_out f = f
  each_several flow_in f = f

  module _ (solid loose folded escaped : Rule (List ℕ)) (f : Each AreScalars solid) (g : Each AreScalars loose) (h : Each AreScalars folded) (k : Each AreScalars escaped) where
    each_quoted_line : Each AreScalars (flow.quoted_line cs solid loose folded escaped)
    each_quoted_line = each_any AreScalars scalar_lists (each_either AreScalars f g)

    each_broken_line : Each AreScalars (flow.broken_line cs solid loose folded escaped)
    each_broken_line = each_either AreScalars
        (each_joined AreScalars scalar_lists (each_any AreScalars scalar_lists (each_joined AreScalars scalar_lists (each_any AreScalars scalar_lists g) f)) h)
        (each_joined AreScalars scalar_lists each_quoted_line k)

    each_quoted_lines : Each AreScalars (flow.quoted_lines cs solid loose folded escaped)
    each_quoted_lines = each_either AreScalars each_quoted_line
        (each_joined AreScalars scalar_lists each_broken_line
        (each_joined AreScalars scalar_lists (each_any AreScalars scalar_lists (each_joined AreScalars scalar_lists f each_broken_line))
        (each_optional AreScalars scalar_lists (each_joined AreScalars scalar_lists f each_quoted_line))))

  each_white : Each AreScalars (flow.white_text cs)
  each_white = each_seen AreScalars IsScalar _ one_scalar (each_letter _)

  each_double_char : Each AreScalars (flow.ns-double-char cs)
  unfolding flow.ns-double-char
  each_double_char = each_seen AreScalars IsScalar _ one_scalar (each_either IsScalar (each_letter _) each_escape)

  pub each_double : (n : ℕ) (c : Ctx) → Each AreScalars (flow.c-double-quoted cs n c)
  unfolding flow.c-double-quoted
  each_double n c = each_bounded AreScalars _ (each_before AreScalars _ (each_after AreScalars _ (each_quoted_lines _ _ _ _
      each_double_char each_white (each_several c (each_fold n)) (each_several c (each_escaped_break n)))))

  each_single_char : Each AreScalars (flow.ns-single-char cs)
  unfolding flow.ns-single-char
  each_single_char = each_seen AreScalars IsScalar _ one_scalar (each_either IsScalar (each_letter _) (each_before IsScalar _ (each_giving IsScalar 39 refl)))

  pub each_single : (n : ℕ) (c : Ctx) → Each AreScalars (flow.c-single-quoted cs n c)
  unfolding flow.c-single-quoted
  each_single n c = each_bounded AreScalars _ (each_before AreScalars _ (each_after AreScalars _ (each_quoted_lines _ _ _ _
      each_single_char each_white (each_several c (each_fold n)) (each_never AreScalars))))

  each_plain_line : (P : ℕ → Type 0) (c : Ctx) → Each AreScalars (flow.plain_line cs P c)
  unfolding flow.plain_line
  each_plain_line P c = each_copied _

  pub each_plain : (n : ℕ) (c : Ctx) → Each AreScalars (flow.ns-plain cs n c)
  unfolding flow.ns-plain
  each_plain n c = each_bounded AreScalars _ (each_joined AreScalars scalar_lists (each_plain_line _ c)
      (each_any AreScalars scalar_lists (each_joined AreScalars scalar_lists (each_several c (each_fold n)) (each_plain_line _ c))))

  -- ---- block scalars

  each_blank_line : (k : ℕ) → Each SoundLines (block.blank_line cs k)
  unfolding block.blank_line
  each_blank_line k = each_before SoundLines _ (each_giving SoundLines _ (tt, tt))

  each_text_line : (b : Bool) (k : ℕ) → Each SoundLines (block.text_line cs b k)
  unfolding block.text_line
  each_text_line b k = each_before SoundLines _ (each_taking SoundLines AreScalars (each_copied _)
      (λ xs h. each_either SoundLines (each_before SoundLines _ (each_giving SoundLines _ (h, tt))) (each_before SoundLines _ (each_giving SoundLines _ (h, tt)))))

  each_lines : (b : Bool) (k : ℕ) → Each SoundLines (block.lines cs b k)
  unfolding block.lines
  each_lines b k = each_joined SoundLines line_lists (each_any SoundLines line_lists (each_blank_line k))
      (each_after SoundLines _ (each_optional SoundLines line_lists (each_joined SoundLines line_lists (each_text_line b k)
      (each_any SoundLines line_lists (each_either SoundLines (each_blank_line k) (each_text_line true k))))))

  each_block_content : (b : Bool) (h : block.Header) (k : ℕ) → Each AreScalars (block.block_content cs b h k)
  unfolding block.block_content
  each_block_content b h k = each_after AreScalars _ (each_seen AreScalars SoundLines (block.content b h.chomp) (content_scalars b h.chomp) (each_lines _ k))

  each_block_scalar : (b : Bool) (col : ℕ) → Each AreScalars (block.block_scalar cs b col)
  each_block_scalar b col = each_taking AreScalars Free (each_free _) (λ h u. each_taking AreScalars Free (each_free _) (λ k v. each_block_content b h k))

  pub each_literal : (col : ℕ) → Each AreScalars (block.c-l+literal cs col)
  unfolding block.c-l+literal
  each_literal col = each_before AreScalars _ (each_block_scalar _ col)

  pub each_folded : (col : ℕ) → Each AreScalars (block.c-l+folded cs col)
  unfolding block.c-l+folded
  each_folded col = each_before AreScalars _ (each_block_scalar _ col)
