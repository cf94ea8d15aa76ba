-- The content of a block scalar, put together from its front.
use Rattle.std.proofs.Common.{◌≡◌, ℕ, zero, suc, ◌+◌, ◌<◌, ◌≤◌, inl, inr, min, List, [], ◌∷◌, ◌++◌, Bool, true, false, ◌||◌, if◌then◌else◌, replicate, refl, sym, ◌∙◌, ap, subst, arith, append_assoc, add-one}
use Rattle.std.specs.Prelude.{◌==◌, slice_range}
use Rattle.std.specs.Bool.{OnTrue, OnFalse}
use Rattle.std.proofs.lemmas.List.{append-nil}
use Rattle.yaml_definitions.specs.grammar.Rules.{any, maybe, Stands}
use Rattle.yaml_definitions.specs.grammar.Characters.{is_white, is_nb}
use Rattle.yaml_definitions.specs.grammar.Separation.{AtEnd}
use Rattle.yaml_definitions.specs.grammar.FlowScalars.{line_feeds}
use Rattle.yaml_definitions.specs.grammar.BlockScalars as grammar
use Rattle.yaml_definitions.specs.grammar.BlockScalars.{Line, blank, content_line, is_spaced, joint, chomped, after_line, kept_breaks, content_after, content, blank_line, text_line, is_given, lines, last_spaces, LinesEnd}
use Rattle.yaml_scalar.specs.BlockRules.{any_line, Ready, block_lines, lines_over}
use Rattle.yaml_scalar.specs.BlockModel.{chomp_of, glue, last_breaks, shape, are_folded, breaks_of}
use Rattle.yaml_scalar.specs.declared.block.header.Chomp.{Chomp}
use Rattle.yaml_scalar.specs.declared.block.header.Chomp.TheVariants.{Strip, Clip, Keep}
use Rattle.yaml_scalar.specs.declared.block.content.Before.{Before}
use Rattle.yaml_scalar.specs.declared.block.content.Before.TheVariants.{Nothing}
use Rattle.yaml_text.proofs.PlaceLemmas.{slice_join, slice_one}
use Rattle.yaml_text.proofs.Runs.{same_char}
use Rattle.yaml_scalar.proofs.LineLemmas.{Over, over_of, over_end, over_no_line, Content, content_start, content_more, lines_blank, lines_content}
use Rattle.yaml_text.proofs.Repeats.{any_push}

pub few_breaks : (d : Bool) → breaks_of d ≤ 1
few_breaks true = omega arith
few_breaks false = omega arith

-- ---- from the front

after_blank : (f : Bool) (c : grammar.Chomp) (e : Bool) (a : List ℕ) (j : ℕ) (more : List Line) → after_line f c e a j (blank ∷ more) ≡ after_line f c e a (suc j) more
unfolding after_line
after_blank f c e a j more = refl

after_text : (f : Bool) (c : grammar.Chomp) (e : Bool) (a : List ℕ) (j : ℕ) (d : Bool) (b : List ℕ) (more : List Line) →
    after_line f c e a j (content_line d b ∷ more) ≡ joint f a j b ++ (b ++ after_line f c d b 0 more)
unfolding after_line
after_text f c e a j d b more = refl

after_none : (f : Bool) (c : grammar.Chomp) (e : Bool) (a : List ℕ) (j : ℕ) → after_line f c e a j [] ≡ chomped c e j
unfolding after_line
after_none f c e a j = refl

content_blank : (f : Bool) (c : grammar.Chomp) (j : ℕ) (more : List Line) → content_after f c j (blank ∷ more) ≡ content_after f c (suc j) more
unfolding content_after
content_blank f c j more = refl

content_text : (f : Bool) (c : grammar.Chomp) (j : ℕ) (d : Bool) (b : List ℕ) (more : List Line) →
    content_after f c j (content_line d b ∷ more) ≡ line_feeds j ++ (b ++ after_line f c d b 0 more)
unfolding content_after
content_text f c j d b more = refl

content_none : (f : Bool) (c : grammar.Chomp) (j : ℕ) → content_after f c j [] ≡ kept_breaks c j
unfolding content_after
content_none f c j = refl

-- the content of these lines and any more is this text, and what the state gives of those
abbrev pub Gives : Bool → grammar.Chomp → List Line → List ℕ → (List Line → List ℕ) → Type 0
Gives f c ls xs rest = (more : List Line) → content f c (ls ++ more) ≡ xs ++ rest more

gives_empties : (f : Bool) (c : grammar.Chomp) (j : ℕ) → Gives f c (replicate j blank) [] (content_after f c j)
unfolding content
gives_empties f c j more = go j 0 ∙ ap (λ n. content_after f c n more) (let e : j + 0 ≡ j = omega arith in e)
  where
    go : (j n : ℕ) → content_after f c n (replicate j blank ++ more) ≡ content_after f c (j + n) more
    go zero n = ap (λ m. content_after f c m more) (let e : n ≡ 0 + n = omega arith in e)
    go (suc j) n = content_blank f c n (replicate j blank ++ more) ∙ go j (suc n) ∙ ap (λ m. content_after f c m more) (let e : j + suc n ≡ suc j + n = omega arith in e)

gives_push : (f : Bool) (c : grammar.Chomp) (ls : List Line) (xs : List ℕ) (l : Line) (rest next : List Line → List ℕ) (ys : List ℕ) →
    Gives f c ls xs rest → ((more : List Line) → rest (l ∷ more) ≡ ys ++ next more) → Gives f c (ls ++ l ∷ []) (xs ++ ys) next
gives_push f c ls xs l rest next ys g step more =
    ap (content f c) (append_assoc ls (l ∷ []) more) ∙ g (l ∷ more) ∙ ap (λ v. xs ++ v) (step more) ∙ sym (append_assoc xs ys (next more))

-- ---- what stands between two lines

no_zero : (j : ℕ) → (suc j == 0) ≡ false
no_zero j = grind arith

joint_glue : (f : Bool) (a : List ℕ) (j : ℕ) (b : List ℕ) → joint f a j b ≡ glue (are_folded f (shape (is_spaced a)) (is_spaced b)) (suc j)
unfolding joint
joint_glue false a j b = plain (is_spaced a)
  where
    plain : (s : Bool) → line_feeds (suc j) ≡ glue (are_folded false (shape s) (is_spaced b)) (suc j)
    plain true = refl
    plain false = refl
joint_glue true a j b = go (is_spaced a) (is_spaced b) j
  where
    go : (s t : Bool) (j : ℕ) → (if s || t then line_feeds (suc j) else (if j == 0 then 32 ∷ [] else line_feeds j)) ≡ glue (are_folded true (shape s) t) (suc j)
    go true t j = refl
    go false true j = refl
    go false false zero = refl
    go false false (suc j) = ap (λ c. if c then 32 ∷ [] else line_feeds (suc j)) (no_zero j)

kept_is : (h : Chomp) (j : ℕ) → kept_breaks (chomp_of h) j ≡ line_feeds (last_breaks h Nothing j)
unfolding kept_breaks
kept_is Strip j = refl
kept_is Clip j = refl
kept_is Keep j = refl

chomped_is : (h : Chomp) (s : Bool) (j : ℕ) → chomped (chomp_of h) true j ≡ line_feeds (last_breaks h (shape s) (suc j))
unfolding chomped
chomped_is Strip s j = refl
chomped_is Clip true j = ap line_feeds (let e : 1 ≡ min (suc j) 1 = omega arith in e)
chomped_is Clip false j = ap line_feeds (let e : 1 ≡ min (suc j) 1 = omega arith in e)
chomped_is Keep s j = refl

unended_is : (h : Chomp) (s : Bool) → chomped (chomp_of h) false 0 ≡ line_feeds (last_breaks h (shape s) 0)
unfolding chomped
unended_is Strip s = refl
unended_is Clip true = refl
unended_is Clip false = refl
unended_is Keep s = refl

module _ (cs : List ℕ) where
  -- the lines from i up to here, their text xs without its last breaks, the kind of the last line of content, and how many breaks are pending
  pub data Sofar (f : Bool) (c : grammar.Chomp) (s : Bool) (k i here : ℕ) (xs : List ℕ) (b : Before) (n : ℕ) : Type 0 where
    empties : (ls : List Line) → any (blank_line cs k) i here ls → Ready cs s k here → Gives f c ls xs (content_after f c n) → b ≡ Nothing → Sofar f c s k i here xs b n
    ended : (ls : List Line) (a : List ℕ) (j : ℕ) → Content cs s k i here ls → Gives f c ls xs (after_line f c true a j) → b ≡ shape (is_spaced a) → n ≡ suc j → Sofar f c s k i here xs b n
    unended : (ls : List Line) (a : List ℕ) → Content cs s k i here ls → Gives f c ls xs (after_line f c false a 0) → b ≡ shape (is_spaced a) → n ≡ 0 → AtEnd cs here → Sofar f c s k i here xs b n

  pub sofar_at : {f : Bool} {c : grammar.Chomp} {s : Bool} {k i here : ℕ} (xs ys : List ℕ) (b d : Before) (n m : ℕ) →
      Sofar f c s k i here xs b n → ys ≡ xs → d ≡ b → m ≡ n → Sofar f c s k i here ys d m
  sofar_at {f} {c} {s} {k} {i} {here} xs ys b d n m p e g h =
      subst (λ v. Sofar f c s k i here v d m) (sym e) (subst (λ v. Sofar f c s k i here xs v m) (sym g) (subst (λ v. Sofar f c s k i here xs b v) (sym h) p))

  pub sofar_start : (f : Bool) (c : grammar.Chomp) (s : Bool) (k i here n : ℕ) → any (blank_line cs k) i here (replicate n blank) → Ready cs s k here → Sofar f c s k i here [] Nothing n
  sofar_start f c s k i here n a r = empties (replicate n blank) a r (gives_empties f c n) refl

  over_at_end : (k i j : ℕ) (v : List Line) → any_line cs k i j v → AtEnd cs i → ⊥
  over_at_end k i j v l e = over_no_line cs k i j v l (i, Over.here (inr (inr e)) refl)

  pub sofar_empty : (f : Bool) (c : grammar.Chomp) (s : Bool) (k i here j : ℕ) (xs : List ℕ) (b : Before) (n : ℕ) →
      Sofar f c s k i here xs b n → blank_line cs k here j (blank ∷ []) → Sofar f c s k i j xs b (n + 1)
  sofar_empty f c s k i here j xs b n (empties ls a r g e) l =
      empties (ls ++ blank ∷ []) (any_push a l) (ready r)
      (subst (λ v. Gives f c (ls ++ blank ∷ []) v (content_after f c (n + 1))) (append-nil xs)
      (gives_push f c ls xs blank (content_after f c n) (content_after f c (n + 1)) [] g (λ more. content_blank f c n more ∙ ap (λ m. content_after f c m more) (sym (add-one n))))) e
    where
      ready : Ready cs s k here → Ready cs s k j
      ready (inl t) = inl t
      ready (inr t) = absurd (t.0 j (blank ∷ []) l)
  sofar_empty f c s k i here j xs b n (ended ls a m p g e q) l =
      ended (ls ++ blank ∷ []) a (suc m) (content_more cs s k i here j ls (blank ∷ []) p (inl l))
      (subst (λ v. Gives f c (ls ++ blank ∷ []) v (after_line f c true a (suc m))) (append-nil xs)
      (gives_push f c ls xs blank (after_line f c true a m) (after_line f c true a (suc m)) [] g (λ more. after_blank f c true a m more))) e (omega (arith, q))
  sofar_empty f c s k i here j xs b n (unended ls a p g e q z) l = absurd (over_at_end k here j (blank ∷ []) (inl l) z)

  -- a first line of content is one that may be there
  allowed : (s : Bool) (k here j : ℕ) (v : List Line) → Ready cs s k here → text_line cs true k here j v → text_line cs s k here j v
  allowed true k here j v r t = t
  allowed false k here j v (inl e) t = let h : false ≡ true = e in cc
  allowed false k here j v (inr r) t = r.1 j v t

  after_content : (f : Bool) (c : grammar.Chomp) (s : Bool) (k i j : ℕ) (ls : List Line) (xs : List ℕ) (d : Bool) (t : List ℕ) →
      Content cs s k i j ls → Gives f c ls xs (after_line f c d t 0) → (d ≡ false → AtEnd cs j) → Sofar f c s k i j xs (shape (is_spaced t)) (breaks_of d)
  after_content f c s k i j ls xs true t p g e = ended ls t 0 p g refl refl
  after_content f c s k i j ls xs false t p g e = unended ls t p g refl refl (e refl)

  pub sofar_text : (f : Bool) (c : grammar.Chomp) (s : Bool) (k i here j : ℕ) (xs : List ℕ) (b : Before) (n : ℕ) (d : Bool) (t : List ℕ) →
      Sofar f c s k i here xs b n → text_line cs true k here j (content_line d t ∷ []) → (d ≡ false → AtEnd cs j) →
      Sofar f c s k i j ((xs ++ glue (are_folded f b (is_spaced t)) n) ++ t) (shape (is_spaced t)) (breaks_of d)
  sofar_text f c s k i here j xs b n d t (empties ls a r g e) l z =
      after_content f c s k i j (ls ++ content_line d t ∷ []) ((xs ++ glue (are_folded f b (is_spaced t)) n) ++ t) d t
      (content_start cs s k i here j ls (content_line d t ∷ []) a (allowed s k here j (content_line d t ∷ []) r l))
      (subst (λ v. Gives f c (ls ++ content_line d t ∷ []) v (after_line f c d t 0)) (whole b e)
      (gives_push f c ls xs (content_line d t) (content_after f c n) (after_line f c d t 0) (line_feeds n ++ t) g
      (λ more. content_text f c n d t more ∙ sym (append_assoc (line_feeds n) t (after_line f c d t 0 more))))) z
    where
      whole : (b : Before) → b ≡ Nothing → xs ++ (line_feeds n ++ t) ≡ (xs ++ glue (are_folded f b (is_spaced t)) n) ++ t
      whole b e = sym (append_assoc xs (line_feeds n) t) ∙ ap (λ v. (xs ++ glue (are_folded f v (is_spaced t)) n) ++ t) (sym e)
  sofar_text f c s k i here j xs b n d t (ended ls a m p g e q) l z =
      after_content f c s k i j (ls ++ content_line d t ∷ []) ((xs ++ glue (are_folded f b (is_spaced t)) n) ++ t) d t
      (content_more cs s k i here j ls (content_line d t ∷ []) p (inr l))
      (subst (λ v. Gives f c (ls ++ content_line d t ∷ []) v (after_line f c d t 0)) whole
      (gives_push f c ls xs (content_line d t) (after_line f c true a m) (after_line f c d t 0) (joint f a m t ++ t) g
      (λ more. after_text f c true a m d t more ∙ sym (append_assoc (joint f a m t) t (after_line f c d t 0 more))))) z
    where
      same : joint f a m t ≡ glue (are_folded f b (is_spaced t)) n
      same = joint_glue f a m t ∙ ap (λ v. glue (are_folded f v (is_spaced t)) (suc m)) (sym e) ∙ ap (glue (are_folded f b (is_spaced t))) (sym q)

      whole : xs ++ (joint f a m t ++ t) ≡ (xs ++ glue (are_folded f b (is_spaced t)) n) ++ t
      whole = sym (append_assoc xs (joint f a m t) t) ∙ ap (λ v. (xs ++ v) ++ t) same
  sofar_text f c s k i here j xs b n d t (unended ls a p g e q y) l z = absurd (over_at_end k here j (content_line d t ∷ []) (inr l) y)

  -- where no further line stands
  pub sofar_over : (f : Bool) (h : Chomp) (o : grammar.Header) (k i here end : ℕ) (xs : List ℕ) (b : Before) (n : ℕ) → o.chomp ≡ chomp_of h →
      Sofar f (chomp_of h) (is_given o.digit) k i here xs b n → lines_over cs k here end → block_lines cs f o k i end (xs ++ line_feeds (last_breaks h b n))
  sofar_over f h o k i here end xs b n same s (m, last, (e, z)) = go s
    where
      over : Over cs k here end
      over = over_of cs k here end (subst (maybe (last_spaces cs k) here) (sym e) last) (subst (LinesEnd cs k) (sym e) z)

      give : (ls : List Line) (ys : List ℕ) → lines cs (is_given o.digit) k i end ls → content f (chomp_of h) ls ≡ ys → block_lines cs f o k i end ys
      give ls ys l w = (end, (ls, l, sym w ∙ ap (λ v. content f v ls) (sym same)), (refl, over_end cs k here end over))

      total : (ls : List Line) (rest : List Line → List ℕ) → Gives f (chomp_of h) ls xs rest → content f (chomp_of h) ls ≡ xs ++ rest []
      total ls rest g = ap (content f (chomp_of h)) (sym (append-nil ls)) ∙ g []

      go : Sofar f (chomp_of h) (is_given o.digit) k i here xs b n → block_lines cs f o k i end (xs ++ line_feeds (last_breaks h b n))
      go (empties ls a r g w) =
          give ls (xs ++ line_feeds (last_breaks h b n)) (lines_blank cs (is_given o.digit) k i here end ls a over)
          (total ls (content_after f (chomp_of h) n) g ∙ ap (λ v. xs ++ v) (content_none f (chomp_of h) n ∙ kept_is h n ∙ ap (λ v. line_feeds (last_breaks h v n)) (sym w)))
      go (ended ls a j p g w q) =
          give ls (xs ++ line_feeds (last_breaks h b n)) (lines_content cs (is_given o.digit) k i here end ls p over)
          (total ls (after_line f (chomp_of h) true a j) g ∙ ap (λ v. xs ++ v) (after_none f (chomp_of h) true a j ∙ chomped_is h (is_spaced a) j
          ∙ ap (λ v. line_feeds (last_breaks h v (suc j))) (sym w) ∙ ap (λ v. line_feeds (last_breaks h b v)) (sym q)))
      go (unended ls a p g w q y) =
          give ls (xs ++ line_feeds (last_breaks h b n)) (lines_content cs (is_given o.digit) k i here end ls p over)
          (total ls (after_line f (chomp_of h) false a 0) g ∙ ap (λ v. xs ++ v) (after_none f (chomp_of h) false a 0 ∙ unended_is h (is_spaced a)
          ∙ ap (λ v. line_feeds (last_breaks h v 0)) (sym w) ∙ ap (λ v. line_feeds (last_breaks h b v)) (sym q)))

  -- whether a line begins with a white
  pub spaced_is : (p q : ℕ) (b : Bool) → p < q → Stands cs is_nb p → OnTrue b (Stands cs is_white p) → OnFalse b (Stands cs is_white p → ⊥) → b ≡ is_spaced (slice_range cs p q)
  unfolding is_spaced
  spaced_is p q b l (c, h, t) there none = go b there none ∙ sym (ap is_spaced whole)
    where
      rest : List ℕ
      rest = slice_range cs (p + 1) q

      whole : slice_range cs p q ≡ c ∷ rest
      whole = slice_join cs p (p + 1) q (omega arith) (omega (arith, l)) ∙ ap (λ v. v ++ rest) (slice_one cs p (p + 1) c h refl)

      class : (w : Bool) → is_white c ≡ w → (Stands cs is_white p → ⊥) → false ≡ w
      class true e n = absurd (n (c, h, e))
      class false e n = refl

      go : (b : Bool) → OnTrue b (Stands cs is_white p) → OnFalse b (Stands cs is_white p → ⊥) → b ≡ is_white c
      go true (d, g, u) none = sym (ap is_white (same_char cs p c d h g) ∙ u)
      go false there n = class (is_white c) refl n
