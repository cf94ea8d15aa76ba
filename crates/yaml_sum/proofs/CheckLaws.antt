-- What becomes of the files of a list of sums, one line more at a time.
use Rattle.std.proofs.Common.{◌≡◌, ◌++◌, ◌||◌, ℕ, zero, suc, Bool, true, false, cond, ◌+◌, ◌-◌, ◌^◌, ◌<◌, ◌≤◌, max, List, [], ◌∷◌, Option, None, Some, length, map, take, refl, sym, ◌∙◌, ap, subst, arith, append_assoc, append-nil, length-append, inl, inr}
use Rattle.std.specs.Prelude.{Result, Ok, Err, OnOk, IfErr}
use Rattle.std.specs.Io.KnownBytes.{Appends}
use Rattle.std.proofs.Math.Seq.{take-length}
use Rattle.yaml_text.specs.CountedModel.{inner_of, faults_of}
use Rattle.yaml_text.specs.declared.fault.Fault.{Fault}
use Rattle.yaml_text.specs.declared.fault.Fault.TheVariants.{OutOfMemory, WriteFault}
use Rattle.yaml_text.specs.declared.counted.Counted.{Counted}
use Rattle.yaml_spell.specs.Writers.{Sent, CutOff}
use Rattle.yaml_text.specs.Writers.{Printed, Broken}
use Rattle.yaml_spell.proofs.Streams.{appends_none, appends_more}
use Rattle.yaml_command.specs.Printing.{PrintFails}
use Rattle.yaml_sum.specs.Names.{IsCut, pieces}
use Rattle.yaml_sum.specs.Parts.{line_text}
use Rattle.yaml_sum.specs.Asks.{list_limit, ListChecked, ListNotChecked}
use Rattle.yaml_sum.specs.Sums.{IsRead, Halts}
use Rattle.yaml_sum.specs.Listed.{Listing, listed_name, is_remark, listing_of, listing_in, improper_in, all_listings, improper_count, has_one_space, lines_of, listings_in}
use Rattle.yaml_sum.specs.Checks.{verdict_line, verdicts, finding_status, worst_found, any_found, is_right, any_right, one_unread, unread_in, one_wrong, wrong_in, IsTally, IsNothing, TellsFound, TellAllFound, Finds, FindAll, ChecksAll, ChecksCut}
use Rattle.yaml_sum.specs.Summaries.{Closes}
use Rattle.yaml_sum.specs.Checking.{Counts, CountsFile, IsCounted, Puts, PutsNot, ChecksSome, ChecksOnes, ChecksOne, Sees, CutsLine, Checking}
use Rattle.yaml_sum.specs.declared.asked.Rules.{Rules}
use Rattle.yaml_sum.specs.declared.check.Manner.{Manner}
use Rattle.yaml_sum.specs.declared.finding.Finding.{Finding}
use Rattle.yaml_sum.specs.declared.finding.Finding.TheVariants.{Right, Wrong, Missing, Without}
use Rattle.yaml_sum.specs.declared.told.Seen.{Seen}
use Rattle.yaml_sum.specs.declared.told.Seen.TheVariants.{Remark, Improper, File}
use Rattle.yaml_sum.specs.declared.told.Told.{Told}
use Rattle.yaml_sum.specs.declared.stop.Halt.TheVariants.{Fault as Failed}
use Rattle.yaml_sum.proofs.NameLaws.{pieces_cut, pieces_last}
use Rattle.yaml_sum.proofs.PartLaws.{text_short}
use Rattle.yaml_sum.proofs.SumLaws.{begun}

-- a line more of a list
listings_more : (m : Bool) (seen : List (List ℕ)) (line : List ℕ) → all_listings m (seen ++ (line ∷ [])) ≡ all_listings m seen ++ cond (is_remark line) [] (listing_in (listing_of m line))
listings_more m [] line = append-nil (cond (is_remark line) [] (listing_in (listing_of m line)))
listings_more m (s ∷ seen) line =
    ap (λ z. cond (is_remark s) [] (listing_in (listing_of m s)) ++ z) (listings_more m seen line)
    ∙ sym (append_assoc (cond (is_remark s) [] (listing_in (listing_of m s))) (all_listings m seen) (cond (is_remark line) [] (listing_in (listing_of m line))))

listings_both : (m : Bool) (seen lines : List (List ℕ)) → all_listings m (seen ++ lines) ≡ all_listings m seen ++ all_listings m lines
listings_both m [] lines = refl
listings_both m (s ∷ seen) lines =
    ap (λ z. cond (is_remark s) [] (listing_in (listing_of m s)) ++ z) (listings_both m seen lines)
    ∙ sym (append_assoc (cond (is_remark s) [] (listing_in (listing_of m s))) (all_listings m seen) (all_listings m lines))

improper_more : (m : Bool) (seen : List (List ℕ)) (line : List ℕ) → improper_count m (seen ++ (line ∷ [])) ≡ improper_count m seen + cond (is_remark line) 0 (improper_in (listing_of m line))
improper_more m [] line = let n : ℕ = cond (is_remark line) 0 (improper_in (listing_of m line)) in omega arith
improper_more m (s ∷ seen) line = let more = improper_more m seen line in omega (arith, more)

-- a file more
worst_found_more : (fs : List Finding) (f : Finding) → worst_found (fs ++ (f ∷ [])) ≡ max (worst_found fs) (finding_status f)
worst_found_more [] f = omega arith
worst_found_more (g ∷ fs) f = let more = worst_found_more fs f in omega (arith, more)

any_found_more : (fs : List Finding) (f : Finding) → any_found (fs ++ (f ∷ [])) ≡ true
any_found_more [] f = refl
any_found_more (g ∷ fs) f = refl

or_swap : (a b c : Bool) → (a || (b || c)) ≡ (b || (a || c))
or_swap true true c = refl
or_swap true false c = refl
or_swap false b c = refl

any_right_more : (fs : List Finding) (f : Finding) → any_right (fs ++ (f ∷ [])) ≡ (is_right f || any_right fs)
any_right_more [] f = refl
any_right_more (g ∷ fs) f = ap (λ z. is_right g || z) (any_right_more fs f) ∙ or_swap (is_right g) (is_right f) (any_right fs)

unread_more : (fs : List Finding) (f : Finding) → unread_in (fs ++ (f ∷ [])) ≡ unread_in fs + one_unread f
unread_more [] f = omega arith
unread_more (g ∷ fs) f = let more = unread_more fs f in omega (arith, more)

wrong_more : (fs : List Finding) (f : Finding) → wrong_in (fs ++ (f ∷ [])) ≡ wrong_in fs + one_wrong f
wrong_more [] f = omega arith
wrong_more (g ∷ fs) f = let more = wrong_more fs f in omega (arith, more)

tally_more : (fs : List Finding) (f : Finding) (t u : Told) → IsTally fs t → CountsFile t f u → IsTally (fs ++ (f ∷ [])) u
tally_more fs f t u h k = record {
  worst = k.worst ∙ ap (λ z. max z (finding_status f)) h.worst ∙ sym (worst_found_more fs f);
  has = k.has ∙ sym (any_found_more fs f);
  verified = k.verified ∙ ap (λ z. is_right f || z) h.verified ∙ sym (any_right_more fs f);
  unread = k.unread ∙ ap (λ z. z + one_unread f) h.unread ∙ sym (unread_more fs f);
  wrong = k.wrong ∙ ap (λ z. z + one_wrong f) h.wrong ∙ sym (wrong_more fs f);
}

-- one file counts once at most
one_at_most : (f : Finding) → one_unread f + one_wrong f ≤ 1
one_at_most Right = omega arith
one_at_most Wrong = omega arith
one_at_most Missing = omega arith
one_at_most (Without stop) = omega arith

module _ {E : Type 0} (told : E → Option (List ℕ)) (rules : Rules) where
  tell_found_more : (ls : List Listing) (l : Listing) (fs : List Finding) (f : Finding) (a b c : Counted E) → TellAllFound told rules ls fs a b → TellsFound told rules (listed_name l) f b c → TellAllFound told rules (ls ++ (l ∷ [])) (fs ++ (f ∷ [])) a c
  tell_found_more [] l [] f a b c h k = (c, subst (λ z. TellsFound told rules (listed_name l) f z c) h k, refl)
  tell_found_more [] l (g ∷ fs) f a b c h k = absurd h
  tell_found_more (m ∷ ls) l [] f a b c h k = absurd h
  tell_found_more (m ∷ ls) l (g ∷ fs) f a b c (u, first, rest) k = (u, first, tell_found_more ls l fs f u b c rest k)

module _ {R : Type 0} (holds : List ℕ → Option (List ℕ)) (remaining : R → Option (List ℕ)) (rules : Rules) where
  find_more : (ls : List Listing) (l : Listing) (old mid new : R) (fs : List Finding) (f : Finding) → FindAll holds remaining rules ls old mid fs → Finds holds remaining rules l mid new f → FindAll holds remaining rules (ls ++ (l ∷ [])) old new (fs ++ (f ∷ []))
  find_more [] l old mid new fs f (e, g) b = (new, f, [], subst (λ z. Finds holds remaining rules l z new f) e b, (refl, refl), ap (λ z. z ++ (f ∷ [])) g)
  find_more (m ∷ ls) l old mid new fs f (u, p, more, first, rest, e) b =
      (u, p, more ++ (f ∷ []), first, find_more ls l u mid new more f rest b, ap (λ z. z ++ (f ∷ [])) e)

  verdicts_more : (ls : List Listing) (l : Listing) (old mid : R) (fs : List Finding) (f : Finding) → FindAll holds remaining rules ls old mid fs
      → verdicts rules (ls ++ (l ∷ [])) (fs ++ (f ∷ [])) ≡ verdicts rules ls fs ++ verdict_line rules (listed_name l) f
  verdicts_more [] l old mid fs f (e, g) = ap (λ z. verdicts rules (l ∷ []) (z ++ (f ∷ []))) g ∙ append-nil (verdict_line rules (listed_name l) f)
  verdicts_more (m ∷ ls) l old mid fs f (u, p, more, first, rest, e) =
      ap (λ z. verdicts rules (m ∷ (ls ++ (l ∷ []))) (z ++ (f ∷ []))) e
      ∙ ap (λ z. verdict_line rules (listed_name m) p ++ z) (verdicts_more ls l u mid more f rest)
      ∙ sym (append_assoc (verdict_line rules (listed_name m) p) (verdicts rules ls more) (verdict_line rules (listed_name l) f))
      ∙ ap (λ z. verdicts rules (m ∷ ls) z ++ verdict_line rules (listed_name l) f) (sym e)

  module _ {W E : Type 0} (contents : W → Option (List ℕ)) (told : E → Option (List ℕ)) where
    -- nothing yet
    some_none : (t : Told) (old : R) (o : Counted W) (a : Counted E) → IsTally [] t → ChecksSome holds remaining contents told rules [] old old o o a a t
    some_none t old o a h = record { findings = []; find = (refl, refl); sent = record { took = appends_none (contents (inner_of o)); counted = refl }; tells = refl; tally = h }

    -- a file more
    one_more : (ls : List Listing) (l : Listing) (f : Finding) (old mid new : R) (o u v : Counted W) (a b c : Counted E) (t w : Told) → ChecksSome holds remaining contents told rules ls old mid o u a b t
        → ChecksOne holds remaining contents told rules l mid new u v b c f → CountsFile t f w → ChecksSome holds remaining contents told rules (ls ++ (l ∷ [])) old new o v a c w
    one_more ls l f old mid new o u v a b c t w h k n = record {
      findings = h.findings ++ (f ∷ []);
      find = find_more ls l old mid new h.findings f h.find k.finds;
      sent = record {
        took = subst (Appends (contents (inner_of o)) (contents (inner_of v))) (sym (verdicts_more ls l old mid h.findings f h.find))
            (appends_more _ _ _ (verdicts rules ls h.findings) (verdict_line rules (listed_name l) f) h.sent.took k.puts.sent.took);
        counted = k.puts.sent.counted ∙ h.sent.counted;
      };
      tells = tell_found_more told rules ls l h.findings f a b c h.tells k.puts.tells;
      tally = tally_more h.findings f t w h.tally n;
    }

    -- what is told of files is the same where only lines are counted
    same_files : (ls : List Listing) (old new : R) (o u : Counted W) (a b : Counted E) (t w : Told) → w.worst ≡ t.worst → w.has_sums ≡ t.has_sums → w.is_verified ≡ t.is_verified → w.unread ≡ t.unread → w.wrong ≡ t.wrong
        → ChecksSome holds remaining contents told rules ls old new o u a b t → ChecksSome holds remaining contents told rules ls old new o u a b w
    same_files ls old new o u a b t w d e f g i h = record {
      findings = h.findings;
      find = h.find;
      sent = h.sent;
      tells = h.tells;
      tally = record { worst = d ∙ h.tally.worst; has = e ∙ h.tally.has; verified = f ∙ h.tally.verified; unread = g ∙ h.tally.unread; wrong = i ∙ h.tally.wrong };
    }

    -- a file's line is cut off
    file_cut : (ls : List Listing) (l : Listing) (others : List Listing) (old mid new : R) (o u v : Counted W) (a b c : Counted E) (t : Told) (f : Finding) (fault : Fault) → faults_of o < 2 ^ 64 - 1
        → ChecksSome holds remaining contents told rules ls old mid o u a b t → Finds holds remaining rules l mid new f → CutOff contents u v (verdict_line rules (listed_name l) f) fault → TellsFound told rules (listed_name l) f b c
        → ChecksCut holds remaining contents told rules (ls ++ (l ∷ others)) old o v a c fault
    file_cut ls l others old mid new o u v a b c t f fault few h finds k tells = record {
      first = ls ++ (l ∷ []);
      others = others;
      split = sym (append_assoc ls (l ∷ []) others);
      findings = h.findings ++ (f ∷ []);
      next = new;
      find = find_more ls l old mid new h.findings f h.find finds;
      halts =
          subst (Halts holds remaining contents told o v (verdicts rules (ls ++ (l ∷ [])) (h.findings ++ (f ∷ [])))) (sym k.is)
          (subst (Broken contents o v) (sym (verdicts_more ls l old mid h.findings f h.find)) (begun holds remaining contents told o u v (verdicts rules ls h.findings) (verdict_line rules (listed_name l) f) fault few h.sent k));
      tells = tell_found_more told rules ls l h.findings f a b c h.tells tells;
    }

    -- or memory is refused
    memory_cut : (ls others : List Listing) (old mid : R) (o u : Counted W) (a b : Counted E) (t : Told) (fault : Fault) → ChecksSome holds remaining contents told rules ls old mid o u a b t → fault ≡ OutOfMemory
        → ChecksCut holds remaining contents told rules (ls ++ others) old o u a b fault
    memory_cut ls others old mid o u a b t fault h e = record {
      first = ls;
      others = others;
      split = refl;
      findings = h.findings;
      next = mid;
      find = h.find;
      halts = subst (Halts holds remaining contents told o u (verdicts rules ls h.findings)) (sym e) h.sent;
      tells = h.tells;
    }

    nothing : (n : ℕ) (xs : List ℕ) → xs ≡ [] → take n xs ≡ []
    nothing zero xs e = refl
    nothing (suc n) xs e = ap (take (suc n)) e

    -- all lines are written, and the writer is flushed
    pub flushed : (ls : List Listing) (old new : R) (o u v : Counted W) (a b : Counted E) (t : Told) → ChecksSome holds remaining contents told rules ls old new o u a b t → Printed contents u v [] → ChecksOnes holds remaining contents told rules ls old new o v a b t
    flushed ls old new o u v a b t h k = record {
      findings = h.findings;
      all = record {
        find = h.find;
        printed = record {
          took = subst (Appends (contents (inner_of o)) (contents (inner_of v))) (append-nil (verdicts rules ls h.findings)) (appends_more _ _ _ (verdicts rules ls h.findings) [] h.sent.took k.took);
          flushed = k.flushed;
          counted = k.counted ∙ h.sent.counted;
        };
        tells = h.tells;
      };
      tally = h.tally;
    }

    -- or it is not
    pub unflushed : (ls : List Listing) (old new : R) (o u v : Counted W) (a b : Counted E) (t : Told) (fault : Fault) → ChecksSome holds remaining contents told rules ls old new o u a b t → PrintFails contents u v [] fault
        → ChecksCut holds remaining contents told rules ls old o v a b fault
    unflushed ls old new o u v a b t WriteFault h k = record {
      first = ls;
      others = [];
      split = sym (append-nil ls);
      findings = h.findings;
      next = new;
      find = h.find;
      halts = record {
        count = length (verdicts rules ls h.findings);
        took = subst (Appends (contents (inner_of o)) (contents (inner_of v))) (append-nil (verdicts rules ls h.findings) ∙ sym (take-length (verdicts rules ls h.findings)))
            (appends_more _ _ _ (verdicts rules ls h.findings) [] h.sent.took (subst (Appends (contents (inner_of u)) (contents (inner_of v))) (nothing k.count [] refl) k.took));
        counted = k.counted ∙ ap (λ n. n + 1) h.sent.counted;
      };
      tells = h.tells;
    }
    unflushed ls old new o u v a b t _ h k = absurd k

    -- memory is refused behind all lines
    closed_cut : (ls : List Listing) (old new : R) (o v : Counted W) (a b c : Counted E) (t : Told) (fault : Fault) → ChecksOnes holds remaining contents told rules ls old new o v a b t → fault ≡ OutOfMemory → c ≡ b
        → ChecksCut holds remaining contents told rules ls old o v a c fault
    closed_cut ls old new o v a b c t fault h e f = record {
      first = ls;
      others = [];
      split = sym (append-nil ls);
      findings = h.findings;
      next = new;
      find = h.all.find;
      halts = subst (Halts holds remaining contents told o v (verdicts rules ls h.findings)) (sym e) (record { took = h.all.printed.took; counted = h.all.printed.counted });
      tells = subst (TellAllFound told rules ls h.findings a) (sym f) h.all.tells;
    }

-- the same of the lines of a list
module _ {R W E : Type 0} (holds : List ℕ → Option (List ℕ)) (remaining : R → Option (List ℕ)) (contents : W → Option (List ℕ)) (told : E → Option (List ℕ)) (manner : Manner) where
  -- a line more
  line_more : (seen : List (List ℕ)) (line : List ℕ) (t u : Told) (s : Seen) (old mid new : R) (o p q : Counted W) (a b c : Counted E) → ChecksSome holds remaining contents told manner.rules (all_listings manner.one_space seen) old mid o p a b t
      → Sees holds remaining contents told manner line mid new p q b c s → Counts t s u → ChecksSome holds remaining contents told manner.rules (all_listings manner.one_space (seen ++ (line ∷ []))) old new o q a c u
  line_more seen line t u Remark old mid new o p q a b c h (e, f, g, i) k =
      let m = manner.one_space in
      let same : all_listings m (seen ++ (line ∷ [])) ≡ all_listings m seen = listings_more m seen line ∙ ap (λ z. all_listings m seen ++ cond z [] (listing_in (listing_of m line))) e ∙ append-nil (all_listings m seen) in
      rw (same, f, g, i, k) h
  line_more seen line t u Improper old mid new o p q a b c h (e, n, f, g, i) k =
      let m = manner.one_space in
      let same : all_listings m (seen ++ (line ∷ [])) ≡ all_listings m seen =
      listings_more m seen line ∙ ap (λ z. all_listings m seen ++ cond z [] (listing_in (listing_of m line))) e ∙ ap (λ z. all_listings m seen ++ listing_in z) n ∙ append-nil (all_listings m seen) in
      let files = same_files holds remaining manner.rules contents told (all_listings m seen) old mid o p a b t u k.worst k.has k.verified k.unread k.wrong h in
      rw (same, f, g, i) files
  line_more seen line t u (File finding) old mid new o p q a b c h (e, l, n, one) k =
      let m = manner.one_space in
      let more : all_listings m (seen ++ (line ∷ [])) ≡ all_listings m seen ++ (l ∷ []) =
      listings_more m seen line ∙ ap (λ z. all_listings m seen ++ cond z [] (listing_in (listing_of m line))) e ∙ ap (λ z. all_listings m seen ++ listing_in z) n in
      subst (λ z. ChecksSome holds remaining contents told manner.rules z old new o q a c u) (sym more)
      (one_more holds remaining manner.rules contents told (all_listings m seen) l finding old mid new o p q a b c t u h one k)

  counted_more : (seen : List (List ℕ)) (line : List ℕ) (t u : Told) (s : Seen) (mid new : R) (p q : Counted W) (b c : Counted E) → IsCounted manner.one_space seen t
      → Sees holds remaining contents told manner line mid new p q b c s → Counts t s u → IsCounted manner.one_space (seen ++ (line ∷ [])) u
  counted_more seen line t u Remark mid new p q b c h (e, f, g, i) k =
      let n = manner.one_space in
      let m = improper_more n seen line ∙ ap (λ z. improper_count n seen + cond z 0 (improper_in (listing_of n line))) e in
      let w = ap (λ z. z.improper) k ∙ h in
      omega (arith, m, w)
  counted_more seen line t u Improper mid new p q b c h (e, none, f, g, i) k =
      let n = manner.one_space in
      let m = improper_more n seen line ∙ ap (λ z. improper_count n seen + cond z 0 (improper_in (listing_of n line))) e ∙ ap (λ z. improper_count n seen + improper_in z) none in
      let v = k.improper in
      omega (arith, m, v, h)
  counted_more seen line t u (File finding) mid new p q b c h (e, l, some, one) k =
      let n = manner.one_space in
      let m = improper_more n seen line ∙ ap (λ z. improper_count n seen + cond z 0 (improper_in (listing_of n line))) e ∙ ap (λ z. improper_count n seen + improper_in z) some in
      let v = k.improper in
      omega (arith, m, v, h)

  line_cut : (seen : List (List ℕ)) (line : List ℕ) (tail : List (List ℕ)) (t : Told) (old mid : R) (o p q : Counted W) (a b c : Counted E) (fault : Fault) → faults_of o < 2 ^ 64 - 1
      → ChecksSome holds remaining contents told manner.rules (all_listings manner.one_space seen) old mid o p a b t
      → CutsLine holds remaining contents told manner line mid p q b c fault → ChecksCut holds remaining contents told manner.rules (all_listings manner.one_space (seen ++ (line ∷ tail))) old o q a c fault
  line_cut seen line tail t old mid o p q a b c fault few h (inl k) =
      let m = manner.one_space in
      let more : all_listings m (seen ++ (line ∷ tail)) ≡ all_listings m seen ++ (k.l ∷ all_listings m tail) =
      listings_both m seen (line ∷ tail) ∙ ap (λ z. all_listings m seen ++ (cond z [] (listing_in (listing_of m line)) ++ all_listings m tail)) k.remark ∙ ap (λ z. all_listings m seen ++ (listing_in z ++ all_listings m tail)) k.is in
      subst (λ z. ChecksCut holds remaining contents told manner.rules z old o q a c fault) (sym more)
      (file_cut holds remaining manner.rules contents told (all_listings m seen) k.l (all_listings m tail) old mid k.new o p q a b c t k.finding fault few h k.finds k.cut k.tells)
  line_cut seen line tail t old mid o p q a b c fault few h (inr (e, f, g)) =
      let m = manner.one_space in
      subst (λ z. ChecksCut holds remaining contents told manner.rules z old o q a c fault) (sym (listings_both m seen (line ∷ tail)))
      (subst (λ z. ChecksCut holds remaining contents told manner.rules (all_listings m seen ++ all_listings m (line ∷ tail)) old o z a c fault) (sym f)
      (subst (λ z. ChecksCut holds remaining contents told manner.rules (all_listings m seen ++ all_listings m (line ∷ tail)) old o p a z fault) (sym g)
      (memory_cut holds remaining manner.rules contents told (all_listings m seen) (all_listings m (line ∷ tail)) old mid o p a b t fault h e)))

  first_line : (rest piece : List ℕ) (m : Option (List ℕ)) → IsCut 10 rest piece m → (tail : List (List ℕ)) × (lines_of rest ≡ line_text piece ∷ tail)
  first_line rest piece (Some more) (one, e) = (lines_of more, ap lines_of e ∙ ap (map line_text) (pieces_cut 10 piece more one))
  first_line rest piece None (one, e) = ([], ap lines_of e ∙ ap (map line_text) (pieces_last 10 piece one))

  -- nothing of a list was gone over
  pub checking_none : (list : List ℕ) (t : Told) (old : R) (o : Counted W) (a : Counted E) → IsNothing t → Checking holds remaining contents told manner list list t old old o o a a
  checking_none list t old o a h = record {
    seen = [];
    whole = refl;
    some = some_none holds remaining manner.rules contents told t old o a h.tally;
    counted = h.improper;
    few = let i = h.improper in let u : t.unread ≡ 0 = h.tally.unread in let w : t.wrong ≡ 0 = h.tally.wrong in omega (arith, i, u, w);
  }

  some_bytes : (line : List ℕ) → is_remark line ≡ false → 1 ≤ length line
  some_bytes [] e = let x : true ≡ false = e in cc
  some_bytes (b ∷ bs) e = omega arith

  few_more : (list rest piece more : List ℕ) (t u : Told) (s : Seen) (mid new : R) (p q : Counted W) (b c : Counted E) → t.improper + t.unread + t.wrong + length rest ≤ length list → rest ≡ piece ++ (10 ∷ more)
      → Sees holds remaining contents told manner (line_text piece) mid new p q b c s → Counts t s u → u.improper + u.unread + u.wrong + length more ≤ length list
  few_more list rest piece more t u Remark mid new p q b c h e sees k =
      let l = ap length e ∙ length-append piece (10 ∷ more) in
      let i = ap (λ z. z.improper) k in
      let v = ap (λ z. z.unread) k in
      let w = ap (λ z. z.wrong) k in
      omega (arith, h, l, i, v, w)
  few_more list rest piece more t u Improper mid new p q b c h e sees k =
      let l = ap length e ∙ length-append piece (10 ∷ more) in
      let i = k.improper in
      let v = k.unread in
      let w = k.wrong in
      let n = some_bytes (line_text piece) sees.0 in
      let m = text_short piece in
      omega (arith, h, l, i, v, w, n, m)
  few_more list rest piece more t u (File finding) mid new p q b c h e sees k =
      let l = ap length e ∙ length-append piece (10 ∷ more) in
      let i = k.improper in
      let v = k.unread in
      let w = k.wrong in
      let one = one_at_most finding in
      let n = some_bytes (line_text piece) sees.0 in
      let m = text_short piece in
      omega (arith, h, l, i, v, w, one, n, m)

  -- a line comes off the rest
  pub checking_more : (list rest piece line more : List ℕ) (t u : Told) (s : Seen) (old mid new : R) (o p q : Counted W) (a b c : Counted E) → Checking holds remaining contents told manner list rest t old mid o p a b → IsCut 10 rest piece (Some more)
      → line ≡ line_text piece → Sees holds remaining contents told manner line mid new p q b c s → Counts t s u → Checking holds remaining contents told manner list more u old new o q a c
  checking_more list rest piece line more t u s old mid new o p q a b c h (one, e) text sees k =
      let saw : Sees holds remaining contents told manner (line_text piece) mid new p q b c s = subst (λ z. Sees holds remaining contents told manner z mid new p q b c s) text sees in
      record {
        seen = h.seen ++ (line_text piece ∷ []);
        whole = h.whole ∙ ap (λ z. h.seen ++ lines_of z) e ∙ ap (λ z. h.seen ++ map line_text z) (pieces_cut 10 piece more one) ∙ sym (append_assoc h.seen (line_text piece ∷ []) (lines_of more));
        some = line_more h.seen (line_text piece) t u s old mid new o p q a b c h.some saw k;
        counted = counted_more h.seen (line_text piece) t u s mid new p q b c h.counted saw k;
        few = few_more list rest piece more t u s mid new p q b c h.few e saw k;
      }

  last_line : (list rest piece : List ℕ) (seen : List (List ℕ)) → lines_of list ≡ seen ++ lines_of rest → IsCut 10 rest piece None → seen ++ (line_text piece ∷ []) ≡ lines_of list
  last_line list rest piece seen e (one, f) = sym (e ∙ ap (λ z. seen ++ lines_of z) f ∙ ap (λ z. seen ++ map line_text z) (pieces_last 10 piece one))

  -- or is all of it
  pub checking_last : (list rest piece line : List ℕ) (t u : Told) (s : Seen) (old mid new : R) (o p q : Counted W) (a b c : Counted E) → Checking holds remaining contents told manner list rest t old mid o p a b → IsCut 10 rest piece None
      → line ≡ line_text piece → Sees holds remaining contents told manner line mid new p q b c s → Counts t s u → ChecksSome holds remaining contents told manner.rules (all_listings manner.one_space (lines_of list)) old new o q a c u
  checking_last list rest piece line t u s old mid new o p q a b c h cut text sees k =
      let saw : Sees holds remaining contents told manner (line_text piece) mid new p q b c s = subst (λ z. Sees holds remaining contents told manner z mid new p q b c s) text sees in
      subst (λ z. ChecksSome holds remaining contents told manner.rules (all_listings manner.one_space z) old new o q a c u) (last_line list rest piece h.seen h.whole cut) (line_more h.seen (line_text piece) t u s old mid new o p q a b c h.some saw k)

  pub counted_last : (list rest piece line : List ℕ) (t u : Told) (s : Seen) (old mid new : R) (o p q : Counted W) (a b c : Counted E) → Checking holds remaining contents told manner list rest t old mid o p a b → IsCut 10 rest piece None
      → line ≡ line_text piece → Sees holds remaining contents told manner line mid new p q b c s → Counts t s u → IsCounted manner.one_space (lines_of list) u
  counted_last list rest piece line t u s old mid new o p q a b c h cut text sees k =
      let saw : Sees holds remaining contents told manner (line_text piece) mid new p q b c s = subst (λ z. Sees holds remaining contents told manner z mid new p q b c s) text sees in
      subst (λ z. IsCounted manner.one_space z u) (last_line list rest piece h.seen h.whole cut) (counted_more h.seen (line_text piece) t u s mid new p q b c h.counted saw k)

  -- or its file's line is cut off
  pub checking_cut : (list rest piece line : List ℕ) (m : Option (List ℕ)) (t : Told) (old mid : R) (o p q : Counted W) (a b c : Counted E) (fault : Fault) → faults_of o < 2 ^ 64 - 1 → Checking holds remaining contents told manner list rest t old mid o p a b → IsCut 10 rest piece m
      → line ≡ line_text piece → CutsLine holds remaining contents told manner line mid p q b c fault → ChecksCut holds remaining contents told manner.rules (all_listings manner.one_space (lines_of list)) old o q a c fault
  checking_cut list rest piece line m t old mid o p q a b c fault few h cut text k =
      let f = first_line rest piece m cut in
      let cuts : CutsLine holds remaining contents told manner (line_text piece) mid p q b c fault = subst (λ z. CutsLine holds remaining contents told manner z mid p q b c fault) text k in
      subst (λ z. ChecksCut holds remaining contents told manner.rules (all_listings manner.one_space z) old o q a c fault) (sym (h.whole ∙ ap (λ z. h.seen ++ z) f.1)) (line_cut h.seen (line_text piece) f.0 t old mid o p q a b c fault few h.some cuts)

  pub no_more : (list rest : List ℕ) (t : Told) (old mid : R) (o p : Counted W) (a b : Counted E) → Checking holds remaining contents told manner list rest t old mid o p a b → length list < 2 ^ 64 - 1 → t.improper + t.unread + t.wrong < 2 ^ 64 - 1
  no_more list rest t old mid o p a b h e = let f = h.few in omega (arith, e, f)

-- The line of a file goes out, or is cut off.
module _ {W E : Type 0} (contents : W → Option (List ℕ)) (told : E → Option (List ℕ)) (rules : Rules) where
  pub puts : {T : Type 0} (name : List ℕ) (f : Finding) (o u : Counted W) (a b : Counted E) (piece : List ℕ) (r : Result T Fault) → piece ≡ verdict_line rules name f → TellsFound told rules name f a b → OnOk r (Sent contents o u piece) → OnOk r (Puts contents told rules name f o u a b)
  puts name f o u a b piece (Ok x) e t h = record { sent = subst (Sent contents o u) e h; tells = t }
  puts name f o u a b piece (Err fault) e t h = h

  pub puts_not : {T : Type 0} (name : List ℕ) (f : Finding) (o u : Counted W) (a b : Counted E) (piece : List ℕ) (r : Result T Fault) → piece ≡ verdict_line rules name f → TellsFound told rules name f a b → IfErr r (CutOff contents o u piece) → IfErr r (PutsNot contents told rules name f o u a b)
  puts_not name f o u a b piece (Ok x) e t h = h
  puts_not name f o u a b piece (Err fault) e t h = inl (subst (λ z. CutOff contents o u z fault) e h, t)

-- and it is that of the line of the list
module _ {R W E : Type 0} (holds : List ℕ → Option (List ℕ)) (remaining : R → Option (List ℕ)) (contents : W → Option (List ℕ)) (told : E → Option (List ℕ)) (manner : Manner) where
  pub sees_file : (line : List ℕ) (l : Listing) (f : Finding) (old new : R) (o u : Counted W) (a b : Counted E) → is_remark line ≡ false → listing_of manner.one_space line ≡ Some l → Finds holds remaining manner.rules l old new f
      → Puts contents told manner.rules (listed_name l) f o u a b → Sees holds remaining contents told manner line old new o u a b (File f)
  sees_file line l f old new o u a b e n finds p = (e, l, n, record { finds = finds; puts = p })

  pub cuts_line : (line : List ℕ) (l : Listing) (f : Finding) (old new : R) (o u : Counted W) (a b : Counted E) (fault : Fault) → is_remark line ≡ false → listing_of manner.one_space line ≡ Some l → Finds holds remaining manner.rules l old new f
      → PutsNot contents told manner.rules (listed_name l) f o u a b fault → CutsLine holds remaining contents told manner line old o u a b fault
  cuts_line line l f old new o u a b fault e n finds (inl k) = inl (record { l = l; remark = e; is = n; new = new; finding = f; finds = finds; cut = k.0; tells = k.1 })
  cuts_line line l f old new o u a b fault e n finds (inr k) = inr k

-- a list whose files were looked at, and one of which memory is refused behind that
module _ {R W E : Type 0} (holds : List ℕ → Option (List ℕ)) (remaining : R → Option (List ℕ)) (contents : W → Option (List ℕ)) (told : E → Option (List ℕ)) where
  ones_of : (rules : Rules) (manner : Manner) (piece : List ℕ) (old new : R) (o v : Counted W) (a b : Counted E) (t : Told) → manner.rules ≡ rules → manner.one_space ≡ has_one_space (lines_of piece)
      → ChecksOnes holds remaining contents told manner.rules (all_listings manner.one_space (lines_of piece)) old new o v a b t → ChecksOnes holds remaining contents told rules (listings_in piece) old new o v a b t
  ones_of rules manner piece old new o v a b t e f h =
      subst (λ m. ChecksOnes holds remaining contents told rules (all_listings m (lines_of piece)) old new o v a b t) f
      (subst (λ r. ChecksOnes holds remaining contents told r (all_listings manner.one_space (lines_of piece)) old new o v a b t) e h)

  pub list_checked : (rules : Rules) (manner : Manner) (list bytes piece : List ℕ) (old behind new : R) (o v : Counted W) (a b c : Counted E) (t : Told) (status : ℕ) → manner.rules ≡ rules → manner.one_space ≡ has_one_space (lines_of piece) → piece ≡ bytes
      → IsRead holds remaining list list_limit old behind bytes → ChecksOnes holds remaining contents told manner.rules (all_listings manner.one_space (lines_of piece)) behind new o v a b t → IsCounted manner.one_space (lines_of piece) t
      → Closes told rules list t b c status → ListChecked holds remaining contents told list rules old new o v a c status
  list_checked rules manner list bytes piece old behind new o v a b c t status e f g read h counted k =
      let ones = ones_of rules manner piece behind new o v a b t e f h in
      record {
        bytes = piece;
        behind = behind;
        read = subst (IsRead holds remaining list list_limit old behind) (sym g) read;
        findings = ones.findings;
        middle = b;
        checks = ones.all;
        told_of = t;
        tally = ones.tally;
        improper = subst (λ m. IsCounted m (lines_of piece) t) f counted;
        closes = k;
      }

  pub lines_cut : (rules : Rules) (manner : Manner) (list bytes piece : List ℕ) (old behind new : R) (o v : Counted W) (a b : Counted E) (fault : Fault) → manner.rules ≡ rules → manner.one_space ≡ has_one_space (lines_of piece) → piece ≡ bytes
      → IsRead holds remaining list list_limit old behind bytes → ChecksCut holds remaining contents told manner.rules (all_listings manner.one_space (lines_of piece)) behind o v a b fault
      → ListNotChecked holds remaining contents told list rules old new o v a b (Failed fault)
  lines_cut rules manner list bytes piece old behind new o v a b fault e f g read h =
      inr (
        piece,
        behind,
        subst (IsRead holds remaining list list_limit old behind) (sym g) read,
        subst (λ m. ChecksCut holds remaining contents told rules (all_listings m (lines_of piece)) behind o v a b fault) f
            (subst (λ r. ChecksCut holds remaining contents told r (all_listings manner.one_space (lines_of piece)) behind o v a b fault) e h),
      )

  pub list_cut : (rules : Rules) (manner : Manner) (list bytes piece : List ℕ) (old behind new : R) (o v : Counted W) (a b c : Counted E) (t : Told) (fault : Fault) → manner.rules ≡ rules → manner.one_space ≡ has_one_space (lines_of piece) → piece ≡ bytes
      → IsRead holds remaining list list_limit old behind bytes → ChecksOnes holds remaining contents told manner.rules (all_listings manner.one_space (lines_of piece)) behind new o v a b t → fault ≡ OutOfMemory → c ≡ b
      → ListNotChecked holds remaining contents told list rules old new o v a c (Failed fault)
  list_cut rules manner list bytes piece old behind new o v a b c t fault e f g read h out same =
      lines_cut rules manner list bytes piece old behind new o v a c fault e f g read (closed_cut holds remaining manner.rules contents told (all_listings manner.one_space (lines_of piece)) behind new o v a b c t fault h out same)
