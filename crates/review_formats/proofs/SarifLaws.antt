-- Logs of SARIF: URIs of files, and values one behind the other.
use Rattle.std.proofs.Common.{◌≡◌, ◌<◌, ◌≤◌, ℕ, zero, suc, ◌+◌, ◌==◌, Bool, true, false, ◌&&◌, ◌||◌, nat_lt, List, [], ◌∷◌, ◌++◌, map, drop, length, get_or, refl, sym, ◌∙◌, ap, subst, arith}
use Rattle.std.specs.Prelude.{bytes_eq, cond, not, if◌then◌else◌, Option, Some, None, String, codes, string_bytes}
use Rattle.std.specs.declared.alloc.Global.{Global}
use Rattle.std.specs.List.{flat_map, list_any}
use Rattle.std.specs.Borrow.{Bor}
use Rattle.std.proofs.Math.ListN.{drop_of_length-le}
use Rattle.std.proofs.lemmas.List.{append_assoc, append-nil, map-append}
use Rattle.std.proofs.lemmas.Bool.Decides.{nat_tests}
use lib.Pointwise.{bytes_decides}
use Rattle.percent_encoding.specs.Percent.{percent_encode, percent_encode_byte, encode_byte}
use Rattle.percent_encoding.specs.AsciiSet.{contains, should_percent_encode}
use Rattle.serde_json.specs.Data.{Data, Members, member, no_members, array}
use Rattle.serde_json.specs.View.{items_of}
use Rattle.serde_json.specs.Written.{has_float, items_have_float, members_have_float}
use Rattle.yaml_path.specs.declared.place.Place.{Place}
use Rattle.review_formats.specs.Findings.{left_out_of}
use Rattle.review_formats.specs.LeftOut.{is_none}
use Rattle.review_formats.specs.declared.finding.Finding.{Finding}
use Rattle.review_formats.specs.declared.finding.Part.{Part}
use Rattle.review_formats.specs.declared.left_out.LeftOut.{LeftOut}
use Rattle.review_formats.specs.declared.sarif.TheConstants.{ESCAPED}
use Rattle.review_formats.specs.Sarif.{is_kept, uri_byte, uri_text, physical_data, location_data, result_data, part_results, part_findings, with_rule, with_findings, rule_data, rules_data, tool_data, invocations_data, with_invocations, log_data}
use Rattle.review_formats.proofs.PieceLaws.{drop_next}

-- ---- URIs

-- a test of all numbers below one
all_below : (ℕ → Bool) → ℕ → Bool
all_below p zero = true
all_below p (suc n) = p n && all_below p n

both_true : (a b : Bool) → (a && b) ≡ true → (a ≡ true) × (b ≡ true)
both_true true b h = (refl, h)
both_true false b h = absurd cc

below : (p : ℕ → Bool) (n i : ℕ) → all_below p n ≡ true → i < n → p i ≡ true
unfolding all_below
below p zero i h l = absurd (omega arith)
below p (suc n) i h l =
    let q = both_true (p n) (all_below p n) h in
    elim (i == n) as (λ v. (i == n) ≡ v → p i ≡ true) [
      | true ↦ λ e. let f : n ≡ i = grind (arith, nat_tests) in subst (λ z. p z ≡ true) f q.0
      | false ↦ λ e. let k : i < n = grind (arith, nat_tests) in below p n i q.1 k
    ] refl

abbrev is_alike : ℕ → Bool
is_alike b = bytes_eq (encode_byte ESCAPED b) (uri_byte b)

all_alike : all_below is_alike 128 ≡ true
unfolding all_below percent_encode_byte should_percent_encode
all_alike = refl

byte_alike : (b : ℕ) → encode_byte ESCAPED b ≡ uri_byte b
unfolding should_percent_encode
byte_alike b =
    elim (nat_lt b 128) as (λ v. nat_lt b 128 ≡ v → encode_byte ESCAPED b ≡ uri_byte b) [
      | true ↦ λ e. let l : b < 128 = grind (arith, nat_tests) in (bytes_decides (encode_byte ESCAPED b) (uri_byte b)).0 (below is_alike 128 b all_alike l)
      | false ↦ λ e.
          let k : is_kept b ≡ false = grind (arith, nat_tests) in
          ap (λ z. if not z || contains ESCAPED b then percent_encode_byte b else (b ∷ [])) e ∙ sym (ap (λ z. cond z (b ∷ []) (percent_encode_byte b)) k)
    ] refl

pub uri_encoded : (name : List ℕ) → percent_encode ESCAPED name ≡ uri_text name
unfolding percent_encode
uri_encoded [] = refl
uri_encoded (b ∷ name) = ap (λ z. z ++ percent_encode ESCAPED name) (byte_alike b) ∙ ap (λ z. uri_byte b ++ z) (uri_encoded name)

-- ---- values one behind the other

pub push_next : {X Y V : Type 0} (f : X → Y) (g : V → Y) (xs : List X) (i : ℕ) (d : X) (vs ws : List V) (v : V) (whole : List Y) → i < length xs → map g vs ++ map f (drop i xs) ≡ whole → ws ≡ vs ++ v ∷ [] → g v ≡ f (get_or xs i d) → map g ws ++ map f (drop (i + 1) xs) ≡ whole
push_next f g xs i d vs ws v whole l h p e =
    ap (λ z. map g z ++ map f (drop (i + 1) xs)) p
    ∙ ap (λ z. z ++ map f (drop (i + 1) xs)) (map-append g vs (v ∷ []))
    ∙ append_assoc (map g vs) (g v ∷ []) (map f (drop (i + 1) xs))
    ∙ ap (λ z. map g vs ++ z ∷ map f (drop (i + 1) xs)) e
    ∙ ap (λ z. map g vs ++ map f z) (sym (drop_next xs i d l))
    ∙ h

pub push_all : {X Y V : Type 0} (f : X → Y) (g : V → Y) (xs : List X) (i : ℕ) (vs : List V) (whole : List Y) → length xs ≤ i → map g vs ++ map f (drop i xs) ≡ whole → map g vs ≡ whole
push_all f g xs i vs whole l h = sym (append-nil (map g vs)) ∙ ap (λ z. map g vs ++ map f z) (sym (drop_of_length-le xs l)) ∙ h

-- ---- rules

abbrev pub texts_of : List (Bor (List ℕ)) → List (List ℕ)
texts_of rules = map {A = Bor (List ℕ)} {B = List ℕ} (λ one. one.now) rules

any_seen : (rule : List ℕ) (rules : List (Bor (List ℕ))) → list_any (λ one. bytes_eq one rule) (texts_of rules) ≡ list_any (λ one. bytes_eq one.now rule) rules
any_seen rule [] = refl
any_seen rule (r ∷ rules) = ap (λ z. bytes_eq r.now rule || z) (any_seen rule rules)

-- a finding more is looked at
pub rule_next : (ones : List Finding) (i : ℕ) (d : Finding) (seen next : List (List ℕ)) (whole : List (List ℕ)) → i < length ones → with_findings seen (drop i ones) ≡ whole → next ≡ with_rule seen (get_or ones i d).rule.now → with_findings next (drop (i + 1) ones) ≡ whole
rule_next ones i d seen next whole l h e = ap (λ z. with_findings z (drop (i + 1) ones)) e ∙ ap (with_findings seen) (sym (drop_next ones i d l)) ∙ h

pub rule_all : (ones : List Finding) (i : ℕ) (seen whole : List (List ℕ)) → length ones ≤ i → with_findings seen (drop i ones) ≡ whole → seen ≡ whole
rule_all ones i seen whole l h = ap (with_findings seen) (sym (drop_of_length-le ones l)) ∙ h

-- a rule that is there already, and one that is not
pub rule_there : (rules : List (Bor (List ℕ))) (rule : List ℕ) → list_any (λ one. bytes_eq one.now rule) rules ≡ true → texts_of rules ≡ with_rule (texts_of rules) rule
rule_there rules rule h = sym (ap (λ z. cond z (texts_of rules) (texts_of rules ++ rule ∷ [])) (any_seen rule rules ∙ h))

pub rule_new : (rules next : List (Bor (List ℕ))) (one : Bor (List ℕ)) (rule : List ℕ) → list_any (λ one. bytes_eq one.now rule) rules ≡ false → next ≡ rules ++ one ∷ [] → one.now ≡ rule → texts_of next ≡ with_rule (texts_of rules) rule
rule_new rules next one rule h p e =
    ap texts_of p ∙ map-append {A = Bor (List ℕ)} {B = List ℕ} (λ one. one.now) rules (one ∷ []) ∙ ap (λ z. texts_of rules ++ z ∷ []) e
    ∙ sym (ap (λ z. cond z (texts_of rules) (texts_of rules ++ rule ∷ [])) (any_seen rule rules ∙ h))

with_append : (seen : List (List ℕ)) (xs ys : List Finding) → with_findings seen (xs ++ ys) ≡ with_findings (with_findings seen xs) ys
with_append seen [] ys = refl
with_append seen (x ∷ xs) ys = with_append (with_rule seen x.rule.now) xs ys

-- a part more is looked at
pub part_next : (parts : List Part) (i : ℕ) (d : Part) (seen next whole : List (List ℕ)) → i < length parts → with_findings seen (flat_map part_findings (drop i parts)) ≡ whole → next ≡ with_findings seen (get_or parts i d).list.items → with_findings next (flat_map part_findings (drop (i + 1) parts)) ≡ whole
part_next parts i d seen next whole l h e =
    ap (λ z. with_findings z (flat_map part_findings (drop (i + 1) parts))) e
    ∙ sym (with_append seen (get_or parts i d).list.items (flat_map part_findings (drop (i + 1) parts)))
    ∙ ap (λ z. with_findings seen (flat_map part_findings z)) (sym (drop_next parts i d l))
    ∙ h

pub part_all : (parts : List Part) (i : ℕ) (seen whole : List (List ℕ)) → length parts ≤ i → with_findings seen (flat_map part_findings (drop i parts)) ≡ whole → seen ≡ whole
part_all parts i seen whole l h = ap (λ z. with_findings seen (flat_map part_findings z)) (sym (drop_of_length-le parts l)) ∙ h

abbrev pub of_rule : Bor (List ℕ) → Data
of_rule one = rule_data one.now

pub rules_seen : (rules : List (Bor (List ℕ))) → map of_rule rules ≡ map rule_data (texts_of rules)
rules_seen [] = refl
rules_seen (one ∷ rules) = ap (λ z. rule_data one.now ∷ z) (rules_seen rules)

-- ---- no number of the log is a float, so its text is known

all_no_float : {X : Type 0} (f : X → Data) → ((x : X) → has_float (f x) ≡ false) → (xs : List X) → items_have_float (items_of (map f xs)) ≡ false
all_no_float f h [] = refl
all_no_float f h (x ∷ xs) = ap (λ z. z || items_have_float (items_of (map f xs))) (h x) ∙ all_no_float f h xs

neither_is : (a b : Bool) → (a || b) ≡ false → (a ≡ false) × (b ≡ false)
neither_is false b h = (refl, h)
neither_is true b h = absurd cc

appended_no_float : (xs ys : List Data) → items_have_float (items_of xs) ≡ false → items_have_float (items_of ys) ≡ false → items_have_float (items_of (xs ++ ys)) ≡ false
appended_no_float [] ys h k = k
appended_no_float (x ∷ xs) ys h k =
    let p = neither_is (has_float x) (items_have_float (items_of xs)) h in
    ap (λ z. z || items_have_float (items_of (xs ++ ys))) p.0 ∙ appended_no_float xs ys p.1 k

physical_no_float : (name : List ℕ) (place : Option Place) → has_float (physical_data name place) ≡ false
physical_no_float name None = refl
physical_no_float name (Some place) = refl

location_no_float : (name : List ℕ) (place : Option Place) (path : Option (String Global)) → has_float (location_data name place path) ≡ false
location_no_float name place None = ap (λ z. z || false) (physical_no_float name place)
location_no_float name place (Some path) = ap (λ z. z || false) (physical_no_float name place)

result_no_float : (one : Finding) → has_float (result_data one) ≡ false
result_no_float one = ap (λ z. (z || false) || false) (location_no_float (string_bytes one.file) one.place one.path)

results_no_float : (parts : List Part) → items_have_float (items_of (flat_map part_results parts)) ≡ false
results_no_float [] = refl
results_no_float (part ∷ parts) = appended_no_float (part_results part) (flat_map part_results parts) (all_no_float result_data result_no_float part.list.items) (results_no_float parts)

-- with what is not listed, if something is
with_no_float : (l : LeftOut) (members : Members) → members_have_float (with_invocations l members) ≡ members_have_float members
with_no_float l members = by (is_none l)
  where
    by : (b : Bool) → members_have_float (cond b members (member (codes "invocations") (invocations_data l) members)) ≡ members_have_float members
    by true = refl
    by false = refl

pub log_no_float : (parts : List Part) → has_float (log_data parts) ≡ false
log_no_float parts =
    let rules_have : Bool = items_have_float (items_of (rules_data parts)) in
    ap (λ z. (z || false) || false) (with_no_float (left_out_of parts) (member (codes "results") (array (items_of (flat_map part_results parts))) (member (codes "tool") (tool_data parts) no_members)))
    ∙ ap (λ z. ((z || (((rules_have || false) || false) || false)) || false) || false) (results_no_float parts)
    ∙ ap (λ z. ((((z || false) || false) || false) || false) || false) (all_no_float rule_data (λ r. refl) (with_findings [] (flat_map part_findings parts)))
