-- A scalar under a written tag keeps that tag.
use Rattle.std.proofs.Common.{Global, ◌≡◌, ◌∙◌, Bool, true, false, List, ℕ, refl, sym, subst, Ok, Err}
use Rattle.std.specs.Prelude.{Option, None, Some, Result, MatchOption, MatchResult, IfOk, IfErr, String, string_bytes, if◌then◌else◌, ◌||◌, bytes_eq}
use Rattle.yaml_definitions.specs.model.Tag.{null_tag, bool_tag, int_tag, float_tag, seq_tag, map_tag}
use Rattle.yaml_core.specs.CoreAnswer.{RefusesScalar}
use Rattle.yaml_core.specs.declared.fault.CoreFault.{CoreFault}
use Rattle.yaml_core.specs.declared.fault.CoreFault.TheVariants as faults
use Rattle.yaml_definitions.specs.model.Core.{Cause, Value, Resolved, refused, accepted, by_pattern, bad_content, wrong_kind, by_tag, null_of, bool_of, int_of, float_of, as_bool, as_int}

-- where there is a value, it has this tag
abbrev HasTag : List ℕ → Resolved → Type 0
HasTag g (Ok p) = p.0 ≡ g
HasTag g (Err cause) = Unit {0}

accepted-tag : (g : List ℕ) (v : Value) (o : Option Cause) → HasTag g (accepted g v o)
accepted-tag g v None = refl
accepted-tag g v (Some cause) = tt

pattern-tag : (g : List ℕ) (o : Option Value) → HasTag g (by_pattern g o (Err bad_content))
pattern-tag g None = tt
pattern-tag g (Some v) = accepted-tag g v (refused v)

either-tag : (g : List ℕ) (b : Bool) (r s : Resolved) → HasTag g r → HasTag g s → HasTag g (if b then r else s)
either-tag g true r s h k = h
either-tag g false r s h k = k

has-tag : (g x : List ℕ) → HasTag g (by_tag g x)
unfolding by_tag
has-tag g x =
    let bad : Resolved = Err bad_content in
    let kept : Resolved = if bytes_eq g seq_tag || bytes_eq g map_tag then Err wrong_kind else Ok (g, x) in
    let by_float : Resolved = if bytes_eq g float_tag then by_pattern g (float_of x) bad else kept in
    let by_int : Resolved = if bytes_eq g int_tag then by_pattern g (as_int (int_of x)) bad else by_float in
    let by_bool : Resolved = if bytes_eq g bool_tag then by_pattern g (as_bool (bool_of x)) bad else by_int in
    either-tag g (bytes_eq g null_tag) (by_pattern g (null_of x) bad) by_bool (pattern-tag g (null_of x))
    (either-tag g (bytes_eq g bool_tag) (by_pattern g (as_bool (bool_of x)) bad) by_int (pattern-tag g (as_bool (bool_of x)))
    (either-tag g (bytes_eq g int_tag) (by_pattern g (as_int (int_of x)) bad) by_float (pattern-tag g (as_int (int_of x)))
    (either-tag g (bytes_eq g float_tag) (by_pattern g (float_of x) bad) kept (pattern-tag g (float_of x))
    (either-tag g (bytes_eq g seq_tag || bytes_eq g map_tag) (Err wrong_kind) (Ok (g, x)) tt refl))))

tag-kept : (g x h y : List ℕ) → by_tag g x ≡ Ok (h, y) → h ≡ g
tag-kept g x h y e = subst (HasTag g) e (has-tag g x)

-- the content is the text, or another
abbrev pub Content : List ℕ → List ℕ → Option (String Global) → Type 0
Content g x o = MatchOption o (by_tag g x ≡ Ok (g, x)) (λ t. by_tag g x ≡ Ok (g, string_bytes t))

content-kept : (g x h y : List ℕ) (o : Option (String Global)) → by_tag g x ≡ Ok (h, y) → MatchOption o (y ≡ x) (λ t. string_bytes t ≡ y) → Content g x o
content-kept g x h y None e q = let t = tag-kept g x h y e in e ∙ (λ z. Ok (t z, q z))
content-kept g x h y (Some s) e q = let t = tag-kept g x h y e in e ∙ (λ z. Ok (t z, sym q z))

pub content-made : (g x h y : List ℕ) (r : Result (Option (String Global)) CoreFault) → by_tag g x ≡ Ok (h, y) → IfOk r (λ o. MatchOption o (y ≡ x) (λ t. string_bytes t ≡ y)) → IfErr r (λ fault. fault ≡ faults.OutOfMemory)
    → MatchResult r (Content g x) (RefusesScalar (by_tag g x))
content-made g x h y (Ok o) e made want = content-kept g x h y o e made
content-made g x h y (Err fault) e made want = subst (RefusesScalar (by_tag g x)) (sym want) tt
