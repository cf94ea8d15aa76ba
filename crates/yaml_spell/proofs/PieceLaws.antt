-- Pieces one after the other.
use Rattle.std.specs.Prelude.{Result, Ok, Err, OnOk, IfOk, IfErr}
use Rattle.std.proofs.Common.{◌≡◌, ℕ, List, [], ◌++◌, refl, sym, ◌∙◌, ap, subst}
use Rattle.std.proofs.lemmas.List.{append_assoc, append-nil}
use Rattle.std.proofs.lemmas.Str.{encodes-append}
use Rattle.std.specs.Str.{encode_utf8_all}
use Rattle.yaml_text.specs.declared.fault.Fault.{Fault}
use Rattle.yaml_spell.specs.Pieces.{Began, Writes, TakesPiece, Puts, Misses, Fails}

-- a fact of one arm of an answer
pub on_ok : {T E P Q : Type 0} (r : Result T E) → OnOk r P → (P → Q) → OnOk r Q
on_ok (Ok x) h f = f h
on_ok (Err e) h f = h

pub if_err : {T E : Type 0} {P Q : E → Type 0} (r : Result T E) → IfErr r P → ((e : E) → P e → Q e) → IfErr r Q
if_err (Ok x) h f = h
if_err (Err e) h f = f e h

pub writes_none : (old : List ℕ) → Writes old old (λ more. more)
writes_none old = record { is = λ more. refl }

pub writes_then : (a b c : List ℕ) (f g : List ℕ → List ℕ) → Writes a b f → Writes b c g → Writes a c (λ more. f (g more))
writes_then a b c f g h k = record { is = λ more. k.is more ∙ h.is (g more) }

-- characters whose bytes these are
pub writes_text : (old bytes cs : List ℕ) → encode_utf8_all cs ≡ bytes → Writes old (old ++ bytes) (λ more. cs ++ more)
writes_text old bytes cs u = record {
  is = λ more. append_assoc old bytes (encode_utf8_all more) ∙ ap (λ x. old ++ (x ++ encode_utf8_all more)) (sym u) ∙ ap (λ x. old ++ x) (sym (encodes-append cs more));
}

module _ {S O : Type 0} (holds : S → O → Began → List ℕ → Type 0) where
  pub adds_then : (s : S) (o : O) (t : S) (p : O) (u : S) (q : O) (x y : List ℕ) → TakesPiece holds s o t p x → TakesPiece holds t p u q y → TakesPiece holds s o u q (x ++ y)
  adds_then s o t p u q x y h k = record { is = λ b xs i. subst (holds u q b) (append_assoc xs x y) (k.is b (xs ++ x) (h.is b xs i)) }

  pub adds_none : (s : S) (o : O) → TakesPiece holds s o s o []
  adds_none s o = record { is = λ b xs h. subst (holds s o b) (sym (append-nil xs)) h }

  pub puts_none : (s : S) (o : O) → Puts holds s o s o (λ more. more)
  puts_none s o = record { is = λ b xs h. (xs, h, writes_none xs) }

  pub puts_then : (s : S) (o : O) (t : S) (p : O) (u : S) (q : O) (f g : List ℕ → List ℕ) → Puts holds s o t p f → Puts holds t p u q g → Puts holds s o u q (λ more. f (g more))
  puts_then s o t p u q f g h k = record {
    is = λ b xs i.
        let a = h.is b xs i in
        let c = k.is b a.0 a.1 in
        (c.0, c.1, writes_then xs a.0 c.0 f g a.2 c.2);
  }

  -- a piece of these characters
  pub puts_piece : (s : S) (o : O) (t : S) (p : O) (bytes cs : List ℕ) → TakesPiece holds s o t p bytes → encode_utf8_all cs ≡ bytes → Puts holds s o t p (λ more. cs ++ more)
  puts_piece s o t p bytes cs h e = record { is = λ b xs i. (xs ++ bytes, h.is b xs i, writes_text xs bytes cs e) }

  pub puts_as : (s : S) (o : O) (t : S) (p : O) (f g : List ℕ → List ℕ) → Puts holds s o t p f → ((more : List ℕ) → f more ≡ g more) → Puts holds s o t p g
  puts_as s o t p f g h e = record { is = λ b xs i. let a = h.is b xs i in (a.0, a.1, record { is = λ more. a.2.is more ∙ ap (λ z. xs ++ encode_utf8_all z) (e more) }) }

  -- nothing was taken before
  pub puts_after : (s : S) (o : O) (t : S) (p : O) (u : S) (q : O) (f : List ℕ → List ℕ) → TakesPiece holds s o t p [] → Puts holds t p u q f → Puts holds s o u q f
  puts_after s o t p u q f h k = puts_then s o t p u q (λ more. more) f (puts_piece s o t p [] [] h refl) k

  module _ (stops : O → Began → Fault → List ℕ → Type 0) where
    pub misses_more : (s : S) (o p : O) (fault : Fault) (x y z : List ℕ) → Misses holds stops s o p fault x → x ++ y ≡ z → Misses holds stops s o p fault z
    misses_more s o p fault x y z h e = record {
      is = λ b xs more i. subst (λ w. stops p b fault (xs ++ w)) (sym (append_assoc x y more) ∙ ap (λ w. w ++ more) e) (h.is b xs (y ++ more) i);
    }

    pub misses_later : (s : S) (o : O) (t : S) (p q : O) (fault : Fault) (x y : List ℕ) → TakesPiece holds s o t p x → Misses holds stops t p q fault y → Misses holds stops s o q fault (x ++ y)
    misses_later s o t p q fault x y h k = record {
      is = λ b xs more i. subst (stops q b fault) (append_assoc xs x (y ++ more) ∙ ap (λ w. xs ++ w) (sym (append_assoc x y more))) (k.is b (xs ++ x) more (h.is b xs i));
    }

    pub fails_piece : (s : S) (o p : O) (fault : Fault) (bytes cs : List ℕ) → Misses holds stops s o p fault bytes → encode_utf8_all cs ≡ bytes → Fails holds stops s o p fault (λ more. cs ++ more)
    fails_piece s o p fault bytes cs h e = record {
      is = λ b xs more i. subst (λ w. stops p b fault (xs ++ w)) (ap (λ w. w ++ encode_utf8_all more) (sym e) ∙ sym (encodes-append cs more)) (h.is b xs (encode_utf8_all more) i);
    }

    -- a failure in a front
    pub fails_more : (s : S) (o p : O) (fault : Fault) (f g : List ℕ → List ℕ) → Fails holds stops s o p fault f → Fails holds stops s o p fault (λ more. f (g more))
    fails_more s o p fault f g h = record { is = λ b xs more i. h.is b xs (g more) i }

    pub fails_later : (s : S) (o : O) (t : S) (p q : O) (fault : Fault) (f g : List ℕ → List ℕ) → Puts holds s o t p f → Fails holds stops t p q fault g → Fails holds stops s o q fault (λ more. f (g more))
    fails_later s o t p q fault f g h k = record {
      is = λ b xs more i.
          let a = h.is b xs i in
          subst (stops q b fault) (a.2.is (g more)) (k.is b a.0 more a.1);
    }

    pub fails_after : (s : S) (o : O) (t : S) (p q : O) (fault : Fault) (f : List ℕ → List ℕ) → TakesPiece holds s o t p [] → Fails holds stops t p q fault f → Fails holds stops s o q fault f
    fails_after s o t p q fault f h k = fails_later s o t p q fault (λ more. more) f (puts_piece s o t p [] [] h refl) k

    pub fails_as : (s : S) (o p : O) (fault : Fault) (f g : List ℕ → List ℕ) → Fails holds stops s o p fault f → ((more : List ℕ) → f more ≡ g more) → Fails holds stops s o p fault g
    fails_as s o p fault f g h e = record { is = λ b xs more i. subst (λ w. stops p b fault (xs ++ encode_utf8_all w)) (e more) (h.is b xs more i) }

-- The pieces so far are a front of a whole text, of which `rest` is left.
pub record Left {S O : Type 0} (holds : S → O → Began → List ℕ → Type 0) (s : S) (o : O) (t : S) (p : O) (rest whole : List ℕ → List ℕ) : Type 0 where
  pub front : List ℕ → List ℕ
  pub puts : Puts holds s o t p front
  pub is : (more : List ℕ) → front (rest more) ≡ whole more

module _ {S O : Type 0} (holds : S → O → Began → List ℕ → Type 0) where
  pub left_first : (s : S) (o : O) (t : S) (p : O) (f rest whole : List ℕ → List ℕ) → Puts holds s o t p f → ((more : List ℕ) → f (rest more) ≡ whole more) → Left holds s o t p rest whole
  left_first s o t p f rest whole h e = record { front = f; puts = h; is = e }

  pub left_next : (s : S) (o : O) (t : S) (p : O) (u : S) (q : O) (rest whole f g : List ℕ → List ℕ) → Left holds s o t p rest whole → Puts holds t p u q f → ((more : List ℕ) → f (g more) ≡ rest more) → Left holds s o u q g whole
  left_next s o t p u q rest whole f g l h e = record { front = λ more. l.front (f more); puts = puts_then holds s o t p u q l.front f l.puts h; is = λ more. ap l.front (e more) ∙ l.is more }

  pub left_last : (s : S) (o : O) (t : S) (p : O) (u : S) (q : O) (rest whole f : List ℕ → List ℕ) → Left holds s o t p rest whole → Puts holds t p u q f → ((more : List ℕ) → f more ≡ rest more) → Puts holds s o u q whole
  left_last s o t p u q rest whole f l h e = puts_as holds s o u q (λ more. l.front (f more)) whole (puts_then holds s o t p u q l.front f l.puts h) (λ more. ap l.front (e more) ∙ l.is more)

  pub left_fails : (stops : O → Began → Fault → List ℕ → Type 0) (s : S) (o : O) (t : S) (p q : O) (fault : Fault) (rest whole f g : List ℕ → List ℕ) → Left holds s o t p rest whole → Fails holds stops t p q fault f → ((more : List ℕ) → f (g more) ≡ rest more)
      → Fails holds stops s o q fault whole
  left_fails stops s o t p q fault rest whole f g l h e =
      fails_as holds stops s o q fault (λ more. l.front (f (g more))) whole (fails_later holds stops s o t p q fault l.front (λ more. f (g more)) l.puts (fails_more holds stops t p q fault f g h)) (λ more. ap l.front (e more) ∙ l.is more)

pub if_ok : {T E : Type 0} {P Q R : T → Type 0} (r : Result T E) → IfOk r P → IfOk r Q → ((x : T) → P x → Q x → R x) → IfOk r R
if_ok (Ok x) h k f = f x h k
if_ok (Err e) h k f = h

pub if_one : {T E : Type 0} {P Q : T → Type 0} (r : Result T E) → IfOk r P → ((x : T) → P x → Q x) → IfOk r Q
if_one (Ok x) h f = f x h
if_one (Err e) h f = h

pub if_both : {T E : Type 0} {P Q R : E → Type 0} (r : Result T E) → IfErr r P → IfErr r Q → ((e : E) → P e → Q e → R e) → IfErr r R
if_both (Ok x) h k f = h
if_both (Err e) h k f = f e h k
