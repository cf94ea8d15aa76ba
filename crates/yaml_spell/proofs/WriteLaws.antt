-- The second walk by ranks, step by step.
use Rattle.std.specs.Prelude.{Result, Ok, Err, OnOk, Some}
use Rattle.std.proofs.Common.{◌≡◌, ℕ, ◌+◌, ◌≤◌, true, List, [], ◌∷◌, ◌++◌, length, map, drop, refl, sym, ◌∙◌, ap, subst, add-one}
use Rattle.std.proofs.Math.ListN.{drop_of_length-le}
use Rattle.std.specs.Char.{encode_utf8}
use Rattle.std.specs.Str.{encode_utf8_all, chars}
use Rattle.yaml_text.specs.declared.fault.Fault.{Fault}
use Rattle.yaml_definitions.specs.model.Tree.{Tree, Trees, Pairs, scalar, sequence, mapping}
use Rattle.yaml_definitions.specs.canonical.Serialize.{anchor_name}
use Rattle.yaml_definitions.specs.model.Serial.{alias_at}
use Rattle.yaml_definitions.specs.canonical.NodeText.{node_text, anchor_text, items_text, pairs_text, quoted}
use Rattle.yaml_definitions.specs.canonical.TagText.{tag_text, written_tag}
use Rattle.yaml_tree.specs.TreeLists.{trees, pairs}
use Rattle.yaml_spell.specs.Pieces.{Began, TakesPiece, Puts, Misses, Fails}
use Rattle.yaml_spell.specs.NamesView.{Given}
use Rattle.yaml_spell.specs.declared.names.Opening.{Opening}
use Rattle.yaml_spell.specs.declared.names.Opening.TheVariants.{Plain, Anchored, Alias}
use Rattle.yaml_spell.specs.Walked.{after, anchor_in, begun, separator, start, started, given, given_all, given_pairs, written, written_all, written_pairs, behind_anchor, given_inside}
use Rattle.yaml_spell.proofs.PieceLaws.{Left, puts_as, puts_piece, puts_then, fails_as, fails_piece, fails_later, left_next, left_fails, fails_more}

pub all_ok : {T E P : Type 0} (r : Result T E) → P → OnOk r P
all_ok (Ok x) p = p
all_ok (Err e) p = tt

one_byte : (b : ℕ) → encode_utf8 b ≡ b ∷ [] → encode_utf8_all (b ∷ []) ≡ b ∷ []
one_byte b e = ap (λ z. z ++ []) e

pub closing_bracket : encode_utf8_all (93 ∷ []) ≡ 93 ∷ []
unfolding encode_utf8
closing_bracket = refl

pub closing_brace : encode_utf8_all (125 ∷ []) ≡ 125 ∷ []
unfolding encode_utf8
closing_brace = refl

pub opening_bracket : encode_utf8_all (91 ∷ []) ≡ 91 ∷ []
unfolding encode_utf8
opening_bracket = refl

pub opening_brace : encode_utf8_all (123 ∷ []) ≡ 123 ∷ []
unfolding encode_utf8
opening_brace = refl

pub colon_bytes : encode_utf8_all (32 ∷ 58 ∷ 32 ∷ []) ≡ 32 ∷ 58 ∷ 32 ∷ []
unfolding encode_utf8
colon_bytes = refl

module _ (rank : Tree → ℕ) where
  -- ---- how a node begins

  pub text_alias : (t : Tree) (p : Given) (o : Opening) (k : ℕ) → o ≡ start rank t p → o ≡ Alias k → (more : List ℕ) → node_text (alias_at (anchor_name k)) more ≡ node_text (written rank t p) more
  unfolding written
  text_alias (scalar g x) p o k e f more = ap (λ z. node_text (begun z (Rattle.yaml_definitions.specs.model.Serial.scalar_at (anchor_in z) (written_tag 0 g) Rattle.yaml_definitions.specs.model.Event.double x)) more) (sym f ∙ e)
  text_alias (sequence g ts) p o k e f more = ap (λ z. node_text (begun z (Rattle.yaml_definitions.specs.model.Serial.sequence_at (anchor_in z) (written_tag 1 g) true (written_all rank ts (started rank (sequence g ts) p)))) more) (sym f ∙ e)
  text_alias (mapping g ps) p o k e f more = ap (λ z. node_text (begun z (Rattle.yaml_definitions.specs.model.Serial.mapping_at (anchor_in z) (written_tag 2 g) true (written_pairs rank ps (started rank (mapping g ps) p)))) more) (sym f ∙ e)

  pub given_alias : (t : Tree) (p : Given) (o : Opening) (k : ℕ) → o ≡ start rank t p → o ≡ Alias k → started rank t p ≡ given rank t p
  unfolding given
  given_alias (scalar g x) p o k e f = refl
  given_alias (sequence g ts) p o k e f = ap (λ z. after z (started rank (sequence g ts) p) (given_all rank ts (started rank (sequence g ts) p))) (sym f ∙ e)
  given_alias (mapping g ps) p o k e f = ap (λ z. after z (started rank (mapping g ps) p) (given_pairs rank ps (started rank (mapping g ps) p))) (sym f ∙ e)

  pub text_anchored : (t : Tree) (p : Given) (o : Opening) (k : ℕ) → o ≡ start rank t p → o ≡ Anchored k → (more : List ℕ) → anchor_text (Some (anchor_name k)) (behind_anchor rank t (started rank t p) more) ≡ node_text (written rank t p) more
  unfolding written node_text
  text_anchored (scalar g x) p o k e f more = ap (λ z. node_text (begun z (Rattle.yaml_definitions.specs.model.Serial.scalar_at (anchor_in z) (written_tag 0 g) Rattle.yaml_definitions.specs.model.Event.double x)) more) (sym f ∙ e)
  text_anchored (sequence g ts) p o k e f more = ap (λ z. node_text (begun z (Rattle.yaml_definitions.specs.model.Serial.sequence_at (anchor_in z) (written_tag 1 g) true (written_all rank ts (started rank (sequence g ts) p)))) more) (sym f ∙ e)
  text_anchored (mapping g ps) p o k e f more = ap (λ z. node_text (begun z (Rattle.yaml_definitions.specs.model.Serial.mapping_at (anchor_in z) (written_tag 2 g) true (written_pairs rank ps (started rank (mapping g ps) p)))) more) (sym f ∙ e)

  pub text_plain : (t : Tree) (p : Given) (o : Opening) → o ≡ start rank t p → o ≡ Plain → (more : List ℕ) → behind_anchor rank t (started rank t p) more ≡ node_text (written rank t p) more
  unfolding written node_text
  text_plain (scalar g x) p o e f more = ap (λ z. node_text (begun z (Rattle.yaml_definitions.specs.model.Serial.scalar_at (anchor_in z) (written_tag 0 g) Rattle.yaml_definitions.specs.model.Event.double x)) more) (sym f ∙ e)
  text_plain (sequence g ts) p o e f more = ap (λ z. node_text (begun z (Rattle.yaml_definitions.specs.model.Serial.sequence_at (anchor_in z) (written_tag 1 g) true (written_all rank ts (started rank (sequence g ts) p)))) more) (sym f ∙ e)
  text_plain (mapping g ps) p o e f more = ap (λ z. node_text (begun z (Rattle.yaml_definitions.specs.model.Serial.mapping_at (anchor_in z) (written_tag 2 g) true (written_pairs rank ps (started rank (mapping g ps) p)))) more) (sym f ∙ e)

  given_by : (t : Tree) (p : Given) (o : Opening) → o ≡ start rank t p → ((a b : Given) → after o a b ≡ b) → given_inside rank t (started rank t p) ≡ given rank t p
  unfolding given
  given_by (scalar g x) p o e f = refl
  given_by (sequence g ts) p o e f = sym (f (started rank (sequence g ts) p) (given_all rank ts (started rank (sequence g ts) p))) ∙ ap (λ z. after z (started rank (sequence g ts) p) (given_all rank ts (started rank (sequence g ts) p))) e
  given_by (mapping g ps) p o e f = sym (f (started rank (mapping g ps) p) (given_pairs rank ps (started rank (mapping g ps) p))) ∙ ap (λ z. after z (started rank (mapping g ps) p) (given_pairs rank ps (started rank (mapping g ps) p))) e

  pub given_anchored : (t : Tree) (p : Given) (o : Opening) (k : ℕ) → o ≡ start rank t p → o ≡ Anchored k → given_inside rank t (started rank t p) ≡ given rank t p
  given_anchored t p o k e f = given_by t p o e (λ a b. ap (λ z. after z a b) f)

  pub given_plain : (t : Tree) (p : Given) (o : Opening) → o ≡ start rank t p → o ≡ Plain → given_inside rank t (started rank t p) ≡ given rank t p
  given_plain t p o e f = given_by t p o e (λ a b. ap (λ z. after z a b) f)

  -- ---- items and entries from a place on

  module _ {X : Type 0} (f : X → Tree) (xs : List X) where
    abbrev pub rest : ℕ → Given → List ℕ → List ℕ
    rest i p more = items_text (separator i) (written_all rank (trees (map f (drop i xs))) p) more

    pub items_split : (i : ℕ) (d : X) (p q : Given) → drop i xs ≡ d ∷ drop (i + 1) xs → q ≡ given rank (f d) p → (more : List ℕ) → separator i ++ node_text (written rank (f d) p) (rest (i + 1) q more) ≡ rest i p more
    unfolding node_text written given
    items_split i d p q l e more =
        ap (λ z. separator i ++ node_text (written rank (f d) p) (items_text (separator z) (written_all rank (trees (map f (drop (i + 1) xs))) q) more)) (add-one i)
        ∙ ap (λ z. separator i ++ node_text (written rank (f d) p) (items_text (44 ∷ 32 ∷ []) (written_all rank (trees (map f (drop (i + 1) xs))) z) more)) e
        ∙ ap (λ z. items_text (separator i) (written_all rank (trees (map f z)) p) more) (sym l)

    pub items_end : (i : ℕ) (p : Given) → length xs ≤ i → (more : List ℕ) → 93 ∷ more ≡ rest i p more
    unfolding node_text written
    items_end i p l more = ap (λ z. items_text (separator i) (written_all rank (trees (map f z)) p) more) (sym (drop_of_length-le xs l))

    pub items_given : (i : ℕ) (d : X) (p q w : Given) → drop i xs ≡ d ∷ drop (i + 1) xs → q ≡ given rank (f d) p → given_all rank (trees (map f (drop i xs))) p ≡ w → given_all rank (trees (map f (drop (i + 1) xs))) q ≡ w
    unfolding given
    items_given i d p q w l e h = ap (given_all rank (trees (map f (drop (i + 1) xs)))) e ∙ ap (λ z. given_all rank (trees (map f z)) p) (sym l) ∙ h

    pub items_known : (i : ℕ) (p w : Given) → length xs ≤ i → given_all rank (trees (map f (drop i xs))) p ≡ w → p ≡ w
    unfolding given
    items_known i p w l h = ap (λ z. given_all rank (trees (map f z)) p) (sym (drop_of_length-le xs l)) ∙ h

  module _ {X : Type 0} (f : X → Tree × Tree) (xs : List X) where
    abbrev pub rest_pairs : ℕ → Given → List ℕ → List ℕ
    rest_pairs i p more = pairs_text (separator i) (written_pairs rank (pairs (map f (drop i xs))) p) more

    pub pairs_split : (i : ℕ) (d : X) (p q r : Given) → drop i xs ≡ d ∷ drop (i + 1) xs → q ≡ given rank (f d).0 p → r ≡ given rank (f d).1 q → (more : List ℕ)
        → separator i ++ node_text (written rank (f d).0 p) (32 ∷ 58 ∷ 32 ∷ node_text (written rank (f d).1 q) (rest_pairs (i + 1) r more)) ≡ rest_pairs i p more
    unfolding node_text written given
    pairs_split i d p q r l e h more =
        ap (λ z. separator i ++ node_text (written rank (f d).0 p) (32 ∷ 58 ∷ 32 ∷ node_text (written rank (f d).1 q) (pairs_text (separator z) (written_pairs rank (pairs (map f (drop (i + 1) xs))) r) more))) (add-one i)
        ∙ ap (λ z. separator i ++ node_text (written rank (f d).0 p) (32 ∷ 58 ∷ 32 ∷ node_text (written rank (f d).1 q) (pairs_text (44 ∷ 32 ∷ []) (written_pairs rank (pairs (map f (drop (i + 1) xs))) z) more))) h
        ∙ ap (λ z. separator i ++ node_text (written rank (f d).0 p) (32 ∷ 58 ∷ 32 ∷ node_text (written rank (f d).1 z) (pairs_text (44 ∷ 32 ∷ []) (written_pairs rank (pairs (map f (drop (i + 1) xs))) (given rank (f d).1 z)) more))) e
        ∙ ap (λ z. pairs_text (separator i) (written_pairs rank (pairs (map f z)) p) more) (sym l)

    pub pairs_end : (i : ℕ) (p : Given) → length xs ≤ i → (more : List ℕ) → 125 ∷ more ≡ rest_pairs i p more
    unfolding node_text written
    pairs_end i p l more = ap (λ z. pairs_text (separator i) (written_pairs rank (pairs (map f z)) p) more) (sym (drop_of_length-le xs l))

    pub pairs_given : (i : ℕ) (d : X) (p q r w : Given) → drop i xs ≡ d ∷ drop (i + 1) xs → q ≡ given rank (f d).0 p → r ≡ given rank (f d).1 q → given_pairs rank (pairs (map f (drop i xs))) p ≡ w → given_pairs rank (pairs (map f (drop (i + 1) xs))) r ≡ w
    unfolding given
    pairs_given i d p q r w l e k h =
        ap (given_pairs rank (pairs (map f (drop (i + 1) xs)))) (k ∙ ap (given rank (f d).1) e) ∙ ap (λ z. given_pairs rank (pairs (map f z)) p) (sym l) ∙ h

    pub pairs_known : (i : ℕ) (p w : Given) → length xs ≤ i → given_pairs rank (pairs (map f (drop i xs))) p ≡ w → p ≡ w
    unfolding given
    pairs_known i p w l h = ap (λ z. given_pairs rank (pairs (map f z)) p) (sym (drop_of_length-le xs l)) ∙ h

module _ {S O : Type 0} (holds : S → O → Began → List ℕ → Type 0) (stops : O → Began → Fault → List ℕ → Type 0) (rank : Tree → ℕ) where
  module _ {X : Type 0} (f : X → Tree) (xs : List X) (i : ℕ) (p : Given) (whole : List ℕ → List ℕ) where
    abbrev node : X → Given → List ℕ → List ℕ
    node d q more = node_text (written rank (f d) p) (rest rank f xs (i + 1) q more)

    behind : (d : X) (q : Given) (s : S) (o : O) (t : S) (u : O) (v : S) (w : O) → drop i xs ≡ d ∷ drop (i + 1) xs → q ≡ given rank (f d) p → Left holds s o t u (rest rank f xs i p) whole → Puts holds t u v w (λ more. separator i ++ more) → Left holds s o v w (node d q) whole
    behind d q s o t u v w l e h k = left_next holds s o t u v w (rest rank f xs i p) whole (λ more. separator i ++ more) (node d q) h k (items_split rank f xs i d p q l e)

    pub items_separator_fails : (d : X) (s : S) (o : O) (t : S) (u w : O) (fault : Fault) → drop i xs ≡ d ∷ drop (i + 1) xs → Left holds s o t u (rest rank f xs i p) whole → Fails holds stops t u w fault (λ more. separator i ++ more) → Fails holds stops s o w fault whole
    items_separator_fails d s o t u w fault l h k =
        left_fails holds stops s o t u w fault (rest rank f xs i p) whole (λ more. separator i ++ more) (node d (given rank (f d) p)) h k (items_split rank f xs i d p (given rank (f d) p) l refl)

    pub items_node_fails : (d : X) (s : S) (o : O) (t : S) (u : O) (v : S) (w y : O) (fault : Fault) → drop i xs ≡ d ∷ drop (i + 1) xs → Left holds s o t u (rest rank f xs i p) whole → Puts holds t u v w (λ more. separator i ++ more)
        → Fails holds stops v w y fault (node_text (written rank (f d) p)) → Fails holds stops s o y fault whole
    items_node_fails d s o t u v w y fault l h k m =
        let q = given rank (f d) p in
        left_fails holds stops s o v w y fault (node d q) whole (node_text (written rank (f d) p)) (rest rank f xs (i + 1) q) (behind d q s o t u v w l refl h k) m (λ more. refl)

    pub items_step : (d : X) (q : Given) (s : S) (o : O) (t : S) (u : O) (v : S) (w : O) (x : S) (y : O) → drop i xs ≡ d ∷ drop (i + 1) xs → q ≡ given rank (f d) p → Left holds s o t u (rest rank f xs i p) whole → Puts holds t u v w (λ more. separator i ++ more)
        → Puts holds v w x y (node_text (written rank (f d) p)) → Left holds s o x y (rest rank f xs (i + 1) q) whole
    items_step d q s o t u v w x y l e h k m = left_next holds s o v w x y (node d q) whole (node_text (written rank (f d) p)) (rest rank f xs (i + 1) q) (behind d q s o t u v w l e h k) m (λ more. refl)

  module _ {X : Type 0} (f : X → Tree × Tree) (xs : List X) (i : ℕ) (p : Given) (whole : List ℕ → List ℕ) where
    abbrev value : X → Given → Given → List ℕ → List ℕ
    value d q r more = node_text (written rank (f d).1 q) (rest_pairs rank f xs (i + 1) r more)

    abbrev colon : X → Given → Given → List ℕ → List ℕ
    colon d q r more = 32 ∷ 58 ∷ 32 ∷ value d q r more

    abbrev key : X → Given → Given → List ℕ → List ℕ
    key d q r more = node_text (written rank (f d).0 p) (colon d q r more)

    at_key : (d : X) (q r : Given) (s : S) (o : O) (t : S) (u : O) (v : S) (w : O) → drop i xs ≡ d ∷ drop (i + 1) xs → q ≡ given rank (f d).0 p → r ≡ given rank (f d).1 q → Left holds s o t u (rest_pairs rank f xs i p) whole → Puts holds t u v w (λ more. separator i ++ more) → Left holds s o v w (key d q r) whole
    at_key d q r s o t u v w l e g h k = left_next holds s o t u v w (rest_pairs rank f xs i p) whole (λ more. separator i ++ more) (key d q r) h k (pairs_split rank f xs i d p q r l e g)

    pub pairs_separator_fails : (d : X) (s : S) (o : O) (t : S) (u w : O) (fault : Fault) → drop i xs ≡ d ∷ drop (i + 1) xs → Left holds s o t u (rest_pairs rank f xs i p) whole → Fails holds stops t u w fault (λ more. separator i ++ more) → Fails holds stops s o w fault whole
    pairs_separator_fails d s o t u w fault l h k =
        let q = given rank (f d).0 p in
        let r = given rank (f d).1 q in
        left_fails holds stops s o t u w fault (rest_pairs rank f xs i p) whole (λ more. separator i ++ more) (key d q r) h k (pairs_split rank f xs i d p q r l refl refl)

    pub pairs_key_fails : (d : X) (s : S) (o : O) (t : S) (u : O) (v : S) (w y : O) (fault : Fault) → drop i xs ≡ d ∷ drop (i + 1) xs → Left holds s o t u (rest_pairs rank f xs i p) whole → Puts holds t u v w (λ more. separator i ++ more)
        → Fails holds stops v w y fault (node_text (written rank (f d).0 p)) → Fails holds stops s o y fault whole
    pairs_key_fails d s o t u v w y fault l h k m =
        let q = given rank (f d).0 p in
        let r = given rank (f d).1 q in
        left_fails holds stops s o v w y fault (key d q r) whole (node_text (written rank (f d).0 p)) (colon d q r) (at_key d q r s o t u v w l refl refl h k) m (λ more. refl)

    at_colon : (d : X) (q r : Given) (s : S) (o : O) (t : S) (u : O) (v : S) (w : O) (x : S) (y : O) → drop i xs ≡ d ∷ drop (i + 1) xs → q ≡ given rank (f d).0 p → r ≡ given rank (f d).1 q → Left holds s o t u (rest_pairs rank f xs i p) whole → Puts holds t u v w (λ more. separator i ++ more)
        → Puts holds v w x y (node_text (written rank (f d).0 p)) → Left holds s o x y (colon d q r) whole
    at_colon d q r s o t u v w x y l e g h k m = left_next holds s o v w x y (key d q r) whole (node_text (written rank (f d).0 p)) (colon d q r) (at_key d q r s o t u v w l e g h k) m (λ more. refl)

    pub pairs_colon_fails : (d : X) (q : Given) (s : S) (o : O) (t : S) (u : O) (v : S) (w : O) (x : S) (y z : O) (fault : Fault) → drop i xs ≡ d ∷ drop (i + 1) xs → q ≡ given rank (f d).0 p → Left holds s o t u (rest_pairs rank f xs i p) whole → Puts holds t u v w (λ more. separator i ++ more)
        → Puts holds v w x y (node_text (written rank (f d).0 p)) → Misses holds stops x y z fault (32 ∷ 58 ∷ 32 ∷ []) → Fails holds stops s o z fault whole
    pairs_colon_fails d q s o t u v w x y z fault l e h k m n =
        let r = given rank (f d).1 q in
        left_fails holds stops s o x y z fault (colon d q r) whole (λ more. (32 ∷ 58 ∷ 32 ∷ []) ++ more) (value d q r) (at_colon d q r s o t u v w x y l e refl h k m) (fails_piece holds stops x y z fault (32 ∷ 58 ∷ 32 ∷ []) (32 ∷ 58 ∷ 32 ∷ []) n colon_bytes) (λ more. refl)

    at_value : (d : X) (q r : Given) (s : S) (o : O) (t : S) (u : O) (v : S) (w : O) (x : S) (y : O) (a : S) (b : O) → drop i xs ≡ d ∷ drop (i + 1) xs → q ≡ given rank (f d).0 p → r ≡ given rank (f d).1 q → Left holds s o t u (rest_pairs rank f xs i p) whole → Puts holds t u v w (λ more. separator i ++ more)
        → Puts holds v w x y (node_text (written rank (f d).0 p)) → TakesPiece holds x y a b (32 ∷ 58 ∷ 32 ∷ []) → Left holds s o a b (value d q r) whole
    at_value d q r s o t u v w x y a b l e g h k m n =
        left_next holds s o x y a b (colon d q r) whole (λ more. (32 ∷ 58 ∷ 32 ∷ []) ++ more) (value d q r) (at_colon d q r s o t u v w x y l e g h k m) (puts_piece holds x y a b (32 ∷ 58 ∷ 32 ∷ []) (32 ∷ 58 ∷ 32 ∷ []) n colon_bytes) (λ more. refl)

    pub pairs_value_fails : (d : X) (q : Given) (s : S) (o : O) (t : S) (u : O) (v : S) (w : O) (x : S) (y : O) (a : S) (b z : O) (fault : Fault) → drop i xs ≡ d ∷ drop (i + 1) xs → q ≡ given rank (f d).0 p → Left holds s o t u (rest_pairs rank f xs i p) whole → Puts holds t u v w (λ more. separator i ++ more)
        → Puts holds v w x y (node_text (written rank (f d).0 p)) → TakesPiece holds x y a b (32 ∷ 58 ∷ 32 ∷ []) → Fails holds stops a b z fault (node_text (written rank (f d).1 q)) → Fails holds stops s o z fault whole
    pairs_value_fails d q s o t u v w x y a b z fault l e h k m n j =
        let r = given rank (f d).1 q in
        left_fails holds stops s o a b z fault (value d q r) whole (node_text (written rank (f d).1 q)) (rest_pairs rank f xs (i + 1) r) (at_value d q r s o t u v w x y a b l e refl h k m n) j (λ more. refl)

    pub pairs_step : (d : X) (q r : Given) (s : S) (o : O) (t : S) (u : O) (v : S) (w : O) (x : S) (y : O) (a : S) (b : O) (c : S) (z : O) → drop i xs ≡ d ∷ drop (i + 1) xs → q ≡ given rank (f d).0 p → r ≡ given rank (f d).1 q → Left holds s o t u (rest_pairs rank f xs i p) whole
        → Puts holds t u v w (λ more. separator i ++ more) → Puts holds v w x y (node_text (written rank (f d).0 p)) → TakesPiece holds x y a b (32 ∷ 58 ∷ 32 ∷ []) → Puts holds a b c z (node_text (written rank (f d).1 q)) → Left holds s o c z (rest_pairs rank f xs (i + 1) r) whole
    pairs_step d q r s o t u v w x y a b c z l e g h k m n j =
        left_next holds s o a b c z (value d q r) whole (node_text (written rank (f d).1 q)) (rest_pairs rank f xs (i + 1) r) (at_value d q r s o t u v w x y a b l e g h k m n) j (λ more. refl)

  -- ---- a node's tag and content

  module _ (p : Given) where
    abbrev tagged : ℕ → List ℕ → List ℕ → List ℕ
    tagged k g more = tag_text (written_tag k g) ++ more

    pub scalar_put : (t : Tree) (g x a y : List ℕ) (s : S) (o : O) (u : S) (w : O) → t ≡ scalar g x → a ≡ g → y ≡ x → Puts holds s o u w (λ more. tag_text (written_tag 0 a) ++ (34 ∷ quoted (chars y) more)) → Puts holds s o u w (behind_anchor rank t p)
    scalar_put t g x a y s o u w e f h k =
        subst (λ z. Puts holds s o u w (behind_anchor rank z p)) (sym e) (subst (λ z. Puts holds s o u w (λ more. tag_text (written_tag 0 z) ++ (34 ∷ quoted (chars x) more))) f (subst (λ z. Puts holds s o u w (λ more. tag_text (written_tag 0 a) ++ (34 ∷ quoted (chars z) more))) h k))

    pub scalar_fails : (t : Tree) (g x a y : List ℕ) (s : S) (o w : O) (fault : Fault) → t ≡ scalar g x → a ≡ g → y ≡ x → Fails holds stops s o w fault (λ more. tag_text (written_tag 0 a) ++ (34 ∷ quoted (chars y) more)) → Fails holds stops s o w fault (behind_anchor rank t p)
    scalar_fails t g x a y s o w fault e f h k =
        subst (λ z. Fails holds stops s o w fault (behind_anchor rank z p)) (sym e) (subst (λ z. Fails holds stops s o w fault (λ more. tag_text (written_tag 0 z) ++ (34 ∷ quoted (chars x) more))) f (subst (λ z. Fails holds stops s o w fault (λ more. tag_text (written_tag 0 a) ++ (34 ∷ quoted (chars z) more))) h k))

    pub sequence_put : (t : Tree) (g a : List ℕ) (ts : Trees) (s : S) (o : O) (u : S) (w : O) (v : S) (y : O) → t ≡ sequence g ts → a ≡ g → Puts holds s o u w (tagged 1 a) → Puts holds u w v y (λ more. 91 ∷ items_text [] (written_all rank ts p) more) → Puts holds s o v y (behind_anchor rank t p)
    sequence_put t g a ts s o u w v y e f h k =
        subst (λ z. Puts holds s o v y (behind_anchor rank z p)) (sym e) (puts_then holds s o u w v y (tagged 1 g) (λ more. 91 ∷ items_text [] (written_all rank ts p) more) (subst (λ z. Puts holds s o u w (tagged 1 z)) f h) k)

    pub sequence_fails : (t : Tree) (g a : List ℕ) (ts : Trees) (s : S) (o : O) (u : S) (w y : O) (fault : Fault) → t ≡ sequence g ts → a ≡ g → Puts holds s o u w (tagged 1 a) → Fails holds stops u w y fault (λ more. 91 ∷ items_text [] (written_all rank ts p) more) → Fails holds stops s o y fault (behind_anchor rank t p)
    sequence_fails t g a ts s o u w y fault e f h k =
        subst (λ z. Fails holds stops s o y fault (behind_anchor rank z p)) (sym e) (fails_later holds stops s o u w y fault (tagged 1 g) (λ more. 91 ∷ items_text [] (written_all rank ts p) more) (subst (λ z. Puts holds s o u w (tagged 1 z)) f h) k)

    pub sequence_tag_fails : (t : Tree) (g a : List ℕ) (ts : Trees) (s : S) (o y : O) (fault : Fault) → t ≡ sequence g ts → a ≡ g → Fails holds stops s o y fault (tagged 1 a) → Fails holds stops s o y fault (behind_anchor rank t p)
    sequence_tag_fails t g a ts s o y fault e f h =
        subst (λ z. Fails holds stops s o y fault (behind_anchor rank z p)) (sym e) (fails_more holds stops s o y fault (tagged 1 g) (λ more. 91 ∷ items_text [] (written_all rank ts p) more) (subst (λ z. Fails holds stops s o y fault (tagged 1 z)) f h))

    pub mapping_put : (t : Tree) (g a : List ℕ) (ps : Pairs) (s : S) (o : O) (u : S) (w : O) (v : S) (y : O) → t ≡ mapping g ps → a ≡ g → Puts holds s o u w (tagged 2 a) → Puts holds u w v y (λ more. 123 ∷ pairs_text [] (written_pairs rank ps p) more) → Puts holds s o v y (behind_anchor rank t p)
    mapping_put t g a ps s o u w v y e f h k =
        subst (λ z. Puts holds s o v y (behind_anchor rank z p)) (sym e) (puts_then holds s o u w v y (tagged 2 g) (λ more. 123 ∷ pairs_text [] (written_pairs rank ps p) more) (subst (λ z. Puts holds s o u w (tagged 2 z)) f h) k)

    pub mapping_fails : (t : Tree) (g a : List ℕ) (ps : Pairs) (s : S) (o : O) (u : S) (w y : O) (fault : Fault) → t ≡ mapping g ps → a ≡ g → Puts holds s o u w (tagged 2 a) → Fails holds stops u w y fault (λ more. 123 ∷ pairs_text [] (written_pairs rank ps p) more) → Fails holds stops s o y fault (behind_anchor rank t p)
    mapping_fails t g a ps s o u w y fault e f h k =
        subst (λ z. Fails holds stops s o y fault (behind_anchor rank z p)) (sym e) (fails_later holds stops s o u w y fault (tagged 2 g) (λ more. 123 ∷ pairs_text [] (written_pairs rank ps p) more) (subst (λ z. Puts holds s o u w (tagged 2 z)) f h) k)

    pub mapping_tag_fails : (t : Tree) (g a : List ℕ) (ps : Pairs) (s : S) (o y : O) (fault : Fault) → t ≡ mapping g ps → a ≡ g → Fails holds stops s o y fault (tagged 2 a) → Fails holds stops s o y fault (behind_anchor rank t p)
    mapping_tag_fails t g a ps s o y fault e f h =
        subst (λ z. Fails holds stops s o y fault (behind_anchor rank z p)) (sym e) (fails_more holds stops s o y fault (tagged 2 g) (λ more. 123 ∷ pairs_text [] (written_pairs rank ps p) more) (subst (λ z. Fails holds stops s o y fault (tagged 2 z)) f h))

  -- ---- a node

  module _ (t : Tree) (p : Given) (o : Opening) (at : o ≡ start rank t p) where
    pub alias_written : (k : ℕ) (s : S) (a : O) (u : S) (b : O) → o ≡ Alias k → Puts holds s a u b (node_text (alias_at (anchor_name k))) → Puts holds s a u b (node_text (written rank t p))
    alias_written k s a u b e h = puts_as holds s a u b (node_text (alias_at (anchor_name k))) (node_text (written rank t p)) h (text_alias rank t p o k at e)

    pub alias_unwritten : (k : ℕ) (s : S) (a b : O) (fault : Fault) → o ≡ Alias k → Fails holds stops s a b fault (node_text (alias_at (anchor_name k))) → Fails holds stops s a b fault (node_text (written rank t p))
    alias_unwritten k s a b fault e h = fails_as holds stops s a b fault (node_text (alias_at (anchor_name k))) (node_text (written rank t p)) h (text_alias rank t p o k at e)

    pub anchored_written : (k : ℕ) (q : Given) (s : S) (a : O) (u : S) (b : O) (v : S) (c : O) → o ≡ Anchored k → q ≡ started rank t p → Puts holds s a u b (anchor_text (Some (anchor_name k))) → Puts holds u b v c (behind_anchor rank t q) → Puts holds s a v c (node_text (written rank t p))
    anchored_written k q s a u b v c e f h i =
        puts_as holds s a v c (λ more. anchor_text (Some (anchor_name k)) (behind_anchor rank t (started rank t p) more)) (node_text (written rank t p)) (puts_then holds s a u b v c (anchor_text (Some (anchor_name k))) (behind_anchor rank t (started rank t p)) h (subst (λ z. Puts holds u b v c (behind_anchor rank t z)) f i)) (text_anchored rank t p o k at e)

    pub anchor_unwritten : (k : ℕ) (s : S) (a b : O) (fault : Fault) → o ≡ Anchored k → Fails holds stops s a b fault (anchor_text (Some (anchor_name k))) → Fails holds stops s a b fault (node_text (written rank t p))
    anchor_unwritten k s a b fault e h =
        fails_as holds stops s a b fault (λ more. anchor_text (Some (anchor_name k)) (behind_anchor rank t (started rank t p) more)) (node_text (written rank t p)) (fails_more holds stops s a b fault (anchor_text (Some (anchor_name k))) (behind_anchor rank t (started rank t p)) h) (text_anchored rank t p o k at e)

    pub anchored_unwritten : (k : ℕ) (q : Given) (s : S) (a : O) (u : S) (b c : O) (fault : Fault) → o ≡ Anchored k → q ≡ started rank t p → Puts holds s a u b (anchor_text (Some (anchor_name k))) → Fails holds stops u b c fault (behind_anchor rank t q) → Fails holds stops s a c fault (node_text (written rank t p))
    anchored_unwritten k q s a u b c fault e f h i =
        fails_as holds stops s a c fault (λ more. anchor_text (Some (anchor_name k)) (behind_anchor rank t (started rank t p) more)) (node_text (written rank t p)) (fails_later holds stops s a u b c fault (anchor_text (Some (anchor_name k))) (behind_anchor rank t (started rank t p)) h (subst (λ z. Fails holds stops u b c fault (behind_anchor rank t z)) f i)) (text_anchored rank t p o k at e)

    pub plain_written : (q : Given) (s : S) (a : O) (v : S) (c : O) → o ≡ Plain → q ≡ started rank t p → Puts holds s a v c (behind_anchor rank t q) → Puts holds s a v c (node_text (written rank t p))
    plain_written q s a v c e f i = puts_as holds s a v c (behind_anchor rank t (started rank t p)) (node_text (written rank t p)) (subst (λ z. Puts holds s a v c (behind_anchor rank t z)) f i) (text_plain rank t p o at e)

    pub plain_unwritten : (q : Given) (s : S) (a c : O) (fault : Fault) → o ≡ Plain → q ≡ started rank t p → Fails holds stops s a c fault (behind_anchor rank t q) → Fails holds stops s a c fault (node_text (written rank t p))
    plain_unwritten q s a c fault e f i = fails_as holds stops s a c fault (behind_anchor rank t (started rank t p)) (node_text (written rank t p)) (subst (λ z. Fails holds stops s a c fault (behind_anchor rank t z)) f i) (text_plain rank t p o at e)
