-- How pointers (RFC 6901) and filters of jq are read: which tree a text leads to, from a tree.
use Rattle.std.specs.Prelude.{◌≡◌, ℕ, true, false, ◌==◌, List, [], ◌∷◌, ◌++◌, codes, Option, Some}
use Rattle.std.specs.Fmt.{decimal}
use Rattle.yaml_definitions.specs.model.Tree.{Tree, scalar}
use Rattle.yaml_definitions.specs.model.Tag.{str_tag}
use Rattle.yaml_path.specs.Path.{part, at_item, at_key}
use Rattle.review_paths.specs.Pasted.{is_filter_name, has_dot}

-- the value of the key that is a string of this content
abbrev pub member : Tree → List ℕ → Option Tree
member t key = part t (at_key (scalar str_tag key))

-- ---- pointers

-- reference-token (3), and what it stands for (4): `~1` for `/`, and `~0` for `~`
pub data Token : List ℕ → List ℕ → Type 0 where
  token_end : Token [] []
  tilde : {s key : List ℕ} → Token s key → Token (126 ∷ 48 ∷ s) (126 ∷ key)
  slash : {s key : List ℕ} → Token s key → Token (126 ∷ 49 ∷ s) (47 ∷ key)
  token_char : {c : ℕ} {s key : List ℕ} → (c == 126) ≡ false → (c == 47) ≡ false → Token s key → Token (c ∷ s) (c ∷ key)

-- json-pointer (3): `/` and a token, any number of times. Of an array, a token is the number of an item (4), and of an object the name of a member.
pub data Pointer (x : Tree) : List ℕ → Tree → Type 0 where
  whole : Pointer x [] x
  item : (k : ℕ) {r : List ℕ} {t u : Tree} → part t (at_item k) ≡ Some u → Pointer x r u → Pointer x (codes "/" ++ (decimal k ++ r)) t
  value : {s key r : List ℕ} {t u : Tree} → Token s key → member t key ≡ Some u → Pointer x r u → Pointer x (codes "/" ++ (s ++ r)) t

-- ---- filters

-- the characters of a string, and what they stand for: `\"` for `"`, and `\\` for `\`. Other escapes are not written.
pub data Chars : List ℕ → List ℕ → Type 0 where
  string_end : Chars [] []
  quote : {s key : List ℕ} → Chars s key → Chars (92 ∷ 34 ∷ s) (34 ∷ key)
  backslash : {s key : List ℕ} → Chars s key → Chars (92 ∷ 92 ∷ s) (92 ∷ key)
  string_char : {c : ℕ} {s key : List ℕ} → (c == 34) ≡ false → (c == 92) ≡ false → Chars s key → Chars (c ∷ s) (c ∷ key)

-- `[2]`, `.name` and `["text"]`, any number of times
pub data Suffixes (x : Tree) : List ℕ → Tree → Type 0 where
  no_suffix : Suffixes x [] x
  index : (k : ℕ) {r : List ℕ} {t u : Tree} → part t (at_item k) ≡ Some u → Suffixes x r u → Suffixes x (codes "[" ++ (decimal k ++ (codes "]" ++ r))) t
  field : (name : List ℕ) {r : List ℕ} {t u : Tree} → is_filter_name name ≡ true → member t name ≡ Some u → Suffixes x r u → Suffixes x (codes "." ++ (name ++ r)) t
  quoted : {s key r : List ℕ} {t u : Tree} → Chars s key → member t key ≡ Some u → Suffixes x r u → Suffixes x (codes "[\"" ++ (s ++ (codes "\"]" ++ r))) t

-- a path: `.` before the first suffix, unless that begins with it
pub data Filter (x : Tree) : List ℕ → Tree → Type 0 where
  by_field : {s : List ℕ} {t : Tree} → has_dot s ≡ true → Suffixes x s t → Filter x s t
  by_dot : {s : List ℕ} {t : Tree} → has_dot s ≡ false → Suffixes x s t → Filter x (codes "." ++ s) t
