-- Two files, and what is told of them.
use Rattle.std.specs.Prelude.{IfOk, IfErr}
use Rattle.std.proofs.Common.{◌≡◌, ℕ, Bool, List, [], Option, Result, Vec, inl, sym, subst}
use Rattle.std.specs.declared.alloc.Global.{Global}
use Rattle.yaml_canon.specs.Comparing.{Compares}
use Rattle.yaml_command.specs.Shelves.{IsOf}
use Rattle.review_text.specs.declared.options.Diff.{Diff}
use Rattle.review_compare.specs.Compared.{DiffLines}
use Rattle.review_files.specs.Named.{IsUnread}
use Rattle.review_files.specs.declared.rejected.Named.{Named}
use Rattle.review_files.specs.declared.unread.Unread.{Unread}
use Rattle.review_git.specs.Files.{IsAnswer, IsFileOf, AsksLines, TellsDifferences}
use Rattle.review_git.specs.declared.asked.Side.{Side}
use Rattle.review_git.proofs.NoneLaws.{no_lines}

pub compared : (is_color : Bool) (left right : Named) (first second text : List ℕ) (asked : Diff) (same : Bool) → AsksLines left.name.now right.name.now is_color asked → Compares first second same → DiffLines first second asked [] same text → TellsDifferences is_color left right first second text
compared is_color left right first second text asked same a c l = inl (record {
  asked = asked;
  asks = a;
  same = same;
  compares = c;
  lines = l;
  none = no_lines first second text asked same a.stat l;
})

pub file_of : (holds : List ℕ → Option (List ℕ)) (side : Side) (name : List ℕ) (file : Named) (answer : Result (Vec ℕ Global) Unread) → file.name.now ≡ name → file.answer.now ≡ answer
    → IfOk answer (λ v. IsOf (holds side.file.now) v.items) → IfErr answer (IsUnread (holds side.file.now)) → IsFileOf holds side name file
file_of holds side name file answer n e o u = record { named = n; is = subst (IsAnswer (holds side.file.now)) (sym e) (o, u) }
