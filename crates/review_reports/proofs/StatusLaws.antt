-- A file in two folders.
use Rattle.std.specs.Prelude.{IfOk, IfErr}
use Rattle.std.proofs.Common.{◌≡◌, ℕ, max, Bool, cond, List, [], Option, Result, Ok, Err, Vec, inr, inl, sym, ◌∙◌, ap, subst}
use Rattle.std.specs.declared.alloc.Global.{Global}
use Rattle.yaml_text.specs.declared.fault.Fault.{Fault}
use Rattle.yaml_text.specs.declared.side.Side.{Side}
use Rattle.yaml_canon.specs.Comparing.{Compares}
use Rattle.yaml_command.specs.Shelves.{IsOf}
use Rattle.review_patterns.specs.declared.pattern.Pattern.{Pattern}
use Rattle.review_text.specs.declared.options.Diff.{Diff}
use Rattle.review_text.specs.declared.options.Form.{Form}
use Rattle.review_text.specs.declared.options.Page.{Page}
use Rattle.review_formats.specs.declared.finding.Finding.{Finding}
use Rattle.review_formats.specs.declared.finding.Shown.{Shown}
use Rattle.review_lines.specs.declared.listed.Listed.{Listed}
use Rattle.review_compare.specs.Compared.{DiffLines, DiffLists}
use Rattle.review_files.specs.Named.{IsUnread, NotBothRead}
use Rattle.review_files.specs.Told.{TellsFile, TellsBoth, TellsNotCompared}
use Rattle.review_files.specs.declared.rejected.Named.{Named}
use Rattle.review_files.specs.declared.unread.Unread.{Unread}
use Rattle.review_reports.specs.Folders.{IsPath, IsRead, AreEqual, AreCompared, AreRejected, NewTold}
use Rattle.review_reports.specs.FolderPages.{BytesFaults, AnswerFaults, FileFaults}
use Rattle.review_reports.specs.Parts.{ShowsLines}
use Rattle.review_reports.specs.Printed.{lines_text, AsksFiles, LinesCompared}

-- not both are read
pub left_unread : (a b : Result (Vec ℕ Global) Unread) (why : Unread) → a ≡ Err why → NotBothRead a b
left_unread a b why e = subst (λ z. NotBothRead z b) (sym e) tt

pub right_unread : (a b : Result (Vec ℕ Global) Unread) (why : Unread) → b ≡ Err why → NotBothRead a b
right_unread (Ok x) b why e = subst (λ z. NotBothRead (Ok x) z) (sym e) tt
right_unread (Err y) b why e = tt

-- the bytes that reading a file gave
pub read_is : (held : Option (List ℕ)) (answer : Result (Vec ℕ Global) Unread) (bytes : Vec ℕ Global) → answer ≡ Ok bytes → IfOk answer (λ v. IsOf held v.items) → IsOf held bytes.items
read_is held answer bytes e h =
    let P : Result (Vec ℕ Global) Unread → Type 0 = λ z. IfOk z (λ v. IsOf held v.items) in
    subst P e h

-- the faults of a file that is read
pub faults_at : (r : Result (Vec Finding Global) Fault) (file : Named) (bytes : Vec ℕ Global) → file.answer.now ≡ Ok bytes → IfOk r (λ list. BytesFaults file.name.now bytes.items list.items) → IfOk r (λ list. FileFaults file list.items)
faults_at (Ok list) file bytes e h = subst (λ z. AnswerFaults file.name.now z list.items) (sym e) h
faults_at (Err fault) file bytes e h = tt

-- the lines of two files, by other terms for their names and bytes
pub shown_as : (page : Page) (a b c d e f g h : List ℕ) (shown : Option (Shown × Shown)) → a ≡ b → c ≡ d → e ≡ f → g ≡ h → ShowsLines page a c e g shown → ShowsLines page b d f h shown
shown_as page a b c d e f g h shown i j k l s =
    subst (λ z. ShowsLines page b d f z shown) l (subst (λ z. ShowsLines page b d z g shown) k (subst (λ z. ShowsLines page b z e g shown) j (subst (λ z. ShowsLines page z c e g shown) i s)))

-- Two files that are read have other bytes.
pub answers_differ : (a b : Result (Vec ℕ Global) Unread) (one other : Vec ℕ Global) → a ≡ Ok one → b ≡ Ok other → (one.items ≡ other.items → ⊥) → a ≡ b → ⊥
answers_differ a b one other p q differ e = differ (ap (λ v. v.items) (let h : one ≡ other = cc in h))

module _ (holds : List ℕ → Option (List ℕ)) where
  -- what reading a path gave is what reading the name that is printed gave
  pub is_read : (file : Named) (path read : List ℕ) → file.name.now ≡ path → read ≡ path → IfOk file.answer.now (λ v. IsOf (holds read) v.items) → IfErr file.answer.now (IsUnread (holds read)) → IsRead holds file
  is_read file path read e f a b =
      let k : read ≡ file.name.now = f ∙ sym e in
      record {
        read = subst (λ z. IfOk file.answer.now (λ v. IsOf (holds z) v.items)) k a;
        unread = subst (λ z. IfErr file.answer.now (IsUnread (holds z))) k b;
      }

  abbrev pub new_told : (asked : Diff) (name : List ℕ) (file : Named) (path read text err : List ℕ) (own status : ℕ) → err ≡ text → IsPath asked.right.now name path → file.name.now ≡ path → read ≡ path → IfOk file.answer.now (λ v. IsOf (holds read) v.items) → IfErr file.answer.now (IsUnread (holds read)) → TellsFile asked.form file text own → status ≡ max own 1 → NewTold holds asked name err status
  new_told asked name file path read text err own status is p e f a b t m = record {
    file = file;
    path = subst (IsPath asked.right.now name) (sym e) p;
    is = is_read file path read e f a b;
    own = own;
    tells = subst (λ z. TellsFile asked.form file z own) (sym is) t;
    told = m;
  }

  module _ (left right left_read right_read : List ℕ) (read_left : left_read ≡ left) (read_right : right_read ≡ right) where
    -- two files with the same bytes
    pub are_equal : (first second : List ℕ) (status : ℕ) → IsOf (holds left_read) first → IsOf (holds right_read) second → first ≡ second → status ≡ 0 → AreEqual holds left right status
    are_equal first second status a b same told = record {
      bytes = first;
      one = subst (λ z. IsOf (holds z) first) read_left a;
      other = subst (λ z. IsOf (holds z) first) read_right (subst (λ z. IsOf (holds right_read) z) (sym same) b);
      told = told;
    }

    -- two files that are not compared
    module _ (form : Form) (one other : Named) (text err : List ℕ) (status : ℕ) (is : err ≡ text) (one_name : one.name.now ≡ left) (other_name : other.name.now ≡ right) (one_ok : IfOk one.answer.now (λ v. IsOf (holds left_read) v.items)) (one_err : IfErr one.answer.now (IsUnread (holds left_read))) (other_ok : IfOk other.answer.now (λ v. IsOf (holds right_read) v.items)) (other_err : IfErr other.answer.now (IsUnread (holds right_read))) where
      abbrev pub not_read : TellsBoth form one other text status → NotBothRead one.answer.now other.answer.now → AreRejected holds form left right err status
      not_read t n = record {
        one = one;
        other = other;
        one_name = one_name;
        other_name = other_name;
        one_is = is_read one left left_read one_name read_left one_ok one_err;
        other_is = is_read other right right_read other_name read_right other_ok other_err;
        tells = inl (n, subst (λ z. TellsBoth form one other z status) (sym is) t);
      }

      abbrev pub not_compared : (one.answer.now ≡ other.answer.now → ⊥) → (side : Side) → TellsNotCompared form one other side text status → AreRejected holds form left right err status
      not_compared differ side t = record {
        one = one;
        other = other;
        one_name = one_name;
        other_name = other_name;
        one_is = is_read one left left_read one_name read_left one_ok one_err;
        other_is = is_read other right right_read other_name read_right other_ok other_err;
        tells = inr (differ, side, subst (λ z. TellsNotCompared form one other side z status) (sym is) t);
      }

    -- two files that are compared
    module _ (asked : Diff) (ignored : List Pattern) (first second : List ℕ) (status : ℕ) (a : IsOf (holds left_read) first) (b : IsOf (holds right_read) second) (differ : first ≡ second → ⊥) where
      pub lines_compared : (name : List ℕ) (none : Bool) (question : Diff) (lines out : List ℕ) → (ignored ≡ [] → Compares first second none) → AsksFiles asked name question → DiffLines first second question ignored none lines → out ≡ lines_text asked name none lines → status ≡ cond none 0 1 → LinesCompared holds asked ignored name left right out status
      lines_compared name none question lines out same asks are printed told = record {
        first = first;
        second = second;
        one = subst (λ z. IsOf (holds z) first) read_left a;
        other = subst (λ z. IsOf (holds z) second) read_right b;
        differ = differ;
        none = none;
        compares = same;
        question = question;
        asks = asks;
        lines = lines;
        are = are;
        printed = printed;
        told = told;
      }

      abbrev pub list_compared : (listed : Listed) → (ignored ≡ [] → Compares first second listed.same) → DiffLists first second asked ignored listed → status ≡ cond listed.same 0 1 → AreCompared holds asked ignored left right status
      list_compared listed same lists told = record {
        first = first;
        second = second;
        one = subst (λ z. IsOf (holds z) first) read_left a;
        other = subst (λ z. IsOf (holds z) second) read_right b;
        differ = differ;
        listed = listed;
        lists = lists;
        compares = same;
        told = told;
      }
