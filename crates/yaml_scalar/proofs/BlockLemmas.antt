-- A whole block scalar: its content is one, and it ends furthest with all its comment lines.
use Rattle.std.proofs.Common.{◌≡◌, ◌≢◌, ℕ, ◌+◌, List, Some, Bool, true, false, refl, sym, ◌∙◌, ap, subst}
use Rattle.std.specs.Prelude.{slice_get}
use Rattle.yaml_definitions.specs.grammar.Rules.{maybe, furthest_span}
use Rattle.yaml_definitions.specs.grammar.BlockScalars.{Line, Header, is_given, content, c-b-block-header as header, indentation, lines, LinesEnd, l-trail-comments as comment_lines, block_content, block_scalar, c-l+literal as literal, c-l+folded as folded}
use Rattle.yaml_text.specs.LeafAnswer.{Unread}
use Rattle.yaml_scalar.specs.BlockRules.{block_lines}
use Rattle.yaml_text.specs.LeafAnswer.{FurthestAlone}
use Rattle.yaml_text.specs.Lines.{Inside}
use Rattle.yaml_scalar.specs.BlockModel.{sign_of, styled}
use Rattle.yaml_definitions.specs.grammar.Characters.{is_nb, is_break}
use Rattle.yaml_scalar.proofs.HeaderLemmas.{header_same}
use Rattle.yaml_scalar.proofs.IndentationLemmas.{indentation_same, indentation_here}
use Rattle.yaml_scalar.proofs.LineLemmas.{lines_same}

module _ (cs : List ℕ) where
  -- its parts
  pub record Parts (f : Bool) (col i j : ℕ) (v : List ℕ) : Type 0 where
    pub sign : slice_get cs i ≡ Some (sign_of f)
    pub first : ℕ
    pub head : Header
    pub header : header cs (i + 1) first head
    pub k : ℕ
    pub indent : indentation cs col head.digit first first k
    pub end : ℕ
    pub list : List Line
    pub lines : lines cs (is_given head.digit) k first end list
    pub is : v ≡ content f head.chomp list
    pub over : LinesEnd cs k end
    pub comments : maybe (comment_lines cs k) end j

  scalar_parts : (f : Bool) (col i s j : ℕ) (v : List ℕ) → slice_get cs i ≡ Some (sign_of f) → s ≡ i + 1 → block_scalar cs f col s j v → Parts f col i j v
  unfolding block_content
  scalar_parts f col i s j v g e (a, h, p, (b, k, q, (m, (ls, l, w), (n, (o, z), c)))) =
      let at : b ≡ a = indentation_here cs col h.digit a b k q in
      record {
        sign = g;
        first = a;
        head = h;
        header = subst (λ x. header cs x a h) e p;
        k = k;
        indent = subst (λ x. indentation cs col h.digit a x k) at q;
        end = m;
        list = ls;
        lines = subst (λ x. lines cs (is_given h.digit) k x m ls) at l;
        is = w;
        over = z;
        comments = subst (λ x. maybe (comment_lines cs k) x j) o c;
      }

  pub parts_of : (f : Bool) (col i j : ℕ) (v : List ℕ) → styled cs f col i j v → Parts f col i j v
  unfolding literal folded
  parts_of false col i j v (s, (g, e), r) = scalar_parts false col i s j v g e r
  parts_of true col i j v (s, (g, e), r) = scalar_parts true col i s j v g e r

  to_styled : (f : Bool) (col i j : ℕ) (v : List ℕ) → slice_get cs i ≡ Some (sign_of f) → block_scalar cs f col (i + 1) j v → styled cs f col i j v
  unfolding literal folded
  to_styled false col i j v g r = (i + 1, (g, refl), r)
  to_styled true col i j v g r = (i + 1, (g, refl), r)

  is_styled : (f : Bool) (col i j : ℕ) (v : List ℕ) → Parts f col i j v → styled cs f col i j v
  unfolding block_content
  is_styled f col i j v p =
      to_styled f col i j v p.sign (p.first, p.head, p.header, (p.first, p.k, p.indent, (p.end, (p.list, p.lines, p.is), (p.end, (refl, p.over), p.comments))))

  -- two readings from one place
  pub meet : (f : Bool) (col i j l : ℕ) (v w : List ℕ) (p : Parts f col i j v) → Parts f col i l w → maybe (comment_lines cs p.k) p.end l × (w ≡ v)
  meet f col i j l v w p q =
      let heads = header_same cs (i + 1) p.first q.first p.head q.head p.header q.header in
      let indents = indentation_same cs col p.head.digit p.first p.first p.first p.k q.k p.indent
      (subst (λ h. indentation cs col h.digit p.first p.first q.k) (sym heads.1) (subst (λ x. indentation cs col q.head.digit x x q.k) (sym heads.0) q.indent)) in
      let there : lines cs (is_given p.head.digit) p.k p.first q.end q.list =
      subst (λ h. lines cs (is_given h.digit) p.k p.first q.end q.list) (sym heads.1)
      (subst (λ x. lines cs (is_given q.head.digit) x p.first q.end q.list) (sym indents.1) (subst (λ x. lines cs (is_given q.head.digit) q.k x q.end q.list) (sym heads.0) q.lines)) in
      let all = lines_same cs (is_given p.head.digit) p.k p.first p.end q.end p.list q.list p.lines p.over there (subst (λ x. LinesEnd cs x q.end) (sym indents.1) q.over) in (
        subst (λ x. maybe (comment_lines cs p.k) x l) (sym all.0) (subst (λ x. maybe (comment_lines cs x) q.end l) (sym indents.1) q.comments),
        q.is ∙ ap (content f q.head.chomp) (sym all.1) ∙ ap (λ h. content f h.chomp p.list) (sym heads.1) ∙ sym p.is,
      )

  pub block_is : (f : Bool) (col i s a e j k : ℕ) (h : Header) (v : List ℕ) → slice_get cs i ≡ Some (sign_of f) → s ≡ i + 1 → header cs s a h → indentation cs col h.digit a a k →
      block_lines cs f h k a e v → furthest_span (maybe (comment_lines cs k)) e j → FurthestAlone (styled cs f col) i j v
  block_is f col i s a e j k h v g at p q (m, (ls, l, w), (o, z)) (c, last) =
      record {
        is = is_styled f col i j v parts;
        furthest = λ n u r. last n (meet f col i j n v u parts (parts_of f col i n u r)).0;
        only = λ n u r. (meet f col i j n v u parts (parts_of f col i n u r)).1;
      }
    where
      parts : Parts f col i j v
      parts = record {
        sign = g;
        first = a;
        head = h;
        header = subst (λ x. header cs x a h) at p;
        k = k;
        indent = q;
        end = e;
        list = ls;
        lines = subst (λ x. lines cs (is_given h.digit) k a x ls) (sym o) l;
        is = w;
        over = subst (LinesEnd cs k) (sym o) z;
        comments = c;
      }

  -- ---- where there is none

  pub no_mark : (f : Bool) (col i : ℕ) → slice_get cs i ≢ Some (sign_of f) → Unread (styled cs f col) i
  no_mark f col i n j v r = n (parts_of f col i j v r).sign

  pub no_head : (f : Bool) (col i s : ℕ) → s ≡ i + 1 → Unread (header cs) s → Unread (styled cs f col) i
  no_head f col i s e none j v r = let p = parts_of f col i j v r in none p.first p.head (subst (λ x. header cs x p.first p.head) (sym e) p.header)

  pub no_indent : (f : Bool) (col i s a : ℕ) (h : Header) → s ≡ i + 1 → header cs s a h → Unread (indentation cs col h.digit) a → Unread (styled cs f col) i
  no_indent f col i s a h e r none j v q =
      let p = parts_of f col i j v q in
      let heads = header_same cs (i + 1) a p.first h p.head (subst (λ x. header cs x a h) e r) p.header in
      none a p.k (subst (λ x. indentation cs col x.digit a a p.k) (sym heads.1) (subst (λ x. indentation cs col p.head.digit x x p.k) (sym heads.0) p.indent))

  -- the place after the first character
  pub sign_inside : (f : Bool) (i s : ℕ) → slice_get cs i ≡ Some (sign_of f) → s ≡ i + 1 → Inside cs s
  unfolding is_nb is_break
  sign_inside false i s h e = (i, e, (124, h, refl))
  sign_inside true i s h e = (i, e, (62, h, refl))
