-- An object of JSON with numbers.
use Rattle.std.proofs.Common.{◌≡◌, ℕ, List, ◌++◌}
use Rattle.review_text.proofs.Pieces.{then_more}

pub three_put : (o s a b x1 x2 x3 : List ℕ) → x1 ≡ o ++ s → x2 ≡ x1 ++ a → x3 ≡ x2 ++ b → x3 ≡ o ++ (s ++ (a ++ b))
three_put o s a b x1 x2 x3 h1 h2 h3 = then_more o x1 x3 s _ h1 (then_more x1 x2 x3 a b h2 h3)

pub five_put : (o s a b c d x1 x2 x3 x4 x5 : List ℕ) → x1 ≡ o ++ s → x2 ≡ x1 ++ a → x3 ≡ x2 ++ b → x4 ≡ x3 ++ c → x5 ≡ x4 ++ d → x5 ≡ o ++ (s ++ (a ++ (b ++ (c ++ d))))
five_put o s a b c d x1 x2 x3 x4 x5 h1 h2 h3 h4 h5 =
    then_more o x1 x5 s _ h1 (then_more x1 x2 x5 a _ h2 (then_more x2 x3 x5 b _ h3 (then_more x3 x4 x5 c d h4 h5)))
