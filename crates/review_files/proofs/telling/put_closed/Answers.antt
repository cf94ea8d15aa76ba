use Rattle.std.proofs.Common.{◌++◌, codes, string_bytes}
use Rattle.yaml_sum.specs.Complaints.{reason_words}
use Rattle.review_text.proofs.Pieces.{then_more}
use Rattle.review_files.specs.Lines.{line_front}
use Rattle.review_files.proofs.telling.put_closed.Goals as goal

pub returns : goal.returns
returns c = record {
  ok = (
      let o = string_bytes c.args.out.now in
      let front = string_bytes c.put_front.new.out in
      let first = string_bytes c.push_str.new.self in
      let second = string_bytes c.push_str-2.new.self in
      let end = string_bytes c.push_str-3.new.self in
      let words = reason_words c.args.why in
      then_more o front end (line_front c.args.name.now) (codes "cannot open: " ++ (words ++ codes "\n")) c.in_ok-put_front.ensures.ok
      (then_more front first end (codes "cannot open: ") (words ++ codes "\n") c.in_ok-push_str.ensures.bytes (then_more first second end words (codes "\n") (rw c.words.ensures at c.in_ok-push_str-2.ensures.bytes) c.in_ok-push_str-3.ensures.bytes)));
}
