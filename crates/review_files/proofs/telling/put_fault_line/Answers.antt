use Rattle.std.proofs.Common.{◌++◌, codes, string_bytes}
use Rattle.yaml_message.specs.Words.{fault_message}
use Rattle.review_text.proofs.Pieces.{then_more}
use Rattle.review_files.specs.Lines.{line_front}
use Rattle.review_files.proofs.telling.put_fault_line.Goals as goal

pub returns : goal.returns
returns c = record {
  ok = (
      let o = string_bytes c.args.out.now in
      let front = string_bytes c.put_front.new.out in
      let middle = string_bytes c.push_str.new.self in
      let end = string_bytes c.push_str-2.new.self in
      then_more o front end (line_front c.args.name.now) (fault_message c.args.fault ++ codes "\n") c.in_ok-put_front.ensures.ok
      (then_more front middle end (fault_message c.args.fault) (codes "\n") (rw c.message_of-words.ensures.bytes at (rw c.as_str.ensures.value at c.in_ok-push_str.ensures.bytes)) c.in_ok-push_str-2.ensures.bytes));
}
