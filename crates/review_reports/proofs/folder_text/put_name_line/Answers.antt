use Rattle.std.proofs.Common.{◌++◌, codes, string_bytes}
use Rattle.review_text.specs.Terminal.{terminal}
use Rattle.review_text.proofs.Pieces.{then_more}
use Rattle.review_reports.proofs.folder_text.put_name_line.Goals as goal

pub returns : goal.returns
returns c = record {
  ok = (
      let name = terminal c.args.name.now in
      let o = string_bytes c.args.out.now in
      let front = string_bytes c.push_str.new.self in
      let shown = string_bytes c.put_shown.new.out in
      let end = string_bytes c.push_str-2.new.self in
      then_more o front end (codes "diff ") (name ++ codes "\n") c.in_ok-push_str.ensures.bytes (then_more front shown end name (codes "\n") c.in_ok-put_shown.ensures.ok c.in_ok-push_str-2.ensures.bytes));
}
