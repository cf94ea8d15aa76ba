use Rattle.std.specs.String.{string_bytes}
use Rattle.std.proofs.Common.{map}
use Rattle.review_command.proofs.GitLaws.{git_written, git_cut}
use Rattle.review_command.proofs.command.git.Goals as goal

pub returns-in-Ok-put_page : goal.returns-in-Ok-put_page
returns-in-Ok-put_page g c =
    git_written (g.S.Shelf.holds c.args.shelf.now) g.W.Write.contents (map (λ s. s.now) c.args.words.now) c.args.is_color c.in-Some.asked (string_bytes c.in-Ok.text) c.args.out.now c.put_page.new.out
    c.in-Some.ensures c.in-Ok.ensures.ok (rw c.as_bytes.ensures.value at c.in-Ok-put_page.ensures.ok)

pub returns : goal.returns
returns g c =
    git_cut (g.S.Shelf.holds c.args.shelf.now) g.W.Write.contents (map (λ s. s.now) c.args.words.now) c.args.is_color c.in-Some.asked (string_bytes c.in-Ok.text) c.args.out.now c.put_page.new.out
    c.in-Err-put_page.fault c.tell_bare-in-Err-put_page.result c.in-Some.ensures c.in-Ok.ensures.ok c.in-Err-put_page.ensures.err.0 (rw c.as_bytes.ensures.value at c.in-Err-put_page.ensures.err.1) c.tell_bare-in-Err-put_page.ensures.status
