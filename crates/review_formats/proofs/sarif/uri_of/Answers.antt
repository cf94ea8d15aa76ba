use Rattle.review_formats.proofs.SarifLaws.{uri_encoded}
use Rattle.review_formats.proofs.sarif.uri_of.Goals as goal

pub returns : goal.returns
returns c = record { ok = (rw (c.in_ok-append_to.ensures.ok, c.new-uri.ensures.bytes, c.utf8_percent_encode.ensures.text) (uri_encoded c.args.name.now)) }
