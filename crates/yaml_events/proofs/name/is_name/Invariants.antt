use Rattle.std.proofs.Common.{◌≡◌}
use Rattle.std.specs.List.{list_all}
use Rattle.std.specs.Str.{IsUtf8, chars}
use Rattle.yaml_definitions.specs.model.Sound.{is_anchor_char}
use Rattle.yaml_events.proofs.name.is_name.Given as goal

abbrev pub invariant-chars : goal.invariant-chars
invariant-chars l =
    let rest = l.c-iterator.rest.now in
    record {
      utf8 : IsUtf8 rest;
      all : list_all is_anchor_char (chars l.text) ≡ list_all is_anchor_char (chars rest);
    }
