use Rattle.std.proofs.Common.{◌≤◌, ◌<◌, take, map, string_len, string_capacity}
use Rattle.yaml_text.specs.EventModel.{event_of}
use Rattle.yaml_definitions.specs.model.EventText.{events_text}
use Rattle.yaml_command.specs.Pages.{PageHas}
use Rattle.yaml_command.proofs.pages.write_pages.Given as goal

abbrev pub invariant-lines : goal.invariant-lines
invariant-lines g l = record {
  has : PageHas g.W.Write.contents l.page l.initial.out l.out (events_text (map event_of (take l.event-index l.events)));
  short : string_len l.page < 4096;
  kept : string_capacity l.initial.page ≤ string_capacity l.page;
}
