use Rattle.std.proofs.Common.{◌≤◌, ◌<◌, take, map, string_bytes, string_len, string_capacity}
use Rattle.yaml_text.specs.EventModel.{event_of}
use Rattle.yaml_definitions.specs.model.EventText.{events_text}
use Rattle.yaml_events.proofs.Pages.{Has}
use Rattle.yaml_events.proofs.fill.turn_pages.Given as goal

abbrev pub invariant-lines : goal.invariant-lines
invariant-lines l = record {
  has : Has (events_text (map event_of (take l.event-index l.events))) (string_bytes l.page) l.initial.room l.room l.at;
  short : string_len l.page < 4096;
  kept : string_capacity l.initial.page ≤ string_capacity l.page;
}
