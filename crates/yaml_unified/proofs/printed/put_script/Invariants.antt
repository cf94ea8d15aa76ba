use Rattle.std.proofs.Common.{◌≡◌, ◌++◌, drop, take}
use Rattle.std.specs.List.{list_any}
use Rattle.std.specs.String.{string_bytes}
use Rattle.yaml_unified.specs.Script.{is_change}
use Rattle.yaml_unified.specs.Printed.{texts_from, script_text}
use Rattle.yaml_unified.proofs.printed.put_script.Given as goal

abbrev pub invariant-loop-place : goal.invariant-loop-place
invariant-loop-place l =
    record {
      put : string_bytes l.out ++ texts_from l.look.context l.look.color l.edits l.place (drop l.place l.edits) ≡ string_bytes l.fn.out ++ script_text l.look.context l.look.color l.edits;
      behind : l.is_behind ≡ list_any is_change (take l.place l.edits);
    }
