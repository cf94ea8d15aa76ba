use Rattle.yaml_command.proofs.MessageLaws.{line-is-message}
use Rattle.yaml_command.proofs.message_laws.messages_are_lines.Goals as goal

pub returns : goal.returns
returns c = line-is-message
