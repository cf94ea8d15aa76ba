-- What the two spellings mean.
use Rattle.std.specs.Prelude.{List, ℕ}
use Rattle.yaml_definitions.specs.model.Tree.{Tree}
use Rattle.yaml_definitions.specs.model.Event.{Event}
use Rattle.yaml_definitions.specs.canonical.Spell.{spell_bytes, spelled}
use Rattle.yaml_definitions.specs.canonical.Block.{block_bytes, blocked}
use Rattle.yaml_definitions.specs.model.Means.{Understood}
use Rattle.yaml_definitions.specs.grammar.Reading.{Reads}
use Rattle.yaml_definitions.proofs.MeansLaws.{spelled_understood, blocked_understood}
use Rattle.law_read_back.specs.Spellings.{MeansLike, SpellingsMean, BlocksMean}
use Rattle.law_read_back.proofs.StreamReadings.{spellings_are_read}
use Rattle.law_read_back.proofs.BlockReadings.{blocks_are_read}

means_like : (bytes : List ℕ) (es : List Event) (f : List Tree) → Reads bytes es → Understood es f → MeansLike bytes f
means_like bytes es f r u = record { forest = u.forest; means = record { events = es; reads = r; stands = u.stands }; admitted = u.admitted; alike = u.alike; text = u.text }

pub spellings_mean : SpellingsMean
spellings_mean f a = means_like (spell_bytes f) (spelled f) f (spellings_are_read f a) (spelled_understood f a)

pub blocks_mean : BlocksMean
blocks_mean f a h k = means_like (block_bytes f) (blocked f) f (blocks_are_read f a h k) (blocked_understood f a)
