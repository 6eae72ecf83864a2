-- What the two record types mean, as docs/RECORDS.md has them: which records are sound.
use Rattle.std.specs.Prelude.{◌≡◌}
use Rattle.record.specs.Soundness.{sound_tally, sound_score}
use Rattle.record.specs.contracts.TallyRecord.TheImpl.{ghosts as tallies}
use Rattle.record.specs.contracts.ScoreRecord.TheImpl.{ghosts as scores}
use Rattle.record.specs.declared.Tally.{Tally}
use Rattle.record.specs.declared.Score.{Score}

-- the tallies that are sound
abbrev pub MeaningOfTallies : Type 0
MeaningOfTallies = (tally : Tally) → tallies.sound tally ≡ sound_tally tally

-- the scores that are sound
abbrev pub MeaningOfScores : Type 0
MeaningOfScores = (score : Score) → scores.sound score ≡ sound_score score
