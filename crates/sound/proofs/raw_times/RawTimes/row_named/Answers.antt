use Rattle.sound.proofs.SoundNames.{followed}
use Rattle.sound.proofs.raw_times.RawTimes.row_named.Goals as goal

pub returns-then-starts_with : goal.returns-then-starts_with
returns-then-starts_with c = followed c.args.self.times.now c.args.row.now c.args.count _ c.args.from c.min.ensures c.if-starts_with.ensures.value
