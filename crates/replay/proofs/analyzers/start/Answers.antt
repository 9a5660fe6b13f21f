use Rattle.replay.proofs.NotRefused.{not-refused}
use Rattle.replay.proofs.analyzers.start.Goals as goal

pub play-requires : goal.play-requires
play-requires c = not-refused _ _ _ _ _ _ c.of-stores.ensures c.in-Ok.is c.new_stand.ensures.refused c.new_stand.ensures.begun
