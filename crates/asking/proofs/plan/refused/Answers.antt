use Rattle.std.proofs.Common.{arith}
use Rattle.asking.proofs.PlanLaws.{refused_full, refused_strokes, refused_none}
use Rattle.asking.proofs.plan.refused.Goals as goal

pub returns-then-room-total : goal.returns-then-room-total
returns-then-room-total c = let a = c.args in refused_full a.p a.total a.rooms.unfinished a.used a.rooms.strokes c.then-room-total.either

pub returns-then-rooms-used : goal.returns-then-rooms-used
returns-then-rooms-used c = let a = c.args in refused_strokes a.p a.total a.rooms.unfinished a.used a.rooms.strokes c.if-room-total.false c.if-room-p.false (omega (arith, c.bars_made.ensures))

pub returns : goal.returns
returns c = let a = c.args in refused_none a.p a.total a.rooms.unfinished a.used a.rooms.strokes c.if-room-total.false c.if-room-p.false (omega (arith, c.bars_made.ensures))
