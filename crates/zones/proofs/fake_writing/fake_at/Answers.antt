use Rattle.zones.proofs.FakeReads.{fake_read_lem}
use Rattle.zones.proofs.fake_writing.fake_at.Goals as goal

pub returns : goal.returns
returns c = fake_read_lem _ _ c.args.p c.mark_at.result c.middle_at.result c.middle_at-2.result _ c.mark_at.ensures c.middle_at.ensures c.middle_at-2.ensures c.fake_stroke.ensures
