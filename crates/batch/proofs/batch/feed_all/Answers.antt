use borrow.Author.Rules.{rules}
use Rattle.std.proofs.lemmas.Result.{err_from_is_err_and}
use Rattle.batch.proofs.BatchLoop.{failed_seen, begun_seen, can_batch, batch-refused, batch-answered}
use Rattle.batch.proofs.batch.feed_all.Goals as goal

-- ---- the analyzer is refused

pub returns-in_err-stand-clause-batch : goal.returns-in_err-stand-clause-batch
returns-in_err-stand-clause-batch c =
    let a = c.args in
    let p = err_from_is_err_and c.from_residual.result c.from_residual.ensures.1 in
    rw (p.1, p.2)
    (batch-refused a.settings.minimum a.settings.most a.settings.power a.settings.ratio _ _ _ (failed_seen a.settings.minimum a.settings.most a.settings.power a.settings.ratio c.of-stores.ensures c.in_err-stand.ensures.refused))

-- ---- the bars are fed

pub feed_from-requires : goal.feed_from-requires
feed_from-requires c =
    let a = c.args in
    can_batch a.settings.minimum a.settings.most a.settings.power a.settings.ratio _ _ _ _
    (failed_seen a.settings.minimum a.settings.most a.settings.power a.settings.ratio c.of-stores.ensures c.in_ok-stand.ensures.refused)
    (begun_seen a.settings.minimum a.settings.most a.settings.power a.settings.ratio c.of-stores.ensures c.in_ok-stand.ensures.begun)
    (search rules)

pub returns-clause-batch : goal.returns-clause-batch
returns-clause-batch c =
    let a = c.args in
    batch-answered a.settings.minimum a.settings.most a.settings.power a.settings.ratio _ _ _ _
    (failed_seen a.settings.minimum a.settings.most a.settings.power a.settings.ratio c.of-stores.ensures c.in_ok-stand.ensures.refused)
    (begun_seen a.settings.minimum a.settings.most a.settings.power a.settings.ratio c.of-stores.ensures c.in_ok-stand.ensures.begun)
    c.feed_from.ensures.fed
