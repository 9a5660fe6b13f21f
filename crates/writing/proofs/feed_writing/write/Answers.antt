use borrow.Author.Rules.{rules}
use mathlib.Core.Path.{refl, ap}
use Rattle.stores.specs.Stores.{MergedStore}
use Rattle.strokes.specs.Lent.{stores_of}
use Rattle.strokes.specs.Code.BarSteps.{with_raw, with_unfinished}
use Rattle.writing.proofs.WriteLaws.{can_put, can_move, can_keep, is-written}
use Rattle.writing.proofs.feed_writing.write.Goals as goal

pub put_bar-n-requires : goal.put_bar-n-requires
unfolding stores_of
put_bar-n-requires c = rw c.seen.ensures (can_put _ _ _ _ _ c.requires (search rules) (search rules))

pub update_bi-wrote-requires : goal.update_bi-wrote-requires
unfolding stores_of with_unfinished
update_bi-wrote-requires c = can_move _ _ _ _ _ c.requires (search rules) (search rules) (with_unfinished c.args.stand c.put_bar-n.result) _ (rw c.seen.ensures at c.put_bar-n.ensures.has) c.put_bar-n.ensures.sized

pub keep_raw-kept-requires : goal.keep_raw-kept-requires
unfolding stores_of with_unfinished
keep_raw-kept-requires c =
    let w = c.update_bi-wrote in
    rw (ap (λ (s : MergedStore). s.times) c.seen-2.ensures) (can_keep _ _ _ _ _ c.requires (search rules) (search rules) (with_unfinished c.args.stand c.put_bar-n.result) _ (rw c.seen.ensures at c.put_bar-n.ensures.has) c.put_bar-n.ensures.sized w.result _ _ _ w.ensures.moved)

pub returns-clause-written : goal.returns-clause-written
unfolding stores_of with_unfinished with_raw
returns-clause-written c =
    let w = c.update_bi-wrote in
    let r = c.keep_raw-kept in
    let has = rw (ap (λ (s : MergedStore). s.times) c.seen-2.ensures) at r.ensures.has in
    is-written _ _ _ _ _ c.requires (search rules) (search rules) (with_unfinished c.args.stand c.put_bar-n.result) _ (rw c.seen.ensures at c.put_bar-n.ensures.has) c.put_bar-n.ensures.sized w.result _ _ _ w.ensures.moved (with_raw w.result.stand r.result) _ has (search rules) (search rules) _ refl refl refl refl
