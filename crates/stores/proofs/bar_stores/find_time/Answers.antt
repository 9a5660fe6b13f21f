use borrow.Author.Rules.{rules}
use Rattle.stores.proofs.Searching.{early_first, place_by}
use Rattle.std.proofs.Common.{of_calls}
use Rattle.std.proofs.lemmas.Fn.{always_returns_same}
use lib.Signed.{lt_z}
use lib.IntN.{pos}
use lib.ListN.{take}
use Rattle.stores.proofs.bar_stores.find_time.Goals as goal

pub returns : goal.returns
returns c =
    let a = c.args in
    let l = take a.n a.times.now in
    let r = c.requires.fact_2 in
    let point = c.partition_point.ensures.partitioned (λ x. lt_z x a.t) (always_returns_same _ _ _ (λ x y f k. search (rules, of_calls))) (λ i j d h k e. early_first a.t l i j d r h k e) in
    place_by a.t l _ r c.partition_point.ensures.bound (λ k h. point.0 k (pos 0) (search rules) h) (λ k h g. point.1 k (pos 0) h g)
