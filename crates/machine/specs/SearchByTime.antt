-- With rising times the search by place is the Rust's search by time. The claim; its proof is `search_by_time` of proofs/ByPlace.
use Rattle.std.specs.Prelude.{ℕ, ◌≡◌, List}
use Rattle.bars.specs.Bars.{Merged}
use Rattle.machine.specs.Rising.{Rising}
use Rattle.machine.specs.Strokes.{check_bi, cut}
use Rattle.machine.specs.ByTime.{check_bi_by_time, cut_by_time}

pub record SearchByTime : Type 0 where
  -- check_bi finds the same stroke and leaves the same bars
  pub stroke : (minimum : ℕ) (l : List Merged) → Rising l → check_bi minimum l ≡ check_bi_by_time minimum l
  -- the first stroke's cut leaves the same bars
  pub cut : (l : List Merged) → Rising l → cut l ≡ cut_by_time l
