-- Columns that a function writes row by row stay the same columns.
-- Assumes nothing.
use Prim.Native.Nat.{ℕ, ◌+◌, ◌<◌}
use native.Mathlib.Omega.{arith}
use mathlib.Core.Path.{refl, ◌∙◌}
use Rattle.zones.specs.declared.lent_rows.RowsMut.{RowsMut}
use Rattle.zones.specs.Columns.{RoomRows, SameRows}

module _ {P : ℕ} {K : Type 0} where
  pub same_start : (a : RowsMut P K) → SameRows a a
  same_start a = record { times = refl; prices = refl; kinds = refl; times_room = refl; prices_room = refl; kinds_room = refl }

  pub same_then : (a b c : RowsMut P K) → SameRows a b → SameRows b c → SameRows a c
  same_then a b c p q =
      record {
        times = q.times ∙ p.times;
        prices = q.prices ∙ p.prices;
        kinds = q.kinds ∙ p.kinds;
        times_room = q.times_room ∙ p.times_room;
        prices_room = q.prices_room ∙ p.prices_room;
        kinds_room = q.kinds_room ∙ p.kinds_room;
      }

  -- what had room for n rows has it for the row at a place below
  pub room_at : (a b : RowsMut P K) (n j : ℕ) → RoomRows a n → SameRows a b → j < n → RoomRows b (j + 1)
  room_at a b n j r s h =
      let x = r.times in
      let y = r.prices in
      let z = r.kinds in
      let p = s.times_room in
      let q = s.prices_room in
      let k = s.kinds_room in
      record { times = omega arith; prices = omega arith; kinds = omega arith }
