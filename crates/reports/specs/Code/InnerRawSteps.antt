-- How bars are written to columns, one behind the other. Definitions only.
use Rattle.std.specs.Prelude.{ℕ, ◌+◌, ℤ}
use Rattle.bars.specs.declared.Bar.{Bar}
use Rattle.stores.specs.Stores.{RawStore}
use Rattle.stores.specs.Code.StoreRows.{set_bar}

-- columns that bars are written to, and the place of the next one
pub record Filling : Type 0 where
  pub columns : RawStore
  pub next : ℕ

abbrev pub filling : RawStore → ℕ → Filling
filling d k = record { columns = d; next = k }

-- how they go on with the bar that is named by the time t
abbrev pub put_one : (ℤ → Bar) → Filling → ℤ → Filling
put_one named w t = record { columns = set_bar w.columns w.next (named t); next = w.next + 1 }
