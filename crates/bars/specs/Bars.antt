-- Document 01's bar and merged bar. Definitions only.
use Rattle.std.specs.Prelude.{List, [], ◌∷◌, take, get_or, ℤ, Float}
use Rattle.std.specs.Float.{nan}
use Rattle.bars.specs.declared.Bar.{Bar}
use Rattle.bars.specs.declared.NewBar.{NewBar}

-- a merged bar: the fields of a bar, and its elements, oldest first. An element is named by its raw bar's time, since raw times rise strictly.
pub record Merged : Type 0 where
  pub bar : Bar
  pub elements : List ℤ

-- the merged bar that a NewBar of the code stands for
unfoldable pub merged_of : NewBar → Merged
merged_of k = record { bar = k.bar; elements = take k.count k.elements }

-- a raw bar as a merged bar of its own
unfoldable pub own : Bar → Merged
own b = record { bar = b; elements = b.time ∷ [] }

-- the bar of this time and id that has this row of prices
abbrev pub bar_with : ℤ → ℤ → List Float → Bar
bar_with t i p =
    record {
      time = t;
      id = i;
      «open» = get_or p 0 nan;
      close = get_or p 1 nan;
      high = get_or p 2 nan;
      low = get_or p 3 nan;
      vol = get_or p 4 nan;
      amount = get_or p 5 nan;
    }

-- a bar's row of prices
unfoldable pub row_of : Bar → List Float
row_of b = b.«open» ∷ b.close ∷ b.high ∷ b.low ∷ b.vol ∷ b.amount ∷ []
