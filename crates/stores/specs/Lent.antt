-- The lent columns of a store in a contract, as one value. Of columns lent by `&mut`: as they are held when a call begins (in a requires), as they were before it and
-- as they are after it (in an ensures). Of columns lent by `&`: as they are lent (in a requires) and as they are seen (in an ensures). Definitions only.
use Rattle.std.specs.Prelude.{ℕ, List, ℤ, Float}
use Rattle.std.specs.Borrow.{Bor, MutBor}
use denote.Triple.Both.{Both}
use Rattle.stores.specs.Stores.{RawStore, MergedStore, raw_store, merged_store}

-- a column lent by `&mut`, in an ensures: its cells before the call and after it
abbrev pub Lent : Type 0 → Type 0
Lent A = Both (MutBor (List A)) (MutBor (List A))

-- a column lent by `&`, in an ensures
abbrev pub Seen : Type 0 → Type 0
Seen A = Both (Bor (List A)) (Bor (List A))

-- ---- a store of raw bars

abbrev pub raw_held : MutBor (List ℤ) → MutBor (List ℤ) → MutBor (List (List Float)) → RawStore
raw_held t i p = raw_store t.now i.now p.now

abbrev pub raw_before : Lent ℤ → Lent ℤ → Lent (List Float) → RawStore
raw_before t i p = raw_held t.entry i.entry p.entry

abbrev pub raw_after : Lent ℤ → Lent ℤ → Lent (List Float) → RawStore
raw_after t i p = raw_held t.exit i.exit p.exit

abbrev pub raw_lent : Bor (List ℤ) → Bor (List ℤ) → Bor (List (List Float)) → RawStore
raw_lent t i p = raw_store t.now i.now p.now

abbrev pub raw_seen : Seen ℤ → Seen ℤ → Seen (List Float) → RawStore
raw_seen t i p = raw_lent t.entry i.entry p.entry

-- ---- a store of merged bars

abbrev pub merged_held : MutBor (List ℤ) → MutBor (List ℤ) → MutBor (List (List Float)) → MutBor (List ℕ) → MutBor (List (List ℤ)) → MergedStore
merged_held t i p c e = merged_store t.now i.now p.now c.now e.now

abbrev pub merged_lent : Bor (List ℤ) → Bor (List ℤ) → Bor (List (List Float)) → Bor (List ℕ) → Bor (List (List ℤ)) → MergedStore
merged_lent t i p c e = merged_store t.now i.now p.now c.now e.now
