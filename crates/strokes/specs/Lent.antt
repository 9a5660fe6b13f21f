-- The stores that a caller lends, as one value, and in a contract the fifteen lent columns as they are held when a call begins (in a requires), as they were before
-- it and as they are after it (in an ensures). Definitions only.
use Rattle.std.specs.Prelude.{ℕ, List, ℤ, Float}
use Rattle.std.specs.Borrow.{Bor, MutBor}
use Rattle.stores.specs.Stores.{RawStore, MergedStore}
use Rattle.stores.specs.Lent.{Lent, Seen, raw_held, merged_held, raw_lent, merged_lent}

-- ---- the stores

-- A store of fractals: the times and then the ids of a fractal's three bars, and their rows of prices, one behind the other. Elements of a fractal's bars are
-- no part of any answer (document 01, Merging), and are not stored.
pub record FractalStore : Type 0 where
  pub stamps : List (List ℤ)
  pub prices : List (List Float)

abbrev pub fractal_store : List (List ℤ) → List (List Float) → FractalStore
fractal_store ts ps = record { stamps = ts; prices = ps }

-- the three lent stores; the stroke store has merged bars and fractals
pub record Stores : Type 0 where
  pub raw : RawStore
  pub unfinished : MergedStore
  pub strokes : MergedStore
  pub fractals : FractalStore

-- the lent columns, in the order in which the functions take them
unfoldable pub stores_of : RawStore → MergedStore → MergedStore → FractalStore → Stores
stores_of r u b f = record { raw = r; unfinished = u; strokes = b; fractals = f }

-- ---- the fractals' columns in a contract

abbrev pub fractals_held : MutBor (List (List ℤ)) → MutBor (List (List Float)) → FractalStore
fractals_held s p = fractal_store s.now p.now

abbrev pub fractals_before : Lent (List ℤ) → Lent (List Float) → FractalStore
fractals_before s p = fractals_held s.entry p.entry

abbrev pub fractals_after : Lent (List ℤ) → Lent (List Float) → FractalStore
fractals_after s p = fractals_held s.exit p.exit

abbrev pub fractals_lent : Bor (List (List ℤ)) → Bor (List (List Float)) → FractalStore
fractals_lent s p = fractal_store s.now p.now

abbrev pub fractals_seen : Seen (List ℤ) → Seen (List Float) → FractalStore
fractals_seen s p = fractals_lent s.entry p.entry

-- ---- all columns in a contract

abbrev pub held : MutBor (List ℤ) → MutBor (List ℤ) → MutBor (List (List Float)) → MutBor (List ℤ) → MutBor (List ℤ) → MutBor (List (List Float)) → MutBor (List ℕ) → MutBor (List (List ℤ)) → MutBor (List ℤ) → MutBor (List ℤ) → MutBor (List (List Float)) → MutBor (List ℕ) → MutBor (List (List ℤ)) → MutBor (List (List ℤ)) → MutBor (List (List Float)) → Stores
held rt ri rp ut ui up uc ue st si sp sc se fs fp = stores_of (raw_held rt ri rp) (merged_held ut ui up uc ue) (merged_held st si sp sc se) (fractals_held fs fp)

abbrev pub before : Lent ℤ → Lent ℤ → Lent (List Float) → Lent ℤ → Lent ℤ → Lent (List Float) → Lent ℕ → Lent (List ℤ) → Lent ℤ → Lent ℤ → Lent (List Float) → Lent ℕ → Lent (List ℤ) → Lent (List ℤ) → Lent (List Float) → Stores
before rt ri rp ut ui up uc ue st si sp sc se fs fp =
    held rt.entry ri.entry rp.entry ut.entry ui.entry up.entry uc.entry ue.entry st.entry si.entry sp.entry sc.entry se.entry fs.entry fp.entry

abbrev pub after : Lent ℤ → Lent ℤ → Lent (List Float) → Lent ℤ → Lent ℤ → Lent (List Float) → Lent ℕ → Lent (List ℤ) → Lent ℤ → Lent ℤ → Lent (List Float) → Lent ℕ → Lent (List ℤ) → Lent (List ℤ) → Lent (List Float) → Stores
after rt ri rp ut ui up uc ue st si sp sc se fs fp =
    held rt.exit ri.exit rp.exit ut.exit ui.exit up.exit uc.exit ue.exit st.exit si.exit sp.exit sc.exit se.exit fs.exit fp.exit

abbrev pub stores_lent : Bor (List ℤ) → Bor (List ℤ) → Bor (List (List Float)) → Bor (List ℤ) → Bor (List ℤ) → Bor (List (List Float)) → Bor (List ℕ) → Bor (List (List ℤ)) → Bor (List ℤ) → Bor (List ℤ) → Bor (List (List Float)) → Bor (List ℕ) → Bor (List (List ℤ)) → Bor (List (List ℤ)) → Bor (List (List Float)) → Stores
stores_lent rt ri rp ut ui up uc ue st si sp sc se fs fp = stores_of (raw_lent rt ri rp) (merged_lent ut ui up uc ue) (merged_lent st si sp sc se) (fractals_lent fs fp)

abbrev pub stores_seen : Seen ℤ → Seen ℤ → Seen (List Float) → Seen ℤ → Seen ℤ → Seen (List Float) → Seen ℕ → Seen (List ℤ) → Seen ℤ → Seen ℤ → Seen (List Float) → Seen ℕ → Seen (List ℤ) → Seen (List ℤ) → Seen (List Float) → Stores
stores_seen rt ri rp ut ui up uc ue st si sp sc se fs fp =
    stores_lent rt.entry ri.entry rp.entry ut.entry ui.entry up.entry uc.entry ue.entry st.entry si.entry sp.entry sc.entry se.entry fs.entry fp.entry
