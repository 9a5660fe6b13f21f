-- A stand packed in lent rows of numbers, as it is kept between two calls. Definitions only.
use Rattle.std.specs.Prelude.{ℕ, List, [], ◌∷◌, Bool, ◌&&◌, leb, length, get_or, set}
use Rattle.strokes.specs.declared.Stand.{Stand}

-- the stand of these ten numbers and of these numbers of bars and of fractals
unfoldable pub stand_of : List ℕ → List ℕ → List ℕ → Stand
stand_of n b f =
    record {
      minimum = get_or n 0 0;
      most = get_or n 1 0;
      rooms = record { raw = get_or n 2 0; unfinished = get_or n 3 0; strokes = get_or n 4 0 };
      raw = get_or n 5 0;
      unfinished = get_or n 6 0;
      strokes = get_or n 7 0;
      bars = b;
      fractals = f;
      power_places = get_or n 8 0;
      ratio_places = get_or n 9 0;
    }

-- the stand that is packed in the first row of ns and the first two rows of cs
unfoldable pub packed : List (List ℕ) → List (List ℕ) → Stand
unfolding stand_of
packed ns cs = stand_of (get_or ns 0 []) (get_or cs 0 []) (get_or cs 1 [])

-- a stand's ten numbers
unfoldable pub numbers_of : Stand → List ℕ
numbers_of s =
    s.minimum ∷ s.most ∷ s.rooms.raw ∷ s.rooms.unfinished ∷ s.rooms.strokes ∷ s.raw ∷ s.unfinished ∷ s.strokes
    ∷ s.power_places ∷ s.ratio_places ∷ []

-- the rows with this stand packed in them; every other row stays
unfoldable pub numbers_with : Stand → List (List ℕ) → List (List ℕ)
unfolding numbers_of
numbers_with s ns = set ns 0 (numbers_of s)

unfoldable pub counts_with : Stand → List (List ℕ) → List (List ℕ)
counts_with s cs = set (set cs 0 s.bars) 1 s.fractals

-- are the rows that hold a stand there?
unfoldable pub rows_there : List (List ℕ) → List (List ℕ) → Bool
rows_there ns cs = leb 1 (length ns) && leb 2 (length cs)
