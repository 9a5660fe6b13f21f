-- The same columns, from call to call. Assumes nothing.
use mathlib.Core.Path.{refl, ◌∙◌}
use Rattle.stores.specs.declared.lent_columns.RawColumnsMut.{RawColumnsMut}
use Rattle.stores.specs.declared.lent_columns.MergedColumnsMut.{MergedColumnsMut}
use Rattle.stores.specs.Columns.{SameRaw, SameMerged}
use Rattle.strokes.specs.declared.lent_columns.FractalColumnsMut.{FractalColumnsMut}
use Rattle.strokes.specs.Columns.{SameFractals, SameColumns}

raw_same : (a : RawColumnsMut) → SameRaw a a
raw_same a = record { times = refl; ids = refl; prices = refl; times_room = refl; ids_room = refl; prices_room = refl }

merged_same : (a : MergedColumnsMut) → SameMerged a a
merged_same a =
    record { times = refl; ids = refl; prices = refl; counts = refl; elements = refl; times_room = refl; ids_room = refl; prices_room = refl; counts_room = refl; elements_room = refl }

fractals_same : (a : FractalColumnsMut) → SameFractals a a
fractals_same a = record { stamps = refl; prices = refl; stamps_room = refl; prices_room = refl }

pub same_columns : (r : RawColumnsMut) (u k : MergedColumnsMut) (f : FractalColumnsMut) → SameColumns r u k f r u k f
same_columns r u k f = record { raw = raw_same r; unfinished = merged_same u; strokes = merged_same k; fractals = fractals_same f }

raw_on : {a b c : RawColumnsMut} → SameRaw a b → SameRaw b c → SameRaw a c
raw_on x y =
    record { times = y.times ∙ x.times; ids = y.ids ∙ x.ids; prices = y.prices ∙ x.prices; times_room = y.times_room ∙ x.times_room; ids_room = y.ids_room ∙ x.ids_room; prices_room = y.prices_room ∙ x.prices_room }

merged_on : {a b c : MergedColumnsMut} → SameMerged a b → SameMerged b c → SameMerged a c
merged_on x y =
    record {
      times = y.times ∙ x.times;
      ids = y.ids ∙ x.ids;
      prices = y.prices ∙ x.prices;
      counts = y.counts ∙ x.counts;
      elements = y.elements ∙ x.elements;
      times_room = y.times_room ∙ x.times_room;
      ids_room = y.ids_room ∙ x.ids_room;
      prices_room = y.prices_room ∙ x.prices_room;
      counts_room = y.counts_room ∙ x.counts_room;
      elements_room = y.elements_room ∙ x.elements_room;
    }

fractals_on : {a b c : FractalColumnsMut} → SameFractals a b → SameFractals b c → SameFractals a c
fractals_on x y = record { stamps = y.stamps ∙ x.stamps; prices = y.prices ∙ x.prices; stamps_room = y.stamps_room ∙ x.stamps_room; prices_room = y.prices_room ∙ x.prices_room }

pub same_on : {r r' r'' : RawColumnsMut} {u u' u'' k k' k'' : MergedColumnsMut} {f f' f'' : FractalColumnsMut} → SameColumns r u k f r' u' k' f' → SameColumns r' u' k' f' r'' u'' k'' f''
    → SameColumns r u k f r'' u'' k'' f''
same_on x y = record { raw = raw_on x.raw y.raw; unfinished = merged_on x.unfinished y.unfinished; strokes = merged_on x.strokes y.strokes; fractals = fractals_on x.fractals y.fractals }
