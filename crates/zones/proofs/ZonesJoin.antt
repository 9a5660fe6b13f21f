-- The zones' strokes, joined zone after zone, are the strokes.
-- Assumes nothing.
use mathlib.Core.Path.{◌≡◌, refl, ap, ◌∙◌}
use mathlib.Core.Bool.{Bool, true, false}
use mathlib.Core.List.{List, [], ◌∷◌, ◌++◌, map}
use lib.Seq.{append_snoc}
use Rattle.bars.specs.Lists.{join}
use Rattle.zones.specs.declared.Summary.{Summary}
use Rattle.zones.specs.Zones.{opens, placed, grow, zones, zone_of, zone_with, get_zs_seq}

placed-join : (t : Bool) (z : List Summary) (b : Summary) (bs : List Summary) (rest : List Summary → List (List Summary))
    → ((z' : List Summary) → join (rest z') ≡ z' ++ bs) → join (placed t z b rest) ≡ z ++ b ∷ bs
unfolding placed join
placed-join true z b bs rest h = ap (z ++◌) (h (b ∷ []))
placed-join false z b bs rest h = rw (h, append_snoc)

grow-join : (z bs : List Summary) → join (grow z bs) ≡ z ++ bs
unfolding grow join
grow-join z [] = refl
grow-join z (b ∷ bs) = placed-join (opens z b) z b bs (λ z'. grow z' bs) (λ z'. grow-join z' bs)

zones-join : (bs : List Summary) → join (zones bs) ≡ bs
unfolding zones join
zones-join [] = refl
zones-join (b ∷ bs) = grow-join (b ∷ []) bs

-- ---- as they are answered

zone-strokes : (z : List Summary) → (zone_of z).strokes ≡ z
unfolding zone_of zone_with
zone-strokes [] = refl
zone-strokes (b ∷ z) = refl

zones-strokes : (l : List (List Summary)) → map (λ z. z.strokes) (map zone_of l) ≡ l
zones-strokes [] = refl
zones-strokes (z ∷ l) = λ i. zone-strokes z i ∷ zones-strokes l i

pub zones-joined : (bs : List Summary) → join (map (λ z. z.strokes) (get_zs_seq bs)) ≡ bs
unfolding get_zs_seq
zones-joined bs = ap join (zones-strokes (zones bs)) ∙ zones-join bs
