-- Zones that are built and written stroke by stroke are those of get_zs_seq.
-- Assumes nothing.
use Prim.Native.Nat.{ℕ, zero, suc, ◌+◌, ◌≤◌, ◌<◌}
use native.Mathlib.Omega.{arith}
use native.Mathlib.Numerals.{add-one}
use mathlib.Core.Path.{◌≡◌, refl, ap, sym, ◌∙◌, subst}
use mathlib.Core.Bool.{Bool, true, false}
use mathlib.Core.List.{List, [], ◌∷◌, ◌++◌, map, map-append, foldl}
use lib.ListN.{length, take, drop, get_or, set, length-append, length-map, length-drop}
use lib.Seq.{drop-cons, drop-drop, take-suc, take_all, length-take-le, set-set}
use borrow.Author.Tests.{ne_eqb}
use Rattle.strokes.specs.FractalRows.{pasted}
use Rattle.zones.specs.declared.Summary.{Summary}
use Rattle.zones.specs.declared.zone_building.GrowingZone.{GrowingZone}
use Rattle.zones.specs.declared.lent_zone.Building.{Building}
use Rattle.zones.specs.Zones.{Zone, opens, placed, grow, zones, zone_of, get_zs_seq}
use Rattle.zones.specs.Code.GrowingZone.{joined_of, grown, opens_of, zz_of, valid_of, zone_from}
use Rattle.zones.specs.FakeRows.{direction_code}
use Rattle.zones.specs.ZoneRows.{flag, zone_times, zone_prices, zone_numbers, ZoneColumns, zone_columns, put_zones, stroke_times, stroke_prices, stroke_code, StrokeColumns, stroke_columns, put_strokes}
use Rattle.zones.specs.declared.lent_rows.RowsMut.{RowsMut}
use Rattle.zones.specs.Columns.{strokes_of, RoomRows}
use Rattle.zones.specs.Code.ZoneSteps.{RoomZones, no_zone, next_if, next_of, states_of, set_zone}
use Rattle.zones.proofs.ZoneFolds.{zone-grown, opens-grown, joined-grown}
use Rattle.zones.proofs.Items.{put_none, put_more}

-- ---- the walk

-- the zone under construction, of a run whose zones are Z, where `rest` is still to come
record Walking (Z : List (List Summary)) (rest : List Summary) (b : Building) : Type 0 where
  pub head : Summary
  pub tail : List Summary
  pub zone : b.zone ≡ grown head tail
  pub size : b.size ≡ length (head ∷ tail)
  pub left : drop b.done Z ≡ grow (head ∷ tail) rest

walk_first : (a : Summary) (bs : List Summary) → Walking (zones (a ∷ bs)) bs (next_of no_zone a)
unfolding zones next_of next_if no_zone grown
walk_first a bs = record { head = a; tail = []; zone = refl; size = refl; left = refl }

walk_if : (t : Bool) (Z : List (List Summary)) (s : Summary) (bs : List Summary) (b : Building) (head : Summary) (tail : List Summary)
    → b.zone ≡ grown head tail
    → b.size ≡ length (head ∷ tail)
    → drop b.done Z ≡ placed t (head ∷ tail) s (λ z. grow z bs)
    → Walking Z bs (next_if false t b s)
unfolding placed next_if grown
walk_if true Z s bs b head tail z n l =
    record { head = s; tail = []; zone = refl; size = refl; left = sym (drop-drop 1 b.done Z) ∙ ap (drop 1) l }
walk_if false Z s bs b head tail z n l =
    record {
      head = head;
      tail = tail ++ s ∷ [];
      zone = ap (λ (w : GrowingZone). joined_of w s) z ∙ joined-grown head tail s;
      size = omega (arith, length-append tail (s ∷ []));
      left = l;
    }

-- where a zone is there, the next step is by whether the stroke opens another
module _ (Z : List (List Summary)) (s : Summary) (bs : List Summary) (b : Building) (w : Walking Z (s ∷ bs) b) where
  steps : next_of b s ≡ next_if false (opens_of b.zone s) b s
  unfolding next_of
  steps = let n = w.size in ap (λ (e : Bool). next_if e (opens_of b.zone s) b s) (ne_eqb b.size 0 (λ z. omega arith))

  here : drop b.done Z ≡ placed (opens_of b.zone s) (w.head ∷ w.tail) s (λ z. grow z bs)
  unfolding grow
  here =
      let e : opens_of b.zone s ≡ opens (w.head ∷ w.tail) s = ap (λ (x : GrowingZone). opens_of x s) w.zone ∙ opens-grown w.head w.tail s in
      w.left ∙ ap (λ (t : Bool). placed t (w.head ∷ w.tail) s (λ z. grow z bs)) (sym e)

  walk_turn : Walking Z bs (next_of b s)
  walk_turn = subst (Walking Z bs) (sym steps) (walk_if (opens_of b.zone s) Z s bs b w.head w.tail w.zone w.size here)

placed-some : (t : Bool) (z : List Summary) (s : Summary) (g : List Summary → List (List Summary)) → ((y : List Summary) → 1 ≤ length (g y)) → 1 ≤ length (placed t z s g)
unfolding placed
placed-some true z s g h = omega arith
placed-some false z s g h = h (z ++ s ∷ [])

grow-some : (bs : List Summary) (z : List Summary) → 1 ≤ length (grow z bs)
unfolding grow
grow-some [] z = omega arith
grow-some (b ∷ bs) z = placed-some (opens z b) z b (λ y. grow y bs) (grow-some bs)

walk_inside : (Z : List (List Summary)) (rest : List Summary) (b : Building) → Walking Z rest b → b.done < length Z
walk_inside Z rest b w = omega (arith, length-drop b.done Z, ap length w.left, grow-some rest (w.head ∷ w.tail))

last-left : (Z : List (List Summary)) (b : Building) (w : Walking Z [] b) → drop b.done Z ≡ (w.head ∷ w.tail) ∷ []
unfolding grow
last-left Z b w = w.left

walk_ends : (Z : List (List Summary)) (b : Building) → Walking Z [] b → b.done + 1 ≡ length Z
walk_ends Z b w = omega (arith, length-drop b.done Z, ap length (last-left Z b w), walk_inside Z [] b w)

-- ---- how many zones are done

last_done : (Z : List (List Summary)) (rest : List Summary) (b x : Building) → Walking Z rest b → (get_or (b ∷ states_of b rest) (length rest) x).done + 1 ≡ length Z
unfolding states_of
last_done Z [] b x w = walk_ends Z b w
last_done Z (s ∷ bs) b x w = last_done Z bs (next_of b s) x (walk_turn Z s bs b w)

-- after the last stroke all but the last zone are done
pub zones_done : (l : List Summary) (n : ℕ) (x : Building) → length l ≡ suc n → (get_or (states_of no_zone l) n x).done + 1 ≡ length (zones l)
unfolding states_of
zones_done [] n x e = let w : ⊥ = omega arith in absurd w
zones_done (a ∷ bs) n x e =
    let q : n ≡ length bs = omega arith in
    ap (λ (k : ℕ). (get_or (states_of no_zone (a ∷ bs)) k x).done + 1) q ∙ last_done (zones (a ∷ bs)) bs (next_of no_zone a) x (walk_first a bs)

each-inside : (Z : List (List Summary)) (rest : List Summary) (b x : Building) (i : ℕ) → Walking Z rest b → i ≤ length rest → (get_or (b ∷ states_of b rest) i x).done < length Z
unfolding states_of
each-inside Z rest b x zero w h = walk_inside Z rest b w
each-inside Z [] b x (suc i) w h = let v : ⊥ = omega arith in absurd v
each-inside Z (s ∷ bs) b x (suc i) w h = each-inside Z bs (next_of b s) x i (walk_turn Z s bs b w) (omega arith)

pub states_inside : (l : List Summary) (i : ℕ) (x : Building) → i < length l → (get_or (states_of no_zone l) i x).done < length (zones l)
unfolding states_of
states_inside [] i x h = let w : ⊥ = omega arith in absurd w
states_inside (a ∷ bs) i x h = each-inside (zones (a ∷ bs)) bs (next_of no_zone a) x i (walk_first a bs) (omega arith)

-- ---- writing

-- a row that is written again
set-again : (w : ZoneColumns) (b : Building) (z : GrowingZone) (n : ℕ) → set_zone (set_zone w b) (record { zone = z; size = n; done = b.done }) ≡ set_zone w (record { zone = z; size = n; done = b.done })
unfolding set_zone
set-again w b z n =
    λ i.
    zone_columns (set-set w.times b.done (b.zone.first.began ∷ b.zone.last.ended ∷ []) (z.first.began ∷ z.last.ended ∷ []) i)
    (set-set w.prices b.done (b.zone.zg ∷ b.zone.zd ∷ zz_of b.zone ∷ b.zone.gg ∷ b.zone.dd ∷ []) (z.zg ∷ z.zd ∷ zz_of z ∷ z.gg ∷ z.dd ∷ []) i)
    (set-set w.numbers b.done (direction_code b.zone.first.direction ∷ direction_code b.zone.last.direction ∷ flag (valid_of b.zone) ∷ b.size ∷ [])
    (direction_code z.first.direction ∷ direction_code z.last.direction ∷ flag (valid_of z) ∷ n ∷ []) i)

module _ (Z : List (List Summary)) where
  -- the columns d after the first k zones
  abbrev Zoned : ZoneColumns → ZoneColumns → ℕ → Type 0
  Zoned d w k = w ≡ put_zones d (map zone_of (take k Z))

  row-set : {B : Type 0} (row : Zone → B) (d l : List B) (k : ℕ) (v : B) (x : List Summary) (ys : List (List Summary)) → l ≡ pasted d 0 (map row (map zone_of (take k Z)))
      → k < length d
      → drop k Z ≡ x ∷ ys
      → v ≡ row (zone_of x)
      → set l k v ≡ pasted d 0 (map row (map zone_of (take (k + 1) Z)))
  row-set row d l k v x ys e h q p =
      let r = map row (map zone_of (take k Z)) in
      let lt : k < length Z = omega (arith, length-drop k Z, ap length q) in
      let n : length r ≡ k = length-map (map zone_of (take k Z)) row ∙ length-map (take k Z) zone_of ∙ length-take-le k Z (omega arith) in
      let here : get_or Z k x ≡ x = ap (λ (y : List (List Summary)). get_or y 0 x) (sym (drop-cons Z k x lt) ∙ q) in
      let more : take (k + 1) Z ≡ take k Z ++ x ∷ [] = ap (λ (y : ℕ). take y Z) (add-one k) ∙ take-suc Z k x lt ∙ ap (λ (y : List Summary). take k Z ++ y ∷ []) here in
      ap (λ y. set y k v) e
      ∙ ap (λ (y : ℕ). set (pasted d 0 r) y v) (sym n)
      ∙ put_more d r v (omega arith)
      ∙ ap (λ y. pasted d 0 (r ++ y ∷ [])) p
      ∙ ap (pasted d 0) (sym (ap (λ (y : List (List Summary)). map row (map zone_of y)) more ∙ ap (map row) (map-append zone_of (take k Z) (x ∷ [])) ∙ map-append row (map zone_of (take k Z)) (zone_of x ∷ [])))

  zone-is : (b : Building) (a : Summary) (l : List Summary) → b.zone ≡ grown a l → zone_from b.zone (a ∷ l) ≡ zone_of (a ∷ l)
  zone-is b a l e = ap (λ (w : GrowingZone). zone_from w (a ∷ l)) e ∙ zone-grown a l

  zoned-set : (d w : ZoneColumns) (b : Building) (a : Summary) (l : List Summary) (ys : List (List Summary)) → RoomZones d (length Z)
      → b.zone ≡ grown a l
      → b.size ≡ length (a ∷ l)
      → drop b.done Z ≡ (a ∷ l) ∷ ys
      → Zoned d w b.done
      → Zoned d (set_zone w b) (b.done + 1)
  unfolding set_zone put_zones zone_from zone_times zone_prices zone_numbers
  zoned-set d w b a l ys room ez es ed g =
      let k = b.done in
      let r1 = room.times in
      let r2 = room.prices in
      let r3 = room.numbers in
      let lt : k < length Z = omega (arith, length-drop k Z, ap length ed) in
      let e = zone-is b a l ez in
      let z = b.zone in
      λ i.
      zone_columns (row-set zone_times d.times w.times k (z.first.began ∷ z.last.ended ∷ []) (a ∷ l) ys (ap (λ (x : ZoneColumns). x.times) g) (omega arith) ed (ap zone_times e) i)
      (row-set zone_prices d.prices w.prices k (z.zg ∷ z.zd ∷ zz_of z ∷ z.gg ∷ z.dd ∷ []) (a ∷ l) ys (ap (λ (x : ZoneColumns). x.prices) g) (omega arith) ed (ap zone_prices e) i)
      (row-set zone_numbers d.numbers w.numbers k (direction_code z.first.direction ∷ direction_code z.last.direction ∷ flag (valid_of z) ∷ b.size ∷ []) (a ∷ l) ys (ap (λ (x : ZoneColumns). x.numbers) g) (omega arith) ed
      (ap (λ (x : ℕ). direction_code z.first.direction ∷ direction_code z.last.direction ∷ flag (valid_of z) ∷ x ∷ []) es ∙ ap zone_numbers e) i)

  module _ (d : ZoneColumns) (room : RoomZones d (length Z)) where
    -- the stroke s opens the next zone, or it joins, and then the row is written again
    written_if : (t : Bool) (s : Summary) (bs : List Summary) (b : Building) (w : ZoneColumns) (a : Summary) (l : List Summary) → b.zone ≡ grown a l
        → b.size ≡ length (a ∷ l)
        → drop b.done Z ≡ placed t (a ∷ l) s (λ z. grow z bs)
        → Zoned d w b.done
        → ((b' : Building) (w' : ZoneColumns) → Walking Z bs b' → Zoned d w' b'.done → foldl set_zone (set_zone w' b') (states_of b' bs) ≡ put_zones d (map zone_of Z))
        → foldl set_zone (set_zone (set_zone w b) (next_if false t b s)) (states_of (next_if false t b s) bs) ≡ put_zones d (map zone_of Z)
    unfolding placed next_if
    written_if true s bs b w a l ez es ed g k = k (next_if false true b s) (set_zone w b) (walk_if true Z s bs b a l ez es ed) (zoned-set d w b a l (grow (s ∷ []) bs) room ez es ed g)
    written_if false s bs b w a l ez es ed g k =
        ap (λ (y : ZoneColumns). foldl set_zone y (states_of (next_if false false b s) bs)) (set-again w b (joined_of b.zone s) (b.size + 1)) ∙ k (next_if false false b s) w (walk_if false Z s bs b a l ez es ed) g

    written : (rest : List Summary) (b : Building) (w : ZoneColumns) → Walking Z rest b → Zoned d w b.done → foldl set_zone (set_zone w b) (states_of b rest) ≡ put_zones d (map zone_of Z)
    unfolding states_of
    written [] b w v g =
        let z = zoned-set d w b v.head v.tail [] room v.zone v.size (last-left Z b v) g in
        let n = walk_ends Z b v in
        z ∙ ap (λ (y : List (List Summary)). put_zones d (map zone_of y)) (take_all (b.done + 1) Z (omega arith))
    written (s ∷ bs) b w v g =
        ap (λ (b' : Building). foldl set_zone (set_zone (set_zone w b) b') (states_of b' bs)) (steps Z s bs b v)
        ∙ written_if (opens_of b.zone s) s bs b w v.head v.tail v.zone v.size (here Z s bs b v) g (λ b' w'. written bs b' w')

none_written : (d : ZoneColumns) → d ≡ put_zones d []
unfolding put_zones
none_written d = λ i. zone_columns (put_none d.times i) (put_none d.prices i) (put_none d.numbers i)

first-written : (Z : List (List Summary)) (d : ZoneColumns) (a : Summary) → Zoned Z d d (next_of no_zone a).done
unfolding next_of next_if no_zone
first-written Z d a = none_written d

-- written after each stroke, the rows are those of get_zs_seq
pub zones-written : (l : List Summary) (d : ZoneColumns) → RoomZones d (length (zones l)) → foldl set_zone d (states_of no_zone l) ≡ put_zones d (get_zs_seq l)
unfolding states_of get_zs_seq zones
zones-written [] d room = none_written d
zones-written (a ∷ bs) d room = written (zones (a ∷ bs)) d room bs (next_of no_zone a) d (walk_first a bs) (first-written (zones (a ∷ bs)) d a)

-- the columns that have room for all zones have it for each state's
pub room-inside : (d : ZoneColumns) (n k : ℕ) → RoomZones d n → k < n → RoomZones d (k + 1)
room-inside d n k r h = let a = r.times in let b = r.prices in let c = r.numbers in record { times = omega arith; prices = omega arith; numbers = omega arith }

-- ---- the strokes of the run

-- the columns d after the first j strokes of the list l
pub listed-none : (d : StrokeColumns) → d ≡ put_strokes d []
unfolding put_strokes
listed-none d = λ i. stroke_columns (put_none d.times i) (put_none d.prices i) (put_none d.codes i)

stroke-row : {B : Type 0} (row : Summary → B) (l : List Summary) (d c : List B) (j : ℕ) (x : Summary) → c ≡ pasted d 0 (map row (take j l)) → j < length d → j < length l
    → set c j (row (get_or l j x)) ≡ pasted d 0 (map row (take (j + 1) l))
stroke-row row l d c j x e h k =
    let r = map row (take j l) in
    let n : length r ≡ j = length-map (take j l) row ∙ length-take-le j l (omega arith) in
    ap (λ y. set y j (row (get_or l j x))) e
    ∙ ap (λ (y : ℕ). set (pasted d 0 r) y (row (get_or l j x))) (sym n)
    ∙ put_more d r (row (get_or l j x)) (omega arith)
    ∙ ap (pasted d 0) (sym (ap (λ (y : ℕ). map row (take y l)) (add-one j) ∙ ap (map row) (take-suc l j x k) ∙ map-append row (take j l) (get_or l j x ∷ [])))

pub listed-turn : (l : List Summary) (j : ℕ) (d w w' : RowsMut 2 ℕ) (x : Summary) → RoomRows d (length l) → j < length l → strokes_of w ≡ put_strokes (strokes_of d) (take j l)
    → w'.times.now ≡ set w.times.now j (stroke_times (get_or l j x))
    → w'.prices.now ≡ set w.prices.now j (stroke_prices (get_or l j x))
    → w'.kinds.now ≡ set w.kinds.now j (stroke_code (get_or l j x))
    → strokes_of w' ≡ put_strokes (strokes_of d) (take (j + 1) l)
unfolding put_strokes
listed-turn l j d w w' x room h c t q u =
    let g1 = room.times in
    let g2 = room.prices in
    let g3 = room.kinds in
    λ i.
    stroke_columns ((t ∙ stroke-row stroke_times l d.times.now w.times.now j x (ap (λ (y : StrokeColumns). y.times) c) (omega arith) h) i)
    ((q ∙ stroke-row stroke_prices l d.prices.now w.prices.now j x (ap (λ (y : StrokeColumns). y.prices) c) (omega arith) h) i)
    ((u ∙ stroke-row stroke_code l d.kinds.now w.kinds.now j x (ap (λ (y : StrokeColumns). y.codes) c) (omega arith) h) i)
