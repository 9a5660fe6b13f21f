-- What a call answers that lists the zones of a run.
-- Assumes nothing.
use Prim.Native.Nat.{ℕ, zero, suc, ◌+◌, ◌-◌, ◌≤◌, ◌<◌}
use native.Mathlib.Omega.{arith}
use mathlib.Core.Path.{◌≡◌, refl, ap, sym, ◌∙◌, subst}
use mathlib.Core.Bool.{Bool, true, false, ◌&&◌}
use mathlib.Core.List.{List, [], ◌∷◌, foldl}
use lib.ListN.{length, get_or, length-map}
use lib.Seq.{drop-cons}
use lib.Dec.{leb}
use Rattle.strokes.specs.declared.Stand.{Stand}
use Rattle.strokes.specs.Lent.{Stores}
use Rattle.bars.specs.declared.refusals.Question.{Question}
use Rattle.bars.specs.Refusals.{number}
use Rattle.named.specs.ReportQuestions.{question14}
use Rattle.zones.specs.declared.Summary.{Summary}
use Rattle.zones.specs.declared.lent_zone.Building.{Building}
use Rattle.zones.specs.Zones.{zones, zone_of, get_zs_seq}
use Rattle.zones.specs.Code.StrokesRead.{read_run}
use Rattle.zones.specs.NamedRuns.{run_failed, named_run}
use Rattle.zones.specs.ZoneRows.{ZoneColumns, put_zones, StrokeColumns, put_strokes}
use Rattle.zones.specs.Code.ZoneSteps.{RoomZones, no_zone, states_of, zone_count, FewZones, RoomBuilt, set_zone}
use Rattle.zones.specs.ListedZones.{zones_fit, strokes_fit, ZonesCall, zones_call, zones_if, zones_after, listed_zones}
use Rattle.zones.proofs.ZoneStates.{states_few, states_length}
use Rattle.zones.proofs.ZoneWalks.{zones_done, states_inside, room-inside, zones-written}
use Rattle.zones.proofs.NamedRunLaws.{number_some, named-is, three_fit}

-- whatever stands for what lies past the end, inside a list it is the same
pub get_d_any : {A : Type 0} (l : List A) (j : ℕ) (x y : A) → j < length l → get_or l j x ≡ get_or l j y
get_d_any l j x y h = ap (λ r. get_or r 0 x) (sym (drop-cons l j x h) ∙ drop-cons l j y h)

pub zones-listed : (s : Stand) (m : Stores) (lb : length s.bars ≡ 65) (lf : length s.fractals ≡ 65) (first count n : ℕ) (d : ZoneColumns) (e : StrokeColumns) (r : ZonesCall)
    → n ≡ run_failed s m first count
    → n ≡ 0
    → r ≡ zones_if (zones_fit d (get_zs_seq (read_run s m.fractals first count))) (strokes_fit e (read_run s m.fractals first count)) d e (read_run s m.fractals first count)
    → r ≡ listed_zones s m first count d e
unfolding listed_zones zones_after
zones-listed s m lb lf first count n d e r f z q =
    q
    ∙ ap (λ (l : List Summary). zones_if (zones_fit d (get_zs_seq l)) (strokes_fit e l) d e l) (named-is s m lb lf first count n f z)
    ∙ ap (λ (x : ℕ). zones_after x d e (named_run s m first count)) (sym z ∙ f)

zones_refusal : (n : ℕ) (d : ZoneColumns) (e : StrokeColumns) (l : List Summary) → (n ≡ 0 → ⊥) → zones_call n 0 0 d e ≡ zones_after n d e l
unfolding zones_after
zones_refusal zero d e l h = absurd (h refl)
zones_refusal (suc n) d e l h = refl

pub zones-refused : (s : Stand) (m : Stores) (first count : ℕ) (q : Question) (d : ZoneColumns) (e : StrokeColumns) → number q ≡ run_failed s m first count → zones_call (number q) 0 0 d e ≡ listed_zones s m first count d e
unfolding listed_zones
zones-refused s m first count q d e f = zones_refusal (number q) d e (named_run s m first count) (number_some q) ∙ ap (λ (x : ℕ). zones_after x d e (named_run s m first count)) f

counted : (l : List Summary) (built : List Building) (count : ℕ) → length l ≡ count → ((j : ℕ) → j < count → get_or built j no_zone ≡ get_or (states_of no_zone l) j no_zone) → zone_count built count ≡ length (zones l)
unfolding zone_count zones
counted [] built zero e k = refl
counted (a ∷ l) built zero e k = let w : ⊥ = omega arith in absurd w
counted l built (suc n) e k = ap (λ (b : Building). b.done + 1) (k n (omega arith)) ∙ zones_done l n no_zone e

-- ---- the states of a run l

module _ (l : List Summary) (built : List Building) (short : length l ≤ 64) (is_built : built ≡ states_of no_zone l) where
  built_length : length built ≡ length l
  built_length = ap length is_built ∙ states_length l no_zone

  state-at : (j : ℕ) → get_or built j no_zone ≡ get_or (states_of no_zone l) j no_zone
  state-at j = ap (λ (y : List Building). get_or y j no_zone) is_built

  state-few : (j : ℕ) → j < length built → (get_or built j no_zone).done ≤ 64
  unfolding no_zone
  state-few j h = let n = built_length in subst (λ (b : Building). b.done ≤ 64) (sym (state-at j)) (let k = states_few l no_zone j no_zone (omega arith) in omega arith)

  pub few-zones : FewZones built (length built)
  few-zones = let n = built_length in record { short = omega arith; small = state-few }

  pub zones-counted : (n : ℕ) → n ≡ zone_count built (length built) → n ≡ length (zones l)
  zones-counted n e = e ∙ counted l built (length built) (sym built_length) (λ j h. state-at j)

  pub room_built : (d : ZoneColumns) → RoomZones d (length (zones l)) → RoomBuilt built (length built) d
  room_built d room =
      let n = built_length in
      record {
        short = omega arith;
        each = λ j h. room-inside d (length (zones l)) (get_or built j no_zone).done room (subst (λ (b : Building). b.done < length (zones l)) (sym (state-at j)) (states_inside l j no_zone (omega arith)));
      }

  pub columns-written : (d w : ZoneColumns) → RoomZones d (length (zones l)) → w ≡ foldl set_zone d built → w ≡ put_zones d (get_zs_seq l)
  columns-written d w room e = e ∙ ap (foldl set_zone d) is_built ∙ zones-written l d room

-- ---- how many zones there are

counted-at : (bs : List Building) (n : ℕ) → 0 < n → (get_or bs (n - 1) no_zone).done + 1 ≡ zone_count bs n
unfolding zone_count
counted-at bs zero h = let w : ⊥ = omega arith in absurd w
counted-at bs (suc n) h = let q : suc n - 1 ≡ n = omega arith in ap (λ (k : ℕ). (get_or bs k no_zone).done + 1) q

pub none-counted : (bs : List Building) → length bs ≤ 0 → 0 ≡ zone_count bs (length bs)
unfolding zone_count
none-counted [] h = refl
none-counted (b ∷ bs) h = let w : ⊥ = omega arith in absurd w

pub last-counted : (bs : List Building) (b : Building) → 0 < length bs → b ≡ get_or bs (length bs - 1) no_zone → b.done + 1 ≡ zone_count bs (length bs)
last-counted bs b h e = ap (λ (x : Building). x.done + 1) e ∙ counted-at bs (length bs) h

-- ---- question 14

zones-length : (l : List Summary) → length (zones l) ≡ length (get_zs_seq l)
unfolding get_zs_seq
zones-length l = sym (length-map (zones l) zone_of)

module _ (l : List Summary) (n : ℕ) (d : ZoneColumns) (e : StrokeColumns) (a b : Bool) (en : n ≡ length (zones l)) (ea : a ≡ (leb n (length d.times) && (leb n (length d.prices) && leb n (length d.numbers)))) where
  zones_fit_lem : a ≡ zones_fit d (get_zs_seq l)
  unfolding zones_fit question14
  zones_fit_lem = ea ∙ ap (λ (x : ℕ). leb x (length d.times) && (leb x (length d.prices) && leb x (length d.numbers))) (en ∙ zones-length l)

  pub zones_full : a ≡ false → zones_call 14 0 0 d e ≡ zones_if (zones_fit d (get_zs_seq l)) (strokes_fit e l) d e l
  unfolding zones_if
  zones_full t = ap (λ (x : Bool). zones_if x (strokes_fit e l) d e l) (sym t ∙ zones_fit_lem)

  pub zones-room : a ≡ true → RoomZones d (length (zones l))
  zones-room t =
      let k = three_fit n (length d.times) (length d.prices) (length d.numbers) (sym ea ∙ t) in
      subst (RoomZones d) en (record { times = k.0; prices = k.1; numbers = k.2 })

  module _ (eb : b ≡ (leb (length l) (length e.times) && (leb (length l) (length e.prices) && leb (length l) (length e.codes)))) where
    strokes_fit_lem : b ≡ strokes_fit e l
    unfolding strokes_fit question14
    strokes_fit_lem = eb

    pub strokes_full : a ≡ true → b ≡ false → zones_call 14 0 0 d e ≡ zones_if (zones_fit d (get_zs_seq l)) (strokes_fit e l) d e l
    unfolding zones_if
    strokes_full t u = λ i. zones_if ((sym t ∙ zones_fit_lem) i) ((sym u ∙ strokes_fit_lem) i) d e l

    pub zones_put : (w : ZoneColumns) (v : StrokeColumns) → a ≡ true → b ≡ true → w ≡ put_zones d (get_zs_seq l) → v ≡ put_strokes e l → zones_call 0 n (length l) w v ≡ zones_if (zones_fit d (get_zs_seq l)) (strokes_fit e l) d e l
    unfolding zones_if
    zones_put w v t u ew ev =
        (λ i. zones_call 0 ((en ∙ zones-length l) i) (length l) (ew i) (ev i)) ∙ (λ i. zones_if ((sym t ∙ zones_fit_lem) i) ((sym u ∙ strokes_fit_lem) i) d e l)
