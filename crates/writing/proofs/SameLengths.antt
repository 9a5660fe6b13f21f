-- Two stands of the same settings: the stores that each records have the same lengths, column by column.
use mathlib.Core.Bool.{Bool}
use mathlib.Core.Path.{◌≡◌, ap, sym, ◌∙◌}
use lib.ListN.{length}
use lib.Dec.{T}
use Rattle.bars.specs.declared.Bar.{Bar}
use Rattle.machine.specs.Stand.{Settings}
use Rattle.strokes.specs.declared.Stand.{Stand}
use Rattle.strokes.specs.StateRead.{settings_of, sized}
use Rattle.strokes.specs.Lent.{Stores}
use Rattle.writing.specs.declared.Wrote.{Wrote}
use Rattle.writing.specs.Code.Written.{CanWrite, IsWritten}
use Rattle.asking.specs.declared.plan.Plan.{Plan}
use Rattle.sound.proofs.NewestLaws.{lengths}

pub record SameLengths (m k : Stores) : Type 0 where
  pub rt : length k.raw.times ≡ length m.raw.times
  pub ri : length k.raw.ids ≡ length m.raw.ids
  pub rp : length k.raw.prices ≡ length m.raw.prices
  pub ut : length k.unfinished.times ≡ length m.unfinished.times
  pub ui : length k.unfinished.ids ≡ length m.unfinished.ids
  pub up : length k.unfinished.prices ≡ length m.unfinished.prices
  pub uc : length k.unfinished.counts ≡ length m.unfinished.counts
  pub ue : length k.unfinished.elements ≡ length m.unfinished.elements
  pub st : length k.strokes.times ≡ length m.strokes.times
  pub si : length k.strokes.ids ≡ length m.strokes.ids
  pub sp : length k.strokes.prices ≡ length m.strokes.prices
  pub sc : length k.strokes.counts ≡ length m.strokes.counts
  pub se : length k.strokes.elements ≡ length m.strokes.elements
  pub fs : length k.fractals.stamps ≡ length m.fractals.stamps
  pub fp : length k.fractals.prices ≡ length m.fractals.prices

pub lengths_of : (s t : Stand) (m k : Stores) → T (sized s m) → T (sized t k) → settings_of t ≡ settings_of s → SameLengths m k
unfolding settings_of
lengths_of s t m k h g e =
    let a = lengths s m h in
    let b = lengths t k g in
    let x : t.rooms.raw ≡ s.rooms.raw = ap (λ (c : Settings). c.raw_room) e in
    let y : t.rooms.unfinished ≡ s.rooms.unfinished = ap (λ (c : Settings). c.unfinished_room) e in
    let z : t.rooms.strokes ≡ s.rooms.strokes = ap (λ (c : Settings). c.stroke_room) e in
    record {
      rt = b.raw.times ∙ x ∙ sym a.raw.times;
      ri = b.raw.ids ∙ x ∙ sym a.raw.ids;
      rp = b.raw.prices ∙ x ∙ sym a.raw.prices;
      ut = b.unfinished.raw.times ∙ y ∙ sym a.unfinished.raw.times;
      ui = b.unfinished.raw.ids ∙ y ∙ sym a.unfinished.raw.ids;
      up = b.unfinished.raw.prices ∙ y ∙ sym a.unfinished.raw.prices;
      uc = b.unfinished.counts ∙ y ∙ sym a.unfinished.counts;
      ue = b.unfinished.elements ∙ y ∙ sym a.unfinished.elements;
      st = b.strokes.raw.times ∙ z ∙ sym a.strokes.raw.times;
      si = b.strokes.raw.ids ∙ z ∙ sym a.strokes.raw.ids;
      sp = b.strokes.raw.prices ∙ z ∙ sym a.strokes.raw.prices;
      sc = b.strokes.counts ∙ z ∙ sym a.strokes.counts;
      se = b.strokes.elements ∙ z ∙ sym a.strokes.elements;
      fs = b.fractals.0 ∙ z ∙ sym a.fractals.0;
      fp = b.fractals.1 ∙ z ∙ sym a.fractals.1;
    }

-- what is written leaves every column its length
pub written_lengths : {s : Stand} {m m' : Stores} {b : Bar} {later : Bool} {p : Plan} {r : Wrote} → CanWrite s m b later p → IsWritten s m b r m' → SameLengths m m'
written_lengths {s = s} {m = m} {m' = m'} {r = r} h w = lengths_of s r.stand m m' h.sound.sizes w.sizes w.settings
