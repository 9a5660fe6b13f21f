-- A stand and stores that a list of feed calls from a fresh analyzer leaves. Definitions only.
use Rattle.std.specs.Prelude.{ℕ, ◌≡◌, List}
use Rattle.bars.specs.declared.Bar.{Bar}
use Rattle.machine.specs.Feed.{Events}
use Rattle.strokes.specs.declared.Stand.{Stand}
use Rattle.strokes.specs.Lent.{Stores}
use Rattle.sound.specs.FreshStand.{fresh_of}
use Rattle.feed.specs.PortCalls.{PortCalls, FreshCalls}

-- `fresh`, not refused, for the stores that were then lent, and feed calls, refused ones among them, that left the stand s and the stores m. No call at all leaves the fresh stand itself
pub record FromFresh (s : Stand) (m : Stores) : Type 0 where
  pub minimum : ℕ
  pub most : ℕ
  pub power : ℕ
  pub ratio : ℕ
  pub lent : Stores
  pub bars : List Bar
  pub sums : Events
  pub answered : (fresh_of minimum most power ratio lent).refused ≡ 0
  pub calls : PortCalls (fresh_of minimum most power ratio lent).stand lent bars sums s m

-- the list of feed calls: the claims of PortClaims are claims on it
abbrev pub fresh_calls : {s : Stand} {m : Stores} → FromFresh s m → FreshCalls
fresh_calls {s = s} {m = m} x = record { minimum = x.minimum; most = x.most; power = x.power; ratio = x.ratio; lent = x.lent; bars = x.bars; sums = x.sums; stand = s; stores = m; calls = x.calls }
