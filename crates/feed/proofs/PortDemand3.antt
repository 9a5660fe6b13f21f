-- Demand 3 of the port: the claims of specs/PortClaims, from those of the plain machine. Assumes nothing.
use Prim.Native.Nat.{◌+◌}
use mathlib.Core.Path.{◌≡◌, refl, ap, sym, ◌∙◌, subst}
use mathlib.Core.List.{List, [], map}
use mathlib.Core.Option.{none}
use lib.ListN.{length, length-map}
use lib.Dec.{T}
use Rattle.bars.specs.declared.Bar.{Bar}
use Rattle.bars.specs.Lists.{All, join}
use Rattle.machine.specs.Stand.{Settings, State}
use Rattle.machine.specs.Feed.{Events}
use Rattle.machine.specs.Calls.{calls, each_later}
use Rattle.machine.specs.KeptStrokes.{MeetAll}
use Rattle.machine.specs.Reached.{Later}
use Rattle.machine.proofs.ByPlace.{search_by_time}
use Rattle.machine.proofs.ReachedSound.{reached_by_time}
use Rattle.strokes.specs.StateRead.{settings_of, bare_stroke, bare_state}
use Rattle.sound.proofs.FreshLaws.{fresh-places}
use Rattle.zones.specs.Zones.{Zone, summary, get_zs_seq}
use Rattle.zones.specs.Claims.{kept, Inside}
use Rattle.feed.specs.PortCalls.{accepted_of, FreshCalls, refused_with}
use Rattle.feed.specs.StrokesLeft.{Left}
use Rattle.feed.specs.PortClaims.{kept_of, machine_strokes, bare_events, PortDemand3}
use Rattle.zones.proofs.Demand3.{demand3}
use Rattle.feed.proofs.PortStays.{settings_stay}
use Rattle.feed.proofs.PortMachine.{settings, machine, events, unheard, like}
use Rattle.feed.proofs.PortReached.{reached_asks, reached_later, reached_shallow}
use Rattle.feed.proofs.PortRaw.{newest, none-accepted, none-held, named}
use Rattle.feed.proofs.StrokesLeftKept.{left-kept, left-counted, left-map, only-left}
use Rattle.feed.proofs.PortAnswers.{zones-answered, zones-told, fakes-answered, fakes-told}
use Rattle.feed.proofs.BareClaims.{summaries_bare, all-inside_bare, meet-all_bare}

-- ---- the kept strokes are those of a list of the machine's calls

like_strokes : (r : FreshCalls) → map bare_stroke (kept (settings r) (like r).bars) ≡ kept_of r
unfolding kept kept_of bare_state
like_strokes r = ap (λ (s : State). s.strokes) (sym (like r).state)

like_later : (r : FreshCalls) → T (each_later none (accepted_of r.calls)) → Later (settings r) (like r).bars
like_later r l = subst (λ (z : List Bar). T (each_later none z)) (like r).taken l

-- ---- the claims

places : (r : FreshCalls) → refused_with r ≡ 0 → (r.stand.power_places ≡ r.power) × (r.stand.ratio_places ≡ r.ratio)
unfolding settings_of
places r z =
    let e = settings_stay r.calls in
    let f = fresh-places r.minimum r.most r.power r.ratio r.lent z in
    (ap (λ (c : Settings). c.power_places) e ∙ f.0, ap (λ (c : Settings). c.ratio_places) e ∙ f.1)

sums : (r : FreshCalls) → r.sums.made ≡ length (kept_of r) + r.sums.broken + r.sums.shed
sums r =
    let k = like r in
    let l = kept (settings r) k.bars in
    let n : length l ≡ length (kept_of r) = sym (length-map l bare_stroke) ∙ ap length (like_strokes r) in
    let e : (calls (settings r) k.bars).events ≡ r.sums = sym k.sums in
    ap (λ (z : Events). z.made) k.sums
    ∙ demand3.sums (settings r) k.bars
    ∙ (λ i. n i + (e i).broken + (e i).shed)

left : (r : FreshCalls) → refused_with r ≡ 0 → Left [] (map bare_events (machine_strokes r)) (kept_of r)
unfolding kept_of bare_state bare_events
left r h = subst (Left [] (map bare_events (machine_strokes r))) (ap (λ (s : State). s.strokes) (sym (machine r h))) (left-map bare_stroke (left-kept (settings r) r.bars))

zoned : (r : FreshCalls) → join (map (λ (z : Zone). z.strokes) (get_zs_seq (map summary (kept_of r)))) ≡ map summary (kept_of r)
zoned r =
    let k = like r in
    let l = kept (settings r) k.bars in
    let e : map summary l ≡ map summary (kept_of r) = sym (summaries_bare l) ∙ ap (map summary) (like_strokes r) in
    subst (λ z. join (map (λ (y : Zone). y.strokes) (get_zs_seq z)) ≡ z) e (demand3.zoned (settings r) k.bars)

inside : (r : FreshCalls) → All Inside (kept_of r)
inside r =
    let k = like r in
    subst (All Inside) (like_strokes r) (all-inside_bare (kept (settings r) k.bars) (demand3.inside (settings r) k.bars))

meet : (r : FreshCalls) → T (each_later none (accepted_of r.calls)) → MeetAll (kept_of r)
meet r h =
    let k = like r in
    subst MeetAll (like_strokes r) (meet-all_bare (kept (settings r) k.bars) (demand3.meet (settings r) k.bars (like_later r h)))

pub port_demand3 : PortDemand3
port_demand3 =
    record {
      machine = machine;
      events = events;
      sound_but_lem = reached_asks;
      sound-later = reached_later;
      sound-shallow = reached_shallow;
      newest = newest;
      none-accepted = none-accepted;
      none-held = none-held;
      named = named;
      by_time = search_by_time;
      by_time_reached = reached_by_time;
      idle = λ r h. ((unheard r h).stand, (unheard r h).stores, (unheard r h).events);
      places = places;
      sums = sums;
      left = left;
      left-only = λ r h l g. only-left g (left r h) refl;
      left-counted = λ r h. events r h ∙ left-counted (settings r) r.bars;
      zoned = zoned;
      inside = inside;
      meet = meet;
      zones-answered = zones-answered;
      zones-told = zones-told;
      fakes-answered = fakes-answered;
      fakes-told = λ r. fakes-told r (inside r);
    }
