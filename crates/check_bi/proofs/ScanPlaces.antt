-- The search in one pass is check_bi and the first stroke's cut, whatever the times.
-- Assumes nothing.
use Prim.Native.Nat.{ℕ, suc, ◌+◌, ◌-◌, ◌≤◌, ◌<◌}
use native.Mathlib.Omega.{arith}
use mathlib.Core.Path.{◌≡◌, refl, ap, sym, ◌∙◌, subst}
use mathlib.Core.Bool.{Bool, true, false, not, ◌&&◌, cond}
use mathlib.Core.List.{List, [], ◌∷◌, ◌++◌, map, append_assoc, append-nil}
use mathlib.Core.Option.{Option, none, some}
use lib.ListN.{length, drop, length-drop, length-map, length-append}
use lib.Seq.{length-take-le}
use lib.Signed.{lt_z}
use lib.Dec.{T, leb, le→leb}
use lib.Ieee.{Float}
use Rattle.std.specs.declared.option.Option as code
use Rattle.std.specs.Prelude.{Some, None, IfSome, ⊤}
use Rattle.bars.specs.Bars.{Merged}
use Rattle.bars.specs.Lists.{All, keep_if, fold_left}
use Rattle.machine.specs.declared.Mark.{Mark}
use Rattle.machine.specs.declared.Mark.TheVariants.{D, G}
use Rattle.check_bi.specs.declared.check_fx.Fx.{Fx}
use Rattle.check_bi.specs.declared.scan.Best.{Best}
use Rattle.check_bi.specs.declared.scan.Scan.{Scan}
use Rattle.check_bi.specs.declared.scan.FoundBi.{FoundBi}
use Rattle.machine.specs.Fractals.{Fractal, Placed, time_of, fx_of, same_mark, beyond, is_top, is_bottom, check_fx, taken, placed_if, placed_by, placed_after, placed_fxs, check_fxs}
use Rattle.machine.specs.Strokes.{Found, candidate, best_if, best, end_of, start_best, holds, fits_min, stroke_at, made_at, found_to, found_in, check_bi, cut_to, cut}
use Rattle.check_bi.specs.Code.Scan.{candle_of, fx_at, fx_placed, value_in, value_of, top_of, bottom_of, candidate_of, cut_with, closes_if, closes_of, upto_if, grown, best_if_new, best_with, put_of, opened_of, take_if, take_of, step_if, step_of, scan_from, scan_of, count_of, cut_place, holds_of, bars_to, found_if, found_by, found_of, found_on}
use Rattle.machine.proofs.Lists.{keep_yes, keep_no, All-map, All_keep}
use Rattle.machine.proofs.Places.{fractal, placed_are, Ascend, placed_ascend, ascend_weaken, Holds, end-all}
use Rattle.machine.proofs.FewerFractals.{nothing_found, candidate_at, MadeFrom, not_itself}

-- ---- the scan is a fold over the placed fractals

abbrev pub put : Scan → Placed → Scan
put s q = put_of s (fx_placed q)

-- the scan once q and then qs were taken
abbrev pub after : Placed → List Placed → Scan
after q qs = fold_left put (opened_of (fx_placed q)) qs

unfoldable pub seen_from : code.Option Scan → List Placed → code.Option Scan
unfolding fold_left
seen_from None [] = None
seen_from None (q ∷ qs) = Some (after q qs)
seen_from (Some s) qs = Some (fold_left put s qs)

abbrev pub seen_of : List Placed → code.Option Scan
seen_of qs = seen_from None qs

-- the mark of the last fractal that was taken
abbrev mark_of : code.Option Scan → Option Mark
mark_of None = none
mark_of (Some s) = some s.last

-- how a scan goes on: k is the scan of the later windows, rest their fractals
abbrev GoesOn : (code.Option Scan → code.Option Scan) → (Option Mark → List Placed) → Type 0
GoesOn k rest = (s : code.Option Scan) → k s ≡ seen_from s (rest (mark_of s))

fold_if : (x : Bool) (s : Scan) (i : ℕ) (f : Fractal) (k : code.Option Scan → code.Option Scan) (rest : Option Mark → List Placed) → GoesOn k rest
    → k (Some (take_if x s (fx_placed (record { place = i; fractal = f })))) ≡ seen_from (Some s) (placed_if (not x) i f (some s.last) rest)
unfolding take_if placed_if seen_from fold_left put_of fx_placed fx_at
fold_if true s i f k rest g = g (Some s)
fold_if false s i f k rest g = g (Some (put s (record { place = i; fractal = f })))

fold_take : (s : code.Option Scan) (i : ℕ) (f : Fractal) (k : code.Option Scan → code.Option Scan) (rest : Option Mark → List Placed) → GoesOn k rest
    → k (take_of s (fx_placed (record { place = i; fractal = f }))) ≡ seen_from s (placed_if (taken (mark_of s) f.mark) i f (mark_of s) rest)
unfolding take_of taken placed_if seen_from opened_of fx_placed fx_at
fold_take None i f k rest g = g (Some (opened_of (fx_placed (record { place = i; fractal = f }))))
fold_take (Some s) i f k rest g = fold_if (same_mark s.last f.mark) s i f k rest g

abbrev window : Mark → Merged → Merged → Merged → Fractal
window m a b c = record { mark = m; left = a; mid = b; right = c }

fold_by : (t u : Bool) (s : code.Option Scan) (i : ℕ) (a b c : Merged) (k : code.Option Scan → code.Option Scan) (rest : Option Mark → List Placed) → GoesOn k rest
    → k (step_if t u s i (candle_of b)) ≡ seen_from s (placed_by (mark_of s) i (cond t (some (window G a b c)) (cond u (some (window D a b c)) none)) rest)
unfolding step_if placed_by fx_placed
fold_by true u s i a b c k rest g = fold_take s i (window G a b c) k rest g
fold_by false true s i a b c k rest g = fold_take s i (window D a b c) k rest g
fold_by false false s i a b c k rest g = g s

none_more : (s : code.Option Scan) → s ≡ seen_from s []
unfolding seen_from fold_left
none_more None = refl
none_more (Some s) = refl

scan_on : (i : ℕ) (s : code.Option Scan) (l : List Merged) → scan_from i s (map candle_of l) ≡ seen_from s (placed_after (mark_of s) i l)
unfolding scan_from placed_after step_of top_of bottom_of is_top is_bottom check_fx candle_of
scan_on i s [] = none_more s
scan_on i s (a ∷ []) = none_more s
scan_on i s (a ∷ b ∷ []) = none_more s
scan_on i s (a ∷ b ∷ c ∷ l) =
    let e : i + 1 ≡ suc i = omega arith in
    fold_by (is_top a.bar b.bar c.bar) (is_bottom a.bar b.bar c.bar) s i a b c
    (λ z. scan_from (i + 1) z (map candle_of (b ∷ c ∷ l))) (λ q. placed_after q (suc i) (b ∷ c ∷ l))
    (λ z. scan_on (i + 1) z (b ∷ c ∷ l) ∙ ap (λ (j : ℕ). seen_from z (placed_after (mark_of z) j (b ∷ c ∷ l))) e)

pub scan_is : (l : List Merged) → scan_of (map candle_of l) ≡ seen_of (placed_fxs l)
unfolding scan_of placed_fxs
scan_is l = scan_on 0 None l

-- ---- the tests are the machine's

value_in_lem : (m : Mark) (h l : Float) → value_in m h l ≡ elim m [ D ↦ l | G ↦ h ]
unfolding value_in
value_in_lem D h l = refl
value_in_lem G h l = refl

mark-is : (q : Placed) → (fx_placed q).mark ≡ q.fractal.mark
unfolding fx_placed fx_at
mark-is q = refl

pub value-is : (q : Placed) → value_of (fx_placed q) ≡ fx_of q.fractal
unfolding value_of fx_placed fx_of fx_at candle_of
value-is q = value_in_lem q.fractal.mark q.fractal.mid.bar.high q.fractal.mid.bar.low

beyond-is : (m : Mark) (p q : Placed) → beyond m (value_of (fx_placed p)) (value_of (fx_placed q)) ≡ beyond m (fx_of p.fractal) (fx_of q.fractal)
beyond-is m p q = λ i. beyond m (value-is p i) (value-is q i)

pub candidate-is : (s f : Placed) → candidate_of (fx_placed s) (fx_placed f) ≡ candidate_at s f
unfolding candidate_of candidate fx_placed fx_at time_of candle_of
candidate-is s f =
    ap (λ (b : Bool). not (same_mark s.fractal.mark f.fractal.mark) && (lt_z s.fractal.mid.bar.time f.fractal.mid.bar.time && b))
    (beyond-is f.fractal.mark f s)

best_if_read : {A B : Type 0} (g : A → B) (t : Bool) (f b : A) → best_if t (g f) (g b) ≡ g (best_if t f b)
unfolding best_if
best_if_read g true f b = refl
best_if_read g false f b = refl

cut-is : (a f : Placed)
    → cut_with (fx_placed a) (fx_placed f)
    ≡ fx_placed (best_if (same_mark a.fractal.mark f.fractal.mark && not (beyond a.fractal.mark (fx_of a.fractal) (fx_of f.fractal))) f a)
unfolding cut_with
cut-is a f =
    ap (λ (b : Bool). best_if (same_mark (fx_placed a).mark (fx_placed f).mark && not b) (fx_placed f) (fx_placed a)) (beyond-is (fx_placed a).mark a f)
    ∙ pick_is a f
  where
    pick_is : (a f : Placed)
        → best_if (same_mark (fx_placed a).mark (fx_placed f).mark && not (beyond (fx_placed a).mark (fx_of a.fractal) (fx_of f.fractal))) (fx_placed f) (fx_placed a)
        ≡ fx_placed (best_if (same_mark a.fractal.mark f.fractal.mark && not (beyond a.fractal.mark (fx_of a.fractal) (fx_of f.fractal))) f a)
    pick_is a f =
        (λ i. best_if (same_mark (mark-is a i) (mark-is f i) && not (beyond (mark-is a i) (fx_of a.fractal) (fx_of f.fractal))) (fx_placed f) (fx_placed a))
        ∙ best_if_read fx_placed (same_mark a.fractal.mark f.fractal.mark && not (beyond a.fractal.mark (fx_of a.fractal) (fx_of f.fractal))) f a

-- ---- the cut

pub cut_fold : (qs : List Placed) (s : Scan) (c : Placed) → s.cut ≡ fx_placed c → (fold_left put s qs).cut ≡ fx_placed (start_best fractal c qs)
unfolding fold_left start_best put_of
cut_fold [] s c h = h
cut_fold (q ∷ qs) s c h =
    let t = same_mark c.fractal.mark q.fractal.mark && not (beyond c.fractal.mark (fx_of c.fractal) (fx_of q.fractal)) in
    cut_fold qs (put s q) (best_if t q c) (ap (λ (z : Fx). cut_with z (fx_placed q)) h ∙ cut-is c q)

pub start_fold : (qs : List Placed) (s : Scan) → (fold_left put s qs).start ≡ s.start
unfolding fold_left put_of
start_fold [] s = refl
start_fold (q ∷ qs) s = start_fold qs (put s q)

pub count_fold : (qs : List Placed) (s : Scan) → (fold_left put s qs).count ≡ s.count + length qs
unfolding fold_left put_of
count_fold [] s = omega arith
count_fold (q ∷ qs) s = omega (arith, count_fold qs (put s q))

-- ---- the end

-- the end so far is that of p
abbrev pub EndIs : code.Option Best → Option Placed → Type 0
EndIs None none = ⊤
EndIs None (some p) = ⊥
EndIs (Some b) none = ⊥
EndIs (Some b) (some p) = b.end ≡ fx_placed p

-- a fractal after the end so far, by whether it is a candidate
unfoldable pub closing : Bool → Option Placed → Placed → Option Placed
unfolding best_if beyond fx_of
closing false o q = o
closing true none q = some q
closing true (some b) q = some (best_if (beyond q.fractal.mark (fx_of q.fractal) (fx_of b.fractal)) q b)

test_is : (b : Best) (p q : Placed) → b.end ≡ fx_placed p
    → beyond (fx_placed q).mark (value_of (fx_placed q)) (value_of b.end) ≡ beyond q.fractal.mark (fx_of q.fractal) (fx_of p.fractal)
test_is b p q h =
    (λ i. beyond (mark-is q i) (value_of (fx_placed q)) (value_of (h i))) ∙ beyond-is q.fractal.mark q p

ends-best : (t : Bool) (b : Best) (p q : Placed) (n : ℕ) → b.end ≡ fx_placed p → EndIs (best_if_new t (Some b) n (fx_placed q)) (some (best_if t q p))
unfolding best_if_new grown best_if
ends-best true b p q n h = refl
ends-best false b p q n h = h

ends_if : (c : Bool) (o : code.Option Best) (p : Option Placed) (q : Placed) (n : ℕ) → EndIs o p → EndIs (best_if_new (closes_if c o (fx_placed q)) o n (fx_placed q)) (closing c p q)
unfolding closes_if closing best_if_new grown
ends_if false None none q n h = tt
ends_if false None (some p) q n h = h
ends_if false (Some b) none q n h = h
ends_if false (Some b) (some p) q n h = h
ends_if true None none q n h = refl
ends_if true None (some p) q n h = absurd h
ends_if true (Some b) none q n h = absurd h
ends_if true (Some b) (some p) q n h =
    let t = beyond q.fractal.mark (fx_of q.fractal) (fx_of p.fractal) in
    subst (λ x. EndIs (best_if_new x (Some b) n (fx_placed q)) (some (best_if t q p))) (sym (test_is b p q h)) (ends-best t b p q n h)

ends_put : (s : Scan) (st : Placed) (p : Option Placed) (q : Placed) → s.start ≡ fx_placed st → EndIs s.best p → EndIs (put s q).best (closing (candidate_at st q) p q)
unfolding put_of best_with closes_of
ends_put s st p q e h =
    subst (λ x. EndIs (best_if_new (closes_if x s.best (fx_placed q)) s.best (s.count + 1) (fx_placed q)) (closing (candidate_at st q) p q))
    (sym (ap (λ (z : Fx). candidate_of z (fx_placed q)) e ∙ candidate-is st q)) (ends_if (candidate_at st q) s.best p q (s.count + 1) h)

unfoldable pub ends_with : Placed → Option Placed → List Placed → Option Placed
unfolding closing candidate
ends_with st o [] = o
ends_with st o (q ∷ qs) = ends_with st (closing (candidate_at st q) o q) qs

put_start : (s : Scan) (q : Placed) → (put s q).start ≡ s.start
unfolding put_of
put_start s q = refl

ends_fold : (st : Placed) (qs : List Placed) (s : Scan) (o : Option Placed) → s.start ≡ fx_placed st → EndIs s.best o → EndIs (fold_left put s qs).best (ends_with st o qs)
unfolding fold_left ends_with
ends_fold st [] s o e h = h
ends_fold st (q ∷ qs) s o e h = ends_fold st qs (put s q) (closing (candidate_at st q) o q) (put_start s q ∙ e) (ends_put s st o q e h)

-- one pass finds what keeping the candidates and then taking the best finds
best_pass : (c : Bool) (st b q : Placed) (qs K : List Placed) → ((z : Placed) → ends_with st (some z) qs ≡ some (best fractal z K))
    → ends_with st (closing c (some b) q) qs ≡ some (best fractal b (cond c (q ∷ K) K))
unfolding closing best
best_pass true st b q qs K h = h (best_if (beyond q.fractal.mark (fx_of q.fractal) (fx_of b.fractal)) q b)
best_pass false st b q qs K h = h b

ends-best_of : (st b : Placed) (qs : List Placed) → ends_with st (some b) qs ≡ some (best fractal b (keep_if (candidate_at st) qs))
unfolding ends_with keep_if best
ends-best_of st b [] = refl
ends-best_of st b (q ∷ qs) = best_pass (candidate_at st q) st b q qs (keep_if (candidate_at st) qs) (λ z. ends-best_of st z qs)

none_pass : (c : Bool) (st q : Placed) (qs K : List Placed) → ((z : Placed) → ends_with st (some z) qs ≡ some (best fractal z K)) → ends_with st none qs ≡ end_of fractal K
    → ends_with st (closing c none q) qs ≡ end_of fractal (cond c (q ∷ K) K)
unfolding closing end_of
none_pass true st q qs K h k = h q
none_pass false st q qs K h k = k

pub one_pass : (st : Placed) (qs : List Placed) → ends_with st none qs ≡ end_of fractal (keep_if (candidate_at st) qs)
unfolding ends_with keep_if end_of
one_pass st [] = refl
one_pass st (q ∷ qs) = none_pass (candidate_at st q) st q qs (keep_if (candidate_at st) qs) (λ z. ends-best_of st z qs) (one_pass st qs)

pub end_fold : (st : Placed) (qs : List Placed) (s : Scan) → s.start ≡ fx_placed st → s.best ≡ None → EndIs (fold_left put s qs).best (end_of fractal (keep_if (candidate_at st) qs))
end_fold st qs s e h = subst (EndIs (fold_left put s qs).best) (one_pass st qs) (ends_fold st qs s none e (subst (λ (o : code.Option Best). EndIs o none) (sym h) tt))

-- ---- the number of the stroke's fractals

-- how many of ps are centred on a bar of a stroke whose end is at place e
abbrev pub within : ℕ → List Placed → ℕ
within e ps = length (keep_if (λ x. leb x.place (e + 1)) ps)

within-one : (t : Bool) (q : Placed) (u : ℕ) → u + length (cond t (q ∷ []) []) ≡ upto_if t u
unfolding upto_if
within-one true q u = refl
within-one false q u = omega arith

keep_append_if : {A : Type 0} (t : Bool) (a : A) (k m : List A) → cond t (a ∷ (k ++ m)) (k ++ m) ≡ cond t (a ∷ k) k ++ m
keep_append_if true a k m = refl
keep_append_if false a k m = refl

pub keep_append : {A : Type 0} (p : A → Bool) (l r : List A) → keep_if p (l ++ r) ≡ keep_if p l ++ keep_if p r
unfolding keep_if
keep_append p [] r = refl
keep_append {A = A} p (a ∷ l) r =
    ap (λ (z : List A). cond (p a) (a ∷ z) z) (keep_append p l r) ∙ keep_append_if (p a) a (keep_if p l) (keep_if p r)

within_snoc : (e : ℕ) (ps : List Placed) (q : Placed) → within e (ps ++ q ∷ []) ≡ upto_if (leb q.place (e + 1)) (within e ps)
unfolding keep_if
within_snoc e ps q =
    let p : Placed → Bool = λ x. leb x.place (e + 1) in
    ap length (keep_append p ps (q ∷ [])) ∙ length-append (keep_if p ps) (cond (p q) (q ∷ []) []) ∙ within-one (p q) q (within e ps)

keep_all : {A : Type 0} (p : A → Bool) (l : List A) → All (λ x. T (p x)) l → keep_if p l ≡ l
unfolding keep_if
keep_all p [] h = refl
keep_all p (a ∷ l) h = keep_yes p a l h.0 ∙ ap (a ∷◌) (keep_all p l h.1)

within_all : (e : ℕ) (ps : List Placed) → All (λ x. x.place ≤ e) ps → within e ps ≡ length ps
within_all e ps a =
    let p : Placed → Bool = λ x. leb x.place (e + 1) in
    ap length (keep_all p ps (All-map ps (λ x h. le→leb x.place (e + 1) (omega (arith, h))) a))

pub place_is : (q : Placed) → (fx_placed q).place ≡ q.place
unfolding fx_placed fx_at
place_is q = refl

all_snoc : {A : Type 0} (P : A → Type 0) (l : List A) (a : A) → All P l → P a → All P (l ++ a ∷ [])
all_snoc P [] a h k = (k, tt)
all_snoc P (x ∷ l) a h k = (h.0, all_snoc P l a h.1 k)

-- the best candidate's number of fractals, where ps are the fractals taken so far
abbrev pub UptoIs : code.Option Best → List Placed → Type 0
UptoIs o ps = IfSome o (λ b. b.upto ≡ within b.end.place ps)

upto_new : (t : Bool) (o : code.Option Best) (n : ℕ) (ps : List Placed) (q : Placed) → n ≡ length ps → UptoIs o ps → All (λ x. x.place ≤ q.place) ps
    → UptoIs (best_if_new t o (n + 1) (fx_placed q)) (ps ++ q ∷ [])
unfolding best_if_new grown
upto_new true o n ps q h u a =
    let e : n + 1 ≡ length (ps ++ q ∷ []) = omega (arith, h, length-append ps (q ∷ [])) in
    e ∙ sym (within_all q.place (ps ++ q ∷ []) (all_snoc (λ x. x.place ≤ q.place) ps q a (omega arith)))
    ∙ ap (λ (i : ℕ). within i (ps ++ q ∷ [])) (sym (place_is q))
upto_new false None n ps q h u a = tt
upto_new false (Some b) n ps q h u a =
    ap (upto_if (leb (fx_placed q).place (b.end.place + 1))) u
    ∙ ap (λ (i : ℕ). upto_if (leb i (b.end.place + 1)) (within b.end.place ps)) (place_is q)
    ∙ sym (within_snoc b.end.place ps q)

-- ps are the fractals taken so far
record Upto (s : Scan) (ps : List Placed) : Type 0 where
  all : s.count ≡ length ps
  best : UptoIs s.best ps

upto_put : (s : Scan) (ps : List Placed) (q : Placed) → Upto s ps → All (λ x. x.place ≤ q.place) ps → Upto (put s q) (ps ++ q ∷ [])
unfolding put_of best_with
upto_put s ps q h a =
    record { all = omega (arith, h.all, length-append ps (q ∷ [])); best = upto_new (closes_of s (fx_placed q)) s.best s.count ps q h.all h.best a }

upto_fold : (lo n : ℕ) (qs : List Placed) (s : Scan) (ps : List Placed) → Upto s ps → All (λ x. x.place < lo) ps → Ascend lo n qs → Upto (fold_left put s qs) (ps ++ qs)
unfolding fold_left
upto_fold lo n [] s ps h a b = subst (Upto s) (sym (append-nil ps)) h
upto_fold lo n (q ∷ qs) s ps h a b =
    let c : All (λ (x : Placed). x.place ≤ q.place) ps = All-map ps (λ x k. omega (arith, b.0)) a in
    subst (Upto (fold_left put (put s q) qs)) (append_assoc ps (q ∷ []) qs)
    (upto_fold (suc q.place) n qs (put s q) (ps ++ q ∷ []) (upto_put s ps q h c)
    (all_snoc (λ x. x.place < suc q.place) ps q (All-map ps (λ x k. omega (arith, b.0)) a) (omega arith)) b.2)

-- ---- what the whole scan has seen

pub record Saw (q : Placed) (qs : List Placed) (n : ℕ) : Type 0 where
  pub count : (after q qs).count ≡ length (q ∷ qs)
  pub start : (after q qs).start ≡ fx_placed q
  pub cut : (after q qs).cut ≡ fx_placed (start_best fractal q qs)
  pub end : EndIs (after q qs).best (end_of fractal (keep_if (candidate_at q) qs))
  pub upto : UptoIs (after q qs).best (q ∷ qs)

pub saw : (q : Placed) (qs : List Placed) (n : ℕ) → Ascend 0 n (q ∷ qs) → Saw q qs n
unfolding opened_of
saw q qs n a =
    let s = opened_of (fx_placed q) in
    record {
      count = omega (arith, count_fold qs s);
      start = start_fold qs s;
      cut = cut_fold qs s q refl;
      end = end_fold q qs s refl refl;
      upto = (upto_fold (suc q.place) n qs s (q ∷ []) (record { all = refl; best = tt }) (omega arith, tt) a.2).best;
    }

-- ---- what it means

ascend_in : (i n : ℕ) (fs : List Placed) → Ascend (suc i) n fs → All (λ x. (i < x.place) × (x.place + 2 < n)) fs
ascend_in i n [] a = tt
ascend_in i n (f ∷ fs) a = ((a.0, a.1), ascend_in i n fs (ascend_weaken (suc f.place) (suc i) n fs (omega (arith, a.0)) a.2))

holds_are : (l : List Merged) (fs : List Placed) (s e : Placed)
    → holds_of (fx_placed s) (fx_placed e) ≡ holds (stroke_at l fs s e).start.mid.bar (stroke_at l fs s e).end.mid.bar
unfolding holds_of holds fx_placed fx_at candle_of stroke_at
holds_are l fs s e = refl

pub count_means : (l : List Merged) → count_of (scan_of (map candle_of l)) ≡ length (check_fxs l)
unfolding check_fxs placed_fxs count_of seen_from
count_means l = ap count_of (scan_is l) ∙ counted (placed_after none 0 l) (placed_ascend l none 0 l refl) ∙ ap length (placed_are none 0 l)
  where
    counted : (fs : List Placed) → Ascend 0 (length l) fs → count_of (seen_of fs) ≡ length (map fractal fs)
    counted [] a = refl
    counted (q ∷ qs) a = (saw q qs (length l) a).count ∙ sym (length-map (q ∷ qs) fractal)

cut-seen : (l : List Merged) (fs : List Placed) → Ascend 0 (length l) fs → cut_to l fs ≡ drop (cut_place (seen_of fs)) l
unfolding cut_to cut_place seen_from
cut-seen l [] a = refl
cut-seen l (q ∷ qs) a =
    ap (λ (i : ℕ). drop i l) (sym (place_is (start_best fractal q qs))) ∙ ap (λ (z : Fx). drop z.place l) (sym (saw q qs (length l) a).cut)

-- the first stroke's cut
pub cut_means : (l : List Merged) → cut l ≡ drop (cut_place (scan_of (map candle_of l))) l
unfolding cut placed_fxs
cut_means l = cut-seen l (placed_fxs l) (placed_ascend l none 0 l refl) ∙ ap (λ (s : code.Option Scan). drop (cut_place s) l) (sym (scan_is l))

-- a stroke that is made, by its places
pub record MadeAs (minimum : ℕ) (l : List Merged) (r : Found) (f : FoundBi) : Type 0 where
  pub from : MadeFrom minimum l r
  pub start : f.start ≡ fx_placed from.start
  pub end : f.end ≡ fx_placed from.end
  pub bars : f.bars ≡ length (stroke_at l (from.start ∷ from.others) from.start from.end).bars
  pub fractals : f.fractals ≡ length (stroke_at l (from.start ∷ from.others) from.start from.end).fractals

-- what was found, or that there is no stroke
abbrev pub Means : ℕ → List Merged → Found → code.Option FoundBi → Type 0
Means minimum l r None = r ≡ nothing_found l
Means minimum l r (Some f) = MadeAs minimum l r f

module _ (minimum : ℕ) (l : List Merged) (s : Placed) (fs : List Placed) (are : placed_fxs l ≡ s ∷ fs) (a : Ascend 0 (length l) (s ∷ fs)) where
  abbrev R : Scan
  R = after s fs

  W : Saw s fs (length l)
  W = saw s fs (length l) a

  end_lies : (e : Placed) → end_of fractal (keep_if (candidate_at s) fs) ≡ some e → (s.place < e.place) × (e.place + 2 < length l)
  end_lies e q =
      let P : Placed → Type 0 = λ x. (s.place < x.place) × (x.place + 2 < length l) in
      subst (Holds P) q (end-all P fractal (keep_if (candidate_at s) fs) (All_keep P (candidate_at s) fs (ascend_in s.place (length l) fs a.2)))

  bars_are : (e : Placed) (b : Best) → end_of fractal (keep_if (candidate_at s) fs) ≡ some e → b.end ≡ fx_placed e → bars_to R b.end ≡ length (stroke_at l (s ∷ fs) s e).bars
  unfolding bars_to stroke_at
  bars_are e b q h =
      let i = ap (λ (z : Fx). z.place) W.start ∙ place_is s in
      let j = ap (λ (z : Fx). z.place) h ∙ place_is e in
      let k = end_lies e q in
      let n : b.end.place + 3 - R.start.place ≡ e.place + 3 - s.place = omega (arith, i, j) in
      n ∙ sym (length-take-le (e.place + 3 - s.place) (drop s.place l) (omega (arith, length-drop s.place l, k.0, k.1)))

  fits_are : (e : Placed) (b : Best) → end_of fractal (keep_if (candidate_at s) fs) ≡ some e → b.end ≡ fx_placed e
      → (leb minimum (bars_to R b.end) && not (holds_of R.start b.end)) ≡ fits_min minimum (stroke_at l (s ∷ fs) s e)
  unfolding fits_min
  fits_are e b q h =
      (λ i. leb minimum (bars_are e b q h i) && not (holds_of (W.start i) (h i)))
      ∙ ap (λ (x : Bool). leb minimum (length (stroke_at l (s ∷ fs) s e).bars) && not x) (holds_are l (s ∷ fs) s e)

  fractals_are : (e : Placed) (b : Best) → b.upto ≡ within b.end.place (s ∷ fs) → b.end ≡ fx_placed e → b.upto ≡ length (stroke_at l (s ∷ fs) s e).fractals
  unfolding stroke_at
  fractals_are e b u h =
      u ∙ ap (λ (i : ℕ). within i (s ∷ fs)) (ap (λ (z : Fx). z.place) h ∙ place_is e)
      ∙ sym (length-map (keep_if (λ x. leb x.place (e.place + 1)) (s ∷ fs)) fractal)

  made_means : (t : Bool) (e : Placed) (b : Best) → end_of fractal (keep_if (candidate_at s) fs) ≡ some e → (T t → T (fits_min minimum (stroke_at l (s ∷ fs) s e))) → b.end ≡ fx_placed e
      → b.upto ≡ within b.end.place (s ∷ fs) → Means minimum l (made_at t l e (stroke_at l (s ∷ fs) s e)) (found_if t R b)
  unfolding made_at found_if
  made_means false e b q k h u = refl
  made_means true e b q k h u =
      record {
        from = record { start = s; end = e; others = fs; all = are; chosen = q; fits = k tt; found = refl };
        start = W.start;
        end = h;
        bars = bars_are e b q h;
        fractals = fractals_are e b u h;
      }

  end_means : (o : code.Option Best) (p : Option Placed) → end_of fractal (keep_if (candidate_at s) fs) ≡ p → EndIs o p → UptoIs o (s ∷ fs)
      → Means minimum l (found_to minimum l (s ∷ fs) s p) (found_by minimum R o)
  unfolding found_to found_by
  end_means None none q h u = refl
  end_means None (some e) q h u = absurd h
  end_means (Some b) none q h u = absurd h
  end_means (Some b) (some e) q h u =
      let x = stroke_at l (s ∷ fs) s e in
      subst (λ t. Means minimum l (made_at (fits_min minimum x) l e x) (found_if t R b)) (sym (fits_are e b q h)) (made_means (fits_min minimum x) e b q (λ t. t) h u)

found-seen : (minimum : ℕ) (l : List Merged) (fs : List Placed) → placed_fxs l ≡ fs → Ascend 0 (length l) fs → Means minimum l (found_in minimum l fs) (found_on minimum (seen_of fs))
unfolding found_in found_on found_of seen_from
found-seen minimum l [] q a = refl
found-seen minimum l (s ∷ fs) q a =
    let c = keep_no (candidate_at s) s fs (not_itself s.fractal) in
    let w = saw s fs (length l) a in
    end_means minimum l s fs q a (after s fs).best (end_of fractal (keep_if (candidate_at s) (s ∷ fs))) (ap (end_of fractal) (sym c))
    (subst (λ z. EndIs (after s fs).best (end_of fractal z)) (sym c) w.end) w.upto

-- check_bi
pub found_means : (minimum : ℕ) (l : List Merged) → Means minimum l (check_bi minimum l) (found_on minimum (scan_of (map candle_of l)))
unfolding check_bi placed_fxs
found_means minimum l =
    subst (λ z. Means minimum l (check_bi minimum l) (found_on minimum z)) (sym (scan_is l)) (found-seen minimum l (placed_fxs l) refl (placed_ascend l none 0 l refl))
