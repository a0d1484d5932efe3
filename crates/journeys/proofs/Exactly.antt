-- What a finished search has settled, in the words of the definitions.
use Rattle.std.proofs.Common.{ℕ, ◌<◌, ◌≤◌, List, inl, inr, arith}
use Rattle.timetable.specs.Table.{Table, at, stations, Lawful}
use Rattle.timetable.specs.Labels.{rank_connection, Leads, Gives, by_ride, by_stay, by_change, IsFirstRide, IsOrigin}
use Rattle.journeys.specs.Search.{Path, begin, go, Label, Leading, From, Origin, Entry, Done, Running, State, start, then}
use Rattle.journeys.specs.Theorems.{ways, SettledExactly, SearchBegins, SearchKeeps, SearchEnds, SearchFound}
use Rattle.journeys.proofs.Ways.{forward, onward, labels}
use Rattle.journeys.proofs.Finished.{exact}
use Rattle.journeys.proofs.Steps.{step, begins, ends}

module _ (t : Table) (l : Lawful t) (s : ℕ) where
  abbrev pub departs : ℕ → ℕ
  departs i = (at t (rank_connection t s i)).departure

  -- no path is before the first ride
  pub not_before : (i : ℕ) {q m : ℕ} → Path (ways t s) i q m → departs i ≤ m
  not_before i (begin f) = omega (arith, f.departure)
  not_before i (go {q} {m} {p} {n} h g) = omega (arith, not_before i h, onward t l q m p n g)

  -- and a station is reached after it
  after_it : (i : ℕ) {q m : ℕ} → q < stations t → Path (ways t s) i q m → departs i < m
  after_it i k (begin f) = absurd (omega (arith, f.place))
  after_it i k (go h (by_ride c r a b e)) = omega (arith, not_before i h, (l.each c r).ride_low)
  after_it i k (go h (by_stay c d f r a b e)) = absurd (omega arith)
  after_it i k (go h (by_change c d r a b e)) = absurd (omega arith)

  -- so nothing gives the first ride
  first_alone : (i p n q m : ℕ) → IsFirstRide t s i p n → Path (ways t s) i q m → Gives t q m p n → ⊥
  first_alone i p n q m f h (by_ride c r a b e) = omega (arith, f.place, (l.each c r).end_known)
  first_alone i p n q m f h (by_stay c d g r a b e) = omega (arith, f.departure, not_before i h, (l.each c (omega (arith, g.next, g.there))).ride_low)
  first_alone i p n q m f h (by_change c d r a b e) = omega (arith, f.departure, after_it i (omega (arith, (l.each c d).start_known)) h)

  leads_to : (i p n : ℕ) → Leading (Label (ways t s)) i p n → Leads t s i p n
  leads_to i p n h = record { label = (labels t l s i p n).0 h.is; in_front = λ j m k b. h.leads j m k ((labels t l s j p m).1 b) }

  leads_back : (i p n : ℕ) → Leads t s i p n → Leading (Label (ways t s)) i p n
  leads_back i p n h = record { is = (labels t l s i p n).1 h.label; leads = λ j m k b. h.in_front j m k ((labels t l s j p m).0 b) }

  origin_to : (i p n q : ℕ) → Origin (ways t s) (Label (ways t s)) i p n q → IsOrigin t s i p n q
  origin_to i p n q o = by_case o.from
    where
      by_case : From (ways t s) (Label (ways t s)) i p n q → IsOrigin t s i p n q
      by_case (inl f) = inl f
      by_case (inr (m, b, g)) = inr (record { minute = m; label = (labels t l s i q m).0 b; gives = g; highest = λ r k c h. o.highest r (inr (k, (labels t l s i r k).1 c, h)) })

  origin_back : (i p n q : ℕ) → IsOrigin t s i p n q → Origin (ways t s) (Label (ways t s)) i p n q
  origin_back i p n q (inl (f, e)) = record { from = inl (f, e); highest = highest }
    where
      highest : (r : ℕ) → From (ways t s) (Label (ways t s)) i p n r → r ≤ q
      highest r (inl (f', e')) = omega arith
      highest r (inr (m, b, g)) = absurd (first_alone i p n r m f b.reached g)
  origin_back i p n q (inr h) = record { from = inr (h.minute, own, h.gives); highest = highest }
    where
      own : Label (ways t s) i q h.minute
      own = (labels t l s i q h.minute).1 h.label

      highest : (r : ℕ) → From (ways t s) (Label (ways t s)) i p n r → r ≤ q
      highest r (inl (f, e)) = absurd (first_alone i p n q h.minute f own.reached h.gives)
      highest r (inr (m, b, g)) = h.highest r m ((labels t l s i r m).0 b) g

  pub exactly : (done : List Entry) → Done (ways t s) done → SettledExactly t s done
  exactly done d e =
      let x = exact (ways t s) (forward t l s) done d e in
      (λ h. let y = x.0 h in (leads_to _ _ _ y.0, origin_to _ _ _ _ y.1), λ h. x.1 (leads_back _ _ _ h.0, origin_back _ _ _ _ h.1))

pub begins_so : SearchBegins
begins_so t l s queue b = begins (ways t s) (forward t l s) queue b

pub keeps : SearchKeeps
keeps t l s a b c d h v = step (ways t s) (forward t l s) h v

pub ends_so : SearchEnds
ends_so t l s a v = exactly t l s a (ends (ways t s) (forward t l s) a v)

pub running : (t : Table) → Lawful t → (s : ℕ) {l queue : List Entry} → State (ways t s) l queue → Running (ways t s) l queue
running t l s (start b) = begins (ways t s) (forward t l s) _ b
running t l s (then h k) = step (ways t s) (forward t l s) k (running t l s h)

pub found : SearchFound
found t l s done h = ends_so t l s done (running t l s h)
