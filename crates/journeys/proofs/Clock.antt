-- The next departure of a connection.
use Rattle.std.proofs.Common.{◌≡◌, ℕ, ◌+◌, ◌-◌, ◌*◌, ◌/◌, ◌%◌, ◌<◌, ◌≤◌, false, ◌⊎◌, ℤ, pos, negsuc, ◌+ℤ◌, ◌*ℤ◌, sym, ap, ◌∙◌, inl, inr, mod-lt, mod-eq_of_lt, mul-le-mul_left, arith}
use native.Mathlib.Decide.{dec_lt}
use native.Mathlib.Nat.{div-add-mod, add-mod_right, add-mul-mod_self_left, add-mul-mod_self_right}
use lib.ListN.{get_or-eq_default}
use borrow.Author.Differences.{ints}
use Rattle.timetable.specs.Table.{Table, at, connections, Lawful, no_connection}
use Rattle.timetable.specs.Itinerary.{Ride, Departs}
use Rattle.timetable.specs.declared.connection.Connection.{Connection}
use Rattle.journeys.specs.Paths.{Runs}

-- (d − x) modulo π, by the order of d and x % π
wait_cases : (d r p : ℕ) → d < p → r < p → ((r ≤ d) × ((d + (p - r)) % p ≡ d - r)) ⊎ ((d < r) × ((d + (p - r)) % p ≡ d + p - r))
wait_cases d r p h k = elim (dec_lt d r) [ yes l ↦ inr (l, over l) | no l ↦ inl (omega arith, under (omega arith)) ]
  where
    over : d < r → (d + (p - r)) % p ≡ d + p - r
    over l = mod-eq_of_lt (omega arith) ∙ omega arith

    under : r ≤ d → (d + (p - r)) % p ≡ d - r
    under l = let e : d + (p - r) ≡ d - r + p = omega arith in rw e (add-mod_right (d - r) p ∙ mod-eq_of_lt (omega arith))

-- the library's lemma with every argument written out, as the places that use it have to
pub times : (k m n : ℕ) → m ≤ n → k * m ≤ k * n
times k m n h = mul-le-mul_left k h

-- the first moment from x on that leaves d
abbrev pub after : ℕ → ℕ → ℕ → ℕ
after d p x = x + (d + (p - x % p)) % p

module _ (d p : ℕ) (low : d < p) where
  pub after_is : (x : ℕ) → ((x % p ≤ d) × (after d p x ≡ d + p * (x / p))) ⊎ ((d < x % p) × (after d p x ≡ d + p * (x / p + 1)))
  after_is x = by_case (wait_cases d (x % p) p low (mod-lt x (omega arith)))
    where
      r : x % p < p
      r = mod-lt x (omega arith)

      by_case : ((x % p ≤ d) × ((d + (p - x % p)) % p ≡ d - x % p)) ⊎ ((d < x % p) × ((d + (p - x % p)) % p ≡ d + p - x % p)) → ((x % p ≤ d) × (after d p x ≡ d + p * (x / p))) ⊎ ((d < x % p) × (after d p x ≡ d + p * (x / p + 1)))
      by_case (inl h) = inl (h.0, omega (arith, h.0, h.1, div-add-mod x p))
      by_case (inr h) = inr (h.0, omega (arith, h.0, h.1, r, div-add-mod x p))

  pub after-departs : (x : ℕ) → after d p x % p ≡ d
  after-departs x = elim (after_is x) [ inl h ↦ ap (λ y. y % p) h.1 ∙ add-mul-mod_self_left d p (x / p) ∙ mod-eq_of_lt low | inr h ↦ ap (λ y. y % p) h.1 ∙ add-mul-mod_self_left d p (x / p + 1) ∙ mod-eq_of_lt low ]

  pub after_least : (x m : ℕ) → m % p ≡ d → x ≤ m → after d p x ≤ m
  after_least x m e h = by_case (after_is x)
    where
      a : p * (x / p) + x % p ≡ x
      a = div-add-mod x p

      b : p * (m / p) + m % p ≡ m
      b = div-add-mod m p

      by_case : ((x % p ≤ d) × (after d p x ≡ d + p * (x / p))) ⊎ ((d < x % p) × (after d p x ≡ d + p * (x / p + 1))) → after d p x ≤ m
      by_case (inl k) = elim (dec_lt (m / p) (x / p)) [ yes l ↦ absurd (omega (arith, a, b, times p (m / p + 1) (x / p) (omega arith))) | no l ↦ omega (arith, b, k.1, times p (x / p) (m / p) (omega arith)) ]
      by_case (inr k) = elim (dec_lt (x / p) (m / p)) [ yes l ↦ omega (arith, b, k.1, times p (x / p + 1) (m / p) (omega arith)) | no l ↦ absurd (omega (arith, a, b, k.0, times p (m / p) (x / p) (omega arith))) ]

-- a connection that runs is one of the table's
pub runs_known : (t : Table) (c : ℕ) → Runs t c → c < connections t
runs_known t c h = elim (dec_lt c (connections t)) [ yes l ↦ l | no l ↦ absurd (never (ap (λ (x : Connection). x.runs) (get_or-eq_default t.list no_connection {n = c} (omega arith)))) ]
  where
    never : (at t c).runs ≡ false → ⊥
    never e = let z : ◌≡◌ {A = ℕ} 0 1 = cc in omega arith

pub leaves : (d p n : ℕ) → d < p → (k : ℤ) → pos n ≡ pos d +ℤ k *ℤ pos p → n % p ≡ d
leaves d p n h (pos a) e = let f : n ≡ d + a * p = omega (arith, ints) in ap (λ y. y % p) f ∙ add-mul-mod_self_right d a p ∙ mod-eq_of_lt h
leaves d p n h (negsuc a) e = absurd (omega (arith, ints))

-- the departures at minutes from 0 on are those that leave the departure
pub departs_pos : (t : Table) → Lawful t → (r : Ride) (n : ℕ) → Departs t r → r.moment ≡ pos n → n % t.period ≡ (at t r.connection).departure
departs_pos t l r n d e = leaves (at t r.connection).departure t.period n (l.each r.connection d.known).in_period d.periodic.0 (sym e ∙ d.periodic.1)

pub pos_departs : (t : Table) (c n : ℕ) → Runs t c → n % t.period ≡ (at t c).departure → Departs t (record { connection = c; moment = pos n })
pos_departs t c n r e = record { known = runs_known t c r; runs = r; periodic = (pos (n / t.period), ap pos (omega (arith, e, div-add-mod n t.period))) }
