use Rattle.std.proofs.Common.{◌≡◌, ◌≢◌, ℕ, ◌+◌, ◌-◌, ◌<◌, ◌≤◌, Bool, true, false, List, MatchBool, length, get_or, subst, refl, arith, rules, tests}
use Rattle.std.specs.List.{range_with_len, AllWithin, HoldsAt}
use Rattle.std.proofs.lemmas.Iterator.{cases_from_any, YieldsList-from_range}
use Rattle.std.proofs.lemmas.List.FromFn.{length-range_with_len, get_or-range_with_len}
use Rattle.timetable.specs.Rows.{entry as cell}
use Rattle.search.proofs.plan.Plan.settled.Goals as goal

module _ (a b : ℕ) (Hit Miss : ℕ → Type 0) where
  abbrev all : List ℕ
  all = range_with_len a (b - a)

  -- of the numbers, where it was of their indices in the list
  by_any : (r : Bool) → MatchBool r ((k : ℕ) × (k < length all) × HoldsAt Hit all k) (AllWithin Miss all 0 (length all)) → MatchBool r ((x : ℕ) × (a ≤ x) × (x < b) × Hit x) ((x : ℕ) → a ≤ x → x < b → Miss x)
  by_any true h =
      let k : h.0 < b - a = omega (arith, h.1, length-range_with_len a (b - a)) in
      (a + h.0, omega arith, omega (arith, k), subst Hit (get_or-range_with_len a (b - a) h.0 0 k) (h.2 0))
  by_any false h = λ x low high.
      let k : x - a < b - a = omega (arith, low, high) in
      let e : get_or all (x - a) 0 ≡ x = omega (arith, low, get_or-range_with_len a (b - a) (x - a) 0 k) in
      subst Miss e (h (x - a) 0 (omega arith) (omega (arith, k, length-range_with_len a (b - a))))

pub returns : goal.returns
returns g c =
    let t = g.T.Means.meaning c.args.self.now.t.now in
    let a = c.args.x.rank.0 in
    let b = c.args.self.now.departures in
    let minute : ℕ → ℕ = λ k. (cell t c.args.memory.now k c.args.x.place.0).minute in
    rw (← c.args.self.now.every_rank) (by_any a b (λ k. minute k ≢ 4294967295) (λ k. minute k ≡ 4294967295) _
    (cases_from_any _ _ _ (λ k. minute k ≢ 4294967295) (λ k. minute k ≡ 4294967295) c.any.ensures.ran (YieldsList-from_range a b (b - a) refl refl) (λ x q k. search (rules, tests)) (λ x q k. search (rules, tests))))
