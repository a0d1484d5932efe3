-- The row that was found: by how much its pair is moved on, what its pair is, and that its origins can be followed.
use Rattle.std.proofs.Common.{◌≡◌, ℕ, ◌+◌, ◌*◌, ◌<◌, ◌≤◌, List, sym, ap, ◌∙◌, subst, arith}
use Rattle.std.proofs.lemmas.Nat.{mul-le}
use Rattle.timetable.specs.declared.label.Label.{Label}
use Rattle.timetable.specs.Table.{Table, Lawful}
use Rattle.timetable.specs.Rows.{head, entry}
use Rattle.journeys.specs.Search.{Entry}
use Rattle.answers.specs.declared.view.View.{View}
use Rattle.answers.specs.RowPairs.{IsArrive}
use Rattle.answers.specs.Chains.{RowChain}
use Rattle.answers.specs.Rowwise.{leaving, coming}
use Rattle.answers.proofs.Seen.{row_small}
use Rattle.questions.specs.Finding.{FoundRow}
use Rattle.questions.specs.declared.finding.Found.{Found}
use Rattle.questions.proofs.Checked.{over}

module _ (t : Table) (law : Lawful t) (m : ℕ) (memory : List Label) (v n : ℕ) (f : Found) (x : FoundRow t m memory v n f) where
  pub period_is : f.hit.periods * f.rows.view.period ≡ f.hit.periods * t.period
  period_is = ap (λ (w : View). f.hit.periods * w.period) x.view

  pub later_small : f.hit.periods * f.rows.view.period ≤ 10080
  later_small = omega (arith, period_is, mul-le f.hit.periods t.period 1 10080 f.hit.near law.period_high)

  small : ((head t memory f.hit.row).minute < t.period) × ((entry t memory f.hit.row v).minute ≤ 400000000)
  small = row_small t law m memory v x.own f.hit.row x.row.highest.there x.row.highest.has.reached

  leaving_is : leaving f.rows.view f.rows.memory.now f.hit.row ≡ (head t memory f.hit.row).minute
  leaving_is = ap (λ (w : View). leaving w f.rows.memory.now f.hit.row) x.view ∙ ap (λ (ls : List Label). (head t ls f.hit.row).minute) x.read

  coming_is : coming f.rows.view f.rows.memory.now f.hit.row ≡ (entry t memory f.hit.row v).minute
  coming_is = ap (λ (w : View). coming w f.rows.memory.now f.hit.row) x.view ∙ ap (λ (ls : List Label). (entry t ls f.hit.row v).minute) x.read

  -- a chain in the rows that were looked at, and one in this memory
  pub from_memory : (es : List Entry) → RowChain t memory f.hit.row v es → RowChain t f.rows.memory.now f.hit.row f.rows.view.target es
  from_memory es c = subst (λ (ls : List Label). RowChain t ls f.hit.row f.rows.view.target es) (sym x.read) (subst (λ (w : View). RowChain t memory f.hit.row w.target es) (sym x.view) c)

  pub to_memory : (es : List Entry) → RowChain t f.rows.memory.now f.hit.row f.rows.view.target es → RowChain t memory f.hit.row v es
  to_memory es c = over t m memory v f.rows x.view x.read (λ w ls. RowChain t ls f.hit.row w.target es) c

  -- the moments that were read
  module _ (d a : ℕ) (departs : d ≡ leaving f.rows.view f.rows.memory.now f.hit.row) (arrives : a ≡ coming f.rows.view f.rows.memory.now f.hit.row) where
    pub minutes : (d < t.period) × (a ≤ 400000000)
    minutes = (omega (arith, small.0, departs, leaving_is), omega (arith, small.1, arrives, coming_is))

    pub first_pair : (k : ℕ) → k ≡ f.hit.periods * f.rows.view.period → IsArrive t m memory v n (d + k) (a + k)
    first_pair k later =
        let p : x.row.departure ≡ d + k = omega (arith, x.row.highest.has.departs, period_is, departs, leaving_is, later) in
        let q : x.row.arrival ≡ a + k = omega (arith, x.row.highest.has.arrives, period_is, arrives, coming_is, later) in
        subst (λ (y : ℕ). IsArrive t m memory v n (d + k) y) q (subst (λ (y : ℕ). IsArrive t m memory v n y x.row.arrival) p x.row.arrive)
