-- The law of search.
use Rattle.std.proofs.Common.{◌≡◌, ℕ, List, ◌++◌, length, Some, None, Ok, Err, Option, sym, refl, subst}
use Rattle.refusals.specs.declared.refusal.Refusal.{Refusal}
use Rattle.timetable.specs.declared.label.Label.{Label}
use Rattle.timetable.specs.declared.numbers.Station.{Station}
use Rattle.timetable.specs.Table.{Table}
use Rattle.timetable.specs.Noticed.{noticed}
use Rattle.notices.specs.declared.notice.Notice.{Notice}
use Rattle.notices.specs.Slots.{found}
use Rattle.search.specs.declared.found.Found.{Found}
use Rattle.search.specs.Sizes.{search_refusal}
use Rattle.search.specs.Answer.{Searched}
use Rattle.questions.specs.declared.standing.Standing.{Standing}
use Rattle.law.specs.Book.{Book, in_force, searched}
use Rattle.law.specs.Lines.{SearchLine}
use Rattle.law.specs.Agreement.{Agrees}
use Rattle.law.proofs.Fronts.{rows_longer}
use Rattle.law.proofs.Reports.{same_table}

module _ (t : Table) (b : Book) (slots : List (Option Notice)) (standing : Option Standing) (memory memory' rest : List Label) (source : Station) (board labels : ℕ) (a : Agrees t b slots standing (memory ++ rest)) where
  pub search_accepted : (f : Found) → search_refusal (noticed t (found slots)) source.0 board labels (length memory) ≡ None → Searched (noticed t (found slots)) source.0 memory memory' f
      → SearchLine t b source.0 board labels memory (Ok f) memory' × Agrees t (searched b source.0) slots (Some (record { source = source; rows = f.departures })) (memory' ++ rest)
  search_accepted f n w =
      let q = subst (λ (u : Table). (search_refusal u source.0 board labels (length memory) ≡ None) × Searched u source.0 memory memory' f) (same_table t b slots a.says) (n, w) in
      (q, record { says = a.says; count = a.count; search = (refl, q.1.departures, rows_longer (in_force t b) source.0 memory' rest q.1.rows) })

  pub search_refused : (e : Refusal) → search_refusal (noticed t (found slots)) source.0 board labels (length memory) ≡ Some e → memory' ≡ memory
      → SearchLine t b source.0 board labels memory (Err e) memory' × Agrees t b slots standing (memory' ++ rest)
  search_refused e n same = (
    (subst (λ (u : Table). search_refusal u source.0 board labels (length memory) ≡ Some e) (same_table t b slots a.says) n, same),
    subst (λ (m : List Label). Agrees t b slots standing (m ++ rest)) (sym same) a,
  )
