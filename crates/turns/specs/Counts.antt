-- How many entries of the rows are not blank.
use Rattle.std.specs.Prelude.{ℕ, zero, suc, ◌+◌, Bool, cond, ◌==◌}
use Rattle.timetable.specs.declared.label.Label.{Label}

unfoldable pub sum_to : (ℕ → ℕ) → ℕ → ℕ
sum_to f zero = 0
sum_to f (suc n) = f n + sum_to f n

-- the sum over m rows with n places
unfoldable pub grid : (ℕ → ℕ → ℕ) → ℕ → ℕ → ℕ
grid f m n = sum_to (λ i. sum_to (f i) n) m

abbrev pub is_blank : Label → Bool
is_blank e = e.minute == 4294967295

abbrev pub counted : ℕ → ℕ → (ℕ → ℕ → Label) → ℕ
counted m n cells = grid (λ i p. cond (is_blank (cells i p)) 0 1) m n
