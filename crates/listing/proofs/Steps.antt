-- The lines of a connection.
use Rattle.std.proofs.Common.{◌≡◌, ℕ, true, cond, List, [], ◌++◌, ap, ◌∙◌, ap₂}
use Rattle.timetable.specs.Table.{Table, at}
use Rattle.timetable.specs.declared.connection.Connection.{Connection}
use Rattle.listing.specs.Text.{train_line, connection_line, begins_train, train_lines}

-- the first connection of a train, below the train's line
pub below_train : (t : Table) (n p : ℕ) (k : Connection) (a b l x : List ℕ) → k ≡ at t n → p ≡ t.period → true ≡ begins_train t n → a ≡ train_line k.train.0 → l ≡ connection_line p n k → x ≡ l → b ≡ a ++ x → b ≡ train_lines t n
below_train t n p k a b l x ek ep eq ea el ex eb =
    eb ∙ ap₂ ◌++◌ (ea ∙ (ap (λ c. train_line c.train.0) ek ∙ ap (λ q. cond q (train_line (at t n).train.0) []) eq)) (ex ∙ (el ∙ ap₂ (λ x y. connection_line x n y) ep ek))
