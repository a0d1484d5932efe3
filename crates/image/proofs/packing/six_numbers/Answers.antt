use Rattle.std.proofs.Common.{◌≡◌, ℕ, ◌<◌, List, [], ◌∷◌, length, get_or, arith, rules}
use Rattle.std.specs.List.{flat_map}
use Rattle.image.specs.Written.{number_bytes}
use Rattle.image.proofs.packing.six_numbers.Goals as goal

six : (ns : List ℕ) (rs : List (List ℕ)) → length ns ≡ 6 → ((i : ℕ) → i < 6 → get_or rs i [] ≡ number_bytes (get_or ns i 0))
    → get_or (get_or rs 0 []) 0 0 ∷ get_or (get_or rs 0 []) 1 0 ∷ get_or (get_or rs 1 []) 0 0 ∷ get_or (get_or rs 1 []) 1 0 ∷ get_or (get_or rs 2 []) 0 0 ∷ get_or (get_or rs 2 []) 1 0 ∷ get_or (get_or rs 3 []) 0 0 ∷ get_or (get_or rs 3 []) 1 0 ∷ get_or (get_or rs 4 []) 0 0 ∷ get_or (get_or rs 4 []) 1 0 ∷ get_or (get_or rs 5 []) 0 0 ∷ get_or (get_or rs 5 []) 1 0 ∷ [] ≡ flat_map number_bytes ns
six (a ∷ b ∷ c ∷ d ∷ e ∷ f ∷ []) rs l h = rw (h 0 (omega arith), h 1 (omega arith), h 2 (omega arith), h 3 (omega arith), h 4 (omega arith), h 5 (omega arith))
six [] rs l h = absurd (omega arith)
six (a ∷ []) rs l h = absurd (omega arith)
six (a ∷ b ∷ []) rs l h = absurd (omega arith)
six (a ∷ b ∷ c ∷ []) rs l h = absurd (omega arith)
six (a ∷ b ∷ c ∷ d ∷ []) rs l h = absurd (omega arith)
six (a ∷ b ∷ c ∷ d ∷ e ∷ []) rs l h = absurd (omega arith)
six (a ∷ b ∷ c ∷ d ∷ e ∷ f ∷ g ∷ r) rs l h = absurd (omega arith)

pub returns : goal.returns
returns c = six c.args.numbers c.map.result (omega arith) (λ i l. let k = c.map.ensures.items.at i 0 [] l in let h = k.2 in search rules)
