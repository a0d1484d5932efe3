-- The search for the bucket to take from.
use Rattle.std.proofs.Common.{◌≡◌, ℕ, ◌+◌, ◌%◌, ◌<◌, ◌≤◌, Bool, true, false, ◌⊎◌, List, get_or, ap, ◌∙◌, inl, inr, ⊎_elim, arith}
use Rattle.std.proofs.lemmas.Bool.{cases_eq, cases_lt}
use Rattle.buckets.specs.declared.chain.Cell.{Cell}
use Rattle.queue.specs.Order.{Sound}
use Rattle.buckets.specs.Bitmap.{occupied, Clear, First}
use Rattle.buckets.specs.Chains.{entries}
use Rattle.buckets.specs.InBuckets.{Leads, Lodged}
use Rattle.buckets.specs.Nearest.{Firsts, Far, Near}
use Rattle.queue.proofs.Bag.{never, behind_ahead}

-- minutes of two buckets, seen from the minute `low`
same_round : (low b k x y : ℕ) → k < 256 → x % 256 ≡ b → y % 256 ≡ k → low ≤ x → low ≤ y → x < low + 256 → low % 256 ≤ b → b < k → x < y
same_round low b k x y kl ex ey lx ly hx lo lt = omega arith

later_round : (low b k x y : ℕ) → b < 256 → x % 256 ≡ b → y % 256 ≡ k → low ≤ x → low ≤ y → x < low + 256 → low % 256 ≤ b → k < low % 256 → x < y
later_round low b k x y bl ex ey lx ly hx lo far = omega arith

next_round : (low b k x y : ℕ) → x % 256 ≡ b → y % 256 ≡ k → low ≤ x → low ≤ y → x < low + 256 → k < low % 256 → b < k → x < y
next_round low b k x y ex ey lx ly hx far lt = omega arith

module _ {X : Type 0} {ahead : X → X → Bool} {minute_of : X → ℕ} (o : Sound ahead minute_of) where
  -- b leads among the buckets below `to`
  pub record Among (cs : List (Cell X)) (bits first : List ℕ) (to b : ℕ) : Type 0 where
    pub known : b < 256
    pub holds : occupied bits b ≡ 1
    pub best : (k : ℕ) → k < to → occupied bits k ≡ 1 → (d : X) → ahead (get_or (entries cs) (get_or first k 0) d) (get_or (entries cs) (get_or first b 0) d) ≡ false

  module _ (cs : List (Cell X)) (bits first : List ℕ) where
    pub among_new : (from b b' : ℕ) → First (occupied bits) from 256 b' → ((d : X) → ahead (get_or (entries cs) (get_or first b' 0) d) (get_or (entries cs) (get_or first b 0) d) ≡ true) → Among cs bits first from b → Among cs bits first (b' + 1) b'
    among_new from b b' f t w = record {
      known = f.below;
      holds = f.one;
      best = λ k l oc d. ⊎_elim
          (λ (q : k ≡ b'). ap (λ m. ahead (get_or (entries cs) (get_or first m 0) d) (get_or (entries cs) (get_or first b' 0) d)) q ∙ never o _)
          (λ ne. ⊎_elim (λ (lt : k < from). behind_ahead o _ _ _ (t d) (w.best k lt oc d)) (λ (ge : from ≤ k). absurd (let z = f.before k ge (omega arith) in omega arith)) (cases_lt k from))
          (cases_eq k b');
    }

    pub among_old : (from b b' : ℕ) → First (occupied bits) from 256 b' → ((d : X) → ahead (get_or (entries cs) (get_or first b' 0) d) (get_or (entries cs) (get_or first b 0) d) ≡ false) → Among cs bits first from b → Among cs bits first (b' + 1) b
    among_old from b b' f t w = record {
      known = w.known;
      holds = w.holds;
      best = λ k l oc d. ⊎_elim
          (λ (q : k ≡ b'). ap (λ m. ahead (get_or (entries cs) (get_or first m 0) d) (get_or (entries cs) (get_or first b 0) d)) q ∙ t d)
          (λ ne. ⊎_elim (λ (lt : k < from). w.best k lt oc d) (λ (ge : from ≤ k). absurd (let z = f.before k ge (omega arith) in omega arith)) (cases_lt k from))
          (cases_eq k b');
    }

    pub among_all : (from b : ℕ) → Clear (occupied bits) from 256 → Among cs bits first from b → Leads ahead cs bits first b
    among_all from b h w = record {
      known = w.known;
      holds = w.holds;
      best = λ k l oc d. ⊎_elim (λ (lt : k < from). w.best k lt oc d) (λ (ge : from ≤ k). absurd (let z = h k ge l in omega arith)) (cases_lt k from);
    }

  module _ (cs : List (Cell X)) (bits first : List ℕ) where
    module _ (low : ℕ) (in_place : Firsts minute_of cs bits first (Lodged minute_of low)) where
      -- an entry of an earlier minute is ahead
      sooner : (x y : X) → minute_of y < minute_of x → ahead x y ≡ false
      sooner x y lt = o.strict y x (o.earlier y x lt)

      -- the first bucket from that of `low` on whose first entry is less than 256 minutes away
      pub first_round : (b : ℕ) → Near minute_of cs bits first (low + 256) (low % 256) 256 b → Leads ahead cs bits first b
      first_round b n = record {
        known = n.known;
        holds = n.holds;
        best = λ k l oc d. ⊎_elim
            (λ (q : k ≡ b). ap (λ m. ahead (get_or (entries cs) (get_or first m 0) d) (get_or (entries cs) (get_or first b 0) d)) q ∙ never o _)
            (λ ne.
            let pb = in_place b n.known n.holds d in
            let pk = in_place k l oc d in
            let nb = n.near d in
            let lo = n.from_on in
            sooner _ _ (⊎_elim
            (λ (lt : k < b). ⊎_elim (λ (far : k < low % 256). later_round low b k _ _ n.known pb.0 pk.0 pb.1 pk.1 nb lo far) (λ (ge : low % 256 ≤ k). let f = n.before k ge lt oc d in omega arith) (cases_lt k (low % 256)))
            (λ (ge : b ≤ k). same_round low b k _ _ l pb.0 pk.0 pb.1 pk.1 nb lo (omega arith))
            (cases_lt k b)))
            (cases_eq k b);
      }

      -- or, where there is none, the first below that
      pub second_round : (b : ℕ) → Far minute_of cs bits first (low + 256) (low % 256) 256 → Near minute_of cs bits first (low + 256) 0 (low % 256) b → Leads ahead cs bits first b
      second_round b none n = record {
        known = n.known;
        holds = n.holds;
        best = λ k l oc d. ⊎_elim
            (λ (q : k ≡ b). ap (λ m. ahead (get_or (entries cs) (get_or first m 0) d) (get_or (entries cs) (get_or first b 0) d)) q ∙ never o _)
            (λ ne.
            let pb = in_place b n.known n.holds d in
            let pk = in_place k l oc d in
            let nb = n.near d in
            sooner _ _ (⊎_elim
            (λ (ge : low % 256 ≤ k). let f = none k ge l oc d in omega arith)
            (λ (lt : k < low % 256). ⊎_elim (λ (lo : k < b). let f = n.before k (omega arith) lo oc d in omega arith) (λ (hi : b ≤ k). next_round low b k _ _ pb.0 pk.0 pb.1 pk.1 nb lt (omega arith)) (cases_lt k b))
            (at-or-below k)))
            (cases_eq k b);
      }
        where
          at-or-below : (k : ℕ) → (low % 256 ≤ k) ⊎ (k < low % 256)
          at-or-below k = ⊎_elim inr inl (cases_lt k (low % 256))
