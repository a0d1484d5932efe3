-- An entry rises or sinks in a heap: what a step of the hole keeps.
use Rattle.std.proofs.Common.{◌≡◌, ℕ, zero, suc, ◌+◌, ◌-◌, ◌*◌, ◌/◌, ◌<◌, ◌≤◌, Bool, true, false, List, [], length, get_or, set, sym, refl, ap, ◌∙◌, ⊎_elim, arith}
use Rattle.std.proofs.lemmas.Bool.{cases_eq}
use Rattle.std.proofs.lemmas.List.{get_or-set_same, get_or-set_other, length-set, get_or_default}
use Rattle.queue.specs.Order.{Sound}
use Rattle.heap.specs.Heaped.{Child, Heaped, Rising, Sinking, Best}
use Rattle.queue.proofs.Bag.{never, behind, behind_ahead}

-- the hole at j, which e fills, and the hole moved to c, whose entry x stands at j
module _ {X : Type 0} (l : List X) (j c : ℕ) (e x : X) (jn : j < length l) (cn : c < length l) (apart : c ≡ j → ⊥) (is : x ≡ get_or l c x) (d : X) where
  new_c : get_or (set (set l j x) c e) c d ≡ e
  new_c = get_or-set_same (set l j x) c e d (omega (arith, length-set l j x))

  new_j : get_or (set (set l j x) c e) j d ≡ x
  new_j = get_or-set_other (set l j x) c j e d (λ h. apart (sym h)) ∙ get_or-set_same l j x d jn

  old_j : get_or (set l j e) j d ≡ e
  old_j = get_or-set_same l j e d jn

  old_c : get_or (set l j e) c d ≡ x
  old_c = get_or-set_other l j c e d apart ∙ get_or_default l c d x cn ∙ sym is

  new_else : (m : ℕ) → (m ≡ j → ⊥) → (m ≡ c → ⊥) → get_or (set (set l j x) c e) m d ≡ get_or (set l j e) m d
  new_else m p q = get_or-set_other (set l j x) c m e d q ∙ get_or-set_other l j m x d p ∙ sym (get_or-set_other l j m e d p)

length_moved : {X : Type 0} (l : List X) (j c : ℕ) (e x : X) → length (set (set l j x) c e) ≡ length (set l j e)
length_moved l j c e x = length-set (set l j x) c e ∙ length-set l j x ∙ sym (length-set l j e)

module _ {X : Type 0} {ahead : X → X → Bool} {minute_of : X → ℕ} (o : Sound ahead minute_of) where
  by : {a b x y : X} → a ≡ x → b ≡ y → ahead x y ≡ false → ahead a b ≡ false
  by p q h = (λ k. ahead (p k) (q k)) ∙ h

  at : (xs : List X) (d : X) {m n : ℕ} → m ≡ n → get_or xs m d ≡ get_or xs n d
  at xs d e = ap (λ m. get_or xs m d) e

  -- the hole at j rises to its parent u, whose entry x the entry e is ahead of
  pub rise_step : (l : List X) (j u : ℕ) (e x : X) → Child u j → j < length l → x ≡ get_or l u x → ahead e x ≡ true → Rising ahead (set l j e) j → Rising ahead (set (set l j x) u e) u
  unfolding Rising
  rise_step l j u e x ch jn is t h =
      let V = set l j e in
      let W = set (set l j x) u e in
      let long : length W ≡ length V = length_moved l j u e x in
      let long' : length V ≡ length l = length-set l j e in
      let un : u < length l = omega arith in
      let ne : u ≡ j → ⊥ = omega arith in
      let nu = new_c l j u e x jn un ne is in
      let nj = new_j l j u e x jn un ne is in
      let oj = old_j l j u e x jn un ne is in
      let ou = old_c l j u e x jn un ne is in
      let other = new_else l j u e x jn un ne is in (
        λ d p k c kn ku. ⊎_elim
            (λ (kj : k ≡ j). let pu : p ≡ u = omega arith in by (at W d kj ∙ nj d) (at W d pu ∙ nu d) (o.strict e x t))
            (λ (kj : k ≡ j → ⊥). ⊎_elim
            (λ (pj : p ≡ j). by (other d k kj ku) (at W d pj ∙ nj d ∙ sym (ou d)) (h.1 d u k ch (omega arith) (omega arith)))
            (λ (pj : p ≡ j → ⊥). ⊎_elim
            (λ (pu : p ≡ u). by (other d k kj ku) (at W d pu ∙ nu d) (behind_ahead o e x _ t (by refl (sym (ou d)) (h.0 d u k (omega arith) (omega arith) kj))))
            (λ (pu : p ≡ u → ⊥). by (other d k kj ku) (other d p pj pu) (h.0 d p k c (omega arith) kj))
            (cases_eq p u))
            (cases_eq p j))
            (cases_eq k j),
        λ d p k pu uk kn.
            let over : ahead (get_or V u d) (get_or V p d) ≡ false = h.0 d p u pu (omega arith) ne in
            let same : get_or W p d ≡ get_or V p d = other d p (omega arith) (omega arith) in ⊎_elim
            (λ (kj : k ≡ j). by (at W d kj ∙ nj d ∙ sym (ou d)) same over)
            (λ (kj : k ≡ j → ⊥). by (other d k kj (omega arith)) same (behind o _ _ _ (h.0 d u k uk (omega arith) kj) over))
            (cases_eq k j),
      )

  pub rise_rests : (l : List X) (j u : ℕ) (e x : X) → Child u j → j < length l → x ≡ get_or l u x → ahead e x ≡ false → Rising ahead (set l j e) j → Heaped ahead (set l j e)
  unfolding Rising Heaped
  rise_rests l j u e x ch jn is f h = λ d p k c kn. ⊎_elim
      (λ (kj : k ≡ j). let pu : p ≡ u = omega arith in
      by (at (set l j e) d kj ∙ get_or-set_same l j e d jn) (at (set l j e) d pu ∙ get_or-set_other l j u e d (omega arith) ∙ get_or_default l u d x (omega arith) ∙ sym is) f)
      (λ (kj : k ≡ j → ⊥). h.0 d p k c kn kj)
      (cases_eq k j)

  pub rise_tops : (xs : List X) (j : ℕ) → j ≡ 0 → Rising ahead xs j → Heaped ahead xs
  unfolding Rising Heaped
  rise_tops xs j z h = λ d p k c kn. h.0 d p k c kn (omega arith)

  -- the hole at j sinks to its child c, whose entry x is ahead of e
  pub sink_step : (l : List X) (j c : ℕ) (e x : X) → Child j c → c < length l → x ≡ get_or l c x → ahead x e ≡ true → Best ahead l j c → Sinking ahead (set l j e) j → Sinking ahead (set (set l j x) c e) c
  unfolding Sinking Best
  sink_step l j c e x ch cn is t best h =
      let V = set l j e in
      let W = set (set l j x) c e in
      let long : length W ≡ length V = length_moved l j c e x in
      let long' : length V ≡ length l = length-set l j e in
      let jn : j < length l = omega arith in
      let ne : c ≡ j → ⊥ = omega arith in
      let nc = new_c l j c e x jn cn ne is in
      let nj = new_j l j c e x jn cn ne is in
      let oc = old_c l j c e x jn cn ne is in
      let other = new_else l j c e x jn cn ne is in (
        λ d p k pk kn pc. ⊎_elim
            (λ (pj : p ≡ j). ⊎_elim
            (λ (kc : k ≡ c). by (at W d kc ∙ nc d) (at W d pj ∙ nj d) (o.strict x e t))
            (λ (kc : k ≡ c → ⊥). by (other d k (omega arith) kc ∙ get_or-set_other l j k e d (omega arith)) (at W d pj ∙ nj d ∙ is ∙ get_or_default l c x d cn) (best d k (omega arith) (omega arith)))
            (cases_eq k c))
            (λ (pj : p ≡ j → ⊥). ⊎_elim
            (λ (kj : k ≡ j). by (at W d kj ∙ nj d ∙ sym (oc d)) (other d p pj pc) (h.1 d p c (omega arith) ch (omega arith)))
            (λ (kj : k ≡ j → ⊥). by (other d k kj (omega arith)) (other d p pj pc) (h.0 d p k pk (omega arith) pj))
            (cases_eq k j))
            (cases_eq p j),
        λ d p k pc ck kn. let pj : p ≡ j = omega arith in
            by (other d k (omega arith) (omega arith)) (at W d pj ∙ nj d ∙ sym (oc d)) (h.0 d c k ck (omega arith) ne),
      )

  pub sink_rests : (l : List X) (j c : ℕ) (e x : X) → Child j c → c < length l → x ≡ get_or l c x → ahead x e ≡ false → Best ahead l j c → Sinking ahead (set l j e) j → Heaped ahead (set l j e)
  unfolding Sinking Best Heaped
  sink_rests l j c e x ch cn is f best h = λ d p k pk kn.
      let long : length (set l j e) ≡ length l = length-set l j e in ⊎_elim
      (λ (pj : p ≡ j). by (get_or-set_other l j k e d (omega arith)) (at (set l j e) d pj ∙ get_or-set_same l j e d (omega arith)) (behind o _ x _ (by refl (is ∙ get_or_default l c x d cn) (best d k (omega arith) (omega arith))) f))
      (λ (pj : p ≡ j → ⊥). h.0 d p k pk kn pj)
      (cases_eq p j)

  pub sink_ends : (xs : List X) (j : ℕ) → length xs ≤ j * 2 + 1 → Sinking ahead xs j → Heaped ahead xs
  unfolding Sinking Heaped
  sink_ends xs j leaf h = λ d p k pk kn. h.0 d p k pk kn (omega arith)

  -- the first of a heap
  pub top : (xs : List X) (d : X) → Heaped ahead xs → (fuel k : ℕ) → k ≤ fuel → k < length xs → ahead (get_or xs k d) (get_or xs 0 d) ≡ false
  unfolding Heaped
  top xs d h zero k a b = let z : k ≡ 0 = omega arith in by (at xs d z) refl (never o _)
  top xs d h (suc fuel) k a b = let ih = top xs d h fuel ((k - 1) / 2) in ⊎_elim
      (λ (z : k ≡ 0). by (at xs d z) refl (never o _))
      (λ (z : k ≡ 0 → ⊥). behind o _ _ _ (h d ((k - 1) / 2) k (omega arith) b) (ih (omega arith) (omega arith)))
      (cases_eq k 0)

  pub best-only : (xs : List X) (j c : ℕ) → c ≡ j * 2 + 1 → length xs ≤ c + 1 → Best ahead xs j c
  unfolding Best
  best-only xs j c e le = λ d k ch kn. let kc : k ≡ c = omega arith in by (at xs d kc) refl (never o _)

  module _ (xs : List X) (j c : ℕ) (x y : X) (e : c ≡ j * 2 + 1) (cn : c + 1 < length xs) (xis : x ≡ get_or xs c x) (yis : y ≡ get_or xs (c + 1) y) where
    pub best-left : ahead y x ≡ false → Best ahead xs j c
    unfolding Best
    best-left f = λ d k ch kn. ⊎_elim
        (λ (kc : k ≡ c). by (at xs d kc) refl (never o _))
        (λ (kc : k ≡ c → ⊥). let kr : k ≡ c + 1 = omega arith in by (at xs d kr ∙ get_or_default xs (c + 1) d y cn ∙ sym yis) (get_or_default xs c d x (omega arith) ∙ sym xis) f)
        (cases_eq k c)

    pub best_right : ahead y x ≡ true → Best ahead xs j (c + 1)
    unfolding Best
    best_right t = λ d k ch kn. ⊎_elim
        (λ (kc : k ≡ c). by (at xs d kc ∙ get_or_default xs c d x (omega arith) ∙ sym xis) (get_or_default xs (c + 1) d y cn ∙ sym yis) (o.strict y x t))
        (λ (kc : k ≡ c → ⊥). let kr : k ≡ c + 1 = omega arith in by (at xs d kr) refl (never o _))
        (cases_eq k c)

pub heaped_nil : {X : Type 0} (ahead : X → X → Bool) → Heaped ahead []
unfolding Heaped
heaped_nil ahead = λ d p k c kn. absurd (omega arith)
