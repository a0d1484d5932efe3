-- Lists in order after puts.
use Rattle.std.proofs.Common.{◌≡◌, ℕ, suc, ◌+◌, ◌≤◌, Bool, List, [], ◌∷◌, ◌++◌, length, sym, refl, ap, ◌∙◌, arith}
use Rattle.std.proofs.lemmas.Bool.{cond_both}
use Rattle.queue.specs.Order.{inserted}
use Rattle.queue.specs.declared.interface.Queue.{Ghosts}
use Rattle.turns.specs.Puts.{put_all, Ready, Grown}

module _ {X : Type 0} (ahead : X → X → Bool) where
  pub put_all_append : (a b q : List X) → put_all ahead (a ++ b) q ≡ put_all ahead a (put_all ahead b q)
  unfolding put_all
  put_all_append [] b q = refl
  put_all_append (x ∷ a) b q = ap (inserted ahead x) (put_all_append a b q)

  pub inserted-length : (e : X) (q : List X) → length (inserted ahead e q) ≡ suc (length q)
  unfolding inserted
  inserted-length e [] = refl
  inserted-length e (x ∷ q) = cond_both (ahead x e) (x ∷ inserted ahead e q) (e ∷ x ∷ q) (λ z. length z ≡ suc (suc (length q))) (λ _. ap suc (inserted-length e q)) (λ _. refl)

  pub put_all_length : (a q : List X) → length (put_all ahead a q) ≡ length a + length q
  unfolding put_all
  put_all_length [] q = omega arith
  put_all_length (x ∷ a) q = omega (arith, inserted-length x (put_all ahead a q), put_all_length a q)

  module _ {Q : Type 0} {queue : Ghosts Q X} where
    pub grown_none : {q : Q} → queue.ordered q → Grown queue ahead [] q q
    unfolding put_all
    grown_none o = record { in_order = o; same_room = refl; holds = refl }

    pub grown_one : {e : X} {q q' : Q} → queue.ordered q' → queue.room q' ≡ queue.room q → queue.bag q' ≡ inserted ahead e (queue.bag q) → Grown queue ahead (e ∷ []) q q'
    unfolding put_all
    grown_one o s h = record { in_order = o; same_room = s; holds = h }

    -- first b, then a
    pub grown_then : {a b : List X} {q r s : Q} → Grown queue ahead b q r → Grown queue ahead a r s → Grown queue ahead (a ++ b) q s
    grown_then {a} {b} {q} g h = record { in_order = h.in_order; same_room = h.same_room ∙ g.same_room; holds = h.holds ∙ ap (put_all ahead a) g.holds ∙ sym (put_all_append a b (queue.bag q)) }

    -- a queue ready for n entries, after some of them, is ready for k more
    pub ready_more : {n k : ℕ} {b : List X} {q r : Q} → Ready queue n q → Grown queue ahead b q r → k + length b ≤ n → Ready queue k r
    ready_more {n} {k} {b} {q} f g h = record { in_order = g.in_order; has_room = omega (arith, f.has_room, ap length g.holds, put_all_length b (queue.bag q), g.same_room) }
