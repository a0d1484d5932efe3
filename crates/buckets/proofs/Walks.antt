-- Chains of cells: what a walk and a splice keep.
use Rattle.std.proofs.Common.{◌≡◌, ℕ, zero, suc, ◌+◌, ◌<◌, ◌≤◌, Bool, true, false, ◌⊎◌, List, [], ◌∷◌, ◌++◌, length, get_or, take, drop, set, sym, refl, ap, ◌∙◌, subst, inl, inr, ⊎_elim, append_assoc, arith}
use Rattle.std.specs.List.{AllByRecursion}
use Rattle.std.proofs.Math.Seq.{map-set_same}
use Rattle.std.proofs.lemmas.List.{length-append, length-set, length-map, get_or-set_same, get_or-set_other, map-set, drop_more, get_or-map}
use Rattle.std.proofs.ByRecursion.{All-append}
use Rattle.buckets.specs.declared.chain.Cell.{Cell}
use Rattle.queue.specs.Order.{Sound, inserted}
use Rattle.buckets.specs.Chains.{In, Chain, nexts, entries, picked, Stops, Sought, Linked}
use Rattle.queue.proofs.Bag.{inserted_past, inserted_here}

-- ---- places in a list of indices

pub in_middle : (pre suf : List ℕ) (x : ℕ) → In x (pre ++ x ∷ suf)
in_middle [] suf x = inl refl
in_middle (p ∷ pre) suf x = inr (in_middle pre suf x)

in_splice : (pre suf : List ℕ) (x new i : ℕ) → In i (pre ++ x ∷ new ∷ suf) → In i (pre ++ x ∷ suf) ⊎ (i ≡ new)
in_splice [] suf x new i (inl e) = inl (inl e)
in_splice [] suf x new i (inr (inl e)) = inr e
in_splice [] suf x new i (inr (inr h)) = inl (inr h)
in_splice (p ∷ pre) suf x new i (inl e) = inl (inl e)
in_splice (p ∷ pre) suf x new i (inr h) = ⊎_elim (λ k. inl (inr k)) inr (in_splice pre suf x new i h)

pub front_in : (pre suf : List ℕ) (x i : ℕ) → In i (pre ++ x ∷ []) → In i (pre ++ x ∷ suf)
front_in [] suf x i (inl q) = inl q
front_in [] suf x i (inr q) = absurd q
front_in (p ∷ pre) suf x i (inl q) = inl q
front_in (p ∷ pre) suf x i (inr q) = inr (front_in pre suf x i q)

back_in : (pre suf : List ℕ) (x i : ℕ) → In i suf → In i (pre ++ x ∷ suf)
back_in [] suf x i q = inr q
back_in (p ∷ pre) suf x i q = inr (back_in pre suf x i q)

-- ---- chains

-- the chain from an index is one
pub chain_long : (ns : List ℕ) (a : ℕ) (is js : List ℕ) → Chain ns a is → Chain ns a js → length is ≡ length js
chain_long ns a [] [] h k = refl
chain_long ns a [] (j ∷ js) h k = absurd (omega (arith, k.0, k.1))
chain_long ns a (i ∷ is) [] h k = absurd (omega (arith, h.0, h.1))
chain_long ns a (i ∷ is) (j ∷ js) h k = ap suc (chain_long ns (get_or ns i 0) is js h.2 (subst (λ m. Chain ns (get_or ns m 0) js) (sym k.0 ∙ h.0) k.2))

-- the rest of a chain from one of its cells on
sub_chain : (ns : List ℕ) (a x : ℕ) (ks : List ℕ) → Chain ns a ks → In x ks → (s : List ℕ) × Chain ns x (x ∷ s) × (length (x ∷ s) ≤ length ks)
sub_chain ns a x [] h i = absurd i
sub_chain ns a x (k ∷ ks) h (inl e) = (ks, subst (λ m. Chain ns m (m ∷ ks)) (sym e) (refl, h.1, h.2), omega arith)
sub_chain ns a x (k ∷ ks) h (inr i) = let r = sub_chain ns (get_or ns k 0) x ks h.2 i in (r.0, r.1, omega (arith, r.2))

-- no cell comes twice
pub chain_once : (ns : List ℕ) (a x : ℕ) (ks : List ℕ) → Chain ns a (x ∷ ks) → In x ks → ⊥
chain_once ns a x ks h i =
    let r = sub_chain ns (get_or ns x 0) x ks h.2 i in
    let e = chain_long ns x (x ∷ ks) (x ∷ r.0) (refl, h.1, h.2) r.1 in
    omega (arith, r.2)

pub chain_frame : (ns ms : List ℕ) (a : ℕ) (ks : List ℕ) → length ms ≡ length ns → ((j : ℕ) → In j ks → get_or ms j 0 ≡ get_or ns j 0) → Chain ns a ks → Chain ms a ks
chain_frame ns ms a [] len same h = omega arith
chain_frame ns ms a (k ∷ ks) len same h =
    (h.0, omega (arith, h.1), subst (λ m. Chain ms m ks) (sym (same k (inl refl))) (chain_frame ns ms (get_or ns k 0) ks len (λ j i. same j (inr i)) h.2))

pub chain_below : (ns : List ℕ) (a x : ℕ) (ks : List ℕ) → Chain ns a ks → In x ks → x < length ns
chain_below ns a x [] h i = absurd i
chain_below ns a x (k ∷ ks) h (inl e) = omega (arith, h.1)
chain_below ns a x (k ∷ ks) h (inr i) = chain_below ns (get_or ns k 0) x ks h.2 i

-- the cell `new` goes behind x
splice : (ns : List ℕ) (x new : ℕ) → List ℕ
splice ns x new = set (set ns new (get_or ns x 0)) x new

splice_long : (ns : List ℕ) (x new : ℕ) → length (splice ns x new) ≡ length ns
unfolding splice
splice_long ns x new = length-set (set ns new (get_or ns x 0)) x new ∙ length-set ns new (get_or ns x 0)

splice_else : (ns : List ℕ) (x new j : ℕ) → (j ≡ x → ⊥) → (j ≡ new → ⊥) → get_or (splice ns x new) j 0 ≡ get_or ns j 0
unfolding splice
splice_else ns x new j p q = get_or-set_other (set ns new (get_or ns x 0)) x j new 0 p ∙ get_or-set_other ns new j (get_or ns x 0) 0 q

chain_splice : (ns : List ℕ) (a x new : ℕ) (pre suf : List ℕ) → Chain ns a (pre ++ x ∷ suf) → (In new (pre ++ x ∷ suf) → ⊥) → new < length ns → Chain (splice ns x new) a (pre ++ x ∷ new ∷ suf)
unfolding splice
chain_splice ns a x new [] suf h out lt =
    let ne : new ≡ x → ⊥ = λ e. out (inl e) in
    let len = splice_long ns x new in
    let at_x : get_or (splice ns x new) x 0 ≡ new = get_or-set_same (set ns new (get_or ns x 0)) x new 0 (omega (arith, h.1, length-set ns new (get_or ns x 0))) in
    let at_new : get_or (splice ns x new) new 0 ≡ get_or ns x 0 = get_or-set_other (set ns new (get_or ns x 0)) x new new 0 ne ∙ get_or-set_same ns new (get_or ns x 0) 0 lt in
    let rest : Chain (splice ns x new) (get_or ns x 0) suf = chain_frame ns (splice ns x new) (get_or ns x 0) suf len
    (λ j i. splice_else ns x new j (λ e. chain_once ns a x suf h (subst (λ m. In m suf) e i)) (λ e. out (inr (subst (λ m. In m suf) e i)))) h.2 in
    (h.0, omega (arith, h.1), (at_x, omega arith, subst (λ m. Chain (splice ns x new) m suf) (sym at_new) rest))
chain_splice ns a x new (p ∷ pre) suf h out lt =
    let len = splice_long ns x new in
    let px : p ≡ x → ⊥ = λ e. chain_once ns a p (pre ++ x ∷ suf) h (subst (λ m. In m (pre ++ x ∷ suf)) (sym e) (in_middle pre suf x)) in
    let pn : p ≡ new → ⊥ = λ e. out (inl (sym e)) in
    (h.0, omega (arith, h.1), subst (λ m. Chain (splice ns x new) m (pre ++ x ∷ new ∷ suf)) (sym (splice_else ns x new p px pn)) (chain_splice ns (get_or ns p 0) x new pre suf h.2 (λ i. out (inr i)) lt))

-- ---- the entries of a chain

module _ {X : Type 0} where
  pub pick : (xs : List X) (i : ℕ) (d : X) → i < length xs → take 1 (drop i xs) ≡ get_or xs i d ∷ []
  pick xs i d lt = ap (take 1) (drop_more xs i d lt)

  pick_else : (xs : List X) (i j : ℕ) (e : X) → (i ≡ j → ⊥) → take 1 (drop i (set xs j e)) ≡ take 1 (drop i xs)
  pick_else [] i j e ne = refl
  pick_else (x ∷ xs) zero zero e ne = absurd (ne refl)
  pick_else (x ∷ xs) zero (suc j) e ne = refl
  pick_else (x ∷ xs) (suc i) zero e ne = refl
  pick_else (x ∷ xs) (suc i) (suc j) e ne = pick_else xs i j e (λ p. ne (ap suc p))

  pub picked_else : (xs : List X) (new : ℕ) (e : X) (ks : List ℕ) → (In new ks → ⊥) → picked (set xs new e) ks ≡ picked xs ks
  picked_else xs new e [] out = refl
  picked_else xs new e (k ∷ ks) out = λ m. pick_else xs k new e (λ p. out (inl (sym p))) m ++ picked_else xs new e ks (λ i. out (inr i)) m

  pub picked-append : (xs : List X) (is js : List ℕ) → picked xs (is ++ js) ≡ picked xs is ++ picked xs js
  picked-append xs [] js = refl
  picked-append xs (i ∷ is) js = ap (λ l. take 1 (drop i xs) ++ l) (picked-append xs is js) ∙ sym (append_assoc (take 1 (drop i xs)) (picked xs is) (picked xs js))

module _ {X : Type 0} {ahead : X → X → Bool} {minute_of : X → ℕ} (o : Sound ahead minute_of) where
  inserted_between : (e : X) (l r : List X) → AllByRecursion (λ x. ahead x e ≡ true) l → Stops ahead e r → inserted ahead e (l ++ r) ≡ l ++ e ∷ r
  unfolding inserted
  inserted_between e [] [] h s = refl
  inserted_between e [] (x ∷ r) h s = inserted_here o e x r s
  inserted_between e (x ∷ l) r h s = inserted_past o e x (l ++ r) h.0 ∙ ap (λ m. x ∷ m) (inserted_between e l r h.1 s)

  -- ---- a walk along a chain

  pub record Walked (xs : List X) (ns is : List ℕ) (e : X) (x k : ℕ) : Type 0 where
    pub pre : List ℕ
    pub suf : List ℕ
    pub parts : is ≡ pre ++ x ∷ suf
    pub passed : AllByRecursion (λ y. ahead y e ≡ true) (picked xs (pre ++ x ∷ []))
    pub chain : Chain ns x (x ∷ suf)
    pub steps : k ≤ length pre

  one_passed : (xs : List X) (e : X) (x : ℕ) → x < length xs → ((d : X) → ahead (get_or xs x d) e ≡ true) → AllByRecursion (λ y. ahead y e ≡ true) (picked xs (x ∷ []))
  one_passed xs e x lt t = subst (λ l. AllByRecursion (λ y. ahead y e ≡ true) (l ++ [])) (sym (pick xs x e lt)) (t e, tt)

  pub walk_begins : (xs : List X) (ns is : List ℕ) (e : X) (head : ℕ) → length xs ≡ length ns → Chain ns head is → head < length ns → ((d : X) → ahead (get_or xs head d) e ≡ true) → Walked xs ns is e head 0
  walk_begins xs ns [] e head len h lt t = absurd (omega arith)
  walk_begins xs ns (i ∷ is) e head len h lt t = record {
    pre = [];
    suf = is;
    parts = ap (λ m. m ∷ is) (sym h.0);
    passed = one_passed xs e head (omega arith) t;
    chain = (refl, lt, subst (λ m. Chain ns (get_or ns m 0) is) (sym h.0) h.2);
    steps = omega arith;
  }

  walk_on : (xs : List X) (ns is : List ℕ) (e : X) (x k next : ℕ) → length xs ≡ length ns → (pre suf : List ℕ) → is ≡ pre ++ x ∷ suf → AllByRecursion (λ y. ahead y e ≡ true) (picked xs (pre ++ x ∷ [])) → Chain ns x (x ∷ suf) → k ≤ length pre
      → next ≡ get_or ns x 0 → next < length ns → ((d : X) → ahead (get_or xs next d) e ≡ true) → Walked xs ns is e next (k + 1)
  walk_on xs ns is e x k next len pre [] p a c s n lt t = absurd (omega (arith, c.2))
  walk_on xs ns is e x k next len pre (i ∷ suf) p a c s n lt t =
      let ni : next ≡ i = n ∙ c.2.0 in record {
        pre = pre ++ x ∷ [];
        suf = suf;
        parts = p ∙ ap (λ m. pre ++ x ∷ m ∷ suf) (sym ni) ∙ sym (append_assoc pre (x ∷ []) (next ∷ suf));
        passed = subst (AllByRecursion (λ y. ahead y e ≡ true)) (sym (picked-append xs (pre ++ x ∷ []) (next ∷ []))) (All-append (λ y. ahead y e ≡ true) (picked xs (pre ++ x ∷ [])) (picked xs (next ∷ [])) a (one_passed xs e next (omega arith) t));
        chain = (refl, lt, subst (λ m. Chain ns (get_or ns m 0) suf) (sym ni) c.2.2);
        steps = let l = length-append pre (x ∷ []) in omega arith;
      }

  pub walk_steps : (xs : List X) (ns is : List ℕ) (e : X) (x k next : ℕ) → length xs ≡ length ns → next ≡ get_or ns x 0 → next < length ns → ((d : X) → ahead (get_or xs next d) e ≡ true) → Walked xs ns is e x k → Walked xs ns is e next (k + 1)
  walk_steps xs ns is e x k next len n lt t w = walk_on xs ns is e x k next len w.pre w.suf w.parts w.passed w.chain w.steps n lt t

  stop_here : (xs : List X) (ns : List ℕ) (e : X) (x next : ℕ) (suf : List ℕ) → length xs ≡ length ns → Chain ns x (x ∷ suf) → next ≡ get_or ns x 0 → (next < length ns → (d : X) → ahead (get_or xs next d) e ≡ false) → Stops ahead e (picked xs suf)
  stop_here xs ns e x next [] len c n f = tt
  stop_here xs ns e x next (i ∷ suf) len c n f =
      let ni : next ≡ i = n ∙ c.2.0 in
      subst (λ l. Stops ahead e (l ++ picked xs suf)) (sym (pick xs i e (omega (arith, c.2.1)))) (subst (λ m. ahead (get_or xs m e) e ≡ false) ni (f (omega (arith, c.2.1)) e))

  pub walk_stops : (xs : List X) (ns is : List ℕ) (e : X) (x k next : ℕ) → length xs ≡ length ns → next ≡ get_or ns x 0 → (next < length ns → (d : X) → ahead (get_or xs next d) e ≡ false) → Walked xs ns is e x k → Sought ahead xs is e x
  walk_stops xs ns is e x k next len n f w = record { pre = w.pre; suf = w.suf; parts = w.parts; passed = w.passed; stops = stop_here xs ns e x next w.suf len w.chain n f }

  front : (cs : List (Cell X)) (head : ℕ) (e : X) → ((d : X) → head < length cs → ahead (get_or (entries cs) head d) e ≡ false) → (ks : List ℕ) → Chain (nexts cs) head ks → inserted ahead e (picked (entries cs) ks) ≡ e ∷ picked (entries cs) ks
  unfolding inserted
  front cs head e f [] h = refl
  front cs head e f (k ∷ ks) h =
      let len : length (nexts cs) ≡ length cs = length-map cs (λ (c : Cell X). c.next) in
      let len' : length (entries cs) ≡ length cs = length-map cs (λ (c : Cell X). c.entry) in
      let at-k = pick (entries cs) k e (omega (arith, h.1)) in
      ap (λ l. inserted ahead e (l ++ picked (entries cs) ks)) at-k ∙ inserted_here o e (get_or (entries cs) k e) (picked (entries cs) ks) (subst (λ m. ahead (get_or (entries cs) m e) e ≡ false) h.0 (f e (omega (arith, h.0, h.1)))) ∙ sym (ap (λ l. e ∷ (l ++ picked (entries cs) ks)) at-k)

  -- ---- what `link` leaves

  module _ (cs : List (Cell X)) (is : List ℕ) (head new : ℕ) (e : X) (chain : Chain (nexts cs) head is) (out : In new is → ⊥) (lt : new < length cs) where
    -- e goes to the front
    pub linked_first : ((d : X) → head < length cs → ahead (get_or (entries cs) head d) e ≡ false) → Linked ahead cs (set cs new (record { entry = e; next = head })) is new e new
    linked_first f =
        let c : Cell X = record { entry = e; next = head } in
        let ns = nexts cs in
        let len : length ns ≡ length cs = length-map cs (λ (c : Cell X). c.next) in
        let len' : length (entries cs) ≡ length cs = length-map cs (λ (c : Cell X). c.entry) in
        let nis : nexts (set cs new c) ≡ set ns new head = map-set (λ (c : Cell X). c.next) cs new c in
        let eis : entries (set cs new c) ≡ set (entries cs) new e = map-set (λ (c : Cell X). c.entry) cs new c in
        let there : get_or (set ns new head) new 0 ≡ head = get_or-set_same ns new head 0 (omega arith) in
        let long = length-set ns new head in
        let rest : Chain (set ns new head) head is = chain_frame ns (set ns new head) head is long (λ j i. get_or-set_other ns new j head 0 (λ q. out (subst (λ m. In m is) q i))) chain in
        record {
          js = new ∷ is;
          chain = subst (λ l. Chain l new (new ∷ is)) (sym nis) (refl, omega arith, subst (λ m. Chain (set ns new head) m is) (sym there) rest);
          holds = ap (λ l. picked l (new ∷ is)) eis ∙ (λ m. pick (set (entries cs) new e) new e (omega (arith, length-set (entries cs) new e)) m ++ picked_else (entries cs) new e is out m)
              ∙ ap (λ y. y ∷ picked (entries cs) is) (get_or-set_same (entries cs) new e e (omega arith)) ∙ sym (front cs head e f is chain);
          from = λ i h. ⊎_elim inr inl h;
          size = refl;
          same = eis;
          frame = λ j a b. ap (λ l. get_or l j 0) nis ∙ get_or-set_other ns new j head 0 b;
        }

    -- e goes behind the cell x
    abbrev behind : ℕ → Cell X
    behind x = record { entry = e; next = get_or (nexts cs) x 0 }

    pub linked_behind : (x : ℕ) (d : Cell X) → Sought ahead (entries cs) is e x → Linked ahead cs (set (set cs new (behind x)) x (record { entry = (get_or (set cs new (behind x)) x d).entry; next = new })) is new e head
    unfolding splice
    linked_behind x d w =
        let ns = nexts cs in
        let xs = entries cs in
        let c : Cell X = record { entry = e; next = get_or ns x 0 } in
        let y = (get_or (set cs new c) x d).entry in
        let b : Cell X = record { entry = y; next = new } in
        let len : length ns ≡ length cs = length-map cs (λ (c : Cell X). c.next) in
        let len' : length xs ≡ length cs = length-map cs (λ (c : Cell X). c.entry) in
        let chain' : Chain ns head (w.pre ++ x ∷ w.suf) = subst (Chain ns head) w.parts chain in
        let out' : In new (w.pre ++ x ∷ w.suf) → ⊥ = λ i. out (subst (In new) (sym w.parts) i) in
        let xin : In x (w.pre ++ x ∷ w.suf) = in_middle w.pre w.suf x in
        let xlt : x < length ns = chain_below ns head x _ chain' xin in
        let ne : x ≡ new → ⊥ = λ q. out' (subst (λ m. In m (w.pre ++ x ∷ w.suf)) q xin) in
        let nis : nexts (set (set cs new c) x b) ≡ splice ns x new = map-set (λ (c : Cell X). c.next) (set cs new c) x b ∙ ap (λ l. set l x new) (map-set (λ (c : Cell X). c.next) cs new c) in
        let eis : entries (set (set cs new c) x b) ≡ set xs new e = map-set_same (λ (c : Cell X). c.entry) (set cs new c) x b d refl ∙ map-set (λ (c : Cell X). c.entry) cs new c in
        let new-at = pick (set xs new e) new e (omega (arith, length-set xs new e)) ∙ ap (λ z. z ∷ []) (get_or-set_same xs new e e (omega arith)) in
        record {
          js = w.pre ++ x ∷ new ∷ w.suf;
          chain = subst (λ l. Chain l head (w.pre ++ x ∷ new ∷ w.suf)) (sym nis) (chain_splice ns head x new w.pre w.suf chain' out' (omega arith));
          holds = ap (λ l. picked l (w.pre ++ x ∷ new ∷ w.suf)) eis
              ∙ ap (picked (set xs new e)) (sym (append_assoc w.pre (x ∷ []) (new ∷ w.suf)))
              ∙ picked-append (set xs new e) (w.pre ++ x ∷ []) (new ∷ w.suf)
              ∙ (λ m. picked_else xs new e (w.pre ++ x ∷ []) (λ i. out' (front_in w.pre w.suf x new i)) m ++ (new-at m ++ picked_else xs new e w.suf (λ i. out' (back_in w.pre w.suf x new i)) m))
              ∙ sym (ap (λ l. inserted ahead e (picked xs l)) (w.parts ∙ sym (append_assoc w.pre (x ∷ []) w.suf)) ∙ ap (inserted ahead e) (picked-append xs (w.pre ++ x ∷ []) w.suf) ∙ inserted_between e (picked xs (w.pre ++ x ∷ [])) (picked xs w.suf) w.passed w.stops);
          from = λ i h. ⊎_elim (λ k. inl (subst (In i) (sym w.parts) k)) inr (in_splice w.pre w.suf x new i h);
          size = let p = ap length w.parts in let q = length-append w.pre (x ∷ w.suf) in let r = length-append w.pre (x ∷ new ∷ w.suf) in omega arith;
          same = eis;
          frame = λ j a n. ap (λ l. get_or l j 0) nis ∙ splice_else ns x new j (λ q. a (subst (In j) (sym w.parts) (subst (λ m. In m (w.pre ++ x ∷ w.suf)) (sym q) xin))) n;
        }

pub length-nexts : {X : Type 0} (cs : List (Cell X)) → length (nexts cs) ≡ length cs
length-nexts {X} cs = length-map cs (λ (c : Cell X). c.next)

pub length-entries : {X : Type 0} (cs : List (Cell X)) → length (entries cs) ≡ length cs
length-entries {X} cs = length-map cs (λ (c : Cell X). c.entry)

pub next_of : {X : Type 0} (cs : List (Cell X)) (x : ℕ) (c : Cell X) → x < length cs → (get_or cs x c).next ≡ get_or (nexts cs) x 0
next_of {X} cs x c lt = sym (get_or-map (λ (c : Cell X). c.next) cs x c 0 lt)
