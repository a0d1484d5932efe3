-- What items of a list give, written one after another where their places say.
use Rattle.std.proofs.Common.{◌≡◌, ℕ, ◌+◌, ◌<◌, ◌≤◌, List, [], ◌∷◌, ◌++◌, map, length, get_or, take, drop, set, sym, ap, ◌∙◌, arith}
use Rattle.std.specs.List.{enumerate_from}
use Rattle.std.proofs.lemmas.List.{get_or-map, take_more, length-map}
use Rattle.std.proofs.lemmas.List.FromFn.{length-enumerate_from, get_or-enumerate_from}
use Rattle.answers.proofs.Listing.{write_more}

module _ {X : Type 0} (f : ℕ → X) (ks : List ℕ) (k place row : ℕ) (h : k < length (enumerate_from 0 ks)) (e : ◌≡◌ {A = ℕ × ℕ} (place, row) (get_or (enumerate_from 0 ks) k (place, row))) where
  inside : k < length ks
  inside = omega (arith, length-enumerate_from 0 ks)

  item : ◌≡◌ {A = ℕ × ℕ} (place, row) (0 + k, get_or ks k row)
  item = e ∙ get_or-enumerate_from 0 ks k (place, row) inside

  place_is : place ≡ k
  place_is = omega (arith, ap (λ (p : ℕ × ℕ). p.0) item)

  pub fits : (n : ℕ) → length ks ≤ n → place < n
  fits n r = omega (arith, place_is, inside)

  pub one_more : (out out₀ : List X) (x : X) → length ks ≤ length out → x ≡ f row → take k out ≡ take k (map f ks) → drop k out ≡ drop k out₀
      → (take (k + 1) (set out place x) ≡ take (k + 1) (map f ks)) × (drop (k + 1) (set out place x) ≡ drop (k + 1) out₀)
  one_more out out₀ x r q t d =
      let z = write_more (take k (map f ks)) out out₀ k x (omega (arith, inside)) t d in
      let y : get_or (map f ks) k x ≡ x = get_or-map f ks k row x inside ∙ ap f (sym (ap (λ (p : ℕ × ℕ). p.1) item)) ∙ sym q in
      let m : take (k + 1) (map f ks) ≡ take k (map f ks) ++ x ∷ [] = take_more (map f ks) k x (omega (arith, inside, length-map ks f)) ∙ ap (λ (a : X). take k (map f ks) ++ a ∷ []) y in
      rw place_is (z.0 ∙ sym m, z.1)
