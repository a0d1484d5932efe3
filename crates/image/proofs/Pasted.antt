-- A loop that writes one piece of w bytes after another.
use Rattle.std.proofs.Common.{◌≡◌, ℕ, ◌+◌, ◌*◌, ◌<◌, ◌≤◌, List, [], ◌∷◌, ◌++◌, map, length, get_or, take, drop, sym, refl, ap, ◌∙◌, ap₂, arith, length-append}
use lib.Seq.{paste}
use Rattle.std.specs.List.{flat_map, concat}
use Rattle.std.proofs.lemmas.List.{take_more, append_assoc, append-nil}
use Rattle.std.proofs.lemmas.List.Folds.{concat-append, flat_map-map}
use Rattle.std.proofs.lemmas.List.Concat.{concat_is}
use Rattle.std.proofs.lemmas.List.Edits.{paste-paste, paste_all}
use Rattle.timetable.specs.Table.{Table, stations, connections}
use Rattle.image.specs.Written.{number_bytes, record_bytes, header_bytes, written}

module _ {X : Type 0} (f : X → List ℕ) (w : ℕ) (wide : (x : X) → length (f x) ≡ w) where
  pub length_joined : (xs : List X) → length (flat_map f xs) ≡ w * length xs
  length_joined [] = omega arith
  length_joined (x ∷ xs) = length-append (f x) (flat_map f xs) ∙ omega (arith, wide x, length_joined xs)

-- one piece more, of the width w of those before it
pub put_one : (d : List ℕ) (p w i : ℕ) (xs : List (List ℕ)) (o o' b : List ℕ) (q : ℕ) → i < length xs → p ≤ length d → length (concat (take i xs)) ≡ w * i → o ≡ paste d p (concat (take i xs)) (w * i) → q ≡ p + w * i → b ≡ get_or xs i [] → length b ≡ w → o' ≡ paste o q b (length b) → (length (concat (take (i + 1) xs)) ≡ w * (i + 1)) × (o' ≡ paste d p (concat (take (i + 1) xs)) (w * (i + 1)))
put_one d p w i xs o o' b q l h long inv at piece wide put =
    let done = concat (take i xs) in
    let more : concat (take (i + 1) xs) ≡ done ++ b = ap concat (take_more xs i [] l) ∙ (concat-append (take i xs) (get_or xs i [] ∷ []) ∙ ap (λ z. done ++ z) (append-nil (get_or xs i []) ∙ sym piece)) in
    let e = paste-paste d p done b (w * i) w (sym long) (sym wide) h in
    let m : w * i + w ≡ w * (i + 1) = omega arith in (
      ap length more ∙ (length-append done b ∙ omega (arith, long, wide)),
      put ∙ (ap (λ x. paste x q b (length b)) inv ∙ (ap₂ (λ x y. paste (paste d p done (w * i)) x b y) at wide ∙ (e ∙ ap₂ (paste d p) (sym more) m))),
    )

pub concat-map : {X : Type 0} (f : X → List ℕ) (xs : List X) → concat (map f xs) ≡ flat_map f xs
concat-map f xs = concat_is (map f xs) ∙ flat_map-map (λ x. x) f xs

pub length-written : (t : Table) → length (written t) ≡ 16 + 2 * stations t + 12 * connections t
length-written t =
    let e = length-append (flat_map number_bytes t.transfers) (flat_map record_bytes t.list) in
    let a = length_joined number_bytes 2 (λ _. refl) t.transfers in
    let b = length_joined record_bytes 12 (λ _. refl) t.list in
    omega arith

-- the three parts that `write` writes are the whole
pub whole : (t : Table) (d o₁ o₂ o₃ : List ℕ) → 16 + 2 * stations t + 12 * connections t ≤ length d → o₁ ≡ paste d 0 (header_bytes t) 16 → o₂ ≡ paste o₁ 16 (flat_map number_bytes t.transfers) (2 * stations t) → o₃ ≡ paste o₂ (16 + 2 * stations t) (flat_map record_bytes t.list) (12 * connections t) → o₃ ≡ written t ++ drop (length (written t)) d
whole t d o₁ o₂ o₃ fits e₁ e₂ e₃ =
    let s = stations t in
    let n = connections t in
    let j = flat_map number_bytes t.transfers in
    let k = flat_map record_bytes t.list in
    let lj : 2 * s ≡ length j = sym (length_joined number_bytes 2 (λ _. refl) t.transfers) in
    let lk : 12 * n ≡ length k = sym (length_joined record_bytes 12 (λ _. refl) t.list) in
    let p₁ : paste (paste d 0 (header_bytes t) 16) 16 j (2 * s) ≡ paste d 0 (header_bytes t ++ j) (16 + 2 * s) = paste-paste d 0 (header_bytes t) j 16 (2 * s) refl lj (omega arith) in
    let lh : 16 + 2 * s ≡ length (header_bytes t ++ j) = omega (arith, length-append (header_bytes t) j) in
    let p₂ : paste (paste d 0 (header_bytes t ++ j) (16 + 2 * s)) (0 + (16 + 2 * s)) k (12 * n) ≡ paste d 0 ((header_bytes t ++ j) ++ k) (16 + 2 * s + 12 * n) = paste-paste d 0 (header_bytes t ++ j) k (16 + 2 * s) (12 * n) lh lk (omega arith) in
    let q : 16 + 2 * s ≡ 0 + (16 + 2 * s) = omega arith in
    let o : o₂ ≡ paste d 0 (header_bytes t ++ j) (16 + 2 * s) = e₂ ∙ (ap (λ x. paste x 16 j (2 * s)) e₁ ∙ p₁) in
    let all : paste d 0 ((header_bytes t ++ j) ++ k) (16 + 2 * s + 12 * n) ≡ ((header_bytes t ++ j) ++ k) ++ drop (0 + (16 + 2 * s + 12 * n)) d = paste_all d 0 ((header_bytes t ++ j) ++ k) (16 + 2 * s + 12 * n) (omega (arith, length-append (header_bytes t ++ j) k)) in
    let z : 0 + (16 + 2 * s + 12 * n) ≡ length (written t) = omega (arith, length-written t) in
    e₃ ∙ (ap₂ (λ x y. paste x y k (12 * n)) o q ∙ (p₂ ∙ (all ∙ ap₂ (λ x y. x ++ drop y d) (append_assoc (header_bytes t) j k) z)))
