-- A minute of an hour, in two digits.
use Rattle.std.proofs.Common.{refl, ◌≡◌, ℕ, ◌+◌, ◌/◌, ◌%◌, ◌<◌, ◌≤◌, List, [], ◌∷◌, ◌++◌, sym, ap, ◌∙◌, ap₂, arith, false, append_assoc, inl, inr}
use Rattle.std.proofs.lemmas.Bool.{cases_lt, ne_eqb}
use Rattle.std.proofs.lemmas.List.{append-nil}
use Rattle.std.proofs.lemmas.Fmt.{decimal_digit, decimal_step}
use Rattle.std.specs.Fmt.{decimal, styled_decimal, format_spec, padded_integral, char_count}
use Rattle.listing.specs.Text.{moment_text}

-- `{:02}`
abbrev two_wide : ℕ → List ℕ
two_wide n = styled_decimal (format_spec 32 0 4 2 18446744073709551615) n

padded_one : (a : ℕ) → padded_integral (format_spec 32 0 4 2 18446744073709551615) false [] (a ∷ []) ≡ 48 ∷ a ∷ []
unfolding padded_integral char_count
padded_one a = refl

padded_two : (a b : ℕ) → padded_integral (format_spec 32 0 4 2 18446744073709551615) false [] (a ∷ b ∷ []) ≡ a ∷ b ∷ []
unfolding padded_integral char_count
padded_two a b = refl

pub two_digits : (n : ℕ) → n < 100 → two_wide n ≡ decimal (n / 10) ++ decimal (n % 10)
two_digits n h = elim (cases_lt n 10) [ inl l ↦ one l | inr l ↦ two l ]
  where
    one : n < 10 → two_wide n ≡ decimal (n / 10) ++ decimal (n % 10)
    one l =
        let z : n / 10 ≡ 0 = omega arith in
        let m : n % 10 ≡ n = omega arith in
        let d = decimal_digit n l in
        ap (padded_integral (format_spec 32 0 4 2 18446744073709551615) false []) d ∙ (padded_one (48 + n) ∙ ap₂ ◌++◌ (sym (ap decimal z ∙ decimal_digit 0 (omega arith))) (sym (ap decimal m ∙ d)))

    two : 10 ≤ n → two_wide n ≡ decimal (n / 10) ++ decimal (n % 10)
    two l =
        let d = decimal_digit (n / 10) (omega arith) in
        let e = decimal_digit (n % 10) (omega arith) in
        let s = decimal_step n l (omega arith) in
        ap (padded_integral (format_spec 32 0 4 2 18446744073709551615) false []) (s ∙ ap (λ x. x ++ ((48 + n % 10) ∷ [])) d) ∙ (padded_two (48 + n / 10) (48 + n % 10) ∙ ap₂ ◌++◌ (sym d) (sym e))

last_digit : (m : ℕ) → m % 60 % 10 ≡ m % 10
last_digit m = omega arith

pub first_day : (m : ℕ) → m / 1440 ≡ 0 → decimal (m % 1440 / 60) ++ (58 ∷ two_wide (m % 60)) ≡ moment_text 1440 m
first_day m d =
    let t = two_digits (m % 60) (omega arith) ∙ ap (λ k. decimal (m % 60 / 10) ++ decimal k) (last_digit m) in
    rw (t, d, append-nil)

pub later_day : (m : ℕ) → (m / 1440 ≡ 0 → ⊥) → decimal (m % 1440 / 60) ++ (58 ∷ (two_wide (m % 60) ++ (32 ∷ 43 ∷ decimal (m / 1440)))) ≡ moment_text 1440 m
later_day m d =
    let t = two_digits (m % 60) (omega arith) ∙ ap (λ k. decimal (m % 60 / 10) ++ decimal k) (last_digit m) in
    let f = ne_eqb (m / 1440) 0 d in
    rw (t, f, append_assoc)
