-- One turn of the search's loop, and its end.
use Rattle.std.proofs.Common.{◌≡◌, ℕ, ◌+◌, ◌-◌, ◌*◌, ◌<◌, ◌≤◌, true, false, cond, ◌⊎◌, List, [], ◌∷◌, ◌++◌, map, length, sym, refl, ap, ◌∙◌, subst, inl, inr, ⊎_elim, add-one, arith, length-set}
use lib.ListN.{length-map}
use Rattle.std.proofs.lemmas.Bool.{cases_eq, cases_lt, cond_both, cond-true, cond-false, eq-eqb, ne_eqb}
use Rattle.timetable.specs.declared.label.Label.{Label}
use Rattle.timetable.specs.Table.{Table, Lawful, connections}
use Rattle.timetable.specs.Labels.{ranks, places, Leads}
use Rattle.timetable.specs.Rows.{blank, width, IsEntry, Rows, entry as cell}
use Rattle.entries.specs.declared.label.LabelEntry.{LabelEntry}
use Rattle.entries.specs.Kinds.{label_ahead}
use Rattle.journeys.specs.Search.{Entry, entry, Mem, here, Puts, Step, skip, settle, State, then, Done}
use Rattle.journeys.specs.Theorems.{ways, SettledExactly, Small}
use Rattle.journeys.specs.Queued.{leads, ever_put}
use Rattle.journeys.proofs.Queued.{leads-put, leads-length}
use Rattle.journeys.proofs.Steps.{push_old, push_new, pushed, ends}
use Rattle.journeys.proofs.Sizes.{search_small}
use Rattle.journeys.proofs.Puts.{puts_few}
use Rattle.journeys.proofs.Exactly.{running, exactly}
use Rattle.journeys.proofs.Finished.{Met, met}
use Rattle.journeys.proofs.Ways.{forward, labels}
use Rattle.journeys.proofs.Whole.{less_left}
use Rattle.turns.specs.Seen.{seen, waiting}
use Rattle.turns.specs.Counts.{is_blank}
use Rattle.turns.specs.Cells.{Settled}
use Rattle.turns.specs.Running.{labels_in, Holds, Turn, turns_left}
use Rattle.turns.specs.Theorems.{First, with_label, with_leads, DropKeeps, SettleKeeps, EndGivesRows, FewWritten}
use Rattle.turns.proofs.Added.{put_all_length}
use Rattle.turns.proofs.Sums.{grid-at, grid_bound}
use Rattle.turns.proofs.Led.{led_more}
use Rattle.turns.proofs.Cells.{Wrote, wrote, wrote_head, wrote_later}
use Rattle.turns.proofs.Members.{takes_first, mem-put, put-mem}

pub few_written : FewWritten
few_written t s room before memory queue written turn =
    omega (
      arith,
      turn.count,
      grid_bound (λ i p. cond {A = ℕ} (is_blank (cell t memory i p)) 0 1) (ranks t s) (places t) 1
          (λ i p h k. cond_both {A = ℕ} (is_blank (cell t memory i p)) 0 1 (λ z. z ≤ 1) (λ _. omega arith) (λ _. omega arith)),
    )

module _ (t : Table) (law : Lawful t) (s room : ℕ) (before : List Label) where
  module _ (memory : List Label) (x : LabelEntry) (rest : List LabelEntry) (written : ℕ) (turn : Turn t s room before memory (x ∷ rest) written) where
    small : Small t s turn.done (map seen (x ∷ rest))
    small = search_small t law s turn.done (map seen (x ∷ rest)) turn.state

    -- the entry taken: its minute is small, and its rank and place are the timetable's
    pub first_small : (x.minute < 400000000) × (x.rank.0 < ranks t s) × (x.place.0 < places t)
    first_small = small.queued (seen x) here

    -- dropped: its rank or a higher one has a label at its place
    drops : First x rest → Settled (ranks t s) (cell t memory) x.rank.0 x.place.0 true → Turn t s room before memory rest written
    drops a (j, h, k, ne) = record {
      done = turn.done;
      state = then turn.state (barred (turn.holds.back j x.place.0 k first_small.2));
      holds = turn.holds;
      count = turn.count;
      put = omega (arith, turn.put);
      fits = turn.fits;
      long = turn.long;
      heads = turn.heads;
      same_length = turn.same_length;
      later = turn.later;
    }
      where
        barred : (cell t memory j x.place.0 ≡ blank) ⊎ Mem (entry (cell t memory j x.place.0).minute j x.place.0 (cell t memory j x.place.0).origin) turn.done → Step (ways t s) turn.done (map seen (x ∷ rest)) turn.done (map seen rest)
        barred (inl e) = absurd (ne (ap (λ (l : Label). l.minute) e))
        barred (inr m) = skip (seen x) (entry (cell t memory j x.place.0).minute j x.place.0 (cell t memory j x.place.0).origin) (takes_first x rest a) m refl h

    module _ (free : Settled (ranks t s) (cell t memory) x.rank.0 x.place.0 false) (first : First x rest) where
      mine : (cell t memory x.rank.0 x.place.0).minute ≡ 4294967295
      mine = free x.rank.0 (omega arith) first_small.1

      lower : (g : Entry) → Mem g turn.done → g.place ≡ x.place.0 → g.rank < x.rank.0
      lower g m e = ⊎_elim (λ h. h) (λ h. absurd (clash h)) (cases_lt g.rank x.rank.0)
        where
          clash : x.rank.0 ≤ g.rank → ⊥
          clash h =
              let a : (cell t memory g.rank g.place).minute ≡ g.minute = ap (λ (l : Label). l.minute) (turn.holds.there g m) in
              let b : (cell t memory g.rank g.place).minute ≡ 4294967295 = subst (λ (p : ℕ). (cell t memory g.rank p).minute ≡ 4294967295) (sym e) (free g.rank h (small.settled g m).1) in
              omega (arith, (small.settled g m).0)

      abbrev label : Label
      label = record { minute = x.minute; origin = x.origin.0 }

      abbrev memory' : List Label
      memory' = with_label t memory x

      wrote' : Wrote (ranks t s) (places t) (cell t memory) (cell t memory') x.rank.0 x.place.0 label
      wrote' = wrote (ranks t s) (places t) x.rank.0 x.place.0 first_small.1 first_small.2 label memory turn.long

      count_more : labels_in t s memory' ≡ labels_in t s memory + 1
      count_more =
          let g = λ (i p : ℕ). cond {A = ℕ} (is_blank (cell t memory i p)) 0 1 in
          let f = λ (i p : ℕ). cond {A = ℕ} (is_blank (cell t memory' i p)) 0 1 in
          let e : g x.rank.0 x.place.0 ≡ 0 = cond-true {A = ℕ} (is_blank (cell t memory x.rank.0 x.place.0)) 0 1 (eq-eqb _ _ mine) in
          let d : f x.rank.0 x.place.0 ≡ 1 = cond-false {A = ℕ} (is_blank (cell t memory' x.rank.0 x.place.0)) 0 1 (ne_eqb _ _ (λ z. omega (arith, first_small.0, ap (λ (l : Label). l.minute) wrote'.same))) in
          omega (arith, grid-at f g x.rank.0 x.place.0 (ranks t s) (places t) first_small.1 first_small.2 (λ j q hj hq ne. ap (λ (l : Label). cond {A = ℕ} (is_blank l) 0 1) (wrote'.other j q hj hq ne)))

      abbrev done' : List Entry
      done' = turn.done ++ (seen x ∷ [])

      abbrev Back : ℕ → ℕ → Label → Type 0
      Back i p l = (l ≡ blank) ⊎ Mem (entry l.minute i p l.origin) done'

      holds' : Holds (ranks t s) (places t) (cell t memory') done'
      holds' = record {
        there = pushed (λ e. cell t memory' e.rank e.place ≡ record { minute = e.minute; origin = e.origin }) (seen x) turn.done (λ g m. kept g m) wrote'.same;
        back = λ i p hi hp. place i p hi hp (cases_eq i x.rank.0) (cases_eq p x.place.0);
      }
        where
          kept : (g : Entry) → Mem g turn.done → cell t memory' g.rank g.place ≡ record { minute = g.minute; origin = g.origin }
          kept g m = wrote'.other g.rank g.place (small.settled g m).1 (small.settled g m).2 (λ r p. omega (arith, lower g m p)) ∙ turn.holds.there g m

          old : (i p : ℕ) (l : Label) → (l ≡ blank) ⊎ Mem (entry l.minute i p l.origin) turn.done → Back i p l
          old i p l (inl e) = inl e
          old i p l (inr m) = inr (push_old (seen x) m)

          elsewhere : (i p : ℕ) → i < ranks t s → p < places t → (i ≡ x.rank.0 → p ≡ x.place.0 → ⊥) → Back i p (cell t memory' i p)
          elsewhere i p hi hp ne = subst (Back i p) (sym (wrote'.other i p hi hp ne)) (old i p (cell t memory i p) (turn.holds.back i p hi hp))

          place : (i p : ℕ) → i < ranks t s → p < places t → (i ≡ x.rank.0) ⊎ (i ≡ x.rank.0 → ⊥) → (p ≡ x.place.0) ⊎ (p ≡ x.place.0 → ⊥) → Back i p (cell t memory' i p)
          place i p hi hp (inr ne) d = elsewhere i p hi hp (λ e _. ne e)
          place i p hi hp (inl e) (inr ne) = elsewhere i p hi hp (λ _ d. ne d)
          place i p hi hp (inl e) (inl d) = subst (λ (k : ℕ). Back k p (cell t memory' k p)) (sym e) (subst (λ (k : ℕ). Back x.rank.0 k (cell t memory' x.rank.0 k)) (sym d) (subst (Back x.rank.0 x.place.0) (sym wrote'.same) (inr (push_new (seen x) turn.done))))

      puts' : Puts (ways t s) (seen x) (map seen rest) (map seen (with_leads t x rest))
      puts' = let u = leads-put t law s (seen x) (map seen rest) in record {
        kept = λ e m. mem-put label_ahead e (leads t (seen x)) rest (u.kept e m);
        put = λ e n. mem-put label_ahead e (leads t (seen x)) rest (u.put e n);
        only = λ e m. u.only e (put-mem label_ahead e (leads t (seen x)) rest m);
      }

      state' : State (ways t s) done' (map seen (with_leads t x rest))
      state' = then turn.state (settle (seen x) (takes_first x rest first) lower puts')

      ever : ever_put t s done' ≡ ever_put t s turn.done + length (leads t (seen x))
      ever = omega (arith, led_more t turn.done (seen x))

      longer : length (with_leads t x rest) ≡ length (leads t (seen x)) + length rest
      longer = omega (arith, put_all_length label_ahead (map waiting (leads t (seen x))) rest, length-map (leads t (seen x)) waiting)

      -- so there is room for what it leads to
      pub leads_fit : length (leads t (seen x)) + length rest ≤ room
      leads_fit = omega (arith, turn.put, turn.fits, ever, puts_few t law s done' (map seen (with_leads t x rest)) state')

      -- settled: written, and what it leads to is put
      pub settles : Turn t s room before memory' (with_leads t x rest) (written + 1)
      settles = record {
        done = done';
        state = state';
        holds = holds';
        count = omega (arith, turn.count, count_more);
        put = omega (arith, turn.put, ever, longer);
        fits = turn.fits;
        long = omega (arith, turn.long, length-set memory (x.rank.0 * width t + (1 + x.place.0)) label);
        heads = λ i h. wrote_head (ranks t s) (places t) x.rank.0 x.place.0 first_small.1 first_small.2 label memory turn.long i ∙ turn.heads i h;
        same_length = length-set memory (x.rank.0 * width t + (1 + x.place.0)) label ∙ turn.same_length;
        later = wrote_later (ranks t s) (places t) x.rank.0 x.place.0 first_small.1 first_small.2 label memory turn.long ∙ turn.later;
      }

      pub settles_less : turns_left t s (with_leads t x rest) (written + 1) < turns_left t s (x ∷ rest) written
      settles_less = omega (
        arith,
        longer,
        ap (λ (k : ℕ). (ranks t s * places t - k) * (3 * connections t + 1)) (add-one written),
        less_left (ranks t s * places t) written (3 * connections t) (length (x ∷ rest)) (length rest) (length (leads t (seen x))) (omega (arith, few_written t s room before memory' (with_leads t x rest) (written + 1) settles)) (omega (arith, leads-length t (seen x))) refl,
      )

  -- the end
  module _ (memory : List Label) (written : ℕ) (turn : Turn t s room before memory [] written) where
    whole : Done (ways t s) turn.done
    whole = ends (ways t s) (forward t law s) turn.done (running t law s turn.state)

    exact : SettledExactly t s turn.done
    exact = exactly t law s turn.done whole

    -- a leading label is settled
    leading : (i p n : ℕ) → Leads t s i p n → (g : Entry) × Mem g turn.done × (g.rank ≡ i) × (g.place ≡ p)
    leading i p n b = by_rank (cases_lt i a.by.rank)
      where
        a : Met (ways t s) (forward t law s) turn.done whole i p n
        a = met (ways t s) (forward t law s) turn.done whole i p n ((labels t law s i p n).1 b.label).reached

        by_rank : (i < a.by.rank) ⊎ (a.by.rank ≤ i) → (g : Entry) × Mem g turn.done × (g.rank ≡ i) × (g.place ≡ p)
        by_rank (inl h) = absurd (omega (arith, b.in_front a.by.rank a.by.minute h (rw a.same at ((exact a.by).0 a.settled).0.label), a.sooner))
        by_rank (inr h) = (a.by, a.settled, omega (arith, a.higher), a.same)

    rows : Rows t s memory
    rows = record { long_enough = turn.long; heads = turn.heads; entries = λ i p hi hp. is_entry i p hi hp (turn.holds.back i p hi hp) }
      where
        none : (i p n : ℕ) → cell t memory i p ≡ blank → (g : Entry) × Mem g turn.done × (g.rank ≡ i) × (g.place ≡ p) → ⊥
        none i p n e (g, m, r, q) =
            let a : (cell t memory g.rank g.place).minute ≡ g.minute = ap (λ (l : Label). l.minute) (turn.holds.there g m) in
            let b : (cell t memory g.rank g.place).minute ≡ 4294967295 = rw (r, q) (ap (λ (l : Label). l.minute) e) in
            omega (arith, ((search_small t law s turn.done [] turn.state).settled g m).0)

        is_entry : (i p : ℕ) → i < ranks t s → p < places t → (cell t memory i p ≡ blank) ⊎ Mem (entry (cell t memory i p).minute i p (cell t memory i p).origin) turn.done → IsEntry t s i p (cell t memory i p)
        is_entry i p hi hp (inr m) = inl ((exact (entry (cell t memory i p).minute i p (cell t memory i p).origin)).0 m)
        is_entry i p hi hp (inl e) = inr (e, λ n b. none i p n e (leading i p n b))

pub drop_keeps : DropKeeps
drop_keeps t law s room before memory x rest written turn first settled = drops t law s room before memory x rest written turn first settled

pub settle_keeps : SettleKeeps
settle_keeps t law s room before memory x rest written turn first free = record {
  keeps = settles t law s room before memory x rest written turn free first;
  lowers = settles_less t law s room before memory x rest written turn free first;
  has_room = leads_fit t law s room before memory x rest written turn free first;
}

pub end_gives_rows : EndGivesRows
end_gives_rows t law s room before memory written turn = rows t law s room before memory written turn
