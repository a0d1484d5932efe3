-- Opening the rows, one after another.
use Rattle.std.proofs.Common.{rules, replicate, ◌-◌, ◌≡◌, ℕ, ◌+◌, ◌*◌, ◌<◌, ◌≤◌, cond, List, [], ◌∷◌, map, length, drop, set, sym, refl, ap, ◌∙◌, subst, inl, inr, ⊎_elim, add-one, arith, length-drop, length-set}
use lib.ListN.{length-map}
use borrow.Rule.Slice.PartMut.{put_mid}
use Rattle.std.proofs.lemmas.Slice.{overwrites, drop-put_mid}
use Rattle.std.proofs.lemmas.List.{places as by_place, length-replicate, get_or-set_same, get_or-set_other, drop-set-lt, drop_more}
use Rattle.std.proofs.lemmas.Bool.{cases_eq}
use Rattle.std.proofs.lemmas.Nat.{mul-le}
use Rattle.timetable.specs.declared.label.Label.{Label}
use Rattle.timetable.specs.Table.{Table, Lawful, stations, connections}
use Rattle.timetable.specs.Labels.{firsts, ranks, rank_connection, places}
use Rattle.timetable.specs.Rows.{blank, width, entry as cell}
use Rattle.entries.specs.declared.board.BoardEntry.{BoardEntry}
use Rattle.entries.specs.declared.label.LabelEntry.{LabelEntry}
use Rattle.entries.specs.Kinds.{label_ahead}
use Rattle.journeys.specs.Search.{entry, nowhere, Begins, start}
use Rattle.journeys.specs.Theorems.{ways}
use Rattle.journeys.specs.Queued.{each, opening}
use Rattle.journeys.proofs.Queued.{join_left, join_parts, opening_begins}
use Rattle.journeys.proofs.Steps.{nobody}
use Rattle.turns.specs.Seen.{seen, waiting}
use Rattle.turns.specs.Puts.{put_all}
use Rattle.turns.specs.Counts.{is_blank}
use Rattle.turns.specs.Cells.{Blanked, RowOpened}
use Rattle.turns.specs.Running.{queue_needed, memory_needed, labels_in, Turn}
use Rattle.turns.specs.Opening.{board_entry, opening_at, Opening}
use Rattle.turns.specs.Theorems.{OpeningIsTurn}
use Rattle.turns.proofs.Added.{put_all_length, put_all_append}
use Rattle.turns.proofs.Sums.{grid_bound}
use Rattle.turns.proofs.Led.{each-count}
use Rattle.turns.proofs.Members.{mem-put, put-mem}

-- ---- one row

blanked : (from to : ℕ) (before part : List Label) → from ≤ to → to ≤ length before → part ≡ replicate (to - from) blank → Blanked from to before (put_mid from (to - from) before part)
blanked from to before part h l e =
    let long : length part ≡ to - from = ap length e ∙ length-replicate (to - from) blank in
    record {
      same_length = search (rules, overwrites);
      earlier = λ k m. search (rules, by_place);
      blanks = λ k m n. search (rules, by_place);
      later = λ n m. drop-put_mid from (to - from) before part n (omega arith) (omega arith) long;
    }

-- no entry is made blank
pub blanked_none : (from : ℕ) (before : List Label) → Blanked from from before before
blanked_none from before = record { same_length = refl; earlier = λ k h. refl; blanks = λ k h l. absurd (omega arith); later = λ n h. refl }

-- after those up to k, entry k too
pub blanked_more : (from k : ℕ) (before after : List Label) → from ≤ k → k < length after → Blanked from k before after → Blanked from (k + 1) before (set after k blank)
blanked_more from k before after h l b = record {
  same_length = length-set after k blank ∙ b.same_length;
  earlier = λ j e. get_or-set_other after k j blank blank (λ z. omega arith) ∙ b.earlier j e;
  blanks = λ j e f. elim (cases_eq j k) [ inl z ↦ rw z (get_or-set_same after k blank blank l) | inr z ↦ get_or-set_other after k j blank blank z ∙ b.blanks j e (omega arith) ];
  later = λ n e. drop-set-lt n after k blank (omega arith) ∙ b.later n (omega arith);
}

pub row_end : (m n i : ℕ) → i < m → i * (n + 1) + (n + 1) ≤ m * (n + 1)
row_end m n i h = omega (arith, mul-le (i + 1) (n + 1) m (n + 1) (omega arith) (omega arith))

-- the row was made blank, and then its head written
pub row_opened : (n i : ℕ) (h : Label) (before part : List Label) (end : ℕ) → end ≡ i * (n + 1) + (n + 1) → end ≤ length before → part ≡ replicate (end - i * (n + 1)) blank → RowOpened (n + 1) i h before (set (put_mid (i * (n + 1)) (end - i * (n + 1)) before part) (i * (n + 1)) h)
row_opened n i h before part end z l e =
    let w = n + 1 in
    let cleared = put_mid (i * w) (end - i * w) before part in
    let b = blanked (i * w) end before part (omega arith) l e in
    record {
      same_length = length-set cleared (i * w) h ∙ b.same_length;
      earlier = λ k m. get_or-set_other cleared (i * w) k h blank (λ y. omega arith) ∙ b.earlier k m;
      heads = get_or-set_same cleared (i * w) h blank (omega (arith, b.same_length));
      blanks = λ p m. get_or-set_other cleared (i * w) (i * w + (1 + p)) h blank (λ y. omega arith) ∙ b.blanks (i * w + (1 + p)) (omega arith) (omega arith);
      later = λ k m. drop-set-lt k cleared (i * w) h (omega arith) ∙ b.later k (omega arith);
    }

-- ---- all rows

queue_length : (t : Table) (s : ℕ) (queue : List LabelEntry) (rank : ℕ) → queue ≡ put_all label_ahead (map waiting (each (opening_at t s) rank)) [] → length queue ≡ rank
queue_length t s queue rank e = omega (arith, ap length e, put_all_length label_ahead (map waiting (each (opening_at t s) rank)) [], length-map (each (opening_at t s) rank) waiting, each-count (opening_at t s) rank (λ i. refl))

module _ {t : Table} (law : Lawful t) {s : ℕ} {before : List Label} where
  module _ {memory : List Label} {board board' : List BoardEntry} {queue : List LabelEntry} {rank : ℕ} {first : BoardEntry} (o : Opening t s before memory board queue rank) (taken : board ≡ first ∷ board') where
    pub rank_below : rank < ranks t s
    rank_below = omega (arith, ap length taken, ap length o.on_board, length-map (drop rank (firsts t s)) (board_entry t), length-drop rank (firsts t s))

    split : first ∷ board' ≡ board_entry t (rank_connection t s rank) ∷ map (board_entry t) (drop (rank + 1) (firsts t s))
    split = sym taken ∙ o.on_board ∙ ap (map (board_entry t)) (drop_more (firsts t s) rank 0 rank_below)

    first_is : first ≡ board_entry t (rank_connection t s rank)
    first_is = let z = split in cc

    rest_is : board' ≡ map (board_entry t) (drop (rank + 1) (firsts t s))
    rest_is = let z = split in cc

    pub has_room : {room : ℕ} → queue_needed t s ≤ room → length queue < room
    has_room h = omega (arith, queue_length t s queue rank o.queued, rank_below, mul-le (ranks t s) 1 (ranks t s) (3 * connections t + 1) (omega arith) (omega arith))

    module _ {memory' : List Label} {queue' : List LabelEntry}
        (opened : RowOpened (width t) rank (record { minute = first.minute; origin = first.connection.0 }) memory memory')
        (put : queue' ≡ put_all label_ahead (waiting (entry first.minute rank (stations t + first.connection.0) nowhere) ∷ []) queue) where
      pub opens_more : Opening t s before memory' board' queue' (rank + 1)
      opens_more = record {
        below = omega (arith, rank_below);
        on_board = rest_is;
        queued = queued';
        long = omega (arith, o.long, opened.same_length);
        heads = λ i h. elim (cases_eq i rank) [ inl e ↦ rw e (opened.heads ∙ ap (λ (b : BoardEntry). record { minute = b.minute; origin = b.connection.0 }) first_is) | inr e ↦ opened.earlier (i * width t) (omega (arith, row_end rank (places t) i (omega arith))) ∙ o.heads i (omega arith) ];
        blanks = λ i p h k. elim (cases_eq i rank) [ inl e ↦ rw e (opened.blanks p (omega arith)) | inr e ↦ opened.earlier (i * width t + (1 + p)) (omega (arith, row_end rank (places t) i (omega arith))) ∙ o.blanks i p (omega arith) k ];
        same_length = opened.same_length ∙ o.same_length;
        later = opened.later (memory_needed t s) (omega (arith, row_end (ranks t s) (places t) rank rank_below)) ∙ o.later;
      }
        where
          queued' : queue' ≡ put_all label_ahead (map waiting (each (opening_at t s) (rank + 1))) []
          queued' = put ∙ ap (λ (b : BoardEntry). put_all label_ahead (waiting (entry b.minute rank (stations t + b.connection.0) nowhere) ∷ []) queue) first_is
              ∙ ap (put_all label_ahead (map waiting (opening_at t s rank))) o.queued
              ∙ sym (put_all_append label_ahead (map waiting (opening_at t s rank)) (map waiting (each (opening_at t s) rank)) [])
              ∙ ap (λ (k : ℕ). put_all label_ahead (map waiting (each (opening_at t s) k)) []) (sym (add-one rank))

  -- ---- the rows are open

  module _ {memory : List Label} {queue : List LabelEntry} {rank room : ℕ} (o : Opening t s before memory [] queue rank) (big : queue_needed t s ≤ room) where
    all_open : rank ≡ ranks t s
    all_open = omega (arith, o.below, ap length o.on_board, length-map (drop rank (firsts t s)) (board_entry t), length-drop rank (firsts t s))

    queue_is : queue ≡ put_all label_ahead (map waiting (opening t s)) []
    queue_is = o.queued ∙ ap (λ (k : ℕ). put_all label_ahead (map waiting (each (opening_at t s) k)) []) all_open

    begins : Begins (ways t s) (map seen queue)
    begins = subst (λ (q : List LabelEntry). Begins (ways t s) (map seen q)) (sym queue_is) (let b = opening_begins t law s in record {
      put = λ i p n f. mem-put label_ahead (entry n i p nowhere) (opening t s) [] (join_left [] (b.put i p n f));
      only = λ e m. b.only e (⊎_elim (λ k. k) (λ k. absurd (nobody k)) (join_parts (opening t s) [] (put-mem label_ahead e (opening t s) [] m)));
    })

    blank_cell : (i p : ℕ) → i < ranks t s → p < places t → cell t memory i p ≡ blank
    blank_cell i p h k = o.blanks i p (omega (arith, all_open)) k

    none_counted : labels_in t s memory ≤ ranks t s * (places t * 0)
    none_counted = grid_bound (λ i p. cond {A = ℕ} (is_blank (cell t memory i p)) 0 1) (ranks t s) (places t) 0
        (λ i p h k. omega (arith, ap (λ (l : Label). cond {A = ℕ} (is_blank l) 0 1) (blank_cell i p h k)))

    pub opened_turn : Turn t s room before memory queue 0
    opened_turn = record {
      done = [];
      state = start begins;
      holds = record { there = λ e m. absurd (nobody m); back = λ i p h k. inl (blank_cell i p h k) };
      count = omega (arith, none_counted);
      put = omega (arith, queue_length t s queue rank o.queued, all_open, each-count (opening_at t s) (ranks t s) (λ i. refl));
      fits = big;
      long = o.long;
      heads = λ i h. o.heads i (omega (arith, all_open));
      same_length = o.same_length;
      later = o.later;
    }

pub is_turn : OpeningIsTurn
is_turn t law s room before memory queue rank o big = opened_turn law o big

-- before the first row
pub opening_start : (t : Table) (s : ℕ) (memory : List Label) (board : List BoardEntry) (queue : List LabelEntry) → board ≡ map (board_entry t) (firsts t s) → queue ≡ [] → memory_needed t s ≤ length memory → Opening t s memory memory board queue 0
unfolding put_all
opening_start t s memory board queue b q l = record {
  below = omega arith;
  on_board = b;
  queued = q;
  long = l;
  heads = λ i h. absurd (omega arith);
  blanks = λ i p h. absurd (omega arith);
  same_length = refl;
  later = refl;
}
