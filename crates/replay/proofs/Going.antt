-- A run so far, and one step more.
use Rattle.std.proofs.Common.{◌≡◌, ℕ, ◌+◌, ◌<◌, List, [], ◌∷◌, ◌++◌, map, length, get_or, take, drop, set, sym, refl, ap, ◌∙◌, subst, arith}
use Rattle.std.proofs.lemmas.List.{map_push, take_more, take_more_set, drop-set-lt, drop-drop}
use Rattle.timetable.specs.Table.{Table}
use Rattle.law.specs.Book.{Book, fresh}
use Rattle.planner.specs.declared.planner.Planner.{Planner}
use Rattle.replay.specs.declared.order.Order.{Order}
use Rattle.replay.specs.declared.answer.Answer.{Answer}
use Rattle.replay.specs.Runs.{Lent, Rooms, room_in, Step, OrderLine, PlannerAgrees, Run, next}

-- the book after all steps
abbrev pub after_all : Book → List Step → Book
after_all b [] = b
after_all b (s ∷ rest) = after_all (next b s.ordered.call s.answered) rest

module _ (t : Table) (rooms : Rooms) where
  run_more : (b : Book) (p q q' : Lent) (steps : List Step) (o : Order) (x : Answer) → Run t rooms b p steps q → OrderLine t (room_in rooms o.queues) (after_all b steps) o x q q' → Run t rooms b p (steps ++ record { ordered = o; answered = x; before = q; after = q' } ∷ []) q'
  run_more b p q q' [] o x r l = (r, l, refl)
  run_more b p q q' (s ∷ steps) o x r l = (r.0, r.1, run_more (next b s.ordered.call s.answered) s.after q q' steps o x r.2 l)

book_more : (b : Book) (steps : List Step) (s : Step) → after_all b (steps ++ s ∷ []) ≡ next (after_all b steps) s.ordered.call s.answered
book_more b [] s = refl
book_more b (x ∷ steps) s = book_more (next b x.ordered.call x.answered) steps s

-- i calls are carried out, and the planner is q
pub record Going {T : Type 0} (t : Table) (rooms : Rooms) (orders : List Order) (answers : List Answer) (m : Lent) (answers' : List Answer) (i : ℕ) (q : Planner T) (n : Lent) : Type 0 where
  pub steps : List Step
  pub ordered : map (λ s. s.ordered) steps ≡ take i orders
  pub answered : map (λ s. s.answered) steps ≡ take i answers'
  pub later : drop i answers' ≡ drop i answers
  pub run : Run t rooms fresh m steps n
  pub agrees : PlannerAgrees t (after_all fresh steps) q n.memory

module _ {T : Type 0} (t : Table) (rooms : Rooms) (orders : List Order) (answers : List Answer) (m : Lent) where
  pub going_none : (q : Planner T) → PlannerAgrees t fresh q m.memory → Going t rooms orders answers m answers 0 q m
  going_none q a = record { steps = []; ordered = refl; answered = refl; later = refl; run = refl; agrees = a }

  pub going_more : (answers' : List Answer) (i : ℕ) (q q' : Planner T) (n n' : Lent) (d : Order) (x : Answer)
      → i < length orders → i < length answers'
      → Going t rooms orders answers m answers' i q n
      → ((b : Book) → PlannerAgrees t b q n.memory → OrderLine t (room_in rooms (get_or orders i d).queues) b (get_or orders i d) x n n' × PlannerAgrees t (next b (get_or orders i d).call x) q' n'.memory)
      → Going t rooms orders answers m (set answers' i x) (i + 1) q' n'
  going_more answers' i q q' n n' d x l k g law =
      let o = get_or orders i d in
      let h = law (after_all fresh g.steps) g.agrees in
      let s : Step = record { ordered = o; answered = x; before = n; after = n' } in
      record {
        steps = g.steps ++ s ∷ [];
        ordered = map_push (λ s. s.ordered) g.steps s ∙ (ap (λ os. os ++ o ∷ []) g.ordered ∙ sym (take_more orders i d l));
        answered = map_push (λ s. s.answered) g.steps s ∙ (ap (λ xs. xs ++ x ∷ []) g.answered ∙ sym (take_more_set answers' i x k));
        later = drop-set-lt (i + 1) answers' i x (omega arith) ∙ (sym (drop-drop 1 i answers') ∙ (ap (drop 1) g.later ∙ drop-drop 1 i answers));
        run = run_more t rooms fresh m n n' g.steps o x g.run h.0;
        agrees = subst (λ (b : Book). PlannerAgrees t b q' n'.memory) (sym (book_more fresh g.steps s)) h.1;
      }
