-- The legs of a chain, taken from its target back.
use Rattle.std.specs.Prelude.{ℕ, ◌+◌, ◌-◌, Bool, true, false, cond, List, [], ◌∷◌, nat_lt}
use Rattle.timetable.specs.declared.leg.Leg.{Leg}
use Rattle.timetable.specs.Table.{Table, stations}
use Rattle.timetable.specs.Legs.{leg_of, boarded}
use Rattle.journeys.specs.Search.{Entry}

-- connection c, departing at minute n, in front of the legs: aboard the first of them, or as a leg of its own
abbrev pub taken : Table → Bool → ℕ → ℕ → List Leg → List Leg
taken t false c n gs = leg_of t c n ∷ gs
taken t true c n [] = leg_of t c n ∷ []
taken t true c n (g ∷ gs) = boarded t c n g ∷ gs

-- the legs of a chain in front of those taken so far; aboard: the entry before was a connection
abbrev pub back_legs : Table → List Entry → Bool → List Leg → List Leg
back_legs t [] aboard gs = gs
back_legs t (e ∷ es) aboard gs =
    cond (nat_lt e.place (stations t))
    (back_legs t es false gs)
    (back_legs t es true (taken t aboard (e.place - stations t) e.minute gs))

-- how many legs these add
abbrev pub count_back : Table → List Entry → Bool → ℕ
count_back t [] aboard = 0
count_back t (e ∷ es) aboard =
    cond (nat_lt e.place (stations t))
    (count_back t es false)
    (cond aboard 0 1 + count_back t es true)
