-- The entries of the label queue, and the entries of the search as mathematics.
use Rattle.entries.specs.declared.label.LabelEntry.{LabelEntry}
use Rattle.journeys.specs.Search.{Entry, entry}

abbrev pub seen : LabelEntry → Entry
seen x = entry x.minute x.rank.0 x.place.0 x.origin.0

abbrev pub waiting : Entry → LabelEntry
waiting e = record { minute = e.minute; rank = record { 0 = e.rank }; place = record { 0 = e.place }; origin = record { 0 = e.origin } }
