-- A refusal in words, and the line that shows it.
use Rattle.std.specs.Prelude.{ℕ, List, ◌++◌, codes, decimal}
use Rattle.refusals.specs.declared.refusal.Refusal.{Refusal}
use Rattle.refusals.specs.declared.refusal.Refusal.TheVariants.{ShortHeader, WrongMark, UnknownVersion, HeaderLimit, WrongLength, LongTransfer, RecordLimit, SameStation, BrokenTrain, NoStation, NoConnection, FullQueue, ShortOutput, NoTrain, DelayLimit, FullNotices, NothingToLift, NoSource, SmallBoard, SmallLabelQueue, SmallLabelMemory, NoSearch, NoTarget, TargetIsSource, MinuteLimit, ShortRows, ForeignRows, Unreachable, ShortAnswer}
use Rattle.refusals.specs.Told.{told}

abbrev pub meaning : Refusal → List ℕ
meaning (ShortHeader n) = codes "an image shorter than its header"
meaning (WrongMark n) = codes "a mark byte that differs"
meaning (UnknownVersion n) = codes "a version that is not 1"
meaning (HeaderLimit n) = codes "a number of the header out of its limit"
meaning (WrongLength n) = codes "a length that the header does not ask for"
meaning (LongTransfer n) = codes "a transfer time above 1440 minutes"
meaning (RecordLimit n) = codes "a record with a field out of its limit"
meaning (SameStation n) = codes "a record that ends where it starts"
meaning (BrokenTrain n) = codes "a record whose train falls or does not go on where it ended"
meaning (NoStation n) = codes "no such station"
meaning (NoConnection n) = codes "no such connection"
meaning (FullQueue n) = codes "the queue is full"
meaning (ShortOutput n) = codes "an output too short for the image"
meaning (NoTrain n) = codes "no such train"
meaning (DelayLimit n) = codes "a delay of 0 or above 1440 minutes"
meaning (FullNotices n) = codes "32 notices stand and none is for this train"
meaning (NothingToLift n) = codes "no notice stands for this train"
meaning (NoSource n) = codes "a source that is no station"
meaning (SmallBoard n) = codes "a board queue too small for the first departures"
meaning (SmallLabelQueue n) = codes "a label queue too small for the search"
meaning (SmallLabelMemory n) = codes "a label memory too small for the rows"
meaning NoSearch = codes "no search stands"
meaning (NoTarget n) = codes "a target that is no station"
meaning (TargetIsSource n) = codes "a target that is the source"
meaning (MinuteLimit n) = codes "a minute not below the period"
meaning (ShortRows n) = codes "a label memory shorter than the rows"
meaning (ForeignRows n) = codes "rows that no search wrote"
meaning (Unreachable n) = codes "no row reaches the target"
meaning (ShortAnswer n) = codes "an output too short for the answer"

abbrev pub line : Refusal → List ℕ
line r = codes "refused " ++ (decimal (told r).number ++ (codes ", layer " ++ (decimal (told r).layer ++ (codes ", item " ++ (decimal (told r).item ++ (codes ": " ++ meaning r))))))
