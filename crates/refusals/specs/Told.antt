-- What each refusal tells: its number, the layer that refuses (1 timetable, 2 notices, 3 planner, 4 queue)
-- and the item that it names.
use Rattle.std.specs.Prelude.{ℕ}
use Rattle.refusals.specs.declared.refusal.Refusal.{Refusal}
use Rattle.refusals.specs.declared.refusal.Refusal.TheVariants.{ShortHeader, WrongMark, UnknownVersion, HeaderLimit, WrongLength, LongTransfer, RecordLimit, SameStation, BrokenTrain, NoStation, NoConnection, FullQueue, ShortOutput, NoTrain, DelayLimit, FullNotices, NothingToLift, NoSource, SmallBoard, SmallLabelQueue, SmallLabelMemory, NoSearch, NoTarget, TargetIsSource, MinuteLimit, ShortRows, ForeignRows, Unreachable, ShortAnswer}

pub record Told : Type 0 where
  pub number : ℕ
  pub layer : ℕ
  pub item : ℕ

abbrev pub told : Refusal → Told
told (ShortHeader n) = record { number = 1; layer = 1; item = n }
told (WrongMark n) = record { number = 2; layer = 1; item = n }
told (UnknownVersion n) = record { number = 3; layer = 1; item = n }
told (HeaderLimit n) = record { number = 4; layer = 1; item = n }
told (WrongLength n) = record { number = 5; layer = 1; item = n }
told (LongTransfer n) = record { number = 6; layer = 1; item = n }
told (RecordLimit n) = record { number = 7; layer = 1; item = n }
told (SameStation n) = record { number = 8; layer = 1; item = n }
told (BrokenTrain n) = record { number = 9; layer = 1; item = n }
told (NoStation n) = record { number = 10; layer = 1; item = n }
told (NoConnection n) = record { number = 10; layer = 1; item = n }
told (FullQueue n) = record { number = 11; layer = 4; item = n }
told (ShortOutput n) = record { number = 12; layer = 1; item = n }
told (NoTrain n) = record { number = 21; layer = 2; item = n }
told (DelayLimit n) = record { number = 22; layer = 2; item = n }
told (FullNotices n) = record { number = 23; layer = 2; item = n }
told (NothingToLift n) = record { number = 24; layer = 2; item = n }
told (NoSource n) = record { number = 31; layer = 3; item = n }
told (SmallBoard n) = record { number = 32; layer = 3; item = n }
told (SmallLabelQueue n) = record { number = 33; layer = 3; item = n }
told (SmallLabelMemory n) = record { number = 34; layer = 3; item = n }
told NoSearch = record { number = 41; layer = 3; item = 0 }
told (NoTarget n) = record { number = 42; layer = 3; item = n }
told (TargetIsSource n) = record { number = 43; layer = 3; item = n }
told (MinuteLimit n) = record { number = 44; layer = 3; item = n }
told (ShortRows n) = record { number = 45; layer = 3; item = n }
told (ForeignRows n) = record { number = 46; layer = 3; item = n }
told (Unreachable n) = record { number = 47; layer = 3; item = n }
told (ShortAnswer n) = record { number = 48; layer = 3; item = n }
