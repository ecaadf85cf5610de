-- Each refusal's number, and the place that it brings from 18 on.
use Rattle.std.specs.Prelude.{ℕ, Some, None, Option}
use Rattle.rules.specs.declared.refusal.Refusal.{Refusal}
use Rattle.rules.specs.declared.refusal.Refusal.TheVariants.{VendorCount, VendorCountFixed, TooManyTables, ColumnCount, FamilyTooHigh, PairCount, PairRule, ClearanceNoLabel, NoSuchTable, NoSuchVendor, NoSuchColumn, ValueCount, NotCleared, NoSuchRow, LotFull, NoSuchSlot, SlotEmpty, TextTooLong, NoToken, Unexpected, WrongName, NameTaken, OutsidePlan, ExpressionCount, WrittenInEach, LimitPassed, FlowNotAllowed, FigureTooHigh}

abbrev pub number : Refusal → ℕ
number VendorCount = 1
number VendorCountFixed = 2
number TooManyTables = 3
number ColumnCount = 4
number FamilyTooHigh = 5
number PairCount = 6
number PairRule = 7
number ClearanceNoLabel = 8
number NoSuchTable = 9
number NoSuchVendor = 10
number NoSuchColumn = 11
number ValueCount = 12
number NotCleared = 13
number NoSuchRow = 14
number LotFull = 15
number NoSuchSlot = 16
number SlotEmpty = 17
number (TextTooLong at) = 18
number (NoToken at) = 19
number (Unexpected at) = 20
number (WrongName at) = 21
number (NameTaken at) = 22
number (OutsidePlan at) = 23
number (ExpressionCount at) = 24
number (WrittenInEach at) = 25
number (LimitPassed at) = 26
number (FlowNotAllowed at) = 27
number (FigureTooHigh at) = 28

abbrev pub place : Refusal → Option ℕ
place VendorCount = None
place VendorCountFixed = None
place TooManyTables = None
place ColumnCount = None
place FamilyTooHigh = None
place PairCount = None
place PairRule = None
place ClearanceNoLabel = None
place NoSuchTable = None
place NoSuchVendor = None
place NoSuchColumn = None
place ValueCount = None
place NotCleared = None
place NoSuchRow = None
place LotFull = None
place NoSuchSlot = None
place SlotEmpty = None
place (TextTooLong at) = Some at
place (NoToken at) = Some at
place (Unexpected at) = Some at
place (WrongName at) = Some at
place (NameTaken at) = Some at
place (OutsidePlan at) = Some at
place (ExpressionCount at) = Some at
place (WrittenInEach at) = Some at
place (LimitPassed at) = Some at
place (FlowNotAllowed at) = Some at
place (FigureTooHigh at) = Some at
