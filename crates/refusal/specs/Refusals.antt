-- The number and the offset of a refusal.
use Rattle.std.specs.Prelude.{ℕ}
use Rattle.refusal.specs.declared.cases.Refusal.{Refusal}
use Rattle.refusal.specs.declared.cases.Refusal.TheVariants.{TextTooLong, MemoryUnfit, KeyOutside, WrongWidth, Full, BadAmount, JoinUnwritable, BadLimits, AlreadyStands, EightStand, StoreUnsuited, BadIdentity, LeavesTaken, NotStanding, BufferTooShort, SheetLength, OtherKind, FileLength, OtherSheet, LeafOutside, RootDiffers, TwoTexts, TextsShown}

abbrev pub number_of : Refusal → ℕ
number_of TextTooLong = 1
number_of MemoryUnfit = 2
number_of KeyOutside = 3
number_of WrongWidth = 4
number_of Full = 5
number_of (BadAmount at) = 6
number_of (JoinUnwritable at) = 7
number_of BadLimits = 8
number_of AlreadyStands = 9
number_of EightStand = 10
number_of StoreUnsuited = 11
number_of BadIdentity = 12
number_of LeavesTaken = 13
number_of NotStanding = 14
number_of BufferTooShort = 15
number_of SheetLength = 16
number_of OtherKind = 17
number_of FileLength = 18
number_of OtherSheet = 19
number_of LeafOutside = 20
number_of RootDiffers = 21
number_of TwoTexts = 22
number_of TextsShown = 23

abbrev pub offset_of : Refusal → ℕ
offset_of TextTooLong = 0
offset_of MemoryUnfit = 0
offset_of KeyOutside = 0
offset_of WrongWidth = 0
offset_of Full = 0
offset_of (BadAmount at) = at
offset_of (JoinUnwritable at) = at
offset_of BadLimits = 0
offset_of AlreadyStands = 0
offset_of EightStand = 0
offset_of StoreUnsuited = 0
offset_of BadIdentity = 0
offset_of LeavesTaken = 0
offset_of NotStanding = 0
offset_of BufferTooShort = 0
offset_of SheetLength = 0
offset_of OtherKind = 0
offset_of FileLength = 0
offset_of OtherSheet = 0
offset_of LeafOutside = 0
offset_of RootDiffers = 0
offset_of TwoTexts = 0
offset_of TextsShown = 0
